use Rattle.std.proofs.Common.{◌≡◌, ℕ, ◌*◌, ◌-◌, ◌^◌, ◌<◌, ◌≤◌, length, arith, rules, refl, subst}
use Rattle.reg_rows.specs.Table.{total}
use Rattle.reg_rows.proofs.TableLaws.{total-le}
use Rattle.live_rows.proofs.PathLaws.{has_from_path}
use Rattle.live_rows.proofs.WaitLaws.{IsClosed-none}
use Rattle.live_rows.proofs.solve.solve.Goals as goal

pub rounds-smaller : goal.rounds-smaller
rounds-smaller c =
    let r = c.if-not-round.ensures in
    let bound = length c.args.nodes.now * (length c.args.set.now * (2 ^ 64 - 1)) in
    let long : length c.round.new.rows ≡ length c.args.nodes.now = omega arith in
    let now : total c.round.new.rows ≤ bound = subst (λ (n : ℕ). total c.round.new.rows ≤ n * (length c.args.set.now * (2 ^ 64 - 1))) long (total-le (length c.args.set.now) c.round.new.rows (search rules)) in
    let grown : total c.rounds.rows < total c.round.new.rows = r.grown refl in
    omega arith

pub returns-then-not-round : goal.returns-then-not-round
returns-then-not-round c =
    let r = c.if-not-round.ensures in
    record {
      live = record {
        long = omega arith;
        sound = r.sound;
        complete = λ p reg path. has_from_path c.args.nodes.now c.round.new.rows r.uses (IsClosed-none c.args.nodes.now c.round.new.rows c.round.new.next (r.none refl) r.pending) reg p path;
      };
      table = search rules;
    }
