use Rattle.std.proofs.Common.{rules, ◌≡◌, [], ◌∷◌, ◌++◌}
use Rattle.case_setting.proofs.Shelves.{keeps}
use Rattle.case_setting.proofs.shelf.Shelf.put.Goals as goal

-- src/shelf.rt:33:13
pub invariant_of-self-then-not-is_among : goal.invariant_of-self-then-not-is_among
invariant_of-self-then-not-is_among c =
    let e : c.push.new.self ≡ c.args.self.now.names ++ c.args.name.now ∷ [] = search rules in
    record { others = keeps c.put_file.result c.args.self.now.names c.push.new.self c.args.name.now c.args.bytes.now c.args.self.now.files c.put_file.new.self e c.args.self.now.others c.put_file.ensures.ok c.put_file.ensures.err }
