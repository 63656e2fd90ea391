use Rattle.std.proofs.Common.{◌≡◌, sym, subst, map, OnOk}
use Rattle.term_sums.specs.machine.Places.{IsPartFound, IsPartMissing}
use Rattle.term_tree.specs.View.{tree_of}
use Rattle.term_sums.proofs.PartLaws.{with_part-found, with_part-missing}
use Rattle.term_sums.proofs.joints.put_part.Goals as goal

pub returns-in-Ok : goal.returns-in-Ok
returns-in-Ok c =
    let items = c.args.parts.now.items in
    let t = tree_of c.args.t in
    let found : IsPartFound t (map tree_of items) c.in-Ok.place = subst (λ xs. IsPartFound t (map tree_of xs) c.in-Ok.place) c.deref.ensures.value c.in-Ok.ensures.found in
    subst (λ xs. OnOk c.meet.result (map tree_of c.meet.new.parts.items ≡ xs)) (sym (with_part-found c.args.o t (map tree_of items) c.in-Ok.place found)) c.meet.ensures

pub returns-in-Err : goal.returns-in-Err
returns-in-Err c =
    let items = c.args.parts.now.items in
    let t = tree_of c.args.t in
    let missing : IsPartMissing t (map tree_of items) c.in-Err.place = subst (λ xs. IsPartMissing t (map tree_of xs) c.in-Err.place) c.deref.ensures.value c.in-Err.ensures.missing in
    subst (λ xs. OnOk c.put_at.result (map tree_of c.put_at.new.parts.items ≡ xs)) (sym (with_part-missing c.args.o t (map tree_of items) c.in-Err.place missing)) c.put_at.ensures
