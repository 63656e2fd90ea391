-- What comes to output is no longer than a function may become.
use Rattle.std.proofs.Common.{List, ◌∷◌, drop, Ok, refl}
use Rattle.rtx_tree.specs.declared.function.Function.{Function}
use Rattle.pass_name.specs.declared.pass.Pass.{Pass}
use Rattle.pass_name.specs.declared.road.Road.{Road}
use Rattle.pass_name.specs.declared.road.Road.TheVariants.{Usual, Reusing, Scheduled}
use Rattle.pass_name.specs.Road.{passes_of}
use Rattle.pass_name.specs.declared.pass.Pass.TheVariants.{Read}
use Rattle.md_forms.specs.declared.form.Entry.{Entry}
use Rattle.func_after.specs.declared.compilation.Compilation.{Compilation}
use Rattle.func_after.specs.After.{as_read, IsShort, PassesCome, AfterComes}
use Rattle.func_after.proofs.Changes.{short_of}
use Rattle.func_after.proofs.Passing.{PassHolds, all_hold, every, next_of}

abbrev KeptShort : Compilation → Compilation → Type 0
KeptShort m n = IsShort m → IsShort n

-- what one pass or more made
some_short : (forms : List Entry) (pass : Pass) (others : List Pass) (m last : Compilation) → PassesCome forms (pass ∷ others) m (Ok last) → IsShort last
some_short forms pass others m last comes =
    let first = next_of forms pass others m last comes in
    all_hold forms KeptShort (λ m short. short) (λ l m n first second short. second (first short)) others first.next last (Ok last) refl
    (every (PassHolds forms KeptShort) (λ pass m n comes short. short_of forms m n pass (Ok n) refl comes) others) first.rest
    (short_of forms m first.next pass (Ok first.next) refl first.comes)

pub after_short : (forms : List Entry) (road : Road) (f : Function) (m : Compilation) → AfterComes forms road f (Ok m) → IsShort m
after_short forms Usual f m comes = some_short forms Read (drop 1 (passes_of Usual)) (as_read f) m comes
after_short forms Reusing f m comes = some_short forms Read (drop 1 (passes_of Reusing)) (as_read f) m comes
after_short forms Scheduled f m comes = some_short forms Read (drop 1 (passes_of Scheduled)) (as_read f) m comes
