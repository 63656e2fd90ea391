-- What a predicate comes to, where its definition is asked for.
use Rattle.std.proofs.Common.{◌≡◌, ℕ, zero, suc, ◌-◌, List, Option, None, refl, arith}
use Rattle.rtx_tree.specs.declared.code.Mode.{Mode}
use Rattle.rtx_tree.specs.declared.tree.Rtx.{Rtx}
use Rattle.md_operand.specs.Operand.{built_in_named}
use Rattle.md_pred.specs.declared.definitions.Definition.{Definition}
use Rattle.md_pred.specs.declared.definitions.Definitions.{Definitions}
use Rattle.md_pred.specs.Holds.{within}
use Rattle.md_pred.specs.machine.Table.{definition_in, kept, kept_holds}

pub asked_again : (ds : Definitions) (rounds : ℕ) (name : List ℕ) (x : Rtx) (m : Mode) (d : Option Definition) → built_in_named name ≡ None → (rounds ≡ 0 → ⊥) → d ≡ definition_in ds name
    → kept_holds (within (kept ds) (rounds - 1)) x m ds.rows d ≡ within (kept ds) rounds name x m
asked_again ds zero name x m d none some is = absurd (some refl)
asked_again ds (suc rounds) name x m d none some is =
    let same : suc rounds - 1 ≡ rounds = omega arith in
    rw none (rw is (rw same refl))

pub asked_once_more : (ds : Definitions) (rounds : ℕ) (name : List ℕ) (x : Rtx) (m : Mode) (d : Option Definition) → built_in_named name ≡ None → d ≡ definition_in ds name
    → within (kept ds) (suc rounds) name x m ≡ kept_holds (within (kept ds) rounds) x m ds.rows d
asked_once_more ds rounds name x m d none is = rw none (rw is refl)
