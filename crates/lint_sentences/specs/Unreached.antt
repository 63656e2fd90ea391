-- Why no instance of an alternative is reached, in words.
use Rattle.std.specs.Prelude.{ℕ, ℤ, List, ◌++◌, codes}
use Rattle.std.specs.Fmt.{signed_decimal}
use Rattle.rtx_tree.specs.declared.code.Mode.{Mode}
use Rattle.rtx_tree.specs.Code.{mode_name}

abbrev pub predicate_text : List ℕ → Mode → List ℕ
predicate_text predicate mode =
    codes " is taken by its predicate \"" ++ (predicate ++ (codes "\" in mode " ++ (mode_name mode ++ codes " and its constraint")))

-- an operand has no candidate that its predicate, in its mode, and its constraint take
abbrev pub without_text : ℤ → List ℕ → Mode → List ℕ
without_text number predicate mode =
    codes "nothing that was tried in the place of operand " ++ (signed_decimal number ++ predicate_text predicate mode)

-- another form or alternative takes it
abbrev pub takes_text : List ℕ → List ℕ → List ℕ
takes_text what name = what ++ (codes " " ++ (name ++ codes " takes what it takes"))
