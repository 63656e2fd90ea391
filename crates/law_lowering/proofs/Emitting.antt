-- What is asked of a sequence that a form emits, of each of its patterns.
use Rattle.std.proofs.Common.{◌≡◌, true, List, [], ◌∷◌, refl}
use Rattle.std.specs.List.{AllByRecursion}
use Rattle.std.proofs.lemmas.Bool.{and_parts, and_from}
use Rattle.rtx_tree.specs.declared.tree.Rtx.{Rtx}
use Rattle.rtl_func.specs.Calls.{has_argument, argument_registers}
use Rattle.rtl_func.proofs.AllPass.{all_pass}
use Rattle.law_insn_replaced.specs.md_emit.Emitted.{keeps_to_arguments}

-- a pattern keeps to the rule of argument registers
abbrev pub KeepsArguments : Rtx → Type 0
KeepsArguments x = all_pass has_argument x ≡ true

pub in_patterns : (xs : List Rtx) → keeps_to_arguments xs ≡ true → AllByRecursion KeepsArguments xs
in_patterns [] kept = tt
in_patterns (x ∷ xs) kept =
    let both = and_parts (argument_registers x []) (keeps_to_arguments xs) kept in
    ((and_parts (all_pass has_argument x) true both.0).0, in_patterns xs both.1)

pub of_patterns : (xs : List Rtx) → AllByRecursion KeepsArguments xs → keeps_to_arguments xs ≡ true
of_patterns [] keep = refl
of_patterns (x ∷ xs) keep =
    and_from (argument_registers x []) (keeps_to_arguments xs) (and_from (all_pass has_argument x) true keep.0 refl) (of_patterns xs keep.1)
