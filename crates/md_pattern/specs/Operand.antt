-- The words of a pattern's operands: GCC Internals, "RTL Template".
use Rattle.std.specs.Prelude.{ℕ, List, [], ◌∷◌, Option, Some, None, option_map, option_and_then}
use Rattle.lisp_read.specs.declared.tree.Tree.{Tree}
use Rattle.lisp_read.specs.Shape.{atom_of, string_of}
use Rattle.md_pattern.specs.declared.operand.Operand.{Operand}
use Rattle.md_pattern.specs.Word.{operand_number}

abbrev pub number_in : Tree → Option ℕ
number_in t = option_and_then operand_number (atom_of t)

abbrev pub operand_with : ℕ → List ℕ → Operand
operand_with k predicate = record { number = k; predicate = predicate; texts = [] }

abbrev pub constrained : Operand → List ℕ → Operand
constrained o text = record { number = o.number; predicate = o.predicate; texts = record { operand = o.number; text = text } ∷ [] }

-- NUMBER
abbrev pub numbered : Tree → Option Operand
numbered n = option_map (λ k. operand_with k []) (number_in n)

-- NUMBER "PREDICATE"
abbrev pub predicated : Tree → Tree → Option Operand
predicated n p = option_and_then (λ k. option_map (operand_with k) (string_of p)) (number_in n)

-- NUMBER "PREDICATE" "CONSTRAINT"
abbrev pub with_constraint : Option Operand → Tree → Option Operand
with_constraint o c = option_and_then (λ x. option_map (constrained x) (string_of c)) o

-- NUMBER "PREDICATE" "CONSTRAINT", where the constraint may lack
abbrev pub operand_in : List Tree → Option Operand
operand_in (n ∷ p ∷ []) = predicated n p
operand_in (n ∷ p ∷ c ∷ []) = with_constraint (predicated n p) c
operand_in _ = None

-- NUMBER "CONSTRAINT", where the constraint may lack
abbrev pub scratch_in : List Tree → Option Operand
scratch_in (n ∷ []) = numbered n
scratch_in (n ∷ c ∷ []) = with_constraint (numbered n) c
scratch_in _ = None

-- NUMBER
abbrev pub dup_in : List Tree → Option Operand
dup_in (n ∷ []) = numbered n
dup_in _ = None
