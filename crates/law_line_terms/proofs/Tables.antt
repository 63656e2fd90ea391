-- Lines of the table: rd is one of 32 registers.
use Rattle.std.proofs.Common.{◌≡◌, ℕ, zero, suc, ◌<◌, Bool, true, false, List, [], ◌∷◌, length, Option, Some, None, refl, subst, arith}
use Rattle.std.specs.Prelude.{if◌then◌else◌, is_some, option_and_then, slice_get, bytes_eq, nat_eq}
use Rattle.std.proofs.lemmas.Bool.Decides.{nat_tests}
use Rattle.rtx_tree.specs.Registers.{reg_names}
use Rattle.rv_text.specs.Lines.{bare, put, filled, has_all, same_line, is_of_row, action_of, register_text}
use Rattle.rv_text.specs.Table.{Row, row_named}
use Rattle.rv_text.specs.declared.action.Action.{Action}
use Rattle.rv_text.specs.declared.line.Line.{Line}
use Rattle.rv_text.specs.declared.operand.Operand.{Operand}
use Rattle.rv_text.specs.declared.operand.Operand.TheVariants.{Rd, Rs, Rt, Number, Place, Target, Ra}
use Rattle.rv_text.proofs.Numbers.{and_true}

there : {A : Type 0} (xs : List A) (k : ℕ) → is_some (slice_get xs k) ≡ true → k < length xs
there [] k is = absurd (let no : ⊥ = cc in no)
there (x ∷ xs) zero is = omega arith
there (x ∷ xs) (suc k) is = omega (arith, there xs k is)

-- what a line is filled with has rd from one of the two
filled_within : (operands : List Operand) (from l : Line) → has_all operands from ≡ true → l.rd < 32 → (filled operands from l).rd < 32
filled_within [] from l has within = within
filled_within (Rd ∷ operands) from l has within =
    let parts = and_true (is_some (register_text from.rd)) (has_all operands from) has in
    filled_within operands from (put Rd from l) parts.1 (there reg_names from.rd parts.0)
filled_within (Rs ∷ operands) from l has within = filled_within operands from (put Rs from l) (and_true _ (has_all operands from) has).1 within
filled_within (Rt ∷ operands) from l has within = filled_within operands from (put Rt from l) (and_true _ (has_all operands from) has).1 within
filled_within (Number least most ∷ operands) from l has within = filled_within operands from (put (Number least most) from l) (and_true _ (has_all operands from) has).1 within
filled_within (Place least most ∷ operands) from l has within = filled_within operands from (put (Place least most) from l) (and_true _ (has_all operands from) has).1 within
filled_within (Target ∷ operands) from l has within = filled_within operands from (put Target from l) (and_true _ (has_all operands from) has).1 within
filled_within (Ra ∷ operands) from l has within = filled_within operands from (put Ra from l) has within

same_rd : (a b : Line) → same_line a b ≡ true → a.rd ≡ b.rd
same_rd a b is =
    let later = and_true (bytes_eq a.name b.name) _ is in
    let rd = and_true (nat_eq a.rd b.rd) _ later.1 in
    grind (arith, nat_tests, rd.0)

row_within : (row : Row) (l : Line) → is_of_row row l ≡ true → l.rd < 32
row_within row l is =
    let parts = and_true (has_all row.operands l) (same_line (filled row.operands l (bare l.name)) l) is in
    subst (λ n. n < 32) (same_rd (filled row.operands l (bare l.name)) l parts.1)
    (filled_within row.operands l (bare l.name) parts.0 (omega arith))

-- a line that does something is one of a row
row_of_line : (l : Line) (a : Action) → action_of l ≡ Some a → (row : Row) × (row_named l.name ≡ Some row) × (is_of_row row l ≡ true) × (row.action ≡ a)
row_of_line l a is = by (row_named l.name) refl is
  where
    of_row : (row : Row) (b : Bool) → is_of_row row l ≡ b → (if b then Some row.action else None) ≡ Some a → (is_of_row row l ≡ true) × (row.action ≡ a)
    of_row row true e is = (e, let same : row.action ≡ a = cc in same)
    of_row row false e is = absurd (let no : ⊥ = cc in no)

    by : (o : Option Row) → row_named l.name ≡ o → option_and_then (λ row. if is_of_row row l then Some row.action else None) o ≡ Some a →
        (row : Row) × (row_named l.name ≡ Some row) × (is_of_row row l ≡ true) × (row.action ≡ a)
    by None named is = absurd (let no : ⊥ = cc in no)
    by (Some row) named is = let does = of_row row (is_of_row row l) refl is in (row, named, does.0, does.1)

-- rd of a line that does something
pub rd_within : (l : Line) (a : Action) → action_of l ≡ Some a → l.rd < 32
rd_within l a is = let row = row_of_line l a is in row_within row.0 l row.2
