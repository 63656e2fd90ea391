-- Two lines, of which the second computes on what the first has set, and sets it again.
use Rattle.std.proofs.Common.{◌≡◌, ℕ, suc, ◌==◌, nat_lt, true, false, if◌then◌else◌, List, [], ◌∷◌, ◌++◌, Some, None, refl, ◌∙◌, ap, arith}
use Rattle.std.proofs.lemmas.Bool.Decides.{nat_tests}
use Rattle.std.specs.Prelude.{ℤ}
use Rattle.std.specs.Int.{cast_unsigned, w64}
use Rattle.bits64.specs.declared.Width.{Width}
use Rattle.bits64.specs.declared.Width.TheVariants.{W8, W64}
use Rattle.bits64.specs.declared.operator.Operator.{Operator}
use Rattle.rv_text.specs.Lines.{action_of}
use Rattle.rv_text.specs.declared.line.Line.{Line}
use Rattle.rv_text.specs.declared.action.Action.TheVariants.{Compute}
use Rattle.rv_text.specs.declared.action.Source.TheVariants.{First, Immediate, Constant}
use Rattle.term_tree.specs.Tree.{Tree, width_of}
use Rattle.term_tree.specs.Form.{narrower}
use Rattle.term_mean.specs.Sums.{constant}
use Rattle.term_mean.specs.Compared.{low_bits}
use Rattle.sym_state.specs.State.{State, Changed, Need, NeedAt, Lost, Runs, start, is_within, needs_at, own_register, ran}
use Rattle.sym_state.specs.Registers.{changed, read, read_needs, term_held, need_of, put, placed}
use Rattle.sym_lines.specs.Run as lines
use Rattle.sym_lines.specs.Compute.{computed}
use Rattle.sym_diff.proofs.NumberLaws.{itself}
use Rattle.law_plain_terms.proofs.Back.{low_same}
use Rattle.law_plain_states.specs.Frames.{sets}
use Rattle.law_plain_states.proofs.Rows.{small_state}
use Rattle.law_plain_states.proofs.OneLine.{Row, Sets, lines_equated}
use Rattle.rtx_open.proofs.Expressions.{Written}
use Rattle.rtx_tree.specs.declared.code.Mode.{Mode}
use Rattle.rtx_tree.specs.declared.function.Insn.{Insn}
use Rattle.equate.specs.Side.{Lines}
use Rattle.equate.specs.Equated.{Equated}
use Rattle.law_plain_terms.specs.Rows.{IsSmall}

-- ---- what was set is read, needs nothing more, and is set again

below_itself : (n : ℕ) → nat_lt n n ≡ false
below_itself n = grind (arith, nat_tests)

abbrev set_to : ℕ → Tree → List Changed
set_to n u = changed (suc n) (Some u) ∷ []

read_back : (n : ℕ) (u : Tree) → width_of u ≡ W64 → read (set_to n u) (suc n) W64 ≡ u
read_back n u wide =
    ap (λ b. term_held (if b then Some (Some u) else None) (suc n) W64) (itself (suc n)) ∙
    (ap (λ v. if narrower v W64 then low_bits W64 (own_register (suc n)) else low_bits W64 u) wide ∙ low_same W64 u wide)

needs_back : (n : ℕ) (u : Tree) → width_of u ≡ W64 → read_needs (set_to n u) (suc n) W8 ≡ []
needs_back n u wide =
    ap (λ b. need_of (if b then Some (Some u) else None) (suc n) W8) (itself (suc n)) ∙ ap (λ v. if narrower v W8 then Lost (suc n) W8 ∷ [] else []) wide

put_back : (n : ℕ) (u v : Tree) → put (set_to n u) (suc n) (Some v) ≡ set_to n v
put_back n u v =
    ap (λ b. if b then changed (suc n) (Some u) ∷ placed [] (suc n) (Some v) else (if (suc n) == (suc n) then changed (suc n) (Some v) ∷ [] else changed (suc n) (Some v) ∷ set_to n u)) (below_itself (suc n)) ∙
    ap (λ b. if b then changed (suc n) (Some v) ∷ [] else changed (suc n) (Some v) ∷ set_to n u) (itself (suc n))

bare_end : (xs : List NeedAt) → xs ++ [] ≡ xs
bare_end [] = refl
bare_end (x ∷ xs) = ap (λ ys. x ∷ ys) (bare_end xs)

-- ---- the second line

-- behind a state that has registers and needs: a register set to what is computed of a read term
abbrev behind : ℕ → List Changed → List NeedAt → Tree → List Need → State
behind d regs needs v more = record start { regs = put regs d (Some v); needs = needs ++ needs_at 1 more }

set_again : (n : ℕ) (u v : Tree) (needs : List NeedAt) → behind (suc n) (set_to n u) needs v [] ≡ sets (suc n) v needs
set_again n u v needs = ap (λ regs. record start { regs = regs; needs = needs ++ [] }) (put_back n u v) ∙ ap (λ ns. sets (suc n) v ns) (bare_end needs)

module _ (op : Operator) (v : Width) (number : ℕ) (l : Line) (n : ℕ) (u : Tree) (needs : List NeedAt) (wide : width_of u ≡ W64) (rd : l.rd ≡ suc n) (rs : l.rs ≡ suc n) where
  -- what it reads
  abbrev first : List Changed
  first = set_to n u

  -- with an immediate
  abbrev with : ℕ → ℕ → ℤ → State
  with d s k = behind d first needs (computed op v (read first s W64) (constant W64 (cast_unsigned w64 k))) (read_needs first s W8 ++ [])

  with_read : (k : ℤ) → with (suc n) (suc n) k ≡ sets (suc n) (computed op v u (constant W64 (cast_unsigned w64 k))) needs
  with_read k =
      ap (λ x. behind (suc n) first needs (computed op v x (constant W64 (cast_unsigned w64 k))) (read_needs first (suc n) W8 ++ [])) (read_back n u wide) ∙
      (ap (λ ns. behind (suc n) first needs (computed op v u (constant W64 (cast_unsigned w64 k))) (ns ++ [])) (needs_back n u wide) ∙ set_again n u (computed op v u (constant W64 (cast_unsigned w64 k))) needs)

  pub second_immediate : (k : ℤ) → action_of l ≡ Some (Compute op v First Immediate) → l.imm ≡ k →
      lines.after number 1 l (sets (suc n) u needs) ≡ sets (suc n) (computed op v u (constant W64 (cast_unsigned w64 k))) needs
  second_immediate k does imm =
      ap (λ o. lines.act_as o number 1 l (sets (suc n) u needs)) does ∙ (ap (λ d. with d l.rs l.imm) rd ∙ (ap (λ s. with (suc n) s l.imm) rs ∙ (ap (λ c. with (suc n) (suc n) c) imm ∙ with_read k)))

  -- with a constant of the mnemonic on the right, and on the left
  abbrev fixed : ℤ → ℕ → ℕ → State
  fixed k d s = behind d first needs (computed op v (read first s W64) (constant W64 (cast_unsigned w64 k))) (read_needs first s W8 ++ [])

  pub second_fixed : (k : ℤ) → action_of l ≡ Some (Compute op v First (Constant k)) →
      lines.after number 1 l (sets (suc n) u needs) ≡ sets (suc n) (computed op v u (constant W64 (cast_unsigned w64 k))) needs
  second_fixed k does =
      ap (λ o. lines.act_as o number 1 l (sets (suc n) u needs)) does ∙ (ap (λ d. fixed k d l.rs) rd ∙ (ap (λ s. fixed k (suc n) s) rs ∙
      (ap (λ x. behind (suc n) first needs (computed op v x (constant W64 (cast_unsigned w64 k))) (read_needs first (suc n) W8 ++ [])) (read_back n u wide) ∙
      (ap (λ ns. behind (suc n) first needs (computed op v u (constant W64 (cast_unsigned w64 k))) (ns ++ [])) (needs_back n u wide) ∙ set_again n u (computed op v u (constant W64 (cast_unsigned w64 k))) needs))))

  abbrev from : ℤ → ℕ → ℕ → State
  from k d s = behind d first needs (computed op v (constant W64 (cast_unsigned w64 k)) (read first s W64)) (read_needs first s W8)

  pub second_from : (k : ℤ) → action_of l ≡ Some (Compute op v (Constant k) First) →
      lines.after number 1 l (sets (suc n) u needs) ≡ sets (suc n) (computed op v (constant W64 (cast_unsigned w64 k)) u) needs
  second_from k does =
      ap (λ o. lines.act_as o number 1 l (sets (suc n) u needs)) does ∙ (ap (λ d. from k d l.rs) rd ∙ (ap (λ s. from k (suc n) s) rs ∙
      (ap (λ x. behind (suc n) first needs (computed op v (constant W64 (cast_unsigned w64 k)) x) (read_needs first (suc n) W8)) (read_back n u wide) ∙
      (ap (λ ns. behind (suc n) first needs (computed op v (constant W64 (cast_unsigned w64 k)) u) ns) (needs_back n u wide) ∙ set_again n u (computed op v (constant W64 (cast_unsigned w64 k)) u) needs))))

-- ---- both lines

pub two_run : (number : ℕ) (l m : Line) (a b : State) → lines.fits_action (action_of l) (m ∷ []) ≡ true → lines.fits_action (action_of m) [] ≡ true →
    lines.after number 0 l start ≡ a → lines.after number 1 m a ≡ b → is_within a ≡ true → is_within b ≡ true → lines.run number (l ∷ m ∷ []) ≡ Runs b
two_run number l m a b first second is_a is_b small_a small_b =
    ap (λ x. ran (if x then (if lines.fits_action (action_of m) [] then None else Some 1) else Some 0) (lines.run_from number 0 (l ∷ m ∷ []) start)) first ∙
    (ap (λ x. ran (if x then None else Some 1) (lines.run_from number 0 (l ∷ m ∷ []) start)) second ∙
    (ap (λ s. ran None (if is_within s then (let t = lines.after number 1 m s in if is_within t then Some t else None) else None)) is_a ∙
    (ap (λ x. ran None (if x then (let t = lines.after number 1 m a in if is_within t then Some t else None) else None)) small_a ∙
    (ap (λ t. ran None (if is_within t then Some t else None)) is_b ∙ ap (λ x. ran None (if x then Some b else None)) small_b))))

-- ---- a row whose text has two lines

pub pair_equated : {P : Type 0} (m : Mode) (w : Width) (x : P → Written) (t u : P → Tree) (had asked : P → List Need) → Row m w x t u had asked →
    (number : ℕ) (live : List ℕ) (i : Insn) (l k : Line) (n : ℕ) (p : P) (first : Tree) → Sets i m n (x p) → lines.fits_action (action_of l) (k ∷ []) ≡ true → lines.fits_action (action_of k) [] ≡ true →
    lines.after number 0 l start ≡ sets (suc n) first (needs_at 0 (asked p)) → lines.after number 1 k (sets (suc n) first (needs_at 0 (asked p))) ≡ sets (suc n) (u p) (needs_at 0 (asked p)) →
    IsSmall first → Equated (i ∷ []) (Lines number (l ∷ k ∷ [])) live
pair_equated m w x t u had asked row number live i l k n p first s fits_one fits_two one two small =
    lines_equated m w x t u had asked row number live i (l ∷ k ∷ []) n p s
    (two_run number l k (sets (suc n) first (needs_at 0 (asked p))) (sets (suc n) (u p) (needs_at 0 (asked p))) fits_one fits_two one two
    (small_state (suc n) first (needs_at 0 (asked p)) small (row.small_asked p)) (small_state (suc n) (u p) (needs_at 0 (asked p)) (row.line_small p) (row.small_asked p)))
