-- New registers, and sets of them to constants: they can be compared, and what they do.
use Rattle.std.proofs.Common.{◌≡◌, ◌<◌, ◌≤◌, ◌^◌, ℕ, suc, ◌+◌, pos, Bool, true, false, not, ◌&&◌, ◌||◌, nat_le, nat_lt, List, [], ◌∷◌, Some, refl, sym, ap, subst, ◌∙◌, arith}
use Rattle.std.proofs.lemmas.Bool.{and_from}
use Rattle.std.proofs.lemmas.Bool.Decides.{nat_tests}
use Rattle.std.specs.Prelude.{ℤ}
use Rattle.std.specs.Int.{cast_unsigned, w64}
use Rattle.bits64.specs.declared.Width.{Width}
use Rattle.rtx_tree.specs.Code.{class_of_code, is_place_class, is_value_class, is_constant_class, mode_bits}
use Rattle.rtx_tree.specs.declared.code.Code.TheVariants as code
use Rattle.rtx_tree.specs.declared.code.Mode.{Mode}
use Rattle.rtx_tree.specs.declared.code.Mode.TheVariants.{Void}
use Rattle.rtx_tree.specs.declared.tree.Rtx.{Rtx, out-Rtx, out-roll-Rtx}
use Rattle.rtx_tree.specs.Patterns.{set_rtx, is_pc, is_pc_code}
use Rattle.rtx_tree.specs.Registers.{pseudo}
use Rattle.rtx_tree.specs.Tree.{reg_of, const_of}
use Rattle.rtl_func.specs.Shapes.{has_mode, same_mode, is_register_number, is_operand, is_place, is_set_to, is_call_class, is_counter_class, is_jump_source_class, class_at, mode_at}
use Rattle.rtl_step.specs.Value.{width_of}
use Rattle.term_tree.specs.Tree as trees
use Rattle.term_tree.specs.Tree.{Tree}
use Rattle.term_mean.specs.Sums.{constant}
use Rattle.sym_state.specs.State.{Need}
use Rattle.sym_state.specs.Registers.{read, read_needs}
use Rattle.sym_diff.proofs.NumberLaws.{itself}
use Rattle.sym_insns.specs.Value.{Made, reading_step, made_of}
use Rattle.sym_insns.specs.Effects.{Effected, Sets, effects_of}
use Rattle.rtx_open.proofs.Expressions.{Written, node, none, rtx, gathers}
use Rattle.law_plain_states.proofs.Effects.{register, set_of, sets_register, made_is}
use Rattle.law_plain_equated.proofs.Wells.{IsWell, IsWellHere, well_tree}
use Rattle.law_plain_equated.proofs.ReadBack.{set_to, read_back, needs_back}

-- the first new register
abbrev pub fresh : Mode → ℕ → Rtx
fresh m next = reg_of m (pseudo next)

-- its number is one above this
abbrev pub below : ℕ → ℕ
below next = 63 + next

pub number_is : (next : ℕ) → pseudo next ≡ suc (below next)
number_is next = omega arith

pub fresh_is : (m : Mode) (next : ℕ) → fresh m next ≡ rtx (register m (below next))
fresh_is m next = ap (λ n. reg_of m n) (number_is next)

abbrev pub number : ℤ → Written
number z = node code.ConstInt Void z [] none

-- ---- what a constant is, and what the register is that was set to it

abbrev pub just : Tree → Made
just t = record { term = t; needs = [] }

pub constant_made : (z : ℤ) (w : Width) → made_of [] [] (const_of z) w ≡ just (constant w (cast_unsigned w64 z))
constant_made z w = made_is (number z) w

abbrev with_needs : List Need → Tree → Made
with_needs needs t = record { term = t; needs = needs }

abbrev with_term : Tree → List Need → Made
with_term t needs = record { term = t; needs = needs }

pub fresh_made : (m : Mode) (next : ℕ) (t : Tree) (w : Width) → trees.width_of t ≡ w → made_of (set_to (below next) t) [] (fresh m next) w ≡ just t
fresh_made m next t w wide =
    let regs = set_to (below next) t in
    ap (λ x. made_of regs [] x w) (fresh_is m next) ∙ (ap (λ r. r.made w) (gathers (reading_step regs []) (register m (below next))) ∙
    (ap (with_needs (read_needs regs (suc (below next)) w)) (read_back (below next) t w wide) ∙ ap (with_term t) (needs_back (below next) t w wide)))

pub first_sets : (m : Mode) (next : ℕ) (z : ℤ) (w : Width) → width_of m ≡ Some w →
    effects_of [] [] (set_rtx (fresh m next) (const_of z)) ≡ record { effect = Sets (suc (below next)) (constant w (cast_unsigned w64 z)); needs = [] } ∷ []
first_sets m next z w wide = ap (λ x. effects_of [] [] (set_rtx x (const_of z))) (fresh_is m next) ∙ sets_register m (below next) (number z) w wide

-- ---- they can be compared

registers : (next : ℕ) → next < 2 ^ 31 → is_register_number (pseudo next) ≡ true
registers next small = grind (arith, nat_tests, small)

natural : (next : ℕ) → next < 2 ^ 31 → nat_lt (pseudo next) (2 ^ 63) ≡ true
natural next small = grind (arith, nat_tests, small)

pub well_fresh : (m : Mode) (next : ℕ) → has_mode m ≡ true → next < 2 ^ 31 → IsWell (fresh m next)
well_fresh m next moded small =
    well_tree (record { code = code.Reg; mode = m; number = pos (pseudo next); name = [] }) []
    (record { plain = refl; bare = refl; fits = and_from (has_mode m) (is_register_number (pseudo next)) moded (registers next small); natural = natural next small; simple = refl }) tt

pub fresh_no_pc : (m : Mode) (next : ℕ) → is_pc (fresh m next) ≡ false
fresh_no_pc m next = ap (λ o. is_pc_code o.code) (out-roll-Rtx _)

pub same_itself : (m : Mode) → same_mode m m ≡ true
same_itself m = itself (mode_bits m)

pub fresh_operand : (m : Mode) (next : ℕ) → is_operand m (fresh m next) ≡ true
fresh_operand m next =
    ap (λ o. is_value_class (class_of_code o.code) && (is_constant_class (class_of_code o.code) || same_mode m o.mode)) (out-roll-Rtx _) ∙ same_itself m

pub or_first : (p q : Bool) → p ≡ true → (p || q) ≡ true
or_first true q is = refl
or_first false q is = cc

pub or_later : (p q : Bool) → q ≡ true → (p || q) ≡ true
or_later true q is = refl
or_later false q is = is

-- a constant is an operand of each mode
pub const_operand : (m : Mode) (z : ℤ) → is_operand m (const_of z) ≡ true
const_operand m z = ap (λ o. is_value_class (class_of_code o.code) && (is_constant_class (class_of_code o.code) || same_mode m o.mode)) (out-roll-Rtx _)

pub well_set : (place source : Rtx) → is_pc place ≡ false → is_place place ≡ true → is_operand (mode_at place) source ≡ true → IsWell place → IsWell source → IsWell (set_rtx place source)
well_set place source no_pc placed operand first second =
    well_tree (record { code = code.Set; mode = Void; number = pos 0; name = [] }) (place ∷ source ∷ [])
    (record {
      plain = ap (λ b. not (b || false)) no_pc;
      bare = refl;
      fits = or_first (is_place place && (is_operand (mode_at place) source || is_call_class (class_at source))) (is_counter_class (class_at place) && is_jump_source_class (class_at source))
          (and_from (is_place place) (is_operand (mode_at place) source || is_call_class (class_at source)) placed (or_first (is_operand (mode_at place) source) (is_call_class (class_at source)) operand));
      natural = refl;
      simple = refl;
    })
    (first, (second, tt))

pub well_fresh_set : (m : Mode) (next : ℕ) (source : Rtx) → has_mode m ≡ true → next < 2 ^ 31 → is_operand m source ≡ true → IsWell source → IsWell (set_rtx (fresh m next) source)
well_fresh_set m next source moded small operand well =
    let placed : is_place (fresh m next) ≡ true = ap (λ o. is_place_class (class_of_code o.code)) (out-roll-Rtx _) in
    let mode : mode_at (fresh m next) ≡ m = ap (λ o. o.mode) (out-roll-Rtx _) in
    well_set (fresh m next) source (fresh_no_pc m next) placed (ap (λ n. is_operand n source) mode ∙ operand) (well_fresh m next moded small) well
