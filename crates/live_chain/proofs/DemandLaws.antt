-- Demands that are seen to be alike in each register but some.
use Rattle.std.proofs.Common.{◌≡◌, ℕ, Bool, true, false, ◌||◌, ◌&&◌, not, List, [], ◌∷◌, ◌++◌, eqb, refl, sym, ap, subst, ◌∙◌}
use Rattle.std.proofs.lemmas.Bool.{false≢true, eqb-true}
use Rattle.std.proofs.lemmas.List.Folds.{list_any-append}
use Rattle.std.proofs.Math.Bool.{or-false}
use Rattle.rtx_tree.specs.declared.function.Insn.{Insn}
use Rattle.rtx_tree.specs.RegSet.{has_reg}
use Rattle.live_chain.specs.declared.demand.Demand.{Demand}
use Rattle.live_chain.specs.machine.Demand.{IsDemandOf, AreLikeLists}
use Rattle.live_chain.specs.machine.Window.{IsAlike}

left_none : (a b : Bool) → (a || b) ≡ false → a ≡ false
left_none true b e = absurd (false≢true (sym e))
left_none false b e = refl

right_none : (a b : Bool) → (a || b) ≡ false → b ≡ false
right_none true b e = absurd (false≢true (sym e))
right_none false b e = e

same_by : (a b : Bool) → (a && not b) ≡ false → (b && not a) ≡ false → a ≡ b
same_by true true e f = refl
same_by true false e f = absurd (false≢true (sym e))
same_by false true e f = absurd (false≢true (sym f))
same_by false false e f = refl

same_live : (a b asks live : Bool) → asks ≡ false → live ≡ true → (a && (live && (not asks && not b))) ≡ false → (b && (live && (not asks && not a))) ≡ false → a ≡ b
same_live true true asks live none is e f = refl
same_live false false asks live none is e f = refl
same_live true false false true none is e f = absurd (false≢true (sym e))
same_live false true false true none is e f = absurd (false≢true (sym f))
same_live a b true live none is e f = absurd (false≢true (sym none))
same_live a b asks false none is e f = absurd (false≢true is)

-- what none of four lists took up is alike
pub lists_alike : (old new : Demand) (behind : ℕ → Bool) (reg : ℕ) (none one two three four : Bool) → none ≡ false →
    one ≡ (none || (has_reg old.asks reg && not (has_reg new.asks reg))) →
    two ≡ (one || (has_reg new.asks reg && not (has_reg old.asks reg))) →
    three ≡ (two || (has_reg old.defines reg && (behind reg && (not (has_reg old.asks reg) && not (has_reg new.defines reg))))) →
    four ≡ (three || (has_reg new.defines reg && (behind reg && (not (has_reg old.asks reg) && not (has_reg old.defines reg))))) →
    four ≡ false → AreLikeLists old new behind reg
lists_alike old new behind reg none one two three four empty is_one is_two is_three is_four out =
    let last : (three || (has_reg new.defines reg && (behind reg && (not (has_reg old.asks reg) && not (has_reg old.defines reg))))) ≡ false = sym is_four ∙ out in
    let third : (two || (has_reg old.defines reg && (behind reg && (not (has_reg old.asks reg) && not (has_reg new.defines reg))))) ≡ false = sym is_three ∙ left_none three _ last in
    let second : (one || (has_reg new.asks reg && not (has_reg old.asks reg))) ≡ false = sym is_two ∙ left_none two _ third in
    let first : (none || (has_reg old.asks reg && not (has_reg new.asks reg))) ≡ false = sym is_one ∙ left_none one _ second in
    record {
      asks = same_by (has_reg old.asks reg) (has_reg new.asks reg) (right_none none _ first) (right_none one _ second);
      defines = λ asked live. same_live (has_reg old.defines reg) (has_reg new.defines reg) (has_reg old.asks reg) (behind reg) asked live (right_none two _ third) (right_none three _ last);
    }

-- windows are alike where their lists are
pub demands_alike : (old new : List Insn) (was is : Demand) (behind : ℕ → Bool) (reg : ℕ) → IsDemandOf old was → IsDemandOf new is → AreLikeLists was is behind reg → IsAlike old new behind reg
demands_alike old new was is behind reg first second alike = record {
  asks = sym (first.asks reg) ∙ (alike.asks ∙ second.asks reg);
  defines = λ none live. sym (first.defines reg) ∙ (alike.defines (first.asks reg ∙ none) live ∙ second.defines reg);
}

-- ---- registers that pass a test

has_more : (regs : List ℕ) (reg other : ℕ) → has_reg (regs ++ reg ∷ []) other ≡ (has_reg regs other || eqb reg other)
has_more regs reg other = list_any-append (λ r. eqb r other) regs (reg ∷ []) ∙ ap (λ b. has_reg regs other || b) (or-false (eqb reg other))

out_of : (seen same p : Bool) → (same ≡ true → p ≡ true) → (seen && not p) ≡ ((seen || same) && not p)
out_of true same p fails = refl
out_of false true true fails = refl
out_of false true false fails = absurd (false≢true (fails refl))
out_of false false p fails = refl

in_too : (seen same p : Bool) → (same ≡ true → p ≡ false) → ((seen && not p) || same) ≡ ((seen || same) && not p)
in_too true true true passes = absurd (false≢true (sym (passes refl)))
in_too true true false passes = refl
in_too true false true passes = refl
in_too true false false passes = refl
in_too false true true passes = absurd (false≢true (sym (passes refl)))
in_too false true false passes = refl
in_too false false p passes = refl

module _ (named : ℕ → Bool) (seen left : List ℕ) (reg other : ℕ) (before : has_reg left other ≡ (has_reg seen other && not (named other))) where
  as_reg : (b : Bool) → named reg ≡ b → eqb reg other ≡ true → named other ≡ b
  as_reg b is same = subst (λ r. named r ≡ b) (eqb-true reg other same) is

  -- one that is named is left out
  pub left_out : named reg ≡ true → has_reg left other ≡ (has_reg (seen ++ reg ∷ []) other && not (named other))
  left_out is = before ∙ (out_of (has_reg seen other) (eqb reg other) (named other) (as_reg true is) ∙ ap (λ b. b && not (named other)) (sym (has_more seen reg other)))

  -- one that is not is put behind them
  pub left_in : named reg ≡ false → has_reg (left ++ reg ∷ []) other ≡ (has_reg (seen ++ reg ∷ []) other && not (named other))
  left_in is = has_more left reg other ∙ (ap (λ b. b || eqb reg other) before ∙
      (in_too (has_reg seen other) (eqb reg other) (named other) (as_reg false is) ∙ ap (λ b. b && not (named other)) (sym (has_more seen reg other))))
