-- Results that are moved behind an instruction, each from its register to where it ends.
use Rattle.std.proofs.Common.{◌≡◌, ◌≢◌, ℕ, zero, suc, if◌then◌else◌, true, false, List, [], ◌∷◌, ◌++◌, Option, Some, None, refl, sym, ap, subst, ◌∙◌}
use Rattle.std.specs.FinMap.{get}
use Rattle.std.specs.Prelude.{ℤ}
use Rattle.bits64.specs.declared.Width.TheVariants.{W64}
use Rattle.rtx_tree.specs.declared.machine.SymbolAt.{SymbolAt}
use Rattle.rtx_tree.specs.declared.memories.MemByte.{MemByte}
use Rattle.rtx_tree.specs.declared.tree.Rtx.{Rtx}
use Rattle.rtl_step.specs.Effect.{effects_of, reg_after, regs_after, bytes_after}
use Rattle.rtl_step.specs.Regs.{Regs, known_of, reg_value}
use Rattle.rtl_step.specs.declared.effect.Effect.{Effect}
use Rattle.rtl_step.specs.declared.effect.Effect.TheVariants.{Nothing, Sets, Unsets, Stores}
use Rattle.rtl_step.specs.declared.regs.Known.{Known}
use Rattle.law_operands_replaced.specs.Spare.{is_spare, KeepsRest}
use Rattle.law_operands_replaced.specs.Straight.{Straight, done, next}
use Rattle.law_operands_replaced.specs.Held.{Held, Holds}
use Rattle.law_operands_replaced.proofs.Registers.{other_eqb}
use Rattle.law_operands_replaced.proofs.Cells.{all_of, known_made, known_is}
use Rattle.law_operands_replaced.proofs.StraightLaws.{straight_both, straight_told}
use Rattle.law_operands_replaced.proofs.Fetches.{IsFresh, far_code, offset_by, far_fetched}

-- it changes none of t3 to t6
abbrev pub IsOnRest : Effect → Type 0
IsOnRest (Sets r k) = is_spare r ≡ false
IsOnRest (Unsets r) = is_spare r ≡ false
IsOnRest _ = Unit {0}

-- each of them is one of t3 to t6
abbrev pub AreSpare : List Held → Type 0
AreSpare [] = Unit {0}
AreSpare (h ∷ hs) = (is_spare h.reg ≡ true) × AreSpare hs

pub apart_of : (q r : ℕ) → is_spare q ≡ true → is_spare r ≡ false → q ≢ r
apart_of q r is kept same = let both : is_spare r ≡ true = ap is_spare (sym same) ∙ is in
    let e : true ≡ false = sym both ∙ kept in let never : ⊥ = cc in never

-- effects leave the same where the same was
pub after_alike : (es : List Effect) (a b : Regs) (q : ℕ) → get a q ≡ get b q → get (regs_after es a) q ≡ get (regs_after es b) q
after_alike es a b q same = known_is es a q ∙ ap (all_of (known_made q) es) same ∙ sym (known_is es b q)

rest_made : (q : ℕ) (e : Effect) (x : Option Known) → is_spare q ≡ true → IsOnRest e → known_made q e x ≡ x
rest_made q (Sets zero k) x is on = refl
rest_made q (Sets (suc r) k) x is on = ap (λ b. if b then Some k else x) (other_eqb q (suc r) (apart_of q (suc r) is on))
rest_made q (Unsets r) x is on = ap (λ b. if b then None else x) (other_eqb q r (apart_of q r is on))
rest_made q (Stores w at v) x is on = refl
rest_made q Nothing x is on = refl

pub rest_alone : (q : ℕ) (e : Effect) (regs : Regs) → is_spare q ≡ true → IsOnRest e → get (reg_after e regs) q ≡ get regs q
rest_alone q e regs is on = known_is (e ∷ []) regs q ∙ rest_made q e (get regs q) is on

pub still_holds : (hs : List Held) (e : Effect) (regs : Regs) → AreSpare hs → IsOnRest e → Holds regs hs → Holds (reg_after e regs) hs
still_holds [] e regs are on holds = tt
still_holds (h ∷ hs) e regs are on holds = (rest_alone h.reg e regs are.0 on ∙ holds.0, still_holds hs e regs are.1 on holds.1)

module _ (symbols : List SymbolAt) (Told : Regs → List MemByte → Type 0)
    (spared : (r r' : Regs) (m : List MemByte) → KeepsRest r r' → Told r m → Told r' m) where
  -- what is told stays true behind an effect
  abbrev pub Stays : Effect → Type 0
  Stays e = (r : Regs) (m : List MemByte) → Told r m → Told (reg_after e r) (bytes_after e m)

  -- instructions that have one effect, and change one of t3 to t6 besides
  pub record Ended (code : List Rtx) (r : Regs) (m : List MemByte) (o : Effect) (far : ℕ) : Type 0 where
    pub after : Regs
    pub runs : Straight symbols Told code r m after (bytes_after o m)
    pub told : Told after (bytes_after o m)
    pub others : (q : ℕ) → q ≢ far → get after q ≡ get (reg_after o r) q

  -- one at a far base, which is made before it
  pub far_end : (x : Rtx) (r : Regs) (m : List MemByte) (o : Effect) (far sp : ℕ) (n : ℤ) → is_spare far ≡ true → far ≢ 0 → 2 ≢ far →
      reg_value r 2 W64 ≡ Some sp →
      ((r' : Regs) → get r' far ≡ Some (known_of W64 (offset_by symbols m sp n)) → ((q : ℕ) → q ≢ far → get r' q ≡ get r q) →
      effects_of symbols r' m x ≡ Some (o ∷ [])) → Stays o → Told r m → Ended (far_code symbols m far n ++ x ∷ []) r m o far
  far_end x r m o far sp n is some other pointer does stays told =
      let f = far_fetched symbols m r far sp n some other pointer in
      let here : Told f.after m = spared r f.after m (λ q kept. f.others q (not_far q kept)) told in
      let last : Regs = reg_after o f.after in record {
        after = last;
        runs = straight_both symbols Told (far_code symbols m far n) (x ∷ []) r m f.after m last (bytes_after o m)
            (straight_told symbols _ Told (λ r' m' only. subst (Told r') (sym only.0) (spared r r' m (λ q kept. only.1 q (not_far q kept)) told))
            (far_code symbols m far n) r m f.after m f.runs)
            (next x [] f.after m (o ∷ []) last (bytes_after o m) (does f.after f.holds f.others) (stays f.after m here) (done last (bytes_after o m)));
        told = stays f.after m here;
        others = λ q apart. after_alike (o ∷ []) f.after r q (f.others q apart);
      }
    where
      not_far : (q : ℕ) → is_spare q ≡ false → q ≢ far
      not_far q kept same = apart_of far q is kept (sym same)

  pub fresh_holds : (hs : List Held) (far : ℕ) (a b : Regs) → IsFresh symbols [] far hs → ((q : ℕ) → q ≢ far → get b q ≡ get a q) → Holds a hs → Holds b hs
  fresh_holds [] far a b fresh others holds = tt
  fresh_holds (h ∷ hs) far a b fresh others holds = (others h.reg fresh.0 ∙ holds.0, fresh_holds hs far a b fresh.1 others holds.1)
