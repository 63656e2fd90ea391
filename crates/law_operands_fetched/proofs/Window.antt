-- The moves before an instruction, the instruction with registers in the places of operands, and the moves behind it, one behind the other.
use Rattle.std.proofs.Common.{◌≡◌, ℕ, false, List, [], ◌∷◌, ◌++◌, refl, sym, subst, ◌∙◌}
use Rattle.std.specs.FinMap.{get}
use Rattle.law_operands_replaced.specs.rtx_tree.declared.machine.SymbolAt.{SymbolAt}
use Rattle.law_operands_replaced.specs.rtx_tree.declared.memories.MemByte.{MemByte}
use Rattle.law_operands_replaced.specs.rtx_tree.declared.tree.Rtx.{Rtx}
use Rattle.law_operands_replaced.specs.rtl_step.Effect.{reg_after, regs_after, bytes_after, memory_after}
use Rattle.law_operands_replaced.specs.rtl_step.Regs.{Regs}
use Rattle.law_operands_replaced.specs.rtl_step.declared.effect.Effect.{Effect}
use Rattle.law_operands_replaced.specs.Spare.{is_spare, KnowsRest, KeepsRest}
use Rattle.law_operands_replaced.specs.Straight.{Straight}
use Rattle.law_operands_replaced.proofs.Registers.{value_alike}
use Rattle.law_operands_replaced.proofs.Instead as instead
use Rattle.law_operands_replaced.proofs.Instead.{IsOnSpare, Instead, one_too}

pub memory_both : (xs ys : List Effect) (m : List MemByte) → memory_after (xs ++ ys) m ≡ memory_after ys (memory_after xs m)
memory_both [] ys m = refl
memory_both (e ∷ xs) ys m = memory_both xs ys (bytes_after e m)

pub regs_both : (xs ys : List Effect) (r : Regs) → regs_after (xs ++ ys) r ≡ regs_after ys (regs_after xs r)
regs_both [] ys r = refl
regs_both (e ∷ xs) ys r = regs_both xs ys (reg_after e r)

pub all_too : (es : List Effect) (a b : Regs) → KnowsRest a b → KnowsRest (regs_after es a) (regs_after es b)
all_too [] a b known = known
all_too (e ∷ es) a b known = all_too es (reg_after e a) (reg_after e b) (λ reg kept. one_too e a b reg (known reg kept))

-- what look-ups give alike is known alike
pub alike_knows : (a b c : Regs) → ((q : ℕ) → is_spare q ≡ false → get c q ≡ get b q) → KnowsRest a b → KnowsRest a c
alike_knows a b c same known reg kept w v is = value_alike b c reg w (same reg kept) ∙ known reg kept w v is

pub knows_alike : (a b c : Regs) → ((q : ℕ) → get a q ≡ get b q) → KnowsRest b c → KnowsRest a c
knows_alike a b c same known reg kept w v is = known reg kept w v (sym (value_alike b a reg w (same reg)) ∙ is)

spare_keeps : (e : Effect) (r : Regs) → IsOnSpare e → KeepsRest r (reg_after e r)
spare_keeps e r is q kept = instead.spare_left e r q kept is

module _ (symbols : List SymbolAt) (Told : Regs → List MemByte → Type 0)
    (spared : (r r' : Regs) (m : List MemByte) → KeepsRest r r' → Told r m → Told r' m) where
  abbrev Stays : Effect → Type 0
  Stays e = (r : Regs) (m : List MemByte) → Told r m → Told (reg_after e r) (bytes_after e m)

  -- what is told stays true behind each of some effects
  abbrev pub AllStay : List Effect → Type 0
  AllStay [] = Unit {0}
  AllStay (e ∷ es) = Stays e × AllStay es

  pub told_instead : (es others : List Effect) → Instead es others → AllStay es → (r : Regs) (m : List MemByte) → Told r m →
      Told (regs_after others r) (memory_after others m)
  told_instead _ _ instead.none stay r m told = told
  told_instead _ _ (instead.same e es others more) stay r m told =
      told_instead es others more stay.1 (reg_after e r) (bytes_after e m) (stay.0 r m told)
  told_instead _ _ (instead.spare e es others is more) stay r m told =
      told_instead es others more stay (reg_after e r) (bytes_after e m)
      (subst (Told (reg_after e r)) (sym (instead.spare_stays e m is)) (spared r (reg_after e r) m (spare_keeps e r is) told))
  told_instead _ _ (instead.left q es others more) stay r m told = told_instead es others more stay.1 r m told
  told_instead _ _ (instead.idle es others more) stay r m told = told_instead es others more stay.1 r m told

  -- They lead to the memory that the effects leave, and to registers of which, t3 to t6 apart, as much is known.
  pub record Leads (regs : Regs) (memory : List MemByte) (es : List Effect) (code : List Rtx) : Type 0 where
    pub after : Regs
    pub runs : Straight symbols Told code regs memory after (memory_after es memory)
    pub known : KnowsRest (regs_after es regs) after
