-- Effects that stand for others: they may change t3 to t6 besides, and need not unset a register.
use Rattle.std.proofs.Common.{◌≡◌, ℕ, zero, suc, eqb, if◌then◌else◌, Bool, true, false, List, [], ◌∷◌, Option, Some, None, refl, sym, ap, ◌∙◌, arith}
use Rattle.std.proofs.lemmas.Bool.Decides.{nat_tests}
use Rattle.std.specs.FinMap.{get}
use Rattle.std.specs.Prelude.{option_and_then}
use Rattle.bits64.specs.declared.Width.{Width}
use Rattle.rtx_tree.specs.declared.memories.MemByte.{MemByte}
use Rattle.rtl_step.specs.Effect.{reg_after, regs_after, bytes_after, memory_after}
use Rattle.rtl_step.specs.Regs.{Regs, known_in, reg_value}
use Rattle.rtl_step.specs.declared.effect.Effect.{Effect}
use Rattle.rtl_step.specs.declared.effect.Effect.TheVariants.{Nothing, Sets, Unsets, Stores}
use Rattle.rtl_step.specs.declared.regs.Known.{Known}
use Rattle.rtl_step.proofs.Too.{Too}
use Rattle.law_window_kept.specs.Same.{KnownToo}
use Rattle.law_operands_replaced.specs.Spare.{is_spare, KnowsRest}
use Rattle.law_operands_replaced.proofs.Cells.{known_made, known_is}

-- it changes one of t3 to t6 alone
abbrev pub IsOnSpare : Effect → Type 0
IsOnSpare (Sets r k) = is_spare r ≡ true
IsOnSpare (Unsets r) = is_spare r ≡ true
IsOnSpare _ = ⊥

pub data Instead : List Effect → List Effect → Type 0 where
  none : Instead [] []
  same : (e : Effect) (es others : List Effect) → Instead es others → Instead (e ∷ es) (e ∷ others)
  spare : (e : Effect) (es others : List Effect) → IsOnSpare e → Instead es others → Instead es (e ∷ others)
  left : (r : ℕ) (es others : List Effect) → Instead es others → Instead (Unsets r ∷ es) others
  idle : (es others : List Effect) → Instead es others → Instead (Nothing ∷ es) others

pub spare_stays : (e : Effect) (memory : List MemByte) → IsOnSpare e → bytes_after e memory ≡ memory
spare_stays (Sets r k) memory is = refl
spare_stays (Unsets r) memory is = refl
spare_stays (Stores w at v) memory is = absurd is
spare_stays Nothing memory is = absurd is

-- they leave the same memory
pub instead_memory : (es others : List Effect) → Instead es others → (memory : List MemByte) → memory_after others memory ≡ memory_after es memory
instead_memory _ _ none memory = refl
instead_memory _ _ (same e es others more) memory = instead_memory es others more (bytes_after e memory)
instead_memory _ _ (spare e es others is more) memory = ap (memory_after others) (spare_stays e memory is) ∙ instead_memory es others more memory
instead_memory _ _ (left r es others more) memory = instead_memory es others more memory
instead_memory _ _ (idle es others more) memory = instead_memory es others more memory

-- ---- registers

read : Option Known → Width → Option ℕ
read o w = option_and_then (known_in w) o

made_too : (q : ℕ) (e : Effect) (a b : Option Known) → ((w : Width) → Too (read a w) (read b w)) → (w : Width) →
    Too (read (known_made q e a) w) (read (known_made q e b) w)
unfolding read
made_too q (Sets zero k) a b too w = too w
made_too q (Sets (suc r) k) a b too w = by (eqb q (suc r))
  where
    by : (c : Bool) → Too (read (if c then Some k else a) w) (read (if c then Some k else b) w)
    by true = λ v is. is
    by false = too w
made_too q (Unsets r) a b too w = by (eqb q r)
  where
    by : (c : Bool) → Too (read (if c then None else a) w) (read (if c then None else b) w)
    by true = λ v is. is
    by false = too w
made_too q (Stores x at v) a b too w = too w
made_too q Nothing a b too w = too w

value_read : (regs : Regs) (q : ℕ) (w : Width) → reg_value regs (suc q) w ≡ read (get regs (suc q)) w
unfolding read
value_read regs q w = refl

pub one_too : (e : Effect) (a b : Regs) (reg : ℕ) → KnownToo a b reg → KnownToo (reg_after e a) (reg_after e b) reg
one_too e a b zero too = λ w v is. is
one_too e a b (suc q) too = λ w v is.
    value_read (reg_after e b) q w ∙ ap (λ o. read o w) (known_is (e ∷ []) b (suc q)) ∙
    made_too (suc q) e (get a (suc q)) (get b (suc q)) (λ w v is. sym (value_read b q w) ∙ too w v (value_read a q w ∙ is)) w v
    (sym (ap (λ o. read o w) (known_is (e ∷ []) a (suc q))) ∙ sym (value_read (reg_after e a) q w) ∙ is)

spare_apart : (q r : ℕ) → is_spare q ≡ false → is_spare r ≡ true → eqb q r ≡ false
spare_apart q r kept is = grind (arith, nat_tests, kept, is)

-- an effect on t3 to t6 leaves the others
spare_made : (q : ℕ) (e : Effect) (x : Option Known) → is_spare q ≡ false → IsOnSpare e → known_made q e x ≡ x
spare_made q (Sets zero k) x kept is = refl
spare_made q (Sets (suc r) k) x kept is = ap (λ b. if b then Some k else x) (spare_apart q (suc r) kept is)
spare_made q (Unsets r) x kept is = ap (λ b. if b then None else x) (spare_apart q r kept is)
spare_made q (Stores w at v) x kept is = absurd is
spare_made q Nothing x kept is = absurd is

spare_known : (e : Effect) (a b : Regs) (reg : ℕ) → is_spare reg ≡ false → IsOnSpare e → KnownToo a b reg → KnownToo a (reg_after e b) reg
spare_known e a b zero kept is too = λ w v at. at
spare_known e a b (suc q) kept is too = λ w v at.
    value_read (reg_after e b) q w ∙ ap (λ o. read o w) (known_is (e ∷ []) b (suc q) ∙ spare_made (suc q) e (get b (suc q)) kept is) ∙
    sym (value_read b q w) ∙ too w v at

-- what is unset in the first may be known in the second
left_made : (c : Bool) (a b : Option Known) (w : Width) → Too (read a w) (read b w) → Too (read (if c then None else a) w) (read b w)
unfolding read
left_made true a b w too = λ v is. absurd (let no : ⊥ = cc in no)
left_made false a b w too = too

left_known : (r : ℕ) (a b : Regs) (reg : ℕ) → KnownToo a b reg → KnownToo (reg_after (Unsets r) a) b reg
left_known r a b zero too = λ w v at. at
left_known r a b (suc q) too = λ w v at.
    value_read b q w ∙
    left_made (eqb (suc q) r) (get a (suc q)) (get b (suc q)) w (λ v is. sym (value_read b q w) ∙ too w v (value_read a q w ∙ is)) v
    (sym (ap (λ o. read o w) (known_is (Unsets r ∷ []) a (suc q))) ∙ sym (value_read (reg_after (Unsets r) a) q w) ∙ at)

-- of each register outside t3 to t6 as much is known behind them
pub instead_known : (es others : List Effect) → Instead es others → (a b : Regs) → KnowsRest a b → KnowsRest (regs_after es a) (regs_after others b)
instead_known _ _ none a b known = known
instead_known _ _ (same e es others more) a b known =
    instead_known es others more (reg_after e a) (reg_after e b) (λ reg kept. one_too e a b reg (known reg kept))
instead_known _ _ (spare e es others is more) a b known =
    instead_known es others more a (reg_after e b) (λ reg kept. spare_known e a b reg kept is (known reg kept))
instead_known _ _ (left r es others more) a b known =
    instead_known es others more (reg_after (Unsets r) a) b (λ reg kept. left_known r a b reg (known reg kept))
instead_known _ _ (idle es others more) a b known = instead_known es others more a b known

-- an effect on t3 to t6 leaves every other register
pub spare_left : (e : Effect) (regs : Regs) (q : ℕ) → is_spare q ≡ false → IsOnSpare e → get (reg_after e regs) q ≡ get regs q
spare_left e regs q kept is = known_is (e ∷ []) regs q ∙ spare_made q e (get regs q) kept is
