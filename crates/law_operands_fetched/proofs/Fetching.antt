-- What is asked of a state in which the moves before an instruction are made, and what each of them is to fetch.
use Rattle.std.proofs.Common.{◌≡◌, ◌≢◌, ℕ, true, false, List, [], ◌∷◌, ◌++◌, slice_get, Some, refl, sym, ap, ◌∙◌, append_assoc, arith}
use Rattle.std.proofs.lemmas.Bool.{and_from}
use Rattle.std.proofs.lemmas.Bool.Decides.{nat_tests}
use Rattle.std.specs.FinMap.{get}
use Rattle.std.specs.Prelude.{ℤ, nat_le, is_some}
use Rattle.law_operands_replaced.specs.bits64.Words.{low}
use Rattle.law_operands_replaced.specs.bits64.declared.Width.{Width}
use Rattle.law_operands_replaced.specs.bits64.declared.Width.TheVariants.{W64}
use Rattle.law_operands_replaced.specs.rtx_tree.declared.machine.SymbolAt.{SymbolAt}
use Rattle.law_operands_replaced.specs.rtx_tree.declared.memories.MemByte.{MemByte}
use Rattle.law_operands_replaced.specs.rtx_tree.declared.tree.Rtx.{Rtx}
use Rattle.law_operands_replaced.specs.run_memory.RunMemory.{load}
use Rattle.law_operands_replaced.specs.rtl_step.Regs.{Regs, known_of, reg_value}
use Rattle.law_operands_replaced.specs.rtl_step.Value.{width_of, value_of}
use Rattle.rv_regs.specs.Registers.{stack_pointer}
use Rattle.same_behaviour.specs.Lawful.{IsMemory}
use Rattle.law_operands_replaced.specs.reload_operands.declared.operand.Base.{Base}
use Rattle.law_operands_replaced.specs.reload_operands.declared.operand.Operand.{Operand}
use Rattle.reload_moves.specs.declared.ask.Ask.{Ask}
use Rattle.reload_moves.specs.declared.ask.What.TheVariants.{Own, StayingFar}
use Rattle.reload_moves.specs.declared.part.Part.{Part}
use Rattle.reload_moves.specs.Moves.{comes_in}
use Rattle.reload_moves.specs.Registers.{ask, is_asked, asks_of, register_for, holds_base, base_ask, stays_far}
use Rattle.reload_choice.specs.reload_fit.Addressed.{slot_offset}
use Rattle.reload_choice.specs.declared.given.Given.{Given}
use Rattle.reload_choice.specs.declared.given.Plan.{Plan}
use Rattle.reload_choice.specs.Sound.{IsPart, IsSoundPlan}
use Rattle.law_operands_replaced.specs.Held.{Held, Holds}
use Rattle.law_operands_replaced.specs.Spare.{is_spare}
use Rattle.law_operands_fetched.proofs.AsksBefore as asking
use Rattle.law_operands_fetched.proofs.AsksBefore.{Each}
use Rattle.law_operands_replaced.proofs.Fetches.{offset_by}
use Rattle.law_operands_fetched.proofs.Loads.{Request, codes, all_held, IsAskedByNone, AreOnce, CanBeMade, none, next}
use Rattle.law_operands_fetched.proofs.OnRegister.{IsOperand}
use Rattle.law_operands_replaced.proofs.Valued.{HasValue}

pub spare_some : (reg : ℕ) → is_spare reg ≡ true → reg ≢ 0
spare_some reg is same = let e : false ≡ true = sym (ap is_spare same) ∙ is in let never : ⊥ = cc in never

pub spare_no_pointer : (reg : ℕ) → is_spare reg ≡ true → stack_pointer ≢ reg
spare_no_pointer reg is same = let e : false ≡ true = ap is_spare same ∙ is in let never : ⊥ = cc in never

module _ (symbols : List SymbolAt) (regs : Regs) (memory : List MemByte) (sp : ℕ) (given : Given) (plan : Plan) where
  -- what asks for a register
  abbrev pub asks : List Ask
  asks = asks_of plan.parts

  -- what stands in the slot of a base
  abbrev pub slot_load : Base → Type 0
  slot_load base = is_some (load W64 memory (offset_by symbols memory sp (slot_offset base))) ≡ true

  -- A state with the frame below sp, in which each input that is moved has a value.
  pub record Fetching : Type 0 where
    pub sound : IsSoundPlan given plan
    pub operands : (i : ℕ) (x : Operand) → slice_get given.operands i ≡ Some x → IsOperand x
    pub pointer : reg_value regs stack_pointer W64 ≡ Some sp
    pub small : low W64 sp ≡ sp
    pub memory_is : IsMemory memory
    pub slots : (i : ℕ) (x : Operand) (base : Base) → slice_get given.operands i ≡ Some x → x.base ≡ Some base → slot_load base
    pub valued : (i : ℕ) (p : Part) (x : Operand) → IsPart given plan i p x → comes_in p ≡ true → HasValue symbols regs memory x.tree

  -- what the register holds for which something asks: the value of an input, what a slot has, or sp and an offset
  pub data Says : Ask → Held → Type 0 where
    own : (i : ℕ) (p : Part) (x : Operand) (w : Width) (v : ℕ) → IsPart given plan i p x → comes_in p ≡ true → width_of x.mode ≡ Some w →
        value_of symbols regs memory x.tree w ≡ Some v →
        Says (ask Own p.holder) (record { reg = register_for asks (ask Own p.holder); width = w; value = v })
    base : (i : ℕ) (p : Part) (x : Operand) (b : Base) (v : ℕ) → IsPart given plan i p x → holds_base p ≡ true → x.base ≡ Some b →
        load W64 memory (offset_by symbols memory sp (slot_offset b)) ≡ Some v →
        Says (base_ask p) (record { reg = register_for asks (base_ask p); width = W64; value = v })
    far : (i : ℕ) (p : Part) (x : Operand) (n : ℤ) → IsPart given plan i p x → stays_far p ≡ true → p.needs.far ≡ Some n →
        Says (ask StayingFar p.holder)
        (record { reg = register_for asks (ask StayingFar p.holder); width = W64; value = offset_by symbols memory sp n })

  says_reg : (a : Ask) (h : Held) → Says a h → h.reg ≡ register_for asks a
  says_reg _ _ (own i p x w v part comes wide at) = refl
  says_reg _ _ (base i p x b v part holds based at) = refl
  says_reg _ _ (far i p x n part stays at) = refl

  -- ---- requests, each for one that asks

  abbrev pub Req : Type 0
  Req = Request symbols memory

  abbrev pub AllSay : List Ask → List Req → Type 0
  AllSay [] [] = Unit {0}
  AllSay [] (q ∷ qs) = ⊥
  AllSay (a ∷ xs) [] = ⊥
  AllSay (a ∷ xs) (q ∷ qs) = Says a q.held × AllSay xs qs

  say_both : (xs ys : List Ask) (qs rs : List Req) → AllSay xs qs → AllSay ys rs → AllSay (xs ++ ys) (qs ++ rs)
  say_both [] ys [] rs first second = second
  say_both [] ys (q ∷ qs) rs first second = absurd first
  say_both (a ∷ xs) ys [] rs first second = absurd first
  say_both (a ∷ xs) ys (q ∷ qs) rs first second = (first.0, say_both xs ys qs rs first.1 second)

  -- instructions that are those of requests for all these
  pub record Made (code : List Rtx) (xs : List Ask) : Type 0 where
    pub requests : List Req
    pub codes_are : codes symbols memory requests ≡ code
    pub say : AllSay xs requests
    pub able : (hs : List Held) → CanBeMade symbols memory regs hs requests

  pub made_none : Made [] []
  made_none = record { requests = []; codes_are = refl; say = tt; able = λ hs. none hs }

  codes_both : (qs rs : List Req) → codes symbols memory (qs ++ rs) ≡ codes symbols memory qs ++ codes symbols memory rs
  codes_both [] rs = refl
  codes_both (q ∷ qs) rs = ap (λ (xs : List Rtx). q.code ++ xs) (codes_both qs rs) ∙
      sym (append_assoc q.code (codes symbols memory qs) (codes symbols memory rs))

  able_both : (hs : List Held) (qs rs : List Req) → CanBeMade symbols memory regs hs qs →
      CanBeMade symbols memory regs (all_held symbols memory hs qs) rs →
      CanBeMade symbols memory regs hs (qs ++ rs)
  able_both _ _ rs (none hs) second = second
  able_both _ _ rs (next hs q qs is one more) second = next hs q (qs ++ rs) is one (able_both (q.held ∷ hs) qs rs more second)

  pub made_both : (code code' : List Rtx) (xs ys : List Ask) → Made code xs → Made code' ys → Made (code ++ code') (xs ++ ys)
  made_both code code' xs ys first second = record {
    requests = first.requests ++ second.requests;
    codes_are = codes_both first.requests second.requests ∙ ap (λ (c : List Rtx). c ++ codes symbols memory
        second.requests) first.codes_are ∙
        ap (λ (c : List Rtx). code ++ c) second.codes_are;
    say = say_both xs ys first.requests second.requests first.say second.say;
    able = λ hs. able_both hs first.requests second.requests (first.able hs) (second.able (all_held symbols memory hs first.requests));
  }

  -- ---- no register twice

  module _ (sound : IsSoundPlan given plan) where
    abbrev Asked : Ask → Type 0
    Asked a = is_asked asks a ≡ true

    pub spare_of : (a : Ask) → Asked a → is_spare (register_for asks a) ≡ true
    spare_of a asked =
        let up = sound.least a asked in
        let down = sound.greatest a asked in
        and_from (nat_le 28 (register_for asks a)) _ (grind (arith, nat_tests, up)) (grind (arith, nat_tests, down))

    by_none : (a : Ask) (h : Held) (xs : List Ask) (qs : List Req) → Asked a → Says a h → Each Asked xs →
        Each (λ b. a ≢ b) xs → AllSay xs qs →
        IsAskedByNone symbols memory h.reg qs
    by_none a h [] [] asked says each apart say = tt
    by_none a h [] (q ∷ qs) asked says each apart say = absurd say
    by_none a h (b ∷ xs) [] asked says each apart say = absurd say
    by_none a h (b ∷ xs) (q ∷ qs) asked says each apart say = (
      λ same. apart.0 (sound.apart a b asked each.0 (sym (says_reg a h says) ∙ same ∙ says_reg b q.held say.0)),
      by_none a h xs qs asked says each.1 apart.1 say.1,
    )

    pub once : (xs : List Ask) (qs : List Req) → Each Asked xs → asking.AreOnce xs → AllSay xs qs → AreOnce symbols memory qs
    once [] [] each apart say = tt
    once [] (q ∷ qs) each apart say = absurd say
    once (a ∷ xs) [] each apart say = absurd say
    once (a ∷ xs) (q ∷ qs) each apart say = (by_none a q.held xs qs each.0 say.0 each.1 apart.0 say.1, once xs qs each.1 apart.1 say.1)

  -- ---- what requests have fetched

  told_before : (hs : List Held) (qs : List Req) (r : Regs) → Holds r (all_held symbols memory hs qs) → Holds r hs
  told_before hs [] r holds = holds
  told_before hs (q ∷ qs) r holds = (told_before (q.held ∷ hs) qs r holds).1

  pub record Told (r : Regs) (a : Ask) : Type 0 where
    pub held : Held
    pub says : Says a held
    pub holds : get r held.reg ≡ Some (known_of held.width held.value)

  pub each_told : (hs : List Held) (xs : List Ask) (qs : List Req) (r : Regs) → AllSay xs qs →
      Holds r (all_held symbols memory hs qs) → Each (Told r) xs
  each_told hs [] [] r say holds = tt
  each_told hs [] (q ∷ qs) r say holds = absurd say
  each_told hs (a ∷ xs) [] r say holds = absurd say
  each_told hs (a ∷ xs) (q ∷ qs) r say holds = (
    record { held = q.held; says = say.0; holds = (told_before (q.held ∷ hs) qs r holds).0 },
    each_told (q.held ∷ hs) xs qs r say.1 holds,
  )
