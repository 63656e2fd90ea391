-- What an operand asks for before an instruction, and how its value, its base and the instructions of its moves are.
use Rattle.std.proofs.Common.{◌≡◌, ◌≢◌, ℕ, true, if◌then◌else◌, List, [], ◌∷◌, ◌++◌, Option, Some, None, refl, sym, ap, ◌∙◌}
use Rattle.std.specs.FinMap.{get}
use Rattle.std.specs.Prelude.{ℤ, is_some}
use Rattle.std.proofs.lemmas.Bool.{and_parts}
use Rattle.std.proofs.lemmas.List.{append-nil}
use Rattle.law_operands_replaced.specs.bits64.declared.Width.{Width}
use Rattle.law_operands_replaced.specs.bits64.declared.Width.TheVariants.{W8, W16, W32, W64}
use Rattle.law_operands_replaced.specs.rtx_tree.declared.code.Mode.{Mode}
use Rattle.law_operands_replaced.specs.rtx_tree.declared.code.Mode.TheVariants.{Void, QI, HI, SI, DI}
use Rattle.law_operands_replaced.specs.rtx_tree.declared.machine.SymbolAt.{SymbolAt}
use Rattle.law_operands_replaced.specs.rtx_tree.declared.memories.MemByte.{MemByte}
use Rattle.law_operands_replaced.specs.rtx_tree.declared.tree.Rtx.{Rtx}
use Rattle.law_operands_replaced.specs.run_memory.RunMemory.{load}
use Rattle.law_operands_replaced.specs.rtl_step.Regs.{Regs, known_of}
use Rattle.law_operands_replaced.specs.rtl_step.Value.{width_of, value_of}
use Rattle.law_operands_replaced.specs.reload_operands.declared.operand.Base.{Base}
use Rattle.law_operands_replaced.specs.reload_operands.declared.operand.Operand.{Operand}
use Rattle.reload_moves.specs.declared.ask.Ask.{Ask}
use Rattle.reload_moves.specs.declared.ask.What.TheVariants.{Own}
use Rattle.reload_moves.specs.declared.moves.Move.{Move}
use Rattle.reload_moves.specs.declared.moves.Move.TheVariants.{Base as LoadBase, In}
use Rattle.reload_moves.specs.declared.part.Part.{Part}
use Rattle.reload_moves.specs.Moves.{comes_in, far_to}
use Rattle.reload_moves.specs.Registers.{ask, is_asked, register_for}
use Rattle.reload_moves.proofs.AskLaws.{own_asked}
use Rattle.reload_choice.specs.reload_fit.Addressed.{on_register, slot_offset, slot_far, far_offset}
use Rattle.reload_choice.specs.reload_fit.Fitting.{slot_far_of}
use Rattle.reload_choice.specs.declared.given.Given.{Given}
use Rattle.reload_choice.specs.declared.given.Plan.{Plan}
use Rattle.reload_choice.specs.Insns.{in_insn, all_insns}
use Rattle.reload_choice.specs.Movable.{is_mode}
use Rattle.reload_choice.specs.Sound.{IsPart}
use Rattle.law_operands_replaced.specs.Held.{Held}
use Rattle.law_operands_replaced.specs.Spare.{is_spare, KeepsRest}
use Rattle.law_operands_fetched.proofs.Based.{based_near}
use Rattle.law_operands_replaced.proofs.Fetches.{Fetched, offset_by}
use Rattle.law_operands_fetched.proofs.FetchOne.{far_part, far_insns_are, in_is, own_mode, base_fetched, source_there}
use Rattle.law_operands_fetched.proofs.Fetching.{asks, Fetching, Says, own, Made, spare_of}
use Rattle.law_operands_fetched.proofs.Loads.{none, next}
use Rattle.law_operands_fetched.proofs.OnRegister.{IsOperand, based_new, based_mode}

mode_wide : (m : Mode) → is_mode m ≡ true → (w : Width) × (width_of m ≡ Some w)
mode_wide Void is = absurd (let no : ⊥ = cc in no)
mode_wide QI is = (W8, refl)
mode_wide HI is = (W16, refl)
mode_wide SI is = (W32, refl)
mode_wide DI is = (W64, refl)

pub some_there : {A : Type 0} (o : Option A) → is_some o ≡ true → (v : A) × (o ≡ Some v)
some_there None is = absurd (let no : ⊥ = cc in no)
some_there (Some v) is = (v, refl)

module _ (symbols : List SymbolAt) (regs : Regs) (memory : List MemByte) (sp : ℕ) (given : Given) (plan : Plan)
    (f : Fetching symbols regs memory sp given plan) where
  abbrev pub at_ask : Ask → ℕ
  at_ask a = register_for (asks symbols regs memory sp given plan) a

  abbrev pub Asked : Ask → Type 0
  Asked a = is_asked (asks symbols regs memory sp given plan) a ≡ true

  abbrev pub Makes : List Rtx → List Ask → Type 0
  Makes = Made symbols regs memory sp given plan

  abbrev pub Tells : Ask → Held → Type 0
  Tells = Says symbols regs memory sp given plan

  abbrev pub Gets : List Rtx → Regs → Held → Type 0
  Gets code r h = Fetched symbols memory code r h.reg h.width h.value

  abbrev pub code_of : List Move → List Rtx
  code_of moves = all_insns given.operands moves

  pub spare : (a : Ask) → Asked a → is_spare (at_ask a) ≡ true
  spare = spare_of symbols regs memory sp given plan f.sound

  tells_spare : (a : Ask) (h : Held) → h.reg ≡ at_ask a → Asked a → is_spare h.reg ≡ true
  tells_spare a h is asked = ap is_spare is ∙ spare a asked

  pub one_made : (a : Ask) (h : Held) (code : List Rtx) → Asked a → h.reg ≡ at_ask a → Tells a h →
      ((r : Regs) → KeepsRest regs r → Gets code r h) →
      Makes code (a ∷ [])
  one_made a h code asked is says gets = record {
    requests = record { held = h; code = code } ∷ [];
    codes_are = append-nil code;
    say = (says, tt);
    able = λ hs. next hs (record { held = h; code = code }) [] (tells_spare a h is asked) (λ r keeps holds. gets r keeps) (none (h ∷ hs));
  }

  pub two_made : (a b : Ask) (h k : Held) (code code' : List Rtx) → Asked a → Asked b → h.reg ≡ at_ask a →
      k.reg ≡ at_ask b → Tells a h → Tells b k →
      ((r : Regs) → KeepsRest regs r → Gets code r h) →
      ((r : Regs) → KeepsRest regs r → get r h.reg ≡ Some (known_of h.width h.value) → Gets code' r k) → Makes (code ++ code') (a ∷ b ∷ [])
  two_made a b h k code code' asked asked' is is' says says' gets gets' = record {
    requests = record { held = h; code = code } ∷ record { held = k; code = code' } ∷ [];
    codes_are = ap (λ (c : List Rtx). code ++ c) (append-nil code');
    say = (says, (says', tt));
    able = λ hs. next hs (record { held = h; code = code }) (record { held = k; code = code' } ∷ [])
        (tells_spare a h is asked) (λ r keeps holds. gets r keeps)
        (next (h ∷ hs) (record { held = k; code = code' }) [] (tells_spare b k is' asked')
        (λ r keeps holds. gets' r keeps holds.0) (none (k ∷ (h ∷ hs))));
  }

  -- ---- one operand

  module _ (i : ℕ) (p : Part) (x : Operand) (part : IsPart given plan i p x) where
    pub is_operand : IsOperand x
    is_operand = f.operands p.place x part.of

    abbrev pub own_ask : Ask
    own_ask = ask Own p.holder

    pub record OwnValue : Type 0 where
      pub width : Width
      pub value : ℕ
      pub wide : width_of x.mode ≡ Some width
      pub value_is : value_of symbols regs memory x.tree width ≡ Some value

    pub own_value : comes_in p ≡ true → OwnValue
    own_value comes =
        let m = mode_wide x.mode (f.sound.moded i p x part (and_parts p.is_moved p.needs.is_input comes).0) in
        let v = f.valued i p x part comes m.0 (own_mode x m.0 is_operand m.1) in
        record { width = m.0; value = v.0; wide = m.1; value_is = v.1 }

    pub record BaseValue : Type 0 where
      pub base : Base
      pub value : ℕ
      pub base_is : x.base ≡ Some base
      pub far_is : p.needs.slot_far ≡ slot_far base
      pub value_is : load W64 memory (offset_by symbols memory sp (slot_offset base)) ≡ Some value

    pub base_value : p.needs.has_base ≡ true → BaseValue
    base_value has =
        let says = f.sound.says i p x part in
        let b = some_there x.base (says.base has) in
        let v = some_there _ (f.slots p.place x b.0 part.of b.1) in
        record { base = b.0; value = v.0; base_is = b.1; far_is = says.slot_far ∙ ap slot_far_of b.1; value_is = v.1 }

    pub far_known : (n : ℤ) → p.needs.far ≡ Some n → far_offset x.tree ≡ Some n
    far_known n at = sym (f.sound.says i p x part).far ∙ at

    no_far : BaseValue → p.needs.far ≡ None
    no_far b = by p.needs.far refl
      where
        by : (o : Option ℤ) → p.needs.far ≡ o → o ≡ None
        by None at = refl
        by (Some n) at = absurd (based_near b.base x.tree n (is_operand.based b.base b.base_is) (far_known n at))

    pub own_says : comes_in p ≡ true → (v : OwnValue) → Tells own_ask (record { reg = at_ask own_ask; width = v.width; value = v.value })
    own_says comes v = own i p x v.width v.value part comes v.wide v.value_is

    pub is_own_asked : comes_in p ≡ true → Asked own_ask
    is_own_asked comes = own_asked plan.parts i p part.stands (and_parts p.is_moved p.needs.is_input comes).0

    abbrev pub base_load_in : ℕ → List Move
    base_load_in into = far_to into p.needs.slot_far ++ LoadBase into p.place ∷ []

    abbrev pub in_load_on : ℕ → ℕ → List Move
    in_load_on into reg =
        far_to into p.needs.far ++ In into p.place (if is_some p.needs.far then Some into else
        (if p.needs.has_base then Some reg else None)) ∷ []

    pub in_code : (into reg : ℕ) → code_of (in_load_on into reg) ≡
        far_part into p.needs.far ++ in_insn into (if is_some p.needs.far then Some into else
        (if p.needs.has_base then Some reg else None)) x ∷ []
    in_code into reg = far_insns_are given.operands into p.needs.far _ ∙
        ap (λ (c : List Rtx). far_part into p.needs.far ++ c) (in_is given.operands x into p.place _ part.of)

    pub based_code : (into reg : ℕ) → BaseValue → p.needs.has_base ≡ true → code_of (in_load_on into reg) ≡ in_insn into (Some reg) x ∷ []
    based_code into reg b has = in_code into reg ∙
        ap (λ o. far_part into o ++ in_insn into (if is_some o then Some into else
        (if p.needs.has_base then Some reg else None)) x ∷ []) (no_far b) ∙
        ap (λ c. in_insn into (if c then Some reg else None) x ∷ []) has

    pub base_gets : (into : ℕ) (b : BaseValue) → into ≢ 0 → 2 ≢ into → (r : Regs) → KeepsRest regs r →
        Fetched symbols memory (code_of (base_load_in into)) r into W64 b.value
    base_gets into b some other r keeps = base_fetched symbols regs memory sp f.pointer f.small r keeps into some
        other given.operands x b.base p.place b.value
        p.needs.slot_far part.of b.base_is b.far_is b.value_is

    -- an operand as it is read at a register that holds its base
    pub based_source : (b : BaseValue) (v : OwnValue) (reg : ℕ) (r : Regs) → reg ≢ 0 →
        get r reg ≡ Some (known_of W64 b.value) → (r' : Regs) →
        KeepsRest regs r' → (into : ℕ) → into ≢ 0 → 2 ≢ into → value_of symbols r memory (on_register reg x) v.width ≡ Some v.value
    based_source b v reg r some holds r' keeps into some' other =
        source_there symbols regs memory sp f.pointer f.small r' keeps into some' other x v.width v.value reg r is_operand v.wide v.value_is
        (based_mode x b.base reg is_operand b.base_is)
        (based_new symbols regs r memory sp f.pointer f.small f.memory_is x b.base reg b.value is_operand b.base_is some b.value_is holds)
