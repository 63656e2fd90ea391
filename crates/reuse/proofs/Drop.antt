-- A set of a register that is dead behind it can go.
use Rattle.std.proofs.Common.{◌≡◌, ℕ, zero, suc, ◌≤◌, ◌<◌, ◌==◌, ◌&&◌, ◌||◌, ◌^◌, not, nat_le, nat_lt, ℤ, pos, Bool, true, false, List, [], ◌∷◌, Option, Some, None, refl, sym, ap, subst, ◌∙◌, arith}
use Rattle.std.specs.Prelude.{option_map, option_and_then, if◌then◌else◌}
use Rattle.std.specs.Int.{cast_unsigned, w64}
use Rattle.std.specs.Cmp.{nat_cmp_total}
use Rattle.std.specs.FinMap.{get, get-insert}
use Rattle.law_window_lines.proofs.Small.{is_other, or_none}
use Rattle.std.specs.Ordering.{int_eq}
use Rattle.std.specs.List.{list_any}
use Rattle.std.proofs.lemmas.Bool.{and_from, and_right, not_from_false, false_from_ne_true}
use Rattle.std.proofs.lemmas.Bool.Decides.{nat_tests, Decides-int_eq}
use Rattle.bits64.specs.declared.Width.{Width}
use Rattle.rtx_tree.specs.Patterns.{is_label_kind}
use Rattle.rtx_tree.specs.Registers.{is_call_used, pseudo}
use Rattle.rtx_tree.specs.Tree.{head_of, kids_of, is_reg_numbered}
use Rattle.rtx_tree.specs.declared.code.Code.{Code}
use Rattle.rtx_tree.specs.declared.code.Code.TheVariants.{Reg, Set}
use Rattle.rtx_tree.specs.declared.function.Insn.{Insn}
use Rattle.rtx_tree.specs.declared.function.Kind.{Kind}
use Rattle.rtx_tree.specs.declared.function.Kind.TheVariants.{Plain}
use Rattle.rtx_tree.specs.declared.machine.RangeAt.{RangeAt}
use Rattle.rtx_tree.specs.declared.machine.SymbolAt.{SymbolAt}
use Rattle.rtx_tree.specs.declared.memories.MemByte.{MemByte}
use Rattle.rtx_tree.specs.declared.tree.Rtx.{Rtx}
use Rattle.rtl_step.specs.Effect.{effects_of, effects_by, effect_of, effect_by, set_place, register_of, register_by, address_of, address_part, regs_after, memory_after}
use Rattle.rtl_step.specs.Regs.{Regs, with_reg, reg_value, known_in, known_of}
use Rattle.rtl_step.specs.Value.{of_two, value_of, width_of}
use Rattle.rtl_step.specs.declared.effect.Effect.{Effect}
use Rattle.rtl_step.specs.declared.effect.Effect.TheVariants.{Sets}
use Rattle.rtl_step.specs.declared.regs.Known.{Known}
use Rattle.reg_uses.specs.Effects.{effect_defines, effect_defines_by, place_is, place_is_by}
use Rattle.reg_uses.specs.Effects as uses
use Rattle.reg_uses.specs.Uses.{insn_defines, is_call_kind}
use Rattle.law_window_runs.specs.Insns.{Falls, InsnsCome, insn_comes, insns_come, come_to, come_after, goes_on}
use Rattle.law_window_runs.specs.Uses.{window_defines}
use Rattle.law_window_kept.specs.Same.{SameEnd, DoKeep, CanReplace, leads_last}
use Rattle.insn_fuse.specs.Fused.{pseudo_of, pseudo_by, set_by, set_of}

-- ---- a plain set of a pseudo register, by its parts

pub record SetParts (i : Insn) (register : ℕ) : Type 0 where
  pub target : Rtx
  pub source : Rtx
  pub plain : i.kind ≡ Plain
  pub code_is : (head_of i.pattern).code ≡ Set
  pub kids_are : kids_of i.pattern ≡ target ∷ source ∷ []
  pub target_is : pseudo_of target ≡ Some register

parts_by : (i : Insn) (register : ℕ) (k : Kind) (c : Code) (kids : List Rtx) → i.kind ≡ k → (head_of i.pattern).code ≡ c → kids_of i.pattern ≡ kids → set_by k c kids ≡ Some register → SetParts i register
parts_by i register Plain Set (target ∷ source ∷ []) plain code kids is = record { target = target; source = source; plain = plain; code_is = code; kids_are = kids; target_is = is }
parts_by i register _ _ _ plain code kids is = absurd (let none : ⊥ = cc in none)

pub set_parts : (i : Insn) (register : ℕ) → set_of i ≡ Some register → SetParts i register
set_parts i register is = parts_by i register i.kind (head_of i.pattern).code (kids_of i.pattern) refl refl refl is

-- the tree is a register of this number, which has 32 bits
pub record IsPseudo (x : Rtx) (register : ℕ) : Type 0 where
  pub code_is : (head_of x).code ≡ Reg
  pub number_is : (head_of x).number ≡ pos register
  pub above : pseudo 0 ≤ register
  pub below : register < 2 ^ 32

pseudo_parts : (x : Rtx) (register : ℕ) (c : Code) (n : ℤ) → (head_of x).code ≡ c → (head_of x).number ≡ n → pseudo_by c n ≡ Some register → IsPseudo x register
pseudo_parts x register Reg (pos n) code number is = tested (nat_le (pseudo 0) n && nat_lt n (2 ^ 32)) refl is
  where
    tested : (b : Bool) → (nat_le (pseudo 0) n && nat_lt n (2 ^ 32)) ≡ b → (if b then Some n else None) ≡ Some register → IsPseudo x register
    tested true test some =
        let same : n ≡ register = cc in
        record { code_is = code; number_is = number ∙ ap pos same; above = subst (λ m. pseudo 0 ≤ m) same (grind (arith, nat_tests, test)); below = subst (λ m. m < 2 ^ 32) same (grind (arith, nat_tests, test)) }
    tested false test some = cc
pseudo_parts x register _ _ code number is = absurd (let none : ⊥ = cc in none)

pub is_pseudo : (x : Rtx) (register : ℕ) → pseudo_of x ≡ Some register → IsPseudo x register
is_pseudo x register is = pseudo_parts x register (head_of x).code (head_of x).number refl refl is

-- ---- what such an instruction does

-- another register keeps what is known of it
other_known : (regs : Regs) (t reg : ℕ) (k : Known) (w : Width) → (t ≡ reg → ⊥) → reg_value (with_reg regs t k) reg w ≡ reg_value regs reg w
other_known regs zero reg k w other = refl
other_known regs (suc t) zero k w other = refl
other_known regs (suc t) (suc reg) k w other =
    ap (option_and_then (known_in w)) (get-insert nat_cmp_total regs (suc t) k (suc reg) ∙ ap (λ b. if b then Some k else get regs (suc reg)) (is_other (suc reg) (suc t) other))

-- one register is set, where the value has a meaning
one_set : (register : ℕ) (wide : Option Width) (value : Width → Option ℕ) (es : List Effect) →
    option_map (λ (e : Effect). e ∷ []) (option_and_then (λ w. of_two (λ reg v. Some (Sets reg (known_of w v))) (Some register) (value w)) wide) ≡ Some es → (k : Known) × (es ≡ Sets register k ∷ [])
one_set register None value es is = absurd (let none : ⊥ = cc in none)
one_set register (Some w) value es is = by (value w) is
  where
    by : (o : Option ℕ) → option_map (λ (e : Effect). e ∷ []) (of_two (λ reg v. Some (Sets reg (known_of w v))) (Some register) o) ≡ Some es → (k : Known) × (es ≡ Sets register k ∷ [])
    by None none = absurd (let no : ⊥ = cc in no)
    by (Some v) some = (known_of w v, let same : es ≡ Sets register (known_of w v) ∷ [] = cc in same)

module _ (i : Insn) (register : ℕ) (sets : set_of i ≡ Some register) (symbols : List SymbolAt) (regs : Regs) (memory : List MemByte) where
  parts : SetParts i register
  parts = set_parts i register sets

  target_pseudo : IsPseudo parts.target register
  target_pseudo = is_pseudo parts.target register parts.target_is

  number : cast_unsigned w64 (pos register) ≡ register
  number = let below = target_pseudo.below in grind (arith, below)

  register_is : register_of parts.target ≡ Some register
  register_is =
      ap (λ c. register_by c (head_of parts.target).number (kids_of parts.target)) target_pseudo.code_is
      ∙ (ap (λ n. Some (cast_unsigned w64 n)) target_pseudo.number_is ∙ ap Some number)

  no_address : address_of parts.target ≡ None
  no_address = ap (λ c. address_part c (kids_of parts.target)) target_pseudo.code_is

  abbrev wide : Option Width
  wide = width_of (head_of parts.target).mode

  abbrev value : Width → Option ℕ
  value = value_of symbols regs memory parts.source

  effect_is : effect_of symbols regs memory i.pattern ≡ option_and_then (λ w. of_two (λ reg v. Some (Sets reg (known_of w v))) (Some register) (value w)) wide
  effect_is =
      ap (λ c. effect_by c (kids_of i.pattern) symbols regs memory) parts.code_is
      ∙ (ap (λ ks. effect_by Set ks symbols regs memory) parts.kids_are
      ∙ (ap (λ a. option_and_then (set_place a symbols regs memory parts.target parts.source) wide) no_address
      ∙ ap (λ o. option_and_then (λ w. of_two (λ reg v. Some (Sets reg (known_of w v))) o (value w)) wide) register_is))

  effects_are : effects_of symbols regs memory i.pattern ≡ option_map (λ (e : Effect). e ∷ []) (option_and_then (λ w. of_two (λ reg v. Some (Sets reg (known_of w v))) (Some register) (value w)) wide)
  effects_are = ap (λ c. effects_by c i.pattern symbols regs memory) parts.code_is ∙ ap (option_map (λ (e : Effect). e ∷ [])) effect_is

  comes_by : (ranges : List RangeAt) (came : InsnsCome) (effects : Option (List Effect)) → effects_of symbols regs memory i.pattern ≡ effects →
      option_and_then (λ come. goes_on come.ending come (insns_come symbols ranges [])) (option_map (come_after regs memory) effects) ≡ Some came →
      (k : Known) × (came ≡ come_to (with_reg regs register k) memory Falls)
  comes_by ranges came None are comes = absurd (let no : ⊥ = cc in no)
  comes_by ranges came (Some es) are comes =
      let one = one_set register wide value es (sym effects_are ∙ are) in
      let some : Some (come_to (regs_after es regs) (memory_after es memory) Falls) ≡ Some came = comes in
      let inner : come_to (regs_after es regs) (memory_after es memory) Falls ≡ came = cc in
      let same = subst (λ (e : List Effect). come_to (regs_after e regs) (memory_after e memory) Falls ≡ came) one.1 inner in
      (one.0, sym same)

  comes_to : (ranges : List RangeAt) (came : InsnsCome) → insns_come symbols ranges (i ∷ []) regs memory ≡ Some came →
      (k : Known) × (came ≡ come_to (with_reg regs register k) memory Falls)
  comes_to ranges came comes =
      comes_by ranges came (effects_of symbols regs memory i.pattern) refl
      (sym (ap (λ k. option_and_then (λ come. goes_on come.ending come (insns_come symbols ranges [])) (insn_comes k symbols ranges i regs memory)) parts.plain) ∙ comes)

-- ---- what it defines

defines_by : (i : Insn) (register : ℕ) (parts : SetParts i register) → (reg : ℕ) → insn_defines i reg ≡ place_is reg parts.target
defines_by i register parts reg =
    ap (λ c. list_any (effect_defines reg) (uses.effects_by c (kids_of i.pattern) i.pattern) || (is_call_kind i.kind && is_call_used reg)) parts.code_is
    ∙ (ap (λ k. (effect_defines reg i.pattern || false) || (is_call_kind k && is_call_used reg)) parts.plain
    ∙ (or_none ((effect_defines reg i.pattern || false)) ∙ (or_none (effect_defines reg i.pattern)
    ∙ (ap (λ c. effect_defines_by reg c (kids_of i.pattern)) parts.code_is ∙ ap (effect_defines_by reg Set) parts.kids_are))))

place_by : (x : Rtx) (register reg : ℕ) → IsPseudo x register → place_is reg x ≡ (not (reg == 0) && int_eq (pos register) (pos reg))
place_by x register reg is =
    ap (λ c. place_is_by reg c (kids_of x) x) is.code_is
    ∙ (ap (λ c. not (reg == 0) && is_reg_numbered c (head_of x).number reg) is.code_is
    ∙ ap (λ n. not (reg == 0) && int_eq n (pos reg)) is.number_is)

-- a plain set of a pseudo register defines that alone
pub defines_it : (i : Insn) (register reg : ℕ) → set_of i ≡ Some register → insn_defines i reg ≡ (register == reg)
defines_it i register reg sets =
    let parts = set_parts i register sets in
    let pseudo = is_pseudo parts.target register parts.target_is in
    let above = pseudo.above in
    defines_by i register parts reg ∙ (place_by parts.target register reg pseudo ∙ numbers register reg above)
  where
    numbers : (register reg : ℕ) → pseudo 0 ≤ register → (not (reg == 0) && int_eq (pos register) (pos reg)) ≡ (register == reg)
    numbers register reg above = by (register == reg) refl
      where
        alike : int_eq (pos register) (pos reg) ≡ true → register ≡ reg
        alike is = let same : pos register ≡ pos reg = (Decides-int_eq (pos register) (pos reg)).0 is in cc

        by : (b : Bool) → (register == reg) ≡ b → (not (reg == 0) && int_eq (pos register) (pos reg)) ≡ (register == reg)
        by true test =
            let same : register ≡ reg = grind (arith, nat_tests, test) in
            let some : (reg == 0) ≡ false = grind (arith, nat_tests, above, same) in
            and_from (not (reg == 0)) (int_eq (pos register) (pos reg)) (not_from_false (reg == 0) some) ((Decides-int_eq (pos register) (pos reg)).1 (ap pos same)) ∙ sym test
        by false test =
            and_right (not (reg == 0)) (int_eq (pos register) (pos reg)) (false_from_ne_true (int_eq (pos register) (pos reg)) (λ is. let same = alike is in let none : ⊥ = grind (arith, nat_tests, test, same) in none)) ∙ sym test

-- ---- nothing in its place

module _ (i : Insn) (register : ℕ) (sets : set_of i ≡ Some register) (Live : ℕ → Type 0) (dead : Live register → ⊥) where
  leaves_other : (reg : ℕ) → Live reg → (register ≡ reg → ⊥)
  leaves_other reg lives same = dead (subst Live (sym same) lives)

  undefined : (reg : ℕ) → Live reg → window_defines (i ∷ []) reg ≡ false
  undefined reg lives =
      let other = leaves_other reg lives in
      let apart : (register == reg) ≡ false = grind (arith, nat_tests, other) in
      or_none (insn_defines i reg) ∙ (defines_it i register reg sets ∙ apart)

  does : DoKeep (i ∷ []) [] Live
  does symbols ranges regs other memory came starts comes =
      let is = comes_to i register sets symbols regs memory ranges came comes in
      record {
        done = come_to other memory Falls;
        comes = refl;
        same_end = subst (λ (c : InsnsCome). SameEnd c.ending Falls) (sym is.1) SameEnd.falls;
        memory_is = ap (λ (c : InsnsCome). c.memory) (sym is.1);
        agree = λ reg lives kept w value known.
            starts.passed reg lives (undefined reg lives) w value
            (sym (other_known regs register reg is.0 w (leaves_other reg lives)) ∙ (ap (λ (c : InsnsCome). reg_value c.regs reg w) (sym is.1) ∙ known));
        kept = λ reg low none free w. refl;
      }

  leads : (k : Kind) → i.kind ≡ k → k ≡ Plain → leads_last (i ∷ []) ≡ true
  leads k is plain = ap (λ k. not (is_label_kind k)) (is ∙ plain)

  pub dead_replaced : CanReplace (i ∷ []) [] Live
  dead_replaced = record { before_leads = leads i.kind refl (set_parts i register sets).plain; after_leads = refl; same = does }
