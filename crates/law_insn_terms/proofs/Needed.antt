-- What a plain instruction, a jump and a call need of registers is used by their patterns, and by a call's arguments.
use Rattle.std.proofs.lemmas.Bool.Decides.{nat_tests}
use Rattle.std.proofs.Common.{◌≡◌, ℕ, suc, ◌==◌, ◌&&◌, ◌||◌, not, Bool, true, false, List, [], ◌∷◌, ◌++◌, map, Option, Some, None, refl, sym, ◌∙◌, ap, subst, arith}
use Rattle.std.specs.Prelude.{if◌then◌else◌}
use Rattle.std.specs.List.{list_any, AllByRecursion}
use Rattle.bits64.specs.declared.Width.{Width}
use Rattle.bits64.specs.declared.Width.TheVariants.{W8, W64}
use Rattle.rtx_tree.specs.Tree.{is_reg_numbered, mentions_reg}
use Rattle.rtx_tree.specs.declared.code.Code.{Code}
use Rattle.rtx_tree.specs.declared.code.Code.TheVariants as code
use Rattle.rtx_tree.specs.declared.function.ArgUse.{ArgUse}
use Rattle.rtx_tree.specs.declared.tree.Rtx.{Rtx, out-Rtx}
use Rattle.rtx_tree.proofs.Trees.{mentions_out}
use Rattle.rtl_step.specs.Value as rtl
use Rattle.rtl_step.specs.Effect.{address_of, address_part, register_of}
use Rattle.rtl_step.specs.Call as call
use Rattle.reg_uses.specs.Effects as uses
use Rattle.reg_uses.specs.Uses.{has_argument}
use Rattle.term_mean.specs.Stores.{Store}
use Rattle.sym_insns.specs.sym_state.State.{State, Changed, Access}
use Rattle.sym_insns.specs.Value.{Made, made_of}
use Rattle.sym_insns.specs.Effects as spec
use Rattle.law_insn_terms.proofs.CallShapes.{IsCall, alone, sets}
use Rattle.law_insn_terms.proofs.Growth.{jump_test_by, jump_test}
use Rattle.law_insn_terms.proofs.JumpShapes.{Leads, to_label, by_test, IsJump}
use Rattle.law_insn_terms.proofs.Places.{IsNatural, natural_kids}
use Rattle.law_insn_terms.proofs.Plain.{all_needs}
use Rattle.law_insn_terms.proofs.Reading.{NeedsAre, needs_joined, needs_more, read_is, value_needs}
use Rattle.law_insn_terms.proofs.Bools.{or_first, or_later}

-- ---- what stands in a tree is read

reads_as : (q : ℕ) (x : Rtx) → uses.reads (suc q) x ≡ mentions_reg (suc q) x
reads_as q x = let positive : (suc q == 0) ≡ false = grind (arith, nat_tests) in ap (λ b. not b && mentions_reg (suc q) x) positive

-- of a part, it stands in the whole
part_stands : (q : ℕ) (x : Rtx) → list_any (mentions_reg (suc q)) (out-Rtx x).kids ≡ true → mentions_reg (suc q) x ≡ true
part_stands q x is = mentions_out (suc q) x ∙ or_later (is_reg_numbered (out-Rtx x).code (out-Rtx x).number (suc q)) _ is

first_stands : (q : ℕ) (x a : Rtx) (parts : List Rtx) → (out-Rtx x).kids ≡ a ∷ parts → mentions_reg (suc q) a ≡ true → mentions_reg (suc q) x ≡ true
first_stands q x a parts kids is = part_stands q x (ap (list_any (mentions_reg (suc q))) kids ∙ or_first (mentions_reg (suc q) a) _ is)

module _ (regs : List Changed) (stores : List Store) where
  -- ---- one effect

  value_of : (some : ℕ → Bool) (x : Rtx) (w : Width) → IsNatural x → ((q : ℕ) → mentions_reg (suc q) x ≡ true → some (suc q) ≡ true) → NeedsAre regs some (made_of regs stores x w).needs
  value_of some x w natural are = needs_more regs (λ reg. mentions_reg reg x) some are (made_of regs stores x w).needs (value_needs regs stores x w natural)

  register_needs : (some : ℕ → Bool) (o : Option ℕ) (m : Made) → NeedsAre regs some m.needs → NeedsAre regs some (spec.set_register o m).needs
  register_needs some None m are = (tt, tt)
  register_needs some (Some reg) m are = are

  place_needs : (some : ℕ → Bool) (o : Option Rtx) (place source : Rtx) (w : Width) → NeedsAre regs some (made_of regs stores source w).needs →
      ((address : Rtx) → o ≡ Some address → NeedsAre regs some (made_of regs stores address W64).needs) → NeedsAre regs some (spec.set_place o regs stores place source w).needs
  place_needs some None place source w are address = register_needs some (register_of place) (made_of regs stores source w) are
  place_needs some (Some a) place source w are address =
      needs_joined regs some (made_of regs stores source w).needs ((made_of regs stores a W64).needs ++ Access (made_of regs stores a W64).term w ∷ []) are
      (needs_joined regs some (made_of regs stores a W64).needs (Access (made_of regs stores a W64).term w ∷ []) (address a refl) (tt, tt))

  -- the address of a place is its part
  data IsAddress (place address : Rtx) : Type 0 where
    it_is : (out-Rtx place).code ≡ code.Mem → (out-Rtx place).kids ≡ address ∷ [] → IsAddress place address

  address_by : (place address : Rtx) (c : Code) (parts : List Rtx) → (out-Rtx place).code ≡ c → (out-Rtx place).kids ≡ parts → address_part c parts ≡ Some address → IsAddress place address
  address_by place address code.Mem (a ∷ []) is kids there = let same : a ≡ address = cc in it_is is (kids ∙ ap (λ a. a ∷ []) same)
  address_by place address code.Mem [] is kids there = absurd (let no : ⊥ = cc in no)
  address_by place address code.Mem (a ∷ b ∷ parts) is kids there = absurd (let no : ⊥ = cc in no)
  address_by place address c parts is kids there = absurd (let no : ⊥ = cc in no)

  natural_first : (x a : Rtx) (parts : List Rtx) → (out-Rtx x).kids ≡ a ∷ parts → IsNatural x → IsNatural a
  natural_first x a parts kids natural = (subst (AllByRecursion IsNatural) kids (natural_kids x natural)).0

  address_needs : (some : ℕ → Bool) (place address : Rtx) → IsAddress place address → IsNatural place → ((q : ℕ) → uses.place_reads (suc q) place ≡ true → some (suc q) ≡ true) →
      NeedsAre regs some (made_of regs stores address W64).needs
  address_needs some place address (it_is is kids) natural are =
      value_of some address W64 (natural_first place address [] kids natural)
      (λ q stands. are q (ap (λ c. uses.place_reads_by (suc q) c place) is ∙ (reads_as q place ∙ first_stands q place address [] kids stands)))

  set_needs : (some : ℕ → Bool) (place source : Rtx) (o : Option Width) → IsNatural place → IsNatural source → ((q : ℕ) → uses.place_reads (suc q) place ≡ true → some (suc q) ≡ true) →
      ((q : ℕ) → uses.reads (suc q) source ≡ true → some (suc q) ≡ true) → NeedsAre regs some (spec.set_in o regs stores place source).needs
  set_needs some place source None natural natural' first later = (tt, tt)
  set_needs some place source (Some w) natural natural' first later =
      place_needs some (address_of place) place source w (value_of some source w natural' (λ q stands. later q (reads_as q source ∙ stands)))
      (λ address is. address_needs some place address (address_by place address (out-Rtx place).code (out-Rtx place).kids refl refl is) natural first)

  unset_needs : (some : ℕ → Bool) (o : Option ℕ) → NeedsAre regs some (spec.unset o).needs
  unset_needs some None = (tt, tt)
  unset_needs some (Some reg) = tt

  clobber_needs : (some : ℕ → Bool) (c : Code) (o : Option ℕ) → NeedsAre regs some (spec.clobber_by c o).needs
  clobber_needs some code.Mem o = tt
  clobber_needs some code.Scratch o = tt
  clobber_needs some c o = unset_needs some o

  part_by : (x : Rtx) (c : Code) (parts : List Rtx) → AllByRecursion IsNatural parts → NeedsAre regs (λ reg. uses.effect_uses_by reg c parts x) (spec.effect_by c parts regs stores).needs
  part_by x code.Set (place ∷ source ∷ []) natural =
      set_needs (λ reg. uses.place_reads reg place || uses.reads reg source) place source (rtl.width_of (out-Rtx place).mode) natural.0 natural.1.0
      (λ q is. or_first (uses.place_reads (suc q) place) _ is) (λ q is. or_later (uses.place_reads (suc q) place) _ is)
  part_by x code.Use (y ∷ []) natural = tt
  part_by x code.Clobber (place ∷ []) natural = clobber_needs (λ reg. false) (out-Rtx place).code (register_of place)
  part_by x c parts natural = (tt, tt)

  -- a part of an instruction uses what it needs
  part_needs : (x : Rtx) → IsNatural x → NeedsAre regs (λ reg. uses.effect_uses reg x) (spec.effect_of regs stores x).needs
  part_needs x natural = part_by x (out-Rtx x).code (out-Rtx x).kids (natural_kids x natural)

  -- ---- all effects

  parts_need : (parts : List Rtx) → AllByRecursion IsNatural parts → NeedsAre regs (λ reg. uses.all_use reg parts) (all_needs (map (spec.effect_of regs stores) parts))
  parts_need [] natural = tt
  parts_need (x ∷ parts) natural =
      let some : ℕ → Bool = λ reg. uses.all_use reg (x ∷ parts) in
      needs_joined regs some (spec.effect_of regs stores x).needs (all_needs (map (spec.effect_of regs stores) parts))
      (needs_more regs (λ reg. uses.effect_uses reg x) some (λ q is. or_first (uses.effect_uses (suc q) x) _ is) (spec.effect_of regs stores x).needs (part_needs x natural.0))
      (needs_more regs (λ reg. uses.all_use reg parts) some (λ q is. or_later (uses.effect_uses (suc q) x) _ is) (all_needs (map (spec.effect_of regs stores) parts)) (parts_need parts natural.1))

  all_by : (c : Code) (x : Rtx) → IsNatural x → NeedsAre regs (λ reg. uses.all_use reg (uses.effects_by c (out-Rtx x).kids x)) (all_needs (spec.effects_by c x regs stores))
  all_by code.Parallel x natural = parts_need (out-Rtx x).kids (natural_kids x natural)
  all_by c x natural =
      let some : ℕ → Bool = λ reg. uses.effect_uses reg x || false in
      needs_joined regs some (spec.effect_of regs stores x).needs [] (needs_more regs (λ reg. uses.effect_uses reg x) some (λ q is. or_first (uses.effect_uses (suc q) x) false is) (spec.effect_of regs stores x).needs (part_needs x natural)) tt

  pub plain_needs : (x : Rtx) → IsNatural x → NeedsAre regs (λ reg. uses.pattern_uses reg x) (all_needs (spec.effects_of regs stores x))
  plain_needs x natural = all_by (out-Rtx x).code x natural

  -- ---- a pattern that is one effect

  one_uses : (q : ℕ) (x : Rtx) (c : Code) → (out-Rtx x).code ≡ c → uses.effects_by c (out-Rtx x).kids x ≡ x ∷ [] → uses.effect_uses (suc q) x ≡ true → uses.pattern_uses (suc q) x ≡ true
  one_uses q x c is one used =
      ap (λ c. uses.all_use (suc q) (uses.effects_by c (out-Rtx x).kids x)) is ∙ (ap (uses.all_use (suc q)) one ∙ or_first (uses.effect_uses (suc q) x) false used)

  set_uses : (q : ℕ) (x place source : Rtx) → (out-Rtx x).code ≡ code.Set → (out-Rtx x).kids ≡ place ∷ source ∷ [] → uses.reads (suc q) source ≡ true → uses.pattern_uses (suc q) x ≡ true
  set_uses q x place source is kids used =
      one_uses q x code.Set is refl
      (ap (λ c. uses.effect_uses_by (suc q) c (out-Rtx x).kids x) is ∙ (ap (λ parts. uses.effect_uses_by (suc q) code.Set parts x) kids ∙ or_later (uses.place_reads (suc q) place) _ used))

  -- ---- a jump

  test_by : (some : ℕ → Bool) (s : State) → s.regs ≡ regs → s.stores ≡ stores → (source : Rtx) → Leads source → IsNatural source → ((q : ℕ) → mentions_reg (suc q) source ≡ true → some (suc q) ≡ true) →
      NeedsAre regs some (jump_test source s).needs
  test_by some s same same' source (to_label is labelled) natural are =
      subst (λ (m : Made). NeedsAre regs some m.needs) (sym (ap (λ c. jump_test_by c (out-Rtx source).kids s) is)) tt
  test_by some s same same' source (by_test test label other is kids compares labelled pc) natural are =
      let made : Made = made_of regs stores test W8 in
      let there : jump_test source s ≡ made =
      ap (λ c. jump_test_by c (out-Rtx source).kids s) is ∙ (ap (λ parts. jump_test_by code.IfThenElse parts s) kids
      ∙ (ap (λ regs. made_of regs s.stores test W8) same ∙ ap (λ stores. made_of regs stores test W8) same')) in
      subst (λ (m : Made). NeedsAre regs some m.needs) (sym there)
      (value_of some test W8 (natural_first source test (label ∷ other ∷ []) kids natural) (λ q is. are q (first_stands q source test (label ∷ other ∷ []) kids is)))

  pub jump_needs : (s : State) → s.regs ≡ regs → s.stores ≡ stores → (x : Rtx) → IsJump x → IsNatural x → NeedsAre regs (λ reg. uses.pattern_uses reg x) (jump_test (spec.jump_source (out-Rtx x).kids x) s).needs
  jump_needs s same same' x is natural =
      subst (λ source. NeedsAre regs (λ reg. uses.pattern_uses reg x) (jump_test source s).needs) (sym (ap (λ parts. spec.jump_source parts x) is.kids_are))
      (test_by (λ reg. uses.pattern_uses reg x) s same same' is.source is.leads (subst (AllByRecursion IsNatural) is.kids_are (natural_kids x natural)).1.0
      (λ q stands. set_uses q x is.place is.source is.code_is is.kids_are (reads_as q is.source ∙ stands)))

  -- ---- a call

  made_target_needs : (some : ℕ → Bool) (o : Option Rtx) → ((address : Rtx) → o ≡ Some address → NeedsAre regs some (made_of regs stores address W64).needs) → NeedsAre regs some (spec.made_target regs stores o).needs
  made_target_needs some None are = (tt, tt)
  made_target_needs some (Some x) are = are x refl

  data IsTarget (x address : Rtx) : Type 0 where
    it_calls : (place size : Rtx) → (out-Rtx x).kids ≡ place ∷ size ∷ [] → IsAddress place address → IsTarget x address

  target_by : (x address : Rtx) (c : Code) (parts : List Rtx) → (out-Rtx x).kids ≡ parts → call.target_by c parts ≡ Some address → IsTarget x address
  target_by x address code.Call (place ∷ size ∷ []) kids there = it_calls place size kids (address_by place address (out-Rtx place).code (out-Rtx place).kids refl refl there)
  target_by x address code.Call [] kids there = absurd (let no : ⊥ = cc in no)
  target_by x address code.Call (place ∷ []) kids there = absurd (let no : ⊥ = cc in no)
  target_by x address code.Call (place ∷ size ∷ other ∷ parts) kids there = absurd (let no : ⊥ = cc in no)
  target_by x address c parts kids there = absurd (let no : ⊥ = cc in no)

  target_stands : (some : ℕ → Bool) (x address : Rtx) → IsTarget x address → IsNatural x → ((q : ℕ) → mentions_reg (suc q) x ≡ true → some (suc q) ≡ true) → NeedsAre regs some (made_of regs stores address W64).needs
  target_stands some x address (it_calls place size kids (it_is is parts)) natural are =
      value_of some address W64 (natural_first place address [] parts (natural_first x place (size ∷ []) kids natural))
      (λ q stands. are q (first_stands q x place (size ∷ []) kids (first_stands q place address [] parts stands)))

  target_needs : (some : ℕ → Bool) (x : Rtx) → IsNatural x → ((q : ℕ) → mentions_reg (suc q) x ≡ true → some (suc q) ≡ true) → NeedsAre regs some (spec.made_target regs stores (call.target_of x)).needs
  target_needs some x natural are = made_target_needs some (call.target_of x) (λ address is. target_stands some x address (target_by x address (out-Rtx x).code (out-Rtx x).kids refl is) natural are)

  arg_needs : (some : ℕ → Bool) (o : Option Width) (reg : ℕ) → ((q : ℕ) → reg ≡ suc q → some (suc q) ≡ true) → NeedsAre regs some (spec.arg_in o regs reg).needs
  arg_needs some None reg are = (tt, tt)
  arg_needs some (Some w) reg are = read_is regs some reg w are

  pub args_need : (arguments : List ArgUse) → NeedsAre regs (λ reg. has_argument reg arguments) (spec.args_needs regs arguments)
  args_need [] = tt
  args_need (arg ∷ arguments) =
      let some : ℕ → Bool = λ reg. has_argument reg (arg ∷ arguments) in
      needs_joined regs some (spec.made_arg regs arg).needs (spec.args_needs regs arguments)
      (arg_needs some (rtl.width_of arg.mode) arg.reg (λ q same. or_first (arg.reg == suc q) _ (grind (arith, nat_tests, same))))
      (needs_more regs (λ reg. has_argument reg arguments) some (λ q is. or_later (arg.reg == suc q) _ is) (spec.args_needs regs arguments) (args_need arguments))

  -- the target of a call that can be compared
  chosen_needs : (some : ℕ → Bool) (x source : Rtx) (chosen : Bool) → (out-Rtx x).code ≡ code.Set → NeedsAre regs some (spec.made_target regs stores (call.target_of source)).needs →
      NeedsAre regs some (spec.made_target regs stores (call.target_of (if chosen then source else x))).needs
  chosen_needs some x source true is are = are
  chosen_needs some x source false is are = subst (λ o. NeedsAre regs some (spec.made_target regs stores o).needs) (sym (ap (λ c. call.target_by c (out-Rtx x).kids) is)) (tt, tt)

  pub called_needs : (x : Rtx) → IsCall x → IsNatural x → NeedsAre regs (λ reg. uses.pattern_uses reg x) (spec.made_target regs stores (call.target_of (call.call_part x))).needs
  called_needs x (alone is) natural =
      subst (λ part. NeedsAre regs (λ reg. uses.pattern_uses reg x) (spec.made_target regs stores (call.target_of part)).needs) (sym (ap (λ c. call.call_by c (out-Rtx x).kids x) is))
      (target_needs (λ reg. uses.pattern_uses reg x) x natural (λ q stands. one_uses q x code.Call is refl (ap (λ c. uses.effect_uses_by (suc q) c (out-Rtx x).kids x) is ∙ (reads_as q x ∙ stands))))
  called_needs x (sets place source is kids register number moded calls) natural =
      let some : ℕ → Bool = λ reg. uses.pattern_uses reg x in
      let part : call.call_part x ≡ (if call.is_result place then source else x) = ap (λ c. call.call_by c (out-Rtx x).kids x) is ∙ ap (λ parts. call.call_by code.Set parts x) kids in
      subst (λ part. NeedsAre regs some (spec.made_target regs stores (call.target_of part)).needs) (sym part)
      (chosen_needs some x source (call.is_result place) is
      (target_needs some source (subst (AllByRecursion IsNatural) kids (natural_kids x natural)).1.0 (λ q stands. set_uses q x place source is kids (reads_as q source ∙ stands))))
