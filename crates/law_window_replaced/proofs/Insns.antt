-- Jumps and calls by registers of which as much is known where they use them: they go the same way, and call the same.
use Rattle.std.proofs.Common.{◌≡◌, ℕ, suc, ◌==◌, ◌||◌, if◌then◌else◌, Bool, true, false, List, [], ◌∷◌, Option, Some, None, refl, sym, ap, subst, ◌∙◌}
use Rattle.std.proofs.Common.{arith}
use Rattle.std.proofs.lemmas.Bool.Decides.{nat_tests}
use Rattle.std.specs.List.{list_all, list_any}
use Rattle.std.specs.Prelude.{option_and_then}
use Rattle.bits64.specs.declared.Width.{Width}
use Rattle.bits64.specs.declared.Width.TheVariants.{W64}
use Rattle.rtx_tree.specs.Patterns.{is_pc, label_of}
use Rattle.rtx_tree.specs.Tree.{kids_of, mentions_reg}
use Rattle.rtx_tree.specs.declared.code.Code.{Code}
use Rattle.rtx_tree.specs.declared.code.Code.TheVariants.{Set, Call, Return, IfThenElse, Mem}
use Rattle.rtx_tree.specs.declared.function.ArgUse.{ArgUse}
use Rattle.rtx_tree.specs.declared.machine.RangeAt.{RangeAt}
use Rattle.rtx_tree.specs.declared.machine.SymbolAt.{SymbolAt}
use Rattle.rtx_tree.specs.declared.memories.MemByte.{MemByte}
use Rattle.rtx_tree.specs.declared.tree.Rtx.{Rtx, out-Rtx}
use Rattle.run_memory.specs.RunMemory.{visible}
use Rattle.rtl_step.specs.Call.{is_result, call_by, call_part, target_by, target_of, aligned_target, target_value, arg_of, args_of, event_of}
use Rattle.rtl_step.specs.Effect.{address_part}
use Rattle.rtl_step.specs.Jump as jump
use Rattle.rtl_step.specs.Jump.{jump_of}
use Rattle.rtl_step.specs.Regs.{Regs, reg_value}
use Rattle.rtl_step.specs.Value.{width_of, value_of}
use Rattle.rtl_step.specs.declared.call.ArgValue.{ArgValue}
use Rattle.rtl_step.proofs.Too.{Too, too_then, too_map, too_two}
use Rattle.reg_uses.specs.Effects.{reads, place_reads, effect_uses_by, effects_by, all_use, pattern_uses}
use Rattle.reg_uses.specs.Uses.{has_argument}
use Rattle.law_window_kept.specs.Same.{KnownToo}
use Rattle.sym_insns.specs.Shape.{all_natural}
use Rattle.law_window_replaced.proofs.Known.{both_of, or_first, or_later, Had, values_too}
use Rattle.law_window_replaced.proofs.Trees.{natural_kids, reads_it, mentions_kid}
use Rattle.law_window_replaced.proofs.Effects.{AsMuch}

module _ (symbols : List SymbolAt) (regs others : Regs) (memory : List MemByte) where
  abbrev Known : (ℕ → Bool) → Type 0
  Known uses = AsMuch symbols regs others memory uses

  abbrev HadToo : Rtx → Type 0
  HadToo x = Had symbols regs others memory x

  -- a part of a tree of which as much is known
  part_had : (x : Rtx) (kids : List Rtx) (part : Rtx) → kids_of x ≡ kids → HadToo x →
      ((q : ℕ) → mentions_reg (suc q) part ≡ true → list_any (mentions_reg (suc q)) kids ≡ true) → HadToo part
  part_had x kids part are had stands q is =
      had q (mentions_kid x (suc q) (ap (list_any (mentions_reg (suc q))) are ∙ stands q is))

  naturals : (x : Rtx) (kids : List Rtx) → kids_of x ≡ kids → all_natural x ≡ true → list_all all_natural kids ≡ true
  naturals x kids are natural = ap (list_all all_natural) (sym are) ∙ natural_kids x natural

  -- ---- jumps

  branch_too : (b : Bool) (test label : Rtx) → all_natural test ≡ true → HadToo test →
      Too (if b then jump.branch symbols regs memory test label else None) (if b then jump.branch symbols others memory test label else None)
  branch_too true test label natural had =
      too_two (λ holds uid. Some (jump.chosen holds uid)) (value_of symbols regs memory test W64) (value_of symbols others memory test W64)
      (label_of label) (label_of label) (values_too symbols regs others memory test W64 natural had) (λ v is. is)
  branch_too false test label natural had = λ v is. absurd (let no : ⊥ = cc in no)

  source_too : (code : Code) (kids : List Rtx) (source : Rtx) → kids_of source ≡ kids → all_natural source ≡ true → HadToo source →
      Too (jump.way_by code kids source symbols regs memory) (jump.way_by code kids source symbols others memory)
  source_too IfThenElse (test ∷ label ∷ other ∷ []) source are natural had =
      branch_too (is_pc other) test label (both_of (all_natural test) _ (naturals source (test ∷ label ∷ other ∷ []) are natural)).0
      (part_had source (test ∷ label ∷ other ∷ []) test are had (λ q is. or_first (mentions_reg (suc q) test) _ is))
  source_too _ kids source are natural had = λ v is. is

  pc_too : (b : Bool) (source : Rtx) → all_natural source ≡ true → HadToo source →
      Too (if b then jump.way_of symbols regs memory source else None) (if b then jump.way_of symbols others memory source else None)
  pc_too true source natural had = source_too (out-Rtx source).code (kids_of source) source refl natural had
  pc_too false source natural had = λ v is. absurd (let no : ⊥ = cc in no)

  jump_by_code : (code : Code) (kids : List Rtx) (x : Rtx) → list_all all_natural kids ≡ true →
      Known (λ reg. all_use reg (effects_by code kids x)) → (out-Rtx x).code ≡ code → kids_of x ≡ kids →
      Too (jump.jump_by code kids symbols regs memory) (jump.jump_by code kids symbols others memory)
  jump_by_code Return kids x natural known is are = λ v is. is
  jump_by_code Set (place ∷ source ∷ []) x natural known is are =
      pc_too (is_pc place) source (both_of (all_natural source) _ (both_of (all_natural place) _ natural).1).0
      (λ q stands. known q (uses_source q (or_later (place_reads (suc q) place) _ (reads_it q source stands))))
    where
      uses_source : (q : ℕ) → place_reads (suc q) place || reads (suc q) source ≡ true → all_use (suc q) (effects_by Set (place ∷ source ∷ []) x) ≡ true
      uses_source q uses = or_first _ false (ap (λ c. effect_uses_by (suc q) c (kids_of x) x) is ∙ ap (λ ks. effect_uses_by (suc q) Set ks x) are ∙ uses)
  jump_by_code _ kids x natural known is are = λ v is. absurd (let no : ⊥ = cc in no)

  -- a jump goes the same way
  pub jump_too : (x : Rtx) → all_natural x ≡ true → Known (λ reg. pattern_uses reg x) →
      Too (jump_of symbols regs memory x) (jump_of symbols others memory x)
  jump_too x natural known = jump_by_code (out-Rtx x).code (kids_of x) x (natural_kids x natural) known refl refl

  -- ---- calls

  place_had : (code : Code) (kids : List Rtx) (place target : Rtx) → kids_of place ≡ kids → all_natural place ≡ true → HadToo place →
      address_part code kids ≡ Some target → (all_natural target ≡ true) × HadToo target
  place_had Mem (a ∷ []) place target are natural had is =
      let same : a ≡ target = cc in
      subst (λ x. (all_natural x ≡ true) × HadToo x) same (
        (both_of (all_natural a) _ (naturals place (a ∷ []) are natural)).0,
        part_had place (a ∷ []) a are had (λ q stands. or_first (mentions_reg (suc q) a) _ stands),
      )
  place_had _ kids place target are natural had is = absurd (let no : ⊥ = cc in no)

  call_had : (code : Code) (kids : List Rtx) (x target : Rtx) → kids_of x ≡ kids → all_natural x ≡ true → HadToo x →
      target_by code kids ≡ Some target → (all_natural target ≡ true) × HadToo target
  call_had Call (place ∷ size ∷ []) x target are natural had is =
      place_had (out-Rtx place).code (kids_of place) place target refl
      (both_of (all_natural place) _ (naturals x (place ∷ size ∷ []) are natural)).0
      (part_had x (place ∷ size ∷ []) place are had (λ q stands. or_first (mentions_reg (suc q) place) _ stands)) is
  call_had _ kids x target are natural had is = absurd (let no : ⊥ = cc in no)

  of_call : (x target : Rtx) → all_natural x ≡ true → HadToo x → target_of x ≡ Some target → (all_natural target ≡ true) × HadToo target
  of_call x target natural had is = call_had (out-Rtx x).code (kids_of x) x target refl natural had is

  -- the code of a call's own expression is no set's
  set_is_none : (x target : Rtx) → (out-Rtx x).code ≡ Set → target_of x ≡ Some target → ⊥
  set_is_none x target is at =
      let none : ◌≡◌ {A = Option Rtx} None (Some target) = sym (ap (λ c. target_by c (out-Rtx x).kids) is) ∙ at in cc

  result_had : (b : Bool) (source x target : Rtx) → (out-Rtx x).code ≡ Set → all_natural source ≡ true → HadToo source →
      target_of (if b then source else x) ≡ Some target → (all_natural target ≡ true) × HadToo target
  result_had true source x target is natural had at = of_call source target natural had at
  result_had false source x target is natural had at = absurd (set_is_none x target is at)

  target_had : (code : Code) (kids : List Rtx) (x target : Rtx) → (out-Rtx x).code ≡ code → kids_of x ≡ kids → all_natural x ≡ true →
      Known (λ reg. all_use reg (effects_by code kids x)) → target_of (call_by code kids x) ≡ Some target →
      (all_natural target ≡ true) × HadToo target
  target_had Set (place ∷ source ∷ []) x target is are natural known at =
      let natural' = naturals x (place ∷ source ∷ []) are natural in
      result_had (is_result place) source x target is (both_of (all_natural source) _ (both_of (all_natural place) _ natural').1).0
      (λ q stands. known q (uses_source q (or_later (place_reads (suc q) place) _ (reads_it q source stands)))) at
    where
      uses_source : (q : ℕ) → place_reads (suc q) place || reads (suc q) source ≡ true → all_use (suc q) (effects_by Set (place ∷ source ∷ []) x) ≡ true
      uses_source q uses = or_first _ false (ap (λ c. effect_uses_by (suc q) c (kids_of x) x) is ∙ ap (λ ks. effect_uses_by (suc q) Set ks x) are ∙ uses)
  target_had Call kids x target is are natural known at =
      of_call x target natural (λ q stands. known q (or_first _ false
      (ap (λ c. effect_uses_by (suc q) c (kids_of x) x) is ∙ reads_it q x stands))) at
  target_had _ kids x target is are natural known at = absurd
      (let none : ◌≡◌ {A = Option Rtx} None (Some target) = sym (ap (λ c. target_by c (out-Rtx x).kids) is) ∙ at in
      let no : ⊥ = cc in no)

  target_too : (x : Rtx) (o : Option Rtx) → target_of (call_part x) ≡ o → all_natural x ≡ true → Known (λ reg. pattern_uses reg x) →
      Too (option_and_then (λ target. option_and_then aligned_target (value_of symbols regs memory target W64)) o)
      (option_and_then (λ target. option_and_then aligned_target (value_of symbols others memory target W64)) o)
  target_too x None at natural known = λ v is. absurd (let no : ⊥ = cc in no)
  target_too x (Some target) at natural known =
      let had = target_had (out-Rtx x).code (kids_of x) x target refl refl natural known at in
      too_then aligned_target (value_of symbols regs memory target W64) (value_of symbols others memory target W64)
      (values_too symbols regs others memory target W64 had.0 had.1)

  abbrev an_arg : ArgUse → ℕ → ArgValue
  an_arg arg value = record { reg = arg.reg; mode = arg.mode; value = value }

  arg_known : (reg : ℕ) (w : Option Width) → KnownToo regs others reg →
      Too (option_and_then (reg_value regs reg) w) (option_and_then (reg_value others reg) w)
  arg_known reg None known = λ v is. absurd (let no : ⊥ = cc in no)
  arg_known reg (Some w) known = known w

  same_reg : (reg : ℕ) → (reg == reg) ≡ true
  same_reg reg = grind (arith, nat_tests)

  args_too : (uses : List ArgUse) → ((reg : ℕ) → has_argument reg uses ≡ true → KnownToo regs others reg) →
      Too (args_of regs uses) (args_of others uses)
  args_too [] known = λ v is. is
  args_too (arg ∷ uses) known =
      too_two (λ value args. Some (value ∷ args)) (arg_of regs arg) (arg_of others arg) (args_of regs uses) (args_of others uses)
      (too_map (an_arg arg) (option_and_then (reg_value regs arg.reg) (width_of arg.mode))
      (option_and_then (reg_value others arg.reg) (width_of arg.mode))
      (arg_known arg.reg (width_of arg.mode) (known arg.reg (or_first (arg.reg == arg.reg) _ (same_reg arg.reg)))))
      (args_too uses (λ reg has. known reg (or_later (arg.reg == reg) _ has)))

  -- a call tells the same
  pub event_too : (ranges : List RangeAt) (x : Rtx) (uses : List ArgUse) → all_natural x ≡ true → Known (λ reg. pattern_uses reg x) →
      ((reg : ℕ) → has_argument reg uses ≡ true → KnownToo regs others reg) →
      Too (event_of symbols regs memory ranges x uses) (event_of symbols others memory ranges x uses)
  event_too ranges x uses natural known passed =
      too_two (λ target args. Some (record { target = target; args = args; memory = visible ranges memory }))
      (target_value symbols regs memory x) (target_value symbols others memory x) (args_of regs uses) (args_of others uses)
      (target_too x (target_of (call_part x)) refl natural known) (args_too uses passed)
