-- Jumps, labels and barriers with homes put in: they go the same way, and the states stand beside each other where they lead.
use Rattle.std.proofs.Common.{◌≡◌, ℕ, ◌<◌, ◌&&◌, ◌||◌, inl, inr, Bool, true, false, List, [], ◌∷◌, Option, Some, None, refl, sym, ap, ◌∙◌, ◌≢◌, ◌+◌, drop, length, arith}
use Rattle.std.proofs.lemmas.Bool.{false≢true, or_left, or_right}
use Rattle.std.specs.List.{list_any}
use Rattle.std.specs.Prelude.{is_some, slice_get, if◌then◌else◌}
use Rattle.rtx_tree.specs.Registers.{is_call_used}
use Rattle.rtx_tree.specs.Tree.{head_of, kids_of, mentions_reg}
use Rattle.rtx_tree.specs.declared.code.Code.{Code}
use Rattle.rtx_tree.specs.declared.code.Code.TheVariants.{Set}
use Rattle.rtx_tree.specs.declared.code.Mode.{Mode}
use Rattle.rtx_tree.specs.declared.function.Insn.{Insn}
use Rattle.rtx_tree.specs.declared.function.Kind.{Kind}
use Rattle.rtx_tree.specs.declared.function.Kind.TheVariants as kind
use Rattle.rtx_tree.specs.declared.tree.Rtx.{Rtx}
use Rattle.run_memory.specs.RunMemory.{visible}
use Rattle.rtl_step.specs.Jump.{jump_of}
use Rattle.rtl_step.specs.Step.{is_mark, passed, place_from, result_of, has_result}
use Rattle.rtl_step.specs.declared.jump.Way.{Way}
use Rattle.rtl_step.specs.declared.step.State.{State}
use Rattle.rtl_func.specs.Paths.{leads}
use Rattle.reg_uses.specs.Effects.{place_reads, effect_uses, effect_uses_by, effects_by, pattern_uses, pattern_defines}
use Rattle.reg_uses.specs.Uses.{insn_uses, insn_defines, is_call_kind, is_return, return_uses}
use Rattle.live.specs.Live.{AtEnd, AtUse, Passing}
use Rattle.same_behaviour.proofs.Places.{get_dropped, drop_next}
use Rattle.law_window_lines.proofs.Leads.{leads_on}
use Rattle.law_window_lines.proofs.Sets.{jump_defines}
use Rattle.law_window_lines.proofs.Small.{or_none}
use Rattle.law_homes.specs.Placed.{placed}
use Rattle.law_homes.proofs.Becoming.{positive_test}
use Rattle.law_homes.proofs.Jumps.{SourceKnown, jump_put}
use Rattle.law_homes.proofs.Returns.{result_same}
use Rattle.law_homes.proofs.Setting.{Setting, named_of, StandsIn, machines, are_homed, home_least}
use Rattle.law_homes.proofs.Trees.{mentions_kid}

-- what a return leaves: the same result, and the caller sees the same memory
pub record ReturnsSame (c : Setting) (s u : State) : Type 0 where
  pub has : has_result c.f.result u.regs ≡ true
  pub result_is : result_of c.f.result u.regs ≡ result_of c.f.result s.regs
  pub memory_is : visible u.visible u.memory ≡ visible s.visible s.memory

seen_same : (c : Setting) (place : ℕ) (s u : State) → StandsIn c place s u → visible u.visible u.memory ≡ visible s.visible s.memory
seen_same c place s u stands =
    ap (λ r. visible r u.memory) stands.ranges_too ∙ stands.seen ∙ sym (ap (λ r. visible r s.memory) stands.ranges)

module _ (c : Setting) (place : ℕ) (i : Insn) (at : slice_get c.f.insns place ≡ Some i) (s u : State) (stands : StandsIn c place s u) where
  -- where an instruction that defines nothing leads
  pub passed_stands : ((reg : ℕ) → insn_defines i reg ≡ false) → (q next next' : ℕ) → leads c.f.insns place q ≡ true →
      StandsIn c q (record s { next = next }) (record u { next = next' })
  passed_stands none q next next' leads_on = record {
    values = λ reg has live w v is. stands.values reg has (Passing place q i at (none reg) leads_on live) w v is;
    vars = stands.vars;
    within = stands.within;
    outside = stands.outside;
    room = stands.room;
    seen = stands.seen;
    ranges = stands.ranges;
    ranges_too = stands.ranges_too;
    calls = stands.calls;
    kept = record { pointer = stands.kept.pointer; registers = stands.kept.registers; room = stands.kept.room };
  }

  defines_by : (k : Kind) (reg : ℕ) → i.kind ≡ k → is_call_kind k ≡ false → pattern_defines reg i.pattern ≡ false → insn_defines i reg ≡ false
  defines_by k reg is none_called none =
      ap (λ k. pattern_defines reg i.pattern || (is_call_kind k && is_call_used reg)) is
      ∙ ap (λ b. pattern_defines reg i.pattern || (b && is_call_used reg)) none_called
      ∙ or_none (pattern_defines reg i.pattern) ∙ none

  no_call : (k : Kind) → is_mark k ≡ true → is_call_kind k ≡ false
  no_call kind.Label is = refl
  no_call kind.Barrier is = refl
  no_call _ is = absurd (false≢true is)

  -- ---- labels and barriers

  pub mark_stands : is_mark i.kind ≡ true → (q next next' : ℕ) → leads c.f.insns place q ≡ true → StandsIn c q (record s { next = next }) (record u { next = next' })
  mark_stands mark = passed_stands (λ reg. defines_by i.kind reg refl (no_call i.kind mark) (c.can.marks place reg i at mark))

  -- ---- jumps

  source_uses : (target source : Rtx) (reg : ℕ) → (head_of i.pattern).code ≡ Set → kids_of i.pattern ≡ target ∷ source ∷ [] → 0 < reg →
      mentions_reg reg source ≡ true → pattern_uses reg i.pattern ≡ true
  source_uses target source reg is are some has =
      ap (λ c. list_any (effect_uses reg) (effects_by c (kids_of i.pattern) i.pattern)) is
      ∙ or_left (effect_uses reg i.pattern) false
      (ap (λ c. effect_uses_by reg c (kids_of i.pattern) i.pattern) is ∙ ap (λ kids. effect_uses_by reg Set kids i.pattern) are
      ∙ or_right (place_reads reg target) _ (ap (λ b. b && mentions_reg reg source) (positive_test reg some) ∙ has))

  source_known : (code : Code) (kids : List Rtx) → (head_of i.pattern).code ≡ code → kids_of i.pattern ≡ kids →
      SourceKnown c.homes c.layout (machines c place s u) (are_homed c place s u stands) code kids
  source_known Set (target ∷ source ∷ []) is are = λ reg has. elim (named_of c place i at reg (mentions_kid i.pattern reg
      (ap (list_any (mentions_reg reg)) are ∙ or_right (mentions_reg reg target) _ (or_left (mentions_reg reg source) false has)))) [
        | inl vars ↦ inl vars
        | inr named ↦ inr (record {
          named = named;
          live = AtUse place i at (or_left (insn_uses i reg) _ (or_left (pattern_uses reg i.pattern) _
              (source_uses target source reg is are (let least = home_least reg named.has in omega (arith, least)) has)));
        })
      ]
  source_known _ kids is are = tt

  -- it goes the same way
  pub jump_keeps : (w : Way) → i.kind ≡ kind.Jump → jump_of c.world.symbols s.regs s.memory i.pattern ≡ Some w →
      jump_of c.world.symbols u.regs u.memory (placed c.homes c.layout i.pattern) ≡ Some w
  jump_keeps w jump is = jump_put c.homes c.layout (machines c place s u) (are_homed c place s u stands) i.pattern w (c.can.sized place i at)
      (source_known (head_of i.pattern).code (kids_of i.pattern) refl refl) (c.can.labels place i at jump) is

  pub jump_stands : (w : Way) → i.kind ≡ kind.Jump → jump_of c.world.symbols s.regs s.memory i.pattern ≡ Some w →
      (q next next' : ℕ) → leads c.f.insns place q ≡ true → StandsIn c q (record s { next = next }) (record u { next = next' })
  jump_stands w jump is = passed_stands (λ reg. defines_by kind.Jump reg jump refl (jump_defines c.world.symbols s.regs s.memory i.pattern reg w is))

  -- ---- returns

  return_by : (mode : Option Mode) → c.f.result ≡ mode → is_return i ≡ true → has_result mode s.regs ≡ true →
      (has_result mode u.regs ≡ true) × (result_of mode u.regs ≡ result_of mode s.regs)
  return_by None is returns has = (refl, refl)
  return_by (Some mode) is returns has = result_same c place s u stands
      (AtUse place i at (or_right (insn_uses i 10) _ (ap (λ b. b && return_uses c.f 10) returns ∙ or_left (is_some c.f.result && true) _ (ap (λ m. is_some m && true) is)))) (Some mode) has

  pub return_keeps : is_return i ≡ true → has_result c.f.result s.regs ≡ true → ReturnsSame c s u
  return_keeps returns has =
      let both = return_by c.f.result refl returns has in
      record { has = both.0; result_is = both.1; memory_is = seen_same c place s u stands }

-- ---- labels and barriers in a row, and the end of the chain

module _ (c : Setting) (s u : State) where
  no_jump : (k : Kind) → is_mark k ≡ true → k ≢ kind.Jump
  no_jump kind.Label mark same = let no : ⊥ = cc in no
  no_jump kind.Barrier mark same = let no : ⊥ = cc in no
  no_jump _ mark same = false≢true mark

  passes : (rest : List Insn) (q : ℕ) → drop q c.f.insns ≡ rest → StandsIn c q s u → StandsIn c (passed rest q) s u
  passes [] q there stands = stands
  passes (i ∷ rest) q there stands = by (is_mark i.kind) refl (passes rest (q + 1) (drop_next c.f.insns q i rest there))
    where
      at : slice_get c.f.insns q ≡ Some i
      at = get_dropped c.f.insns q i rest there

      by : (b : Bool) → is_mark i.kind ≡ b → (StandsIn c (q + 1) s u → StandsIn c (passed rest (q + 1)) s u) →
          StandsIn c (if b then passed rest (q + 1) else q) s u
      by true mark more = more (mark_stands c q i at s u stands mark (q + 1) s.next u.next (leads_on c.f.insns q i at (no_jump i.kind mark)))
      by false mark more = stands

  -- they stand beside each other where the first instruction stands
  pub marks_stand : (q : ℕ) → StandsIn c q s u → StandsIn c (place_from c.f.insns q) s u
  marks_stand q stands = passes (drop q c.f.insns) q refl stands

  -- at the end of the chain the function returns
  end_by : (mode : Option Mode) → c.f.result ≡ mode → StandsIn c (length c.f.insns) s u → has_result mode s.regs ≡ true →
      (has_result mode u.regs ≡ true) × (result_of mode u.regs ≡ result_of mode s.regs)
  end_by None is stands has = (refl, refl)
  end_by (Some mode) is stands has = result_same c (length c.f.insns) s u stands
      (AtEnd (or_left (is_some c.f.result && true) _ (ap (λ m. is_some m && true) is))) (Some mode) has

  pub end_keeps : (stands : StandsIn c (length c.f.insns) s u) → has_result c.f.result s.regs ≡ true → ReturnsSame c s u
  end_keeps stands has =
      let both = end_by c.f.result refl stands has in
      record { has = both.0; result_is = both.1; memory_is = seen_same c (length c.f.insns) s u stands }
