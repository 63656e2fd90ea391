-- An instruction of a function for which a plan is chosen: what is known of it and of the state in which it stands.
use Rattle.std.proofs.Common.{◌≡◌, ◌≢◌, ◌⊎◌, inl, inr, ℕ, ◌+◌, ◌<◌, ◌≤◌, Bool, true, false, List, [], ◌∷◌, ◌++◌, Option, Some, None, refl, sym, ap, subst, ◌∙◌, arith}
use Rattle.std.proofs.lemmas.Bool.{and_parts, or_cases, leb-true}
use Rattle.std.proofs.lemmas.Bool.Decides.{nat_tests}
use Rattle.std.specs.List.{AllByRecursion, flat_map, list_all}
use Rattle.std.specs.Prelude.{ℤ, pos, nat_le, option_map, option_and_then, slice_get}
use Rattle.law_operands_fetched.specs.bits64.declared.Width.TheVariants.{W64}
use Rattle.law_operands_fetched.specs.rtx_tree.Registers.{pseudo}
use Rattle.law_operands_fetched.specs.rtx_tree.Tree.{mentions_reg}
use Rattle.law_operands_fetched.specs.rtx_tree.declared.code.Code.TheVariants as code
use Rattle.law_operands_fetched.specs.rtx_tree.declared.function.Insn.{Insn}
use Rattle.law_operands_fetched.specs.rtx_tree.declared.tree.Rtx.{Rtx}
use Rattle.law_operands_fetched.specs.rtl_func.Calls.{is_argument}
use Rattle.law_operands_fetched.specs.rtl_func.Modes.{shapes_agree}
use Rattle.law_operands_fetched.specs.rtl_func.Nodes.{nodes_of}
use Rattle.law_operands_fetched.specs.rtl_func.Shapes.{is_effect, is_register_number, is_shaped}
use Rattle.law_operands_fetched.proofs.rtl_func.AllPass.{all_pass}
use Rattle.law_operands_fetched.specs.rtl_step.declared.step.State.{State}
use Rattle.law_operands_fetched.specs.same_behaviour.Lawful.{IsMemory}
use Rattle.law_operands_fetched.specs.sym_insns.Shape.{is_natural, all_natural}
use Rattle.law_operands_fetched.specs.md_match.Match.{IsAsked, MatchesOne}
use Rattle.law_operands_fetched.specs.md_match.Pattern.{Ops, placeholders, instantiated, all_some}
use Rattle.law_operands_fetched.specs.assign.declared.home.Home.TheVariants.{Hard}
use Rattle.law_operands_fetched.specs.reload_homes.FrameRefs.{framed}
use Rattle.law_operands_fetched.specs.reload_homes.Homes.{home_of, homed}
use Rattle.law_operands_fetched.specs.reload_operands.declared.operand.Operand.{Operand}
use Rattle.law_operands_fetched.specs.reload_choice.Sound.{IsSoundPlan}
use Rattle.law_operands_fetched.specs.reload_choice.declared.given.Given.{Given}
use Rattle.law_operands_fetched.specs.reload_choice.declared.given.Plan.{Plan}
use Rattle.law_operands_fetched.proofs.law_homes.HomesApart.{hard_home, slot_within}
use Rattle.law_operands_fetched.proofs.law_homes.Setting.{Setting, IsNamed, named_of, base, StandsIn, frame_is, slot_room}
use Rattle.law_reload_moves.specs.Chosen.{chosen_from}
use Rattle.law_operands_fetched.specs.law_operands_replaced.Places.{is_leaf}
use Rattle.law_operands_fetched.specs.law_operands_replaced.Spare.{is_spare, NamesNoSpare}
use Rattle.law_reload_moves.proofs.FramedGood.{framed_shaped, framed_natural, framed_register}
use Rattle.law_reload_moves.proofs.FramedTrees.{keeps_vars}
use Rattle.law_operands_fetched.proofs.GivenFetching.{HasFrame, IsMatched}
use Rattle.law_operands_fetched.proofs.HomedQuiet.{HasQuietHomes, homed_quiet}
use Rattle.law_reload_moves.proofs.HomedShaped.{homed_shaped}
use Rattle.law_reload_moves.proofs.HomedTrees.{homed_natural, homed_whole}
use Rattle.law_reload_moves.proofs.InputPlaces.{no_operator_of}
use Rattle.law_operands_fetched.proofs.law_operands_replaced.NewTrees.{is_whole}
use Rattle.law_reload_moves.proofs.TakenThere.{IsAt}

-- what is known of an instruction: it is within the table of codes, a pattern matches it where references to the frame are put in, and a plan
-- is chosen; a placeholder of an operand has no parts, and the number of an operator is none of another operand
pub record IsReloaded (c : Setting) (i : Insn) (pattern : Rtx) (found : Ops) (plan : Plan) : Type 0 where
  pub matched : MatchesOne pattern (framed c.layout.size i.pattern) found
  pub sound : IsSoundPlan (chosen_from c.homes c.layout i.kind (framed c.layout.size i.pattern) pattern found) plan
  pub shaped : shapes_agree i.pattern ≡ true
  pub natural : all_natural i.pattern ≡ true
  pub vars : all_pass keeps_vars i.pattern ≡ true
  pub leaves : all_pass is_leaf pattern ≡ true
  pub operators : (j : ℕ) (x : Operand) →
      slice_get (chosen_from c.homes c.layout i.kind (framed c.layout.size i.pattern) pattern found).operands j ≡ Some x →
      x.is_operator ≡ false → all_pass (no_operator_of x.number) pattern ≡ true

module _ (c : Setting) where
  -- ---- homes

  -- a home of a hard number is such a number still
  home_natural : (reg hard : ℕ) → home_of c.homes reg ≡ Hard hard → is_natural code.Reg (pos reg) ≡ true → is_natural code.Reg (pos hard) ≡ true
  home_natural reg hard is natural = elim (hard_home c.f c.homes c.are_homes reg hard is) [
    | inl among ↦ let most = among.1 in grind (arith, nat_tests, most)
    | inr same ↦ ap (λ k. is_natural code.Reg (pos k)) same ∙ natural
  ]

  home_number : (reg hard : ℕ) → home_of c.homes reg ≡ Hard hard → is_register_number reg ≡ true → is_register_number hard ≡ true
  home_number reg hard is number = elim (hard_home c.f c.homes c.are_homes reg hard is) [
    | inl among ↦ let most = among.1 in grind (arith, nat_tests, most)
    | inr same ↦ ap is_register_number same ∙ number
  ]

  -- none of t3 to t6 is the home of a register that stands in an instruction
  quiet_home : (reg hard : ℕ) → (reg ≡ 2) ⊎ ((reg ≡ 32) ⊎ IsNamed reg) → home_of c.homes reg ≡ Hard hard → is_spare hard ≡ false
  quiet_home reg hard named is = elim (hard_home c.f c.homes c.are_homes reg hard is) [
    | inl among ↦ let most = among.1 in grind (arith, nat_tests, most)
    | inr same ↦ elim named [
      | inl sp ↦ grind (arith, nat_tests, same, sp)
      | inr others ↦ elim others [
        | inl vars ↦ grind (arith, nat_tests, same, vars)
        | inr home ↦ elim (or_cases (is_argument reg) (nat_le (pseudo 0) reg) home.has) [
          | inl argument ↦ let most = leb-true reg 17 (and_parts (nat_le 10 reg) (nat_le reg 17) argument).1 in grind (arith, nat_tests, same, most)
          | inr above ↦ let least : 64 ≤ reg = leb-true 64 reg above in grind (arith, nat_tests, same, least)
        ]
      ]
    ]
  ]

  -- ---- an instruction

  module _ (place : ℕ) (i : Insn) (at : slice_get c.f.insns place ≡ Some i) (pattern : Rtx) (found : Ops) (plan : Plan) (is : IsReloaded c i pattern found plan) where
    -- with its references to the frame put in, and with its homes
    abbrev pub w : Rtx
    w = framed c.layout.size i.pattern

    abbrev pub x : Rtx
    x = homed c.homes c.layout w

    abbrev pub g : Given
    g = chosen_from c.homes c.layout i.kind w pattern found

    pub shaped_nodes : all_pass is_shaped i.pattern ≡ true
    shaped_nodes = (and_parts (is_effect i.pattern) (list_all is_shaped (nodes_of i.pattern)) is.shaped).1

    pub w_shaped : all_pass is_shaped w ≡ true
    w_shaped = framed_shaped c.layout.size i.pattern shaped_nodes is.natural is.vars

    pub w_natural : all_natural w ≡ true
    w_natural = framed_natural c.layout.size i.pattern shaped_nodes is.natural is.vars

    pub w_quiet : HasQuietHomes c.homes c.layout w
    w_quiet reg hard has home = quiet_home reg hard (named (framed_register c.layout.size i.pattern reg has)) home
      where
        named : (2 ≡ reg) ⊎ (mentions_reg reg i.pattern ≡ true) → (reg ≡ 2) ⊎ ((reg ≡ 32) ⊎ IsNamed reg)
        named (inl sp) = inl (sym sp)
        named (inr there) = inr (named_of c place i at reg there)

    pub x_shaped : all_pass is_shaped x ≡ true
    x_shaped = homed_shaped c.homes c.layout home_number w w_shaped w_natural

    pub x_natural : all_natural x ≡ true
    x_natural = homed_natural c.homes c.layout home_natural w w_natural

    pub x_quiet : NamesNoSpare x
    x_quiet = homed_quiet c.homes c.layout w w_quiet

    pub x_whole : all_pass is_whole x ≡ true
    x_whole = homed_whole c.homes c.layout w w_shaped w_natural

    -- what the pattern makes
    one_made : (o : Option Rtx) → all_some (o ∷ []) ≡ Some (w ∷ []) → o ≡ Some w
    one_made None made = absurd (let no : ⊥ = cc in no)
    one_made (Some v) made = let same : v ≡ w = cc in ap Some same

    all_first : (P : Rtx → Type 0) (xs ys : List Rtx) → AllByRecursion P (xs ++ ys) → AllByRecursion P xs
    all_first P [] ys all = tt
    all_first P (v ∷ xs) ys all = (all.0, all_first P xs ys all.1)

    pub stands_at : IsAt c.homes c.layout found pattern w x
    stands_at = record {
      made = one_made (instantiated pattern found) is.matched.made;
      tree_is = refl;
      shaped = w_shaped;
      asked = all_first (IsAsked found) (placeholders pattern) (flat_map placeholders []) is.matched.suits.asked;
      leaf = is.leaves;
    }

    pub matched : IsMatched c.homes c.layout pattern w found
    matched = record {
      matches = is.matched;
      shaped = w_shaped;
      natural = w_natural;
      quiet = w_quiet;
      shapes = λ y shaped natural. homed_shaped c.homes c.layout home_number y shaped natural;
      naturals = λ y shaped natural. homed_natural c.homes c.layout home_natural y natural;
    }

    -- ---- a state

    module _ (s u : State) (stands : StandsIn c place s u) (memory : IsMemory u.memory) where
      pub has_frame : HasFrame c.homes c.layout u.regs u.memory (base c)
      has_frame = record {
        pointer = stands.kept.pointer;
        memory_is = memory;
        within = λ reg home.
            let within = slot_within c.f c.homes c.layout c.frame reg home in
            let above = frame_is c in
            let word = c.lawful.words.sp in
            omega (arith, within, above, word);
        loads = λ reg home. slot_room c place s u stands reg home W64;
        word = let above = frame_is c in let word = c.lawful.words.sp in omega (arith, above, word);
      }
