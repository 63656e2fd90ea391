-- A plain instruction for which a plan is chosen: behind the moves before it, it has its effects, but that a result that is moved sets its own
-- register.
use Rattle.std.proofs.Common.{◌≡◌, ◌≢◌, ◌⊎◌, inl, inr, ℕ, ◌&&◌, not, if◌then◌else◌, Bool, true, false, List, [], ◌∷◌, map, Option, Some, None, refl, sym, ap, subst, ◌∙◌}
use Rattle.std.proofs.lemmas.Bool.{and_parts}
use Rattle.std.specs.List.{list_all}
use Rattle.std.specs.Prelude.{ℤ, pos, slice_get}
use Rattle.law_operands_fetched.specs.rtx_tree.declared.function.Kind.{Kind}
use Rattle.law_operands_fetched.specs.rtx_tree.declared.function.Kind.TheVariants as kinds
use Rattle.law_operands_fetched.specs.rtx_tree.declared.machine.SymbolAt.{SymbolAt}
use Rattle.law_operands_fetched.specs.rtx_tree.declared.memories.MemByte.{MemByte}
use Rattle.law_operands_fetched.specs.rtx_tree.declared.tree.Rtx.{Rtx}
use Rattle.law_operands_fetched.specs.rtl_func.Kinds.{is_plain_tree, kinds_agree}
use Rattle.law_operands_fetched.specs.rtl_func.Modes.{shapes_agree, call_modes_agree, modes_agree}
use Rattle.law_operands_fetched.specs.rtl_func.Nodes.{nodes_of}
use Rattle.law_operands_fetched.specs.rtl_func.Shapes.{is_effect, is_shaped}
use Rattle.law_operands_fetched.proofs.rtl_func.AllPass.{all_pass}
use Rattle.law_operands_fetched.specs.rtl_step.Effect.{effects_of}
use Rattle.law_operands_fetched.specs.rtl_step.Regs.{Regs}
use Rattle.law_operands_fetched.specs.rtl_step.declared.effect.Effect.{Effect}
use Rattle.law_operands_fetched.specs.sym_insns.Shape.{all_natural}
use Rattle.law_operands_fetched.specs.md_match.Pattern.{Ops}
use Rattle.law_operands_fetched.specs.assign.declared.home.HomeOf.{HomeOf}
use Rattle.law_operands_fetched.specs.assign.declared.places.Layout.{Layout}
use Rattle.law_operands_fetched.specs.reload_homes.Homes.{homed}
use Rattle.law_operands_fetched.specs.reload_operands.Put.{put}
use Rattle.law_operands_fetched.specs.reload_choice.Insns.{between}
use Rattle.law_operands_fetched.specs.reload_choice.Movable.{is_formed_as}
use Rattle.law_operands_fetched.specs.reload_choice.declared.given.Given.{Given}
use Rattle.law_operands_fetched.specs.reload_choice.declared.given.Plan.{Plan}
use Rattle.law_operands_fetched.specs.law_operands_replaced.Spare.{KnowsRest, NamesNoSpare}
use Rattle.law_operands_fetched.proofs.BeforeFetched.{BeforeFetched, before_fetched}
use Rattle.law_reload_moves.proofs.Chosen.{given, news}
use Rattle.law_operands_fetched.proofs.law_operands_replaced.Fetches.{keeps_knows}
use Rattle.law_operands_fetched.proofs.Fetching.{Fetching}
use Rattle.law_reload_moves.proofs.GivenBeside.{none_new, whole_beside}
use Rattle.law_reload_moves.proofs.GivenNews.{own, mode, tree, result_at, Reads, Lost, Free, AreFetched}
use Rattle.law_operands_fetched.proofs.NewPlaces.{new_place}
use Rattle.law_operands_fetched.proofs.NewReads.{new_tree_is}
use Rattle.law_operands_fetched.proofs.law_operands_replaced.NewTrees.{is_whole}
use Rattle.law_reload_moves.proofs.TakenThere.{IsAt}
use Rattle.law_operands_fetched.proofs.law_operands_replaced.WholeTurns.{InsnKeyed, insn_keyed, effects_exist}

-- ---- what is formed

pub record IsFormed (kind : Kind) (y : Rtx) : Type 0 where
  pub effect : is_effect y ≡ true
  pub shaped : all_pass is_shaped y ≡ true
  pub agrees : kinds_agree kind y ≡ true

pub formed_parts : (kind : Kind) (y : Rtx) → is_formed_as kind y ≡ true → IsFormed kind y
formed_parts kind y is =
    let both = and_parts (modes_agree y) (kinds_agree kind y) is in
    let shapes = (and_parts (shapes_agree y) (call_modes_agree y) both.0).0 in
    let parts = and_parts (is_effect y) (list_all is_shaped (nodes_of y)) shapes in
    record { effect = parts.0; shaped = parts.1; agrees = both.1 }

pub plain_pass : (kind : Kind) (y : Rtx) → kind ≡ kinds.Plain → kinds_agree kind y ≡ true → all_pass is_plain_tree y ≡ true
plain_pass kind y is agrees = ap (λ k. kinds_agree k y) (sym is) ∙ agrees

module _ (homes : List HomeOf) (layout : Layout) (kind : Kind) (w pattern : Rtx) (found : Ops) (plan : Plan)
    (symbols : List SymbolAt) (regs : Regs) (m : List MemByte) (sp : ℕ)
    (f : Fetching symbols regs m sp (given homes layout kind w pattern found plan) plan)
    (at : IsAt homes layout found pattern w (homed homes layout w)) where
  abbrev pub g : Given
  g = given homes layout kind w pattern found plan

  -- the instruction with homes put in, and with new trees
  abbrev pub x : Rtx
  x = homed homes layout w

  abbrev pub y : Rtx
  y = between g.pattern g.operands plan.parts g.insn

  -- what is fetched before it
  abbrev pub before : BeforeFetched symbols regs m sp g plan
  before = before_fetched symbols regs m sp g plan f

  abbrev pub other : Regs
  other = before.fetched.after

  pub known : KnowsRest regs other
  known = keeps_knows regs other before.fetched.rest

  pub fetched : AreFetched homes layout kind w pattern found plan f.sound symbols regs other m known at.made at.shaped
  fetched = record {
    new_tree_is = λ i p o tree part may is. new_tree_is symbols regs m sp g plan f other (before.contents other before.fetched.holds) i p o part tree
        (λ moved. (may moved).0) is;
    valued = λ i p o part comes. f.valued i p o part comes;
    place_is = λ i p o tree part stays is. new_place g plan f.sound i p o part (f.operands p.place o part.of) tree stays is;
    modes = λ i p o part. (f.operands p.place o part.of).mode;
  }

  pub formed : IsFormed kind y
  formed = formed_parts kind y f.sound.whole

  abbrev pub Effects : List Effect → Type 0
  Effects es = InsnKeyed symbols regs other m known (own homes layout kind w pattern found plan) (mode homes layout kind w pattern found plan)
      (tree homes layout kind w pattern found plan) (Free homes layout kind w pattern found plan) (result_at homes layout kind w pattern found plan)
      (news homes layout kind w pattern found plan) (Reads homes layout kind w pattern found plan) (Lost homes layout kind w pattern found plan)
      (none_new homes layout kind w pattern found plan f.sound symbols regs other m known at.made at.shaped fetched) pattern x es

  -- its effects, by the operands whose results they are
  pub plain_keyed : kind ≡ kinds.Plain → all_natural x ≡ true → NamesNoSpare x → all_pass is_whole x ≡ true → (es : List Effect) → effects_of symbols regs m x ≡ Some es → Effects es
  plain_keyed plain natural quiet whole es does =
      insn_keyed symbols regs other m known (own homes layout kind w pattern found plan) (mode homes layout kind w pattern found plan)
      (tree homes layout kind w pattern found plan) (Free homes layout kind w pattern found plan) (result_at homes layout kind w pattern found plan)
      (news homes layout kind w pattern found plan) (Reads homes layout kind w pattern found plan) (Lost homes layout kind w pattern found plan)
      (none_new homes layout kind w pattern found plan f.sound symbols regs other m known at.made at.shaped fetched) pattern x es
      (whole_beside homes layout kind w pattern found plan f.sound symbols regs other m known at.made at.shaped fetched (effects_exist symbols regs m x es does))
      (record { natural = natural; quiet = quiet; shaped = formed.shaped; plain = plain_pass kind y plain formed.agrees })
      whole formed.effect does
