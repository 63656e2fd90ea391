-- The law of a function that is reloaded, by what the moves of each of its instructions do.
use Rattle.std.proofs.Common.{◌≡◌, ℕ, ◌&&◌, not, Bool, true, false, List, [], ◌∷◌, Some, refl, sym, ap, subst, ◌∙◌}
use Rattle.std.specs.Option.{option_map_or}
use Rattle.std.specs.Prelude.{slice_get}
use Rattle.std.proofs.lemmas.Bool.{false≢true}
use Rattle.rtx_tree.specs.Tree.{head_of}
use Rattle.rtx_tree.specs.declared.function.Function.{Function}
use Rattle.rtx_tree.specs.declared.function.Insn.{Insn}
use Rattle.rtx_tree.specs.declared.function.Kind.{Kind}
use Rattle.rtx_tree.specs.declared.function.Kind.TheVariants as kind
use Rattle.rtx_tree.specs.declared.tree.Rtx.{Rtx}
use Rattle.md_match.specs.Match.{Matches, MatchesOne}
use Rattle.md_match.specs.Pattern.{Ops}
use Rattle.md_forms.specs.declared.form.Entry.{Entry}
use Rattle.reload.specs.form_needs.Needs.{is_kind, is_note, needs_form}
use Rattle.rtl_func.specs.Kinds.{kinds_agree}
use Rattle.rtl_func.specs.Modes.{shapes_agree}
use Rattle.rtl_func.proofs.AllPass.{all_pass}
use Rattle.rtl_step.specs.Step.{is_mark}
use Rattle.assign.specs.Frame.{IsFrame}
use Rattle.assign.specs.Homes.{AreHomes}
use Rattle.assign.specs.declared.home.HomeOf.{HomeOf}
use Rattle.assign.specs.declared.places.Layout.{Layout}
use Rattle.reload.specs.law_pass_needs.Reloadable.{IsInsnReloadable, IsReloadable}
use Rattle.reload.proofs.law_pass_needs.Places.{at_place}
use Rattle.law_homes.proofs.Setting.{Setting}
use Rattle.law_reload_moves.specs.reload_choice.Insns.{between, insns_before, insns_after}
use Rattle.law_reload_moves.specs.reload_choice.Sound.{IsSoundPlan}
use Rattle.law_reload_moves.specs.reload_choice.declared.given.Plan.{Plan}
use Rattle.reload.specs.Reload.{placed, given_by, patterns_in, patterns_by, patterns_at, IsMatch}
use Rattle.reload.specs.Windows.{HasWindows}
use Rattle.law_reload.specs.Homes.{HasHomes}
use Rattle.law_reload.specs.Keeps.{KeepsUnderHomes}
use Rattle.law_reload.proofs.Law.{setting_of}
use Rattle.law_reload.proofs.Moved.{MovesLead}
use Rattle.law_reload.proofs.Chain.{MovesDo, windows_keep}
use Rattle.law_reload.proofs.KeepsVars.{leaves_vars}
use Rattle.law_reload.proofs.EffectsKeep.{vars_kept}
use Rattle.law_reload.proofs.Placeable.{can_be_placed, kind_agrees, shape_agrees}

-- What is known of an instruction that a plan gives moves: the pattern of a form matched it with
-- its references to the frame put in, the plan is sound, and it can be reloaded: it is within the
-- table of codes, of its kind, with registers whose numbers are natural, and changes the address
-- past the locals nowhere.
pub record IsPlanned (forms : List Entry) (c : Setting) (i : Insn) (form : ℕ) (pattern : Rtx)
    (found : Ops) (plan : Plan) : Type 0 where
  pub needs : needs_form i ≡ true
  pub unmarked : is_mark i.kind ≡ false
  pub pattern_is : patterns_at forms form ≡ pattern ∷ []
  pub matched : MatchesOne pattern (placed c.layout i) found
  pub sound : IsSoundPlan (given_by c.homes c.layout i pattern found) plan
  pub reloadable : IsInsnReloadable i
  pub shaped : shapes_agree i.pattern ≡ true
  pub kind : kinds_agree i.kind i.pattern ≡ true
  pub vars : all_pass leaves_vars i.pattern ≡ true

-- the moves of such an instruction lead to what they should, in each function that has them
abbrev pub MovesLeadOn : List Entry → Type 0
MovesLeadOn forms = (c : Setting) (g : Function) (place : ℕ) (i : Insn)
    (at : slice_get c.f.insns place ≡ Some i) (form : ℕ) (pattern : Rtx)
    (found : Ops) (plan : Plan) → IsPlanned forms c i form pattern found plan →
    let given = given_by c.homes c.layout i pattern found in
    MovesLead c g place i at (insns_before given.operands plan.parts)
    (between given.pattern given.operands plan.parts given.insn)
    (insns_after given.operands plan.parts)

-- ---- one instruction

one_matches : (ps : List Rtx) (pattern x : Rtx) (found : Ops) → ps ≡ pattern ∷ [] →
    Matches ps (x ∷ []) found → MatchesOne pattern x found
one_matches ps pattern x found is m = subst (λ (ps : List Rtx). Matches ps (x ∷ []) found) is m

pub matches_of : (forms : List Entry) (layout : Layout) (i : Insn) (form : ℕ) (pattern : Rtx)
    (found : Ops) → IsMatch forms layout i form pattern found →
    MatchesOne pattern (placed layout i) found
matches_of forms layout i form pattern found match =
    let m = match.first.matches in
    let here : patterns_at forms form ≡ m.matches.says.patterns =
    ap (λ e. option_map_or patterns_in e []) m.at ∙ ap patterns_by m.matches.accepted in
    one_matches m.matches.says.patterns pattern (placed layout i) found
    (sym here ∙ match.pattern_is) m.matches.matches.matches.shape

pub unmarked : (k : Kind) (b : Bool) → is_kind k && b ≡ true → is_mark k ≡ false
unmarked kind.Label b is = absurd (false≢true is)
unmarked kind.Barrier b is = absurd (false≢true is)
unmarked _ b is = refl

-- what is known of an instruction of a function that can be reloaded
pub planned_of : (forms : List Entry) (c : Setting) → IsReloadable c.f → (place : ℕ) (i : Insn) →
    slice_get c.f.insns place ≡ Some i → (form : ℕ) (pattern : Rtx) (found : Ops) (plan : Plan) →
    needs_form i ≡ true → IsMatch forms c.layout i form pattern found →
    IsSoundPlan (given_by c.homes c.layout i pattern found) plan →
    IsPlanned forms c i form pattern found plan
planned_of forms c is place i at form pattern found plan needs match sound =
    let one = at_place IsInsnReloadable c.f.insns is.each place i at in
    let none : is_mark i.kind ≡ false = unmarked i.kind (not (is_note (head_of i.pattern).code))
    needs in record {
      needs = needs;
      unmarked = none;
      pattern_is = match.pattern_is;
      matched = matches_of forms c.layout i form pattern found match;
      sound = sound;
      reloadable = one;
      shaped = shape_agrees i one none;
      kind = kind_agrees i one none;
      vars = vars_kept i one none;
    }

module _ (forms : List Entry) (moves : MovesLeadOn forms) where
  moves_do : (c : Setting) (g : Function) → IsReloadable c.f → MovesDo forms c g
  moves_do c g is place i at form pattern found plan needs match sound =
      moves c g place i at form pattern found plan
      (planned_of forms c is place i at form pattern found plan needs match sound)

  -- A function that can be reloaded keeps its runs under the homes of its registers, where its
  -- instructions stand between the moves of sound plans.
  pub reload_keeps : (f g : Function) (homes : List HomeOf) (layout : Layout) → AreHomes f homes →
      IsFrame f homes layout → IsReloadable f →
      HasWindows forms homes layout f g → KeepsUnderHomes f layout g
  reload_keeps f g homes layout are frame is windows =
      let has : HasHomes f homes layout = record {
        are_homes = are;
        frame = frame;
        can =
            can_be_placed f is;
      } in
      windows_keep forms f g homes layout has windows
      (λ start world lawful lawful_world. moves_do (setting_of f homes layout has start world
      lawful) g is)
