-- The moves of a sound plan lead to what they should, so a function that is reloaded keeps its runs
-- under homes.
use Rattle.std.proofs.Common.{◌≡◌, ℕ, true, false, List, [], ◌∷◌, Some}
use Rattle.std.specs.Prelude.{slice_get}
use Rattle.rtx_tree.specs.declared.function.Function.{Function}
use Rattle.rtx_tree.specs.declared.function.Insn.{Insn}
use Rattle.rtx_tree.specs.declared.tree.Rtx.{Rtx}
use Rattle.rtl_func.proofs.AllPass.{all_pass}
use Rattle.rtl_step.specs.declared.step.State.{State}
use Rattle.md_match.specs.Pattern.{Ops}
use Rattle.md_forms.specs.declared.form.Entry.{Entry}
use Rattle.assign.specs.Frame.{IsFrame}
use Rattle.assign.specs.Homes.{AreHomes}
use Rattle.assign.specs.declared.home.HomeOf.{HomeOf}
use Rattle.assign.specs.declared.places.Layout.{Layout}
use Rattle.reload.specs.law_pass_needs.Reloadable.{IsReloadable}
use Rattle.law_homes.proofs.Setting.{Setting, StandsIn}
use Rattle.law_reload_moves.specs.reload_operands.declared.operand.Operand.{Operand}
use Rattle.law_reload_moves.specs.reload_choice.Insns.{between, insns_before, insns_after}
use Rattle.law_reload_moves.specs.reload_choice.declared.given.Plan.{Plan}
use Rattle.reload.specs.Reload.{placed, given_by, patterns_at}
use Rattle.reload.specs.Windows.{HasWindows}
use Rattle.law_reload_moves.specs.law_operands_replaced.Places.{is_leaf}
use Rattle.law_reload_moves.proofs.CallInner.{plan_results}
use Rattle.law_reload_moves.proofs.InputPlaces.{no_operator_of}
use Rattle.law_reload_moves.proofs.law_operands_fetched.Keeping.{Stay}
use Rattle.law_reload_moves.proofs.Leads as leads
use Rattle.law_reload_moves.proofs.PlainAround.{none_behind}
use Rattle.law_reload_moves.proofs.PlainLeads.{plain_leads}
use Rattle.law_reload_moves.proofs.Reloaded.{IsReloaded}
use Rattle.law_reload_moves.proofs.ResultKeys.{none_places}
use Rattle.law_reload.specs.Homes.{HasHomes}
use Rattle.law_reload.specs.Keeps.{KeepsUnderHomes}
use Rattle.law_reload.proofs.Chain.{windows_keep}
use Rattle.law_reload.proofs.Kept.{kept_too}
use Rattle.law_reload.proofs.Law.{setting_of}
use Rattle.law_reload.proofs.Moved.{MovesLead}
use Rattle.law_reload.proofs.Placeable.{can_be_placed}
use Rattle.law_reload.proofs.Reloading.{IsPlanned, planned_of}

-- What is asked of the patterns of forms: a placeholder of an operand has no parts, and the number
-- of an operator is none of another operand.
pub record PatternsAreSound (forms : List Entry) : Type 0 where
  pub leaves : (form : ℕ) (pattern : Rtx) → patterns_at forms form ≡ pattern ∷ [] →
      all_pass is_leaf pattern ≡ true
  pub operators : (homes : List HomeOf) (layout : Layout) (i : Insn) (form : ℕ) (pattern : Rtx)
      (found : Ops) (j : ℕ) (x : Operand) → patterns_at forms form ≡ pattern ∷ [] →
      slice_get (given_by homes layout i pattern found).operands j ≡ Some x →
      x.is_operator ≡ false →
      all_pass (no_operator_of x.number) pattern ≡ true

module _ (forms : List Entry) (patterns : PatternsAreSound forms) where
  planned : (c : Setting) (i : Insn) (form : ℕ) (pattern : Rtx) (found : Ops) (plan : Plan) →
      IsPlanned forms c i form pattern found plan → IsReloaded c i pattern found plan
  planned c i form pattern found plan p = record {
    matched = p.matched;
    sound = p.sound;
    shaped = p.shaped;
    natural = p.reloadable.natural;
    vars = p.vars;
    leaves = patterns.leaves form pattern p.pattern_is;
    operators = λ j x at none. patterns.operators c.homes c.layout i form pattern found j x
        p.pattern_is at none;
  }

  told_at : (c : Setting) (place : ℕ) (s u : State) → StandsIn c place s u →
      Stay c.f.locals c.layout c.start u u.regs u.memory
  told_at c place s u stands = kept_too c.layout c.f.locals c.start u c.lawful.words stands.kept

  -- the moves of one instruction
  moves_lead : (c : Setting) (g : Function) (place : ℕ) (i : Insn)
      (at : slice_get c.f.insns place ≡ Some i) (form : ℕ) (pattern : Rtx) (found : Ops)
      (plan : Plan) →
      IsPlanned forms c i form pattern found plan →
      let given = given_by c.homes c.layout i pattern found in
      MovesLead c g place i at (insns_before given.operands plan.parts)
      (between given.pattern given.operands plan.parts given.insn)
      (insns_after given.operands plan.parts)
  moves_lead = λ c g place i at form pattern found plan p.
      let is = planned c i form pattern found plan p in record {
        plain_leads = λ plain s u stands memory es does insns rest q are there.
            plain_leads c place i at pattern found plan is s u stands memory
            (told_at c place s u stands) g plain es does insns rest q are there;
        jump_leads = λ jump s u stands memory way goes insns rest q are there.
            let m = leads.jump_leads c place i at pattern found plan is s u stands memory
            (told_at c place s u stands) g jump way goes insns rest q are there in record {
              comes = record {
                next_place = m.comes.next_place;
                q = m.comes.q;
                regs = m.comes.regs;
                steps = m.comes.steps;
                stands = m.comes.stands_there;
                keeps = m.comes.keeps;
              };
              goes = m.goes;
            };
        call_leads = λ call s u stands memory event tells insns rest q are there.
            let m = leads.call_leads c place i at pattern found plan is s u stands memory
            (told_at c place s u stands) g call event tells insns rest q are there in record {
              comes = record {
                next_place = m.comes.next_place;
                q = m.comes.q;
                regs = m.comes.regs;
                steps = m.comes.steps;
                stands = m.comes.stands_there;
                keeps = m.comes.keeps;
              };
              tells = m.tells;
              width = m.width;
            };
        none_after = λ other. none_behind (given_by c.homes c.layout i pattern found).operands
            plan.parts
            (none_places plan (plan_results c.homes c.layout i.kind (placed c.layout i) pattern
            found plan p.sound other));
      }

  -- A function that can be reloaded keeps its runs under the homes of its registers, where its
  -- instructions stand between the moves of sound plans.
  pub reloaded_keeps : (f g : Function) (homes : List HomeOf) (layout : Layout) → AreHomes f homes →
      IsFrame f homes layout → IsReloadable f →
      HasWindows forms homes layout f g → KeepsUnderHomes f layout g
  reloaded_keeps f g homes layout are frame is windows =
      let has : HasHomes f homes layout = record {
        are_homes = are;
        frame = frame;
        can = can_be_placed f is;
      } in
      windows_keep forms f g homes layout has windows
      (λ start world lawful lawful_world place i at form pattern found plan needs match sound.
      let c = setting_of f homes layout has start world lawful in
      moves_lead c g place i at form pattern found plan
      (planned_of forms c is place i at form pattern found plan needs match sound))
