-- What stands for an operand of a chosen plan.
use Rattle.std.proofs.Common.{◌≡◌, ◌≢◌, ◌⊎◌, inl, inr, ℕ, ◌&&◌, ◌||◌, not, if◌then◌else◌, Bool, true, false, List, Option, Some, None, refl, sym, ap, subst, ◌∙◌}
use Rattle.std.proofs.lemmas.Bool.{and_parts}
use Rattle.std.specs.Prelude.{ℤ, pos, negsuc, is_some, slice_get}
use Rattle.law_operands_fetched.specs.rtx_tree.Tree.{reg_of}
use Rattle.law_operands_fetched.specs.rtx_tree.declared.function.Kind.{Kind}
use Rattle.law_operands_fetched.specs.rtx_tree.declared.tree.Rtx.{Rtx}
use Rattle.law_operands_fetched.specs.rtl_func.Shapes.{is_shaped}
use Rattle.law_operands_fetched.proofs.rtl_func.AllPass.{all_pass}
use Rattle.law_operands_fetched.specs.md_match.Pattern.{Ops, operand_numbered, instantiated}
use Rattle.law_operands_fetched.specs.assign.declared.home.HomeOf.{HomeOf}
use Rattle.law_operands_fetched.specs.assign.declared.places.Layout.{Layout}
use Rattle.law_operands_fetched.specs.reload_homes.Homes.{homed}
use Rattle.law_operands_fetched.specs.reload_operands.Put.{in_lowpart}
use Rattle.law_operands_fetched.specs.reload_operands.Directions.{is_input, is_output, is_clobbered, is_hidden}
use Rattle.law_operands_fetched.specs.reload_operands.declared.operand.Operand.{Operand}
use Rattle.law_operands_fetched.specs.reload_moves.Moves.{own_of, base_of, far_of}
use Rattle.law_operands_fetched.specs.reload_moves.Registers.{asks_of}
use Rattle.law_operands_fetched.specs.reload_moves.declared.ask.Ask.{Ask}
use Rattle.law_operands_fetched.specs.reload_moves.declared.part.Part.{Part}
use Rattle.law_operands_fetched.specs.reload_choice.reload_fit.Addressed.{on_register}
use Rattle.law_operands_fetched.specs.reload_choice.Insns.{new_tree, news_of}
use Rattle.law_operands_fetched.specs.reload_choice.Movable.{is_clear}
use Rattle.law_operands_fetched.specs.reload_choice.Sound.{IsPart, IsSoundPlan}
use Rattle.law_operands_fetched.specs.reload_choice.declared.given.Given.{Given}
use Rattle.law_operands_fetched.specs.reload_choice.declared.given.Plan.{Plan}
use Rattle.law_reload_moves.specs.Chosen.{chosen_from}
use Rattle.law_operands_fetched.specs.law_operands_replaced.Places.{StandsFor}
use Rattle.law_reload_moves.proofs.Matched.{places}
use Rattle.law_reload_moves.proofs.NewsLaws.{new_for, operand_of_match, moved_place, result_numbered}

-- a moved operand's new tree is its register
pub moved_tree : (asks : List Ask) (p : Part) (x : Operand) (r : Rtx) → p.is_moved ≡ true → new_tree asks p x ≡ Some r → r ≡ reg_of x.mode (own_of asks p)
moved_tree asks p x r moved is =
    let e : Some (reg_of x.mode (own_of asks p)) ≡ Some r =
    sym (ap (λ b. if b then Some (reg_of x.mode (own_of asks p)) else if p.needs.has_base then Some (on_register (base_of asks p) x)
    else if is_some p.needs.far then Some (on_register (far_of asks p) x) else None) moved) ∙ is in
    let same : reg_of x.mode (own_of asks p) ≡ r = cc in sym same

-- one that stays and has a new tree has a register in its address
pub stays_addressed : (asks : List Ask) (p : Part) (x : Operand) (r : Rtx) → p.is_moved ≡ false → new_tree asks p x ≡ Some r →
    (p.needs.has_base || is_some p.needs.far) ≡ true
stays_addressed asks p x r stays is = by p.needs.has_base (is_some p.needs.far)
    (sym (ap (λ b. if b then Some (reg_of x.mode (own_of asks p)) else if p.needs.has_base then Some (on_register (base_of asks p) x)
    else if is_some p.needs.far then Some (on_register (far_of asks p) x) else None) stays) ∙ is)
  where
    by : (b c : Bool) → (if b then Some (on_register (base_of asks p) x) else if c then Some (on_register (far_of asks p) x) else None) ≡ Some r → (b || c) ≡ true
    by true c is = refl
    by false true is = refl
    by false false is = absurd (let no : ⊥ = cc in no)

pub untrue : (b : Bool) → not b ≡ true → b ≡ false
untrue true is = absurd (let no : ⊥ = cc in no)
untrue false is = refl

clear_by : (low addressed : Bool) → (not low || not addressed) ≡ true → addressed ≡ true → low ≡ false
clear_by true true is has = absurd (let no : ⊥ = cc in no)
clear_by true false is has = absurd (let no : ⊥ = cc in no)
clear_by false addressed is has = refl

module _ (homes : List HomeOf) (layout : Layout) (kind : Kind) (w pattern : Rtx) (found : Ops) (plan : Plan) where
  abbrev pub given : Given
  given = chosen_from homes layout kind w pattern found

  abbrev pub asks : List Ask
  asks = asks_of plan.parts

  abbrev pub news : Ops
  news = news_of asks given.operands plan.parts

  -- what is known of an operand
  pub record IsKnown (x : Operand) : Type 0 where
    pub was : Rtx
    pub found_is : operand_numbered found (pos x.number) ≡ Some was
    pub tree_is : x.tree ≡ homed homes layout was
    pub lowpart : x.in_lowpart ≡ in_lowpart pattern w x.number
    pub input : x.is_input ≡ is_input pattern x.number
    pub output : x.is_output ≡ is_output pattern x.number
    pub clobbered : x.is_clobbered ≡ is_clobbered pattern x.number
    pub hidden : x.is_hidden ≡ is_hidden pattern x.number

  pub known_of : (i : ℕ) (x : Operand) → slice_get given.operands i ≡ Some x → IsKnown x
  known_of i x is =
      let o = operand_of_match pattern found w (homed homes layout w) homes layout i x is in record {
        was = o.was;
        found_is = o.found_is;
        tree_is = ap (λ (x : Operand). x.tree) o.operand_is;
        lowpart = ap (λ (x : Operand). x.in_lowpart) o.operand_is;
        input = ap (λ (x : Operand). x.is_input) o.operand_is;
        output = ap (λ (x : Operand). x.is_output) o.operand_is;
        clobbered = ap (λ (x : Operand). x.is_clobbered) o.operand_is;
        hidden = ap (λ (x : Operand). x.is_hidden) o.operand_is;
      }

  module _ (made : instantiated pattern found ≡ Some w) (shaped : all_pass is_shaped w ≡ true) (sound : IsSoundPlan given plan) where
    -- what is new at a place: the new tree of the operand that stands there
    pub record IsNewAt (number : ℤ) (z r : Rtx) : Type 0 where
      pub at : ℕ
      pub p : Part
      pub x : Operand
      pub part : IsPart given plan at p x
      pub number_is : number ≡ pos x.number
      pub tree_is : z ≡ x.tree
      pub new_is : new_tree asks p x ≡ Some r
      pub result_is : result_numbered asks given.operands plan.parts number ≡ moved_place p
      pub clear : x.in_lowpart ≡ false

    is_clear_of : (at : ℕ) (p : Part) (x : Operand) (r : Rtx) → IsPart given plan at p x → new_tree asks p x ≡ Some r → x.in_lowpart ≡ false
    is_clear_of at p x r part is = by p.is_moved refl
      where
        by : (b : Bool) → p.is_moved ≡ b → x.in_lowpart ≡ false
        by true moved = sound.moved_clear at p x part moved
        by false stays = clear_by x.in_lowpart (p.needs.has_base || is_some p.needs.far) (sound.clear at p x part) (stays_addressed asks p x r stays is)

    pub new_at : (number : ℤ) (z r : Rtx) → StandsFor pattern (homed homes layout w) number z → operand_numbered news number ≡ Some r → IsNewAt number z r
    new_at (negsuc k) z r stands has = absurd (let no : ⊥ = cc in no)
    new_at (pos k) z r stands has =
        let n = new_for asks given.operands plan.parts k r has in
        let part : IsPart given plan n.at n.p n.x = record { stands = n.stands; of = n.of } in
        let known = known_of n.p.place n.x n.of in
        let clear = is_clear_of n.at n.p n.x r part n.new_is in
        record {
          at = n.at;
          p = n.p;
          x = n.x;
          part = part;
          number_is = ap pos (sym n.number_is);
          tree_is = elim (places homes layout found pattern (homed homes layout w) (pos k) z stands w made refl shaped) [
            | inl is ↦
                let same : Some is.was ≡ Some known.was = sym is.found_is ∙ ap (λ k. operand_numbered found (pos k)) (sym n.number_is) ∙ known.found_is in
                let trees : is.was ≡ known.was = cc in is.tree_is ∙ ap (homed homes layout) trees ∙ sym known.tree_is
            | inr low ↦
                let e : true ≡ false = sym (low n.x.number false (ap pos (sym n.number_is))) ∙ sym known.lowpart ∙ clear in
                absurd (let no : ⊥ = cc in no)
          ];
          new_is = n.new_is;
          result_is = n.result_is;
          clear = clear;
        }
