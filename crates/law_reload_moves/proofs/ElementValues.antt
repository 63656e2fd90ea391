-- What an effect of a pattern takes has a value, where the instruction's effect beside it is made.
use Rattle.std.proofs.Common.{◌≡◌, ◌≢◌, ◌⊎◌, inl, inr, ℕ, ◌&&◌, ◌||◌, Bool, true, false, List, [], ◌∷◌, ◌++◌, length, map, Option, Some, None, refl, sym, ap, subst, ◌∙◌}
use Rattle.std.proofs.lemmas.Bool.{and_parts, or_cases}
use Rattle.std.specs.List.{flat_map, list_all, list_any}
use Rattle.std.specs.Prelude.{ℤ, pos, option_and_then}
use Rattle.law_operands_fetched.specs.rtx_tree.Code.{class_of_code}
use Rattle.law_operands_fetched.specs.rtx_tree.Operands.{operand_at}
use Rattle.law_operands_fetched.specs.rtx_tree.Tree.{RtxHead, head_of, kids_of}
use Rattle.law_operands_fetched.specs.rtx_tree.declared.code.Code.{Code}
use Rattle.law_operands_fetched.specs.rtx_tree.declared.code.Code.TheVariants as code
use Rattle.law_operands_fetched.specs.rtx_tree.declared.machine.SymbolAt.{SymbolAt}
use Rattle.law_operands_fetched.specs.rtx_tree.declared.memories.MemByte.{MemByte}
use Rattle.law_operands_fetched.specs.rtx_tree.declared.tree.Rtx.{Rtx}
use Rattle.law_operands_fetched.specs.rtl_func.Shapes.{mode_at, is_shaped}
use Rattle.law_operands_fetched.proofs.rtl_func.AllPass as nodes
use Rattle.law_operands_fetched.proofs.rtl_func.AllPass.{all_pass}
use Rattle.law_operands_fetched.specs.rtl_step.Effect.{effect_of, address_of, address_part, register_of, register_by}
use Rattle.law_operands_fetched.specs.rtl_step.Regs.{Regs}
use Rattle.law_operands_fetched.specs.rtl_step.Value.{width_of}
use Rattle.law_operands_fetched.specs.rtl_step.declared.effect.Effect.{Effect}
use Rattle.law_operands_fetched.specs.md_constr.Inputs.{taken_in, taken_at_by, taken_at, taken_by_parts, taken_by}
use Rattle.law_operands_fetched.proofs.md_match.Instantiated.{each_made}
use Rattle.law_operands_fetched.specs.md_match.Pattern.{Ops, role_of, operand_of, instantiated}
use Rattle.law_operands_fetched.specs.md_match.declared.role.Role.TheVariants.{Operand, Itself}
use Rattle.law_operands_fetched.specs.assign.declared.home.HomeOf.{HomeOf}
use Rattle.law_operands_fetched.specs.assign.declared.places.Layout.{Layout}
use Rattle.law_operands_fetched.specs.reload_homes.Homes.{homed, register_numbered, register_by as homes_register, register_at}
use Rattle.law_operands_fetched.specs.reload_operands.Directions.{has_number}
use Rattle.law_operands_fetched.proofs.reload_operands.NumberLaws.{has_in_both, has_in_each}
use Rattle.law_operands_fetched.specs.law_operands_replaced.Places.{AtOnePlace, first, later, is_leaf, is_leaf_as}
use Rattle.law_reload_moves.proofs.Besides.{itself_made, beside_head, part_beside}
use Rattle.law_operands_fetched.proofs.law_operands_replaced.ElementTurns.{effect_code}
use Rattle.law_reload_moves.proofs.GivenBeside.{first_of, second_of}
use Rattle.law_reload_moves.proofs.HomedTrees.{lowpart_row, true_code}
use Rattle.law_reload_moves.proofs.InputPlaces.{StandsThere, no_parts, empty}
use Rattle.law_operands_fetched.proofs.law_operands_replaced.InsnTurns.{effect_codes, two_of}
use Rattle.law_reload_moves.proofs.Matched.{IsLow, made_by, made_length, alone, front, no_kids, row_of}
use Rattle.law_operands_fetched.proofs.law_operands_replaced.NewTrees.{is_lowpart, is_lowpart_class, is_whole, whole_low}
use Rattle.law_operands_fetched.proofs.law_operands_replaced.SetValues.{SetReads, set_reads, at_valued}
use Rattle.law_operands_fetched.proofs.law_operands_replaced.SetWidth.{no_register}
use Rattle.law_reload_moves.proofs.TakenThere.{IsAt, part_at, PartThere, taken_there, parts_there}
use Rattle.law_operands_fetched.proofs.law_operands_replaced.Turning.{IsSetting, setting_opened}
use Rattle.law_operands_fetched.proofs.law_operands_replaced.Valued.{HasValue}

-- an effect that takes something stands for itself
pub taken_role : (k : ℕ) (c : Code) (q : Rtx) (kids : List Rtx) → has_number k (taken_by_parts c q kids) ≡ true → role_of c ≡ Itself
taken_role k code.MatchOperand q kids is = absurd (let no : ⊥ = cc in no)
taken_role k code.MatchDup q kids is = absurd (let no : ⊥ = cc in no)
taken_role k code.MatchScratch q kids is = absurd (let no : ⊥ = cc in no)
taken_role k code.MatchOperator q kids is = absurd (let no : ⊥ = cc in no)
taken_role k code.MatchOpDup q kids is = absurd (let no : ⊥ = cc in no)
taken_role k _ q kids is = refl

pub is_subreg : (c : Code) → (c ≡ code.Subreg) ⊎ (c ≢ code.Subreg)
is_subreg code.Subreg = inl refl
is_subreg _ = inr (λ e. let never : ⊥ = cc in never)

pub not_low : (c : Code) (kids : List Rtx) → c ≢ code.Subreg → taken_at_by c kids ≡ flat_map taken_in kids
not_low code.Subreg kids other = absurd (other refl)
not_low _ kids other = refl

pub register_code : (c : Code) (n : ℤ) (kids : List Rtx) (r : ℕ) → register_by c n kids ≡ Some r → (c ≡ code.Reg) ⊎ (c ≡ code.Subreg)
register_code code.Reg n kids r is = inl refl
register_code code.Subreg n kids r is = inr refl
register_code _ n kids r is = absurd (let no : ⊥ = cc in no)

address_kids : (c : Code) (kids : List Rtx) (a : Rtx) → address_part c kids ≡ Some a → kids ≡ a ∷ []
address_kids code.Mem (b ∷ []) a is = let same : b ≡ a = cc in ap (λ x. x ∷ []) same
address_kids _ kids a is = absurd (let no : ⊥ = cc in no)

pub none_at : (ps xs : List Rtx) (q y : Rtx) → AtOnePlace ps xs q y → xs ≡ [] → ⊥
none_at _ _ _ _ (first q y ps xs) is = let no : ⊥ = cc in no
none_at _ _ _ _ (later q y r z ps xs more) is = let no : ⊥ = cc in no

pub one_at : (ps xs : List Rtx) (q y a : Rtx) → AtOnePlace ps xs q y → xs ≡ a ∷ [] → y ≡ a
one_at _ _ _ _ a (first q y ps xs) is = let same : y ≡ a = cc in same
one_at _ _ _ _ a (later q y r z ps xs more) is = absurd (none_at ps xs q y more (let none : xs ≡ [] = cc in none))

module _ (homes : List HomeOf) (layout : Layout) (found : Ops) (symbols : List SymbolAt) (regs : Regs) (m : List MemByte) where
  abbrev hm : Rtx → Rtx
  hm = homed homes layout

  -- the operand with a number has a value
  pub record IsValued (k : ℕ) : Type 0 where
    pub was : Rtx
    pub found_is : operand_at found k ≡ Some was
    pub has : HasValue symbols regs m (hm was)

  pub valued_of : (p x : Rtx) (k : ℕ) → StandsThere homes layout found p x k → all_pass is_shaped x ≡ true → all_pass is_whole x ≡ true → HasValue symbols regs m x → IsValued k
  valued_of p x k there shaped whole has = record {
    was = there.was;
    found_is = there.found_is;
    has = subst (HasValue symbols regs m) there.tree_is (at_valued symbols regs m p x there.q there.y there.at shaped whole has);
  }

  -- nothing is taken inside a low part
  pub low_nothing : (a va t : Rtx) (k : ℕ) → IsAt homes layout found a va t → (head_of a).code ≡ code.Subreg → has_number k (taken_at a) ≡ true → ⊥
  low_nothing a va t k is is_low has =
      let differ : role_of (head_of a).code ≢ Operand = λ o. let no : Itself ≡ Operand = sym (ap role_of is_low) ∙ o in let never : ⊥ = cc in never in
      let m' = made_by homes layout found (role_of (head_of a).code) (operand_of a found) a va refl differ refl is.made in
      let va_is : (head_of va).code ≡ code.Subreg = ap (λ (h : RtxHead). h.code) (itself_made homes layout found a va (ap role_of is_low) is.made) ∙ is_low in
      let row = lowpart_row homes layout (head_of va).code (mode_at va) _ (kids_of va) va_is (row_of va (nodes.itself is_shaped va is.shaped)) in
      let one = alone homes layout found (kids_of a) (made_length homes layout found (kids_of a) m'.parts m'.made ∙ ap length (sym m'.kids_are ∙ row.1.0)) in
      let parts = front homes layout found (instantiated one.0 found) (each_made [] found) m'.parts (sym (ap (λ ps. each_made ps found) one.1) ∙ m'.made) in
      let made_q : instantiated one.0 found ≡ Some row.0 = parts.2 ∙ ap Some (let same : parts.0 ∷ parts.1 ≡ row.0 ∷ [] = parts.4 ∙ sym m'.kids_are ∙ row.1.0 in cc) in
      let inner_shaped : all_pass is_shaped row.0 ≡ true =
      (and_parts (all_pass is_shaped row.0) true (sym (ap (list_all (all_pass is_shaped)) row.1.0) ∙ nodes.within is_shaped va is.shaped)).0 in
      let leaf_q : all_pass is_leaf one.0 ≡ true = (and_parts (all_pass is_leaf one.0) true (sym (ap (list_all (all_pass is_leaf)) one.1) ∙ nodes.within is_leaf a is.leaf)).0 in
      let none = no_parts homes layout found one.0 row.0 made_q
      (no_kids row.0 (true_code homes layout (head_of row.0).code _ row.1.1) (nodes.itself is_shaped row.0 inner_shaped)) leaf_q in
      let e : false ≡ true =
      sym (ap (λ c. has_number k (taken_at_by c (kids_of a))) is_low ∙ ap (λ kids. has_number k (taken_at_by code.Subreg kids)) one.1 ∙
      ap (λ kids. has_number k (flat_map taken_in kids)) none) ∙ has in let no : ⊥ = cc in no

  module _ (q v x : Rtx) (e : Effect) (k : ℕ) (is : IsAt homes layout found q v x) (shaped : all_pass is_shaped x ≡ true) (whole : all_pass is_whole x ≡ true)
      (does : effect_of symbols regs m x ≡ Some e) where
    abbrev Answer : Type 0
    Answer = IsValued k ⊎ IsLow homes layout found q v (pos k)

    module _ (a b t s : Rtx) (is_set : (head_of q).code ≡ code.Set) (are : kids_of q ≡ a ∷ b ∷ []) (set : IsSetting x t s) where
      differ : role_of (head_of q).code ≢ Operand
      differ o = let no : Itself ≡ Operand = sym (ap role_of is_set) ∙ o in let never : ⊥ = cc in never

      none_placed : register_at v ≡ None
      none_placed =
          ap (λ (h : RtxHead). homes_register h.code v (kids_of v)) head ∙ ap (λ c. homes_register c v (kids_of v)) is_set ∙
          ap (λ (h : RtxHead). register_numbered h.code h.number) head ∙ ap (λ c. register_numbered c (head_of q).number) is_set
        where
          head : head_of v ≡ head_of q
          head = itself_made homes layout found q v (ap role_of is_set) is.made

      kids_shaped : list_all (all_pass is_shaped) (t ∷ s ∷ []) ≡ true
      kids_shaped = ap (list_all (all_pass is_shaped)) (sym set.parts) ∙ nodes.within is_shaped x shaped

      kids_whole : list_all (all_pass is_whole) (t ∷ s ∷ []) ≡ true
      kids_whole = ap (list_all (all_pass is_whole)) (sym set.parts) ∙ nodes.within is_whole x whole

      reads : SetReads symbols regs m t s
      reads = set_reads symbols regs m x t s e set shaped does

      source_valued : has_number k (taken_in b) ≡ true → Answer
      source_valued has =
          let at = second_of a b t s (kids_of q) (kids_of x) are set.parts in
          let p = part_beside homes layout found q v x b s is.made is.tree_is is.shaped differ none_placed at in
          elim (taken_there homes layout found b p.was s k (part_at homes layout found q v x b s is differ none_placed at) has) [
            | inl there ↦ inl (valued_of b s k there (and_parts (all_pass is_shaped s) _ (and_parts (all_pass is_shaped t) _ kids_shaped).1).0
                (and_parts (all_pass is_whole s) _ (and_parts (all_pass is_whole t) _ kids_whole).1).0 reads.source)
            | inr low ↦ inr (p.lows (pos k) low)
          ]

      -- the address of memory
      inside_valued : (part : PartThere homes layout found a t k) → Answer
      inside_valued part = by (address_of t) refl
        where
          shaped_t : all_pass is_shaped t ≡ true
          shaped_t = (and_parts (all_pass is_shaped t) _ kids_shaped).0

          whole_t : all_pass is_whole t ≡ true
          whole_t = (and_parts (all_pass is_whole t) _ kids_whole).0

          no_parts_there : (r : Option ℕ) → register_of t ≡ r → address_of t ≡ None → ⊥
          no_parts_there None none' none =
              no_register symbols regs m (width_of (mode_at t)) t s e none none' (sym (setting_opened symbols regs regs m regs x t s set) ∙ does)
          no_parts_there (Some r) is_r none = elim (register_code (head_of t).code (head_of t).number (kids_of t) r is_r) [
            | inl reg ↦ none_at (kids_of a) (kids_of t) part.q part.y part.at (no_kids t reg (nodes.itself is_shaped t shaped_t))
            | inr low ↦
                let e : true ≡ false = sym (ap (λ c. is_lowpart_class (class_of_code c)) low) ∙ whole_low (is_lowpart t) (nodes.itself is_whole t whole_t) in
                let no : ⊥ = cc in no
          ]

          by : (o : Option Rtx) → address_of t ≡ o → Answer
          by None none = absurd (no_parts_there (register_of t) refl none)
          by (Some address) at =
              let kids = address_kids (head_of t).code (kids_of t) address at in
              let same = one_at (kids_of a) (kids_of t) part.q part.y address part.at kids in
              let shaped_a : all_pass is_shaped address ≡ true =
              (and_parts (all_pass is_shaped address) true (sym (ap (list_all (all_pass is_shaped)) kids) ∙ nodes.within is_shaped t shaped_t)).0 in
              let whole_a : all_pass is_whole address ≡ true =
              (and_parts (all_pass is_whole address) true (sym (ap (list_all (all_pass is_whole)) kids) ∙ nodes.within is_whole t whole_t)).0 in
              inl (valued_of part.q address k (subst (λ y. StandsThere homes layout found part.q y k) same part.there) shaped_a whole_a (reads.address address at))

      target_valued : has_number k (taken_at a) ≡ true → Answer
      target_valued has =
          let at = first_of a b t s (kids_of q) (kids_of x) are set.parts in
          let p = part_beside homes layout found q v x a t is.made is.tree_is is.shaped differ none_placed at in
          let is_a = part_at homes layout found q v x a t is differ none_placed at in
          elim (is_subreg (head_of a).code) [
            | inl low ↦ absurd (low_nothing a p.was t k is_a low has)
            | inr other ↦
                let any : list_any (λ part. has_number k (taken_in part)) (kids_of a) ≡ true =
                sym (ap (has_number k) (not_low (head_of a).code (kids_of a) other) ∙ has_in_each k taken_in (kids_of a)) ∙ has in
                elim (parts_there homes layout found a p.was t k is_a (no_operand any is_a.leaf) any) [
                  | inl part ↦ inside_valued part
                  | inr low ↦ inr (p.lows (pos k) low)
                ]
          ]
        where
          no_operand : list_any (λ part. has_number k (taken_in part)) (kids_of a) ≡ true → all_pass is_leaf a ≡ true → role_of (head_of a).code ≢ Operand
          no_operand any leaf o =
              let none = empty homes layout found (kids_of a) (ap (λ r. is_leaf_as r (kids_of a)) (sym o) ∙ nodes.itself is_leaf a leaf) in
              let e : false ≡ true = sym (ap (list_any (λ part. has_number k (taken_in part))) none) ∙ any in let no : ⊥ = cc in no

    set_valued : (t s : Rtx) → (head_of x).code ≡ code.Set → kids_of x ≡ t ∷ s ∷ [] → has_number k (taken_by q) ≡ true → Answer
    set_valued t s x_set are' has =
        let role = taken_role k (head_of q).code q (kids_of q) has in
        let h = beside_head homes layout found q v x is.made is.tree_is role (effect_codes (head_of x).code (inl x_set)) in
        let q_set : (head_of q).code ≡ code.Set = ap (λ (h : RtxHead). h.code) (sym h.0) ∙ x_set in
        let two = two_of (kids_of q) (h.1 ∙ ap length are') in
        let set : IsSetting x t s = record { code_is = x_set; parts = are' } in
        let taken : has_number k (taken_at two.0 ++ taken_in two.1.0) ≡ true =
        sym (ap (λ c. has_number k (taken_by_parts c q (kids_of q))) q_set ∙ ap (λ kids. has_number k (taken_by_parts code.Set q kids)) two.1.1) ∙ has in
        elim (or_cases (has_number k (taken_at two.0)) (has_number k (taken_in two.1.0)) (sym (has_in_both k (taken_at two.0) (taken_in two.1.0)) ∙ taken)) [
          | inl target ↦ target_valued two.0 two.1.0 t s q_set two.1.1 set target
          | inr source ↦ source_valued two.0 two.1.0 t s q_set two.1.1 set source
        ]

    takes_nothing : (c : Code) → (head_of x).code ≡ c → (c ≡ code.Use) ⊎ (c ≡ code.Clobber) → has_number k (taken_by q) ≡ true → ⊥
    takes_nothing c x_is which has =
        let role = taken_role k (head_of q).code q (kids_of q) has in
        let h = beside_head homes layout found q v x is.made is.tree_is role (effect_codes (head_of x).code (inr (subst (λ c. (c ≡ code.Use) ⊎ (c ≡ code.Clobber)) (sym x_is) which))) in
        let q_is : (head_of q).code ≡ c = ap (λ (h : RtxHead). h.code) (sym h.0) ∙ x_is in
        by which q_is
      where
        by : (c ≡ code.Use) ⊎ (c ≡ code.Clobber) → (head_of q).code ≡ c → ⊥
        by (inl same) q_is = let e : false ≡ true = sym (ap (λ c. has_number k (taken_by_parts c q (kids_of q))) (q_is ∙ same)) ∙ has in let no : ⊥ = cc in no
        by (inr same) q_is = let e : false ≡ true = sym (ap (λ c. has_number k (taken_by_parts c q (kids_of q))) (q_is ∙ same)) ∙ has in let no : ⊥ = cc in no

    -- what an effect takes has a value, or stands in a low part
    pub element_valued : has_number k (taken_by q) ≡ true → Answer
    element_valued has = elim (effect_code (head_of x).code (kids_of x) symbols regs m e does) [
      | inl (x_set, (t, (s, are'))) ↦ set_valued t s x_set are' has
      | inr more ↦ elim more [
        | inl (x_use, (t, are')) ↦ absurd (takes_nothing code.Use x_use (inl refl) has)
        | inr (x_clobber, (t, are')) ↦ absurd (takes_nothing code.Clobber x_clobber (inr refl) has)
      ]
    ]
