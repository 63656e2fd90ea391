-- What sets a register to an operation on two operands is never refused: each is a register or a slot,
-- and the second may be a constant too.
use Rattle.std.proofs.Common.{◌≡◌, ℕ, Bool, true, false, List, [], ◌∷◌, map, Option, Some, None, refl, ap, ◌∙◌}
use Rattle.std.specs.Prelude.{ℤ, slice_get}
use Rattle.rtx_tree.specs.declared.code.Code.{Code}
use Rattle.rtx_tree.specs.declared.code.Mode.{Mode}
use Rattle.rtx_tree.specs.declared.code.Mode.TheVariants.{Void, QI, HI, SI, DI}
use Rattle.rtx_tree.specs.declared.function.Kind.TheVariants.{Plain}
use Rattle.rtx_tree.specs.declared.tree.Rtx.{Rtx}
use Rattle.rtx_tree.specs.Operands.{put_at}
use Rattle.rtx_tree.specs.Tree.{reg_of}
use Rattle.c_eval.specs.Value.{same_mode}
use Rattle.md_match.specs.Pattern.{Ops}
use Rattle.md_text.specs.declared.constraint.Member.{Member}
use Rattle.md_forms.specs.declared.form.Entry.{Entry}
use Rattle.reload_operands.specs.declared.operand.Operand.{Operand}
use Rattle.reload_operands.specs.Put.{put}
use Rattle.reload_moves.specs.declared.fitting.Fitting.{Fitting}
use Rattle.reload_moves.specs.declared.fitting.Needs.{Needs}
use Rattle.reload_moves.specs.declared.part.Part.{Part}
use Rattle.reload_moves.specs.Moved.{is_marked, led_from, parts_of}
use Rattle.reload_moves.specs.Registers.{asks_of}
use Rattle.reload_fit.specs.Addressed.{far_offset}
use Rattle.reload_fit.specs.Fitting.{Asks, fittings_of, fitting_at}
use Rattle.reload_fit.specs.Taken.{takes}
use Rattle.reload_choice.specs.declared.given.Given.{Given}
use Rattle.reload_choice.specs.Insns.{news_of, between}
use Rattle.reload_choice.specs.Movable.{is_mode, is_formed, is_formed_as, formed_of, stays_formed, is_reachable}
use Rattle.reload_choice.proofs.DigitLaws.{same_itself}
use Rattle.plain_forms.specs.Parts as letters
use Rattle.law_plain_untied.proofs.Parts.{stands, settled}
use Rattle.law_plain_untied.proofs.Asked.{result, input, needs, set_of_two}
use Rattle.law_plain_untied.proofs.Led.{first_of_three, second_of_three, third_of_three}
use Rattle.law_plain_known.proofs.Replaced.{new_at}
use Rattle.law_plain_standing.proofs.Sorts as sorts
use Rattle.law_plain_standing.proofs.Sorts.{Sort}
use Rattle.law_plain_standing.proofs.Asked.{IsAsked, TakeRegisters, take_r}
use Rattle.law_plain_standing.proofs.Sits as sits
use Rattle.law_plain_reach.proofs.Tests.{first_true}
use Rattle.law_plain_reach.proofs.Each.{IsOnce, plain_self, input_good, result_good, movable}
use Rattle.law_plain_reach.proofs.News.{StandsFor, new_trees}
use Rattle.law_plain_reach.proofs.Three as three
use Rattle.law_plain_reach.proofs.Binary.{insn}

-- what is needed of an input, as it is moved or stays
input_needs : (b : Bool) (far : Option ℤ) → (b ≡ false → far ≡ None) → needs true false false None far ≡ input b far
input_needs true far stays = refl
input_needs false far stays = ap (needs true false false None) (stays refl)

output_of : (b : Bool) (far : Option ℤ) → (input b far).is_output ≡ false
output_of true far = refl
output_of false far = refl

same_modes : (m : Mode) → same_mode m m ≡ true
same_modes Void = refl
same_modes QI = refl
same_modes HI = refl
same_modes SI = refl
same_modes DI = refl

module _ (asks : Asks) (given : Given) (s t u : Sort) (m n o : Mode) (x0 y0 x1 y1 x2 y2 : Bool) where
  abbrev pub r0 : Operand
  r0 = sorts.operand 0 s m false true x0 y0

  abbrev pub r1 : Operand
  r1 = sorts.operand 1 t n true false x1 y1

  abbrev pub r2 : Operand
  r2 = sorts.operand 2 u o true false x2 y2

  abbrev pub these : List Operand
  these = r0 ∷ r1 ∷ r2 ∷ []

  -- how they stand, as reload sees it
  pub record HowTheyStand : Type 0 where
    pub b : Bool
    pub c : Bool
    pub d : Bool
    pub x : Option ℤ
    pub y : Option ℤ
    pub z : Option ℤ
    pub slot : b ≡ true → sorts.in_slot s ≡ true
    pub first : fitting_at asks these 0 r0 ≡ stands 0 (settled b) (result b x)
    pub second : fitting_at asks these 1 r1 ≡ stands 1 (settled c) (input c y)
    pub third : fitting_at asks these 2 r2 ≡ stands 2 (settled d) (input d z)

  module _ (h : HowTheyStand) where
    abbrev pub fits : List Fitting
    fits = three.fits r0 r1 r2 h.b h.c h.d (result h.b h.x) (input h.c h.y) (input h.d h.z)

    pub fits_are : fittings_of asks these ≡ fits
    fits_are =
        ap (λ f. f ∷ fitting_at asks these 1 r1 ∷ fitting_at asks these 2 r2 ∷ []) h.first ∙
        (ap (λ f. stands 0 (settled h.b) (result h.b h.x) ∷ f ∷ fitting_at asks these 2 r2 ∷ []) h.second ∙
        ap (λ f. stands 0 (settled h.b) (result h.b h.x) ∷ stands 1 (settled h.c) (input h.c h.y) ∷ f ∷ []) h.third)

    abbrev pub parts : List Part
    parts = three.parts r0 r1 r2 h.b h.c h.d (result h.b h.x) (input h.c h.y) (input h.d h.z)

    -- each that is moved may have t3, and the instruction stays within the table with registers there
    module _ (code : Code) (k : Mode) where
      pub record IsHandled : Type 0 where
        pub operands_are : given.operands ≡ these
        pub kind_is : given.kind ≡ Plain
        pub once : IsOnce given.whole
        pub mode_0 : is_mode m ≡ true
        pub mode_1 : is_mode n ≡ true
        pub mode_2 : is_mode o ≡ true
        pub admits_0 : h.b ≡ true → asks.admits 0 (reg_of m 28) ≡ true
        pub admits_1 : h.c ≡ true → asks.admits 1 (reg_of n 28) ≡ true
        pub admits_2 : h.d ≡ true → asks.admits 2 (reg_of o 28) ≡ true
        pub puts : (news : Ops) → put given.pattern news given.insn ≡ insn code k (new_at news 0 (sorts.tree s)) (new_at news 1 (sorts.tree t)) (new_at news 2 (sorts.tree u))
        pub formed : (b c d : Bool) (a0 a1 a2 : Rtx) → StandsFor m (sorts.tree s) b a0 → StandsFor n (sorts.tree t) c a1 → StandsFor o (sorts.tree u) d a2 → is_formed_as Plain (insn code k a0 a1 a2) ≡ true

      module _ (i : IsHandled) where
        -- with new trees
        with_news : (news : Ops) (b c d : Bool) → StandsFor m (sorts.tree s) b (new_at news 0 (sorts.tree s)) → StandsFor n (sorts.tree t) c (new_at news 1 (sorts.tree t)) → StandsFor o (sorts.tree u) d (new_at news 2 (sorts.tree u)) →
            is_formed_as given.kind (put given.pattern news given.insn) ≡ true
        with_news news b c d one two three =
            ap (is_formed_as given.kind) (i.puts news) ∙ (ap (λ kind. is_formed_as kind (insn code k (new_at news 0 (sorts.tree s)) (new_at news 1 (sorts.tree t)) (new_at news 2 (sorts.tree u)))) i.kind_is ∙
            i.formed b c d (new_at news 0 (sorts.tree s)) (new_at news 1 (sorts.tree t)) (new_at news 2 (sorts.tree u)) one two three)

        formed_0 : is_formed given r0 ≡ true
        formed_0 = with_news (put_at [] 0 (reg_of m 28)) true false false (StandsFor.spare 28 (refl, refl)) StandsFor.itself StandsFor.itself

        formed_1 : is_formed given r1 ≡ true
        formed_1 = with_news (put_at [] 1 (reg_of n 28)) false true false StandsFor.itself (StandsFor.spare 28 (refl, refl)) StandsFor.itself

        formed_2 : is_formed given r2 ≡ true
        formed_2 = with_news (put_at [] 2 (reg_of o 28)) false false true StandsFor.itself StandsFor.itself (StandsFor.spare 28 (refl, refl))

        marked : (place : ℕ) (b : Bool) → is_marked (map (is_formed given) these) place ≡ b → is_marked (formed_of given) place ≡ b
        marked place b is = ap (λ xs. is_marked (map (is_formed given) xs) place) i.operands_are ∙ is

        stays : stays_formed given parts ≡ true
        stays =
            let new = new_trees (sorts.told s m false true x0 y0) (sorts.told t n true false x1 y1) (sorts.told u o true false x2 y2) h.b h.c h.d h.x h.y h.z in
            ap (λ xs. is_formed_as given.kind (between given.pattern xs parts given.insn)) i.operands_are ∙ with_news (news_of (asks_of parts) these parts) h.b h.c h.d new.first new.second new.third

        -- ---- one of t3 to t6 is taken

        abbrev row_of : ℕ → List Bool
        row_of place = led_from fits place

        takes_0 : h.b ≡ true → takes asks these fits (row_of 0) m 28 ≡ true
        takes_0 moved =
            ap (λ row. takes asks these fits row m 28) (first_of_three (settled h.b) (settled h.c) (settled h.d) (result h.b h.x) (input h.c h.y) (input h.d h.z)) ∙ first_true (asks.admits 0 (reg_of m 28)) _ (i.admits_0 moved)

        takes_1 : h.c ≡ true → takes asks these fits (row_of 1) n 28 ≡ true
        takes_1 moved =
            ap (λ row. takes asks these fits row n 28) (second_of_three (settled h.b) (settled h.c) (settled h.d) (result h.b h.x) (input h.c h.y) (input h.d h.z)) ∙ first_true (asks.admits 1 (reg_of n 28)) _ (i.admits_1 moved)

        takes_2 : h.d ≡ true → takes asks these fits (row_of 2) o 28 ≡ true
        takes_2 moved =
            ap (λ row. takes asks these fits row o 28) (third_of_three (settled h.b) (settled h.c) (settled h.d) (result h.b h.x) (input h.c h.y) (input h.d h.z)) ∙ first_true (asks.admits 2 (reg_of o 28)) _ (i.admits_2 moved)

        at : (place : ℕ) (x : Operand) → slice_get these place ≡ Some x → slice_get given.operands place ≡ Some x
        at place x is = ap (λ xs. slice_get xs place) i.operands_are ∙ is

        -- ---- so it is reachable

        pub reachable : is_reachable asks given.operands given fits (formed_of given) (parts_of fits) ≡ true
        reachable =
            ap (λ xs. is_reachable asks xs given fits (formed_of given) (parts_of fits)) i.operands_are ∙
            three.reachable r0 r1 r2 h.b h.c h.d (result h.b h.x) (input h.c h.y) (input h.d h.z) asks given (formed_of given) (record {
              operands_are = i.operands_are;
              enough = set_of_two h.b h.c h.d h.x h.y h.z;
              self_0 = plain_self 0 (sorts.told s m false true x0 y0) (same_itself (sorts.tree s)) (same_modes m);
              self_1 = plain_self 1 (sorts.told t n true false x1 y1) (same_itself (sorts.tree t)) (same_modes n);
              self_2 = plain_self 2 (sorts.told u o true false x2 y2) (same_itself (sorts.tree u)) (same_modes o);
              good_0 = result_good given 0 0 h.b (result h.b h.x) (sorts.told s m false true x0 y0) (at 0 r0 refl) i.kind_is i.once h.slot;
              good_1 = input_good given 1 1 h.c (input h.c h.y) (sorts.told t n true false x1 y1) (at 1 r1 refl) (output_of h.c h.y);
              good_2 = input_good given 2 2 h.d (input h.d h.z) (sorts.told u o true false x2 y2) (at 2 r2 refl) (output_of h.d h.z);
              moves_0 = movable asks these fits (formed_of given) 0 0 (sorts.told s m false true x0 y0) h.b (result h.b h.x)
                  (λ moved. record { at = refl; no_operator = refl; moded = i.mode_0; replaced = marked 0 true formed_0; taken = takes_0 moved });
              moves_1 = movable asks these fits (formed_of given) 1 1 (sorts.told t n true false x1 y1) h.c (input h.c h.y)
                  (λ moved. record { at = refl; no_operator = refl; moded = i.mode_1; replaced = marked 1 true formed_1; taken = takes_1 moved });
              moves_2 = movable asks these fits (formed_of given) 2 2 (sorts.told u o true false x2 y2) h.d (input h.d h.z)
                  (λ moved. record { at = refl; no_operator = refl; moded = i.mode_2; replaced = marked 2 true formed_2; taken = takes_2 moved });
              formed_is = stays;
            })

-- ---- how they stand: a result that is a register or a slot

-- an input: a register, a slot, a constant or a symbol
abbrev pub IsInput : Sort → Type 0
IsInput (sorts.memory k address b) = ⊥
IsInput _ = Unit {0}

module _ (forms : List Entry) (asks : Asks) (operands : List Operand) where
  -- an operand stands so
  pub record ResultStands (k : ℕ) (x : Operand) (needed : Bool → Option ℤ → Needs) (slot : Bool) : Type 0 where
    pub moved : Bool
    pub far : Option ℤ
    pub of_slot : moved ≡ true → slot ≡ true
    pub is : fitting_at asks operands k x ≡ stands k (settled moved) (needed moved far)

  module _ (i0 : IsAsked forms asks 0 letters.r) (m : Mode) (x y : Bool) where
    pub result_stands : (s : Sort) → sits.IsTrue s → sits.IsHome s → ResultStands 0 (sorts.operand 0 s m false true x y) result (sorts.in_slot s)
    result_stands (sorts.register k reg) is home = record {
      moved = false;
      far = None;
      of_slot = λ never. absurd (let no : ⊥ = cc in no);
      is = sits.register_fits forms asks 0 letters.r (take_r forms) i0 m false true x y operands 0 k reg is;
    }
    result_stands (sorts.slot k address) is home = record {
      moved = true;
      far = far_offset (sorts.tree (sorts.slot k address));
      of_slot = λ moved. refl;
      is = sits.slot_fits forms asks 0 letters.r (take_r forms) i0 m false true x y operands 0 k address;
    }
    result_stands (sorts.number z) is home = absurd home
    result_stands (sorts.symbol z name) is home = absurd home
    result_stands (sorts.memory k address b) is home = absurd home

  pub record Comes (k : ℕ) (x : Operand) : Type 0 where
    pub moved : Bool
    pub far : Option ℤ
    pub is : fitting_at asks operands k x ≡ stands k (settled moved) (input moved far)

  module _ (k : ℕ) (ms : List Member) (take : TakeRegisters forms ms) (i : IsAsked forms asks k ms) (m : Mode) (x y : Bool) where
    from_sits : (s : Sort) → sits.Sits forms asks k ms take i m true false x y operands k s → Comes k (sorts.operand k s m true false x y)
    from_sits s f = record { moved = f.moved; far = f.far; is = f.is ∙ ap (stands k (settled f.moved)) (input_needs f.moved f.far f.near_if) }

    pub input_comes : (s : Sort) → sits.IsTrue s → IsInput s → Comes k (sorts.operand k s m true false x y)
    input_comes (sorts.register n reg) is of = from_sits (sorts.register n reg) (sits.register_sits forms asks k ms take i m true false x y operands k n reg is)
    input_comes (sorts.slot n address) is of = from_sits (sorts.slot n address) (sits.slot_sits forms asks k ms take i m true false x y operands k n address)
    input_comes (sorts.number z) is of = from_sits (sorts.number z) (sits.number_sits forms asks k ms take i m true false x y operands k z)
    input_comes (sorts.symbol z name) is of = from_sits (sorts.symbol z name) (sits.symbol_sits forms asks k ms take i m true false x y operands k z name)
    input_comes (sorts.memory n address b) is of = absurd of
