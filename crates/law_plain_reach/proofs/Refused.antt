-- Reload never refuses what a form that sets a register to an operation on two operands matches.
use Rattle.std.proofs.Common.{◌≡◌, ℕ, ◌<◌, Bool, true, false, List, Some, refl, ap, ◌∙◌}
use Rattle.rtx_tree.specs.declared.code.Code.{Code}
use Rattle.rtx_tree.specs.declared.code.Mode.{Mode}
use Rattle.rtx_tree.specs.declared.function.Kind.TheVariants.{Plain}
use Rattle.rtx_tree.specs.declared.tree.Rtx.{Rtx}
use Rattle.rtx_tree.specs.Code.{mode_or}
use Rattle.rtx_tree.specs.Operands.{operand_at}
use Rattle.rtx_tree.specs.Tree.{head_of}
use Rattle.assign.specs.declared.home.HomeOf.{HomeOf}
use Rattle.assign.specs.declared.places.Layout.{Layout}
use Rattle.md_match.specs.Pattern.{Ops, role_of}
use Rattle.md_match.specs.declared.role.Role.TheVariants.{Itself}
use Rattle.md_operand.specs.Operand.{built_in_named}
use Rattle.md_text.specs.declared.constraint.Member.{Member}
use Rattle.md_forms.specs.declared.form.Entry.{Entry}
use Rattle.md_forms.specs.declared.form.Form.{Form}
use Rattle.reload_fit.specs.md_desc.md_attr.Alternatives.{form_at, alternatives_of}
use Rattle.reload_fit.specs.md_desc.md_attr.Values.{is_enabled}
use Rattle.reload_homes.specs.Homes.{homed}
use Rattle.reload_operands.specs.declared.operand.Operand.{Operand}
use Rattle.reload_operands.specs.Changes.{whole_of}
use Rattle.reload_operands.specs.Put.{put}
use Rattle.reload_operands.specs.Operands.{is_address_predicate, operands_of}
use Rattle.reload_fit.specs.Fitting.{Asks, asks_of, fittings_of}
use Rattle.reload_choice.specs.declared.given.Given.{Given}
use Rattle.reload_choice.specs.Movable.{is_mode, is_formed_as}
use Rattle.plain_forms.specs.Parts as letters
use Rattle.law_plain_standing.proofs.Sorts as sorts
use Rattle.law_plain_standing.proofs.Sorts.{Sort}
use Rattle.law_plain_standing.proofs.Asked.{IsAsked, TakeRegisters, take_r}
use Rattle.law_plain_standing.proofs.Sits as sits
use Rattle.law_plain_standing.proofs.Takes.{admits_spare}
use Rattle.law_plain_homed.proofs.Nodes.{is_home_code}
use Rattle.law_plain_homed.proofs.Leaves.{HasSort}
use Rattle.law_plain_reach.proofs.Each.{IsOnce}
use Rattle.law_plain_reach.proofs.News.{StandsFor}
use Rattle.law_plain_reach.proofs.Constraints.{AsksIn, asks}
use Rattle.law_plain_reach.proofs.Known as known
use Rattle.law_plain_reach.proofs.Binary as binary
use Rattle.law_plain_reach.proofs.Binary.{insn}
use Rattle.law_plain_reach.proofs.Computes as computes
use Rattle.law_plain_reach.proofs.Computes.{IsInput}
use Rattle.law_plain_reach.proofs.Reached.{Reaches}

-- a form whose first alternative takes registers
module _ (forms : List Entry) (form : ℕ) (f : Form) (is : form_at forms form ≡ Some f) (enabled : is_enabled forms form 0 ≡ true) (below : 0 < alternatives_of forms form)
    (ms ns : List Member) (take_1 : TakeRegisters forms ms) (take_2 : TakeRegisters forms ns) (asks_0 : AsksIn forms f.constraints 0 0 letters.r) (asks_1 : AsksIn forms f.constraints 0 1 ms) (asks_2 : AsksIn forms f.constraints 0 2 ns) where
  abbrev the_asks : Asks
  the_asks = asks_of forms form 0

  asked_0 : IsAsked forms the_asks 0 letters.r
  asked_0 = asks forms form f is 0 0 letters.r asks_0

  asked_1 : IsAsked forms the_asks 1 ms
  asked_1 = asks forms form f is 0 1 ms asks_1

  asked_2 : IsAsked forms the_asks 2 ns
  asked_2 = asks forms form f is 0 2 ns asks_2

  module _ (p : List ℕ) (c : Code) (m : Mode) (q : List ℕ) (n : Mode) (r : List ℕ) (o : Mode) (role : role_of c ≡ Itself) (other : is_home_code c ≡ false)
      (homes : List HomeOf) (layout : Layout) (a b d : Rtx) (s t u : Sort) (of_a : HasSort homes layout a s) (of_b : HasSort homes layout b t) (of_d : HasSort homes layout d u) (found : Ops) where
    abbrev pattern : Rtx
    pattern = binary.the_pattern p c m q n r o role other

    abbrev placed : Rtx
    placed = insn c m a b d

    abbrev pub given : Given
    given = record {
      pattern = pattern;
      kind = Plain;
      insn = homed homes layout placed;
      operands = operands_of pattern found placed (homed homes layout placed) homes layout;
      whole = whole_of placed (homed homes layout placed);
    }

    -- what is known of the operands
    pub record AreFound : Type 0 where
      pub at_a : operand_at found 0 ≡ Some a
      pub at_b : operand_at found 1 ≡ Some b
      pub at_d : operand_at found 2 ≡ Some d
      pub moded_a : mode_or (head_of a).mode m ≡ m
      pub moded_b : mode_or (head_of b).mode n ≡ n
      pub moded_d : mode_or (head_of d).mode o ≡ o
      pub mode_0 : is_mode m ≡ true
      pub mode_1 : is_mode n ≡ true
      pub mode_2 : is_mode o ≡ true
      pub address_0 : is_address_predicate (built_in_named p) ≡ false
      pub address_1 : is_address_predicate (built_in_named q) ≡ false
      pub address_2 : is_address_predicate (built_in_named r) ≡ false
      pub home : sits.IsHome s
      pub input_1 : IsInput t
      pub input_2 : IsInput u
      pub true_0 : sits.IsTrue s
      pub true_1 : sits.IsTrue t
      pub true_2 : sits.IsTrue u
      pub once : IsOnce (whole_of placed (homed homes layout placed))
      pub formed : (x y z : Bool) (a0 a1 a2 : Rtx) → StandsFor m (sorts.tree s) x a0 → StandsFor n (sorts.tree t) y a1 → StandsFor o (sorts.tree u) z a2 → is_formed_as Plain (insn c m a0 a1 a2) ≡ true

    module _ (i : AreFound) where
      abbrev changed : ℕ → List ℕ → Mode → (x : Rtx) → (v : Sort) → HasSort homes layout x v → Bool
      changed k name mode x v of = known.changed pattern placed (homed homes layout placed) homes layout k name mode x v of

      abbrev others : ℕ → List ℕ → Mode → (x : Rtx) → (v : Sort) → HasSort homes layout x v → Bool
      others k name mode x v of = known.other pattern placed (homed homes layout placed) homes layout k name mode x v of

      abbrev these : List Operand
      these = computes.these the_asks given s t u m n o (changed 0 p m a s of_a) (others 0 p m a s of_a) (changed 1 q n b t of_b) (others 1 q n b t of_b) (changed 2 r o d u of_d) (others 2 r o d u of_d)

      operands_are : operands_of pattern found placed (homed homes layout placed) homes layout ≡ these
      operands_are =
          binary.operands_are p c m q n r o role other homes layout a b d s t u of_a of_b of_d found i.at_a i.at_b i.at_d
          (record { moded = i.moded_a; no_address = i.address_0; directed = binary.result_directed p c m q n r o role other; whole = binary.none_low p c m q n r o role other a b d 0 })
          (record { moded = i.moded_b; no_address = i.address_1; directed = binary.left_directed p c m q n r o role other; whole = binary.none_low p c m q n r o role other a b d 1 })
          (record { moded = i.moded_d; no_address = i.address_2; directed = binary.right_directed p c m q n r o role other; whole = binary.none_low p c m q n r o role other a b d 2 })

      abbrev How : Type 0
      How = computes.HowTheyStand the_asks given s t u m n o (changed 0 p m a s of_a) (others 0 p m a s of_a) (changed 1 q n b t of_b) (others 1 q n b t of_b) (changed 2 r o d u of_d) (others 2 r o d u of_d)

      how : How
      how =
          let one = computes.result_stands forms the_asks these asked_0 m (changed 0 p m a s of_a) (others 0 p m a s of_a) s i.true_0 i.home in
          let two = computes.input_comes forms the_asks these 1 ms take_1 asked_1 n (changed 1 q n b t of_b) (others 1 q n b t of_b) t i.true_1 i.input_1 in
          let three = computes.input_comes forms the_asks these 2 ns take_2 asked_2 o (changed 2 r o d u of_d) (others 2 r o d u of_d) u i.true_2 i.input_2 in
          record { b = one.moved; c = two.moved; d = three.moved; x = one.far; y = two.far; z = three.far; slot = one.of_slot; first = one.is; second = two.is; third = three.is }

      pub reaches : Reaches forms form given
      reaches = record {
        alternative = 0;
        below = below;
        enabled = enabled;
        fits = computes.fits the_asks given s t u m n o (changed 0 p m a s of_a) (others 0 p m a s of_a) (changed 1 q n b t of_b) (others 1 q n b t of_b) (changed 2 r o d u of_d) (others 2 r o d u of_d) how;
        fits_are = ap (fittings_of the_asks) operands_are ∙ computes.fits_are the_asks given s t u m n o (changed 0 p m a s of_a) (others 0 p m a s of_a) (changed 1 q n b t of_b) (others 1 q n b t of_b) (changed 2 r o d u of_d) (others 2 r o d u of_d) how;
        reachable =
            computes.reachable the_asks given s t u m n o (changed 0 p m a s of_a) (others 0 p m a s of_a) (changed 1 q n b t of_b) (others 1 q n b t of_b) (changed 2 r o d u of_d) (others 2 r o d u of_d) how c m (record {
              operands_are = operands_are;
              kind_is = refl;
              once = i.once;
              mode_0 = i.mode_0;
              mode_1 = i.mode_1;
              mode_2 = i.mode_2;
              admits_0 = λ moved. admits_spare forms the_asks 0 letters.r (take_r forms) asked_0 m;
              admits_1 = λ moved. admits_spare forms the_asks 1 ms take_1 asked_1 n;
              admits_2 = λ moved. admits_spare forms the_asks 2 ns take_2 asked_2 o;
              puts = λ news. ap (put pattern news) (binary.homed_is p c m q n r o role other homes layout a b d s t u of_a of_b of_d) ∙
                  binary.put_in p c m q n r o role other (sorts.tree s) (sorts.tree t) (sorts.tree u) news;
              formed = i.formed;
            });
      }
