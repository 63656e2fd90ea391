-- Where the parts of a code stood behind a head, those that are printed stand there too.
use Rattle.std.proofs.Common.{◌≡◌, ◌+◌, ◌==◌, ℕ, suc, List, [], ◌∷◌, ◌++◌, map, length, take, Bool, true, false, ◌&&◌, Some, None, cond, codes, refl, sym, ap, subst, ◌∙◌, arith}
use Rattle.std.proofs.lemmas.Bool.Decides.{nat_tests}
use Rattle.std.proofs.lemmas.List.{append-nil}
use Rattle.std.specs.Prelude.{nat_lt}
use Rattle.std.specs.List.{list_all}
use Rattle.rtx_tree.specs.declared.tree.Rtx.{Rtx}
use Rattle.rtx_tree.specs.declared.class.Class.{Class}
use Rattle.rtx_tree.specs.declared.class.Class.TheVariants as class
use Rattle.lisp_read.specs.declared.position.Position.{Position}
use Rattle.lisp_read.specs.declared.position.Position.TheVariants.{Value, Place, Source, Pc, Jump, Inner}
use Rattle.lisp_read.specs.declared.tree.Tree.{Tree}
use Rattle.lisp_read.specs.Shape.{is_nested, is_word, is_text, atom_at, atom_of}
use Rattle.lisp_read.specs.Parsed.{stands}
use Rattle.lisp_read.specs.Expression.{meaning_of, read_at, exactly, at_least, lowpart_parts, comparison_parts, setting_parts, positions_of, is_constant, is_counter, each_at}
use Rattle.rtx_tree.specs.Code.{is_constant_class, is_counter_class}
use Rattle.tree_print.specs.Print.{nowhere}
use Rattle.rtl_print.proofs.Induction.{EachAt}
use Rattle.rtl_print.proofs.Nodes.{same_head, nested_written, all_nested, same_length, kids_length, each_again}
use Rattle.rtl_print.proofs.Numbers.{if_some}
use Rattle.rtl_print.proofs.Same.{Same, AllSame, as_atom}
use Rattle.rtl_print.proofs.Words.{Back}
use Rattle.rtl_print.proofs.Written.{atom, written}

abbrev Q : Position → Tree → Rtx → Type 0
Q p t x = Back p x

-- how the trees behind a head stand there
pub record Again (c : Class) (head : Tree) (us : List Tree) (ps : List Position) (kids : List Rtx) : Type 0 where
  pub positions : positions_of c (head ∷ us) ≡ Some ps
  pub nested : list_all is_nested (take (length ps) us) ≡ true
  pub each : each_at ps (map meaning_of us) ≡ stands kids

take_whole : (n : ℕ) (us : List Tree) → length us ≡ n → take n us ≡ us
take_whole n us e = subst (λ (k : ℕ). take k us ≡ us) e (whole us)
  where
    whole : (ts : List Tree) → take (length ts) ts ≡ ts
    whole [] = refl
    whole (t ∷ ts) = ap (λ (x : List Tree). t ∷ x) (whole ts)

pub plain : (c : Class) (head : Tree) (ts us : List Tree) (ps : List Position) (kids : List Rtx) → EachAt Q ps ts kids → AllSame us (map written kids) →
    (length us ≡ length ps → positions_of c (head ∷ us) ≡ Some ps) → Again c head us ps kids
plain c head ts us ps kids each same positions =
    let len : length us ≡ length ps = same_length us kids same ∙ kids_length ps ts kids each in
    record {
      positions = positions len;
      nested = ap (list_all is_nested) (take_whole (length ps) us len) ∙ all_nested us kids same;
      each = ap (λ (vs : List Tree). each_at ps (map meaning_of vs)) (sym (append-nil us)) ∙ each_again ps ts us kids [] each same;
    }

pub exactly_again : (qs : List Position) (items : List Tree) (ps : List Position) (head : Tree) (us : List Tree) → exactly qs items ≡ Some ps → length us ≡ length ps → exactly qs (head ∷ us) ≡ Some ps
exactly_again qs items ps head us e len =
    let says = if_some (length items == length qs + 1) qs ps e in
    let lens : length qs ≡ length ps = ap length says.1 in
    let test : (suc (length us) == length qs + 1) ≡ true = grind (arith, nat_tests, lens, len) in
    rw test (ap (λ (x : List Position). Some x) says.1)

pub at_least_again : (qs : List Position) (items : List Tree) (ps : List Position) (head : Tree) (us : List Tree) → at_least qs items ≡ Some ps → length us ≡ length ps → at_least qs (head ∷ us) ≡ Some ps
at_least_again qs items ps head us e len =
    let says = if_some (nat_lt (length qs) (length items)) qs ps e in
    let lens : length qs ≡ length ps = ap length says.1 in
    let test : nat_lt (length qs) (suc (length us)) ≡ true = grind (arith, nat_tests, lens, len) in
    rw test (ap (λ (x : List Position). Some x) says.1)

-- ---- two parts

record Two (p q : Position) (a b : Tree) (us : List Tree) : Type 0 where
  pub x : Rtx
  pub y : Rtx
  pub u : Tree
  pub v : Tree
  pub is : us ≡ u ∷ v ∷ []
  pub first : read_at p a ≡ stands x
  pub second : read_at q b ≡ stands y
  pub same_first : Same u (written x)
  pub same_second : Same v (written y)

two : (p q : Position) (a b : Tree) (kids : List Rtx) (us : List Tree) → EachAt Q (p ∷ q ∷ []) (a ∷ b ∷ []) kids → AllSame us (map written kids) → Two p q a b us
two p q a b (x ∷ y ∷ []) (u ∷ v ∷ []) each same = record { x = x; y = y; u = u; v = v; is = refl; first = each.0; second = each.2.0; same_first = same.0; same_second = same.1.0 }
two p q a b [] us each same = absurd each
two p q a b (x ∷ []) us each same = absurd each.2
two p q a b (x ∷ y ∷ z ∷ more) us each same = absurd each.2.2
two p q a b (x ∷ y ∷ []) [] each same = absurd same
two p q a b (x ∷ y ∷ []) (u ∷ []) each same = absurd same.1
two p q a b (x ∷ y ∷ []) (u ∷ v ∷ w ∷ more) each same = absurd same.1.1

pub comparison_again : (h head : Tree) (ts us : List Tree) (ps : List Position) (kids : List Rtx) → comparison_parts (h ∷ ts) ≡ Some ps → EachAt Q ps ts kids → AllSame us (map written kids) → comparison_parts (head ∷ us) ≡ Some ps
comparison_again h head (a ∷ b ∷ []) us ps kids e each same = by_test (is_constant a && is_constant b) refl e
  where
    values : List Position
    values = Value ∷ Value ∷ []

    by_test : (t : Bool) → (is_constant a && is_constant b) ≡ t → cond t None (Some (Value ∷ Value ∷ [])) ≡ Some ps → comparison_parts (head ∷ us) ≡ Some ps
    by_test true is e = cc
    by_test false is e =
        let ps_is : Value ∷ Value ∷ [] ≡ ps = cc in
        let t : Two Value Value a b us = two Value Value a b kids us (subst (λ (x : List Position). EachAt Q x (a ∷ b ∷ []) kids) (sym ps_is) each) same in
        ap (λ (vs : List Tree). comparison_parts (head ∷ vs)) t.is
        ∙ rw (same_head is_constant_class Value a t.u t.x t.first t.same_first) (rw (same_head is_constant_class Value b t.v t.y t.second t.same_second) (rw is (ap (λ (x : List Position). Some x) ps_is)))
comparison_again h head _ us ps kids e each same = cc

pub setting_again : (h head : Tree) (ts us : List Tree) (ps : List Position) (kids : List Rtx) → setting_parts (h ∷ ts) ≡ Some ps → EachAt Q ps ts kids → AllSame us (map written kids) → setting_parts (head ∷ us) ≡ Some ps
setting_again h head (a ∷ b ∷ []) us ps kids e each same = by_test (is_counter a) refl e
  where
    at : (p q : Position) (t : Bool) → is_counter a ≡ t → cond t (Some (Pc ∷ Jump ∷ [])) (Some (Place ∷ Source ∷ [])) ≡ Some (p ∷ q ∷ []) → p ∷ q ∷ [] ≡ ps → setting_parts (head ∷ us) ≡ Some ps
    at p q t is parts ps_is =
        let w : Two p q a b us = two p q a b kids us (subst (λ (x : List Position). EachAt Q x (a ∷ b ∷ []) kids) (sym ps_is) each) same in
        ap (λ (vs : List Tree). setting_parts (head ∷ vs)) w.is
        ∙ rw (same_head is_counter_class p a w.u w.x w.first w.same_first) (rw is (parts ∙ ap (λ (x : List Position). Some x) ps_is))

    by_test : (t : Bool) → is_counter a ≡ t → cond t (Some (Pc ∷ Jump ∷ [])) (Some (Place ∷ Source ∷ [])) ≡ Some ps → setting_parts (head ∷ us) ≡ Some ps
    by_test true is e = let ps_is : Pc ∷ Jump ∷ [] ≡ ps = cc in at Pc Jump true is refl ps_is
    by_test false is e = let ps_is : Place ∷ Source ∷ [] ≡ ps = cc in at Place Source false is refl ps_is
setting_again h head _ us ps kids e each same = cc

-- ---- the low part of a register

pub lowpart_again : (h head : Tree) (ts us : List Tree) (ps : List Position) (kids : List Rtx) → lowpart_parts (h ∷ ts) ≡ Some ps → EachAt Q ps ts kids → AllSame us (map written kids ++ atom (codes "0") ∷ []) → Again class.Lowpart head us ps kids
lowpart_again h head (a ∷ offset ∷ []) us ps kids e each same =
    let says = if_some (is_word (codes "0") offset) (Inner ∷ []) ps e in
    subst (λ (x : List Position). Again class.Lowpart head us x kids) says.1
    (inner kids us (subst (λ (x : List Position). EachAt Q x (a ∷ offset ∷ []) kids) (sym says.1) each) same)
  where
    inner : (xs : List Rtx) (vs : List Tree) → EachAt Q (Inner ∷ []) (a ∷ offset ∷ []) xs → AllSame vs (map written xs ++ atom (codes "0") ∷ []) → Again class.Lowpart head vs (Inner ∷ []) xs
    inner (x ∷ []) (u ∷ z ∷ []) each same =
        let zero : atom_of z ≡ Some (codes "0") = ap atom_at (as_atom z nowhere (codes "0") same.1.0).is in
        let word : is_word (codes "0") z ≡ true = ap (is_text (codes "0")) zero in
        record {
          positions = rw word refl;
          nested = rw (nested_written u x same.0) refl;
          each = each_again (Inner ∷ []) (a ∷ offset ∷ []) (u ∷ []) (x ∷ []) (z ∷ []) each (same.0, tt);
        }
    inner [] vs each same = absurd each
    inner (x ∷ y ∷ more) vs each same = absurd each.2
    inner (x ∷ []) [] each same = absurd same
    inner (x ∷ []) (u ∷ []) each same = absurd same.1
    inner (x ∷ []) (u ∷ v ∷ w ∷ more) each same = absurd same.1.1
lowpart_again h head _ us ps kids e each same = cc
