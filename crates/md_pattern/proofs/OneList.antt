-- A list with a word at its head is set aside with the smallest of the reasons that it has.
use Rattle.std.proofs.Common.{◌≡◌, ◌≤◌, ℕ, Bool, true, false, List, [], ◌∷◌, Option, Some, None, Ok, Err, map, if◌then◌else◌, refl, sym, ap, subst, ◌∙◌, inl, inr, arith}
use Rattle.std.specs.Prelude.{Contains}
use Rattle.std.specs.List.{AllByRecursion}
use Rattle.rtx_tree.specs.declared.code.Code.{Code}
use Rattle.rtx_tree.specs.declared.code.Mode.{Mode}
use Rattle.rtx_tree.specs.declared.code.Mode.TheVariants.{Void}
use Rattle.rtx_tree.specs.declared.class.Parts.TheVariants as parts
use Rattle.rtx_tree.specs.declared.constants.Constant.{Constant}
use Rattle.rtx_tree.specs.Code.{class_of_code, parts_of}
use Rattle.lisp_read.specs.declared.tree.Tree.{Tree}
use Rattle.lisp_read.specs.Shape.{atom_of}
use Rattle.lisp_read.specs.Head.{code_of_head, mode_of_head}
use Rattle.md_pattern.specs.declared.reason.Reason.{Reason}
use Rattle.md_pattern.specs.declared.reason.Reason.TheVariants as reason
use Rattle.md_pattern.specs.declared.pattern.Pattern.{Pattern}
use Rattle.md_pattern.specs.Reason.{number_of, IsSmallest}
use Rattle.md_pattern.specs.Pattern.{word_in, has_mode, mode_for, behind, of_code, meaning_of}
use Rattle.md_pattern.specs.HasReason.{has_parts, expressions_in, IsList, IsOf, HasReason}
use Rattle.md_pattern.proofs.Smallest.{Or, change}
use Rattle.md_pattern.proofs.Behind.{Judged, Behind}
use Rattle.md_pattern.proofs.OneCode.{of_parts}

-- ---- the mode

data NoMode (o : Option Mode) : Reason → Type 0 where
  outside : o ≡ None → NoMode o reason.Mode

mode_later : (o : Option Mode) (r : Reason) → NoMode o r → 2 ≤ number_of r
mode_later o _ (NoMode.outside e) = omega arith

mode_smallest : (c : Code) (o : Option Mode) → IsSmallest (NoMode o) (mode_for c o)
mode_smallest c None = (NoMode.outside refl, least)
  where
    least : (r : Reason) → NoMode None r → 4 ≤ number_of r
    least _ (NoMode.outside e) = omega arith
mode_smallest c (Some m) = by_code (has_mode c)
  where
    there : (r : Reason) → NoMode (Some m) r → ⊥
    there _ (NoMode.outside e) = cc

    by_code : (b : Bool) → IsSmallest {A = Mode} (NoMode (Some m)) (if b then Ok m else Ok Void)
    by_code true = there
    by_code false = there

-- ---- one list

-- a tree is one list, and has one code
pub same_list : (t : Tree) (w v : List ℕ) (ts us : List Tree) → IsList t w ts → IsList t v us → (w ≡ v) × (ts ≡ us)
same_list t w v ts us a b = (cc_word, rest)
  where
    items : a.head ∷ ts ≡ b.head ∷ us
    items = sym a.items ∙ b.items

    rest : ts ≡ us
    rest = cc

    heads : a.head ≡ b.head
    heads = cc

    words : ◌≡◌ {A = Option (List ℕ)} (Some w) (Some v)
    words = sym a.word_is ∙ ap atom_of heads ∙ b.word_is

    cc_word : w ≡ v
    cc_word = cc

same_code : (w v : List ℕ) (c d : Code) → w ≡ v → code_of_head w ≡ Some c → code_of_head v ≡ Some d → c ≡ d
same_code w v c d same a b = let e : ◌≡◌ {A = Option Code} (Some c) (Some d) = sym a ∙ ap code_of_head same ∙ b in cc

-- what holds of the code of a tree, and of the trees behind it, holds however the tree is looked at
move : (P : List ℕ → Code → List Tree → Type 0) (t : Tree) (w v : List ℕ) (c d : Code) (ts us : List Tree) → IsOf t w c ts → IsOf t v d us → P v d us → P w c ts
move P t w v c d ts us a b x =
    let same = same_list t w v ts us a.list b.list in
    let code = same_code w v c d same.0 a.code b.code in
    subst (λ (y : List ℕ). P y c ts) (sym same.0) (subst (λ (y : Code). P v y ts) (sym code) (subst (λ (y : List Tree). P v d y) (sym same.1) x))

pub some_none : {A : Type 0} (x : A) (o : Option A) → o ≡ Some x → o ≡ None → ⊥
some_none x o e f = cc

module _ (cs : List Constant) (t : Tree) (word : List ℕ) (ts : List Tree) where
  -- ---- an unknown code

  of_unknown : IsList t word ts → code_of_head word ≡ None → IsSmallest {A = Pattern} (HasReason cs t) (Err reason.Code)
  of_unknown is none = (HasReason.no_code t word ts is none, least)
    where
      known : (v : List ℕ) (d : Code) (us : List Tree) → IsOf t v d us → ⊥
      known v d us other = some_none d (code_of_head v) other.code (ap code_of_head (sym (same_list t word v ts us is other.list).0) ∙ none)

      least : (r : Reason) → HasReason cs t r → 3 ≤ number_of r
      least _ (HasReason.no_list _ no_such) = absurd (no_such word ts is)
      least _ (HasReason.no_code _ v us other missing) = omega arith
      least _ (HasReason.wrong_parts _ v d us other unfit) = absurd (known v d us other)
      least _ (HasReason.no_register _ v d w text other p a missing) = absurd (known v d (w ∷ []) other)
      least _ (HasReason.no_mode _ v d us other missing) = absurd (known v d us other)
      least r (HasReason.inside _ v d us u _ other fit stands has) = absurd (known v d us other)

  -- ---- a known one

  module _ (c : Code) (is : IsOf t word c ts) where
    abbrev At : Reason → Type 0
    At = Or (NoMode (mode_of_head word)) (Behind cs (parts_of (class_of_code c)) ts)

    to : (r : Reason) → At r → HasReason cs t r
    to _ (inl (NoMode.outside e)) = HasReason.no_mode t word c ts is e
    to _ (inr (Behind.wrong e)) = HasReason.wrong_parts t word c ts is e
    to _ (inr (Behind.register text p w e)) = by_trees ts is w
      where
        by_trees : (us : List Tree) → IsOf t word c us → word_in us ≡ Some text → HasReason cs t reason.Code
        by_trees [] of w = absurd (some_none text None w refl)
        by_trees (x ∷ []) of w = HasReason.no_register t word c x text of p w e
        by_trees (x ∷ y ∷ us) of w = absurd (some_none text None w refl)
    to r (inr (Behind.inside _ fit has)) = HasReason.inside t word c ts has.0 r is fit has.1 has.2

    from : (r : Reason) → HasReason cs t r → At r
    from _ (HasReason.no_list _ no_such) = absurd (no_such word ts is.list)
    from _ (HasReason.no_code _ v us other missing) = absurd (some_none c (code_of_head word) is.code (ap code_of_head (same_list t word v ts us is.list other).0 ∙ missing))
    from _ (HasReason.wrong_parts _ v d us other unfit) = inr (Behind.wrong (move (λ w k xs. has_parts cs k xs ≡ false) t word v c d ts us is other unfit))
    from _ (HasReason.no_register _ v d w text other p a missing) =
        inr (Behind.register text (move (λ x k xs. parts_of (class_of_code k) ≡ parts.Register) t word v c d ts (w ∷ []) is other p) (move (λ x k xs. word_in xs ≡ Some text) t word v c d ts (w ∷ []) is other a) missing)
    from _ (HasReason.no_mode _ v d us other missing) = inl (NoMode.outside (move (λ w k xs. mode_of_head w ≡ None) t word v c d ts us is other missing))
    from r (HasReason.inside _ v d us u _ other fit stands has) =
        inr (Behind.inside r (move (λ w k xs. has_parts cs k xs ≡ true) t word v c d ts us is other fit) (u, move (λ w k xs. Contains (expressions_in k xs) u) t word v c d ts us is other stands, has))

    of_known : AllByRecursion (Judged cs) ts → IsSmallest (HasReason cs t) (behind cs c (mode_for c (mode_of_head word)) (parts_of (class_of_code c)) ts (map (meaning_of cs) ts))
    of_known all = change At (HasReason cs t) (behind cs c (mode_for c (mode_of_head word)) (parts_of (class_of_code c)) ts (map (meaning_of cs) ts)) to from
        (of_parts cs c (mode_for c (mode_of_head word)) (NoMode (mode_of_head word)) (mode_smallest c (mode_of_head word)) (mode_later (mode_of_head word)) (parts_of (class_of_code c)) ts all)

  -- a list by its code
  pub by_code : (o : Option Code) → IsList t word ts → code_of_head word ≡ o → AllByRecursion (Judged cs) ts → IsSmallest (HasReason cs t) (of_code cs o (mode_of_head word) ts (map (meaning_of cs) ts))
  by_code None is none all = of_unknown is none
  by_code (Some c) is known all = of_known c (record { list = is; code = known }) all
