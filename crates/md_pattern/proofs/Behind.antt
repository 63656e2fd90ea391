-- What is read behind a code gives the smallest of the reasons that stand there.
use Rattle.std.proofs.Common.{◌≡◌, ◌≤◌, inr, ⊎_elim, ℕ, true, false, true≢false, List, [], ◌∷◌, Option, Some, None, Result, Err, map, refl, sym, subst, ◌∙◌, arith}
use Rattle.std.specs.Prelude.{is_some, Contains}
use Rattle.std.specs.List.{AllByRecursion}
use Rattle.rtx_tree.specs.declared.class.Parts.{Parts}
use Rattle.rtx_tree.specs.declared.class.Parts.TheVariants as parts
use Rattle.rtx_tree.specs.declared.constants.Constant.{Constant}
use Rattle.lisp_read.specs.declared.tree.Tree.{Tree, out-Tree}
use Rattle.lisp_read.specs.declared.tree.Tree.TheOpen.{Tree-F}
use Rattle.lisp_read.specs.Shape.{vector_at, vector_of, is_vector_at, is_vector}
use Rattle.md_pattern.specs.declared.reason.Reason.{Reason}
use Rattle.md_pattern.specs.declared.reason.Reason.TheVariants as reason
use Rattle.md_pattern.specs.declared.pattern.Pattern.{Pattern}
use Rattle.md_pattern.specs.declared.pattern.Patterns.{Patterns}
use Rattle.md_pattern.specs.Reason.{number_of, IsSmallest}
use Rattle.md_pattern.specs.Word.{register_of}
use Rattle.md_pattern.specs.Pattern.{in_front, each, or_aside, word_in, meaning_of, pattern_of, patterns_of}
use Rattle.md_pattern.specs.HasReason.{kinds_of, are_kinds, expressions_among, HasReason, VectorHasReason}
use Rattle.md_pattern.proofs.Smallest.{Or, Among, none_in, one_more, change}
use Rattle.md_pattern.proofs.Taken.{ArePlain, nothing_among}

-- a tree gives the smallest of its reasons, as an expression and as a vector of expressions
pub record Judged (cs : List Constant) (t : Tree) : Type 0 where
  pub pattern : IsSmallest (HasReason cs t) (pattern_of cs t)
  pub vector : IsSmallest (VectorHasReason cs t) (patterns_of cs t)

-- the reasons of what stands behind a code, but for the mode
pub data Behind (cs : List Constant) (p : Parts) (ts : List Tree) : Reason → Type 0 where
  wrong : are_kinds cs (kinds_of p) ts ≡ false → Behind cs p ts reason.Parts
  register : (text : List ℕ) → p ≡ parts.Register → word_in ts ≡ Some text →
      register_of cs text ≡ None → Behind cs p ts reason.Code
  inside : (r : Reason) → are_kinds cs (kinds_of p) ts ≡ true →
      Among (HasReason cs) (expressions_among (kinds_of p) ts) r → Behind cs p ts r

-- patterns have no reason with a smaller number
pub two_le : (cs : List Constant) (t : Tree) (r : Reason) → HasReason cs t r → 2 ≤ number_of r
two_le cs t _ (HasReason.no_list _ none) = omega arith
two_le cs t _ (HasReason.no_code _ word ts is none) = omega arith
two_le cs t _ (HasReason.wrong_parts _ word c ts is none) = omega arith
two_le cs t _ (HasReason.no_register _ word c w text is p a none) = omega arith
two_le cs t _ (HasReason.no_mode _ word c ts is none) = omega arith
two_le cs t r (HasReason.inside _ word c ts u _ is fit stands has) = two_le cs u r has

pub each_smallest : (cs : List Constant) (us : List Tree) → AllByRecursion (Judged cs) us → IsSmallest (Among (HasReason cs) us) (each (map (meaning_of cs) us))
each_smallest cs [] all = λ r has. none_in has.0 has.1
each_smallest cs (u ∷ us) all = one_more (HasReason cs) u us in_front (pattern_of cs u) (each (map (meaning_of cs) us)) all.0.pattern (each_smallest cs us all.1)

-- ---- what stands behind a code

vector_there : (o : Tree-F Tree) (u : Tree) → Contains (vector_at o) u → is_vector_at o ≡ true
vector_there (Tree-F.Atom place text) u stands = absurd (none_in u stands)
vector_there (Tree-F.Str place text) u stands = absurd (none_in u stands)
vector_there (Tree-F.Block place text) u stands = absurd (none_in u stands)
vector_there (Tree-F.List place items) u stands = absurd (none_in u stands)
vector_there (Tree-F.Vector place items) u stands = refl

module _ (cs : List Constant) (p : Parts) (ts : List Tree) where
  behind_two : (r : Reason) → Behind cs p ts r → 2 ≤ number_of r
  behind_two _ (Behind.wrong e) = omega arith
  behind_two _ (Behind.register text is w none) = omega arith
  behind_two r (Behind.inside _ fit has) = two_le cs has.0 r has.2

  -- they are not what the code takes
  pub misfit : (A : Type 0) → are_kinds cs (kinds_of p) ts ≡ false → IsSmallest {A = A} (Behind cs p ts) (Err reason.Parts)
  misfit A e = (Behind.wrong e, behind_two)

  pub misfit_or : (M : Reason → Type 0) → ((r : Reason) → M r → 2 ≤ number_of r) → are_kinds cs (kinds_of p) ts ≡ false → IsSmallest {A = Pattern} (Or M (Behind cs p ts)) (Err reason.Parts)
  misfit_or M later e = (inr (Behind.wrong e), λ r has. ⊎_elim (later r) (behind_two r) has)

  -- a kind of words has no expressions
  pub nothing_inside : (r : Reason) → ArePlain (kinds_of p) → Among (HasReason cs) (expressions_among (kinds_of p) ts) r → ⊥
  nothing_inside r plain has = none_in has.0 (subst (λ (us : List Tree). Contains us has.0) (nothing_among (kinds_of p) ts plain) has.1)

  module _ (other : p ≡ parts.Register → ⊥) where
    -- words that are what the code takes, or aren't
    pub words : {A : Type 0} (o : Option A) → are_kinds cs (kinds_of p) ts ≡ is_some o → ArePlain (kinds_of p) → IsSmallest (Behind cs p ts) (or_aside reason.Parts o)
    words {A} None e plain = misfit A e
    words (Some x) fit plain = none_there
      where
        none_there : (r : Reason) → Behind cs p ts r → ⊥
        none_there _ (Behind.wrong e) = true≢false (sym fit ∙ e)
        none_there _ (Behind.register text is w none) = other is
        none_there r (Behind.inside _ f has) = nothing_inside r plain has

    -- expressions, and no more
    pub kids : (us : List Tree) (ps : Result Patterns Reason) → are_kinds cs (kinds_of p) ts ≡ true → expressions_among (kinds_of p) ts ≡ us → IsSmallest (Among (HasReason cs) us) ps → IsSmallest (Behind cs p ts) ps
    kids us ps fit are least = change (Among (HasReason cs) us) (Behind cs p ts) ps to from least
      where
        to : (r : Reason) → Among (HasReason cs) us r → Behind cs p ts r
        to r has = Behind.inside r fit (has.0, subst (λ (vs : List Tree). Contains vs has.0) (sym are) has.1, has.2)

        from : (r : Reason) → Behind cs p ts r → Among (HasReason cs) us r
        from _ (Behind.wrong e) = absurd (true≢false (sym fit ∙ e))
        from _ (Behind.register text is w none) = absurd (other is)
        from r (Behind.inside _ f has) = (has.0, subst (λ (vs : List Tree). Contains vs has.0) are has.1, has.2)

    -- a vector of expressions
    pub elements : (v : Tree) → are_kinds cs (kinds_of p) ts ≡ is_vector v → expressions_among (kinds_of p) ts ≡ vector_of v → Judged cs v → IsSmallest (Behind cs p ts) (patterns_of cs v)
    elements v fit are judged = change (VectorHasReason cs v) (Behind cs p ts) (patterns_of cs v) to from judged.vector
      where
        to : (r : Reason) → VectorHasReason cs v r → Behind cs p ts r
        to _ (VectorHasReason.no_vector e) = Behind.wrong (fit ∙ e)
        to r (VectorHasReason.element u _ stands has) = Behind.inside r (fit ∙ vector_there (out-Tree v) u stands) (u, subst (λ (vs : List Tree). Contains vs u) (sym are) stands, has)

        from : (r : Reason) → Behind cs p ts r → VectorHasReason cs v r
        from _ (Behind.wrong e) = VectorHasReason.no_vector (sym fit ∙ e)
        from _ (Behind.register text is w none) = absurd (other is)
        from r (Behind.inside _ f has) = VectorHasReason.element has.0 r (subst (λ (vs : List Tree). Contains vs has.0) are has.1) has.2
