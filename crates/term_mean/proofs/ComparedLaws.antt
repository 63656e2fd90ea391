-- Comparisons in normal form: each is the normal form of its relation as a term, and is 1 exactly where the relation holds.
use Rattle.std.proofs.Common.{sym, cond, Bool, true, false, ◌≡◌, ℕ, ◌-◌, ◌^◌, refl, ◌∙◌, ap, List, [], ◌∷◌, bit_xor, eqb}
use Rattle.bits64.specs.declared.Width.{Width}
use Rattle.bits64.specs.declared.Width.TheVariants.{W8}
use Rattle.bits64.specs.Words.{bits_of, low}
use Rattle.bits64.specs.Operators.{holds}
use Rattle.term_tree.specs.declared.head.Head.TheVariants as heads
use Rattle.bits64.specs.declared.operator.Relation.{Relation}
use Rattle.bits64.specs.declared.operator.Relation.TheVariants.{Eq, Ne, Lt, Gt, Le, Ge, Ltu, Gtu, Leu, Geu}
use Rattle.term_tree.specs.declared.head.Extension.TheVariants.{Zero, Sign}
use Rattle.term_tree.specs.Tree.{Tree, width_of}
use Rattle.term_tree.specs.Form.{same_width}
use Rattle.term_tree.proofs.OrderLaws.{same_width-true}
use Rattle.term_mean.specs.Meaning.{Valuation, mean, truth}
use Rattle.term_mean.specs.Stores.{Store}
use Rattle.term_mean.specs.Sums.{constant, summed}
use Rattle.term_mean.specs.Cuts.{one_part}
use Rattle.term_mean.specs.Shifts.{two_parts}
use Rattle.term_mean.specs.Masks.{cut_to}
use Rattle.term_mean.specs.Truths.{opposite}
use Rattle.term_mean.specs.Less.{less_than}
use Rattle.term_mean.specs.Relations.{difference, opposite_of, related}
use Rattle.term_mean.specs.Normal.{normal}
use Rattle.term_mean.specs.Compared.{same_in, compared, low_bits}
use Rattle.term_mean.proofs.SumLaws.{mean-summed, mean-cut}
use Rattle.term_mean.proofs.MaskLaws.{is-cut_to, width-cut_to}
use Rattle.term_mean.proofs.NormalLaws.{mean-built}
use Rattle.term_mean.proofs.RelationLaws.{mean-related}

pub normal-related : (stores : List Store) (r : Relation) (w : Width) (a b : Tree) → normal stores (related r w a b) ≡ compared r w (normal stores a) (normal stores b)
normal-related stores Eq w a b = refl
normal-related stores Ne w a b = refl
normal-related stores Lt w a b = refl
normal-related stores Gt w a b = refl
normal-related stores Le w a b = refl
normal-related stores Ge w a b = refl
normal-related stores Ltu w a b = refl
normal-related stores Gtu w a b = refl
normal-related stores Leu w a b = refl
normal-related stores Geu w a b = refl

mean-same_in : (v : Valuation) (w : Width) (a b : Tree) → mean v (same_in w a b) ≡ mean v (one_part heads.Eq w (difference w a b))
mean-same_in v w a b =
    let xs : List (ℕ × Tree) = (1, a) ∷ (2 ^ bits_of w - 1, b) ∷ [] in
    mean-built v [] heads.Eq w 0 [] (summed w 0 xs ∷ []) tt
    ∙ ap (λ n. low W8 (truth (eqb (low w n) 0))) (mean-summed v w 0 xs)

mean-opposite_same : (v : Valuation) (t u : Tree) → mean v t ≡ mean v u → mean v (opposite t) ≡ mean v (opposite_of u)
mean-opposite_same v t u e =
    mean-built v [] heads.Xor W8 0 [] (constant W8 1 ∷ t ∷ []) tt
    ∙ ap (λ n. low W8 (bit_xor 1 (bit_xor n 0))) e

mean-less : (v : Valuation) (w : Width) (a b : Tree) → mean v (less_than Sign w a b) ≡ mean v (two_parts heads.Lt w a b)
mean-less v w a b = mean-built v [] heads.Lt w 0 [] (a ∷ b ∷ []) tt

mean-less_unsigned : (v : Valuation) (w : Width) (a b : Tree) → mean v (less_than Zero w a b) ≡ mean v (two_parts heads.Ltu w a b)
mean-less_unsigned v w a b = mean-built v [] heads.Ltu w 0 [] (a ∷ b ∷ []) tt

like-related : (v : Valuation) (r : Relation) (w : Width) (a b : Tree) → mean v (compared r w a b) ≡ mean v (related r w a b)
like-related v Eq w a b = mean-same_in v w a b
like-related v Ne w a b = mean-opposite_same v (same_in w a b) (one_part heads.Eq w (difference w a b)) (mean-same_in v w a b)
like-related v Lt w a b = mean-less v w a b
like-related v Gt w a b = mean-less v w b a
like-related v Le w a b = mean-opposite_same v (less_than Sign w b a) (two_parts heads.Lt w b a) (mean-less v w b a)
like-related v Ge w a b = mean-opposite_same v (less_than Sign w a b) (two_parts heads.Lt w a b) (mean-less v w a b)
like-related v Ltu w a b = mean-less_unsigned v w a b
like-related v Gtu w a b = mean-less_unsigned v w b a
like-related v Leu w a b = mean-opposite_same v (less_than Zero w b a) (two_parts heads.Ltu w b a) (mean-less_unsigned v w b a)
like-related v Geu w a b = mean-opposite_same v (less_than Zero w a b) (two_parts heads.Ltu w a b) (mean-less_unsigned v w a b)

pub mean-compared : (v : Valuation) (r : Relation) (w : Width) (a b : Tree) → mean v (compared r w a b) ≡ truth (holds r w (mean v a) (mean v b))
mean-compared v r w a b = like-related v r w a b ∙ mean-related v r w a b

pub mean-low_bits : (v : Valuation) (w : Width) (t : Tree) → mean v (low_bits w t) ≡ low w (mean v t)
mean-low_bits v w t = go (same_width (width_of t) w) refl
  where
    go : (b : Bool) → same_width (width_of t) w ≡ b → mean v (cond b t (cut_to w t)) ≡ low w (mean v t)
    go true e = sym (mean-cut v t) ∙ ap (λ x. low x (mean v t)) (same_width-true (width_of t) w e)
    go false e = (is-cut_to v w t).0

pub width-low_bits : (w : Width) (t : Tree) → width_of (low_bits w t) ≡ w
width-low_bits w t = go (same_width (width_of t) w) refl
  where
    go : (b : Bool) → same_width (width_of t) w ≡ b → width_of (cond b t (cut_to w t)) ≡ w
    go true e = same_width-true (width_of t) w e
    go false e = width-cut_to w t
