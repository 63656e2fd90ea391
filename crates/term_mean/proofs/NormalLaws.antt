-- The law: a normal form has the number of its term.
use Rattle.std.proofs.Common.{◌≡◌, ℕ, ◌%◌, ◌^◌, refl, sym, ◌∙◌, ap, List, [], ◌∷◌, inl, inr}
use Rattle.bits64.specs.declared.Width.{Width}
use Rattle.bits64.specs.declared.Width.TheVariants.{W8}
use Rattle.bits64.specs.Words.{bits_of, low}
use Rattle.term_tree.specs.declared.head.Head.{Head}
use Rattle.term_tree.specs.declared.head.Head.TheVariants as heads
use Rattle.term_tree.specs.declared.head.Joint.TheVariants.{Mul, And, Ior, Xor}
use Rattle.term_tree.specs.declared.head.Extension.TheVariants.{Zero, Sign}
use Rattle.term_tree.specs.Tree.{Tree, Atoms, Trees, Sum, Node, no_atoms, atom, no_trees, tree, own_width, trees_of}
use Rattle.term_mean.specs.Meaning.{Valuation, mean, weighed, applied, values}
use Rattle.term_mean.specs.Stores.{Store, Stored}
use Rattle.term_mean.specs.Masks.{made_at}
use Rattle.term_mean.specs.Normal.{built_one, built_two, built_parts, built, normal, normal_atoms, normal_all}
use Rattle.term_mean.proofs.SumLaws.{weight}
use Rattle.term_mean.proofs.CutLaws.{mean-summed_cut}
use Rattle.term_mean.proofs.ExtendedLaws.{mean-extended}
use Rattle.term_mean.proofs.MaskLaws.{mean-made_at, is-cut_to}
use Rattle.term_mean.proofs.ShiftLaws.{mean-opaque_one, mean-opaque_two}
use Rattle.term_mean.proofs.ExactLaws.{mean-shifted}
use Rattle.term_mean.proofs.TruthLaws.{small_truth}
use Rattle.term_mean.proofs.ZeroLaws.{mean-equals_zero}
use Rattle.term_mean.proofs.LessLaws.{mean-less_than}
use Rattle.term_mean.proofs.LoadLaws.{mean-loaded}
use Rattle.term_mean.proofs.NormalWidths.{width-normal}

mean-built_one : (v : Valuation) (stores : List Store) (h : Head) (w : Width) (n : ℕ) (s : List ℕ) (a : Tree) → Stored v stores → mean v (built_one stores h w n s a) ≡ low (own_width h w) (applied v h w n s (values v (tree a no_trees)))
mean-built_one v stores (heads.Opaque o) w n s a f = mean-opaque_one v o w a
mean-built_one v stores heads.Trunc w n s a f = (is-cut_to v w a).0
mean-built_one v stores heads.Zext w n s a f = mean-extended v Zero w (made_at w) a (mean-made_at v w)
mean-built_one v stores heads.Sext w n s a f = mean-extended v Sign w (made_at w) a (mean-made_at v w)
mean-built_one v stores heads.Eq w n s a f = mean-equals_zero v w a ∙ sym (small_truth W8 _)
mean-built_one v stores heads.Load w n s a f = mean-loaded v stores w n a f
mean-built_one v stores h w n s a f = refl

mean-built_two : (v : Valuation) (h : Head) (w : Width) (n : ℕ) (s : List ℕ) (a b : Tree) → mean v (built_two h w n s a b) ≡ low (own_width h w) (applied v h w n s (values v (tree a (tree b no_trees))))
mean-built_two v (heads.Opaque o) w n s a b = mean-opaque_two v o w a b
mean-built_two v heads.Shl w n s a b = mean-shifted v heads.Shl (inl refl) w a b
mean-built_two v heads.Shr w n s a b = mean-shifted v heads.Shr (inr (inl refl)) w a b
mean-built_two v heads.Sar w n s a b = mean-shifted v heads.Sar (inr (inr refl)) w a b
mean-built_two v heads.Lt w n s a b = mean-less_than v Sign w a b ∙ sym (small_truth W8 _)
mean-built_two v heads.Ltu w n s a b = mean-less_than v Zero w a b ∙ sym (small_truth W8 _)
mean-built_two v h w n s a b = refl

mean-built_parts : (v : Valuation) (stores : List Store) (h : Head) (w : Width) (n : ℕ) (s : List ℕ) (ts : List Tree) → Stored v stores → mean v (built_parts stores h w n s ts) ≡ low (own_width h w) (applied v h w n s (values v (trees_of ts)))
mean-built_parts v stores h w n s [] f = refl
mean-built_parts v stores h w n s (a ∷ []) f = mean-built_one v stores h w n s a f
mean-built_parts v stores h w n s (a ∷ b ∷ []) f = mean-built_two v h w n s a b
mean-built_parts v stores h w n s (a ∷ b ∷ c ∷ ts) f = refl

pub mean-built : (v : Valuation) (stores : List Store) (h : Head) (w : Width) (n : ℕ) (s : List ℕ) (ts : List Tree) → Stored v stores → mean v (built stores h w n s ts) ≡ low (own_width h w) (applied v h w n s (values v (trees_of ts)))
mean-built v stores heads.Mul w n s ts f = mean-made_at v w Mul ts
mean-built v stores heads.And w n s ts f = mean-made_at v w And ts
mean-built v stores heads.Ior w n s ts f = mean-made_at v w Ior ts
mean-built v stores heads.Xor w n s ts f = mean-made_at v w Xor ts
mean-built v stores h w n s ts f = mean-built_parts v stores h w n s ts f

mutual
  pub mean-normal : (v : Valuation) (stores : List Store) (t : Tree) → Stored v stores → mean v (normal stores t) ≡ mean v t
  mean-normal v stores (Sum w c xs) f = mean-summed_cut v w c (normal_atoms stores xs) (weighed v xs) (ap (λ n. n % 2 ^ bits_of w) (weight-normal v stores xs f))
  mean-normal v stores (Node h w n s ps) f = mean-built v stores h w n s (normal_all stores ps) f ∙ ap (λ xs. low (own_width h w) (applied v h w n s xs)) (values-normal v stores ps f)

  pub weight-normal : (v : Valuation) (stores : List Store) (xs : Atoms) → Stored v stores → weight v (normal_atoms stores xs) ≡ weighed v xs
  weight-normal v stores no_atoms f = refl
  weight-normal v stores (atom k t xs) f =
      let p = mean-normal v stores t f in
      let q = weight-normal v stores xs f in
      cc

  pub values-normal : (v : Valuation) (stores : List Store) (ps : Trees) → Stored v stores → values v (trees_of (normal_all stores ps)) ≡ values v ps
  values-normal v stores no_trees f = refl
  values-normal v stores (tree t ts) f =
      let p = width-normal stores t in
      let q = mean-normal v stores t f in
      let r = values-normal v stores ts f in
      cc
