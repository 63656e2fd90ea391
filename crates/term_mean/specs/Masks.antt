-- Products and operators on bits at each width, and truncation to it. An `and` with the constant of
-- 8, 16 or 32 ones, below its own width, is an extension by zeros of what is cut of the rest; so
-- each width needs truncation to those below it, and nothing above.
use Rattle.std.specs.Prelude.{ℕ, ◌-◌, ◌^◌, ◌==◌, if◌then◌else◌, List, [], ◌∷◌, Option, Some, None}
use Rattle.bits64.specs.declared.Width.{Width}
use Rattle.bits64.specs.declared.Width.TheVariants.{W8, W16, W32, W64}
use Rattle.bits64.specs.Words.{low}
use Rattle.term_tree.specs.declared.head.Joint.{Joint}
use Rattle.term_tree.specs.declared.head.Joint.TheVariants.{And}
use Rattle.term_tree.specs.declared.head.Extension.TheVariants.{Zero}
use Rattle.term_tree.specs.declared.head.Head.TheVariants as heads
use Rattle.term_tree.specs.Tree.{Tree, width_of}
use Rattle.term_tree.specs.Form.{same_width}
use Rattle.term_mean.specs.Joints.{gathered, plain, finished, joined}
use Rattle.term_mean.specs.Cuts.{cut, one_part}
use Rattle.term_mean.specs.Extensions.{extended}

-- the width of which a constant is all ones, where it is below w
abbrev pub mask_8 : ℕ → Option Width → Option Width
mask_8 c wider = if c == 2 ^ 8 - 1 then Some W8 else wider

abbrev pub mask_16 : ℕ → Option Width → Option Width
mask_16 c wider = if c == 2 ^ 16 - 1 then Some W16 else wider

abbrev pub mask_32 : ℕ → Option Width
mask_32 c = if c == 2 ^ 32 - 1 then Some W32 else None

abbrev pub mask_in : Width → ℕ → Option Width
mask_in W8 c = None
mask_in W16 c = mask_8 c None
mask_in W32 c = mask_8 c (mask_16 c None)
mask_in W64 c = mask_8 c (mask_16 c (mask_32 c))

abbrev pub masked : Option Width → (Width → Tree → Tree) → Width → ℕ → List Tree → Tree
masked None narrow w c ts = finished And w c ts
masked (Some k) narrow w c [] = finished And w c []
masked (Some k) narrow w c (t ∷ ts) =
    extended (λ o us. joined o w us) Zero w (narrow k (plain And w (t ∷ ts)))

-- from a constant and the other parts, where `narrow` cuts to the widths below
abbrev pub made_of : (Width → Tree → Tree) → Joint → Width → ℕ → List Tree → Tree
made_of narrow And w c ts = masked (mask_in w c) narrow w c ts
made_of narrow o w c ts = finished o w c ts

abbrev pub made : (Width → Tree → Tree) → Joint → Width → List Tree → Tree
made narrow o w ts = let j = gathered o w ts in made_of narrow o w (low w j.constant) j.parts

-- ---- the widths, from below
unfoldable pub made_8 : Joint → List Tree → Tree
made_8 o ts = joined o W8 ts

unfoldable pub cut_8 : Tree → Tree
cut_8 t = cut made_8 W8 t

abbrev pub narrow_16 : Width → Tree → Tree
narrow_16 k t = cut_8 t

unfoldable pub made_16 : Joint → List Tree → Tree
made_16 o ts = made narrow_16 o W16 ts

unfoldable pub cut_16 : Tree → Tree
cut_16 t = cut made_16 W16 t

abbrev pub narrow_32 : Width → Tree → Tree
narrow_32 W8 t = cut_8 t
narrow_32 _ t = cut_16 t

unfoldable pub made_32 : Joint → List Tree → Tree
made_32 o ts = made narrow_32 o W32 ts

unfoldable pub cut_32 : Tree → Tree
cut_32 t = cut made_32 W32 t

abbrev pub narrow_64 : Width → Tree → Tree
narrow_64 W8 t = cut_8 t
narrow_64 W16 t = cut_16 t
narrow_64 _ t = cut_32 t

unfoldable pub made_64 : Joint → List Tree → Tree
made_64 o ts = made narrow_64 o W64 ts

-- ---- at any width

-- a product or an operator on bits
abbrev pub made_at : Width → Joint → List Tree → Tree
made_at W8 o ts = made_8 o ts
made_at W16 o ts = made_16 o ts
made_at W32 o ts = made_32 o ts
made_at W64 o ts = made_64 o ts

-- a wider term, cut; none is wider than 64
abbrev pub cut_to : Width → Tree → Tree
cut_to W8 t = cut_8 t
cut_to W16 t = cut_16 t
cut_to W32 t = cut_32 t
cut_to W64 t = one_part heads.Trunc W64 t

-- the low 8 bits of a term of any width
abbrev pub low_8 : Tree → Tree
low_8 t = if same_width (width_of t) W8 then t else cut_8 t
