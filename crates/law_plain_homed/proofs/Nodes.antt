-- What is no register, and no low part of one, keeps its head when homes are put in.
use Rattle.std.proofs.Common.{◌≡◌, ℕ, ℤ, Bool, true, false, List, [], ◌∷◌, map, Option, Some, None, refl, sym, ap, ◌∙◌}
use Rattle.rtx_tree.specs.declared.code.Code.{Code}
use Rattle.rtx_tree.specs.declared.code.Code.TheVariants as code
use Rattle.rtx_tree.specs.declared.tree.Rtx.{Rtx, out-roll-Rtx}
use Rattle.rtx_tree.specs.Tree.{RtxHead, head_of, kids_of, tree_of}
use Rattle.assign.specs.declared.home.HomeOf.{HomeOf}
use Rattle.assign.specs.declared.places.Layout.{Layout}
use Rattle.reload_homes.specs.Homes.{register_numbered, register_in, register_by, register_at, homed}
use Rattle.reload_homes.proofs.Rewrites.{homed_over}

-- a register, or the low part of one
abbrev pub is_home_code : Code → Bool
is_home_code code.Reg = true
is_home_code code.Subreg = true
is_home_code _ = false

unnumbered : (c : Code) (z : ℤ) → is_home_code c ≡ false → register_numbered c z ≡ None
unnumbered code.Reg z other = cc
unnumbered code.Subreg z other = cc
unnumbered _ z other = refl

by_itself : (c : Code) (x : Rtx) (kids : List Rtx) → is_home_code c ≡ false → register_by c x kids ≡ register_in x
by_itself code.Reg x kids other = cc
by_itself code.Subreg x kids other = cc
by_itself _ x kids other = refl

-- no other tree is one
pub no_register : (x : Rtx) (c : Code) → (head_of x).code ≡ c → is_home_code c ≡ false → register_at x ≡ None
no_register x c is other =
    ap (λ c. register_by c x (kids_of x)) is ∙ (by_itself c x (kids_of x) other ∙ (ap (λ c. register_numbered c (head_of x).number) is ∙ unnumbered c (head_of x).number other))

module _ (homes : List HomeOf) (layout : Layout) where
  pub over : (h : RtxHead) (kids : List Rtx) → is_home_code h.code ≡ false → homed homes layout (tree_of h kids) ≡ tree_of h (map (homed homes layout) kids)
  over h kids other =
      let x = tree_of h kids in
      let out = out-roll-Rtx (record { code = h.code; mode = h.mode; number = h.number; name = h.name; kids = kids }) in
      homed_over homes layout x (no_register x h.code (ap (λ o. o.code) out) other) ∙
      ap (λ o. tree_of (record { code = o.code; mode = o.mode; number = o.number; name = o.name }) (map (homed homes layout) o.kids)) out
