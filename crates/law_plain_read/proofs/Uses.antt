-- What a call uses has modes.
use Rattle.std.proofs.Common.{◌≡◌, ℕ, ◌-◌, length, Bool, true, false, cond, ◌&&◌, List, [], ◌∷◌, map, codes, Option, Some, None, refl, sym, ap, subst, ◌∙◌}
use Rattle.std.specs.Prelude.{ℤ, slice_get, option_and_then}
use Rattle.std.specs.List.{AllByRecursion}
use Rattle.rtx_tree.specs.declared.code.Code.{Code}
use Rattle.rtx_tree.specs.declared.code.Code.TheVariants as code
use Rattle.rtx_tree.specs.declared.code.Mode.{Mode}
use Rattle.rtx_tree.specs.declared.function.ArgUse.{ArgUse}
use Rattle.rtx_tree.specs.declared.tree.Rtx.{Rtx, out-Rtx}
use Rattle.rtx_tree.specs.Tree.{kids_of}
use Rattle.rtl_func.specs.Shapes.{has_mode}
use Rattle.lisp_read.specs.declared.position.Position.TheVariants.{Top}
use Rattle.lisp_read.specs.declared.tree.Tree.{Tree}
use Rattle.lisp_read.specs.Expression.{rtx_in}
use Rattle.lisp_read.specs.Leaf.{below}
use Rattle.lisp_read.specs.Parsed.{stands, outside}
use Rattle.lisp_read.specs.Shape.{items_of}
use Rattle.rtl_read.specs.Call.{arg_use, use_by_code, use_by, use_in, use_of, is_link, is_whole_link, link_by, end_of, uses_by, uses_in, uses_told, uses_of}
use Rattle.rtl_read.specs.Word.{expression_of, is_alone}
use Rattle.rtl_read.proofs.Uses.{uses_out}
use Rattle.rtl_print.proofs.Good.{by_items}
use Rattle.rtl_print.proofs.Numbers.{map_some, then_some}
use Rattle.rtl_print.proofs.Parsing.{or_stands, pair_stands}
use Rattle.rtl_print.proofs.UsesBack.{if_stood}
use Rattle.law_plain_leaves.specs.Machine.{is_printable}
use Rattle.law_plain_leaves.proofs.Shaped.{Each, two_of, itself, parts}
use Rattle.law_plain_read.specs.Read.{are_moded}
use Rattle.law_plain_read.proofs.Sound.{is_moded_by, is_sound, both_true}
use Rattle.law_plain_read.proofs.Expressions.{expression}

-- ---- one use

register_says : (c : Code) (m : Mode) (z : ℤ) (u : ArgUse) → is_moded_by c m ≡ true → use_by_code c m z ≡ Some u → has_mode u.mode ≡ true
register_says code.Reg m z u moded is = let k = map_some (below 32 z) (arg_use m) u is in subst (λ (v : ArgUse). has_mode v.mode ≡ true) k.2 moded
register_says _ m z u moded is = absurd (let no : ⊥ = cc in no)

use_says : (c : Code) (kids : List Rtx) (u : ArgUse) → Each is_sound kids → use_by c kids ≡ Some u → has_mode u.mode ≡ true
use_says code.Use (x ∷ []) u all is =
    let here = two_of (is_printable x) (is_moded_by (out-Rtx x).code (out-Rtx x).mode) (itself is_sound x all.0) in
    register_says (out-Rtx x).code (out-Rtx x).mode (out-Rtx x).number u here.1 is
use_says code.Use [] u all is = absurd (let no : ⊥ = cc in no)
use_says code.Use (x ∷ y ∷ kids) u all is = absurd (let no : ⊥ = cc in no)
use_says _ kids u all is = absurd (let no : ⊥ = cc in no)

one_use : (t : Tree) (u : ArgUse) → use_of t ≡ stands u → has_mode u.mode ≡ true
one_use t u is =
    let x = then_some (expression_of t) use_in u (or_stands t (option_and_then use_in (expression_of t)) u is) in
    let read = expression t Top x.0 (if_stood (rtx_in t) x.0 x.1) in
    use_says (out-Rtx x.0).code (kids_of x.0) u (parts is_sound x.0 read) x.2

-- ---- the chain

abbrev P : Tree → Type 0
P t = (us : List ArgUse) → uses_in t ≡ stands us → are_moded us ≡ true

none : (us : List ArgUse) → stands [] ≡ stands us → are_moded us ≡ true
none us is = let same : [] ≡ us = cc in subst (λ (vs : List ArgUse). are_moded vs ≡ true) same refl

ended : (b : Bool) (t : Tree) (us : List ArgUse) → cond b (stands []) (outside t) ≡ stands us → are_moded us ≡ true
ended true t us is = none us is
ended false t us is = absurd (let no : ⊥ = cc in no)

linked : (t : Tree) (items : List Tree) → AllByRecursion P items → (us : List ArgUse) → link_by items (map uses_in items) ≡ stands us → are_moded us ≡ true
linked t [] all us is = none us is
linked t (h ∷ []) all us is = none us is
linked t (h ∷ element ∷ []) all us is = none us is
linked t (h ∷ element ∷ more ∷ x ∷ rest) all us is = none us is
linked t (h ∷ element ∷ more ∷ []) all us is =
    let s = pair_stands (use_of element) (uses_in more) (λ (u : ArgUse) (rest : List ArgUse). u ∷ rest) us is in
    subst (λ (vs : List ArgUse). are_moded vs ≡ true) s.4 (both_true (has_mode s.0.mode) (are_moded s.1) (one_use element s.0 s.2) (all.1.1.0 s.1 s.3))

in_items : (t : Tree) (items : List Tree) → AllByRecursion P items → (us : List ArgUse) → uses_by t items (map uses_in items) ≡ stands us → are_moded us ≡ true
in_items t items all us is = go (is_whole_link items) is
  where
    go : (b : Bool) → cond b (link_by items (map uses_in items)) (end_of t) ≡ stands us → are_moded us ≡ true
    go true is = linked t items all us is
    go false is = ended (is_alone (codes "nil") (items_of t)) t us is

chain : (t : Tree) (us : List ArgUse) → uses_in t ≡ stands us → are_moded us ≡ true
chain t = by_items P (λ u all us is. in_items u (items_of u) all us (sym (uses_out u) ∙ is)) t

told : (o : Option Tree) (us : List ArgUse) → uses_told o ≡ stands us → are_moded us ≡ true
told None us is = none us is
told (Some t) us is = go (is_link (items_of t)) is
  where
    go : (b : Bool) → cond b (uses_in t) (stands []) ≡ stands us → are_moded us ≡ true
    go true is = chain t us is
    go false is = none us is

-- the last of some trees, if it is a chain
pub uses : (rest : List Tree) (us : List ArgUse) → uses_of rest ≡ stands us → are_moded us ≡ true
uses rest us is = told (slice_get rest (length rest - 1)) us is
