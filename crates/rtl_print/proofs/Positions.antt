-- The positions of the expressions behind a head: so many trees stand there.
use Rattle.std.proofs.Common.{◌≡◌, ◌<◌, List, length, take, drop, true, Option, Some, ap, subst, ◌∙◌}
use Rattle.std.specs.Prelude.{IfSome}
use Rattle.std.specs.List.{list_all}
use Rattle.rtx_tree.specs.declared.class.Class.{Class}
use Rattle.rtx_tree.specs.Code.{parts_of}
use Rattle.lisp_read.specs.declared.position.Position.{Position}
use Rattle.lisp_read.specs.declared.tree.Tree.{Tree}
use Rattle.lisp_read.specs.Shape.{is_nested}
use Rattle.lisp_read.specs.Expression.{positions_of, if_nested, parts_of_class}
use Rattle.lisp_read.proofs.RowPositions.{Fits, row_positions}
use Rattle.rtl_print.proofs.Numbers.{if_some, then_some}

pub parts_positions : (c : Class) (items : List Tree) (ps : List Position) → parts_of_class c items ≡ Some ps → (positions_of c items ≡ Some ps) × (list_all is_nested (take (length ps) (drop 1 items)) ≡ true)
parts_positions c items ps e =
    let q = then_some (positions_of c items) (if_nested items) ps e in
    let says = if_some (list_all is_nested (take (length q.0) (drop 1 items))) q.0 ps q.2 in
    (q.1 ∙ ap (λ (x : List Position). Some x) says.1, subst (λ (x : List Position). list_all is_nested (take (length x) (drop 1 items)) ≡ true) says.1 says.0)

pub fits : (c : Class) (items : List Tree) (ps : List Position) → positions_of c items ≡ Some ps → length ps < length items
fits c items ps e =
    let both : Fits (parts_of c) items ps = subst (λ (o : Option (List Position)). IfSome o (Fits (parts_of c) items)) e (row_positions c items) in both.1
