-- What is read of a call's pattern is sound.
use Rattle.std.proofs.Common.{◌≡◌, List, [], ◌∷◌, Option, Some, None, refl, subst}
use Rattle.std.specs.Prelude.{filter}
use Rattle.rtx_tree.specs.declared.tree.Rtx.{Rtx}
use Rattle.lisp_read.specs.declared.position.Position.TheVariants.{Pattern}
use Rattle.lisp_read.specs.declared.tree.Tree.{Tree}
use Rattle.lisp_read.specs.Expression.{read_at}
use Rattle.lisp_read.specs.Parsed.{stands, each_parsed}
use Rattle.rtl_read.specs.Call.{is_kept, together, effects_of, call_by, call_of}
use Rattle.rtl_print.proofs.Parsing.{map_stands, pair_stands}
use Rattle.law_plain_leaves.proofs.Shaped.{Each}
use Rattle.law_plain_read.proofs.Sound.{is_sound, AreSound}
use Rattle.law_plain_read.proofs.Expressions as expressions

each_read : (ts : List Tree) (kids : List Rtx) → each_parsed (read_at Pattern) ts ≡ stands kids → Each is_sound kids
each_read [] [] is = tt
each_read [] (x ∷ xs) is = absurd (let no : ⊥ = cc in no)
each_read (t ∷ ts) kids is =
    let s = pair_stands (read_at Pattern t) (each_parsed (read_at Pattern) ts) (λ (y : Rtx) (ys : List Rtx). y ∷ ys) kids is in
    subst (Each is_sound) s.4 (expressions.expression t Pattern s.0 s.2, each_read ts s.1 s.3)

one_or_all : (kids : List Rtx) → Each is_sound kids → AreSound (together kids)
one_or_all [] all = expressions.together [] all
one_or_all (x ∷ []) all = all.0
one_or_all (x ∷ y ∷ more) all = expressions.together (x ∷ y ∷ more) all

pub call : (t : Tree) (x : Rtx) → call_of t ≡ stands x → AreSound x
call t x is = go (effects_of t) is
  where
    go : (o : Option (List Tree)) → call_by t o ≡ stands x → AreSound x
    go None is = expressions.expression t Pattern x is
    go (Some effects) is =
        let k = map_stands together (each_parsed (read_at Pattern) (filter is_kept effects)) x is in
        subst AreSound k.2 (one_or_all k.0 (each_read (filter is_kept effects) k.0 k.1))
