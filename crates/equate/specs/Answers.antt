-- What a call that compares instructions with what stands in their place gives.
use Rattle.std.specs.Prelude.{◌≡◌, ◌+◌, Result, Ok, Err}
use Rattle.rtx_tree.specs.Limit.{most_nodes}
use Rattle.term_tree.specs.View.{tree_of}
use Rattle.term_text.specs.declared.item.Item.TheVariants.{Need}
use Rattle.sym_term.specs.declared.normal.TermRefusal.{TermRefusal}
use Rattle.sym_term.specs.declared.normal.TermRefusal.TheVariants as refusal
use Rattle.sym_diff.specs.Difference.{Differ, Lacks}
use Rattle.equate.specs.Verdict.{Same, Different, BadShape, TooLarge}
use Rattle.equate.specs.Verdict as spec
use Rattle.equate.specs.declared.verdict.Verdict.{Verdict}
use Rattle.equate.specs.declared.verdict.Verdict.TheVariants as verdict

-- the answer is the verdict, and the item of a need is a need; a term that is too large is refused;
-- want of memory is free
abbrev pub Gives : Result Verdict TermRefusal → spec.Verdict → Type 0
Gives (Ok verdict.Same) v = v ≡ Same
Gives (Ok (verdict.Differ item left right)) v =
    v ≡ Different (Differ item (tree_of left) (tree_of right))
Gives (Ok (verdict.Needs item term)) v = (v ≡ Different (Lacks (tree_of term))) × (item ≡ Need)
Gives (Ok (verdict.Shape index)) v = v ≡ BadShape index
Gives (Err (refusal.Size size)) v = (v ≡ TooLarge) × (size ≡ most_nodes + 1)
Gives (Err refusal.Memory) v = Unit {0}
