-- Why a pass goes no further with a function.
use Rattle.std.specs.Prelude.{ℕ, ◌+◌, List, codes, Option, Some, None}
use Rattle.rtx_tree.specs.declared.function.Insn.{Insn}
use Rattle.rtx_tree.specs.declared.limit.Limit.TheVariants.{TermSize}
use Rattle.rtx_tree.specs.Limit.{most_nodes}
use Rattle.term_text.specs.Text.{text_of}
use Rattle.term_text.specs.declared.item.Item.TheVariants.{Need, Shape}
use Rattle.equate.specs.sym_diff.Difference.{Difference, Differ, Lacks}
use Rattle.equate.specs.Verdict.{Verdict, Same, Different, BadShape, TooLarge}
use Rattle.pass_refusal.specs.declared.refusal.PassRefusal.{PassRefusal}
use Rattle.pass_refusal.specs.declared.refusal.PassRefusal.TheVariants as refusal

abbrev pub unmatched_insn : Insn → PassRefusal
unmatched_insn i = refusal.Unmatched i.uid i.pattern

-- what is shown where a side has no term
abbrev pub dash : List ℕ
dash = codes "-"

-- the first item in which the sides differ, with both terms; or the term that has to be there for
-- the second side alone
abbrev pub difference_refusal : ℕ → List ℕ → Difference → PassRefusal
difference_refusal uid rule (Differ item left right) =
    refusal.NotEquated uid rule item (text_of left) (text_of right)
difference_refusal uid rule (Lacks term) = refusal.NotEquated uid rule Need dash (text_of term)

-- what a verdict refuses, by the uid of the window's first instruction and the name of the form
abbrev pub refused_by : ℕ → List ℕ → Verdict → Option PassRefusal
refused_by uid rule Same = None
refused_by uid rule (Different d) = Some (difference_refusal uid rule d)
refused_by uid rule (BadShape index) = Some (refusal.NotEquated uid rule (Shape index) dash dash)
refused_by uid rule TooLarge = Some (refusal.Limit TermSize (most_nodes + 1))
