-- The value of a tree in which new trees stand in the places of a pattern's operands.
use Rattle.std.proofs.Common.{◌≡◌, true, List, Some}
use Rattle.std.specs.Prelude.{ℤ}
use Rattle.rtx_tree.specs.declared.machine.SymbolAt.{SymbolAt}
use Rattle.rtx_tree.specs.declared.memories.MemByte.{MemByte}
use Rattle.rtx_tree.specs.declared.tree.Rtx.{Rtx}
use Rattle.rtl_func.specs.Shapes.{is_shaped}
use Rattle.rtl_func.proofs.AllPass.{all_pass}
use Rattle.rtl_step.specs.Regs.{Regs}
use Rattle.sym_insns.specs.Shape.{all_natural}
use Rattle.md_match.specs.Pattern.{Ops, operand_numbered}
use Rattle.reload_operands.specs.Put.{put}
use Rattle.law_operands_replaced.specs.Places.{StandsFor}
use Rattle.law_operands_replaced.specs.Spare.{KnowsRest, NamesNoSpare}
use Rattle.law_operands_replaced.proofs.Addresses.{IsNewTree, becomes_reads}
use Rattle.law_operands_replaced.proofs.NewTrees.{is_whole}
use Rattle.law_operands_replaced.proofs.Putting.{put_becomes}
use Rattle.law_operands_replaced.proofs.Readings.{ReadsAs}
use Rattle.law_operands_replaced.proofs.ReadTrees.{read_in}

-- Where each new tree is read as the tree in whose place it stands, the whole is, in its own mode: it has to be within the table of codes, and
-- there is no low part in it.
pub put_reads : (symbols : List SymbolAt) (regs other : Regs) (memory : List MemByte) (news : Ops) (pattern x : Rtx) → KnowsRest regs other →
    ((number : ℤ) (z r : Rtx) → StandsFor pattern x number z → operand_numbered news number ≡ Some r → IsNewTree symbols regs other memory z r) →
    all_natural x ≡ true → NamesNoSpare x → all_pass is_whole x ≡ true → all_pass is_shaped (put pattern news x) ≡ true →
    ReadsAs (read_in symbols regs memory x) (read_in symbols other memory (put pattern news x))
put_reads symbols regs other memory news pattern x known may natural quiet whole shaped =
    becomes_reads symbols regs other memory known (IsNewTree symbols regs other memory) (λ x y is. is) x (put pattern news x)
    (put_becomes (IsNewTree symbols regs other memory) news pattern x may whole) natural quiet shaped
