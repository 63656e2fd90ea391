use Rattle.std.proofs.Common.{◌≡◌, map}
use Rattle.rv_text.specs.declared.line.CodeItem.TheVariants as item
use Rattle.asm_out.proofs.lines.code_of.Given as goal

abbrev pub invariant-loop-line : goal.invariant-loop-line
invariant-loop-line l = l.items ≡ map item.Code l.yielded
