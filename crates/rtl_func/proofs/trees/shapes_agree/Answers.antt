use Rattle.std.proofs.Common.{sym, ◌∙◌}
use Rattle.rtl_func.proofs.ShapeLaws.{shaped_parts}
use Rattle.rtl_func.proofs.trees.shapes_agree.Goals as goal

pub returns-then-is_effect-clause-parts : goal.returns-then-is_effect-clause-parts
returns-then-is_effect-clause-parts c = λ agree. shaped_parts c.args.pattern.now (sym c.trees_keep.ensures ∙ agree)
