use Rattle.std.specs.Prelude.{◌≡◌, ◌<◌, List, length}
use Rattle.std.proofs.Common.{◌∙◌, ap, refl, subst, sym, arith}
use Rattle.rtx_tree.specs.declared.tree.Rtx.{Rtx}
use Rattle.rtl_make.specs.Made.{made, numbered, patterns}
use Rattle.rtl_make.proofs.Turns.{patterns_length}
use Rattle.rtl_make.proofs.function.made.Goals as goal

pub numbered-requires : goal.numbered-requires
numbered-requires c =
    let few = c.requires in let same = c.from.ensures in let many = patterns_length c.from.result in
    subst (λ (xs : List Rtx). length xs < 4294967295) (sym c.in_ok-patterns.ensures) (omega (arith, few, same, many))

pub returns : goal.returns
unfolding made
returns c =
    let all : c.in_ok-insns.insns ≡ numbered 1 (patterns c.args.number) =
    c.in_ok-insns.ensures ∙ ap (numbered 1) (c.in_ok-patterns.ensures ∙ ap patterns c.from.ensures) in
    rw all (rw c.in_ok-name.ensures refl)
