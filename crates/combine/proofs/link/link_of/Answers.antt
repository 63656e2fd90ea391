use Rattle.std.proofs.Common.{◌≡◌, [], ◌∷◌, sym, ◌∙◌}
use Rattle.insn_fuse.specs.Fused.{reads_at}
use Rattle.combine.proofs.Found.{path_of, no_reader, no_pass}
use Rattle.combine.proofs.link.link_of.Goals as goal

pub returns-then-not-does_use : goal.returns-then-not-does_use
returns-then-not-does_use c =
    no_reader c.args.chain.now c.args.first c.args.second c.insn.result.now c.insn.ensures c.insn-other.result.now c.insn-other.ensures c.in-Some.register (sym c.set_of.ensures ∙ c.in-Some.is)
    (sym c.does_use.ensures ∙ c.if-not-does_use.true)

pub returns-then-pass_between : goal.returns-then-pass_between
returns-then-pass_between c = record {
  one = c.insn.result.now;
  other = c.insn-other.result.now;
  at_first = c.insn.ensures;
  at_second = c.insn-other.ensures;
  sets = sym c.set_of.ensures ∙ c.in-Some.is;
  kind_is = sym c.is_kind.ensures ∙ c.if-not-is_kind.false;
  once = path_of (λ path. reads_at c.in-Some.register c.insn-other.result.now.pattern ≡ path ∷ []) c.in_ok-path.field-0 c.in-Some-2.path c.in-Some-2.is c.in_ok-path.ensures.one;
  between = c.pass_between.ensures.all c.if-pass_between.true;
}

pub returns-else-pass_between : goal.returns-else-pass_between
returns-else-pass_between c =
    no_pass c.args.chain.now c.args.first c.args.second c.insn.result.now c.insn.ensures c.insn-other.result.now c.insn-other.ensures c.in-Some.register (sym c.set_of.ensures ∙ c.in-Some.is) (c.pass_between.ensures.none c.if-pass_between.false)
