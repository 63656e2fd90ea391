-- The plain forms have them.
use Rattle.std.proofs.Common.{refl}
use Rattle.md_forms.specs.md_tables.md_draft.Head.{head_named}
use Rattle.plain_forms.specs.Forms.{plain_forms}
use Rattle.law_plain_operands.specs.Have.{HavePlain}

pub have_plain : HavePlain plain_forms
unfolding plain_forms head_named
have_plain = record {
  register_or_0 = refl;
  register_or_int = refl;
  called = refl;
  short = refl;
  zero = refl;
  count_32 = refl;
  count_64 = refl;
}
