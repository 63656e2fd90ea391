-- Whether some form matches a pattern before registers have homes: GCC Internals, "Pattern Ordering".
use Rattle.std.specs.Prelude.{ℕ, List}
use Rattle.rtx_tree.specs.declared.tree.Rtx.{Rtx}
use Rattle.md_match.specs.Pattern.{Ops}
use Rattle.md_desc.specs.md_forms.declared.form.Entry.{Entry}
use Rattle.md_desc.specs.Recog.{MatchesAt, NoneMatches}
use Rattle.form_needs.specs.Needs.{lower_facts}

-- some form matches a pattern
pub record IsMatched (forms : List Entry) (x : Rtx) : Type 0 where
  pub form : ℕ
  pub operands : Ops
  pub matches : MatchesAt forms lower_facts x form operands

-- none does
abbrev pub IsUnmatched : List Entry → Rtx → Type 0
IsUnmatched forms x = NoneMatches forms lower_facts x
