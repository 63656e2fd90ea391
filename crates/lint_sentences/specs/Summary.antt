-- The summary of a report: how many forms there are, taken and set aside, by the reasons; how many
-- instances were tried; and how many findings there are of each kind.
use Rattle.std.specs.Prelude.{ℕ, ◌-◌, ◌==◌, nat_lt, List, [], ◌++◌, length, codes, if◌then◌else◌}
use Rattle.std.specs.List.{count_by}
use Rattle.std.specs.Fmt.{decimal}
use Rattle.lint_sentences.specs.declared.kind.Kind.{Kind}
use Rattle.lint_sentences.specs.declared.kind.Kind.TheVariants as kind
use Rattle.lint_sentences.specs.Kind.{is_kind}
use Rattle.lint_sentences.specs.Each.{each_from}

abbrev pub counted : List ℕ → ℕ → List ℕ
counted words count = words ++ decimal count

-- ---- forms

abbrev pub reason_count : List ℕ → ℕ → ℕ
reason_count reasons n = count_by (λ r. r == n) reasons

-- how many forms have a reason, where some have
abbrev pub reason_counted : ℕ → ℕ → List ℕ
reason_counted n count =
    if nat_lt 0 count then counted (codes ", reason ") n ++ counted (codes ": ") count else []

abbrev pub reason_text : List ℕ → ℕ → List ℕ
reason_text reasons n = reason_counted n (reason_count reasons n)

abbrev pub forms_text : ℕ → List ℕ → List ℕ
forms_text forms reasons =
    counted (codes "forms ") forms ++ (counted (codes ", taken ") (forms - length reasons) ++ (counted (codes ", aside ") (length reasons) ++ (each_from (reason_text reasons) 1 12 ++ codes "\n")))

-- ---- findings

abbrev pub kind_count : List Kind → Kind → ℕ
kind_count kinds k = count_by (is_kind k) kinds

abbrev pub kind_text : List Kind → List ℕ → Kind → List ℕ
kind_text kinds words k = counted words (kind_count kinds k)

abbrev pub lacking_kinds : List Kind → List ℕ
lacking_kinds kinds = kind_text kinds (codes ", missing ") kind.Missing ++ kind_text kinds (codes ", unmatched ") kind.Unmatched

abbrev pub first_kinds : List Kind → List ℕ
first_kinds kinds = kind_text kinds (codes "wrong ") kind.Wrong ++ (kind_text kinds (codes ", unreached ") kind.Unreached ++ lacking_kinds kinds)

abbrev pub other_kinds : List Kind → List ℕ
other_kinds kinds = kind_text kinds (codes ", untaken ") kind.Untaken ++ (kind_text kinds (codes ", cannot ") kind.Cannot ++ (kind_text kinds (codes ", idle ") kind.Idle ++ codes "\n"))

-- ---- the summary

abbrev pub summary_text : ℕ → List ℕ → ℕ → List Kind → List ℕ
summary_text forms reasons tried kinds =
    forms_text forms reasons ++ (counted (codes "instances ") tried ++ (codes "\n" ++ (first_kinds kinds ++ other_kinds kinds)))
