-- The refusals: their statuses, and their lines on the sink of errors.
use Rattle.std.specs.Prelude.{ℕ, Bool, true, false, List, ◌++◌, codes}
use Rattle.std.specs.Fmt.{decimal}
use Rattle.rtx_tree.specs.declared.place.Place.{Place}
use Rattle.rtx_tree.specs.declared.limit.Limit.{Limit}
use Rattle.rtx_tree.specs.declared.tree.Rtx.{Rtx}
use Rattle.rtx_tree.specs.Limit.{limit_name}
use Rattle.pass_name.specs.Pass.{pass_name}
use Rattle.pass_name.specs.declared.pass.Pass.{Pass}
use Rattle.rtl_print.specs.Print.{printed}
use Rattle.term_text.specs.declared.item.Item.{Item}
use Rattle.term_text.specs.Item.{item_text}
use Rattle.run_refusal.specs.declared.refusal.Refusal.{Refusal}
use Rattle.run_refusal.specs.declared.refusal.Refusal.TheVariants as refusal

abbrev pub status_of : Refusal → ℕ
status_of refusal.Usage = 1
status_of (refusal.Syntax file place) = 2
status_of (refusal.Construct place name) = 2
status_of (refusal.IllFormed function uid rule) = 2
status_of (refusal.Limit which count) = 2
status_of (refusal.Unmatched function uid pass insn) = 3
status_of (refusal.Unsatisfied function uid form insn) = 4
status_of (refusal.NotEquated function uid rule item left right) = 5
status_of refusal.ReadFault = 6
status_of refusal.WriteFault = 7
status_of refusal.Memory = 8

-- the refusals whose lines have values in them; the line of another takes no memory
abbrev pub has_values : Refusal → Bool
has_values (refusal.Syntax file place) = true
has_values (refusal.Construct place name) = true
has_values (refusal.IllFormed function uid rule) = true
has_values (refusal.Limit which count) = true
has_values (refusal.Unmatched function uid pass insn) = true
has_values (refusal.Unsatisfied function uid form insn) = true
has_values (refusal.NotEquated function uid rule item left right) = true
has_values _ = false

-- LINE:COLUMN
abbrev pub place_text : Place → List ℕ
place_text place = decimal place.line ++ (codes ":" ++ decimal place.column)

abbrev pub syntax_line : List ℕ → Place → List ℕ
syntax_line file place =
    codes "rtlc: " ++ (file ++ (codes ":" ++ (place_text place ++ codes ": syntax\n")))

abbrev pub construct_line : Place → List ℕ → List ℕ
construct_line place name =
    codes "rtlc: -:" ++ (place_text place ++ (codes ": construct " ++ (name ++ codes "\n")))

abbrev pub limit_line : Limit → ℕ → List ℕ
limit_line which count =
    codes "rtlc: limit " ++ (limit_name which ++ (codes ": " ++ (decimal count ++ codes "\n")))

-- rtlc: FUNCTION:UID:, and a space
abbrev pub at_text : List ℕ → ℕ → List ℕ
at_text function uid = codes "rtlc: " ++ (function ++ (codes ":" ++ (decimal uid ++ codes ": ")))

abbrev pub rule_line : List ℕ → ℕ → ℕ → List ℕ
rule_line function uid rule =
    at_text function uid ++ (codes "rule " ++ (decimal rule ++ codes "\n"))

abbrev pub pass_text : Pass → List ℕ
pass_text pass = codes "unmatched at " ++ (pass_name pass ++ codes ": ")

abbrev pub unmatched_line : List ℕ → ℕ → Pass → Rtx → List ℕ
unmatched_line function uid pass insn =
    at_text function uid ++ (pass_text pass ++ (printed insn ++ codes "\n"))

-- unsatisfied FORM:, and a space
abbrev pub unsatisfied_text : List ℕ → List ℕ
unsatisfied_text form = codes "unsatisfied " ++ (form ++ codes ": ")

abbrev pub unsatisfied_line : List ℕ → ℕ → List ℕ → Rtx → List ℕ
unsatisfied_line function uid form insn =
    at_text function uid ++ (unsatisfied_text form ++ (printed insn ++ codes "\n"))

-- not equated RULE:, and a space
abbrev pub form_text : List ℕ → List ℕ
form_text rule = codes "not equated " ++ (rule ++ codes ": ")

abbrev pub both_text : List ℕ → List ℕ → List ℕ
both_text left right = left ++ (codes " and " ++ (right ++ codes "\n"))

-- ITEM: LEFT and RIGHT
abbrev pub sides_text : Item → List ℕ → List ℕ → List ℕ
sides_text item left right = item_text item ++ (codes ": " ++ both_text left right)

abbrev pub not_equated_line : List ℕ → ℕ → List ℕ → Item → List ℕ → List ℕ → List ℕ
not_equated_line function uid rule item left right =
    at_text function uid ++ (form_text rule ++ sides_text item left right)

-- the line of a refusal, which ends with a newline
abbrev pub line_of : Refusal → List ℕ
line_of refusal.Usage = codes "rtlc: the words are not a command\n"
line_of (refusal.Syntax file place) = syntax_line file place
line_of (refusal.Construct place name) = construct_line place name
line_of (refusal.IllFormed function uid rule) = rule_line function uid rule
line_of (refusal.Limit which count) = limit_line which count
line_of (refusal.Unmatched function uid pass insn) = unmatched_line function uid pass insn
line_of (refusal.Unsatisfied function uid form insn) = unsatisfied_line function uid form insn
line_of (refusal.NotEquated function uid rule item left right) =
    not_equated_line function uid rule item left right
line_of refusal.ReadFault = codes "rtlc: read fault\n"
line_of refusal.WriteFault = codes "rtlc: write fault\n"
line_of refusal.Memory = codes "rtlc: out of memory\n"
