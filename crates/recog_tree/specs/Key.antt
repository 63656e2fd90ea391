-- The key by which the forms that may match an instruction are found: its code, and the code of its
-- source. GCC Internals, "RTL Template", "Side Effect Expressions" (`set`, `parallel`) and "Pattern
-- Ordering".
use Rattle.std.specs.Prelude.{Bool, true, false, not, ◌&&◌, ◌||◌, List, [], ◌∷◌, ℕ, Option, Some, None, Result, Ok, Err, option_map, option_and_then, slice_get, if◌then◌else◌}
use Rattle.std.specs.List.{find}
use Rattle.rtx_tree.specs.declared.code.Code.{Code}
use Rattle.rtx_tree.specs.declared.code.Code.TheVariants.{Set, Parallel}
use Rattle.rtx_tree.specs.declared.tree.Rtx.{Rtx}
use Rattle.rtx_tree.specs.Tree.{head_of, kids_of}
use Rattle.c_eval.specs.Value.{same_code, is_a}
use Rattle.md_match.specs.declared.role.Role.{Role}
use Rattle.md_match.specs.declared.role.Role.TheVariants.{Itself}
use Rattle.md_match.specs.Pattern.{role_of}
use Rattle.md_forms.specs.md_pattern.declared.reason.Reason.{Reason}
use Rattle.md_forms.specs.declared.form.Form.{Form}
use Rattle.md_forms.specs.declared.form.Entry.{Entry}
use Rattle.md_recog.specs.declared.half.Half.{Half}
use Rattle.md_recog.specs.declared.half.Half.TheVariants as half
use Rattle.md_recog.specs.Recog.{has_half, is_scratch}
use Rattle.recog_tree.specs.declared.key.Key.{Key}

-- ---- the key of an expression, an instruction or a pattern of one

abbrev pub is_itself : Role → Bool
is_itself Itself = true
is_itself _ = false

-- one of the five codes that stand for other expressions in a pattern
abbrev pub is_wild : Code → Bool
is_wild code = not (is_itself (role_of code))

abbrev pub code_of : Rtx → Code
code_of x = (head_of x).code

-- the code of the part with a number, where there is one
abbrev pub part_code : Rtx → ℕ → Option Code
part_code x number = option_map code_of (slice_get (kids_of x) number)

abbrev pub own_code : Code → Option Code
own_code code = if is_wild code then Some code else None

-- The source of one effect: the code of what a `set` sets to. What stands for other expressions may
-- stand for a `set` of any source, so its own code counts; any other effect has no source.
abbrev pub effect_source : Rtx → Option Code
effect_source x = if is_a Set x then part_code x 1 else own_code (code_of x)

-- in a `parallel` the source of the first effect counts
abbrev pub source_of : Rtx → Option Code
source_of x = if is_a Parallel x then option_and_then effect_source (slice_get (kids_of x) 0) else effect_source x

abbrev pub key_of : Rtx → Key
key_of x = record { code = code_of x; source = source_of x }

-- ---- which instructions have the key of a pattern

-- a code of a pattern lets the code of an instruction through
abbrev pub fits_code : Code → Code → Bool
fits_code pattern insn = is_wild pattern || same_code pattern insn

abbrev pub fits_source : Option Code → Option Code → Bool
fits_source (Some pattern) (Some insn) = fits_code pattern insn
fits_source (Some pattern) None = is_wild pattern
fits_source None (Some insn) = false
fits_source None None = true

-- A pattern has an instruction's key where its code stands for any other, or is the instruction's
-- and its source's code stands for any other or is that of the instruction's source.
abbrev pub has_key : Key → Key → Bool
has_key pattern insn =
    is_wild pattern.code ||
    (same_code pattern.code insn.code && fits_source pattern.source insn.source)

-- ---- which forms are tried

-- the pattern of a form that has one alone
abbrev pub only_pattern : List Rtx → Option Rtx
only_pattern [] = None
only_pattern (p ∷ []) = Some p
only_pattern (p ∷ q ∷ ps) = None

-- The pattern by which a half is found: that of its instruction, and for a window that of the first
-- of its instructions.
abbrev pub leading : Half → List Rtx → Option Rtx
leading half.Insn ps = only_pattern ps
leading half.Split ps = only_pattern ps
leading half.Window ps = find (λ p. not (is_scratch p)) ps

-- the key of a form that has a half
abbrev pub form_key : Half → Form → Option Key
form_key asked form =
    if has_half asked form.head then option_map key_of (leading asked form.patterns) else None

abbrev pub judged_key : Half → Result Form Reason → Option Key
judged_key asked (Ok form) = form_key asked form
judged_key asked (Err reason) = None

-- a form that is set aside has none
abbrev pub entry_key : Half → Entry → Option Key
entry_key asked entry = judged_key asked entry.form

-- whether what has a key, if it has one, is tried for an instruction with another
abbrev pub is_tried_by : Key → Option Key → Bool
is_tried_by insn None = false
is_tried_by insn (Some pattern) = has_key pattern insn

-- whether a half of a form is tried for an instruction: the form has it, and its pattern has the
-- instruction's key
abbrev pub is_tried : Half → Rtx → Entry → Bool
is_tried asked insn entry = is_tried_by (key_of insn) (entry_key asked entry)
