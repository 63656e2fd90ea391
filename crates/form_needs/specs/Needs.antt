-- Which instructions need a form, what is asked of one, and what conditions know at each stage: GCC
-- Internals, "Insns", "Side Effect Expressions" (use, clobber) and "Registers and Memory".
use Rattle.std.specs.Prelude.{ℕ, ℤ, pos, Bool, true, false, not, ◌&&◌, ◌||◌, nat_lt, List, [], slice_get, unwrap_or}
use Rattle.std.specs.List.{list_any}
use Rattle.rtx_tree.specs.declared.code.Code.{Code}
use Rattle.rtx_tree.specs.declared.code.Code.TheVariants.{Reg, Use, Clobber}
use Rattle.rtx_tree.specs.declared.function.Kind.{Kind}
use Rattle.rtx_tree.specs.declared.function.Kind.TheVariants.{Plain, Jump, Call, Label}
use Rattle.rtx_tree.specs.declared.function.Insn.{Insn}
use Rattle.rtx_tree.specs.declared.tree.Rtx.{Rtx}
use Rattle.rtx_tree.specs.declared.tree.Rtx.TheOpen.{Rtx-F}
use Rattle.rtx_tree.specs.declared.tree.Rtx.TheFolds.{fold-Rtx}
use Rattle.rtx_tree.specs.Tree.{head_of}
use Rattle.c_eval.specs.declared.facts.Facts.{Facts}

-- ---- what conditions know at each stage

-- what is known at lower: registers have no homes yet, and new ones may be made
abbrev pub lower_facts : Facts
lower_facts = record { reloaded = false; new_pseudos = true; dead = [] }

-- what is known at output: registers have homes, and none may be made
abbrev pub output_facts : Facts
output_facts = record { reloaded = true; new_pseudos = false; dead = [] }

-- ---- instructions

-- labels and barriers are none
abbrev pub is_kind : Kind → Bool
is_kind Plain = true
is_kind Jump = true
is_kind Call = true
is_kind _ = false

-- a use or a clobber alone gives no line, and no form needs to match it
abbrev pub is_note : Code → Bool
is_note Use = true
is_note Clobber = true
is_note _ = false

abbrev pub needs_form : Insn → Bool
needs_form i = is_kind i.kind && not (is_note (head_of i.pattern).code)

-- registers are 0 to 31; what comes behind is the address of the locals or a pseudo register
abbrev pub is_homeless : Code → ℤ → Bool
is_homeless Reg (pos n) = nat_lt 31 n
is_homeless _ _ = false

abbrev pub homeless_step : Rtx-F Bool → Bool
homeless_step x = is_homeless x.code x.number || list_any (λ here. here) x.kids

-- a pseudo register or the address of the locals stands in the tree
abbrev pub names_homeless : Rtx → Bool
names_homeless = fold-Rtx Bool homeless_step

abbrev pub is_label : Kind → Bool
is_label Label = true
is_label _ = false

-- what gives nothing at output: a barrier, and a use or a clobber alone
abbrev pub is_silent : Insn → Bool
is_silent i = not (is_label i.kind) && not (needs_form i)

-- ---- forms

-- the name under which a form is shown
abbrev pub name_at : List (List ℕ) → ℕ → List ℕ
name_at names form = unwrap_or (slice_get names form) []
