-- Lowering leaves a plain instruction as it is, unless it is one of those that it makes by a standard name.
use Rattle.std.proofs.Common.{◌≡◌, ◌⊎◌, inl, inr, ℕ, true, false, not, ◌&&◌, None, Ok, refl, ap}
use Rattle.rtx_tree.specs.declared.function.Insn.{Insn}
use Rattle.rtx_tree.specs.Tree.{head_of}
use Rattle.form_needs.specs.Needs.{is_kind, is_note, needs_form}
use Rattle.lower_insn.specs.Lowered.{IsMatched, IsUnmatched, is_note_tree, InsnAnswer, InsnLowers}
use Rattle.plain_forms.specs.Forms.{plain_forms}
use Rattle.law_plain_leaves.proofs.Shaped.{two_of}
use Rattle.law_plain_matched.specs.Matched.{IsExpanded, PlainStays}
use Rattle.law_plain_matched.proofs.Moves.{Comes}
use Rattle.law_plain_matched.proofs.Matched.{matches}

-- a note needs no form
no_note : (i : Insn) → needs_form i ≡ true → is_note_tree i.pattern ≡ true → ⊥
no_note i formed note =
    let other : not (is_note (head_of i.pattern).code) ≡ true = (two_of (is_kind i.kind) (not (is_note (head_of i.pattern).code)) formed).1 in
    let never : not (is_note (head_of i.pattern).code) ≡ false = ap not note in
    let no : ⊥ = cc in no

-- what no form matches is one of those
left : (i : Insn) → Comes i.pattern → needs_form i ≡ true → IsUnmatched plain_forms i.pattern → IsExpanded i.pattern
left i (inl matched) formed unmatched = absurd (unmatched matched.form matched.operands matched.matches)
left i (inr (inl note)) formed unmatched = absurd (no_note i formed note)
left i (inr (inr expanded)) formed unmatched = expanded

pub stays : PlainStays
stays i greatest next answer plain shaped printable lowers = go answer lowers
  where
    comes : Comes i.pattern
    comes = matches i.pattern plain shaped printable

    go : (answer : InsnAnswer) → InsnLowers plain_forms i greatest next answer → (answer ≡ Ok None) ⊎ IsExpanded i.pattern
    go _ (InsnLowers.free free) = inl refl
    go _ (InsnLowers.matched formed matched) = inl refl
    go _ (InsnLowers.nameless formed unmatched planless) = inr (left i comes formed unmatched)
    go _ (InsnLowers.lowered plan sequence formed unmatched planned lowers) = inr (left i comes formed unmatched)
