-- Where the uids of a function differ, they still do with a sequence in a window's place.
use Rattle.std.proofs.Common.{◌≡◌, ℕ, ◌+◌, ◌-◌, ◌≤◌, List, [], ◌∷◌, ◌++◌, take, drop, Some, sym, ap, subst, ◌∙◌, append_assoc, take-add, arith}
use Rattle.std.specs.Prelude.{slice_get, ◌==◌}
use Rattle.std.specs.List.{IsDistinct}
use Rattle.std.proofs.lemmas.List.{drop-drop}
use Rattle.rtx_tree.specs.declared.tree.Rtx.{Rtx}
use Rattle.rtx_tree.specs.declared.function.Insn.{Insn}
use Rattle.rtx_tree.specs.declared.function.Function.{Function}
use Rattle.rtl_func.specs.Uids.{uids_of}
use Rattle.law_pass_needs.specs.Reloadable.{UidsDiffer}
use Rattle.new_insns.specs.Replaced.{window}
use Rattle.law_insn_replaced.specs.insn_replace.Replace.{made}
use Rattle.law_insn_replaced.proofs.Uids.{remove, uids_append, replaced_differ}
use Rattle.law_insn_replaced.proofs.Windows.{at_drop}
use Rattle.law_window_made.specs.Made.{IsInstruction, AreInstructions, with_sequence, IsMadePut}

-- fewer uids differ still
fewer : (gone front back : List ℕ) → IsDistinct ◌==◌ (front ++ (gone ++ back)) → IsDistinct ◌==◌ (front ++ back)
fewer [] front back differ = differ
fewer (x ∷ gone) front back differ = fewer gone front back (remove x front (gone ++ back) differ)

last_of : (insns : List Insn) (last : Insn) → AreInstructions (insns ++ last ∷ []) → IsInstruction last
last_of [] last all = all.0
last_of (i ∷ insns) last all = last_of insns last all.1

module _ (f : Function) (first place : ℕ) (last : Insn) (order : first ≤ place) (at : slice_get f.insns place ≡ Some last) where
  -- the window in front of its last
  abbrev others : List Insn
  others = take (place - first) (drop first f.insns)

  back_at : first + (place - first) ≡ place
  back_at = omega (arith, order)

  window_ends : window f first (place + 1) ≡ others ++ last ∷ []
  window_ends =
      let long : place + 1 - first ≡ place - first + 1 = omega (arith, order) in
      ap (λ n. take n (drop first f.insns)) long
      ∙ (take-add (place - first) 1 (drop first f.insns)
      ∙ ap (λ rest. others ++ rest) (ap (take 1) (drop-drop (place - first) first f.insns ∙ ap (λ n. drop n f.insns) back_at) ∙ at_drop f.insns place last at))

  pub last_is : AreInstructions (window f first (place + 1)) → IsInstruction last
  last_is run = last_of others last (subst AreInstructions window_ends run)

  front_is : take place f.insns ≡ take first f.insns ++ others
  front_is = sym (ap (λ n. take n f.insns) back_at) ∙ take-add first (place - first) f.insns

  uids_in : (rest : List Insn) → uids_of (take place f.insns ++ rest) ≡ uids_of (take first f.insns) ++ (uids_of others ++ uids_of rest)
  uids_in rest =
      ap (λ front. uids_of (front ++ rest)) front_is
      ∙ (ap uids_of (append_assoc (take first f.insns) others rest)
      ∙ (uids_append (take first f.insns) (others ++ rest) ∙ ap (λ us. uids_of (take first f.insns) ++ us) (uids_append others rest)))

  differ_at : (sequence : List Rtx) → AreInstructions (window f first (place + 1)) → UidsDiffer f → UidsDiffer (with_sequence f first (place + 1) last sequence)
  differ_at sequence run differ =
      let rest = made f last sequence ++ drop (place + 1) f.insns in
      let whole : IsDistinct ◌==◌ (uids_of (take place f.insns ++ rest)) = replaced_differ f place last sequence at (last_is run) differ in
      subst (IsDistinct ◌==◌) (sym (uids_append (take first f.insns) rest))
      (fewer (uids_of others) (uids_of (take first f.insns)) (uids_of rest) (subst (IsDistinct ◌==◌) (uids_in rest) whole))

pub made_differ : (f : Function) (first end : ℕ) (last : Insn) (sequence : List Rtx) → IsMadePut f first end last sequence → UidsDiffer f →
    UidsDiffer (with_sequence f first end last sequence)
made_differ f first end last sequence is differ =
    let order = is.put.order in
    let next : end - 1 + 1 ≡ end = omega (arith, order) in
    subst (λ n. UidsDiffer (with_sequence f first n last sequence)) next
    (differ_at f first (end - 1) last (omega (arith, order)) is.at_last sequence (subst (λ n. AreInstructions (window f first n)) (sym next) is.run) differ)
