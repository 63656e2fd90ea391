-- Plain instructions, one after the other.
use Rattle.std.proofs.Common.{◌≡◌, ℕ, ◌+◌, ◌<◌, List, [], ◌∷◌, ◌++◌, length, drop, get_or, sym, ap, ◌∙◌, append_assoc}
use Rattle.rtx_tree.specs.declared.function.Insn.{Insn}
use Rattle.rtx_tree.specs.declared.tree.Rtx.{Rtx}
use Rattle.lint_choices.proofs.PushedLaws.{opened}
use Rattle.lint_functions.specs.Functions.{plain, numbered}

pub numbered_next : (patterns : List Rtx) (i : ℕ) (x y : Rtx) (uid next : ℕ) (out more whole : List Insn) →
    i < length patterns → x ≡ get_or patterns i x → y ≡ x → next ≡ uid + 1 → more ≡ out ++ plain uid y ∷ [] →
    out ++ numbered uid (drop i patterns) ≡ whole → more ++ numbered next (drop (i + 1) patterns) ≡ whole
numbered_next patterns i x y uid next out more whole within here same is made h =
    rw (made, is, same) (append_assoc out (plain uid x ∷ []) (numbered (uid + 1) (drop (i + 1) patterns)) ∙ (sym (ap (λ ys. out ++ numbered uid ys) (opened patterns i x within here)) ∙ h))
