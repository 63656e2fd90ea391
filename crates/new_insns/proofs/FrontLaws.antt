-- Patterns, and one more behind them.
use Rattle.std.proofs.Common.{◌≡◌, ℕ, ◌+◌, List, [], ◌∷◌, ◌++◌, length, refl, sym, ap, ◌∙◌, arith}
use Rattle.rtx_tree.specs.declared.function.Insn.{Insn}
use Rattle.rtx_tree.specs.declared.tree.Rtx.{Rtx}
use Rattle.new_insns.specs.Made.{insn_for, insns_for}
use Rattle.new_insns.specs.machine.Front.{front_for}

pub front_push : (old : Insn) (uid : ℕ) (xs : List Rtx) (x : Rtx) (next : ℕ) → next ≡ uid + length xs →
    front_for old uid (xs ++ x ∷ []) ≡ front_for old uid xs ++ insn_for old next x ∷ []
front_push old uid [] x next is =
    let e : next ≡ uid = omega (arith, is) in
    ap (λ n. insn_for old n x ∷ []) (sym e)
front_push old uid (y ∷ ys) x next is =
    ap (λ (more : List Insn). insn_for old uid y ∷ more) (front_push old (uid + 1) ys x next (omega (arith, is)))

-- a sequence is what stands in front of its last, and the last
pub made_push : (old : Insn) (uid : ℕ) (xs : List Rtx) (last : Rtx) →
    insns_for old uid (xs ++ last ∷ []) ≡ front_for old uid xs ++ insn_for old old.uid last ∷ []
made_push old uid [] last = refl
made_push old uid (y ∷ []) last = refl
made_push old uid (y ∷ z ∷ more) last =
    ap (λ (rest : List Insn). insn_for old uid y ∷ rest) (made_push old (uid + 1) (z ∷ more) last)
