-- How long a function is with a sequence in a window's place.
use Rattle.std.proofs.Common.{◌≡◌, ℕ, suc, ◌+◌, List, [], ◌∷◌, ◌++◌, length, take, drop, refl, ap, arith}
use Rattle.std.proofs.lemmas.List.{length-append, length-take-le, length-drop}
use Rattle.rtx_tree.specs.declared.tree.Rtx.{Rtx}
use Rattle.rtx_tree.specs.declared.function.Insn.{Insn}
use Rattle.rtx_tree.specs.declared.function.Function.{Function}
use Rattle.rtl_chain.specs.Counts.{greatest_uid}
use Rattle.new_insns.specs.Made.{insns_for}
use Rattle.law_insn_replaced.specs.insn_replace.Replace.{made}
use Rattle.law_window_made.specs.Made.{with_sequence, IsMadePut}

-- as many instructions as patterns
pub made_count : (last : Insn) (uid : ℕ) (sequence : List Rtx) → length (insns_for last uid sequence) ≡ length sequence
made_count last uid [] = refl
made_count last uid (x ∷ []) = refl
made_count last uid (x ∷ y ∷ more) = ap (λ n. suc n) (made_count last (uid + 1) (y ∷ more))

pub made_long : (f : Function) (first end : ℕ) (last : Insn) (sequence : List Rtx) → IsMadePut f first end last sequence →
    length (with_sequence f first end last sequence).insns + end ≡ length f.insns + (first + length sequence)
made_long f first end last sequence is =
    let new = made f last sequence in
    let order = is.put.order in
    let within = is.put.within in
    let whole = length-append (take first f.insns) (new ++ drop end f.insns) in
    let rest = length-append new (drop end f.insns) in
    let front = length-take-le first f.insns (omega (arith, order, within)) in
    let back = length-drop end f.insns in
    let count = made_count last (greatest_uid f.insns + 1) sequence in
    omega (arith, order, within, whole, rest, front, back, count)
