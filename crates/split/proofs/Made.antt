-- How long what stands in the place of an instruction is.
use Rattle.std.proofs.Common.{◌≡◌, ℕ, suc, ◌+◌, ◌<◌, List, [], ◌∷◌, ◌++◌, length, take, drop, Ok, refl, sym, ap, subst, ◌∙◌, arith}
use Rattle.std.proofs.lemmas.List.{length-append, length-take-le, length-drop}
use Rattle.rtx_tree.specs.declared.tree.Rtx.{Rtx}
use Rattle.rtx_tree.specs.declared.function.Insn.{Insn}
use Rattle.rtx_tree.specs.declared.function.Function.{Function}
use Rattle.new_insns.specs.Made.{insns_for}
use Rattle.new_insns.specs.Replaced.{replaced}
use Rattle.law_insn_replaced.specs.insn_replace.Replace.{made, ReplacedComes}

-- as many instructions as patterns
pub insns_long : (old : Insn) (uid : ℕ) (sequence : List Rtx) → length (insns_for old uid sequence) ≡ length sequence
insns_long old uid [] = refl
insns_long old uid (x ∷ []) = refl
insns_long old uid (x ∷ y ∷ more) = ap (λ n. suc n) (insns_long old (uid + 1) (y ∷ more))

pub replaced_long : (f : Function) (place : ℕ) (new : List Insn) → place < length f.insns → length (replaced f place (place + 1) new).insns + (place + 1) ≡ length f.insns + (place + length new)
replaced_long f place new within =
    let whole = length-append (take place f.insns) (new ++ drop (place + 1) f.insns) in
    let rest = length-append new (drop (place + 1) f.insns) in
    let front = length-take-le place f.insns (omega (arith, within)) in
    let back = length-drop (place + 1) f.insns in
    omega (arith, within, whole, rest, front, back)

-- what a replaced instruction comes to is the function with the others
pub comes_to : (f g : Function) (place : ℕ) (i : Insn) (rule : List ℕ) (sequence : List Rtx) → ReplacedComes f place i rule sequence (Ok g) → g ≡ replaced f place (place + 1) (made f i sequence)
comes_to f _ place i rule sequence (ReplacedComes.replaced live after equated short) = refl

pub replaced_behind : (f g : Function) (place : ℕ) (i : Insn) (rule : List ℕ) (sequence : List Rtx) → place < length f.insns → ReplacedComes f place i rule sequence (Ok g) →
    length g.insns + (place + 1) ≡ length f.insns + (place + length sequence)
replaced_behind f g place i rule sequence within comes =
    subst (λ (h : Function). length h.insns + (place + 1) ≡ length f.insns + (place + length sequence)) (sym (comes_to f g place i rule sequence comes))
    (replaced_long f place (made f i sequence) within ∙ ap (λ (n : ℕ). length f.insns + (place + n)) (insns_long i _ sequence))
