-- Few registers are saved.
use Rattle.std.proofs.Common.{ℕ, ◌≤◌, if◌then◌else◌, Bool, true, false, List, [], ◌∷◌, length, filter, arith}
use Rattle.std.specs.List.{list_any}
use Rattle.std.proofs.lemmas.List.{length-append}
use Rattle.rtx_tree.specs.declared.function.Function.{Function}
use Rattle.rv_regs.specs.Registers.{return_address, saved_registers}
use Rattle.assign.specs.declared.home.HomeOf.{HomeOf}
use Rattle.assign.specs.Frame.{is_call, is_home, saved_for_calls, saved_of}

fewer : (p : ℕ → Bool) (xs : List ℕ) → length (filter p xs) ≤ length xs
fewer p [] = omega arith
fewer p (x ∷ xs) = let l = fewer p xs in grind arith

one_more : (call : Bool) → length (if call then return_address ∷ [] else []) ≤ 1
one_more true = omega arith
one_more false = omega arith

pub few_saved : (f : Function) (homes : List HomeOf) → length (saved_of f homes) ≤ 13
few_saved f homes =
    let kept = fewer (is_home homes) saved_registers in
    let ra = one_more (list_any is_call f.insns) in
    omega (arith, length-append (saved_for_calls f.insns) (filter (is_home homes) saved_registers))
