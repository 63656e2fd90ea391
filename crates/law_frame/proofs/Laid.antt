-- The layout of a function whose pseudo registers have homes is one in which all have a place of their own.
use Rattle.std.proofs.Common.{◌≡◌, ℕ, ◌+◌, ◌<◌, ◌==◌, ◌||◌, if◌then◌else◌, Bool, true, false, length, List, [], ◌∷◌, ◌++◌, map, filter, refl, sym, ap, subst, ◌∙◌, arith}
use Rattle.std.proofs.lemmas.Bool.Decides.{nat_tests}
use Rattle.std.proofs.lemmas.List.Elements.{All-nil, All-cons, All-head, All-tail, All-append, All-filter, All-weaker}
use Rattle.std.specs.List.{All, list_any}
use Rattle.rtx_tree.specs.RegSet.{has_reg}
use Rattle.rtx_tree.specs.declared.function.Function.{Function}
use Rattle.rv_regs.specs.Registers.{return_address, saved_registers}
use Rattle.assign.specs.Frame.{is_call, is_home, saved_of, IsFrame}
use Rattle.assign.specs.declared.home.HomeOf.{HomeOf}
use Rattle.assign.specs.declared.places.Layout.{Layout}
use Rattle.assign.specs.declared.places.SavedAt.{SavedAt}
use Rattle.law_window_replaced.proofs.law_window_lines.Small.{or_true}
use Rattle.law_frame.specs.Kept.{preserved_registers}
use Rattle.law_frame.specs.Keeps.{IsLaidOut}

abbrev Has : List ℕ → ℕ → Type 0
Has regs reg = has_reg regs reg ≡ true

same_here : (n : ℕ) → (n == n) ≡ true
same_here n = grind (arith, nat_tests)

later : (x : ℕ) (xs : List ℕ) (reg : ℕ) → Has xs reg → Has (x ∷ xs) reg
later x xs reg has = ap (λ b. (x == reg) || b) has ∙ or_true (x == reg)

-- a list has each of its registers
has_each : (xs : List ℕ) → All (Has xs) xs
has_each [] = All-nil (Has [])
has_each (x ∷ xs) = All-cons (Has (x ∷ xs)) x xs (ap (λ b. b || has_reg xs x) (same_here x))
    (All-weaker (Has xs) (Has (x ∷ xs)) (later x xs) xs (has_each xs))

saved_has : (homes : List HomeOf) → All (Has preserved_registers) (filter (is_home homes) saved_registers)
saved_has homes = All-filter (is_home homes) (Has preserved_registers) saved_registers
    (All-weaker (Has saved_registers) (Has preserved_registers) (later return_address saved_registers) saved_registers (has_each saved_registers))

calls_have : (call : Bool) → All (Has preserved_registers) (if call then return_address ∷ [] else [])
calls_have true = All-cons (Has preserved_registers) return_address [] refl (All-nil (Has preserved_registers))
calls_have false = All-nil (Has preserved_registers)

all_have : (f : Function) (homes : List HomeOf) → All (Has preserved_registers) (saved_of f homes)
all_have f homes = All-append (Has preserved_registers) (if list_any is_call f.insns then return_address ∷ [] else [])
    (filter (is_home homes) saved_registers) (calls_have (list_any is_call f.insns)) (saved_has homes)

of_places : (saved : List SavedAt) → All (Has preserved_registers) (map (λ s. s.reg) saved) → All (λ s. Has preserved_registers s.reg) saved
of_places [] all = All-nil (λ s. Has preserved_registers s.reg)
of_places (s ∷ saved) all = All-cons (λ s. Has preserved_registers s.reg) s saved
    (All-head (Has preserved_registers) s.reg (map (λ s. s.reg) saved) all)
    (of_places saved (All-tail (Has preserved_registers) s.reg (map (λ s. s.reg) saved) all))

-- whatever function has the frame, with the same locals
pub laid_out : (f : Function) (homes : List HomeOf) (layout : Layout) → IsFrame f homes layout → IsLaidOut f.locals layout
laid_out f homes layout frame = record {
  preserved = of_places layout.saved (subst (All (Has preserved_registers)) (sym frame.saved) (all_have f homes));
  size_aligned = frame.size_aligned;
  aligned = frame.aligned;
  within = frame.within;
  apart = frame.apart;
}
