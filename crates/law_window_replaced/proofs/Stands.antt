-- Where the run of a function stands in its chain: labels and barriers are passed over.
use Rattle.std.proofs.Common.{◌≡◌, ℕ, ◌+◌, ◌≤◌, arith, if◌then◌else◌, true, false, drop, length, List, [], ◌∷◌, Option, Some, None, ap, ◌∙◌, Bool}
use Rattle.std.specs.Prelude.{not, is_some, slice_get}
use Rattle.rtx_tree.specs.declared.function.Function.{Function}
use Rattle.rtx_tree.specs.declared.function.Insn.{Insn}
use Rattle.rtx_tree.specs.declared.function.Kind.{Kind}
use Rattle.rtx_tree.specs.declared.machine.World.{World}
use Rattle.rtl_step.specs.Step.{step, act, act_at, after_return, is_mark, passed, place_from}
use Rattle.rtl_step.specs.declared.step.State.{State}
use Rattle.law_function_kept.specs.Ends.{is_past}
use Rattle.same_behaviour.proofs.Places.{get_dropped, get_past, end_dropped, drop_next, within_dropped}

-- The rest of a chain begins at a place, and the first instruction from another place on is the rest's first.
pub record Stands (insns : List Insn) (next : ℕ) (rest : List Insn) (q : ℕ) : Type 0 where
  pub there : drop q insns ≡ rest
  pub within : q ≤ length insns
  pub passes : place_from insns next ≡ passed rest q

pub stands_at : (insns : List Insn) (q : ℕ) (rest : List Insn) → drop q insns ≡ rest → q ≤ length insns → Stands insns q rest q
stands_at insns q rest there within = record { there = there; within = within; passes = ap (λ r. passed r q) there }

-- the place behind an instruction
pub stands_behind : (insns : List Insn) (next : ℕ) (i : Insn) (rest : List Insn) (q : ℕ) → Stands insns next (i ∷ rest) q →
    Stands insns (q + 1) rest (q + 1)
stands_behind insns next i rest q s = stands_at insns (q + 1) rest (drop_next insns q i rest s.there)
    (let inside = within_dropped insns q i rest s.there in omega (arith, inside))

pub stands_same : (insns : List Insn) (next : ℕ) (rest other : List Insn) (q : ℕ) → rest ≡ other → Stands insns next rest q →
    Stands insns next other q
stands_same insns next rest other q same s = record {
  there = s.there ∙ same;
  within = s.within;
  passes = s.passes ∙ ap (λ r. passed r q) same;
}

-- a label or a barrier
pub stands_mark : (insns : List Insn) (next : ℕ) (i : Insn) (rest : List Insn) (q : ℕ) → is_mark i.kind ≡ true →
    Stands insns next (i ∷ rest) q → Stands insns next rest (q + 1)
stands_mark insns next i rest q mark s = record {
  there = drop_next insns q i rest s.there;
  within = let inside = within_dropped insns q i rest s.there in omega (arith, inside);
  passes = s.passes ∙ ap (λ b. if b then passed rest (q + 1) else q) mark;
}

pub there_is : (insns : List Insn) (next : ℕ) (i : Insn) (rest : List Insn) (q : ℕ) → Stands insns next (i ∷ rest) q →
    slice_get insns q ≡ Some i
there_is insns next i rest q s = get_dropped insns q i rest s.there

-- ---- steps

step_at : (world : World) (f : Function) (s : State) (q : ℕ) (o : Option Insn) → place_from f.insns s.next ≡ q →
    slice_get f.insns q ≡ o → step world f s ≡ act_at o world f q s
step_at world f s q o is there = ap (λ p. act_at (slice_get f.insns p) world f p s) is ∙ ap (λ o. act_at o world f q s) there

-- an instruction takes a step
pub step_is : (world : World) (f : Function) (s : State) (i : Insn) (rest : List Insn) (q : ℕ) (k : Kind) →
    Stands f.insns s.next (i ∷ rest) q → is_mark k ≡ false → i.kind ≡ k → step world f s ≡ act k world f i q s
step_is world f s i rest q k stands none is =
    step_at world f s q (Some i)
    (stands.passes ∙ ap (λ b. if b then passed rest (q + 1) else q) (ap is_mark is ∙ none)) (there_is f.insns s.next i rest q stands) ∙
    ap (λ k. act k world f i q s) is

-- the end returns
pub step_returns : (world : World) (f : Function) (s : State) (q : ℕ) → Stands f.insns s.next [] q →
    step world f s ≡ after_return f.result s
step_returns world f s q stands = step_at world f s q None stands.passes (get_past f.insns q stands.there)

pub end_is : (insns : List Insn) (next q : ℕ) → Stands insns next [] q → q ≡ length insns
end_is insns next q s = end_dropped insns q s.within s.there

-- ---- the end of the chain

abbrev is_none : Option Insn → Bool
is_none o = not (is_some o)

past_by : (f : Function) (s : State) (q : ℕ) (o : Option Insn) → place_from f.insns s.next ≡ q → slice_get f.insns q ≡ o →
    is_past f s ≡ is_none o
past_by f s q o is there = ap (λ p. is_none (slice_get f.insns p)) is ∙ ap is_none there

pub not_past : (f : Function) (s : State) (i : Insn) (rest : List Insn) (q : ℕ) (k : Kind) → Stands f.insns s.next (i ∷ rest) q →
    is_mark k ≡ false → i.kind ≡ k → is_past f s ≡ false
not_past f s i rest q k stands none is =
    past_by f s q (Some i) (stands.passes ∙ ap (λ b. if b then passed rest (q + 1) else q) (ap is_mark is ∙ none))
    (there_is f.insns s.next i rest q stands)

pub past_end : (f : Function) (s : State) (q : ℕ) → Stands f.insns s.next [] q → is_past f s ≡ true
past_end f s q stands = past_by f s q None stands.passes (get_past f.insns q stands.there)
