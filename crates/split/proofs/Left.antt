-- What splitting leaves of a function.
use Rattle.std.proofs.lemmas.Bool.{cases_lt}
use Rattle.std.proofs.Common.{◌≡◌, ⊎_elim, ℕ, ◌+◌, ◌≤◌, ◌<◌, List, ◌++◌, length, drop, Some, Ok, refl, sym, subst, arith}
use Rattle.std.specs.Prelude.{replicate, slice_get}
use Rattle.std.proofs.lemmas.List.{length-append, length-replicate}
use Rattle.std.proofs.lemmas.Option.{slice_get_within}
use Rattle.rtx_tree.specs.declared.tree.Rtx.{Rtx}
use Rattle.rtx_tree.specs.declared.function.Insn.{Insn}
use Rattle.rtx_tree.specs.declared.function.Function.{Function}
use Rattle.rtl_chain.specs.Counts.{next_pseudo}
use Rattle.md_forms.specs.declared.form.Entry.{Entry}
use Rattle.md_forms.specs.Forms.{names_of}
use Rattle.form_needs.specs.Needs.{name_at}
use Rattle.new_insns.specs.Replaced.{replaced}
use Rattle.law_insn_replaced.specs.insn_replace.Replace.{made, ReplacedComes}
use Rattle.pass_name.specs.declared.pass.Pass.{Pass}
use Rattle.split.specs.Split.{Answer, IsSplit, SplitFrom, SplitComes}
use Rattle.split.specs.Left.{IsLeft, AreLeft}
use Rattle.split.proofs.Made.{comes_to, replaced_behind}
use Rattle.law_insn_replaced.proofs.Lists.{before_it}
use Rattle.split.proofs.One.{same_at}

module _ (forms : List Entry) (pass : Pass) where
  -- ---- what holds of a function and of each that an instruction of it is replaced in

  -- what is kept where an instruction is split
  abbrev pub IsKept : (Function → Type 0) → Type 0
  IsKept P = (f g : Function) (place : ℕ) (i : Insn) (form : ℕ) (sequence : List Rtx) → slice_get f.insns place ≡ Some i →
      IsSplit forms pass (next_pseudo f.insns) i form sequence → ReplacedComes f place i (name_at (names_of forms) form) sequence (Ok g) → P f → P g

  kept_from : (P : Function → Type 0) → IsKept P → (depths : List ℕ) (f : Function) (place : ℕ) (answer : Answer) (g : Function) → answer ≡ Ok g → SplitFrom forms pass depths f place answer → P f → P g
  kept_from P keeps _ _ _ _ g same (SplitFrom.done f place) holds = subst P (let is : f ≡ g = cc in is) holds
  kept_from P keeps _ _ _ _ g same (SplitFrom.stays depth depths f place i answer at none more) holds = kept_from P keeps depths f (place + 1) answer g same more holds
  kept_from P keeps _ _ _ _ g same (SplitFrom.deep depth depths f place i form s at is deep) holds = absurd (let never : ⊥ = cc in never)
  kept_from P keeps _ _ _ _ g same (SplitFrom.refused depth depths f place i form s e at is shallow comes) holds = absurd (let never : ⊥ = cc in never)
  kept_from P keeps _ _ _ _ g same (SplitFrom.split depth depths f h place i form s answer at is shallow comes more) holds =
      kept_from P keeps (replicate (length s) (depth + 1) ++ depths) h place answer g same more (keeps f h place i form s at is comes holds)

  pub kept : (P : Function → Type 0) → IsKept P → (f g : Function) → SplitComes forms pass f (Ok g) → P f → P g
  kept P keeps f g comes holds = kept_from P keeps (replicate (length f.insns) 0) f 0 (Ok g) g refl comes holds

  -- ---- each instruction was tried

  abbrev AreTried : Function → ℕ → Type 0
  AreTried f place = (p : ℕ) (i : Insn) → p < place → slice_get f.insns p ≡ Some i → IsLeft forms pass i

  one_more : (f : Function) (place : ℕ) (i : Insn) → slice_get f.insns place ≡ Some i → IsLeft forms pass i → AreTried f place → AreTried f (place + 1)
  one_more f place i at left tried p j below there = ⊎_elim
      (λ (before : p < place). tried p j before there)
      (λ (reached : place ≤ p).
      let here : place ≡ p = omega (arith, below, reached) in
      subst (IsLeft forms pass) (same_at f.insns place i j at (subst (λ (q : ℕ). slice_get f.insns q ≡ Some j) (sym here) there)) left)
      (cases_lt p place)

  still : (f h : Function) (place : ℕ) (i : Insn) (rule : List ℕ) (s : List Rtx) → slice_get f.insns place ≡ Some i → ReplacedComes f place i rule s (Ok h) → AreTried f place → AreTried h place
  still f h place i rule s at comes tried p j below there =
      let within : place < length f.insns = slice_get_within f.insns place i at in
      let stands : slice_get (replaced f place (place + 1) (made f i s)).insns p ≡ Some j = subst (λ (k : Function). slice_get k.insns p ≡ Some j) (comes_to f h place i rule s comes) there in
      tried p j below (before_it f.insns (made f i s ++ drop (place + 1) f.insns) p place j below (omega (arith, within)) stands)

  left_from : (depths : List ℕ) (f : Function) (place : ℕ) (answer : Answer) (g : Function) → answer ≡ Ok g → SplitFrom forms pass depths f place answer → length f.insns ≡ place + length depths → AreTried f place → AreLeft forms pass g
  left_from _ _ _ _ g same (SplitFrom.done f place) long tried =
      let end : length f.insns ≡ place = omega (arith, long) in
      subst (AreLeft forms pass) (let is : f ≡ g = cc in is) (λ p i at. tried p i (let within : p < length f.insns = slice_get_within f.insns p i at in omega (arith, end, within)) at)
  left_from _ _ _ _ g same (SplitFrom.stays depth depths f place i answer at none more) long tried =
      left_from depths f (place + 1) answer g same more (omega (arith, long)) (one_more f place i at (next_pseudo f.insns, none) tried)
  left_from _ _ _ _ g same (SplitFrom.deep depth depths f place i form s at is deep) long tried = absurd (let never : ⊥ = cc in never)
  left_from _ _ _ _ g same (SplitFrom.refused depth depths f place i form s e at is shallow comes) long tried = absurd (let never : ⊥ = cc in never)
  left_from _ _ _ _ g same (SplitFrom.split depth depths f h place i form s answer at is shallow comes more) long tried =
      let within : place < length f.insns = slice_get_within f.insns place i at in
      let behind : length h.insns + (place + 1) ≡ length f.insns + (place + length s) = replaced_behind f h place i (name_at (names_of forms) form) s within comes in
      let deeper : length (replicate (length s) (depth + 1)) ≡ length s = length-replicate (length s) (depth + 1) in
      let all : length (replicate (length s) (depth + 1) ++ depths) ≡ length (replicate (length s) (depth + 1)) + length depths = length-append (replicate (length s) (depth + 1)) depths in
      left_from (replicate (length s) (depth + 1) ++ depths) h place answer g same more (omega (arith, long, behind, deeper, all)) (still f h place i (name_at (names_of forms) form) s at comes tried)

  pub all_left : (f g : Function) → SplitComes forms pass f (Ok g) → AreLeft forms pass g
  all_left f g comes =
      let long : length {A = ℕ} (replicate (length f.insns) 0) ≡ length f.insns = length-replicate (length f.insns) 0 in
      left_from (replicate (length f.insns) 0) f 0 (Ok g) g refl comes (omega (arith, long)) (λ p i below at. absurd (let never : ⊥ = omega (arith, below) in never))
