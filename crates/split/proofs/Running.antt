-- What instructions from a place on come to, split one behind the other.
use Rattle.std.proofs.Common.{◌≡◌, ℕ, zero, suc, ◌+◌, ◌-◌, ◌≤◌, ◌<◌, List, [], ◌∷◌, ◌++◌, length, Option, Some, Result, Ok, Err, refl, sym, ap, subst, ◌∙◌, arith}
use Rattle.std.specs.Prelude.{replicate, slice_get}
use Rattle.std.proofs.lemmas.List.{append-nil}
use Rattle.rtx_tree.specs.declared.tree.Rtx.{Rtx}
use Rattle.rtx_tree.specs.declared.function.Insn.{Insn}
use Rattle.rtx_tree.specs.declared.function.Function.{Function}
use Rattle.rtl_chain.specs.Counts.{next_pseudo}
use Rattle.md_forms.specs.declared.form.Entry.{Entry}
use Rattle.md_forms.specs.Forms.{names_of}
use Rattle.form_needs.specs.Needs.{name_at}
use Rattle.law_insn_replaced.specs.insn_replace.Replace.{ReplacedComes}
use Rattle.law_insn_replaced.specs.insn_replace.Done.{Replaces}
use Rattle.law_insn_replaced.specs.pass_refusal.Outcome.{RefusesWith}
use Rattle.law_insn_replaced.specs.pass_refusal.declared.refusal.PassRefusal.{PassRefusal}
use Rattle.law_insn_replaced.specs.pass_refusal.declared.refusal.PassRefusal.TheVariants as refusal
use Rattle.pass_name.specs.declared.pass.Pass.{Pass}
use Rattle.split.specs.Split.{Answer, IsSplit, IsUnsplit, SplitFrom, SplitComes, too_deep}
use Rattle.rtx_tree.specs.Limit.{most_splits}
use Rattle.split.specs.machine.Runs.{Stops, SameBehind, PlaceReaches, PlaceStays, PlaceSplits, FoundSplits, RunReaches}
use Rattle.split.proofs.Made.{replaced_behind}
use Rattle.split.proofs.One.{same_at}

-- a refusal of one is a refusal of the other
pub refuses_map : {A B : Type 0} (e : PassRefusal) (P : Result A PassRefusal → Type 0) (Q : Result B PassRefusal → Type 0) → ((d : PassRefusal) → P (Err d) → Q (Err d)) → RefusesWith e P → RefusesWith e Q
refuses_map refusal.Memory P Q on r = tt
refuses_map (refusal.Unmatched uid insn) P Q on r = on _ r
refuses_map (refusal.NotEquated uid rule item left right) P Q on r = on _ r
refuses_map (refusal.Limit which count) P Q on r = on _ r

replicate_first : (n d : ℕ) → 0 < n → replicate n d ≡ d ∷ replicate (n - 1) d
replicate_first zero d within = absurd (let never : ⊥ = omega (arith, within) in never)
replicate_first (suc n) d within = let e : suc n - 1 ≡ n = omega arith in rw e refl

module _ (forms : List Entry) (pass : Pass) where
  -- ---- one instruction

  pub place_stays : (depth place : ℕ) (f g : Function) (i : Insn) → slice_get f.insns place ≡ Some i → IsUnsplit forms pass (next_pseudo f.insns) i → g ≡ f → PlaceStays forms pass depth f place g
  place_stays depth place f g i at none same = record {
    reaches = λ rest answer more. SplitFrom.stays depth rest f place i answer at none (subst (λ (h : Function). SplitFrom forms pass rest h (place + 1) answer) same more);
    same = same;
  }

  pub place_splits : (depth place n form : ℕ) (f g : Function) (i : Insn) (sequence : List Rtx) → slice_get f.insns place ≡ Some i → place < length f.insns →
      IsSplit forms pass (next_pseudo f.insns) i form sequence → depth < most_splits →
      ReplacedComes f place i (name_at (names_of forms) form) sequence (Ok g) → n ≡ length sequence → PlaceReaches forms pass depth f place g n
  place_splits depth place n form f g i sequence at within is shallow comes long = record {
    reaches = λ rest answer more. SplitFrom.split depth rest f g place i form sequence answer at is shallow comes (subst (λ (k : ℕ). SplitFrom forms pass (replicate k (depth + 1) ++ rest) g place answer) long more);
    behind = replaced_behind f g place i (name_at (names_of forms) form) sequence within comes ∙ ap (λ (k : ℕ). length f.insns + (place + k)) (sym long);
    shallow = shallow;
  }

  pub place_refuses : (depth place form : ℕ) (f : Function) (i : Insn) (sequence : List Rtx) (e : PassRefusal) → slice_get f.insns place ≡ Some i →
      IsSplit forms pass (next_pseudo f.insns) i form sequence → depth < most_splits →
      RefusesWith e (ReplacedComes f place i (name_at (names_of forms) form) sequence) → Stops forms pass (depth ∷ []) f place e
  place_refuses depth place form f i sequence e at is shallow r =
      refuses_map e (ReplacedComes f place i (name_at (names_of forms) form) sequence) (λ (answer : Answer). (rest : List ℕ) → SplitFrom forms pass ((depth ∷ []) ++ rest) f place answer)
      (λ d comes rest. SplitFrom.refused depth rest f place i form sequence d at is shallow comes) r

  pub place_deep : (depth place form : ℕ) (f : Function) (i : Insn) (sequence : List Rtx) (e : PassRefusal) → slice_get f.insns place ≡ Some i →
      IsSplit forms pass (next_pseudo f.insns) i form sequence → most_splits ≤ depth → e ≡ too_deep → Stops forms pass (depth ∷ []) f place e
  place_deep depth place form f i sequence e at is deep same =
      subst (λ (d : PassRefusal). Stops forms pass (depth ∷ []) f place d) (sym same) (λ rest. SplitFrom.deep depth rest f place i form sequence at is deep)

  -- ---- some instructions

  -- with so many still to be split
  pub record Progress (count depth : ℕ) (f : Function) (place : ℕ) (g : Function) (at left : ℕ) : Type 0 where
    pub reaches : (rest : List ℕ) (answer : Answer) → SplitFrom forms pass (replicate left depth ++ rest) g at answer → SplitFrom forms pass (replicate count depth ++ rest) f place answer
    pub behind : SameBehind f (place + count) g (at + left)

  module _ (count depth : ℕ) (f : Function) (place : ℕ) (g : Function) (at left : ℕ) (so_far : Progress count depth f place g at left) where
    -- one of those that are still to be split
    first_reaches : 0 < left → (rest : List ℕ) (answer : Answer) → SplitFrom forms pass (depth ∷ (replicate (left - 1) depth ++ rest)) g at answer → SplitFrom forms pass (replicate count depth ++ rest) f place answer
    first_reaches some rest answer more =
        so_far.reaches rest answer (subst (λ (depths : List ℕ). SplitFrom forms pass (depths ++ rest) g at answer) (sym (replicate_first left depth some)) more)

    pub stays_on : (h : Function) (end : ℕ) → 0 < left → PlaceStays forms pass depth g at h → end ≡ at + 1 → Progress count depth f place h end (left - 1)
    stays_on h end some stays is = record {
      reaches = λ rest answer more. first_reaches some rest answer (stays.reaches (replicate (left - 1) depth ++ rest) answer (subst (λ (k : ℕ). SplitFrom forms pass (replicate (left - 1) depth ++ rest) h k answer) is more));
      behind =
          let same : length h.insns ≡ length g.insns = ap (λ (k : Function). length k.insns) stays.same in
          omega (arith, same, some, is, so_far.behind);
    }

    pub splits_on : (h k : Function) (made end : ℕ) → 0 < left → PlaceReaches forms pass depth g at h made → RunReaches forms pass made (depth + 1) h at k end → Progress count depth f place k end (left - 1)
    splits_on h k made end some splits run = record {
      reaches = λ rest answer more. first_reaches some rest answer (splits.reaches (replicate (left - 1) depth ++ rest) answer (run.reaches (replicate (left - 1) depth ++ rest) answer more));
      behind = omega (arith, some, so_far.behind, splits.behind, run.behind);
    }

    pub stops_on : (e : PassRefusal) → 0 < left → Stops forms pass (depth ∷ []) g at e → Stops forms pass (replicate count depth) f place e
    stops_on e some r =
        refuses_map e (λ (answer : Answer). (rest : List ℕ) → SplitFrom forms pass (depth ∷ rest) g at answer) (λ (answer : Answer). (rest : List ℕ) → SplitFrom forms pass (replicate count depth ++ rest) f place answer)
        (λ d stops rest. first_reaches some rest (Err d) (stops (replicate (left - 1) depth ++ rest))) r

    pub run_stops_on : (h : Function) (made : ℕ) (e : PassRefusal) → 0 < left → PlaceReaches forms pass depth g at h made → Stops forms pass (replicate made (depth + 1)) h at e → Stops forms pass (replicate count depth) f place e
    run_stops_on h made e some splits r =
        refuses_map e (λ (answer : Answer). (rest : List ℕ) → SplitFrom forms pass (replicate made (depth + 1) ++ rest) h at answer) (λ (answer : Answer). (rest : List ℕ) → SplitFrom forms pass (replicate count depth ++ rest) f place answer)
        (λ d stops rest. first_reaches some rest (Err d) (splits.reaches (replicate (left - 1) depth ++ rest) (Err d) (stops (replicate (left - 1) depth ++ rest)))) r

  pub run_starts : (count depth : ℕ) (f : Function) (place : ℕ) → Progress count depth f place f place count
  run_starts count depth f place = record { reaches = λ rest answer more. more; behind = refl }

  pub run_ends : (count depth : ℕ) (f : Function) (place : ℕ) (g : Function) (at left : ℕ) → Progress count depth f place g at left → left ≡ 0 → RunReaches forms pass count depth f place g at
  run_ends count depth f place g at left so_far none = record {
    reaches = λ rest answer more. so_far.reaches rest answer (subst (λ (n : ℕ). SplitFrom forms pass (replicate n depth ++ rest) g at answer) (sym none) more);
    behind = let behind = so_far.behind in omega (arith, behind, none);
  }

  -- ---- the whole function

  pub all_split : (f g : Function) (count end : ℕ) → count ≡ length f.insns → RunReaches forms pass count 0 f 0 g end → SplitComes forms pass f (Ok g)
  all_split f g count end is run =
      subst (λ (depths : List ℕ). SplitFrom forms pass depths f 0 (Ok g)) (append-nil (replicate count 0) ∙ ap (λ (n : ℕ). replicate n 0) is) (run.reaches [] (Ok g) (SplitFrom.done g end))

  pub all_stop : (f : Function) (count : ℕ) (e : PassRefusal) → count ≡ length f.insns → Stops forms pass (replicate count 0) f 0 e → RefusesWith e (SplitComes forms pass f)
  all_stop f count e is r =
      refuses_map e (λ (answer : Answer). (rest : List ℕ) → SplitFrom forms pass (replicate count 0 ++ rest) f 0 answer) (SplitComes forms pass f)
      (λ d stops. subst (λ (depths : List ℕ). SplitFrom forms pass depths f 0 (Err d)) (append-nil (replicate count 0) ∙ ap (λ (n : ℕ). replicate n 0) is) (stops [])) r

-- ---- what calls have done

pub place_made : (forms : List Entry) (pass : Pass) (depth place made : ℕ) (f g : Function) (o : Option ℕ) → o ≡ Some made → PlaceSplits forms pass depth f place g (Ok o) → PlaceReaches forms pass depth f place g made
place_made forms pass depth place made f g o is done = subst (λ (x : Option ℕ). PlaceSplits forms pass depth f place g (Ok x)) is done

-- of a function that is the same
pub whole_split : (forms : List Entry) (pass : Pass) (f h g k : Function) (count end : ℕ) → h ≡ f → k ≡ g → count ≡ length f.insns → RunReaches forms pass count 0 h 0 g end → SplitComes forms pass f (Ok k)
whole_split forms pass f h g k count end same is long run =
    all_split forms pass f k count end long
    (subst (λ (x : Function). RunReaches forms pass count 0 f 0 x end) (sym is) (subst (λ (x : Function). RunReaches forms pass count 0 x 0 g end) same run))

pub whole_stops : (forms : List Entry) (pass : Pass) (f h : Function) (count : ℕ) (e : PassRefusal) → h ≡ f → count ≡ length f.insns → Stops forms pass (replicate count 0) h 0 e → RefusesWith e (SplitComes forms pass f)
whole_stops forms pass f h count e same long stops =
    all_stop forms pass f count e long (subst (λ (x : Function). Stops forms pass (replicate count 0) x 0 e) same stops)

-- ---- a form was found

-- something stands at a place
pub stands : {A : Type 0} (xs : List A) (place : ℕ) → place < length xs → (x : A) × (slice_get xs place ≡ Some x)
stands [] place within = absurd (let never : ⊥ = omega (arith, within) in never)
stands (x ∷ xs) zero within = (x, refl)
stands (x ∷ xs) (suc place) within = stands xs place (omega (arith, within))

module _ (forms : List Entry) (pass : Pass) (depth place form : ℕ) (f : Function) (sequence : List Rtx) (within : place < length f.insns)
    (found : (i : Insn) → slice_get f.insns place ≡ Some i → IsSplit forms pass (next_pseudo f.insns) i form sequence) where
  pub found_deep : (e : PassRefusal) → most_splits ≤ depth → e ≡ too_deep → Stops forms pass (depth ∷ []) f place e
  found_deep e deep same =
      let here = stands f.insns place within in
      place_deep forms pass depth place form f here.0 sequence e here.1 (found here.0 here.1) deep same

  pub found_replaced : (g : Function) (r : Result ℕ PassRefusal) → depth < most_splits → Replaces r f g place (name_at (names_of forms) form) sequence → FoundSplits forms pass depth f place g r
  found_replaced g (Ok n) shallow done =
      let here = stands f.insns place within in
      let comes = done here.0 here.1 in
      place_splits forms pass depth place n form f g here.0 sequence here.1 within (found here.0 here.1) shallow comes.0 comes.1
  found_replaced g (Err e) shallow done =
      let here = stands f.insns place within in
      place_refuses forms pass depth place form f here.0 sequence e here.1 (found here.0 here.1) shallow (done here.0 here.1)

-- ---- none was found, or one, in a function that is the same

module _ (forms : List Entry) (pass : Pass) (f g h : Function) (place next : ℕ) (j : Insn) (is : g ≡ f) (lent : h ≡ g) (free : next ≡ next_pseudo f.insns) (at : slice_get h.insns place ≡ Some j) where
  at_here : slice_get g.insns place ≡ Some j
  at_here = subst (λ (k : Function). slice_get k.insns place ≡ Some j) lent at

  free_here : next ≡ next_pseudo g.insns
  free_here = free ∙ ap (λ (k : Function). next_pseudo k.insns) (sym is)

  pub found_here : (form : ℕ) (sequence : List Rtx) → IsSplit forms pass next j form sequence → (i : Insn) → slice_get g.insns place ≡ Some i → IsSplit forms pass (next_pseudo g.insns) i form sequence
  found_here form sequence split i there =
      subst (λ (n : ℕ). IsSplit forms pass n i form sequence) free_here (subst (λ (k : Insn). IsSplit forms pass next k form sequence) (same_at g.insns place j i at_here there) split)

  pub none_here : (depth : ℕ) → IsUnsplit forms pass next j → PlaceStays forms pass depth f place g
  none_here depth none =
      place_stays forms pass depth place f g j (subst (λ (k : Function). slice_get k.insns place ≡ Some j) is at_here) (subst (λ (n : ℕ). IsUnsplit forms pass n j) free none) is
