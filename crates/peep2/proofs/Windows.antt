-- Windows of a function.
use Rattle.std.proofs.Common.{◌≡◌, ℕ, zero, suc, ◌+◌, ◌-◌, ◌<◌, ◌≤◌, false, List, [], ◌∷◌, length, map, take, drop, Option, Some, refl, sym, ap, subst, ◌∙◌, arith}
use Rattle.std.specs.Prelude.{slice_get}
use Rattle.std.specs.Option.{option_map_or}
use Rattle.std.proofs.lemmas.Bool.{true≢false}
use Rattle.std.proofs.lemmas.List.{length-map, length-take-le, length-drop}
use Rattle.rtx_tree.specs.declared.tree.Rtx.{Rtx}
use Rattle.rtx_tree.specs.declared.function.Insn.{Insn}
use Rattle.rtx_tree.specs.declared.function.Function.{Function}
use Rattle.new_insns.specs.Replaced.{window}
use Rattle.c_eval.specs.declared.facts.Facts.{Facts}
use Rattle.md_match.specs.Pattern.{Ops, instantiated, all_instantiated}
use Rattle.md_match.proofs.Parts.{front, no_front}
use Rattle.md_forms.specs.declared.form.Entry.{Entry}
use Rattle.md_recog.specs.Match.{Accepts}
use Rattle.md_recog.specs.declared.half.Half.TheVariants as half
use Rattle.md_recog.specs.Recog.{window_of, MatchesAt}
use Rattle.md_window.specs.Windows.{size_in, window_size}
use Rattle.peep2.specs.Rewrite.{is_run, IsRun, patterns_from}

-- ---- its first instruction, and how many there are

first_taken : (xs : List Insn) (place n : ℕ) (i : Insn) → slice_get xs place ≡ Some i → 0 < n → (more : List Insn) × (take n (drop place xs) ≡ i ∷ more)
first_taken xs place zero i at some = absurd (omega (arith, some))
first_taken [] place (suc n) i at some = absurd (let none : ⊥ = cc in none)
first_taken (x ∷ xs) zero (suc n) i at some = (take n xs, ap (λ y. y ∷ take n xs) (let one : Some x ≡ Some i = at in cc))
first_taken (x ∷ xs) (suc place) (suc n) i at some = first_taken xs place (suc n) i at some

module _ (f : Function) (place count : ℕ) where
  size : place + count - place ≡ count
  size = omega arith

  pub window_begins : (i : Insn) → slice_get f.insns place ≡ Some i → 0 < count → (more : List Rtx) × (patterns_from f place count ≡ i.pattern ∷ more)
  window_begins i at some =
      let first = first_taken f.insns place (place + count - place) i at (subst (λ n. 0 < n) (sym size) some) in
      (map (λ (j : Insn). j.pattern) first.0, ap (λ (l : List Insn). map (λ (j : Insn). j.pattern) l) first.1)

  pub window_long : place + count ≤ length f.insns → length (window f place (place + count)) ≡ count
  window_long within =
      let rest = length-drop place f.insns in
      length-take-le (place + count - place) (drop place f.insns) (omega (arith, within, rest)) ∙ size

  pub patterns_long : place + count ≤ length f.insns → length (patterns_from f place count) ≡ count
  patterns_long within = length-map (window f place (place + count)) (λ (j : Insn). j.pattern) ∙ window_long within

  -- ---- where so many do not stand in one block

  pub none_stand : count ≡ 0 → IsRun f place count → ⊥
  none_stand none run = let some = run.some in omega (arith, none, some)

  pub too_many : length f.insns - place < count → IsRun f place count → ⊥
  too_many many run = let within = run.within in omega (arith, many, within)

  pub not_joined : (insns : List Insn) → insns ≡ window f place (place + count) → is_run insns ≡ false → IsRun f place count → ⊥
  not_joined insns is not run = true≢false (sym run.joined ∙ (ap is_run (sym is) ∙ not))

-- ---- how many a form asks for

made_long : (ps xs : List Rtx) (o : Ops) → all_instantiated ps o ≡ Some xs → length xs ≡ length ps
made_long [] [] o e = refl
made_long [] (x ∷ xs) o e = absurd (let none : ⊥ = cc in none)
made_long (p ∷ ps) [] o e = absurd (no_front (instantiated p o) (all_instantiated ps o) e)
made_long (p ∷ ps) (x ∷ xs) o e = ap suc (made_long ps xs o (front (instantiated p o) (all_instantiated ps o) x xs e).1)

pub size_is : (forms : List Entry) (a : Accepts) (facts : Facts) (insns : List Rtx) (form : ℕ) (o : Ops) → MatchesAt a facts half.Window insns forms form o → length insns ≡ window_size forms form
size_is forms a facts insns form o m =
    let says = m.matches.says in
    let made = made_long (window_of says.patterns) insns o m.matches.matches.matches.shape.made in
    let size : window_size forms form ≡ length (window_of says.patterns) =
    ap (λ (e : Option Entry). option_map_or (λ (e : Entry). size_in e.form) e 0) m.at ∙ ap size_in m.matches.accepted in
    made ∙ sym size
