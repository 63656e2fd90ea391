-- What stands in front of a replaced window can be combined as before, where what is live there stays.
use Rattle.std.proofs.Common.{◌≡◌, ℕ, zero, suc, ◌+◌, ◌-◌, ◌<◌, ◌≤◌, List, [], ◌∷◌, ◌++◌, length, take, drop, refl, sym, ap, subst, ◌∙◌, arith}
use Rattle.std.specs.Prelude.{slice_get, ◌⊎◌}
use Rattle.std.proofs.Common.{⊎_elim, inl, inr}
use Rattle.std.proofs.lemmas.Bool.{cases_lt}
use Rattle.std.proofs.lemmas.List.{drop-take}
use Rattle.rtx_tree.specs.declared.tree.Rtx.{Rtx}
use Rattle.rtx_tree.specs.declared.function.Insn.{Insn}
use Rattle.rtx_tree.specs.declared.function.Function.{Function}
use Rattle.live_chain.specs.Stays.{StaysBefore}
use Rattle.new_insns.specs.Replaced.{window, replaced}
use Rattle.md_forms.specs.declared.form.Entry.{Entry}
use Rattle.law_window_put.specs.Put.{IsPut}
use Rattle.combine.specs.Combine.{fused_window, Combines, NoneBefore}

-- ---- the front of a list

front_taken : {A : Type 0} (xs ys : List A) (b n : ℕ) → b ≤ n → n ≤ length xs → take b (take n xs ++ ys) ≡ take b xs
front_taken xs ys zero n below within = refl
front_taken [] ys (suc b) n below within = absurd (omega arith)
front_taken (x ∷ xs) ys (suc b) zero below within = absurd (omega arith)
front_taken (x ∷ xs) ys (suc b) (suc n) below within = ap (λ rest. x ∷ rest) (front_taken xs ys b n (omega arith) (omega arith))

front_at : {A : Type 0} (xs ys : List A) (p n : ℕ) → p < n → n ≤ length xs → slice_get (take n xs ++ ys) p ≡ slice_get xs p
front_at [] ys p n below within = absurd (omega arith)
front_at (x ∷ xs) ys p zero below within = absurd (omega arith)
front_at (x ∷ xs) ys zero (suc n) below within = refl
front_at (x ∷ xs) ys (suc p) (suc n) below within = front_at xs ys p n (omega arith) (omega arith)

-- a window of the front
front_window : {A : Type 0} (xs ys : List A) (a b n : ℕ) → a ≤ b → b ≤ n → n ≤ length xs → take (b - a) (drop a (take n xs ++ ys)) ≡ take (b - a) (drop a xs)
front_window xs ys a b n order below within =
    let all : a + (b - a) ≡ b = omega (arith, order) in
    sym (drop-take a (b - a) (take n xs ++ ys))
    ∙ (ap (λ k. drop a (take k (take n xs ++ ys))) all
    ∙ (ap (drop a) (front_taken xs ys b n below within)
    ∙ (ap (λ k. drop a (take k xs)) (sym all) ∙ drop-take a (b - a) xs)))

-- ---- pairs in front of the window

module _ (forms : List Entry) (f : Function) (first end : ℕ) (new : List Insn) (within : first ≤ length f.insns) (stays : StaysBefore f (replaced f first end new) first) where
  abbrev after : Function
  after = replaced f first end new

  same_at : (p : ℕ) → p < first → slice_get after.insns p ≡ slice_get f.insns p
  same_at p below = front_at f.insns (new ++ drop end f.insns) p first below within

  same_window : (a b : ℕ) → a ≤ b → b ≤ first → window after a b ≡ window f a b
  same_window a b order below = front_window f.insns (new ++ drop end f.insns) a b first order below within

  put_too : (a b : ℕ) (insns insns_too : List Insn) → b ≤ first → insns ≡ insns_too → IsPut after a b insns → IsPut f a b insns_too
  put_too a b insns insns_too below same put =
      let order = put.order in
      let last : b - 1 < first = omega (arith, order, below) in
      record {
        order = put.order;
        within = omega (arith, below, within);
        live = put.live;
        are = record {
          ordered = put.are.ordered;
          each = λ reg. (
            (λ has. (stays (b - 1) reg last).1 ((put.are.each reg).0 has)),
            (λ lives. (put.are.each reg).1 ((stays (b - 1) reg last).0 lives)),
          );
        };
        equated = cc (same_window a b (omega (arith, order)) below, same, put.equated);
      }

  pub combines_too : (i j : ℕ) (x : Rtx) → j < first → Combines forms after i j x → Combines forms f i j x
  combines_too i j x below c =
      let before = c.before in
      let windows = same_window i (j + 1) (omega (arith, before)) (omega (arith, below)) in
      record {
        before = c.before;
        near = c.near;
        register = c.register;
        path = c.path;
        links = record {
          one = c.links.one;
          other = c.links.other;
          at_first = sym (same_at i (omega (arith, before, below))) ∙ c.links.at_first;
          at_second = sym (same_at j below) ∙ c.links.at_second;
          sets = c.links.sets;
          kind_is = c.links.kind_is;
          once = c.links.once;
          between = λ place insn after_first before_second at. c.links.between place insn after_first before_second (same_at place (omega (arith, before_second, below)) ∙ at);
        };
        dead = λ insn at undefined lives. c.dead insn (same_at j below ∙ at) undefined ((stays j c.register below).0 lives);
        makes = record {
          one = c.makes.one;
          other = c.makes.other;
          at_first = sym (same_at i (omega (arith, before, below))) ∙ c.makes.at_first;
          at_second = sym (same_at j below) ∙ c.makes.at_second;
          source = c.makes.source;
          source_is = c.makes.source_is;
          made = c.makes.made;
          formed = c.makes.formed;
        };
        put = put_too i (j + 1) (fused_window x (window after i (j + 1))) (fused_window x (window f i (j + 1))) (omega (arith, below)) (ap (fused_window x) windows) c.put;
      }

  -- in front of the window none can be combined that could not
  pub still_none : NoneBefore forms f first → NoneBefore forms after first
  still_none none i j x below combines = none i j x below (combines_too i j x below combines)

-- in front of the first place there is no pair
pub none_first : (forms : List Entry) (f : Function) → NoneBefore forms f 0
none_first forms f i j x below combines = absurd (omega (arith, below))

-- the pair that is next
pub chosen_by : (forms : List Entry) (f : Function) (first second : ℕ) → NoneBefore forms f second → ((i : ℕ) (x : Rtx) → first < i → Combines forms f i second x → ⊥) →
    (i j : ℕ) (x : Rtx) → Combines forms f i j x → (second < j) ⊎ ((second ≡ j) × (i ≤ first))
chosen_by forms f first second none behind i j x combines = ⊎_elim
    (λ (below : j < second). absurd (none i j x below combines))
    (λ (least : second ≤ j). ⊎_elim
    (λ (above : second < j). inl above)
    (λ (most : j ≤ second).
    let same : second ≡ j = omega (arith, least, most) in
    ⊎_elim
    (λ (between : first < i). absurd (behind i x between (subst (λ n. Combines forms f i n x) (sym same) combines)))
    (λ (upto : i ≤ first). inr (same, upto))
    (cases_lt first i))
    (cases_lt second j))
    (cases_lt j second)
