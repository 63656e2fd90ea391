-- The registers that are dead at the points of a window.
use Rattle.std.proofs.Common.{◌≡◌, ◌⊎◌, inl, inr, ◌↔◌, ℕ, ◌+◌, ◌-◌, ◌<◌, ◌≤◌, Bool, true, false, ◌||◌, ◌&&◌, not, eqb, List, [], ◌∷◌, ◌++◌, length, Some, refl, sym, ap, subst, ◌∙◌, arith}
use Rattle.std.specs.Prelude.{slice_get}
use Rattle.std.specs.List.Sorted.{IsStrictlyIncreasing}
use Rattle.std.proofs.lemmas.Bool.{or_cases, or_left, or_right, eqb-true, false≢true, cases_lt}
use Rattle.std.proofs.lemmas.List.{length-append}
use Rattle.std.proofs.lemmas.Option.{slice_get_within}
use Rattle.rtx_tree.specs.declared.function.Function.{Function}
use Rattle.rtx_tree.specs.RegSet.{has_reg}
use Rattle.c_eval.specs.declared.facts.Facts.{Facts}
use Rattle.live.specs.Live.{IsLive, IsLiveAfter}
use Rattle.live.proofs.LiveLists.{same_sets, agree}
use Rattle.peep2.specs.Rewrite.{AreDeadBefore, AreDeadAfter, AreDeadIn, AreFactsAt}
use Rattle.peep2.proofs.Lists.{pushed, same_lists}

-- ---- one point

-- of the registers below a number a list has those that do not live
abbrev pub AreDeadBelow : (ℕ → Type 0) → List ℕ → ℕ → Type 0
AreDeadBelow Lives regs end = (reg : ℕ) → (has_reg regs reg ≡ true) ↔ ((reg < end) × (Lives reg → ⊥))

self : (a : ℕ) → eqb a a ≡ true
self a = grind arith

is_same : (a b : ℕ) → a ≡ b → eqb a b ≡ true
is_same a b same = subst (λ c. eqb a c ≡ true) same (self a)

or_false : (b : Bool) → (b || false) ≡ b
or_false true = refl
or_false false = refl

module _ (Lives : ℕ → Type 0) where
  pub none_below : (regs : List ℕ) → regs ≡ [] → AreDeadBelow Lives regs 0
  none_below regs empty reg = (
    λ has. absurd (false≢true (sym (ap (λ rs. has_reg rs reg) empty) ∙ has)),
    λ below. absurd (let less = below.0 in let never : ⊥ = omega (arith, less) in never),
  )

  -- one that is live more
  pub live_more : (regs : List ℕ) (n : ℕ) → Lives n → AreDeadBelow Lives regs n → AreDeadBelow Lives regs (n + 1)
  live_more regs n lives all reg = (
    λ has. let was = (all reg).0 has in (let less = was.0 in omega (arith, less), was.1),
    λ both. (all reg).1 (by both.0 both.1 (cases_lt reg n), both.1),
  )
    where
      by : reg < n + 1 → (Lives reg → ⊥) → (reg < n) ⊎ (n ≤ reg) → reg < n
      by below dead (inl less) = less
      by below dead (inr above) = let same : n ≡ reg = omega (arith, below, above) in absurd (dead (subst Lives same lives))

  -- one that is dead more
  pub dead_more : (old new : List ℕ) (n : ℕ) → (Lives n → ⊥) → ((other : ℕ) → has_reg new other ≡ (has_reg old other || eqb other n)) → AreDeadBelow Lives old n → AreDeadBelow Lives new (n + 1)
  dead_more old new n dead put all reg = (there, back)
    where
      there : has_reg new reg ≡ true → (reg < n + 1) × (Lives reg → ⊥)
      there has = elim (or_cases (has_reg old reg) (eqb reg n) (sym (put reg) ∙ has)) [
        | inl was ↦ let both = (all reg).0 was in (let less = both.0 in omega (arith, less), both.1)
        | inr is ↦ let same : reg ≡ n = eqb-true reg n is in (omega (arith, same), λ lives. dead (subst Lives same lives))
      ]

      back : (reg < n + 1) × (Lives reg → ⊥) → has_reg new reg ≡ true
      back both = elim (cases_lt reg n) [
        | inl less ↦ put reg ∙ or_left (has_reg old reg) (eqb reg n) ((all reg).1 (less, both.1))
        | inr above ↦ let below = both.0 in let same : reg ≡ n = omega (arith, below, above) in put reg ∙ or_right (has_reg old reg) (eqb reg n) (is_same reg n same)
      ]

  -- one that is, or is not
  pub one_more : (old new : List ℕ) (n : ℕ) (lives : Bool) → (lives ≡ true) ↔ Lives n → ((other : ℕ) → has_reg new other ≡ (has_reg old other || (not lives && eqb other n))) → AreDeadBelow Lives old n → AreDeadBelow Lives new (n + 1)
  one_more old new n true told put all reg =
      let same : has_reg new reg ≡ has_reg old reg = put reg ∙ or_false (has_reg old reg) in
      let was = live_more old n (told.0 refl) all reg in
      (λ has. was.0 (sym same ∙ has), λ both. same ∙ was.1 both)
  one_more old new n false told put all reg = dead_more old new n (λ lives. false≢true (told.1 lives)) put all reg

  -- which they are
  pub dead_one : (xs ys : List ℕ) (end : ℕ) → IsStrictlyIncreasing xs → IsStrictlyIncreasing ys → AreDeadBelow Lives xs end → AreDeadBelow Lives ys end → xs ≡ ys
  dead_one xs ys end up up' all all' =
      same_sets xs ys up up' (λ reg. agree (has_reg xs reg) (has_reg ys reg) (λ has. (all' reg).1 ((all reg).0 has)) (λ has. (all reg).1 ((all' reg).0 has)))

-- ---- all points

abbrev facts_of : Bool → Bool → List (List ℕ) → Facts
facts_of reloaded new_pseudos dead = record { reloaded = reloaded; new_pseudos = new_pseudos; dead = dead }

module _ (f : Function) (place count : ℕ) where
  -- the points in front of one
  pub record AreDeadFront (dead : List (List ℕ)) (n : ℕ) : Type 0 where
    pub long : length dead ≡ n
    pub before : (k : ℕ) (regs : List ℕ) → slice_get dead k ≡ Some regs → AreDeadBefore f (place + k) regs

  pub no_front : (dead : List (List ℕ)) → dead ≡ [] → AreDeadFront dead 0
  no_front dead empty = record {
    long = ap length empty;
    before = λ k regs at.
        let within : k < length dead = slice_get_within dead k regs at in
        let none : length dead ≡ 0 = ap length empty in
        absurd (let never : ⊥ = omega (arith, within, none) in never);
  }

  pub front_more : (old new : List (List ℕ)) (regs : List ℕ) (n : ℕ) → new ≡ old ++ regs ∷ [] → AreDeadBefore f (place + n) regs → AreDeadFront old n → AreDeadFront new (n + 1)
  front_more old new regs n put dead front = record {
    long = ap length put ∙ (length-append old (regs ∷ []) ∙ ap (λ m. m + 1) front.long);
    before = λ k others at. by k others (pushed old regs k others (subst (λ (l : List (List ℕ)). slice_get l k ≡ Some others) put at));
  }
    where
      by : (k : ℕ) (others : List ℕ) → (slice_get old k ≡ Some others) ⊎ ((k ≡ length old) × (others ≡ regs)) → AreDeadBefore f (place + k) others
      by k others (inl here) = front.before k others here
      by k others (inr last) =
          subst (λ (rs : List ℕ). AreDeadBefore f (place + k) rs) (sym last.1) (subst (λ m. AreDeadBefore f (place + m) regs) (sym (last.0 ∙ front.long)) dead)

  pub front_whole : (old new : List (List ℕ)) (regs : List ℕ) (n : ℕ) → n ≡ count → new ≡ old ++ regs ∷ [] → AreDeadAfter f (place + count - 1) regs → AreDeadFront old n → AreDeadIn f place count new
  front_whole old new regs n all put dead front = record {
    long = ap length put ∙ (length-append old (regs ∷ []) ∙ ap (λ m. m + 1) (front.long ∙ all));
    before = λ k others within at. before k others within (pushed old regs k others (subst (λ (l : List (List ℕ)). slice_get l k ≡ Some others) put at));
    behind = λ others at. behind others (pushed old regs count others (subst (λ (l : List (List ℕ)). slice_get l count ≡ Some others) put at));
  }
    where
      long : length old ≡ count
      long = front.long ∙ all

      before : (k : ℕ) (others : List ℕ) → k < count → (slice_get old k ≡ Some others) ⊎ ((k ≡ length old) × (others ≡ regs)) → AreDeadBefore f (place + k) others
      before k others within (inl here) = front.before k others here
      before k others within (inr last) = absurd (let same = last.0 in let never : ⊥ = omega (arith, within, same, long) in never)

      behind : (others : List ℕ) → (slice_get old count ≡ Some others) ⊎ ((count ≡ length old) × (others ≡ regs)) → AreDeadAfter f (place + count - 1) others
      behind others (inl here) =
          let within : count < length old = slice_get_within old count others here in
          absurd (let never : ⊥ = omega (arith, within, long) in never)
      behind others (inr last) = subst (λ (rs : List ℕ). AreDeadAfter f (place + count - 1) rs) (sym last.1) dead

  -- ---- what conditions know is one

  lists_one : (xs ys : List (List ℕ)) → AreDeadIn f place count xs → AreDeadIn f place count ys → xs ≡ ys
  lists_one xs ys a b = same_lists xs ys (a.long ∙ sym b.long) (λ k x y there here. at k x y there here (cases_lt k count))
    where
      at : (k : ℕ) (x y : List ℕ) → slice_get xs k ≡ Some x → slice_get ys k ≡ Some y → (k < count) ⊎ (count ≤ k) → x ≡ y
      at k x y there here (inl within) =
          let one = a.before k x within there in
          let two = b.before k y within here in
          dead_one (λ reg. IsLive f reg (place + k)) x y 32 one.ordered two.ordered one.each two.each
      at k x y there here (inr past) =
          let within : k < length xs = slice_get_within xs k x there in
          let long : length xs ≡ count + 1 = a.long in
          let last : k ≡ count = omega (arith, past, within, long) in
          let one = a.behind x (subst (λ m. slice_get xs m ≡ Some x) last there) in
          let two = b.behind y (subst (λ m. slice_get ys m ≡ Some y) last here) in
          dead_one (λ reg. IsLiveAfter f reg (place + count - 1)) x y 32 one.ordered two.ordered one.each two.each

  same_facts : (a b : Facts) → a.reloaded ≡ b.reloaded → a.new_pseudos ≡ b.new_pseudos → a.dead ≡ b.dead → a ≡ b
  same_facts a b one two three =
      ap (λ r. facts_of r a.new_pseudos a.dead) one ∙ (ap (λ n. facts_of b.reloaded n a.dead) two ∙ ap (facts_of b.reloaded b.new_pseudos) three)

  pub facts_one : (a b : Facts) → AreFactsAt f place count a → AreFactsAt f place count b → a ≡ b
  facts_one a b x y = same_facts a b (x.reloaded ∙ sym y.reloaded) (x.new_pseudos ∙ sym y.new_pseudos) (lists_one a.dead b.dead x.dead y.dead)
