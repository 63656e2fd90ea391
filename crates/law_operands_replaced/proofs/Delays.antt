-- Effects of which some are made behind the others: each may pass what it is apart from.
use Rattle.std.proofs.Common.{◌≡◌, ◌≢◌, ◌⊎◌, ⊎_elim, inl, inr, ℕ, zero, suc, ◌+◌, ◌/◌, ◌%◌, ◌<◌, ◌≤◌, ◌==◌, eqb, if◌then◌else◌, Bool, true, false, List, [], ◌∷◌, ◌++◌, Option, Some, None, refl, sym, ap, subst, ◌∙◌, arith}
use Rattle.std.proofs.lemmas.Bool.Decides.{nat_tests}
use Rattle.std.specs.FinMap.{get}
use Rattle.std.specs.Prelude.{nat_le, nat_lt}
use Rattle.bits64.specs.Words.{bytes_of}
use Rattle.rtx_tree.specs.declared.memories.MemByte.{MemByte}
use Rattle.run_memory.proofs.Laws.{Apart}
use Rattle.rtl_step.specs.Effect.{regs_after, memory_after}
use Rattle.rtl_step.specs.Regs.{Regs}
use Rattle.rtl_step.specs.declared.effect.Effect.{Effect}
use Rattle.rtl_step.specs.declared.effect.Effect.TheVariants.{Nothing, Sets, Unsets, Stores}
use Rattle.rtl_step.specs.declared.regs.Known.{Known}
use Rattle.law_operands_replaced.proofs.Cells.{all_of, number_made, byte_made, known_made, known_is, AreThere, same_memory}

-- ---- effects that are apart

-- of two effects, neither changes what the other does
abbrev pub AreApart : Effect → Effect → Type 0
AreApart (Sets r k) (Sets q l) = r ≢ q
AreApart (Sets r k) (Unsets q) = r ≢ q
AreApart (Unsets r) (Sets q l) = r ≢ q
AreApart (Stores w at value) (Stores w' at' value') = Apart at (bytes_of w) at' (bytes_of w')
AreApart _ _ = Unit {0}

-- the second changes all that the first does
abbrev pub Overrides : Effect → Effect → Type 0
Overrides (Sets r k) (Sets q l) = r ≡ q
Overrides (Stores w at value) (Stores w' at' value') = (w ≡ w') × (at ≡ at')
Overrides _ _ = ⊥

-- each of some
abbrev pub ApartFrom : Effect → List Effect → Type 0
ApartFrom e [] = Unit {0}
ApartFrom e (o ∷ os) = AreApart e o × ApartFrom e os

-- ---- effects that are delayed

-- an effect stands among others, behind those from which it is apart
pub data Inserted (e : Effect) : List Effect → List Effect → Type 0 where
  here : (os : List Effect) → Inserted e os (e ∷ os)
  behind : (o : Effect) (os os' : List Effect) → AreApart e o → Inserted e os os' → Inserted e (o ∷ os) (o ∷ os')

-- one of some changes all that it does, and it is apart from those before that
pub data Overridden (e : Effect) : List Effect → Type 0 where
  here : (o : Effect) (os : List Effect) → Overrides e o → Overridden e (o ∷ os)
  behind : (o : Effect) (os : List Effect) → AreApart e o → Overridden e os → Overridden e (o ∷ os)

-- Of some effects those that are kept are made first, and the others behind them, in any order. One that a later one overrides is left out.
pub data Delays : List Effect → List Effect → List Effect → Type 0 where
  none : Delays [] [] []
  keeps : (e : Effect) (es kept out : List Effect) → Delays es kept out → Delays (e ∷ es) (e ∷ kept) out
  delays : (e : Effect) (es kept out out' : List Effect) → Delays es kept out → ApartFrom e kept → Inserted e out out' → Delays (e ∷ es) kept out'
  again : (e : Effect) (es kept out : List Effect) → Delays es kept out → ApartFrom e kept → Overridden e out → Delays (e ∷ es) kept out

module _ {A : Type 0} (made : Effect → A → A) (turns : (e o : Effect) → AreApart e o → (x : A) → made o (made e x) ≡ made e (made o x))
    (wins : (e o : Effect) → Overrides e o → (x : A) → made o (made e x) ≡ made o x) where
  abbrev all : List Effect → A → A
  all = all_of made

  -- it is made behind those that are kept
  passes : (e : Effect) (kept out : List Effect) → ApartFrom e kept → (x : A) → all (kept ++ out) (made e x) ≡ all (kept ++ e ∷ out) x
  passes e [] out apart x = refl
  passes e (o ∷ kept) out apart x = ap (all (kept ++ out)) (turns e o apart.0 x) ∙ passes e kept out apart.1 (made o x)

  inserted : (e : Effect) (out out' : List Effect) → Inserted e out out' → (x : A) → all out (made e x) ≡ all out' x
  inserted e _ _ (here os) x = refl
  inserted e _ _ (behind o os os' apart more) x = ap (all os) (turns e o apart x) ∙ inserted e os os' more (made o x)

  overridden : (e : Effect) (out : List Effect) → Overridden e out → (x : A) → all out (made e x) ≡ all out x
  overridden e _ (here o os over) x = ap (all os) (wins e o over x)
  overridden e _ (behind o os apart more) x = ap (all os) (turns e o apart x) ∙ overridden e os more (made o x)

  both : (xs ys : List Effect) (x : A) → all (xs ++ ys) x ≡ all ys (all xs x)
  both [] ys x = refl
  both (e ∷ xs) ys x = both xs ys (made e x)

  -- they leave the same
  delayed : (es kept out : List Effect) → Delays es kept out → (x : A) → all es x ≡ all (kept ++ out) x
  delayed _ _ _ none x = refl
  delayed _ _ _ (keeps e es kept out more) x = delayed es kept out more (made e x)
  delayed _ _ _ (delays e es kept out out' more apart at) x =
      delayed es kept out more (made e x) ∙ passes e kept out apart x ∙ both kept (e ∷ out) x ∙
      inserted e out out' at (all kept x) ∙ sym (both kept out' x)
  delayed _ _ _ (again e es kept out more apart over) x =
      delayed es kept out more (made e x) ∙ passes e kept out apart x ∙ both kept (e ∷ out) x ∙
      overridden e out over (all kept x) ∙ sym (both kept out x)

-- ---- at an address

number_outside : (a address count number old : ℕ) → (a < address) ⊎ (address + count ≤ a) → number_made a address count number old ≡ old
number_outside a address zero number old outside = refl
number_outside a address (suc count) number old outside =
    let further : (a < address + 1) ⊎ (address + 1 + count ≤ a) =
    ⊎_elim (λ (h : a < address). inl (omega (arith, h))) (λ (h : address + suc count ≤ a). inr (omega (arith, h))) outside in
    let differ : (a == address) ≡ false = ⊎_elim (λ (h : a < address). grind (arith, nat_tests, h)) (λ (h : address + suc count ≤ a). grind (arith, nat_tests, h)) outside in
    number_outside a (address + 1) count (number / 256) (if a == address then number % 256 else old) further ∙
    ap (λ b. if b then number % 256 else old) differ

written_here : (a address count number x y : ℕ) (b : Bool) → (a == address) ≡ b →
    ((u v : ℕ) → address + 1 ≤ a → number_made a (address + 1) count (number / 256) u ≡ number_made a (address + 1) count (number / 256) v) → address ≤ a →
    number_made a address (suc count) number x ≡ number_made a address (suc count) number y
written_here a address count number x y true is further above =
    ap (λ b. number_made a (address + 1) count (number / 256) (if b then number % 256 else x)) is ∙
    sym (ap (λ b. number_made a (address + 1) count (number / 256) (if b then number % 256 else y)) is)
written_here a address count number x y false is further above =
    further (if a == address then number % 256 else x) (if a == address then number % 256 else y)
    (let h : address + 1 ≤ a = grind (arith, nat_tests, is, above) in h)

number_inside : (a address count number x y : ℕ) → address ≤ a → a < address + count → number_made a address count number x ≡ number_made a address count number y
number_inside a address zero number x y above below = absurd (omega (arith, above, below))
number_inside a address (suc count) number x y above below = written_here a address count number x y (a == address) refl
    (λ u v more. number_inside a (address + 1) count (number / 256) u v more (omega (arith, below))) above

-- an address lies outside some bytes, or inside
where_is : (a address count : ℕ) → ((a < address) ⊎ (address + count ≤ a)) ⊎ ((address ≤ a) × (a < address + count))
where_is a address count = by (nat_lt a address) (nat_le (address + count) a) refl refl
  where
    by : (b c : Bool) → nat_lt a address ≡ b → nat_le (address + count) a ≡ c →
        ((a < address) ⊎ (address + count ≤ a)) ⊎ ((address ≤ a) × (a < address + count))
    by true c is is' = inl (inl (grind (arith, nat_tests, is)))
    by false true is is' = inl (inr (grind (arith, nat_tests, is')))
    by false false is is' = inr (grind (arith, nat_tests, is), grind (arith, nat_tests, is'))

other_outside : (a address count other length : ℕ) → Apart address count other length → address ≤ a → a < address + count →
    (a < other) ⊎ (other + length ≤ a)
other_outside a address count other length apart above below =
    ⊎_elim (λ (h : address + count ≤ other). inl (omega (arith, h, below))) (λ (h : other + length ≤ address). inr (omega (arith, h, above))) apart

numbers_turn : (a address count number other length number' x : ℕ) → Apart address count other length →
    number_made a other length number' (number_made a address count number x) ≡ number_made a address count number (number_made a other length number' x)
numbers_turn a address count number other length number' x apart = ⊎_elim
    (λ (out : (a < address) ⊎ (address + count ≤ a)).
    ap (number_made a other length number') (number_outside a address count number x out) ∙
    sym (number_outside a address count number (number_made a other length number' x) out))
    (λ (inside : (address ≤ a) × (a < address + count)).
    let out = other_outside a address count other length apart inside.0 inside.1 in
    number_outside a other length number' (number_made a address count number x) out ∙
    ap (number_made a address count number) (sym (number_outside a other length number' x out)))
    (where_is a address count)

number_wins : (a address count number number' x : ℕ) →
    number_made a address count number' (number_made a address count number x) ≡ number_made a address count number' x
number_wins a address count number number' x = ⊎_elim
    (λ (out : (a < address) ⊎ (address + count ≤ a)). ap (number_made a address count number') (number_outside a address count number x out))
    (λ (inside : (address ≤ a) × (a < address + count)).
    number_inside a address count number' (number_made a address count number x) x inside.0 inside.1)
    (where_is a address count)

byte_turns : (a : ℕ) (e o : Effect) → AreApart e o → (x : ℕ) → byte_made a o (byte_made a e x) ≡ byte_made a e (byte_made a o x)
byte_turns a (Stores w at v) (Stores w' at' v') apart x = numbers_turn a at (bytes_of w) v at' (bytes_of w') v' x apart
byte_turns a (Stores w at v) (Sets r k) apart x = refl
byte_turns a (Stores w at v) (Unsets r) apart x = refl
byte_turns a (Stores w at v) Nothing apart x = refl
byte_turns a (Sets r k) o apart x = refl
byte_turns a (Unsets r) o apart x = refl
byte_turns a Nothing o apart x = refl

byte_wins : (a : ℕ) (e o : Effect) → Overrides e o → (x : ℕ) → byte_made a o (byte_made a e x) ≡ byte_made a o x
byte_wins a (Stores w at v) (Stores w' at' v') over x =
    subst (λ u. number_made a at' (bytes_of w') v' (number_made a at (bytes_of u) v x) ≡ number_made a at' (bytes_of w') v' x) (sym over.0)
    (subst (λ p. number_made a at' (bytes_of w') v' (number_made a p (bytes_of w') v x) ≡ number_made a at' (bytes_of w') v' x) (sym over.1)
    (number_wins a at' (bytes_of w') v v' x))
byte_wins a (Stores w at v) (Sets r k) over x = absurd over
byte_wins a (Stores w at v) (Unsets r) over x = absurd over
byte_wins a (Stores w at v) Nothing over x = absurd over
byte_wins a (Sets r k) o over x = refl
byte_wins a (Unsets r) o over x = refl
byte_wins a Nothing o over x = refl

-- ---- in a register

known_if : Bool → Option Known → Option Known → Option Known
known_if b k x = if b then k else x

ifs_turn : (b c : Bool) (k l x : Option Known) → (b ≡ true → c ≡ true → ⊥) → known_if c l (known_if b k x) ≡ known_if b k (known_if c l x)
unfolding known_if
ifs_turn true true k l x never = absurd (never refl refl)
ifs_turn true false k l x never = refl
ifs_turn false c k l x never = refl

not_both : (q r s : ℕ) → r ≢ s → eqb q r ≡ true → eqb q s ≡ true → ⊥
not_both q r s differ is is' = differ (grind (arith, nat_tests, is, is'))

known_turns : (q : ℕ) (e o : Effect) → AreApart e o → (x : Option Known) → known_made q o (known_made q e x) ≡ known_made q e (known_made q o x)
unfolding known_if
known_turns q (Sets zero k) (Sets s l) apart x = refl
known_turns q (Sets (suc r) k) (Sets zero l) apart x = refl
known_turns q (Sets (suc r) k) (Sets (suc s) l) apart x = ifs_turn (eqb q (suc r)) (eqb q (suc s)) (Some k) (Some l) x (not_both q (suc r) (suc s) apart)
known_turns q (Sets zero k) (Unsets s) apart x = refl
known_turns q (Sets (suc r) k) (Unsets s) apart x = ifs_turn (eqb q (suc r)) (eqb q s) (Some k) None x (not_both q (suc r) s apart)
known_turns q (Unsets r) (Sets zero l) apart x = refl
known_turns q (Unsets r) (Sets (suc s) l) apart x = ifs_turn (eqb q r) (eqb q (suc s)) None (Some l) x (not_both q r (suc s) apart)
known_turns q (Unsets r) (Unsets s) apart x = both_none (eqb q r) (eqb q s)
  where
    both_none : (b c : Bool) → known_if c None (known_if b None x) ≡ known_if b None (known_if c None x)
    both_none true true = refl
    both_none true false = refl
    both_none false c = refl
known_turns q (Sets r k) (Stores w at v) apart x = refl
known_turns q (Sets r k) Nothing apart x = refl
known_turns q (Unsets r) (Stores w at v) apart x = refl
known_turns q (Unsets r) Nothing apart x = refl
known_turns q (Stores w at v) o apart x = refl
known_turns q Nothing o apart x = refl

known_wins : (q : ℕ) (e o : Effect) → Overrides e o → (x : Option Known) → known_made q o (known_made q e x) ≡ known_made q o x
unfolding known_if
known_wins q (Sets r k) (Sets s l) over x = subst (λ t. known_made q (Sets s l) (known_made q (Sets t k) x) ≡ known_made q (Sets s l) x) (sym over) (same s)
  where
    twice : (b : Bool) → known_if b (Some l) (known_if b (Some k) x) ≡ known_if b (Some l) x
    twice true = refl
    twice false = refl

    same : (s : ℕ) → known_made q (Sets s l) (known_made q (Sets s k) x) ≡ known_made q (Sets s l) x
    same zero = refl
    same (suc s) = twice (eqb q (suc s))
known_wins q (Stores w at v) o over x = refl
known_wins q (Sets r k) (Stores w at v) over x = absurd over
known_wins q (Sets r k) (Unsets s) over x = absurd over
known_wins q (Sets r k) Nothing over x = absurd over
known_wins q (Unsets r) o over x = absurd (never o over)
  where
    never : (o : Effect) → Overrides (Unsets r) o → ⊥
    never (Sets s l) over = over
    never (Unsets s) over = over
    never (Stores w at v) over = over
    never Nothing over = over
known_wins q Nothing o over x = refl

-- ---- what they leave

one_there : (memory : List MemByte) (e : Effect) (out out' : List Effect) → Inserted e out out' → AreThere memory (e ∷ out) → AreThere memory out'
one_there memory e _ _ (here os) there = there
one_there memory e _ _ (behind o os os' apart more) there = (there.1.0, one_there memory e os os' more (there.0, there.1.1))

parts_there : (memory : List MemByte) (es kept out : List Effect) → Delays es kept out → AreThere memory es →
    (AreThere memory kept) × (AreThere memory out)
parts_there memory _ _ _ none there = (tt, tt)
parts_there memory _ _ _ (keeps e es kept out more) there =
    let rest = parts_there memory es kept out more there.1 in ((there.0, rest.0), rest.1)
parts_there memory _ _ _ (delays e es kept out out' more apart at) there =
    let rest = parts_there memory es kept out more there.1 in (rest.0, one_there memory e out out' at (there.0, rest.1))
parts_there memory _ _ _ (again e es kept out more apart over) there = parts_there memory es kept out more there.1

both_there : (memory : List MemByte) (xs ys : List Effect) → AreThere memory xs → AreThere memory ys → AreThere memory (xs ++ ys)
both_there memory [] ys there there' = there'
both_there memory (e ∷ xs) ys there there' = (there.0, both_there memory xs ys there.1 there')

-- the same memory
pub delayed_memory : (memory : List MemByte) (es kept out : List Effect) → Delays es kept out → AreThere memory es →
    memory_after es memory ≡ memory_after (kept ++ out) memory
delayed_memory memory es kept out d there =
    let parts = parts_there memory es kept out d there in
    same_memory es (kept ++ out) memory there (both_there memory kept out parts.0 parts.1)
    (λ a old. delayed (byte_made a) (byte_turns a) (byte_wins a) es kept out d old)

-- the same registers
pub delayed_regs : (regs : Regs) (es kept out : List Effect) → Delays es kept out → (q : ℕ) →
    get (regs_after es regs) q ≡ get (regs_after (kept ++ out) regs) q
delayed_regs regs es kept out d q =
    known_is es regs q ∙ delayed (known_made q) (known_turns q) (known_wins q) es kept out d (get regs q) ∙ sym (known_is (kept ++ out) regs q)
