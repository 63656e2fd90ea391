-- How long ways are that are made one, and how many there are.
use Rattle.std.proofs.Common.{◌≡◌, ℕ, ◌+◌, ◌*◌, ◌≤◌, ◌==◌, Bool, true, false, cond, List, [], ◌∷◌, ◌++◌, Option, Some, None, option_map, option_and_then, length, max, refl, sym, ap, subst, ◌∙◌, arith}
use Rattle.std.specs.Prelude.{bit_and, bit_or, nat_le}
use Rattle.std.specs.List.{AllByRecursion}
use Rattle.std.proofs.lemmas.Bool.{leb-true}
use Rattle.std.proofs.lemmas.List.{length-append}
use Rattle.md_text.specs.Lists.{each}
use Rattle.dfa_ways.specs.declared.way.Joint.{Joint}
use Rattle.dfa_ways.specs.declared.way.Joint.TheVariants as joint
use Rattle.dfa_ways.specs.Ways.{Way, Ways, at_once, joined, with_each, product, all_joined}

-- ---- what a value comes of

pub record Mapped {A B : Type 0} (f : A → B) (o : Option A) (y : B) : Type 0 where
  pub value : A
  pub was : o ≡ Some value
  pub gives : f value ≡ y

pub mapped : {A B : Type 0} (f : A → B) (o : Option A) (y : B) → option_map f o ≡ Some y → Mapped f o y
mapped f None y e = absurd (cc)
mapped f (Some x) y e = record { value = x; was = refl; gives = cc }

pub record Led {A B : Type 0} (f : A → Option B) (o : Option A) (y : B) : Type 0 where
  pub value : A
  pub was : o ≡ Some value
  pub gives : f value ≡ Some y

pub led : {A B : Type 0} (f : A → Option B) (o : Option A) (y : B) → option_and_then f o ≡ Some y → Led f o y
led f None y e = absurd (cc)
led f (Some x) y e = record { value = x; was = refl; gives = e }

pub record Tested {A : Type 0} (b : Bool) (o : Option A) (y : A) : Type 0 where
  pub passed : b ≡ true
  pub gives : o ≡ Some y

pub tested : {A : Type 0} (b : Bool) (o : Option A) (y : A) → cond b o None ≡ Some y → Tested b o y
tested true o y e = record { passed = refl; gives = e }
tested false o y e = absurd (cc)

pub some_is : {A : Type 0} (x y : A) → Some x ≡ Some y → x ≡ y
some_is x y e = cc

-- ---- two ways

at_once_length : (x y z : Way) → at_once x y ≡ Some z → length z ≡ max (length x) (length y)
at_once_length [] y z e = let same : y ≡ z = some_is y z e in omega (arith, ap length same)
at_once_length (a ∷ x) [] z e = let same : a ∷ x ≡ z = some_is (a ∷ x) z e in omega (arith, ap length same)
at_once_length (a ∷ x) (b ∷ y) z e =
    let clear = tested (bit_and a b == 0) (option_map (λ w. bit_or a b ∷ w) (at_once x y)) z e in
    let more = mapped (λ w. bit_or a b ∷ w) (at_once x y) z clear.gives in
    let long : length more.value ≡ max (length x) (length y) = at_once_length x y more.value more.was in
    omega (arith, long, ap length more.gives)

-- a way that is made of two
pub record IsJoined (x y z : Way) : Type 0 where
  pub first : length x ≤ length z
  pub second : length y ≤ length z
  pub short : length x ≤ 64 → length y ≤ 64 → length z ≤ 64

pub is_joined : (how : Joint) (x y z : Way) → joined how x y ≡ Some z → IsJoined x y z
is_joined joint.Behind x y z e =
    let clear = tested (nat_le (length x + length y) 64) (Some (x ++ y)) z e in
    let same : x ++ y ≡ z = some_is (x ++ y) z clear.gives in
    let fits : length x + length y ≤ 64 = leb-true (length x + length y) 64 clear.passed in
    let long : length z ≡ length x + length y = sym (ap length same) ∙ length-append x y in
    record { first = omega arith; second = omega arith; short = λ a b. omega arith }
is_joined joint.AtOnce x y z e =
    let long : length z ≡ max (length x) (length y) = at_once_length x y z e in
    record { first = omega arith; second = omega arith; short = λ a b. omega arith }

-- ---- some ways with some others

module _ {X Y : Type 0} (read : X → Option Y) where
  each_length : (xs : List X) (ys : List Y) → each read xs ≡ Some ys → length ys ≡ length xs
  each_length [] ys e = let same : [] ≡ ys = some_is [] ys e in omega (arith, ap length same)
  each_length (x ∷ xs) ys e =
      let first = led (λ y. option_map (λ zs. y ∷ zs) (each read xs)) (read x) ys e in
      let rest = mapped (λ zs. first.value ∷ zs) (each read xs) ys first.gives in
      let long : length rest.value ≡ length xs = each_length xs rest.value rest.was in
      omega (arith, long, ap length rest.gives)

  each_all : (P : X → Type 0) (Q : Y → Type 0) → ((x : X) (y : Y) → P x → read x ≡ Some y → Q y) → (xs : List X) (ys : List Y) → AllByRecursion P xs → each read xs ≡ Some ys → AllByRecursion Q ys
  each_all P Q step [] ys all e = let same : [] ≡ ys = some_is [] ys e in let F : List Y → Type 0 = AllByRecursion Q in subst F same tt
  each_all P Q step (x ∷ xs) ys all e =
      let first = led (λ y. option_map (λ zs. y ∷ zs) (each read xs)) (read x) ys e in
      let rest = mapped (λ zs. first.value ∷ zs) (each read xs) ys first.gives in
      let F : List Y → Type 0 = AllByRecursion Q in
      subst F rest.gives (step x first.value all.0 first.was, each_all P Q step xs rest.value all.1 rest.was)

pub all_append : {X : Type 0} (P : X → Type 0) (xs ys : List X) → AllByRecursion P xs → AllByRecursion P ys → AllByRecursion P (xs ++ ys)
all_append P [] ys all more = more
all_append P (x ∷ xs) ys all more = (all.0, all_append P xs ys all.1 more)

with_each_length : (how : Joint) (b : Ways) (x : Way) (ws : Ways) → with_each how b x ≡ Some ws → length ws ≡ length b
unfolding with_each
with_each_length how b x ws e = each_length (joined how x) b ws e

product_length : (how : Joint) (a b c : Ways) → product how a b ≡ Some c → length c ≡ length a * length b
product_length how [] b c e = let same : [] ≡ c = some_is [] c e in omega (arith, ap length same)
product_length how (x ∷ a) b c e =
    let first = led (λ ws. option_map (λ more. ws ++ more) (product how a b)) (with_each how b x) c e in
    let rest = mapped (λ more. first.value ++ more) (product how a b) c first.gives in
    let one : length first.value ≡ length b = with_each_length how b x first.value first.was in
    let many : length rest.value ≡ length a * length b = product_length how a b rest.value rest.was in
    let all : length c ≡ length first.value + length rest.value = sym (ap length rest.gives) ∙ length-append first.value rest.value in
    grind (arith, one, many, all)

-- what each way of the first and each way of the second give, all have
module _ (how : Joint) (P Q R : Way → Type 0) (step : (x y z : Way) → P x → Q y → joined how x y ≡ Some z → R z) where
  with_each_all : (b : Ways) (x : Way) (ws : Ways) → P x → AllByRecursion Q b → with_each how b x ≡ Some ws → AllByRecursion R ws
  unfolding with_each
  with_each_all b x ws p all e = each_all (joined how x) Q R (λ y z q is. step x y z p q is) b ws all e

  product_all : (a b c : Ways) → AllByRecursion P a → AllByRecursion Q b → product how a b ≡ Some c → AllByRecursion R c
  product_all [] b c all others e = let same : [] ≡ c = some_is [] c e in let F : Ways → Type 0 = AllByRecursion R in subst F same tt
  product_all (x ∷ a) b c all others e =
      let first = led (λ ws. option_map (λ more. ws ++ more) (product how a b)) (with_each how b x) c e in
      let rest = mapped (λ more. first.value ++ more) (product how a b) c first.gives in
      let F : Ways → Type 0 = AllByRecursion R in
      subst F rest.gives (all_append R first.value rest.value (with_each_all b x first.value all.0 others first.was) (product_all a b rest.value all.1 others rest.was))

  pub all_joined_all : (a b c : Ways) → AllByRecursion P a → AllByRecursion Q b → all_joined how a b ≡ Some c → AllByRecursion R c
  unfolding all_joined
  all_joined_all a b c all others e = product_all a b c all others (tested (nat_le (length a * length b) 64) (product how a b) c e).gives

pub all_joined_count : (how : Joint) (a b c : Ways) → all_joined how a b ≡ Some c → (length c ≡ length a * length b) × (length c ≤ 64)
unfolding all_joined
all_joined_count how a b c e =
    let fits = tested (nat_le (length a * length b) 64) (product how a b) c e in
    let count : length c ≡ length a * length b = product_length how a b c fits.gives in
    let few : length a * length b ≤ 64 = leb-true (length a * length b) 64 fits.passed in
    (count, subst (λ (n : ℕ). n ≤ 64) (sym count) few)
