-- The same calls: each is the same as itself, and what is the same as a third is the same.
use Rattle.std.proofs.Common.{◌≡◌, ℕ, zero, suc, arith, length, List, [], ◌∷◌, ◌++◌, Option, Some, refl, sym, ap, subst, ◌∙◌}
use Rattle.std.specs.Prelude.{slice_get}
use Rattle.rtl_step.specs.declared.call.ArgValue.{ArgValue}
use Rattle.rtl_step.specs.declared.call.CallEvent.{CallEvent}
use Rattle.law_function_kept.specs.Outcomes.{HasEach, SameEvent, SameEvents, KeptToo}

-- ---- one call

same_arguments : (args others : List ArgValue) → args ≡ others → HasEach args others
same_arguments args others is i arg at = (i, ap (λ xs. slice_get xs i) (sym is) ∙ at)

-- a call is the same as itself
pub event_refl : (event : CallEvent) → SameEvent event event
event_refl event = record {
  target_is = refl;
  passes = same_arguments event.args event.args refl;
  no_more = same_arguments event.args event.args refl;
  memory_is = refl;
}

each_trans : (a b c : List ArgValue) → HasEach a b → HasEach b c → HasEach a c
each_trans a b c first second i arg at = let there = first i arg at in second there.0 arg there.1

pub event_trans : (a b c : CallEvent) → SameEvent a b → SameEvent b c → SameEvent a c
event_trans a b c first second = record {
  target_is = second.target_is ∙ first.target_is;
  passes = each_trans a.args b.args c.args first.passes second.passes;
  no_more = each_trans c.args b.args a.args second.no_more first.no_more;
  memory_is = second.memory_is ∙ first.memory_is;
}

-- ---- all calls

-- a list that is as long has something at a place, too
pub beside : {X Y : Type 0} (xs : List X) (ys : List Y) (i : ℕ) (x : X) → length ys ≡ length xs → slice_get xs i ≡ Some x →
    (y : Y) × (slice_get ys i ≡ Some y)
beside [] ys i x long at = absurd (let no : ⊥ = cc in no)
beside (x ∷ xs) [] i x' long at = absurd (omega (arith, long))
beside (x ∷ xs) (y ∷ ys) zero x' long at = (y, refl)
beside (x ∷ xs) (y ∷ ys) (suc i) x' long at = beside xs ys i x' (omega (arith, long)) at

at_one : {X : Type 0} (xs : List X) (i : ℕ) (x y : X) → slice_get xs i ≡ Some x → slice_get xs i ≡ Some y → x ≡ y
at_one xs i x y at at' = let same : Some x ≡ Some y = sym at ∙ at' in cc

pub events_refl : (events : List CallEvent) → SameEvents events events
events_refl events = record {
  long = refl;
  each = λ i event other at at'. subst (λ e. SameEvent event e) (at_one events i event other at at') (event_refl event);
}

pub events_trans : (a b c : List CallEvent) → SameEvents a b → SameEvents b c → SameEvents a c
events_trans a b c first second = record {
  long = second.long ∙ first.long;
  each = λ i event other at at'. let middle = beside a b i event first.long at in
      event_trans event middle.0 other (first.each i event middle.0 at middle.1) (second.each i middle.0 other middle.1 at');
}

-- ---- one call more

alone : (event other : CallEvent) → SameEvent event other → (i : ℕ) (e o : CallEvent) → slice_get (event ∷ []) i ≡ Some e →
    slice_get (other ∷ []) i ≡ Some o → SameEvent e o
alone event other same zero e o at at' = let this : event ≡ e = cc in let that : other ≡ o = cc in
    subst (λ e. SameEvent e o) this (subst (λ o. SameEvent event o) that same)
alone event other same (suc i) e o at at' = absurd (let no : ⊥ = cc in no)

abbrev EachSame : List CallEvent → List CallEvent → Type 0
EachSame events others =
    (i : ℕ) (e o : CallEvent) → slice_get events i ≡ Some e → slice_get others i ≡ Some o → SameEvent e o

each_more : (events others : List CallEvent) (event other : CallEvent) → length others ≡ length events → EachSame events others →
    SameEvent event other → EachSame (events ++ event ∷ []) (others ++ other ∷ [])
each_more [] [] event other long each one = alone event other one
each_more [] (o ∷ others) event other long each one = absurd (omega (arith, long))
each_more (e ∷ events) [] event other long each one = absurd (omega (arith, long))
each_more (e ∷ events) (o ∷ others) event other long each one =
    by_place (each_more events others event other (omega (arith, long)) (λ j. each (suc j)) one)
  where
    by_place : EachSame (events ++ event ∷ []) (others ++ other ∷ []) → EachSame (e ∷ (events ++ event ∷ [])) (o ∷ (others ++ other ∷ []))
    by_place later zero e' o' at at' = each zero e' o' at at'
    by_place later (suc i) e' o' at at' = later i e' o' at at'

pub length_more : {X : Type 0} (xs : List X) (x : X) → length (xs ++ x ∷ []) ≡ suc (length xs)
length_more [] x = refl
length_more (y ∷ ys) x = let rest = length_more ys x in omega (arith, rest)

-- one call more on each side
pub events_more : (events others : List CallEvent) (event other : CallEvent) → SameEvents events others → SameEvent event other →
    SameEvents (events ++ event ∷ []) (others ++ other ∷ [])
events_more events others event other same one = record {
  long = let a = length_more events event in let b = length_more others other in let long = same.long in omega (arith, a, b, long);
  each = each_more events others event other same.long same.each one;
}

-- ---- what is preserved

pub kept_trans : (a b c : List (Option ℕ)) → KeptToo a b → KeptToo b c → KeptToo a c
kept_trans a b c first second i number at = second i number (first i number at)
