-- What some passes make, one behind the other up to one, from what each made.
use Rattle.std.proofs.Common.{◌≡◌, ℕ, zero, suc, ◌+◌, ◌<◌, arith, true, false, List, [], ◌∷◌, length, drop, get_or, Ok, Err, refl, sym, ap, subst, ◌∙◌}
use Rattle.std.specs.Prelude.{if◌then◌else◌}
use Rattle.rtx_tree.specs.declared.function.Function.{Function}
use Rattle.run_refusal.specs.declared.refusal.Refusal.{Refusal}
use Rattle.pass_name.specs.declared.road.Road.{Road}
use Rattle.pass_name.specs.declared.road.Road.TheVariants.{Usual, Reusing, Scheduled}
use Rattle.pass_name.specs.Road.{passes_of}
use Rattle.md_forms.specs.declared.form.Entry.{Entry}
use Rattle.pass_name.specs.declared.pass.Pass.{Pass}
use Rattle.pass_name.specs.declared.pass.Pass.TheVariants.{Output}
use Rattle.func_input.specs.Input.{RefusesWith}
use Rattle.func_input.proofs.Firsts.{drop_at}
use Rattle.func_input.proofs.Refusing.{refuses_map}
use Rattle.func_after.specs.declared.compilation.Compilation.{Compilation}
use Rattle.func_after.specs.After.{Answer, PassComes, PassesCome, as_read, is_pass, up_to, IsBehind, AfterComes, Gives}

-- what the other passes make of what is made now is what all make of what there was first
pub record Makes (forms : List Entry) (passes : List Pass) (first now : Compilation) (others : List Pass) : Type 0 where
  pub makes : (answer : Answer) → PassesCome forms others now answer → PassesCome forms passes first answer

pub makes_start : (forms : List Entry) (passes : List Pass) (m : Compilation) → Makes forms passes m m passes
makes_start forms passes m = record { makes = λ answer comes. comes }

-- what stands at a place is there whatever else were given
same_there : (passes : List Pass) (i : ℕ) (a b : Pass) → i < length passes → get_or passes i a ≡ get_or passes i b
same_there [] i a b within = absurd (omega (arith, within))
same_there (p ∷ passes) zero a b within = refl
same_there (p ∷ passes) (suc i) a b within = same_there passes i a b (omega (arith, within))

-- ---- up to one

module _ (last : Pass) (passes : List Pass) (i : ℕ) (other : Pass) (within : i < length passes) where
  abbrev pass : Pass
  pass = get_or passes i other

  -- the one at a place, and those behind it where it isn't the last
  up_to_at : up_to last (drop i passes) ≡ pass ∷ (if is_pass pass last then [] else up_to last (drop (i + 1) passes))
  unfolding up_to
  up_to_at = ap (up_to last) (drop_at passes i pass within (same_there passes i other pass within))

  up_to_more : is_pass pass last ≡ false → up_to last (drop i passes) ≡ pass ∷ up_to last (drop (i + 1) passes)
  up_to_more isnt = up_to_at ∙ ap (λ b. pass ∷ (if b then [] else up_to last (drop (i + 1) passes))) isnt

  up_to_end : is_pass pass last ≡ true → up_to last (drop i passes) ≡ pass ∷ []
  up_to_end is = up_to_at ∙ ap (λ b. pass ∷ (if b then [] else up_to last (drop (i + 1) passes))) is

  module _ (forms : List Entry) (all : List Pass) (first now : Compilation) (so_far : Makes forms all first now (up_to last (drop i passes))) where
    -- one more pass
    pub makes_on : (next : Compilation) → PassComes forms now pass (Ok next) → is_pass pass last ≡ false →
        Makes forms all first next (up_to last (drop (i + 1) passes))
    makes_on next comes isnt = record {
      makes = λ answer more. so_far.makes answer
          (subst (λ others. PassesCome forms others now answer) (sym (up_to_more isnt))
          (PassesCome.goes_on pass (up_to last (drop (i + 1) passes)) now next answer comes more));
    }

    -- and the last one
    pub makes_last : (next : Compilation) → PassComes forms now pass (Ok next) → is_pass pass last ≡ true → PassesCome forms all first (Ok next)
    makes_last next comes is = so_far.makes (Ok next)
        (subst (λ others. PassesCome forms others now (Ok next)) (sym (up_to_end is))
        (PassesCome.goes_on pass [] now next (Ok next) comes (PassesCome.done next)))

    -- and one that refuses
    pub makes_wrong : (e : Refusal) → RefusesWith e (PassComes forms now pass) → RefusesWith e (PassesCome forms all first)
    makes_wrong e refuses = refuses_map e (PassComes forms now pass) (PassesCome forms all first)
        (λ e comes. so_far.makes (Err e) (subst (λ others. PassesCome forms others now (Err e)) (sym up_to_at)
        (PassesCome.refused pass (if is_pass pass last then [] else up_to last (drop (i + 1) passes)) now e comes))) refuses

up_to_none : (last : Pass) → up_to last [] ≡ []
unfolding up_to
up_to_none last = refl

-- and all
pub makes_all : (forms : List Entry) (all : List Pass) (last : Pass) (first now : Compilation) (others : List Pass) → others ≡ [] →
    Makes forms all first now (up_to last others) → PassesCome forms all first (Ok now)
makes_all forms all last first now others none so_far =
    so_far.makes (Ok now) (subst (λ others. PassesCome forms others now (Ok now)) (sym (ap (up_to last) none ∙ up_to_none last)) (PassesCome.done now))

-- ---- all of them

up_to_all : (road : Road) → up_to Output (passes_of road) ≡ passes_of road
unfolding up_to
up_to_all Usual = refl
up_to_all Reusing = refl
up_to_all Scheduled = refl

-- what is behind the last is what comes to output
pub behind_all : (forms : List Entry) (road : Road) (f : Function) (a : Answer) → Gives a (IsBehind forms road f Output) → Gives a (AfterComes forms road f)
behind_all forms road f a gives = subst (λ passes. Gives a (PassesCome forms passes (as_read f))) (up_to_all road) gives
