-- Where the function returns, so does the one whose registers have homes, with the same result.
use Rattle.std.proofs.Common.{◌≡◌, ℕ, true, Option, Some, None, refl, sym, ap, ◌∙◌, arith}
use Rattle.std.proofs.lemmas.Bool.{false≢true}
use Rattle.std.specs.Prelude.{is_some, option_and_then}
use Rattle.bits64.specs.declared.Width.{Width}
use Rattle.rtx_tree.specs.declared.code.Mode.{Mode}
use Rattle.rtl_step.specs.Regs.{reg_value}
use Rattle.rtl_step.specs.Step.{result_of, has_result}
use Rattle.rtl_step.specs.Value.{width_of}
use Rattle.rtl_step.specs.declared.step.State.{State}
use Rattle.live.specs.Live.{IsLive}
use Rattle.law_homes.specs.Stands.{content_in}
use Rattle.law_homes.proofs.HomesApart.{below_itself}
use Rattle.law_homes.proofs.Setting.{Setting, base, StandsIn}

module _ (c : Setting) (place : ℕ) (s u : State) (stands : StandsIn c place s u) (live : IsLive c.f 10 place) where
  -- a0 lives in itself
  result_known : (w : Width) (v : ℕ) → reg_value s.regs 10 w ≡ Some v → reg_value u.regs 10 w ≡ Some v
  result_known w v is =
      ap (λ home. content_in c.layout (base c) u.regs u.memory 10 home w) (sym (below_itself c.f c.homes c.are_homes 10 (omega arith)))
      ∙ stands.values 10 refl live w v is

  same_by : (width : Option Width) (v : ℕ) → option_and_then (reg_value s.regs 10) width ≡ Some v → option_and_then (reg_value u.regs 10) width ≡ Some v
  same_by None v is = absurd (let no : ⊥ = cc in no)
  same_by (Some w) v is = result_known w v is

  -- a result that there is, is the same
  pub result_same : (mode : Option Mode) → has_result mode s.regs ≡ true → (has_result mode u.regs ≡ true) × (result_of mode u.regs ≡ result_of mode s.regs)
  result_same None has = (refl, refl)
  result_same (Some mode) has = by (result_of (Some mode) s.regs) refl has
    where
      by : (o : Option ℕ) → result_of (Some mode) s.regs ≡ o → is_some o ≡ true →
          (has_result (Some mode) u.regs ≡ true) × (result_of (Some mode) u.regs ≡ result_of (Some mode) s.regs)
      by None is none = absurd (false≢true none)
      by (Some v) is some = let too = same_by (width_of mode) v is in (ap is_some too, too ∙ sym is)
