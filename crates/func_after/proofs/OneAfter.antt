-- What passes make of a function is one answer.
use Rattle.std.proofs.Common.{◌≡◌, ℕ, arith, List, Ok, Err, refl, sym, ap, subst, ◌∙◌}
use Rattle.rtx_tree.specs.declared.function.Function.{Function}
use Rattle.rtx_tree.specs.declared.limit.Limit.TheVariants.{Instructions}
use Rattle.run_refusal.specs.declared.refusal.Refusal.TheVariants as refusal
use Rattle.md_forms.specs.declared.form.Entry.{Entry}
use Rattle.md_dfa.specs.Pipeline.{pipeline_in}
use Rattle.pass_name.specs.declared.pass.Pass.{Pass}
use Rattle.pass_name.specs.declared.road.Road.{Road}
use Rattle.pass_name.specs.Road.{passes_of}
use Rattle.pass_name.specs.declared.pass.Pass.TheVariants.{Split1, Frame, Split2}
use Rattle.lower.proofs.OneLower.{lower_one}
use Rattle.reuse.proofs.One.{reused_one}
use Rattle.combine.proofs.One.{combined_one}
use Rattle.split.proofs.One.{one_split}
use Rattle.peep2.proofs.One.{cover_one}
use Rattle.schedule.proofs.OneLaws.{scheduled_one}
use Rattle.assign.specs.Frame.{layout_of}
use Rattle.assign.specs.declared.home.HomeOf.{HomeOf}
use Rattle.assign.proofs.OneLaws.{only}
use Rattle.reload.specs.Reload.{FunctionReloads}
use Rattle.reload.proofs.One.{reload_one}
use Rattle.frame.proofs.One.{frame_one}
use Rattle.func_after.specs.declared.compilation.Compilation.{Compilation}
use Rattle.func_after.specs.After.{Answer, Changed, plainly, told_for, told_reloaded, as_read, up_to, count_of, ChangeComes, PassMakes, PassComes, PassesCome, IsBehind, AfterComes}
use Rattle.func_after.proofs.Changes.{ok_is, apart, no_reload, no_frame}

abbrev combining : ℕ → Function → Changed
combining n g = Ok (record { function = g; combined = n })

same_combining : (n k : ℕ) (g h : Function) → n ≡ k → g ≡ h → combining n g ≡ combining k h
same_combining n k g h count function = λ i. combining (count i) (function i)

module _ (forms : List Entry) where
  -- a line a pass
  change_one : (f : Function) (pass : Pass) (a b : Changed) → ChangeComes forms f pass a → ChangeComes forms f pass b → a ≡ b
  change_one f _ _ _ ChangeComes.reads ChangeComes.reads = refl
  change_one f _ _ _ (ChangeComes.lowers r does) (ChangeComes.lowers s does') = ap plainly (lower_one forms f r s does does')
  change_one f _ _ _ (ChangeComes.reuses n g does) (ChangeComes.reuses k h does') = ap (λ (g : Function). plainly (Ok g)) (reused_one forms n k f g h does does').1
  change_one f _ _ _ (ChangeComes.combines n g does) (ChangeComes.combines k h does') =
      let same = combined_one forms n k f g h does does' in same_combining n k g h same.0 same.1
  change_one f _ _ _ (ChangeComes.splits_first r does) (ChangeComes.splits_first s does') = ap plainly (one_split forms Split1 f r s does does')
  change_one f _ _ _ (ChangeComes.splits_again r does) (ChangeComes.splits_again s does') = ap plainly (one_split forms Split2 f r s does does')
  change_one f _ _ _ (ChangeComes.covers r does) (ChangeComes.covers s does') = ap plainly (cover_one forms f r s does does')
  change_one f _ _ _ (ChangeComes.schedules a g does) (ChangeComes.schedules b h does') =
      ap (λ (g : Function). plainly (Ok g)) (scheduled_one forms (pipeline_in forms) f g h a b does does').1
  change_one f _ _ _ ChangeComes.writes ChangeComes.writes = refl

  makes_one : (m : Compilation) (pass : Pass) (a b : Answer) → PassMakes forms m pass a → PassMakes forms m pass b → a ≡ b
  makes_one m _ _ _ (PassMakes.changes pass c a comes is) (PassMakes.changes _ d b comes' is') =
      is ∙ ap (told_for m.function.name m.combined m.layout pass) (change_one m.function pass c d comes comes') ∙ sym is'
  makes_one m _ _ _ (PassMakes.changes _ c a comes is) (PassMakes.reloads homes s b are does is') = no_reload forms m.function c comes
  makes_one m _ _ _ (PassMakes.changes _ c a comes is) (PassMakes.frames s b does is') = no_frame forms m.function c comes
  makes_one m _ _ _ (PassMakes.reloads homes r a are does is) (PassMakes.changes _ d b comes is') = no_reload forms m.function d comes
  makes_one m _ _ _ (PassMakes.reloads homes r a are does is) (PassMakes.reloads homes' s b are' does' is') =
      let same : homes ≡ homes' = only m.function homes homes' are are' in
      is
      ∙ ap (told_reloaded m.function.name m.combined (layout_of m.function homes))
      (reload_one forms homes (layout_of m.function homes) m.function r s does
      (subst (λ (h : List HomeOf). FunctionReloads forms h (layout_of m.function h) m.function s) (sym same) does'))
      ∙ ap (λ (h : List HomeOf). told_reloaded m.function.name m.combined (layout_of m.function h) s) same
      ∙ sym is'
  makes_one m _ _ _ (PassMakes.frames r a does is) (PassMakes.changes _ d b comes is') = no_frame forms m.function d comes
  makes_one m _ _ _ (PassMakes.frames r a does is) (PassMakes.frames s b does' is') =
      is ∙ ap (λ r. told_for m.function.name m.combined m.layout Frame (plainly r)) (frame_one forms m.function m.layout r s does does') ∙ sym is'

  -- what it makes is refused for what it refuses, or for its length, or is given
  pass_one : (m : Compilation) (pass : Pass) (a b : Answer) → PassComes forms m pass a → PassComes forms m pass b → a ≡ b
  pass_one m pass _ _ (PassComes.refused e makes) (PassComes.refused d makes') = makes_one m pass (Err e) (Err d) makes makes'
  pass_one m pass _ _ (PassComes.refused e makes) (PassComes.long n makes' many) = apart n e (makes_one m pass (Err e) (Ok n) makes makes')
  pass_one m pass _ _ (PassComes.refused e makes) (PassComes.made n makes' short) = apart n e (makes_one m pass (Err e) (Ok n) makes makes')
  pass_one m pass _ _ (PassComes.long n makes many) (PassComes.refused e makes') = apart n e (makes_one m pass (Err e) (Ok n) makes' makes)
  pass_one m pass _ _ (PassComes.long n makes many) (PassComes.long o makes' many') =
      ap (λ (n : Compilation). Err (refusal.Limit Instructions (count_of n))) (ok_is n o (makes_one m pass (Ok n) (Ok o) makes makes'))
  pass_one m pass _ _ (PassComes.long n makes many) (PassComes.made o makes' short) =
      let same : n ≡ o = ok_is n o (makes_one m pass (Ok n) (Ok o) makes makes') in
      absurd (omega (arith, ap count_of same, many, short))
  pass_one m pass _ _ (PassComes.made n makes short) (PassComes.refused e makes') = apart n e (makes_one m pass (Err e) (Ok n) makes' makes)
  pass_one m pass _ _ (PassComes.made n makes short) (PassComes.long o makes' many) =
      let same : n ≡ o = ok_is n o (makes_one m pass (Ok n) (Ok o) makes makes') in
      absurd (omega (arith, ap count_of same, short, many))
  pass_one m pass _ _ (PassComes.made n makes short) (PassComes.made o makes' short') = makes_one m pass (Ok n) (Ok o) makes makes'

  passes_one : (passes : List Pass) (m : Compilation) (a b : Answer) → PassesCome forms passes m a → PassesCome forms passes m b → a ≡ b
  passes_one _ _ _ _ (PassesCome.done m) (PassesCome.done _) = refl
  passes_one _ _ _ _ (PassesCome.refused pass others m e comes) (PassesCome.refused _ _ _ d comes') = pass_one m pass (Err e) (Err d) comes comes'
  passes_one _ _ _ _ (PassesCome.refused pass others m e comes) (PassesCome.goes_on _ _ _ next b comes' rest) =
      apart next e (pass_one m pass (Err e) (Ok next) comes comes')
  passes_one _ _ _ _ (PassesCome.goes_on pass others m next a comes rest) (PassesCome.refused _ _ _ e comes') =
      apart next e (pass_one m pass (Err e) (Ok next) comes' comes)
  passes_one _ _ _ _ (PassesCome.goes_on pass others m next a comes rest) (PassesCome.goes_on _ _ _ next' b comes' rest') =
      let same : next ≡ next' = ok_is next next' (pass_one m pass (Ok next) (Ok next') comes comes') in
      passes_one others next' a b (subst (λ (n : Compilation). PassesCome forms others n a) same rest) rest'

-- what a function is behind a pass
pub one_behind : (forms : List Entry) (road : Road) (f : Function) (pass : Pass) (a b : Answer) → IsBehind forms road f pass a → IsBehind forms road f pass b → a ≡ b
one_behind forms road f pass a b m n = passes_one forms (up_to pass (passes_of road)) (as_read f) a b m n

-- and when it comes to output
pub one_after : (forms : List Entry) (road : Road) (f : Function) (a b : Answer) → AfterComes forms road f a → AfterComes forms road f b → a ≡ b
one_after forms road f a b m n = passes_one forms (passes_of road) (as_read f) a b m n
