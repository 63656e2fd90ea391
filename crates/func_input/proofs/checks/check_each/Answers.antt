use Rattle.std.proofs.Common.{◌≡◌, ℕ, Bool, true, false, ◌+◌, ◌++◌, ◌∷◌, [], ◌||◌, List, drop, take, length, get_or, refl, sym, ap, subst, ◌∙◌, arith}
use Rattle.std.specs.Prelude.{Some, slice_get}
use Rattle.std.specs.List.{list_any}
use Rattle.std.specs.Str.{bytes_eq}
use Rattle.std.proofs.lemmas.List.{drop_all, take_more}
use Rattle.std.proofs.lemmas.List.Folds.{list_any-append}
use Rattle.std.proofs.lemmas.Option.{slice_get_read}
use Rattle.std.proofs.lemmas.Result.{err_from_is_err_and}
use Rattle.rtx_tree.specs.declared.function.Function.{Function}
use Rattle.rtl_func.specs.Rules.{has_name}
use Rattle.func_input.specs.Refused.{refused_from, first_refused}
use Rattle.func_input.specs.machine.Steps.{TellsOf}
use Rattle.func_input.specs.Input.{RefusesWith}
use Rattle.func_input.proofs.Firsts.{drop_at, refused_here, checked_on, checked_here}
use Rattle.func_input.proofs.checks.check_each.Goals as goal

pub returns-in_err-check_function : goal.returns-in_err-check_function
returns-in_err-check_function c =
    let p = err_from_is_err_and c.from_residual.result c.from_residual.ensures.1 in
    let functions = c.args.functions.now in
    let index = c.loop-f.f-index in
    let f = c.f-item.result in
    let e = c.in_err-check_function.field-0.0 in
    let at : slice_get functions index ≡ Some f = slice_get_read functions _ index f refl (omega arith) c.f-item.is in
    let told = subst (λ o. RefusesWith e (TellsOf o)) (sym (refused_here functions index f at)) (c.in_err-check_function.ensures (take index functions) c.loop-f.invariant.names) in
    rw (p.1, p.2)
    (checked_here functions index f (drop (index + 1) functions) e told
    (subst (λ fs. refused_from functions index fs ≡ first_refused functions) (drop_at functions index f (omega arith) c.f-item.is) c.loop-f.invariant.so_far))

pub loop-f-preserved : goal.loop-f-preserved
loop-f-preserved c =
    let functions = c.args.functions.now in
    let index = c.loop-f.f-index in
    let f = c.f-item.result in
    let at : slice_get functions index ≡ Some f = slice_get_read functions _ index f refl (omega arith) c.f-item.is in
    let more : take (index + 1) functions ≡ take index functions ++ f ∷ [] = take_more functions index f (omega arith) ∙ ap (λ (g : Function). take index functions ++ g ∷ []) (sym c.f-item.is) in
    record {
      names = λ name.
          c.in_ok-put.ensures name
          ∙ (ap (λ b. b || bytes_eq f.name name) (c.loop-f.invariant.names name)
          ∙ (none_more (list_any (has_name name) (take index functions)) (bytes_eq f.name name)
          ∙ sym (ap (list_any (has_name name)) more ∙ list_any-append (has_name name) (take index functions) (f ∷ []))));
      so_far = checked_on functions index f (drop (index + 1) functions) (refused_here functions index f at ∙ c.in_ok-check_function.ensures (take index functions) c.loop-f.invariant.names)
          (subst (λ fs. refused_from functions index fs ≡ first_refused functions) (drop_at functions index f (omega arith) c.f-item.is) c.loop-f.invariant.so_far);
    }
  where
    none_more : (a b : Bool) → (a || b) ≡ (a || (b || false))
    none_more true b = refl
    none_more false true = refl
    none_more false false = refl
