-- What the tables of a description tell of the forms that have windows.
use Rattle.std.proofs.Common.{◌≡◌, ◌↔◌, ℕ, Bool, List, Option, Some, Result, subst}
use Rattle.std.specs.Prelude.{IfOk}
use Rattle.rtx_tree.specs.declared.code.Mode.{Mode}
use Rattle.rtx_tree.specs.declared.tree.Rtx.{Rtx}
use Rattle.c_eval.specs.declared.facts.Facts.{Facts}
use Rattle.md_forms.specs.declared.form.Entry.{Entry}
use Rattle.md_desc.specs.md_pred.Holds.{holds}
use Rattle.md_recog.specs.declared.half.Half.TheVariants as half
use Rattle.md_recog.specs.Recog.{MatchesHere}
use Rattle.md_recog.specs.declared.recog.FormMatch.{FormMatch}

pub here_as : {E : Type 0} (es fs gs : List Entry) (accepts : List ℕ → Rtx → Mode → Bool) (facts : Facts) (xs ys : List Rtx) (form : ℕ) (r : Result (Option FormMatch) E) →
    gs ≡ fs → fs ≡ es → accepts ≡ holds es → xs ≡ ys →
    IfOk r (λ r. (m : FormMatch) → (r ≡ Some m) ↔ MatchesHere accepts facts half.Window xs gs form m) →
    IfOk r (λ r. (m : FormMatch) → (r ≡ Some m) ↔ MatchesHere (holds es) facts half.Window ys es form m)
here_as es fs gs accepts facts xs ys form r looked same are listed h =
    let one = subst (λ (zs : List Rtx). IfOk r (λ r. (m : FormMatch) → (r ≡ Some m) ↔ MatchesHere accepts facts half.Window zs gs form m)) listed h in
    let two = subst (λ (hs : List Entry). IfOk r (λ r. (m : FormMatch) → (r ≡ Some m) ↔ MatchesHere accepts facts half.Window ys hs form m)) looked one in
    let three = subst (λ (hs : List Entry). IfOk r (λ r. (m : FormMatch) → (r ≡ Some m) ↔ MatchesHere accepts facts half.Window ys hs form m)) same two in
    subst (λ a. IfOk r (λ r. (m : FormMatch) → (r ≡ Some m) ↔ MatchesHere a facts half.Window ys es form m)) are three
