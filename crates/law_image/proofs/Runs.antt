-- So many lines, and their words.
use Rattle.std.proofs.Common.{◌≡◌, ◌≢◌, ℕ, zero, suc, ◌+◌, ◌*◌, ◌≤◌, List, [], ◌∷◌, ◌++◌, length, refl, sym, ◌∙◌, ap, subst, arith, append_assoc, length-append}
use Rattle.std.specs.List.{All}
use Rattle.rtx_tree.specs.declared.machine.RangeAt.{RangeAt}
use Rattle.rtx_tree.specs.declared.machine.World.{World}
use Rattle.rv_text.specs.declared.line.CodeItem.{CodeItem}
use Rattle.rv_text.specs.declared.line.CodeItem.TheVariants.{Label, Code}
use Rattle.rv_line.specs.Run as lines
use Rattle.rv_line.specs.Run.{Running, next_line}
use Rattle.rv_line.specs.declared.outcome.CodeOutcome.{CodeOutcome}
use Rattle.rv_line.specs.declared.outcome.CodeOutcome.TheVariants as outcomes
use Rattle.rv_unit.specs.Words.{Placed, words_of}
use Rattle.words_run.specs.Run as words
use Rattle.words_run.specs.Run.{Fetching}
use Rattle.law_image.specs.WordsDo.{IsWordReply}
use Rattle.law_image.proofs.Keep.{Holds}
use Rattle.law_image.proofs.Standing.{word_place, stands}
use Rattle.law_image.proofs.Acts.{Sound}
use Rattle.law_image.proofs.Turns.{Follows, fetching}
use Rattle.law_image.proofs.Lines.{line_follows}

-- the words from a place on come to an outcome, in at least so many steps
pub record Reached (unit : Placed) (from : ℕ) (world : World) (ranges : List RangeAt) (t : Fetching) (least : ℕ) (outcome : CodeOutcome) : Type 0 where
  pub steps : ℕ
  pub enough : least ≤ steps
  pub is : words.run_from (words_of unit) from world ranges steps t ≡ outcome

module _ (unit : Placed) (from : ℕ) (world : World) (ranges : List RangeAt) (sound : Sound unit from world) where
  -- labels are passed over
  turn_follows : (rest : List CodeItem) (front : List CodeItem) (s : Running) → unit.items ≡ front ++ rest → Holds s.machine → All IsWordReply s.replies → Follows unit from world ranges (fetching unit from (length front) s) (lines.turn_at (next_line rest) world ranges unit.items s)
  turn_follows [] front s split holds replies = λ not_stuck. absurd (not_stuck refl)
  turn_follows (Code line ∷ rest) front s split holds replies = line_follows unit from world ranges sound front rest line split s holds replies
  turn_follows (Label function uid ∷ rest) front s split holds replies =
      let label : CodeItem = Label function uid in
      let count : length (front ++ label ∷ []) ≡ length front + 1 = length-append front (label ∷ []) in
      let none : word_place unit (length front) + 0 ≡ word_place unit (length front) = omega arith in
      let same : word_place unit (length (front ++ label ∷ [])) ≡ word_place unit (length front) = ap (word_place unit) count ∙ ((stands unit front rest label split).next ∙ none) in
      subst (λ k. Follows unit from world ranges (record { pc = from + 4 * k; machine = s.machine; replies = s.replies; calls = s.calls }) (lines.turn_at (next_line rest) world ranges unit.items s)) same
      (turn_follows rest (front ++ label ∷ []) s (split ∙ sym (append_assoc front (label ∷ []) rest)) holds replies)

  pub run_follows : (k : ℕ) (s : Running) (front : List CodeItem) → unit.items ≡ front ++ s.rest → Holds s.machine → All IsWordReply s.replies → lines.run_from world ranges unit.items k s ≢ outcomes.Stuck → Reached unit from world ranges (fetching unit from (length front) s) k (lines.run_from world ranges unit.items k s)
  run_follows zero s front split holds replies not_stuck = record { steps = 0; enough = omega arith; is = refl }
  run_follows (suc k) s front split holds replies not_stuck = by (lines.turn world ranges unit.items s) (turn_follows s.rest front s split holds replies) not_stuck (λ u f sp h r ns. run_follows k u f sp h r ns)
    where
      t : Fetching
      t = fetching unit from (length front) s

      by : (turned : lines.Turn) → Follows unit from world ranges (fetching unit from (length front) s) turned → lines.go_on turned (lines.run_from world ranges unit.items k) ≢ outcomes.Stuck →
          ((u : Running) (f : List CodeItem) → unit.items ≡ f ++ u.rest → Holds u.machine → All IsWordReply u.replies → lines.run_from world ranges unit.items k u ≢ outcomes.Stuck → Reached unit from world ranges (fetching unit from (length f) u) k (lines.run_from world ranges unit.items k u)) →
          Reached unit from world ranges (fetching unit from (length front) s) (suc k) (lines.go_on turned (lines.run_from world ranges unit.items k))
      by (lines.Goes u) led moves left =
          let later = left u led.front led.split led.holds led.replies moves in
          record {
            steps = led.does.count + later.steps;
            enough = omega (arith, led.does.some, later.enough);
            is = led.does.is later.steps (led.does.count + later.steps) refl ∙ later.is;
          }
      by (lines.Ends outcome) does ends left =
          let done = does ends in
          record { steps = done.count + k; enough = omega (arith, done.some); is = done.is k (done.count + k) refl }
