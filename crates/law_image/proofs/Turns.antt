-- What one word of a line, or a branch and a jump, lead to.
use Rattle.std.proofs.Common.{◌≡◌, ◌≢◌, ℕ, suc, pos, ◌+◌, ◌*◌, ◌^◌, ◌<◌, Bool, true, false, List, [], ◌∷◌, ◌++◌, length, Option, Some, None, refl, sym, ◌∙◌, ap, subst, arith, append_assoc, length-append}
use Rattle.std.specs.Prelude.{◌-ℤ◌, unwrap_or}
use Rattle.std.specs.List.{All}
use Rattle.std.proofs.lemmas.Int.{ints}
use Rattle.rtx_tree.specs.declared.machine.RangeAt.{RangeAt}
use Rattle.rtx_tree.specs.declared.machine.Reply.{Reply}
use Rattle.rtx_tree.specs.declared.machine.World.{World}
use Rattle.rv_text.specs.declared.line.Line.{Line}
use Rattle.rv_text.specs.declared.line.CodeItem.{CodeItem}
use Rattle.rv_text.specs.declared.line.CodeItem.TheVariants.{Label, Code}
use Rattle.rv_line.specs.Run as lines
use Rattle.rv_line.specs.Run.{Running, behind_label, call_of, after_call}
use Rattle.rv_line.specs.Step.{branch_end}
use Rattle.rv_line.specs.declared.outcome.CodeCall.{CodeCall}
use Rattle.rv_line.specs.declared.outcome.CodeOutcome.TheVariants as outcomes
use Rattle.rv_line.specs.declared.state.RvState.{RvState}
use Rattle.rv_line.specs.declared.state.LineEnd.{LineEnd}
use Rattle.rv_line.specs.declared.state.LineEnd.TheVariants.{Next, Jumped, Called, Returned, Stuck}
use Rattle.rv_word.specs.Word.{FitsBase}
use Rattle.rv_word.specs.Spelling.{base_of}
use Rattle.rv_word.specs.Step.{step_word, turned}
use Rattle.rv_word.specs.declared.base.Base.{Base}
use Rattle.rv_word.specs.declared.base.BaseOp.TheVariants as base
use Rattle.rv_unit.specs.Layout.{leads_to}
use Rattle.rv_unit.specs.Words.{Placed, bases_from, further, words_of}
use Rattle.words_run.specs.Run as words
use Rattle.words_run.specs.Run.{Fetching, moved_by}
use Rattle.law_image.specs.WordsDo.{IsWordReply}
use Rattle.law_image.proofs.Steps.{Does, one, then_does, turn_is, at_pc}
use Rattle.law_image.proofs.Keep.{Holds, reply_holds}
use Rattle.law_image.proofs.Standing.{word_place, stands, found_label}

-- where the words stand that a run of lines has come to
abbrev pub fetching : Placed → ℕ → ℕ → Running → Fetching
fetching unit from n s = record { pc = from + 4 * word_place unit n; machine = s.machine; replies = s.replies; calls = s.calls }

-- the words lead to where the lines have led
pub record Led (unit : Placed) (from : ℕ) (world : World) (ranges : List RangeAt) (t : Fetching) (s : Running) : Type 0 where
  pub front : List CodeItem
  pub split : unit.items ≡ front ++ s.rest
  pub holds : Holds s.machine
  pub replies : All IsWordReply s.replies
  pub does : Does (words_of unit) from world ranges t (words.Goes (fetching unit from (length front) s))

-- a turn of the lines is followed by the words, where it isn't stuck
abbrev pub Follows : Placed → ℕ → World → List RangeAt → Fetching → lines.Turn → Type 0
Follows unit from world ranges t (lines.Goes s) = Led unit from world ranges t s
Follows unit from world ranges t (lines.Ends outcome) = outcome ≢ outcomes.Stuck → Does (words_of unit) from world ranges t (words.Ends outcome)

moved_to : (from a b pc : ℕ) → pc ≡ from + a → from + a < 2 ^ 62 → from + b < 2 ^ 62 → moved_by pc (pos b -ℤ pos a) ≡ from + b
moved_to from a b pc is here fits = omega (arith, ints, is)

moved_less : (from a b pc : ℕ) → pc ≡ from + a + 4 → from + a < 2 ^ 62 → from + b < 2 ^ 62 → moved_by pc ((pos b -ℤ pos a) -ℤ pos 4) ≡ from + b
moved_less from a b pc is here fits = omega (arith, ints, is)

moved_eight : (pc : ℕ) → pc + 8 < 2 ^ 64 → moved_by pc (pos 8) ≡ pc + 8
moved_eight pc fits = omega (arith, ints)

no_words : (n : ℕ) → n + 0 ≡ n
no_words n = omega arith

reply_first : (reply : Reply) (replies : List Reply) → All IsWordReply (reply ∷ replies) → reply.value < 2 ^ 64
reply_first reply replies all = all 0 reply (omega arith)

reply_rest : (reply : Reply) (replies : List Reply) → All IsWordReply (reply ∷ replies) → All IsWordReply replies
reply_rest reply replies all = λ k d within. all (suc k) d (omega (arith, within))

module _ (unit : Placed) (from : ℕ) (world : World) (ranges : List RangeAt) (front rest : List CodeItem) (line : Line) (s : Running) where
  -- the number of the line, and where its words begin
  abbrev n : ℕ
  n = length front

  abbrev t : Fetching
  t = fetching unit from n s

  abbrev bases : List Base
  bases = bases_from unit 0 unit.items

  pub goes_next : unit.items ≡ front ++ Code line ∷ rest → All IsWordReply s.replies → (m : RvState) → Holds m → Does (words_of unit) from world ranges t (words.Goes (at_pc t (from + 4 * word_place unit (n + 1)) m)) → Led unit from world ranges t (record s { rest = rest; machine = m })
  goes_next split replies m holds does =
      let count : length (front ++ Code line ∷ []) ≡ n + 1 = length-append front (Code line ∷ []) in
      record {
        front = front ++ Code line ∷ [];
        split = split ∙ sym (append_assoc front (Code line ∷ []) rest);
        holds = holds;
        replies = replies;
        does = subst (λ k. Does (words_of unit) from world ranges t (words.Goes (at_pc t (from + 4 * word_place unit k) m))) (sym count) does;
      }

  jumps_to : All IsWordReply s.replies → (m : RvState) → Holds m → Does (words_of unit) from world ranges t (words.Goes (at_pc t (from + 4 * word_place unit (leads_to unit.items line.target)) m)) → Follows unit from world ranges t (lines.jumped (behind_label line.target unit.items) (record s { machine = m }))
  jumps_to replies m holds does = by (behind_label line.target unit.items) refl
    where
      by : (o : Option (List CodeItem)) → behind_label line.target unit.items ≡ o → Follows unit from world ranges t (lines.jumped o (record s { machine = m }))
      by None e = λ not_stuck. absurd (not_stuck refl)
      by (Some items) e =
          let found = found_label line.target unit.items items e in
          let label : CodeItem = Label found.function found.uid in
          let count : length (found.front ++ label ∷ []) ≡ length found.front + 1 = length-append found.front (label ∷ []) in
          let lead : leads_to unit.items line.target ≡ length found.front = ap (λ (o : Option ℕ). unwrap_or o 0) found.at in
          let at : word_place unit (leads_to unit.items line.target) ≡ word_place unit (length (found.front ++ label ∷ [])) =
          ap (word_place unit) lead ∙ (sym ((stands unit found.front items label found.split).next ∙ no_words (word_place unit (length found.front))) ∙ ap (word_place unit) (sym count)) in
          record {
            front = found.front ++ label ∷ [];
            split = found.split ∙ sym (append_assoc found.front (label ∷ []) items);
            holds = holds;
            replies = replies;
            does = subst (λ k. Does (words_of unit) from world ranges t (words.Goes (at_pc t (from + 4 * k) m))) at does;
          }

  -- a call, where the words' machine may differ in what a call doesn't show or leave
  pub calls : unit.items ≡ front ++ Code line ∷ rest → All IsWordReply s.replies → (m other : RvState) (target pc : ℕ) → Holds m → call_of ranges target other ≡ call_of ranges target m → ((reply : Reply) → after_call reply other ≡ after_call reply m) → pc + 4 ≡ from + 4 * word_place unit (n + 1) →
      Does (words_of unit) from world ranges t (words.called ranges target (at_pc t pc other)) → Follows unit from world ranges t (lines.called ranges target rest (record s { machine = m }))
  calls split replies m other target pc holds same_call same_after pc_is does = by s.replies replies does
    where
      all : CodeCall → List CodeCall
      all call = s.calls ++ call ∷ []

      by : (rs : List Reply) → All IsWordReply rs → Does (words_of unit) from world ranges t (words.replied rs (record (at_pc t pc other) { calls = all (call_of ranges target other) })) → Follows unit from world ranges t (lines.replied rs rest (record (record s { machine = m }) { calls = all (call_of ranges target m) }))
      by [] words_hold does = λ not_stuck. subst (λ call. Does (words_of unit) from world ranges t (words.Ends (outcomes.Asked (all call)))) same_call does
      by (reply ∷ rs) words_hold does =
          let count : length (front ++ Code line ∷ []) ≡ n + 1 = length-append front (Code line ∷ []) in
          let end : pc + 4 ≡ from + 4 * word_place unit (length (front ++ Code line ∷ [])) = pc_is ∙ ap (λ k. from + 4 * word_place unit k) (sym count) in
          let G : ℕ → RvState → CodeCall → words.Turn = λ p machine call. words.Goes (record { pc = p; machine = machine; replies = rs; calls = all call }) in
          let same : G (pc + 4) (after_call reply other) (call_of ranges target other) ≡ G (from + 4 * word_place unit (length (front ++ Code line ∷ []))) (after_call reply m) (call_of ranges target m) =
          ap (λ p. G p (after_call reply other) (call_of ranges target other)) end ∙ (ap (λ machine. G (from + 4 * word_place unit (length (front ++ Code line ∷ []))) machine (call_of ranges target other)) (same_after reply)
          ∙ ap (λ call. G (from + 4 * word_place unit (length (front ++ Code line ∷ []))) (after_call reply m) call) same_call) in
          record {
            front = front ++ Code line ∷ [];
            split = split ∙ sym (append_assoc front (Code line ∷ []) rest);
            holds = reply_holds m reply holds (reply_first reply rs words_hold);
            replies = reply_rest reply rs words_hold;
            does = subst (λ turn. Does (words_of unit) from world ranges t turn) same does;
          }

  -- the line has one word, which does what the line does
  pub one_word : unit.items ≡ front ++ Code line ∷ rest → All IsWordReply s.replies → from + 4 * word_place unit (leads_to unit.items line.target) < 2 ^ 62 → from + 4 * word_place unit (n + 1) < 2 ^ 62 → (b : Base) (before after : List Base) → bases ≡ before ++ b ∷ after → length before ≡ word_place unit n → word_place unit (n + 1) ≡ word_place unit n + 1 → FitsBase b →
      (done : LineEnd × RvState) → step_word world b s.machine ≡ done → Holds done.1 → (done.0 ≡ Jumped → b.imm ≡ further unit n line.target) → Follows unit from world ranges t (lines.after_line done.0 ranges unit.items line rest (record s { machine = done.1 }))
  one_word split replies fits_pc fits_next b before after cut size next fits done steps holds jump = by done.0 done.1 steps holds jump
    where
      place_is : t.pc ≡ from + 4 * length before
      place_is = ap (λ k. from + 4 * k) (sym size)

      then : t.pc + 4 ≡ from + 4 * word_place unit (n + 1)
      then = omega (arith, next)

      turns : (e : LineEnd) (m : RvState) → step_word world b s.machine ≡ (e, m) → words.turn (words_of unit) from world ranges t ≡ words.after_word e ranges b (record t { machine = m })
      turns e m is = turn_is bases from world ranges before after b t (e, m) cut place_is fits is

      by : (e : LineEnd) (m : RvState) → step_word world b s.machine ≡ (e, m) → Holds m → (e ≡ Jumped → b.imm ≡ further unit n line.target) → Follows unit from world ranges t (lines.after_line e ranges unit.items line rest (record s { machine = m }))
      by Next m is kept jumped = goes_next split replies m kept (one (words_of unit) from world ranges t (words.Goes (at_pc t (from + 4 * word_place unit (n + 1)) m)) (turns Next m is ∙ ap (λ pc. words.Goes (at_pc t pc m)) then))
      by Jumped m is kept jumped =
          let to = leads_to unit.items line.target in
          let lands : moved_by t.pc b.imm ≡ from + 4 * word_place unit to = ap (moved_by t.pc) (jumped refl) ∙ moved_to from (4 * word_place unit n) (4 * word_place unit to) t.pc refl (omega (arith, fits_next, next)) fits_pc in
          jumps_to replies m kept (one (words_of unit) from world ranges t (words.Goes (at_pc t (from + 4 * word_place unit to) m)) (turns Jumped m is ∙ ap (λ pc. words.Goes (at_pc t pc m)) lands))
      by (Called target) m is kept jumped = calls split replies m m target t.pc kept refl (λ reply. refl) then (one (words_of unit) from world ranges t (words.called ranges target (at_pc t t.pc m)) (turns (Called target) m is))
      by Returned m is kept jumped = λ not_stuck. one (words_of unit) from world ranges t (words.Ends (lines.returned ranges (record s { machine = m }))) (turns Returned m is)
      by Stuck m is kept jumped = λ not_stuck. absurd (not_stuck refl)

  -- a long branch: the opposite one over a jump
  pub long_branch : unit.items ≡ front ++ Code line ∷ rest → All IsWordReply s.replies → from + 4 * word_place unit (leads_to unit.items line.target) < 2 ^ 62 → from + 4 * word_place unit (n + 1) < 2 ^ 62 → (b : Base) (before after : List Base) →
      bases ≡ before ++ b ∷ (base_of base.Jal 0 0 0 (further unit n line.target -ℤ pos 4) ∷ after) → length before ≡ word_place unit n → word_place unit (n + 1) ≡ word_place unit n + 2 → FitsBase b → FitsBase (base_of base.Jal 0 0 0 (further unit n line.target -ℤ pos 4)) → b.imm ≡ pos 8 →
      (o : Option Bool) → step_word world b s.machine ≡ (turned (branch_end o), s.machine) → Holds s.machine → Follows unit from world ranges t (lines.after_line (branch_end o) ranges unit.items line rest (record s { machine = s.machine }))
  long_branch split replies fits_pc fits_next b before after cut size next fits fits_jump eight o steps holds = by o steps
    where
      jal : Base
      jal = base_of base.Jal 0 0 0 (further unit n line.target -ℤ pos 4)

      place_is : t.pc ≡ from + 4 * length before
      place_is = ap (λ k. from + 4 * k) (sym size)

      turns : (e : LineEnd) → step_word world b s.machine ≡ (e, s.machine) → words.turn (words_of unit) from world ranges t ≡ words.after_word e ranges b t
      turns e is = turn_is bases from world ranges before (jal ∷ after) b t (e, s.machine) cut place_is fits is

      by : (o : Option Bool) → step_word world b s.machine ≡ (turned (branch_end o), s.machine) → Follows unit from world ranges t (lines.after_line (branch_end o) ranges unit.items line rest (record s { machine = s.machine }))
      by None is = λ not_stuck. absurd (not_stuck refl)
      by (Some false) is =
          let then : t.pc + 8 ≡ from + 4 * word_place unit (n + 1) = omega (arith, next) in
          let lands : moved_by t.pc b.imm ≡ from + 4 * word_place unit (n + 1) = ap (moved_by t.pc) eight ∙ (moved_eight t.pc (omega (arith, then, fits_next)) ∙ then) in
          goes_next split replies s.machine holds (one (words_of unit) from world ranges t (words.Goes (at_pc t (from + 4 * word_place unit (n + 1)) s.machine)) (turns Jumped is ∙ ap (λ pc. words.Goes (at_pc t pc s.machine)) lands))
      by (Some true) is =
          let to = leads_to unit.items line.target in
          let u : Fetching = at_pc t (t.pc + 4) s.machine in
          let longer : length (before ++ b ∷ []) ≡ length before + 1 = length-append before (b ∷ []) in
          let second : u.pc ≡ from + 4 * length (before ++ b ∷ []) = omega (arith, longer, size) in
          let cut_more : bases ≡ (before ++ b ∷ []) ++ jal ∷ after = cut ∙ sym (append_assoc before (b ∷ []) (jal ∷ after)) in
          let leaps : words.turn (words_of unit) from world ranges u ≡ words.Goes (at_pc u (moved_by u.pc jal.imm) s.machine) =
          turn_is bases from world ranges (before ++ b ∷ []) after jal u (Jumped, s.machine) cut_more second fits_jump refl in
          let lands : moved_by u.pc jal.imm ≡ from + 4 * word_place unit to = moved_less from (4 * word_place unit n) (4 * word_place unit to) u.pc refl (omega (arith, fits_next, next)) fits_pc in
          let T : words.Turn = words.Goes (at_pc t (from + 4 * word_place unit to) s.machine) in
          jumps_to replies s.machine holds (then_does (words_of unit) from world ranges t u T (turns Next is) (one (words_of unit) from world ranges u T (leaps ∙ ap (λ pc. words.Goes (at_pc t pc s.machine)) lands)))
