-- The answers of the nodes of a row, and of rows that begin alike.
use Rattle.std.proofs.Common.{◌≡◌, ℕ, ◌+◌, ◌<◌, ◌≤◌, Bool, false, List, [], ◌∷◌, ◌++◌, length, take, drop, get_or, refl, sym, ap, ◌∙◌, arith}
use Rattle.std.proofs.Math.ListN.{get_or-append}
use Rattle.std.proofs.Math.Seq.{get_or-append_seam}
use Rattle.std.proofs.lemmas.List.{take-append-drop, length-append, length-take-le, get_or_past, at_drop_more}
use Rattle.rtx_tree.specs.declared.code.Mode.{Mode}
use Rattle.rtx_tree.specs.declared.tree.Rtx.{Rtx}
use Rattle.pred_rows.specs.declared.node.Node.{Node}
use Rattle.pred_rows.specs.Tests.{Accepts}
use Rattle.pred_rows.specs.machine.Rows.{answer_at, node_answer, answers_behind, answers, holds_at}

module _ (accepts : Accepts) (x : Rtx) (m : Mode) where
  behind_both : (before : List Bool) (ns ms : List Node) → answers_behind accepts x m before (ns ++ ms) ≡ answers_behind accepts x m (answers_behind accepts x m before ns) ms
  behind_both before [] ms = refl
  behind_both before (n ∷ ns) ms = behind_both (before ++ node_answer accepts x m before n ∷ []) ns ms

  count_behind : (before : List Bool) (ns : List Node) → length (answers_behind accepts x m before ns) ≡ length before + length ns
  count_behind before [] = omega arith
  count_behind before (n ∷ ns) =
      let more : List Bool = before ++ node_answer accepts x m before n ∷ [] in
      let one : length more ≡ length before + 1 = length-append before (node_answer accepts x m before n ∷ []) in
      let rest : length (answers_behind accepts x m more ns) ≡ length more + length ns = count_behind more ns in
      omega arith

  -- the answers before stay
  answer_before : (before : List Bool) (ns : List Node) (place : ℕ) → place < length before → answer_at (answers_behind accepts x m before ns) place ≡ answer_at before place
  answer_before before [] place within = refl
  answer_before before (n ∷ ns) place within =
      let more : List Bool = before ++ node_answer accepts x m before n ∷ [] in
      let one : length more ≡ length before + 1 = length-append before (node_answer accepts x m before n ∷ []) in
      answer_before more ns place (omega arith) ∙ get_or-append before (node_answer accepts x m before n ∷ []) false place within

  count : (nodes : List Node) → length (answers accepts x m nodes) ≡ length nodes
  count nodes =
      let all : length (answers accepts x m nodes) ≡ length {A = Bool} [] + length nodes = count_behind [] nodes in
      omega (arith, all)

  -- a row that begins with another has its answers
  pub holds_in_front : (front more : List Node) (place : ℕ) → place < length front → holds_at accepts x m (front ++ more) place ≡ holds_at accepts x m front place
  holds_in_front front more place within =
      let inside : place < length (answers accepts x m front) = omega (arith, count front) in
      ap (λ (bs : List Bool). answer_at bs place) (behind_both [] front more) ∙ answer_before (answers accepts x m front) more place inside

  -- the node behind a row
  pub holds_last : (front : List Node) (n : Node) (more : List Node) → holds_at accepts x m (front ++ n ∷ more) (length front) ≡ node_answer accepts x m (answers accepts x m front) n
  holds_last front n more =
      let before : List Bool = answers accepts x m front in
      let here : List Bool = before ++ node_answer accepts x m before n ∷ [] in
      let one : length here ≡ length before + 1 = length-append before (node_answer accepts x m before n ∷ []) in
      let inside : length front < length here = omega (arith, count front) in
      ap (λ (bs : List Bool). answer_at bs (length front)) (behind_both [] front (n ∷ more))
      ∙ answer_before here more (length front) inside
      ∙ ap (answer_at here) (sym (count front))
      ∙ get_or-append_seam before (node_answer accepts x m before n) [] false

  -- the node at a place
  pub holds_here : (nodes : List Node) (place : ℕ) (n : Node) → place < length nodes → n ≡ get_or nodes place n → holds_at accepts x m nodes place ≡ node_answer accepts x m (answers accepts x m (take place nodes)) n
  holds_here nodes place n within is =
      let split : nodes ≡ take place nodes ++ n ∷ drop (place + 1) nodes =
      sym (take-append-drop place nodes) ∙ at_drop_more (λ (ns : List Node). take place nodes ++ ns) nodes place n within ∙ ap (λ (u : Node). take place nodes ++ u ∷ drop (place + 1) nodes) (sym is) in
      let long : length (take place nodes) ≡ place = length-take-le place nodes (omega arith) in
      ap (λ (ns : List Node). holds_at accepts x m ns place) split
      ∙ ap (holds_at accepts x m (take place nodes ++ n ∷ drop (place + 1) nodes)) (sym long)
      ∙ holds_last (take place nodes) n (drop (place + 1) nodes)

  -- there is no node
  pub holds_nowhere : (nodes : List Node) (place : ℕ) → length nodes ≤ place → holds_at accepts x m nodes place ≡ false
  holds_nowhere nodes place past = get_or_past (answers accepts x m nodes) place false (omega (arith, count nodes))

  -- a row that was longer than another, and begins with it
  pub holds_still : (old new : List Node) (place : ℕ) → take (length old) new ≡ old → place < length old → holds_at accepts x m new place ≡ holds_at accepts x m old place
  holds_still old new place kept within =
      let split : new ≡ old ++ drop (length old) new = sym (take-append-drop (length old) new) ∙ ap (λ (ns : List Node). ns ++ drop (length old) new) kept in
      ap (λ (ns : List Node). holds_at accepts x m ns place) split ∙ holds_in_front old (drop (length old) new) place within
