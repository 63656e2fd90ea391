-- The roots of tests in a row that grows.
use Rattle.std.proofs.Common.{◌≡◌, ℕ, ◌+◌, ◌<◌, ◌≤◌, Bool, List, [], ◌∷◌, ◌++◌, Result, Ok, Err, length, map, take, drop, get_or, refl, sym, ap, ◌∙◌, append_assoc, arith}
use Rattle.std.specs.List.{All}
use Rattle.std.specs.Result.{IfOk, OnOk}
use Rattle.std.proofs.Math.Seq.{take-append_seam}
use Rattle.std.proofs.lemmas.List.{take-append-drop, length-append, map-append, take_more}
use Rattle.std.proofs.lemmas.List.Elements.{All-head, All-push, All-tail, All-weaker}
use Rattle.plain_data.specs.declared.memory.Memory.{Memory}
use Rattle.rtx_tree.specs.declared.code.Mode.{Mode}
use Rattle.rtx_tree.specs.declared.tree.Rtx.{Rtx}
use Rattle.pred_expr.specs.declared.question.Test.{Test, out-Test}
use Rattle.pred_expr.specs.declared.question.Test.TheFolds.{fold_out-Test}
use Rattle.pred_rows.specs.declared.node.Node.{Node}
use Rattle.pred_rows.specs.Tests.{Accepts, answer, test_step, test_holds}
use Rattle.pred_rows.specs.machine.Rows.{answer_at, answers, holds_at, IsRoot}
use Rattle.pred_rows.specs.machine.Steps.{Asks, AreRoots}
use Rattle.pred_rows.proofs.Answering.{holds_last, holds_still}

-- a row that begins with another is that one with more behind it
behind : (old new : List Node) → take (length old) new ≡ old → new ≡ old ++ drop (length old) new
behind old new kept = sym (take-append-drop (length old) new) ∙ ap (λ (ns : List Node). ns ++ drop (length old) new) kept

longer : (old new : List Node) → take (length old) new ≡ old → length old ≤ length new
longer old new kept =
    let all : length new ≡ length (old ++ drop (length old) new) = ap length (behind old new kept) in
    omega (arith, all, length-append old (drop (length old) new))

-- what begins with a row that begins with another begins with that
pub kept_both : (old mid new : List Node) → take (length old) mid ≡ old → take (length mid) new ≡ mid → take (length old) new ≡ old
kept_both old mid new first second =
    let a : List Node = drop (length old) mid in
    let b : List Node = drop (length mid) new in
    let all : new ≡ old ++ (a ++ b) = behind mid new second ∙ ap (λ (ns : List Node). ns ++ b) (behind old mid first) ∙ append_assoc old a b in
    ap (take (length old)) all ∙ take-append_seam old (a ++ b)

-- a test stays where it stands
pub stays : (old new : List Node) (test : Test) (root : ℕ) → take (length old) new ≡ old → IsRoot old test root → IsRoot new test root
stays old new test root kept is = record {
  within = omega (arith, longer old new kept, is.within);
  means = λ accepts x m. holds_still accepts x m old new root kept is.within ∙ is.means accepts x m;
}

-- ---- some tests

all_answer : (accepts : Accepts) (x : Rtx) (m : Mode) (old new : List Node) (roots : List ℕ) → take (length old) new ≡ old → All (λ root. root < length old) roots
    → map (answer_at (answers accepts x m new)) roots ≡ map (answer_at (answers accepts x m old)) roots
all_answer accepts x m old new [] kept all = refl
all_answer accepts x m old new (root ∷ roots) kept all =
    let inside : root < length old = All-head (λ r. r < length old) root roots all in
    let here : holds_at accepts x m new root ≡ holds_at accepts x m old root = holds_still accepts x m old new root kept inside in
    let rest : map (answer_at (answers accepts x m new)) roots ≡ map (answer_at (answers accepts x m old)) roots =
    all_answer accepts x m old new roots kept (All-tail (λ r. r < length old) root roots all) in
    cc

-- one test more
pub next_root : (old new : List Node) (tests : List Test) (i : ℕ) (test : Test) (roots : List ℕ) (root : ℕ) → i < length tests → test ≡ get_or tests i test
    → take (length old) new ≡ old → AreRoots old (take i tests) roots → IsRoot new test root → AreRoots new (take (i + 1) tests) (roots ++ root ∷ [])
next_root old new tests i test roots root inside is kept were here = record {
  within =
      let still : All (λ r. r < length new) roots = All-weaker (λ r. r < length old) (λ r. r < length new) (λ r low. omega (arith, low, longer old new kept)) roots were.within in
      All-push (λ r. r < length new) roots root still here.within;
  means = λ accepts x m.
      let f : ℕ → Bool = answer_at (answers accepts x m new) in
      let g : Test → Bool = test_holds accepts x m in
      let front : map f roots ≡ map g (take i tests) = all_answer accepts x m old new roots kept were.within ∙ were.means accepts x m in
      let more : take (i + 1) tests ≡ take i tests ++ test ∷ [] = take_more tests i test inside ∙ ap (λ (t : Test). take i tests ++ t ∷ []) (sym is) in
      map-append f roots (root ∷ []) ∙ ap (λ (bs : List Bool). bs ++ f root ∷ []) front ∙ ap (λ (b : Bool). map g (take i tests) ++ b ∷ []) (here.means accepts x m)
      ∙ sym (map-append g (take i tests) (test ∷ [])) ∙ ap (map g) (sym more);
}

-- a test behind its parts
pub root_behind : (nodes : List Node) (test : Test) (parts : List ℕ) (node : Node) → AreRoots nodes (out-Test test).parts parts → Asks (out-Test test).question parts node
    → IsRoot (nodes ++ node ∷ []) test (length nodes)
root_behind nodes test parts node roots asks = record {
  within = omega (arith, length-append nodes (node ∷ []));
  means = λ accepts x m.
      holds_last accepts x m nodes node [] ∙ asks accepts x m (answers accepts x m nodes)
      ∙ ap (answer accepts x m (out-Test test).question) (roots.means accepts x m)
      ∙ sym (fold_out-Test Bool (test_step accepts x m) test);
}

-- what is appended behind the parts of a test, where memory is left
pub pushed : (nodes new : List Node) (test : Test) (parts : List ℕ) (node : Node) (r : Result ℕ Memory) → AreRoots nodes (out-Test test).parts parts → Asks (out-Test test).question parts node
    → IfOk r (λ place. place ≡ length nodes) → OnOk r (new ≡ nodes ++ node ∷ []) → IfOk r (IsRoot new test)
pushed nodes new test parts node (Ok place) roots asks is made = rw is (rw made (root_behind nodes test parts node roots asks))
pushed nodes new test parts node (Err e) roots asks is made = tt
