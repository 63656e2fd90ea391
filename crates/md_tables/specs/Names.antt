-- Which predicates a form names. GCC Internals, "RTL Template" and "Machine-Independent Predicates".
use Rattle.std.specs.Prelude.{List, [], ◌∷◌, ◌++◌, ℕ, Option, Some, None}
use Rattle.std.specs.List.{flat_map}
use Rattle.rtx_tree.specs.declared.code.Code.{Code}
use Rattle.rtx_tree.specs.declared.code.Code.TheVariants.{MatchOperand, MatchOperator}
use Rattle.rtx_tree.specs.declared.tree.Rtx.{Rtx}
use Rattle.rtx_tree.specs.declared.tree.Rtx.TheOpen.{Rtx-F}
use Rattle.rtx_tree.specs.declared.tree.Rtx.TheFolds.{fold-Rtx}
use Rattle.c_cond.specs.c_words.declared.head.CondHead.{CondHead}
use Rattle.c_cond.specs.c_words.declared.head.CondHead.TheVariants.{Predicate}
use Rattle.c_cond.specs.declared.tree.Tree.{Tree}
use Rattle.c_cond.specs.Tree.{heads_of}
use Rattle.pred_expr.specs.declared.question.Test.{Test}
use Rattle.pred_expr.specs.Test.{predicates_of}
use Rattle.md_draft.specs.declared.draft.Draft.{Draft}

abbrev pub predicate_here : Code → List ℕ → List (List ℕ)
predicate_here MatchOperand name = name ∷ []
predicate_here MatchOperator name = name ∷ []
predicate_here _ name = []

abbrev pub predicates_step : Rtx-F (List (List ℕ)) → List (List ℕ)
predicates_step x = predicate_here x.code x.name ++ flat_map (λ names. names) x.kids

-- the predicates of an expression's operands
abbrev pub predicates_in : Rtx → List (List ℕ)
predicates_in = fold-Rtx (List (List ℕ)) predicates_step

abbrev pub predicate_of_head : CondHead → List (List ℕ)
predicate_of_head (Predicate name) = name ∷ []
predicate_of_head _ = []

-- the predicates that a condition or statements call
abbrev pub predicates_called : Tree → List (List ℕ)
predicates_called t = flat_map predicate_of_head (heads_of t)

abbrev pub predicates_tested : Option Test → List (List ℕ)
predicates_tested None = []
predicates_tested (Some t) = predicates_of t

-- all predicates that a form names
unfoldable pub predicates_named : Draft → List (List ℕ)
predicates_named d =
    flat_map predicates_in d.matched.patterns.trees ++ (flat_map predicates_in d.replacement.sequence.trees
    ++ (predicates_called d.matched.condition ++ (predicates_called d.replacement.split_condition
    ++ (predicates_called d.replacement.statements ++ predicates_tested d.defined.test))))
