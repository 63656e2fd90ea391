-- Each text has a reading: what the parser makes of its tokens is what the grammar says.
use Rattle.std.proofs.Common.{◌≡◌, ◌↔◌, List, [], ◌∷◌, ℕ, Option, Some, None, option_map, refl, sym, ap, subst}
use Rattle.rtx_tree.specs.declared.constants.Constant.{Constant}
use Rattle.c_words.specs.declared.atom.Dialect.{Dialect}
use Rattle.c_words.specs.declared.head.CondHead.{CondHead}
use Rattle.c_words.specs.Tokens.{tokens_in}
use Rattle.c_cond.specs.declared.goal.Goal.{Goal}
use Rattle.c_cond.specs.declared.goal.Goal.TheVariants as goal
use Rattle.c_cond.specs.declared.tree.Tree.{Tree}
use Rattle.c_cond.specs.Tree.{tree_of}
use Rattle.c_cond.specs.Grammar.{IsText, Condition, Statements}
use Rattle.c_cond.specs.Reading.{Reading, OneReading}
use Rattle.c_cond.specs.machine.Steps.{result_of, at}
use Rattle.c_cond.proofs.Answered.{is_condition, is_statements, no_condition, no_statements, one_condition, one_statements}

-- a value is the one tree that there is, if there is one
abbrev Reads : Option Tree → (Tree → Type 0) → Type 0
Reads (Some tree) IsTree = IsTree tree
Reads None IsTree = (tree : Tree) → IsTree tree → ⊥

-- the heads that the parser makes of a text
abbrev heads_in : Dialect → Goal → List Constant → List ℕ → Option (List CondHead)
heads_in d g cs text = result_of d cs (at [] (g ∷ [])) (tokens_in text)

condition_by : (d : Dialect) (cs : List Constant) (text : List ℕ) (r : Option (List CondHead)) → heads_in d goal.Condition cs text ≡ r → Reads (option_map tree_of r) (IsText d cs Condition text)
condition_by d cs text None e = no_condition d cs (tokens_in text) e
condition_by d cs text (Some heads) e = (is_condition d cs heads (tokens_in text) e).is

statements_by : (d : Dialect) (cs : List Constant) (text : List ℕ) (r : Option (List CondHead)) → heads_in d goal.Statements cs text ≡ r → Reads (option_map tree_of r) (IsText d cs Statements text)
statements_by d cs text None e = no_statements d cs (tokens_in text) e
statements_by d cs text (Some heads) e = (is_statements d cs heads (tokens_in text) e).is

abbrev there : Tree → Option Tree
there t = Some t

same_tree : (a b : Tree) → there a ≡ Some b → a ≡ b
same_tree a b e = cc

none_there : (a : Tree) → None ≡ there a → ⊥
none_there a e = cc

-- a tree that is the only one is the value
made : (o : Option Tree) (P : Tree → Type 0) → Reads o P → ((a b : Tree) → P a → P b → a ≡ b) → Reading P
made (Some u) P is one = record { value = Some u; is = λ t. (λ e. subst P (same_tree u t e) is, λ p. ap there (one u t is p)) }
made None P none one = record { value = None; is = λ t. (λ e. absurd (none_there t e), λ p. absurd (none t p)) }

pub condition : (d : Dialect) (cs : List Constant) (text : List ℕ) → Reading (IsText d cs Condition text)
condition d cs text = made (option_map tree_of (heads_in d goal.Condition cs text)) (IsText d cs Condition text) (condition_by d cs text (heads_in d goal.Condition cs text) refl) (one_condition d cs (tokens_in text))

pub statements : (d : Dialect) (cs : List Constant) (text : List ℕ) → Reading (IsText d cs Statements text)
statements d cs text = made (option_map tree_of (heads_in d goal.Statements cs text)) (IsText d cs Statements text) (statements_by d cs text (heads_in d goal.Statements cs text) refl) (one_statements d cs (tokens_in text))

-- ---- there is one

same_by : (P : Tree → Type 0) (a b : Option Tree) → ((t : Tree) → (a ≡ Some t) ↔ P t) → ((t : Tree) → (b ≡ Some t) ↔ P t) → a ≡ b
same_by P (Some t) b first second = sym ((second t).1 ((first t).0 refl))
same_by P None (Some t) first second = (first t).1 ((second t).0 refl)
same_by P None None first second = refl

pub one_reading : (P : Tree → Type 0) → OneReading P
one_reading P a b = same_by P a.value b.value a.is b.is
