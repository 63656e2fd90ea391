-- Where a text stops being one of a grammar: behind the longest prefix of it that begins a text of
-- the grammar. A text of the grammar stops nowhere.
use Rattle.std.specs.Prelude.{◌≡◌, ◌↔◌, ℕ, List, Option, Some, None}
use Rattle.rtx_tree.specs.declared.constants.Constant.{Constant}
use Rattle.c_words.specs.declared.atom.Dialect.TheVariants as dialect
use Rattle.c_cond.specs.declared.tree.Tree.{Tree}
use Rattle.c_cond.specs.Grammar.{IsText, Condition, Statements}
use Rattle.c_cond.specs.Beginning.{IsOutside}
use Rattle.c_stops.specs.declared.stop.Grammar.{Grammar}
use Rattle.c_stops.specs.declared.stop.Grammar.TheVariants as grammar

-- the texts of a grammar, with their trees
abbrev pub text_of : Grammar → List Constant → List ℕ → Tree → Type 0
text_of grammar.Condition constants = IsText dialect.Condition constants Condition
text_of grammar.Test constants = IsText dialect.Test constants Condition
text_of grammar.Statements constants = IsText dialect.Condition constants Statements

-- the text is one of these, or none, and then it stops there
abbrev pub IsStop : (List ℕ → Tree → Type 0) → List ℕ → Option ℕ → Type 0
IsStop Is text None = (t : Tree) × Is text t
IsStop Is text (Some offset) = IsOutside Is text offset

-- Where a text stops, as a value. The type is the definition, since all such values are the same:
-- nobody has to look at how one is made.
pub record Stop (Is : List ℕ → Tree → Type 0) (text : List ℕ) : Type 0 where
  pub value : Option ℕ
  pub is : (offset : ℕ) → (value ≡ Some offset) ↔ IsOutside Is text offset
