-- Each text has its stop: where the parser comes no further.
use Rattle.std.proofs.Common.{◌≡◌, List, [], ◌∷◌, ℕ, Option, Some, None, refl, sym, ap, subst}
use Rattle.rtx_tree.specs.declared.constants.Constant.{Constant}
use Rattle.c_words.specs.declared.atom.Dialect.{Dialect}
use Rattle.c_words.specs.declared.atom.Dialect.TheVariants as dialect
use Rattle.c_words.specs.declared.head.CondHead.{CondHead}
use Rattle.c_words.specs.declared.lexer.Pending.TheVariants as pending
use Rattle.c_words.specs.machine.Known.{known_words}
use Rattle.c_words.specs.Tokens.{tokens_in}
use Rattle.c_cond.specs.declared.goal.Goal.{Goal}
use Rattle.c_cond.specs.declared.goal.Goal.TheVariants as goal
use Rattle.c_cond.specs.declared.parse.CondRefusal.TheVariants as refusal
use Rattle.c_cond.specs.declared.tree.Tree.{Tree}
use Rattle.c_cond.specs.Tree.{tree_of}
use Rattle.c_cond.specs.Grammar.{IsText, Condition, Statements}
use Rattle.c_cond.specs.Beginning.{IsOutside}
use Rattle.c_cond.specs.machine.Steps.{result_of, at}
use Rattle.c_cond.specs.machine.Front.{reach}
use Rattle.c_cond.proofs.Answered.{is_condition, is_statements}
use Rattle.c_cond.proofs.Outside.{refused_condition, refused_statements, one_place}
use Rattle.c_stops.specs.declared.stop.Grammar.{Grammar}
use Rattle.c_stops.specs.declared.stop.Grammar.TheVariants as grammar
use Rattle.c_stops.specs.Stop.{text_of, IsStop, Stop}

abbrev Texts : Type 1
Texts = List ℕ → Tree → Type 0

abbrev there : ℕ → Option ℕ
there n = Some n

same_number : (a b : ℕ) → there a ≡ Some b → a ≡ b
same_number a b e = cc

none_there : (n : ℕ) → None ≡ there n → ⊥
none_there n e = cc

-- the heads that the parser makes of a text
abbrev heads_in : Dialect → Goal → List Constant → List ℕ → Option (List CondHead)
heads_in d g constants text = result_of d constants (at [] (g ∷ [])) (tokens_in text)

-- how many bytes of it go on as some text does
abbrev reached : Dialect → Goal → List Constant → List ℕ → ℕ
reached d g constants text = reach d constants (known_words constants) (at [] (g ∷ [])) pending.Nothing text

made : (Is : Texts) (text : List ℕ) (heads : Option (List CondHead)) (n : ℕ) → (heads ≡ None → IsOutside Is text n) → ((hs : List CondHead) → heads ≡ Some hs → Is text (tree_of hs)) → Stop Is text
made Is text None n outside inside = record { value = Some n; is = λ m. (λ e. subst (λ (k : ℕ). IsOutside Is text k) (same_number n m e) (outside refl), λ x. ap there (one_place Is text n m (outside refl) x)) }
made Is text (Some hs) n outside inside = record { value = None; is = λ m. (λ e. absurd (none_there m e), λ x. absurd (x.no_text (tree_of hs) (inside hs refl))) }

condition : (d : Dialect) (constants : List Constant) (text : List ℕ) → Stop (IsText d constants Condition) text
condition d constants text =
    made (IsText d constants Condition) text (heads_in d goal.Condition constants text) (reached d goal.Condition constants text)
    (λ none. refused_condition d constants text (refusal.Outside (reached d goal.Condition constants text)) refl none)
    (λ hs e. (is_condition d constants hs (tokens_in text) e).is)

statements : (d : Dialect) (constants : List Constant) (text : List ℕ) → Stop (IsText d constants Statements) text
statements d constants text =
    made (IsText d constants Statements) text (heads_in d goal.Statements constants text) (reached d goal.Statements constants text)
    (λ none. refused_statements d constants text (refusal.Outside (reached d goal.Statements constants text)) refl none)
    (λ hs e. (is_statements d constants hs (tokens_in text) e).is)

pub stop : (g : Grammar) (constants : List Constant) (text : List ℕ) → Stop (text_of g constants) text
stop grammar.Condition constants text = condition dialect.Condition constants text
stop grammar.Test constants text = condition dialect.Test constants text
stop grammar.Statements constants text = statements dialect.Condition constants text

-- ---- there is one

no_stop : (Is : Texts) (text : List ℕ) (value : Option ℕ) → ((n : ℕ) → value ≡ Some n → IsOutside Is text n) → (t : Tree) → Is text t → None ≡ value
no_stop Is text None outside t is = refl
no_stop Is text (Some n) outside t is = absurd ((outside n refl).no_text t is)

-- what a text's stop is told to be is its value
pub is_the_stop : (Is : List ℕ → Tree → Type 0) (text : List ℕ) (s : Stop Is text) (told : Option ℕ) → IsStop Is text told → told ≡ s.value
is_the_stop Is text s (Some n) is = sym ((s.is n).1 is)
is_the_stop Is text s None is = no_stop Is text s.value (λ n e. (s.is n).0 e) is.0 is.1

pub of_grammar : (g : Grammar) (constants : List Constant) (text : List ℕ) (told : Option ℕ) → IsStop (text_of g constants) text told → told ≡ (stop g constants text).value
of_grammar g constants text told is = is_the_stop (text_of g constants) text (stop g constants text) told is
