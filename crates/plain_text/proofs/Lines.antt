-- An input comes to one text, and functions to theirs.
use Rattle.std.proofs.Common.{◌≡◌, ◌∙◌, ℕ, List, None, Ok, ap, sym}
use Rattle.rtx_tree.specs.declared.function.Function.{Function}
use Rattle.func_input.specs.Input.{FunctionsComeTo, InputComesTo}
use Rattle.func_input.specs.Outcome.{Outcome}
use Rattle.func_input.specs.Refused.{first_refused}
use Rattle.func_input.proofs.One.{one_coming_to}
use Rattle.plain_text.specs.Plain.{ComeToLines, text_of}

pub one : (bytes : List ℕ) (a b : Outcome) → InputComesTo ComeToLines bytes a → InputComesTo ComeToLines bytes b → a ≡ b
one bytes a b p q = one_coming_to ComeToLines bytes a b (λ functions a b is is'. is ∙ sym is') p q

abbrev given : List ℕ → Outcome
given text = Ok text

-- functions of which none is refused come to their lines
pub come : (functions : List Function) (text : List ℕ) → first_refused functions ≡ None → text ≡ text_of functions → FunctionsComeTo ComeToLines functions (Ok text)
come functions text none is = FunctionsComeTo.admitted (Ok text) none (ap given is)
