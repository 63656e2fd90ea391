-- The state behind some tokens, one token more.
use Rattle.std.proofs.Common.{◌≡◌, ℕ, ◌+◌, ◌<◌, ◌≤◌, List, ◌∷◌, Option, Some, None, length, drop, get_or, refl, sym, ap, ◌∙◌}
use Rattle.std.proofs.lemmas.List.{at_drop_more, at_drop_all}
use Rattle.dfa_ways.specs.declared.token.Token.{Token}
use Rattle.dfa_ways.specs.declared.expression.State.{State}
use Rattle.dfa_ways.specs.Expression.{behind, behind_all}

module _ (units : List (List ℕ)) (tokens : List Token) (s : State) (i : ℕ) (token : Token) (whole : Option State) (within : i < length tokens) (is : token ≡ get_or tokens i token) (so_far : behind_all units s (drop i tokens) ≡ whole) where
  here : behind_all units s (token ∷ drop (i + 1) tokens) ≡ whole
  here = sym (at_drop_more (behind_all units s) tokens i token within ∙ ap (λ (t : Token). behind_all units s (t ∷ drop (i + 1) tokens)) (sym is)) ∙ so_far

  -- a state behind one token more
  pub state_next : (next : State) → behind units s token ≡ Some next → behind_all units next (drop (i + 1) tokens) ≡ whole
  state_next next e = sym (rw e refl) ∙ here

  -- no state behind it
  pub state_stops : behind units s token ≡ None → whole ≡ None
  state_stops e = sym here ∙ rw e refl

-- all tokens
pub state_ends : (units : List (List ℕ)) (tokens : List Token) (s : State) (i : ℕ) (whole : Option State) → length tokens ≤ i → behind_all units s (drop i tokens) ≡ whole → whole ≡ Some s
state_ends units tokens s i whole end so_far = sym so_far ∙ at_drop_all (behind_all units s) tokens i end
