-- The tokens of a text, read from its front on.
use Rattle.std.proofs.Common.{◌≡◌, ℕ, ◌+◌, ◌<◌, ◌≤◌, List, [], ◌∷◌, ◌++◌, Some, None, length, drop, get_or, refl, sym, ap, ◌∙◌, append_assoc}
use Rattle.std.proofs.lemmas.List.{at_drop_more, at_drop_all}
use Rattle.dfa_ways.specs.declared.token.Mark.{Mark}
use Rattle.dfa_ways.specs.declared.token.Token.{Token}
use Rattle.dfa_ways.specs.declared.token.Token.TheVariants as token
use Rattle.dfa_ways.specs.Tokens.{mark_of, word_before, byte_before, tokens}
use Rattle.dfa_ways.specs.machine.Lexing.{word_alone, pending}

-- a word that goes on with one byte more
pending_more : (word : List ℕ) (b : ℕ) (ts : List Token) → pending (word ++ b ∷ []) ts ≡ pending word (word_before (b ∷ []) ts)
pending_more [] b ts = refl
pending_more (a ∷ word) b [] = refl
pending_more (a ∷ word) b (token.Mark m ∷ ts) = refl
pending_more (a ∷ word) b (token.Word more ∷ ts) = ap (λ (w : List ℕ). token.Word (a ∷ w) ∷ ts) (append_assoc word (b ∷ []) more)

-- a mark ends it
pending_mark : (word : List ℕ) (m : Mark) (ts : List Token) → pending word (token.Mark m ∷ ts) ≡ word_alone word ++ token.Mark m ∷ ts
pending_mark [] m ts = refl
pending_mark (a ∷ word) m ts = refl

-- the end too
pending_end : (word : List ℕ) → pending word [] ≡ word_alone word
pending_end [] = refl
pending_end (a ∷ word) = refl

module _ (text : List ℕ) (i : ℕ) (front whole : List Token) (word : List ℕ) (so_far : front ++ pending word (tokens (drop i text)) ≡ whole) where
  here : i < length text → front ++ pending word (byte_before (mark_of (get_or text i 0)) (get_or text i 0) (tokens (drop (i + 1) text))) ≡ whole
  here within = sym (at_drop_more (λ bs. front ++ pending word (tokens bs)) text i 0 within) ∙ so_far

  -- a byte of a word
  pub letter : i < length text → mark_of (get_or text i 0) ≡ None → front ++ pending (word ++ get_or text i 0 ∷ []) (tokens (drop (i + 1) text)) ≡ whole
  letter within e = ap (λ (ts : List Token). front ++ ts) (pending_more word (get_or text i 0) (tokens (drop (i + 1) text))) ∙ sym (rw e refl) ∙ here within

  -- a mark
  pub marked : (m : Mark) → i < length text → mark_of (get_or text i 0) ≡ Some m → ((front ++ word_alone word) ++ token.Mark m ∷ []) ++ tokens (drop (i + 1) text) ≡ whole
  marked m within e =
      let rest : List Token = tokens (drop (i + 1) text) in
      append_assoc (front ++ word_alone word) (token.Mark m ∷ []) rest
      ∙ append_assoc front (word_alone word) (token.Mark m ∷ rest)
      ∙ ap (λ (ts : List Token). front ++ ts) (sym (pending_mark word m rest))
      ∙ sym (rw e refl) ∙ here within

  -- the end of the text
  pub ended : length text ≤ i → front ++ word_alone word ≡ whole
  ended end = ap (λ (ts : List Token). front ++ ts) (sym (pending_end word)) ∙ sym (at_drop_all (λ bs. front ++ pending word (tokens bs)) text i end) ∙ so_far
