-- What an expression takes of a text is in the grammar.
use Rattle.std.proofs.Common.{◌≡◌, ℕ, ◌+◌, ◌≤◌, nat_le, Bool, true, false, cond, List, [], ◌∷◌, ◌++◌, Option, Some, None, refl, sym, ap, subst, append_assoc, arith, ◌==◌}
use Rattle.std.proofs.lemmas.Bool.{leb-true, eqb-true}
use Rattle.rtx_tree.specs.declared.constants.Constant.{Constant}
use Rattle.bits64.specs.Words.{signed}
use Rattle.bits64.specs.declared.Width.TheVariants.{W64}
use Rattle.c_words.specs.declared.head.Unary.{Unary}
use Rattle.c_words.specs.declared.head.CondHead.{CondHead}
use Rattle.c_words.specs.declared.head.CondHead.TheVariants as head
use Rattle.c_words.specs.declared.atom.Atom.{Atom}
use Rattle.c_words.specs.declared.atom.Atom.TheVariants as atom
use Rattle.c_words.specs.declared.atom.Dialect.{Dialect}
use Rattle.c_words.specs.declared.atom.Property.{Property}
use Rattle.c_words.specs.declared.token.Token.{Token}
use Rattle.c_words.specs.declared.token.Token.TheVariants as token
use Rattle.c_cond.specs.declared.part.Part.TheVariants as part
use Rattle.c_cond.specs.declared.goal.Goal.{Goal}
use Rattle.c_cond.specs.declared.goal.Goal.TheVariants as goal
use Rattle.c_words.specs.Atoms.{atom_of}
use Rattle.c_cond.specs.Grammar.{open_round, close_round, equality, unary_level, unary_of, expression, signature_of, predicate_parts, One}
use Rattle.c_cond.specs.machine.Flat.{Is}
use Rattle.c_cond.specs.machine.Steps.{more, by_atom, compare_then, primary, by_unary, takes_expression}
use Rattle.c_cond.proofs.Meets.{Meets, moved, use_first, use_yield, use_mark, use_call}

-- what meets the goals behind a token meets, with the token before it, the goals before it
abbrev pub Sound : Dialect → List Constant → Goal → Token → List Goal → Option (List Goal) → Type 0
Sound d cs g t gs None = Unit {0}
Sound d cs g t gs (Some new) = (c : List CondHead) (ts : List Token) → Meets d cs new c ts → Meets d cs (g ∷ gs) c (t ∷ ts)

abbrev wants : ℕ → Goal
wants p = goal.Part (part.Expression p)

-- behind what is an expression of any level up to q, the rest of the expression follows
behind : (d : Dialect) (cs : List Constant) (p q m : ℕ) (gs : List Goal) (a : List CondHead) (xs : List Token) → p ≤ m → q ≤ m → Is d cs (One (part.Expression m)) a xs →
    (e : List CondHead) (us : List Token) → Meets d cs (goal.More p q ∷ gs) e us → Meets d cs (wants p ∷ gs) (a ++ e) (xs ++ us)
behind d cs p q m gs a xs le lq i =
    use_first d cs (goal.More p q) gs (λ e us. Meets d cs (wants p ∷ gs) (a ++ e) (xs ++ us)) (λ c e ts us f n.
    moved (Meets d cs (wants p ∷ gs)) ((a ++ c) ++ e) (a ++ (c ++ e)) ((xs ++ ts) ++ us) (xs ++ (ts ++ us)) (append_assoc a c e) (append_assoc xs ts us)
    (Meets.first (wants p) gs (a ++ c) e (xs ++ ts) us (f a xs m le lq i) n))

-- behind what is an expression of any level
after : (d : Dialect) (cs : List Constant) (p : ℕ) (gs : List Goal) (a : List CondHead) (xs : List Token) → ((m : ℕ) → Is d cs (One (part.Expression m)) a xs) →
    (e : List CondHead) (us : List Token) → Meets d cs (more p gs) e us → Meets d cs (wants p ∷ gs) (a ++ e) (xs ++ us)
after d cs p gs a xs i = behind d cs p unary_level (p + unary_level) gs a xs (omega arith) (omega arith) (i (p + unary_level))

same_head : (a : List CondHead) (h : CondHead) (b c : List CondHead) → b ≡ h ∷ [] → (a ++ h ∷ []) ++ c ≡ a ++ (b ++ c)
same_head a h b c e = rw e (append_assoc a (h ∷ []) c)

same_tokens : (word name : List ℕ) (xs : List Token) (sign : Token) (ys rest ts : List Token) → ys ≡ sign ∷ rest → rest ≡ token.Word name ∷ [] →
    (token.Word word ∷ token.Mark open_round ∷ (xs ++ token.Mark close_round ∷ sign ∷ token.Word name ∷ [])) ++ ts ≡ token.Word word ∷ token.Mark open_round ∷ (xs ++ token.Mark close_round ∷ (ys ++ ts))
same_tokens word name xs sign ys rest ts e f = rw (e, f) (ap (λ (x : List Token). token.Word word ∷ token.Mark open_round ∷ x) (append_assoc xs (token.Mark close_round ∷ sign ∷ token.Word name ∷ []) ts))

sound_compare : (d : Dialect) (cs : List Constant) (p : ℕ) (word : List ℕ) (property : Property) (gs : List Goal) → atom_of d cs word ≡ atom.Compare property → p ≤ equality →
    Sound d cs (wants p) (token.Word word) gs (Some (compare_then p property gs))
sound_compare d cs p word property gs e le =
    use_mark d cs open_round (goal.Part part.Operand ∷ goal.Mark close_round ∷ goal.Comparison property ∷ goal.More p equality ∷ gs) (λ c ts. Meets d cs (wants p ∷ gs) c (token.Word word ∷ ts)) (λ c ts m.
    use_first d cs (goal.Part part.Operand) (goal.Mark close_round ∷ goal.Comparison property ∷ goal.More p equality ∷ gs) (λ c ts. Meets d cs (wants p ∷ gs) c (token.Word word ∷ token.Mark open_round ∷ ts)) (λ a c xs ts i m.
    use_mark d cs close_round (goal.Comparison property ∷ goal.More p equality ∷ gs) (λ c ts. Meets d cs (wants p ∷ gs) (a ++ c) (token.Word word ∷ token.Mark open_round ∷ (xs ++ ts))) (λ c ts m.
    use_first d cs (goal.Comparison property) (goal.More p equality ∷ gs) (λ c ts. Meets d cs (wants p ∷ gs) (a ++ c) (token.Word word ∷ token.Mark open_round ∷ (xs ++ token.Mark close_round ∷ ts))) (λ b c ys ts f m.
    let h = f.compared.head in
    moved (Meets d cs (wants p ∷ gs)) ((a ++ h ∷ []) ++ c) (a ++ (b ++ c))
    ((token.Word word ∷ token.Mark open_round ∷ (xs ++ token.Mark close_round ∷ f.sign ∷ token.Word f.compared.name ∷ [])) ++ ts) (token.Word word ∷ token.Mark open_round ∷ (xs ++ token.Mark close_round ∷ (ys ++ ts)))
    (same_head a h b c f.compared.tree)
    (same_tokens word f.compared.name xs f.sign ys f.rest ts f.tokens f.compared.tokens)
    (behind d cs p equality equality gs (a ++ h ∷ []) _ le (omega arith) (Is.compare equality word f.compared.name property f.sign f.equal h a xs (omega arith) e i f.compares f.compared.named) c ts m)) c ts m) c ts m) c ts m)

sound_atom : (d : Dialect) (cs : List Constant) (p : ℕ) (word : List ℕ) (gs : List Goal) (a : Atom) → atom_of d cs word ≡ a → Sound d cs (wants p) (token.Word word) gs (by_atom p word a gs)
sound_atom d cs p word gs (atom.Leaf h) e =
    use_yield d cs h (more p gs) (λ c ts. Meets d cs (wants p ∷ gs) c (token.Word word ∷ ts)) (after d cs p gs (h ∷ []) (token.Word word ∷ []) (λ m. Is.leaf m word h e))
sound_atom d cs p word gs (atom.Call c) e =
    use_call d cs (signature_of c) (head.Call c) (more p gs) (λ c ts. Meets d cs (wants p ∷ gs) c (token.Word word ∷ ts)) (λ a f xs ts i n.
    moved (Meets d cs (wants p ∷ gs)) ((a ++ head.Call c ∷ []) ++ f) (a ++ head.Call c ∷ f) ((token.Word word ∷ token.Mark open_round ∷ (xs ++ token.Mark close_round ∷ [])) ++ ts) (token.Word word ∷ token.Mark open_round ∷ (xs ++ token.Mark close_round ∷ ts))
    (append_assoc a (head.Call c ∷ []) f) (ap (λ (x : List Token). token.Word word ∷ token.Mark open_round ∷ x) (append_assoc xs (token.Mark close_round ∷ []) ts))
    (after d cs p gs (a ++ head.Call c ∷ []) _ (λ m. Is.asked m word c a xs e i) f ts n))
sound_atom d cs p word gs atom.Predicate e =
    use_call d cs predicate_parts (head.Predicate word) (more p gs) (λ c ts. Meets d cs (wants p ∷ gs) c (token.Word word ∷ ts)) (λ a f xs ts i n.
    moved (Meets d cs (wants p ∷ gs)) ((a ++ head.Predicate word ∷ []) ++ f) (a ++ head.Predicate word ∷ f) ((token.Word word ∷ token.Mark open_round ∷ (xs ++ token.Mark close_round ∷ [])) ++ ts) (token.Word word ∷ token.Mark open_round ∷ (xs ++ token.Mark close_round ∷ ts))
    (append_assoc a (head.Predicate word ∷ []) f) (ap (λ (x : List Token). token.Word word ∷ token.Mark open_round ∷ x) (append_assoc xs (token.Mark close_round ∷ []) ts))
    (after d cs p gs (a ++ head.Predicate word ∷ []) _ (λ m. Is.predicate m word a xs e i) f ts n))
sound_atom d cs p word gs (atom.Compare property) e = by_level (nat_le p equality) refl
  where
    by_level : (t : Bool) → nat_le p equality ≡ t → Sound d cs (wants p) (token.Word word) gs (cond t (Some (compare_then p property gs)) None)
    by_level true le = sound_compare d cs p word property gs e (leb-true p equality le)
    by_level false le = tt
sound_atom d cs p word gs atom.Nothing e = tt

sound_parens : (d : Dialect) (cs : List Constant) (p : ℕ) (gs : List Goal) → Sound d cs (wants p) (token.Mark open_round) gs (Some (goal.Part expression ∷ goal.Mark close_round ∷ more p gs))
sound_parens d cs p gs =
    use_first d cs (goal.Part expression) (goal.Mark close_round ∷ more p gs) (λ c ts. Meets d cs (wants p ∷ gs) c (token.Mark open_round ∷ ts)) (λ a e xs us i m.
    use_mark d cs close_round (more p gs) (λ e us. Meets d cs (wants p ∷ gs) (a ++ e) (token.Mark open_round ∷ (xs ++ us))) (λ e us m.
    moved (Meets d cs (wants p ∷ gs)) (a ++ e) (a ++ e) ((token.Mark open_round ∷ (xs ++ token.Mark close_round ∷ [])) ++ us) (token.Mark open_round ∷ (xs ++ token.Mark close_round ∷ us))
    refl (ap (λ (x : List Token). token.Mark open_round ∷ x) (append_assoc xs (token.Mark close_round ∷ []) us))
    (after d cs p gs a _ (λ k. Is.parens k a xs i) e us m)) e us m)

sound_mark : (d : Dialect) (cs : List Constant) (p b : ℕ) (gs : List Goal) (t : Bool) → (b == open_round) ≡ t →
    Sound d cs (wants p) (token.Mark b) gs (cond t (Some (goal.Part expression ∷ goal.Mark close_round ∷ more p gs)) None)
sound_mark d cs p b gs true e = subst (λ (k : ℕ). Sound d cs (wants p) (token.Mark k) gs (Some (goal.Part expression ∷ goal.Mark close_round ∷ more p gs))) (sym (eqb-true b open_round e)) (sound_parens d cs p gs)
sound_mark d cs p b gs false e = tt

sound_primary : (d : Dialect) (cs : List Constant) (p : ℕ) (t : Token) (gs : List Goal) → Sound d cs (wants p) t gs (primary d cs p t gs)
sound_primary d cs p (token.Number n) gs =
    use_yield d cs (head.Number (signed W64 n)) (more p gs) (λ c ts. Meets d cs (wants p ∷ gs) c (token.Number n ∷ ts)) (after d cs p gs (head.Number (signed W64 n) ∷ []) (token.Number n ∷ []) (λ m. Is.number m n))
sound_primary d cs p (token.Word word) gs = sound_atom d cs p word gs (atom_of d cs word) refl
sound_primary d cs p (token.Mark b) gs = sound_mark d cs p b gs (b == open_round) refl
sound_primary d cs p (token.Operator op) gs = tt
sound_primary d cs p token.Bad gs = tt

sound_unary : (d : Dialect) (cs : List Constant) (p : ℕ) (t : Token) (gs : List Goal) (u : Option Unary) → unary_of t ≡ u → Sound d cs (wants p) t gs (by_unary d cs p t gs u)
sound_unary d cs p t gs None e = sound_primary d cs p t gs
sound_unary d cs p t gs (Some u) e =
    use_first d cs (wants unary_level) (goal.Yield (head.Unary u) ∷ more p gs) (λ c ts. Meets d cs (wants p ∷ gs) c (t ∷ ts)) (λ a f xs us i m.
    use_yield d cs (head.Unary u) (more p gs) (λ f us. Meets d cs (wants p ∷ gs) (a ++ f) (t ∷ (xs ++ us))) (λ f us m.
    moved (Meets d cs (wants p ∷ gs)) ((a ++ head.Unary u ∷ []) ++ f) (a ++ head.Unary u ∷ f) ((t ∷ xs) ++ us) (t ∷ (xs ++ us)) (append_assoc a (head.Unary u ∷ []) f) refl
    (after d cs p gs (a ++ head.Unary u ∷ []) (t ∷ xs) (λ k. Is.before k t u a xs e i) f us m)) f us m)

pub sound_expression : (d : Dialect) (cs : List Constant) (p : ℕ) (t : Token) (gs : List Goal) → Sound d cs (wants p) t gs (takes_expression d cs p t gs)
sound_expression d cs p t gs = sound_unary d cs p t gs (unary_of t) refl
