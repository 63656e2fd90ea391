-- What is read is in the grammar: whatever a parser makes of some tokens is what its goals want.
use Rattle.std.proofs.Common.{◌≡◌, ℕ, false, List, [], ◌∷◌, ◌++◌, Option, Some, None, refl, sym, ap, subst, ◌∙◌, append_assoc, inl}
use Rattle.std.specs.Prelude.{option_and_then, pos}
use Rattle.std.proofs.lemmas.List.{append-nil}
use Rattle.rtx_tree.specs.declared.constants.Constant.{Constant}
use Rattle.c_words.specs.declared.head.CondHead.{CondHead}
use Rattle.c_words.specs.declared.head.CondHead.TheVariants as head
use Rattle.c_words.specs.declared.keyword.Keyword.{Keyword}
use Rattle.c_words.specs.declared.keyword.Keyword.TheVariants as keyword
use Rattle.c_words.specs.declared.atom.Dialect.{Dialect}
use Rattle.c_words.specs.declared.token.Token.{Token}
use Rattle.c_words.specs.declared.token.Token.TheVariants as token
use Rattle.c_cond.specs.declared.part.Part.TheVariants as part
use Rattle.c_cond.specs.declared.goal.Goal.{Goal}
use Rattle.c_cond.specs.declared.goal.Goal.TheVariants as goal
use Rattle.c_words.specs.Words.{keyword_named}
use Rattle.c_cond.specs.declared.parser.Parser.{Parser}
use Rattle.c_cond.specs.Grammar.{One}
use Rattle.c_cond.specs.machine.Flat.{Is}
use Rattle.c_cond.specs.machine.Steps.{takes, passed, at, taken_or, next, finish, run, result_of, takes_expression, takes_else, else_by}
use Rattle.c_cond.proofs.Meets.{Continues, is_else, is_else_token, begins_else, Fits, Meets, moved, use_first}
use Rattle.c_cond.proofs.Levels.{looser}
use Rattle.c_cond.proofs.SoundExpressions.{Sound, sound_expression}
use Rattle.c_cond.proofs.SoundParts.{sound_more, sound_mark, sound_part}
use Rattle.c_cond.proofs.SoundStatements.{sound_compared, sound_comparison, sound_index, sound_target, sound_statement, sound_statements, sound_else}

sound_whole : (d : Dialect) (cs : List Constant) (t : Token) (gs : List Goal) (o : Option (List Goal)) → Sound d cs (goal.Part (part.Expression 0)) t gs o → Sound d cs goal.Condition t gs o
sound_whole d cs t gs None h = tt
sound_whole d cs t gs (Some new) h = λ c ts m. use_first d cs (goal.Part (part.Expression 0)) gs (Meets d cs (goal.Condition ∷ gs)) (λ a c xs us i m. Meets.first goal.Condition gs a c xs us (Is.whole a xs i) m) c (t ∷ ts) (h c ts m)

sound_takes : (d : Dialect) (cs : List Constant) (g : Goal) (t : Token) (gs : List Goal) → Sound d cs g t gs (takes d cs g t gs)
sound_takes d cs (goal.Mark b) t gs = sound_mark d cs b t gs
sound_takes d cs (goal.Yield h) t gs = tt
sound_takes d cs (goal.Part x) t gs = sound_part d cs x t gs
sound_takes d cs (goal.More p q) t gs = sound_more d cs p q t gs
sound_takes d cs (goal.Comparison property) t gs = sound_comparison d cs property t gs
sound_takes d cs (goal.Compared property equal) t gs = sound_compared d cs property equal t gs
sound_takes d cs goal.Index t gs = sound_index d cs t gs
sound_takes d cs goal.Target t gs = sound_target d cs t gs
sound_takes d cs goal.Statement t gs = sound_statement d cs t gs
sound_takes d cs goal.Else t gs = sound_else d cs t gs
sound_takes d cs goal.Statements t gs = sound_statements d cs t gs
sound_takes d cs goal.Condition t gs = sound_whole d cs t gs (takes_expression d cs 0 t gs) (sound_expression d cs 0 t gs)

-- ---- passing a goal over

some_is : {A : Type 0} {x y : A} → Some x ≡ Some y → x ≡ y
some_is e = cc

none_some : {A : Type 0} {x : A} → None ≡ Some x → ⊥
none_some e = cc

pub first_of_no_tokens : (d : Dialect) (cs : List Constant) (g : Goal) (gs : List Goal) (h : CondHead) (c : List CondHead) (ts : List Token) → Fits d cs g (h ∷ []) [] ts → Meets d cs gs c ts → Meets d cs (g ∷ gs) (h ∷ c) ts
first_of_no_tokens d cs g gs h c ts f m = Meets.first g gs (h ∷ []) c [] ts f m

-- an expression may end where it may go on
ends : (d : Dialect) (cs : List Constant) (p q : ℕ) → Continues d cs p q [] []
ends d cs p q a xs m le lq i = moved (Is d cs (One (part.Expression p))) a (a ++ []) xs (xs ++ []) (sym (append-nil a)) (sym (append-nil xs)) (looser d cs p m a xs le i)

-- no else stands where an if is passed over that has none
abbrev Passable : Goal → List Token → Type 0
Passable goal.Else ts = begins_else ts ≡ false
Passable _ ts = Unit {0}

pass : (d : Dialect) (cs : List Constant) (g : Goal) (gs : List Goal) (heads c : List CondHead) (ts : List Token) → passed g ≡ Some heads → Passable g ts → Meets d cs gs c ts → Meets d cs (g ∷ gs) (heads ++ c) ts
pass d cs (goal.Yield h) gs heads c ts e p m = subst (λ (x : List CondHead). Meets d cs (goal.Yield h ∷ gs) (x ++ c) ts) (some_is e) (Meets.first (goal.Yield h) gs (h ∷ []) c [] ts (refl, refl) m)
pass d cs (goal.More k q) gs heads c ts e p m = subst (λ (x : List CondHead). Meets d cs (goal.More k q ∷ gs) (x ++ c) ts) (some_is e) (Meets.first (goal.More k q) gs [] c [] ts (ends d cs k q) m)
pass d cs goal.Else gs heads c ts e p m = subst (λ (x : List CondHead). Meets d cs (goal.Else ∷ gs) (x ++ c) ts) (some_is e) (Meets.first goal.Else gs (head.If ∷ []) c [] ts (inl (record { unclosed = p; tree = refl; tokens = refl })) m)
pass d cs goal.Statements gs heads c ts e p m = subst (λ (x : List CondHead). Meets d cs (goal.Statements ∷ gs) (x ++ c) ts) (some_is e) (Meets.first goal.Statements gs (head.Nothing ∷ []) c [] ts Is.nothing m)
pass d cs goal.Condition gs heads c ts e p m = subst (λ (x : List CondHead). Meets d cs (goal.Condition ∷ gs) (x ++ c) ts) (some_is e) (Meets.first goal.Condition gs (head.Number (pos 1) ∷ []) c [] ts Is.empty m)
pass d cs (goal.Mark b) gs heads c ts e p m = absurd (none_some e)
pass d cs (goal.Part x) gs heads c ts e p m = absurd (none_some e)
pass d cs (goal.Comparison x) gs heads c ts e p m = absurd (none_some e)
pass d cs (goal.Compared x y) gs heads c ts e p m = absurd (none_some e)
pass d cs goal.Index gs heads c ts e p m = absurd (none_some e)
pass d cs goal.Target gs heads c ts e p m = absurd (none_some e)
pass d cs goal.Statement gs heads c ts e p m = absurd (none_some e)

no_else_by : (k : Option Keyword) (gs : List Goal) → else_by k gs ≡ None → is_else k ≡ false
no_else_by (Some keyword.Else) gs e = absurd (none_some (sym e))
no_else_by _ gs e = refl

no_else : (t : Token) (gs : List Goal) → takes_else t gs ≡ None → is_else_token t ≡ false
no_else (token.Word word) gs e = no_else_by (keyword_named word) gs e
no_else (token.Number n) gs e = refl
no_else (token.Operator op) gs e = refl
no_else (token.Mark b) gs e = refl
no_else token.Bad gs e = refl

passable : (d : Dialect) (cs : List Constant) (g : Goal) (t : Token) (gs : List Goal) (ts : List Token) → takes d cs g t gs ≡ None → Passable g (t ∷ ts)
passable d cs goal.Else t gs ts e = no_else t gs e
passable d cs _ t gs ts e = tt

-- ---- steps and runs

-- what meets the goals behind makes, with what was made before, what meets the goals before
abbrev Back : Dialect → List Constant → List CondHead → List Goal → List CondHead → List Token → Type 0
Back d cs code gs all ts = (c : List CondHead) × (all ≡ code ++ c) × Meets d cs gs c ts

sound_next : (d : Dialect) (cs : List Constant) (t : Token) (gs : List Goal) (code : List CondHead) (p : Parser) → next d cs t code gs ≡ Some p →
    (c : List CondHead) (ts : List Token) → Meets d cs p.goals c ts → Back d cs code gs (p.code ++ c) (t ∷ ts)
sound_next d cs t [] code p e c ts m = absurd (none_some e)
sound_next d cs t (g ∷ gs) code p e c ts m = by_answer (takes d cs g t gs) refl (sound_takes d cs g t gs) (passed g) refl e (sound_next d cs t gs)
  where
    by_answer : (o : Option (List Goal)) → takes d cs g t gs ≡ o → Sound d cs g t gs o → (h : Option (List CondHead)) → passed g ≡ h →
        taken_or code o (option_and_then (λ heads. next d cs t (code ++ heads) gs) h) ≡ Some p →
        ((code : List CondHead) (p : Parser) → next d cs t code gs ≡ Some p → (c : List CondHead) (ts : List Token) → Meets d cs p.goals c ts → Back d cs code gs (p.code ++ c) (t ∷ ts)) →
        Back d cs code (g ∷ gs) (p.code ++ c) (t ∷ ts)
    by_answer (Some new) f s h k e ih =
        let same : at code new ≡ p = some_is e in
        (c, ap (λ (x : Parser). x.code ++ c) (sym same), s c ts (subst (λ (x : Parser). Meets d cs x.goals c ts) (sym same) m))
    by_answer None f s (Some heads) k e ih =
        let b : Back d cs (code ++ heads) gs (p.code ++ c) (t ∷ ts) = ih (code ++ heads) p e c ts m in
        (heads ++ b.0, b.1 ∙ append_assoc code heads b.0, pass d cs g gs heads b.0 (t ∷ ts) k (passable d cs g t gs ts f) b.2)
    by_answer None f s None k e ih = absurd (none_some e)

nothing_follows : (g : Goal) → Passable g []
nothing_follows goal.Else = refl
nothing_follows _ = tt

sound_finish : (d : Dialect) (cs : List Constant) (gs : List Goal) (code out : List CondHead) → finish code gs ≡ Some out → Back d cs code gs out []
sound_finish d cs [] code out e = ([], sym (some_is e) ∙ sym (append-nil code), Meets.end)
sound_finish d cs (g ∷ gs) code out e = by_answer (passed g) refl e (sound_finish d cs gs)
  where
    by_answer : (h : Option (List CondHead)) → passed g ≡ h → option_and_then (λ heads. finish (code ++ heads) gs) h ≡ Some out →
        ((code out : List CondHead) → finish code gs ≡ Some out → Back d cs code gs out []) → Back d cs code (g ∷ gs) out []
    by_answer None k e ih = absurd (none_some e)
    by_answer (Some heads) k e ih =
        let b : Back d cs (code ++ heads) gs out [] = ih (code ++ heads) out e in
        (heads ++ b.0, b.1 ∙ append_assoc code heads b.0, pass d cs g gs heads b.0 [] k (nothing_follows g) b.2)

pub sound_run : (d : Dialect) (cs : List Constant) (ts : List Token) (p : Parser) (out : List CondHead) → result_of d cs p ts ≡ Some out → Back d cs p.code p.goals out ts
unfolding run
sound_run d cs [] p out e = sound_finish d cs p.goals p.code out e
sound_run d cs (t ∷ ts) p out e = by_step (next d cs t p.code p.goals) refl e (sound_run d cs ts)
  where
    by_step : (o : Option Parser) → next d cs t p.code p.goals ≡ o → option_and_then (λ r. finish r.code r.goals) (option_and_then (λ q. run d cs q ts) o) ≡ Some out →
        ((p : Parser) (out : List CondHead) → result_of d cs p ts ≡ Some out → Back d cs p.code p.goals out ts) → Back d cs p.code p.goals out (t ∷ ts)
    by_step None k e ih = absurd (none_some e)
    by_step (Some q) k e ih =
        let b : Back d cs q.code q.goals out ts = ih q out e in
        let n : Back d cs p.code p.goals (q.code ++ b.0) (t ∷ ts) = sound_next d cs t p.goals p.code q k b.0 ts b.2 in
        (n.0, b.1 ∙ n.1, n.2)

-- what is made of one goal
pub sound_goal : (d : Dialect) (cs : List Constant) (g : Goal) (ts : List Token) (out : List CondHead) → result_of d cs (at [] (g ∷ [])) ts ≡ Some out → Fits d cs g out ts []
sound_goal d cs g ts out e =
    let b : Back d cs [] (g ∷ []) out ts = sound_run d cs ts (at [] (g ∷ [])) out e in
    subst (λ (x : List CondHead). Fits d cs g x ts []) (sym b.1) (alone b.0 ts b.2)
  where
    ended : (c : List CondHead) (ts : List Token) → Meets d cs [] c ts → (c ≡ []) × (ts ≡ [])
    ended _ _ Meets.end = (refl, refl)

    alone : (c : List CondHead) (ts : List Token) → Meets d cs (g ∷ []) c ts → Fits d cs g c ts []
    alone c ts m = use_first d cs g [] (λ c ts. Fits d cs g c ts []) (λ a c xs us f n.
        let x = ended c us n in
        moved (λ c ts. Fits d cs g c ts []) a (a ++ c) xs (xs ++ us) (sym (append-nil a) ∙ ap (λ (y : List CondHead). a ++ y) (sym x.0)) (sym (append-nil xs) ∙ ap (λ (y : List Token). xs ++ y) (sym x.1))
        (subst (λ (y : List Token). Fits d cs g a xs y) x.1 f)) c ts m
