-- The places of a chain, one behind the other.
use Rattle.std.proofs.Common.{◌≡◌, ℕ, ◌+◌, ◌<◌, ◌≤◌, List, [], ◌∷◌, ◌++◌, length, take, drop, get_or, Ok, Err, sym, ap, subst, ◌∙◌, arith}
use Rattle.std.proofs.lemmas.List.{take_more, take_all, take-append-drop, length-take-le}
use Rattle.rtx_tree.specs.declared.function.Insn.{Insn}
use Rattle.rv_text.specs.declared.line.CodeItem.{CodeItem}
use Rattle.pass_refusal.specs.declared.refusal.PassRefusal.{PassRefusal}
use Rattle.asm_out.specs.Comes.{Part, Place, PartsCome, places_from}
use Rattle.pass_refusal.specs.Outcome.{RefusesWith}
use Rattle.asm_out.specs.Outcome.{Outcome, Appends}
use Rattle.asm_out.proofs.PartLaws.{appends_then, appends_wrong, appends_none}

places-append : (place : ℕ) (xs ys : List Insn) → places_from place (xs ++ ys) ≡ places_from place xs ++ places_from (place + length xs) ys
places-append place [] ys = ap (λ p. places_from p ys) (omega arith)
places-append place (x ∷ xs) ys =
    ap (λ (ps : List Part). Place place x ∷ ps) (places-append (place + 1) xs ys ∙ ap (λ p. places_from (place + 1) xs ++ places_from p ys) (omega arith))

-- one place more
places_more : (k : ℕ) (insns : List Insn) (x : Insn) → k < length insns → x ≡ get_or insns k x → places_from 0 (take (k + 1) insns) ≡ places_from 0 (take k insns) ++ Place k x ∷ []
places_more k insns x within is =
    let long : 0 + length (take k insns) ≡ k = omega (arith, length-take-le k insns (omega (arith, within))) in
    ap (places_from 0) (take_more insns k x within ∙ ap (λ (y : Insn). take k insns ++ y ∷ []) (sym is)) ∙
    (places-append 0 (take k insns) (x ∷ []) ∙ ap (λ p. places_from 0 (take k insns) ++ Place p x ∷ []) long)

module _ (comes : Part → Outcome → Type 0) where
  pub places_start : (t : List ℕ) (i : List CodeItem) (insns : List Insn) → Appends {A = Unit {0}} t t i i (Ok tt) (PartsCome comes (length t) (places_from 0 (take 0 insns)))
  places_start t i insns = appends_none comes t i

  pub places_on : (t t' t'' : List ℕ) (i i' i'' : List CodeItem) (insns : List Insn) (k : ℕ) (x : Insn) → k < length insns → x ≡ get_or insns k x →
      Appends {A = Unit {0}} t t' i i' (Ok tt) (PartsCome comes (length t) (places_from 0 (take k insns))) → Appends {A = Unit {0}} t' t'' i' i'' (Ok tt) (PartsCome comes (length t') (Place k x ∷ [])) →
      Appends {A = Unit {0}} t t'' i i'' (Ok tt) (PartsCome comes (length t) (places_from 0 (take (k + 1) insns)))
  places_on t t' t'' i i' i'' insns k x within is first last =
      subst (λ (ps : List Part). Appends {A = Unit {0}} t t'' i i'' (Ok tt) (PartsCome comes (length t) ps)) (sym (places_more k insns x within is))
      (appends_then comes {A = Unit {0}} {B = Unit {0}} t t' t'' i i' i'' tt (Ok tt) (places_from 0 (take k insns)) (Place k x ∷ []) first last)

  pub places_wrong : (t t' : List ℕ) (i i' : List CodeItem) (insns : List Insn) (k : ℕ) (x : Insn) (e : PassRefusal) → k < length insns → x ≡ get_or insns k x →
      Appends {A = Unit {0}} t t' i i' (Ok tt) (PartsCome comes (length t) (places_from 0 (take k insns))) → RefusesWith e (PartsCome comes (length t') (Place k x ∷ [])) → RefusesWith e (PartsCome comes (length t) (places_from 0 insns))
  places_wrong t t' i i' insns k x e within is first last =
      let here : Appends {A = Unit {0}} t t' i i' (Err e) (PartsCome comes (length t) (places_from 0 (take k insns) ++ Place k x ∷ [])) =
      appends_then comes {A = Unit {0}} {B = Unit {0}} t t' t' i i' i' tt (Err e) (places_from 0 (take k insns)) (Place k x ∷ []) first last in
      let upto : RefusesWith e (PartsCome comes (length t) (places_from 0 (take (k + 1) insns))) =
      subst (λ (ps : List Part). RefusesWith e (PartsCome comes (length t) ps)) (sym (places_more k insns x within is)) here in
      subst (λ (ps : List Part). RefusesWith e (PartsCome comes (length t) ps))
      (sym (places-append 0 (take (k + 1) insns) (drop (k + 1) insns)) ∙ ap (places_from 0) (take-append-drop (k + 1) insns))
      (appends_wrong comes (length t) (places_from 0 (take (k + 1) insns)) (places_from (0 + length (take (k + 1) insns)) (drop (k + 1) insns)) e upto)

  pub places_end : (t t' : List ℕ) (i i' : List CodeItem) (insns : List Insn) (k : ℕ) → length insns ≤ k →
      Appends {A = Unit {0}} t t' i i' (Ok tt) (PartsCome comes (length t) (places_from 0 (take k insns))) → Appends {A = Unit {0}} t t' i i' (Ok tt) (PartsCome comes (length t) (places_from 0 insns))
  places_end t t' i i' insns k past all = subst (λ (xs : List Insn). Appends {A = Unit {0}} t t' i i' (Ok tt) (PartsCome comes (length t) (places_from 0 xs))) (take_all k insns past) all
