-- The parts of a function's text, one behind the other.
use Rattle.std.proofs.Common.{◌≡◌, ℕ, ◌+◌, ◌≤◌, Bool, true, false, List, [], ◌∷◌, ◌++◌, length, Result, Ok, Err, refl, sym, ap, subst, ◌∙◌, append_assoc, arith}
use Rattle.std.specs.Prelude.{if◌then◌else◌, nat_le}
use Rattle.std.proofs.lemmas.List.{append-nil, length-append}
use Rattle.std.proofs.lemmas.Bool.{leb-true}
use Rattle.rv_text.specs.declared.line.CodeItem.{CodeItem}
use Rattle.asm_out.specs.declared.piece.Piece.{Piece}
use Rattle.pass_refusal.specs.declared.refusal.PassRefusal.{PassRefusal}
use Rattle.asm_out.specs.Refused.{too_long}
use Rattle.rtx_tree.specs.Limit.{most_output}
use Rattle.pass_refusal.specs.Outcome.{RefusesWith}
use Rattle.asm_out.specs.Outcome.{Outcome, nothing, joined, outcome_behind, Appends}
use Rattle.asm_out.specs.Comes.{Part, PartsCome, limited}
use Rattle.pass_refusal.proofs.Refusing.{refuses_map}

-- ---- pieces

pub joined_nothing : (a : Piece) → joined a nothing ≡ a
joined_nothing a =
    ap (λ (t : List ℕ). record { text = t; items = a.items ++ [] }) (append-nil a.text) ∙ ap (λ (is : List CodeItem). record { text = a.text; items = is }) (append-nil a.items)

joined_joined : (a b c : Piece) → joined (joined a b) c ≡ joined a (joined b c)
joined_joined a b c =
    ap (λ (t : List ℕ). record { text = t; items = (a.items ++ b.items) ++ c.items }) (append_assoc a.text b.text c.text) ∙
    ap (λ (is : List CodeItem). record { text = a.text ++ (b.text ++ c.text); items = is }) (append_assoc a.items b.items c.items)

behind_joined : (a b : Piece) (o : Outcome) → outcome_behind (joined a b) o ≡ outcome_behind a (outcome_behind b o)
behind_joined a b (Ok c) = ap (λ (p : Piece). Ok p) (joined_joined a b c)
behind_joined a b (Err e) = refl

behind_nothing : (o : Outcome) → outcome_behind nothing o ≡ o
behind_nothing (Ok c) = refl
behind_nothing (Err e) = refl

pub behind_ok : (a : Piece) (o : Outcome) (piece : Piece) → outcome_behind a o ≡ Ok piece → (b : Piece) × (o ≡ Ok b) × (joined a b ≡ piece)
behind_ok a (Ok b) piece h = (b, refl, cc)
behind_ok a (Err e) piece h = cc

pub behind_err : (a : Piece) (o : Outcome) (e : PassRefusal) → outcome_behind a o ≡ Err e → o ≡ Err e
behind_err a (Ok b) e h = cc
behind_err a (Err d) e h = h

abbrev pub Alike : Outcome → Outcome → Type 0
Alike a b = a ≡ b

-- what is within the limit is what came
pub limited_ok : (size : ℕ) (o : Outcome) (piece : Piece) → limited size o ≡ Ok piece → (o ≡ Ok piece) × (size + length piece.text ≤ most_output)
limited_ok size (Err e) piece h = cc
limited_ok size (Ok a) piece h = go (nat_le (size + length a.text) most_output) refl h
  where
    go : (b : Bool) → nat_le (size + length a.text) most_output ≡ b → Alike (if b then Ok a else Err too_long) (Ok piece) → Alike (Ok a) (Ok piece) × (size + length piece.text ≤ most_output)
    go true is h = (h, let same : a ≡ piece = cc in subst (λ (p : Piece). size + length p.text ≤ most_output) same (leb-true (size + length a.text) most_output is))
    go false is h = cc

-- ---- parts

module _ (comes : Part → Outcome → Type 0) where
  -- parts behind parts
  then_by : (size : ℕ) (xs ys : List Part) (a : Outcome) (piece : Piece) (o : Outcome) → PartsCome comes size xs a → a ≡ Ok piece → PartsCome comes (size + length piece.text) ys o → PartsCome comes size (xs ++ ys) (outcome_behind piece o)
  then_by _ _ ys _ piece o (PartsCome.none size) h more =
      let same : nothing ≡ piece = cc in
      subst (λ (p : Piece). PartsCome comes size ys (outcome_behind p o)) same
      (subst (PartsCome comes size ys) (sym (behind_nothing o)) (subst (λ n. PartsCome comes n ys o) (ap (λ (p : Piece). size + length p.text) (sym same) ∙ omega arith) more))
  then_by _ _ ys _ piece o (PartsCome.refused size p parts o' e here lim) h more = cc
  then_by _ _ ys _ piece o (PartsCome.goes_on size p parts o' first rest here lim tail) h more =
      let last = behind_ok first rest piece h in
      let sizes : size + length piece.text ≡ (size + length first.text) + length last.0.text =
      omega (arith, ap (λ (p : Piece). length p.text) last.2, length-append first.text last.0.text) in
      let rest_come = then_by (size + length first.text) parts ys rest last.0 o tail last.1 (subst (λ n. PartsCome comes n ys o) sizes more) in
      subst (PartsCome comes size (p ∷ (parts ++ ys))) (sym (behind_joined first last.0 o) ∙ ap (λ (p : Piece). outcome_behind p o) last.2)
      (PartsCome.goes_on size p (parts ++ ys) o' first (outcome_behind last.0 o) here lim rest_come)

  pub parts_then : (size : ℕ) (xs ys : List Part) (piece : Piece) (o : Outcome) → PartsCome comes size xs (Ok piece) → PartsCome comes (size + length piece.text) ys o → PartsCome comes size (xs ++ ys) (outcome_behind piece o)
  parts_then size xs ys piece o first more = then_by size xs ys (Ok piece) piece o first refl more

  wrong_by : (size : ℕ) (xs ys : List Part) (a : Outcome) (e : PassRefusal) → PartsCome comes size xs a → a ≡ Err e → PartsCome comes size (xs ++ ys) (Err e)
  wrong_by _ _ ys _ e (PartsCome.none size) h = cc
  wrong_by _ _ ys _ e (PartsCome.refused size p parts o d here lim) h = subst (PartsCome comes size (p ∷ (parts ++ ys))) h (PartsCome.refused size p (parts ++ ys) o d here lim)
  wrong_by _ _ ys _ e (PartsCome.goes_on size p parts o first rest here lim tail) h =
      PartsCome.goes_on size p (parts ++ ys) o first (Err e) here lim (wrong_by (size + length first.text) parts ys rest e tail (behind_err first rest e h))

  pub parts_wrong : (size : ℕ) (xs ys : List Part) (e : PassRefusal) → PartsCome comes size xs (Err e) → PartsCome comes size (xs ++ ys) (Err e)
  parts_wrong size xs ys e first = wrong_by size xs ys (Err e) e first refl

  -- one part, by what it comes to
  pub one_part : (size : ℕ) (p : Part) (o : Outcome) → comes p o → PartsCome comes size (p ∷ []) (limited size o)
  one_part size p o here = go (limited size o) refl
    where
      go : (l : Outcome) → limited size o ≡ l → PartsCome comes size (p ∷ []) l
      go (Ok piece) is = subst (PartsCome comes size (p ∷ [])) (ap (λ (p : Piece). Ok p) (joined_nothing piece)) (PartsCome.goes_on size p [] o piece (Ok nothing) here is (PartsCome.none (size + length piece.text)))
      go (Err e) is = PartsCome.refused size p [] o e here is

  -- parts come to one outcome, where each comes to one
  pub parts_one : ((p : Part) (a b : Outcome) → comes p a → comes p b → a ≡ b) → (size : ℕ) (xs : List Part) (a b : Outcome) → PartsCome comes size xs a → PartsCome comes size xs b → a ≡ b
  parts_one one _ _ _ _ (PartsCome.none size) (PartsCome.none _) = refl
  parts_one one _ _ _ _ (PartsCome.refused size p parts o e here lim) (PartsCome.refused _ _ _ o' d here' lim') = sym lim ∙ (ap (limited size) (one p o o' here here') ∙ lim')
  parts_one one _ _ _ _ (PartsCome.refused size p parts o e here lim) (PartsCome.goes_on _ _ _ o' first rest here' lim' tail) =
      absurd (let same : Err e ≡ Ok first = sym lim ∙ (ap (limited size) (one p o o' here here') ∙ lim') in let none : ⊥ = cc in none)
  parts_one one _ _ _ _ (PartsCome.goes_on size p parts o first rest here lim tail) (PartsCome.refused _ _ _ o' d here' lim') =
      absurd (let same : Ok first ≡ Err d = sym lim ∙ (ap (limited size) (one p o o' here here') ∙ lim') in let none : ⊥ = cc in none)
  parts_one one _ _ _ _ (PartsCome.goes_on size p parts o first rest here lim tail) (PartsCome.goes_on _ _ _ o' first' rest' here' lim' tail') =
      let same : Ok first ≡ Ok first' = sym lim ∙ (ap (limited size) (one p o o' here here') ∙ lim') in
      let firsts : first ≡ first' = cc in
      ap (λ (p : Piece). outcome_behind p rest) firsts ∙
      ap (outcome_behind first') (parts_one one (size + length first'.text) parts rest rest' (subst (λ (p : Piece). PartsCome comes (size + length p.text) parts rest) firsts tail) tail')

  -- and they are no longer than an assembly may be
  pub parts_within : (size : ℕ) (xs : List Part) (a : Outcome) (piece : Piece) → PartsCome comes size xs a → a ≡ Ok piece → size ≤ most_output → size + length piece.text ≤ most_output
  parts_within _ _ _ piece (PartsCome.none size) h le = let same : nothing ≡ piece = cc in subst (λ (p : Piece). size + length p.text ≤ most_output) same (omega (arith, le))
  parts_within _ _ _ piece (PartsCome.refused size p parts o e here lim) h le = cc
  parts_within _ _ _ piece (PartsCome.goes_on size p parts o first rest here lim tail) h le =
      let last = behind_ok first rest piece h in
      let inner = parts_within (size + length first.text) parts rest last.0 tail last.1 (limited_ok size o first lim).1 in
      omega (arith, inner, ap (λ (p : Piece). length p.text) last.2, length-append first.text last.0.text)

  -- ---- what calls have appended

  pub appends_none : (t : List ℕ) (i : List CodeItem) → Appends {A = Unit {0}} t t i i (Ok tt) (PartsCome comes (length t) [])
  appends_none t i = (nothing, PartsCome.none (length t), sym (append-nil t), sym (append-nil i))

  pub appends_then : {A B : Type 0} (t t' t'' : List ℕ) (i i' i'' : List CodeItem) (x : A) (r : Result B PassRefusal) (xs ys : List Part) →
      Appends t t' i i' (Ok x) (PartsCome comes (length t) xs) → Appends t' t'' i' i'' r (PartsCome comes (length t') ys) → Appends t t'' i i'' r (PartsCome comes (length t) (xs ++ ys))
  appends_then t t' t'' i i' i'' x (Ok y) xs ys first last =
      let sizes : length t' ≡ length t + length first.0.text = ap length first.2 ∙ length-append t first.0.text in (
        joined first.0 last.0,
        parts_then (length t) xs ys first.0 (Ok last.0) first.1 (subst (λ n. PartsCome comes n ys (Ok last.0)) sizes last.1),
        last.2 ∙ (ap (λ (u : List ℕ). u ++ last.0.text) first.2 ∙ append_assoc t first.0.text last.0.text),
        last.3 ∙ (ap (λ (u : List CodeItem). u ++ last.0.items) first.3 ∙ append_assoc i first.0.items last.0.items),
      )
  appends_then t t' t'' i i' i'' x (Err e) xs ys first last =
      let sizes : length t' ≡ length t + length first.0.text = ap length first.2 ∙ length-append t first.0.text in
      refuses_map e (PartsCome comes (length t') ys) (PartsCome comes (length t) (xs ++ ys))
      (λ e is. parts_then (length t) xs ys first.0 (Err e) first.1 (subst (λ n. PartsCome comes n ys (Err e)) sizes is)) last

  pub appends_wrong : (size : ℕ) (xs ys : List Part) (e : PassRefusal) → RefusesWith e (PartsCome comes size xs) → RefusesWith e (PartsCome comes size (xs ++ ys))
  appends_wrong size xs ys e r = refuses_map e (PartsCome comes size xs) (PartsCome comes size (xs ++ ys)) (λ e is. parts_wrong size xs ys e is) r

  -- one part, by the piece to which it comes
  pub part_appended : {A : Type 0} (t t' : List ℕ) (i i' : List CodeItem) (r : Result A PassRefusal) (p : Part) (piece : Piece) →
      comes p (Ok piece) → Appends t t' i i' r (λ o. o ≡ limited (length t) (Ok piece)) → Appends t t' i i' r (PartsCome comes (length t) (p ∷ []))
  part_appended t t' i i' (Ok x) p piece here done = (done.0, subst (PartsCome comes (length t) (p ∷ [])) (sym done.1) (one_part (length t) p (Ok piece) here), done.2, done.3)
  part_appended t t' i i' (Err e) p piece here done =
      refuses_map e (λ o. o ≡ limited (length t) (Ok piece)) (PartsCome comes (length t) (p ∷ []))
      (λ e is. subst (PartsCome comes (length t) (p ∷ [])) (sym is) (one_part (length t) p (Ok piece) here)) done

  -- or by its refusal
  pub part_wrong : (size : ℕ) (p : Part) (e : PassRefusal) → RefusesWith e (comes p) → RefusesWith e (PartsCome comes size (p ∷ []))
  part_wrong size p e r = refuses_map e (comes p) (PartsCome comes size (p ∷ [])) (λ e is. PartsCome.refused size p [] (Err e) e is refl) r
