-- A number and a register in parentheses, cut apart and put together.
use Rattle.std.proofs.Common.{◌≡◌, ℕ, ℤ, Bool, true, false, cond, nat_eq, length, List, [], ◌∷◌, ◌++◌, Option, Some, None, option_map, option_and_then, refl, sym, ◌∙◌, ap, subst, ◌≤◌, arith}
use Rattle.std.specs.List.{list_all}
use Rattle.std.proofs.lemmas.Bool.Decides.{nat_tests}
use Rattle.rv_text.specs.Lines.{register_text, number_text, place_text}
use Rattle.rv_text.specs.Text.{Finds}
use Rattle.rv_text.specs.machine.Cuts.{parts_at, place_parts, pair}
use Rattle.rv_text.proofs.Numbers.{and_true}
use Rattle.rv_text.proofs.Plain.{is_plain, plain_is_not, number_is_plain, register_is_plain}

abbrev pub two : List ℕ → List ℕ → List ℕ × List ℕ
two a b = (a, b)

-- a byte that does not stand in the front is found behind it
parts_at-append : (mark : ℕ) (front rest : List ℕ) → mark ≤ 41 → list_all is_plain front ≡ true → parts_at mark (front ++ mark ∷ rest) ≡ Some (two front rest)
parts_at-append mark [] rest small plain = let same : nat_eq mark mark ≡ true = grind (arith, nat_tests) in rw same refl
parts_at-append mark (byte ∷ front) rest small plain =
    let parts = and_true (is_plain byte) (list_all is_plain front) plain in
    let other = plain_is_not byte mark parts.0 small in
    let further = parts_at-append mark front rest small parts.1 in
    rw (other, further) refl

-- two pairs are equal where their parts are
pair_parts : {X Y : Type 0} (a b : X × Y) → Some a ≡ Some b → (a.0 ≡ b.0) × (a.1 ≡ b.1)
pair_parts a b is = let same : a ≡ b = cc in (ap (λ p. p.0) same, ap (λ p. p.1) same)

here : (mark byte : ℕ) (bytes front rest : List ℕ) → byte ≡ mark → Some (two [] bytes) ≡ Some (two front rest) → byte ∷ bytes ≡ front ++ mark ∷ rest
here mark byte bytes front rest same is =
    let parts = pair_parts (two [] bytes) (two front rest) is in
    ap (λ x. x ∷ bytes) same ∙ (ap (λ x. x ++ mark ∷ bytes) parts.0 ∙ ap (λ x. front ++ mark ∷ x) parts.1)

there : (mark byte : ℕ) (bytes front rest : List ℕ) (found : Option (List ℕ × List ℕ)) → ((f r : List ℕ) → found ≡ Some (two f r) → bytes ≡ f ++ mark ∷ r) →
    option_map (λ (parts : List ℕ × List ℕ). two (byte ∷ parts.0) parts.1) found ≡ Some (two front rest) → byte ∷ bytes ≡ front ++ mark ∷ rest
there mark byte bytes front rest None all is = cc
there mark byte bytes front rest (Some (f, r)) all is =
    let parts = pair_parts (two (byte ∷ f) r) (two front rest) is in
    ap (λ x. byte ∷ x) (all f r refl) ∙ (ap (λ x. x ++ mark ∷ r) parts.0 ∙ ap (λ x. front ++ mark ∷ x) parts.1)

either : (mark byte : ℕ) (bytes front rest : List ℕ) (b : Bool) → nat_eq byte mark ≡ b → ((f r : List ℕ) → parts_at mark bytes ≡ Some (two f r) → bytes ≡ f ++ mark ∷ r) →
    cond b (Some (two [] bytes)) (option_map (λ (parts : List ℕ × List ℕ). two (byte ∷ parts.0) parts.1) (parts_at mark bytes)) ≡ Some (two front rest) → byte ∷ bytes ≡ front ++ mark ∷ rest
either mark byte bytes front rest true test all is = let same : byte ≡ mark = grind (arith, nat_tests) in here mark byte bytes front rest same is
either mark byte bytes front rest false test all is = there mark byte bytes front rest (parts_at mark bytes) all is

parts_at-says : (mark : ℕ) (bytes front rest : List ℕ) → parts_at mark bytes ≡ Some (two front rest) → bytes ≡ front ++ mark ∷ rest
parts_at-says mark [] front rest is = cc
parts_at-says mark (byte ∷ bytes) front rest is = either mark byte bytes front rest (nat_eq byte mark) refl (λ f r e. parts_at-says mark bytes f r e) is

-- put together and cut apart
pub place_joined : (number reg : List ℕ) → list_all is_plain number ≡ true → list_all is_plain reg ≡ true → place_parts (number ++ 40 ∷ (reg ++ 41 ∷ [])) ≡ Some (two number reg)
place_joined number reg one other = rw (parts_at-append 40 number (reg ++ 41 ∷ []) (omega arith) one, parts_at-append 41 reg [] (omega arith) other) refl

-- cut apart and put together
closes : (text number rest reg : List ℕ) (back : Option (List ℕ × List ℕ)) → ((f r : List ℕ) → back ≡ Some (two f r) → rest ≡ f ++ 41 ∷ r) → text ≡ number ++ 40 ∷ rest →
    option_and_then (λ (b : List ℕ × List ℕ). cond (nat_eq (length b.1) 0) (Some (two number b.0)) None) back ≡ Some (two number reg) → text ≡ number ++ 40 ∷ (reg ++ 41 ∷ [])
closes text number rest reg None all is_text is = cc
closes text number rest reg (Some (f, [])) all is_text is =
    let parts = pair_parts (two number f) (two number reg) is in
    is_text ∙ ap (λ x. number ++ 40 ∷ x) (all f [] refl ∙ ap (λ x. x ++ 41 ∷ []) parts.1)
closes text number rest reg (Some (f, b ∷ r)) all is_text is = let no : nat_eq (length (b ∷ r)) 0 ≡ false = grind (arith, nat_tests) in let e = rw no at is in cc

number_is : (rest front number reg : List ℕ) (back : Option (List ℕ × List ℕ)) → option_and_then (λ (b : List ℕ × List ℕ). cond (nat_eq (length b.1) 0) (Some (two front b.0)) None) back ≡ Some (two number reg) → front ≡ number
number_is rest front number reg None is = cc
number_is rest front number reg (Some (f, [])) is = (pair_parts (two front f) (two number reg) is).0
number_is rest front number reg (Some (f, b ∷ r)) is = let no : nat_eq (length (b ∷ r)) 0 ≡ false = grind (arith, nat_tests) in let e = rw no at is in cc

opens : (text number reg : List ℕ) (front : Option (List ℕ × List ℕ)) → ((f r : List ℕ) → front ≡ Some (two f r) → text ≡ f ++ 40 ∷ r) →
    option_and_then (λ (a : List ℕ × List ℕ). option_and_then (λ (b : List ℕ × List ℕ). cond (nat_eq (length b.1) 0) (Some (two a.0 b.0)) None) (parts_at 41 a.1)) front ≡ Some (two number reg) → text ≡ number ++ 40 ∷ (reg ++ 41 ∷ [])
opens text number reg None all is = cc
opens text number reg (Some (f, r)) all is =
    let same = number_is r f number reg (parts_at 41 r) is in
    let P : List ℕ → Type 0 = λ n. option_and_then (λ (b : List ℕ × List ℕ). cond (nat_eq (length b.1) 0) (Some (two n b.0)) None) (parts_at 41 r) ≡ Some (two number reg) in
    closes text number r reg (parts_at 41 r) (λ g s e. parts_at-says 41 r g s e) (all f r refl ∙ ap (λ x. x ++ 40 ∷ r) same) (subst P same is)

pub place_says : (text number reg : List ℕ) → place_parts text ≡ Some (two number reg) → text ≡ number ++ 40 ∷ (reg ++ 41 ∷ [])
place_says text number reg is = opens text number reg (parts_at 40 text) (λ f r e. parts_at-says 40 text f r e) is

-- what a text of a place says of its parts
pub place_text_says : (number reg : Option (List ℕ)) (text : List ℕ) → place_text number reg ≡ Some text → (n : List ℕ) × (r : List ℕ) × (number ≡ Some n) × (reg ≡ Some r) × (text ≡ n ++ 40 ∷ (r ++ 41 ∷ []))
place_text_says None reg text is = cc
place_text_says (Some n) None text is = cc
place_text_says (Some n) (Some r) text is = (n, r, refl, refl, cc)

pub no_place : (least most : ℤ) (text : List ℕ) → place_parts text ≡ None → (p : ℤ × ℕ) → place_text (number_text least most p.0) (register_text p.1) ≡ Some text → ⊥
no_place least most text none p is =
    let says = place_text_says (number_text least most p.0) (register_text p.1) text is in
    let joined = place_joined says.0 says.1 (number_is_plain least most p.0 says.0 says.2) (register_is_plain p.1 says.1 says.3) in
    let there : place_parts text ≡ Some (two says.0 says.1) = ap place_parts says.4 ∙ joined in cc

module _ (least most : ℤ) (text number reg : List ℕ) (parts : place_parts text ≡ Some (two number reg)) where
  -- a place of the text has these parts
  pub of_place : (p : ℤ × ℕ) → place_text (number_text least most p.0) (register_text p.1) ≡ Some text → (number_text least most p.0 ≡ Some number) × (register_text p.1 ≡ Some reg)
  of_place p is =
      let says = place_text_says (number_text least most p.0) (register_text p.1) text is in
      let joined = place_joined says.0 says.1 (number_is_plain least most p.0 says.0 says.2) (register_is_plain p.1 says.1 says.3) in
      let there : Some (two says.0 says.1) ≡ Some (two number reg) = sym (ap place_parts says.4 ∙ joined) ∙ parts in
      let same = pair_parts (two says.0 says.1) (two number reg) there in
      (says.2 ∙ ap Some same.0, says.3 ∙ ap Some same.1)

  pub place_finds : (n : Option ℤ) (r : Option ℕ) → Finds (λ z. number_text least most z ≡ Some number) n → Finds (λ k. register_text k ≡ Some reg) r →
      Finds (λ (p : ℤ × ℕ). place_text (number_text least most p.0) (register_text p.1) ≡ Some text) (pair n r)
  place_finds None r none other = λ p is. none p.0 (of_place p is).0
  place_finds (Some z) None found none = λ p is. none p.1 (of_place p is).1
  place_finds (Some z) (Some k) found other = (
    rw (found.0, other.0) (ap Some (sym (place_says text number reg parts))),
    λ p is. (let both = of_place p is in let one = found.1 p.0 both.0 in let two = other.1 p.1 both.1 in λ i. (one i, two i)),
  )

pub place_found : (least most : ℤ) (text number reg : List ℕ) → place_parts text ≡ Some (two number reg) → (n : Option ℤ) (r : Option ℕ) (result : Option (ℤ × ℕ)) → Finds (λ z. number_text least most z ≡ Some number) n →
    Finds (λ k. register_text k ≡ Some reg) r → result ≡ pair n r → Finds (λ (p : ℤ × ℕ). place_text (number_text least most p.0) (register_text p.1) ≡ Some text) result
place_found least most text number reg parts n r result one other is =
    subst (Finds (λ (p : ℤ × ℕ). place_text (number_text least most p.0) (register_text p.1) ≡ Some text)) (sym is) (place_finds least most text number reg parts n r one other)
