-- What the text of an operand gives to a line.
use Rattle.std.proofs.Common.{◌≡◌, ◌≢◌, ℕ, ℤ, true, false, List, [], ◌∷◌, Option, Some, None, option_map, refl, sym, ◌∙◌, ap, subst}
use Rattle.text_words.specs.Words.{is_symbol}
use Rattle.rv_text.specs.Lines.{register_text, number_text, place_text}
use Rattle.rv_text.specs.Text.{Finds, Sets}
use Rattle.rv_text.specs.declared.line.Line.{Line}
use Rattle.rv_text.specs.declared.operand.Operand.TheVariants.{Rd, Rs, Rt, Number, Place, Target, Ra}
use Rattle.rv_text.proofs.Numbers.{if_some}

pub rd_sets : (text : List ℕ) (before : Line) (read : Option ℕ) (result : Option Line) → Finds (λ reg. register_text reg ≡ Some text) read → result ≡ option_map (λ reg. record before { rd = reg }) read → Finds (Sets Rd text before) result
rd_sets text before read result finds is = subst (Finds (Sets Rd text before)) (sym is) (cases read finds)
  where
    cases : (read : Option ℕ) → Finds (λ reg. register_text reg ≡ Some text) read → Finds (Sets Rd text before) (option_map (λ reg. record before { rd = reg }) read)
    cases None none = λ line sets. none line.rd sets.text_is
    cases (Some reg) found = (record { text_is = found.0; rest_is = refl }, λ line sets. sets.rest_is ∙ ap (λ r. record before { rd = r }) (found.1 line.rd sets.text_is))

pub rs_sets : (text : List ℕ) (before : Line) (read : Option ℕ) (result : Option Line) → Finds (λ reg. register_text reg ≡ Some text) read → result ≡ option_map (λ reg. record before { rs = reg }) read → Finds (Sets Rs text before) result
rs_sets text before read result finds is = subst (Finds (Sets Rs text before)) (sym is) (cases read finds)
  where
    cases : (read : Option ℕ) → Finds (λ reg. register_text reg ≡ Some text) read → Finds (Sets Rs text before) (option_map (λ reg. record before { rs = reg }) read)
    cases None none = λ line sets. none line.rs sets.text_is
    cases (Some reg) found = (record { text_is = found.0; rest_is = refl }, λ line sets. sets.rest_is ∙ ap (λ r. record before { rs = r }) (found.1 line.rs sets.text_is))

pub rt_sets : (text : List ℕ) (before : Line) (read : Option ℕ) (result : Option Line) → Finds (λ reg. register_text reg ≡ Some text) read → result ≡ option_map (λ reg. record before { rt = reg }) read → Finds (Sets Rt text before) result
rt_sets text before read result finds is = subst (Finds (Sets Rt text before)) (sym is) (cases read finds)
  where
    cases : (read : Option ℕ) → Finds (λ reg. register_text reg ≡ Some text) read → Finds (Sets Rt text before) (option_map (λ reg. record before { rt = reg }) read)
    cases None none = λ line sets. none line.rt sets.text_is
    cases (Some reg) found = (record { text_is = found.0; rest_is = refl }, λ line sets. sets.rest_is ∙ ap (λ r. record before { rt = r }) (found.1 line.rt sets.text_is))

pub imm_sets : (least most : ℤ) (text : List ℕ) (before : Line) (read : Option ℤ) (result : Option Line) → Finds (λ z. number_text least most z ≡ Some text) read → result ≡ option_map (λ z. record before { imm = z }) read →
    Finds (Sets (Number least most) text before) result
imm_sets least most text before read result finds is = subst (Finds (Sets (Number least most) text before)) (sym is) (cases read finds)
  where
    cases : (read : Option ℤ) → Finds (λ z. number_text least most z ≡ Some text) read → Finds (Sets (Number least most) text before) (option_map (λ z. record before { imm = z }) read)
    cases None none = λ line sets. none line.imm sets.text_is
    cases (Some z) found = (record { text_is = found.0; rest_is = refl }, λ line sets. sets.rest_is ∙ ap (λ r. record before { imm = r }) (found.1 line.imm sets.text_is))

pub place_sets : (least most : ℤ) (text : List ℕ) (before : Line) (read : Option (ℤ × ℕ)) (result : Option Line) → Finds (λ p. place_text (number_text least most p.0) (register_text p.1) ≡ Some text) read →
    result ≡ option_map (λ p. record before { rs = p.1; imm = p.0 }) read → Finds (Sets (Place least most) text before) result
place_sets least most text before read result finds is = subst (Finds (Sets (Place least most) text before)) (sym is) (cases read finds)
  where
    cases : (read : Option (ℤ × ℕ)) → Finds (λ p. place_text (number_text least most p.0) (register_text p.1) ≡ Some text) read → Finds (Sets (Place least most) text before) (option_map (λ p. record before { rs = p.1; imm = p.0 }) read)
    cases None none = λ line sets. none (line.imm, line.rs) sets.text_is
    cases (Some p) found = (record { text_is = found.0; rest_is = refl }, λ line sets. sets.rest_is ∙ ap (λ (q : ℤ × ℕ). record before { rs = q.1; imm = q.0 }) (found.1 (line.imm, line.rs) sets.text_is))

pub target_found : (text : List ℕ) (before : Line) → is_symbol text ≡ true → Finds (Sets Target text before) (Some (record before { target = text }))
target_found text before symbol =
    (record { text_is = rw symbol refl; rest_is = refl }, λ line sets. sets.rest_is ∙ ap (λ t. record before { target = t }) (if_some (is_symbol line.target) line.target text sets.text_is).1)

pub target_none : (text : List ℕ) (before : Line) → is_symbol text ≡ false → (line : Line) → Sets Target text before line → ⊥
target_none text before none line sets =
    let parts = if_some (is_symbol line.target) line.target text sets.text_is in
    let symbol : is_symbol text ≡ true = ap is_symbol (sym parts.1) ∙ parts.0 in cc

pub ra_found : (text : List ℕ) (before : Line) → 114 ∷ 97 ∷ [] ≡ text → Finds (Sets Ra text before) (Some before)
ra_found text before is = (record { text_is = ap Some is; rest_is = refl }, λ line sets. sets.rest_is)

pub ra_none : (text : List ℕ) (before : Line) → 114 ∷ 97 ∷ [] ≢ text → (line : Line) → Sets Ra text before line → ⊥
ra_none text before other line sets = let same : 114 ∷ 97 ∷ [] ≡ text = let e = sets.text_is in cc in other same
