-- A word that is taken as a keyword, a mode, a code or a constant is one of the known words.
use Rattle.std.proofs.Common.{◌≡◌, ℕ, ℤ, ◌+◌, ◌-◌, ◌≤◌, nat_le, Bool, true, false, cond, List, [], ◌∷◌, ◌++◌, Option, Some, None, refl, sym, ap, ◌∙◌, ◌||◌, ◌&&◌, map, not, find, option_map, arith}
use Rattle.std.specs.Prelude.{codes}
use Rattle.std.specs.Str.{bytes_eq}
use Rattle.std.specs.List.{list_any, list_all}
use Rattle.std.proofs.lemmas.List.Folds.{list_any-append}
use Rattle.std.proofs.lemmas.Slice.Eq.{bytes_eq-Decides}
use Rattle.std.proofs.lemmas.Bool.{le-leb, leb-true}
use Rattle.rtx_tree.specs.declared.code.Code.{Code}
use Rattle.rtx_tree.specs.declared.code.Code.TheVariants.{Return}
use Rattle.rtx_tree.specs.declared.code.Mode.{Mode}
use Rattle.rtx_tree.specs.declared.code.Mode.TheVariants as mode
use Rattle.rtx_tree.specs.declared.constants.Constant.{Constant}
use Rattle.rtx_tree.specs.Code.{code_name, all_codes, code_named, code_in}
use Rattle.c_words.specs.declared.keyword.Keyword.{Keyword}
use Rattle.c_words.specs.Words.{keyword_name, all_keywords, keyword_named, mode_named, is_capital, is_small, small, code_in_capitals}
use Rattle.name_places.specs.Names.{constant_named}
use Rattle.c_words.specs.machine.Known.{first_words, capital, code_word, known_words}

some_is : {A : Type 0} {x y : A} → Some x ≡ Some y → x ≡ y
some_is e = cc

none_some : {A : Type 0} {x : A} → None ≡ Some x → ⊥
none_some e = cc

pub both : {a b : Bool} → (a && b) ≡ true → (a ≡ true) × (b ≡ true)
both {a = true} {b = true} e = (refl, refl)
both {a = true} {b = false} e = absurd (apart e)
  where
    apart : false ≡ true → ⊥
    apart e = cc
both {a = false} {b} e = absurd (apart e)
  where
    apart : false ≡ true → ⊥
    apart e = cc

pub same_bytes : (a b : List ℕ) → bytes_eq a b ≡ true → a ≡ b
same_bytes a b e = (bytes_eq-Decides a b).0 e

pub or_first : (x y : Bool) → x ≡ true → (x || y) ≡ true
or_first x y e = rw e refl

pub or_second : (x y : Bool) → y ≡ true → (x || y) ≡ true
or_second true y e = refl
or_second false y e = e

-- ---- some word of a row

in_first : (q : List ℕ → Bool) (a b c d : List (List ℕ)) → list_any q a ≡ true → list_any q (((a ++ b) ++ c) ++ d) ≡ true
in_first q a b c d e =
    list_any-append q ((a ++ b) ++ c) d ∙ or_first _ _ (list_any-append q (a ++ b) c ∙ or_first _ _ (list_any-append q a b ∙ or_first _ _ e))

in_second : (q : List ℕ → Bool) (a b c d : List (List ℕ)) → list_any q b ≡ true → list_any q (((a ++ b) ++ c) ++ d) ≡ true
in_second q a b c d e =
    list_any-append q ((a ++ b) ++ c) d ∙ or_first _ _ (list_any-append q (a ++ b) c ∙ or_first _ _ (list_any-append q a b ∙ or_second _ _ e))

in_third : (q : List ℕ → Bool) (a b c d : List (List ℕ)) → list_any q c ≡ true → list_any q (((a ++ b) ++ c) ++ d) ≡ true
in_third q a b c d e = list_any-append q ((a ++ b) ++ c) d ∙ or_first _ _ (list_any-append q (a ++ b) c ∙ or_second _ _ e)

in_fourth : (q : List ℕ → Bool) (a b c d : List (List ℕ)) → list_any q d ≡ true → list_any q (((a ++ b) ++ c) ++ d) ≡ true
in_fourth q a b c d e = list_any-append q ((a ++ b) ++ c) d ∙ or_second _ _ e

abbrev pub names : List Constant → List (List ℕ)
names cs = map (λ c. c.name) cs

unfoldable pub Known : (List ℕ → Bool) → List Constant → Type 0
Known q cs = list_any q (known_words cs) ≡ true

first_listed : {A : Type 0} (f : A → List ℕ) (test : A → Bool) (q : List ℕ → Bool) (xs : List A) (x : A) → find test xs ≡ Some x → ((y : A) → test y ≡ true → q (f y) ≡ true) → list_any q (map f xs) ≡ true
first_listed f test q [] x e h = absurd (none_some e)
first_listed f test q (y ∷ ys) x e h = by_test (test y) refl e (λ e. first_listed f test q ys x e h)
  where
    by_test : (t : Bool) → test y ≡ t → cond t (Some y) (find test ys) ≡ Some x → (find test ys ≡ Some x → list_any q (map f ys) ≡ true) → list_any q (map f (y ∷ ys)) ≡ true
    by_test true k e ih = or_first (q (f y)) (list_any q (map f ys)) (h y k)
    by_test false k e ih = or_second (q (f y)) (list_any q (map f ys)) (ih e)

pub known_keyword : (cs : List Constant) (q : List ℕ → Bool) (word : List ℕ) (k : Keyword) → keyword_named word ≡ Some k → q word ≡ true → Known q cs
unfolding Known
known_keyword cs q word k e h =
    in_second q first_words (map keyword_name all_keywords) (map code_word all_codes) (names cs)
    (first_listed keyword_name (λ k. bytes_eq (keyword_name k) word) q all_keywords k e (λ y f. ap q (same_bytes (keyword_name y) word f) ∙ h))

-- ---- codes

letter_back : (b : ℕ) → not (is_small b) ≡ true → capital (small b) ≡ b
letter_back b h = by_small (is_small b) refl h
  where
    true_false : {A : Type 0} → false ≡ true → A
    true_false e = absurd (apart e)
      where
        apart : false ≡ true → ⊥
        apart e = cc

    by_capital : (t : Bool) → is_capital b ≡ t → is_small b ≡ false → capital (cond t (b + 32) b) ≡ b
    by_capital false c s = rw s refl
    by_capital true c s =
        let low : 65 ≤ b = leb-true 65 b (both c).0 in
        let high : b ≤ 90 = leb-true b 90 (both c).1 in
        let up : nat_le 97 (b + 32) ≡ true = le-leb 97 (b + 32) (omega (arith, low)) in
        let down : nat_le (b + 32) 122 ≡ true = le-leb (b + 32) 122 (omega (arith, high)) in
        let back : b + 32 - 32 ≡ b = omega arith in
        rw (up, down) back

    by_small : (s : Bool) → is_small b ≡ s → not s ≡ true → capital (small b) ≡ b
    by_small true f n = true_false n
    by_small false f n = by_capital (is_capital b) refl f

letters_back : (word : List ℕ) → list_all (λ b. not (is_small b)) word ≡ true → map capital (map small word) ≡ word
letters_back [] e = refl
letters_back (b ∷ bs) e = let f : (not (is_small b) ≡ true) × (list_all (λ b. not (is_small b)) bs ≡ true) = both e in rw (letter_back b f.0, letters_back bs f.1) refl

pub known_code : (cs : List Constant) (q : List ℕ → Bool) (word : List ℕ) (c : Code) → code_in_capitals word ≡ Some c → q word ≡ true → Known q cs
unfolding Known code_named
known_code cs q word c e h = by_test (list_all (λ b. not (is_small b)) word) refl e
  where
    by_test : (t : Bool) → list_all (λ b. not (is_small b)) word ≡ t → cond t (code_in (map small word)) None ≡ Some c → list_any q (known_words cs) ≡ true
    by_test false k e = absurd (none_some e)
    by_test true k e = by_return (bytes_eq (map small word) (codes "simple_return")) refl e
      where
        by_return : (t : Bool) → bytes_eq (map small word) (codes "simple_return") ≡ t → cond t (Some Return) (code_named (map small word)) ≡ Some c → list_any q (known_words cs) ≡ true
        by_return true f e =
            let is : word ≡ codes "SIMPLE_RETURN" = sym (letters_back word k) ∙ ap (map capital) (same_bytes (map small word) (codes "simple_return") f) in
            in_first q first_words (map keyword_name all_keywords) (map code_word all_codes) (names cs)
            (or_second (q (codes "TARGET_")) _ (or_first (q (codes "SIMPLE_RETURN")) _ (ap q (sym is) ∙ h)))
        by_return false f e =
            in_third q first_words (map keyword_name all_keywords) (map code_word all_codes) (names cs)
            (first_listed code_word (λ c. bytes_eq (code_name c) (map small word)) q all_codes c e (λ y f. ap q (ap (map capital) (same_bytes (code_name y) (map small word) f) ∙ letters_back word k) ∙ h))

-- ---- modes

-- a word is the first of a row, or what the others say
one_mode : (q : List ℕ → Bool) (word x : List ℕ) (xs : List (List ℕ)) (m n : Mode) (rest : Option Mode) → q word ≡ true → cond (bytes_eq word x) (Some n) rest ≡ Some m → (rest ≡ Some m → list_any q xs ≡ true) →
    list_any q (x ∷ xs) ≡ true
one_mode q word x xs m n rest h e ih = by_test (bytes_eq word x) refl e
  where
    by_test : (t : Bool) → bytes_eq word x ≡ t → cond t (Some n) rest ≡ Some m → list_any q (x ∷ xs) ≡ true
    by_test true f e = or_first (q x) (list_any q xs) (ap q (sym (same_bytes word x f)) ∙ h)
    by_test false f e = or_second (q x) (list_any q xs) (ih e)

abbrev by_di : List ℕ → Option Mode
by_di word = cond (bytes_eq word (codes "DImode")) (Some mode.DI) None

abbrev by_si : List ℕ → Option Mode
by_si word = cond (bytes_eq word (codes "SImode")) (Some mode.SI) (by_di word)

abbrev by_hi : List ℕ → Option Mode
by_hi word = cond (bytes_eq word (codes "HImode")) (Some mode.HI) (by_si word)

abbrev by_qi : List ℕ → Option Mode
by_qi word = cond (bytes_eq word (codes "QImode")) (Some mode.QI) (by_hi word)

abbrev di_words : List (List ℕ)
di_words = codes "DImode" ∷ []

abbrev si_words : List (List ℕ)
si_words = codes "SImode" ∷ di_words

abbrev hi_words : List (List ℕ)
hi_words = codes "HImode" ∷ si_words

abbrev qi_words : List (List ℕ)
qi_words = codes "QImode" ∷ hi_words

pub known_mode : (cs : List Constant) (q : List ℕ → Bool) (word : List ℕ) (m : Mode) → mode_named word ≡ Some m → q word ≡ true → Known q cs
unfolding Known
known_mode cs q word m e h =
    in_first q first_words (map keyword_name all_keywords) (map code_word all_codes) (names cs)
    (or_second (q (codes "TARGET_")) _ (or_second (q (codes "SIMPLE_RETURN")) (list_any q (codes "VOIDmode" ∷ qi_words))
    (one_mode q word (codes "VOIDmode") qi_words m mode.Void (by_qi word) h e (λ e.
    one_mode q word (codes "QImode") hi_words m mode.QI (by_hi word) h e (λ e.
    one_mode q word (codes "HImode") si_words m mode.HI (by_si word) h e (λ e.
    one_mode q word (codes "SImode") di_words m mode.SI (by_di word) h e (λ e.
    one_mode q word (codes "DImode") [] m mode.DI None h e (λ e. absurd (none_some e)))))))))

pub known_target : (cs : List Constant) (q : List ℕ → Bool) → q (codes "TARGET_") ≡ true → Known q cs
unfolding Known
known_target cs q h = in_first q first_words (map keyword_name all_keywords) (map code_word all_codes) (names cs) (or_first (q (codes "TARGET_")) _ h)

-- ---- constants

constant_listed : (cs : List Constant) (q : List ℕ → Bool) (word : List ℕ) (n : ℤ) → constant_named cs word ≡ Some n → q word ≡ true → list_any q (names cs) ≡ true
constant_listed [] q word n e h = absurd (none_some e)
constant_listed (c ∷ cs) q word n e h = by_test (bytes_eq c.name word) refl e (λ e. constant_listed cs q word n e h)
  where
    by_test : (t : Bool) → bytes_eq c.name word ≡ t → option_map (λ c. c.number) (cond t (Some c) (find (λ c. bytes_eq c.name word) cs)) ≡ Some n → (constant_named cs word ≡ Some n → list_any q (names cs) ≡ true) → list_any q (names (c ∷ cs)) ≡ true
    by_test true f e ih = or_first (q c.name) (list_any q (names cs)) (ap q (same_bytes c.name word f) ∙ h)
    by_test false f e ih = or_second (q c.name) (list_any q (names cs)) (ih e)

pub known_constant : (cs : List Constant) (q : List ℕ → Bool) (word : List ℕ) (n : ℤ) → constant_named cs word ≡ Some n → q word ≡ true → Known q cs
unfolding Known
known_constant cs q word n e h = in_fourth q first_words (map keyword_name all_keywords) (map code_word all_codes) (names cs) (constant_listed cs q word n e h)
