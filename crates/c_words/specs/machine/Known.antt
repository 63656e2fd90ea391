-- The words that are known before a text is read, in a row. Only private clauses and proofs speak
-- of them: what a word means, is said in Words and Atoms.
use Rattle.std.specs.Prelude.{ℕ, ◌-◌, List, [], ◌∷◌, ◌++◌, if◌then◌else◌, codes, map}
use Rattle.rtx_tree.specs.declared.code.Code.{Code}
use Rattle.rtx_tree.specs.declared.constants.Constant.{Constant}
use Rattle.rtx_tree.specs.Code.{code_name, all_codes}
use Rattle.c_words.specs.Words.{is_small, keyword_name, all_keywords}

-- what begins the names of facts of the target, the other word for a return, and the modes
abbrev pub first_words : List (List ℕ)
first_words =
    codes "TARGET_" ∷ codes "SIMPLE_RETURN" ∷ codes "VOIDmode" ∷ codes "QImode" ∷ codes "HImode" ∷ codes "SImode" ∷ codes "DImode" ∷ []

-- a letter in its capital form, any other byte as it is
abbrev pub capital : ℕ → ℕ
capital b = if is_small b then b - 32 else b

-- the word that a code is in C
abbrev pub code_word : Code → List ℕ
code_word c = map capital (code_name c)

-- the words that are known before a text is read
abbrev pub known_words : List Constant → List (List ℕ)
known_words cs = ((first_words ++ map keyword_name all_keywords) ++ map code_word all_codes) ++ map (λ c. c.name) cs
