-- The trees behind a code, and its mode, give the smallest of their reasons: for each of the parts that a code may have.
use Rattle.std.proofs.Common.{◌≡◌, ◌≤◌, ℕ, ◌==◌, Bool, true, false, ◌&&◌, true≢false, List, [], ◌∷◌, Option, Some, None, Result, Ok, option_and_then, map, length, refl, sym, ap, ◌∙◌, arith}
use Rattle.std.specs.Prelude.{is_some}
use Rattle.std.specs.List.{AllByRecursion}
use Rattle.std.proofs.Math.Bool.{and-true, and-false}
use Rattle.std.proofs.lemmas.List.{append-nil}
use Rattle.rtx_tree.specs.declared.code.Code.{Code}
use Rattle.rtx_tree.specs.declared.code.Code.TheVariants.{SymbolRef}
use Rattle.rtx_tree.specs.declared.code.Mode.{Mode}
use Rattle.rtx_tree.specs.declared.class.Parts.{Parts}
use Rattle.rtx_tree.specs.declared.class.Parts.TheVariants as parts
use Rattle.rtx_tree.specs.declared.constants.Constant.{Constant}
use Rattle.rtx_tree.specs.Tree.{reg_of, const_of, named_of}
use Rattle.lisp_read.specs.declared.tree.Tree.{Tree}
use Rattle.lisp_read.specs.Shape.{vector_of, is_vector, string_of}
use Rattle.md_pattern.specs.declared.reason.Reason.{Reason}
use Rattle.md_pattern.specs.declared.reason.Reason.TheVariants as reason
use Rattle.md_pattern.specs.declared.operand.Operand.{Operand}
use Rattle.md_pattern.specs.declared.pattern.Pattern.{Pattern}
use Rattle.md_pattern.specs.Reason.{number_of, IsSmallest}
use Rattle.md_pattern.specs.Word as word
use Rattle.md_pattern.specs.Word.{register_of}
use Rattle.md_pattern.specs.Operand.{number_in, numbered, predicated, operand_in, scratch_in, dup_in}
use Rattle.md_pattern.specs.Pattern.{no_patterns, each, bare, or_aside, node_with, matching_with, register_by, word_in, symbol_in, node_by, is_lowpart, operand_by, behind, meaning_of, patterns_of}
use Rattle.md_pattern.specs.HasReason.{kinds_of, are_kinds, expressions_among}
use Rattle.md_pattern.proofs.Smallest.{Or, with}
use Rattle.md_pattern.proofs.Taken.{ArePlain, many, all_expressions, one_word, one_number, one_symbol, lowpart, numbered_is, predicated_is, dup, scratch, operand}
use Rattle.md_pattern.proofs.Behind.{Judged, Behind, misfit_or, nothing_inside, words, kids, elements, each_smallest}

module _ (cs : List Constant) (c : Code) (m : Result Mode Reason) (M : Reason → Type 0) (mode : IsSmallest M m) (later : (r : Reason) → M r → 2 ≤ number_of r) where
  abbrev All : Parts → List Tree → Reason → Type 0
  All p ts = Or M (Behind cs p ts)

  abbrev Least : Parts → List Tree → Result Pattern Reason → Type 0
  Least p ts x = IsSmallest (All p ts) x

  abbrev made : Parts → List Tree → Result Pattern Reason
  made p ts = behind cs c m p ts (map (meaning_of cs) ts)

  -- ---- a register

  of_register : (ts : List Tree) → Least parts.Register ts (made parts.Register ts)
  of_register ts = by_word (word_in ts) refl
    where
      by_register : (text : List ℕ) (o : Option ℕ) → word_in ts ≡ Some text → register_of cs text ≡ o → IsSmallest (Behind cs parts.Register ts) (or_aside reason.Code o)
      by_register text None is none = (Behind.register text refl is none, least)
        where
          least : (r : Reason) → Behind cs parts.Register ts r → 3 ≤ number_of r
          least _ (Behind.wrong e) = absurd (true≢false (sym (one_word cs ts ∙ ap is_some is) ∙ e))
          least _ (Behind.register _ _ _ _) = omega arith
          least r (Behind.inside _ fit has) = absurd (nothing_inside cs parts.Register ts r (refl, tt) has)
      by_register text (Some n) is there = none_there
        where
          some_none : (o : Option ℕ) → o ≡ Some n → o ≡ None → ⊥
          some_none o e f = cc

          none_there : (r : Reason) → Behind cs parts.Register ts r → ⊥
          none_there _ (Behind.wrong e) = true≢false (sym (one_word cs ts ∙ ap is_some is) ∙ e)
          none_there _ (Behind.register other _ same none) = some_none (register_of cs text) there (ap (register_of cs) (one_text text other (word_in ts) is same) ∙ none)
            where
              one_text : (a b : List ℕ) (o : Option (List ℕ)) → o ≡ Some a → o ≡ Some b → a ≡ b
              one_text a b o e f = cc
          none_there r (Behind.inside _ fit has) = nothing_inside cs parts.Register ts r (refl, tt) has

      by_word : (o : Option (List ℕ)) → word_in ts ≡ o → Least parts.Register ts (register_by cs m o)
      by_word None is = misfit_or cs parts.Register ts M later (one_word cs ts ∙ ap is_some is)
      by_word (Some text) is =
          with M (Behind cs parts.Register ts) (λ mode r. bare (reg_of mode r)) m (or_aside reason.Code (register_of cs text)) mode (by_register text (register_of cs text) is refl)

  -- ---- words

  of_number : (ts : List Tree) → Least parts.Number ts (made parts.Number ts)
  of_number ts = with M (Behind cs parts.Number ts) (λ mode n. bare (const_of n)) m (or_aside reason.Parts (option_and_then (word.number_of cs) (word_in ts))) mode
      (words cs parts.Number ts (λ e. cc) (option_and_then (word.number_of cs) (word_in ts)) (one_number cs ts) (refl, tt))

  of_symbol : (ts : List Tree) → Least parts.Symbol ts (made parts.Symbol ts)
  of_symbol ts = with M (Behind cs parts.Symbol ts) (λ mode name. bare (named_of SymbolRef mode name)) m (or_aside reason.Parts (symbol_in ts)) mode
      (words cs parts.Symbol ts (λ e. cc) (symbol_in ts) (one_symbol cs ts) (refl, tt))

  -- ---- expressions

  -- the parts fit or they don't, and then the expressions in them are read
  by_fit : (p : Parts) (ts : List Tree) (us : List Tree) (b : Bool) → (p ≡ parts.Register → ⊥) → are_kinds cs (kinds_of p) ts ≡ b →
      (b ≡ true → expressions_among (kinds_of p) ts ≡ us) → AllByRecursion (Judged cs) us →
      Least p ts (node_by b c m (map (meaning_of cs) us))
  by_fit p ts us false other fit are all = misfit_or cs p ts M later fit
  by_fit p ts us true other fit are all = with M (Behind cs p ts) (node_with c) m (each (map (meaning_of cs) us)) mode (kids cs p ts other us (each (map (meaning_of cs) us)) fit (are refl) (each_smallest cs us all))

  of_expressions : (n : ℕ) (ts : List Tree) → AllByRecursion (Judged cs) ts → Least (parts.Expressions n) ts (made (parts.Expressions n) ts)
  of_expressions n ts all = by_fit (parts.Expressions n) ts ts (length ts == n) (λ e. cc) (many cs n ts) (λ e. all_expressions cs n ts (many cs n ts ∙ e)) all

  of_lowpart : (ts : List Tree) → AllByRecursion (Judged cs) ts → Least parts.Lowpart ts (made parts.Lowpart ts)
  of_lowpart [] all = misfit_or cs parts.Lowpart [] M later refl
  of_lowpart (x ∷ []) all = misfit_or cs parts.Lowpart (x ∷ []) M later refl
  of_lowpart (x ∷ offset ∷ []) all = by_fit parts.Lowpart (x ∷ offset ∷ []) (x ∷ []) (is_lowpart (x ∷ offset ∷ [])) (λ e. cc) (lowpart cs (x ∷ offset ∷ [])) (λ e. refl) (all.0, tt)
  of_lowpart (x ∷ offset ∷ y ∷ ts) all = misfit_or cs parts.Lowpart (x ∷ offset ∷ y ∷ ts) M later (lowpart cs (x ∷ offset ∷ y ∷ ts))

  of_vector : (ts : List Tree) → AllByRecursion (Judged cs) ts → Least parts.Vector ts (made parts.Vector ts)
  of_vector [] all = misfit_or cs parts.Vector [] M later refl
  of_vector (v ∷ []) all = with M (Behind cs parts.Vector (v ∷ [])) (node_with c) m (patterns_of cs v) mode
      (elements cs parts.Vector (v ∷ []) (λ e. cc) v (and-true (is_vector v)) (append-nil (vector_of v)) all.0)
  of_vector (v ∷ x ∷ ts) all = misfit_or cs parts.Vector (v ∷ x ∷ ts) M later (and-false (is_vector v))

  -- ---- operands

  -- an operand without expressions
  alone : (p : Parts) (ts : List Tree) (o : Option Operand) → (p ≡ parts.Register → ⊥) → are_kinds cs (kinds_of p) ts ≡ is_some o → ArePlain (kinds_of p) → Least p ts (operand_by c m o (Ok no_patterns))
  alone p ts None other fit plain = misfit_or cs p ts M later fit
  alone p ts (Some o) other fit plain = with M (Behind cs p ts) (matching_with c o) m (Ok no_patterns) mode
      (words cs p ts other (Some no_patterns) fit plain)

  -- an operand with a vector of expressions
  filled : (p : Parts) (ts : List Tree) (v : Tree) (o : Option Operand) → (p ≡ parts.Register → ⊥) → are_kinds cs (kinds_of p) ts ≡ (is_some o && is_vector v) → expressions_among (kinds_of p) ts ≡ vector_of v → Judged cs v →
      Least p ts (operand_by c m o (patterns_of cs v))
  filled p ts v None other fit are judged = misfit_or cs p ts M later fit
  filled p ts v (Some o) other fit are judged = with M (Behind cs p ts) (matching_with c o) m (patterns_of cs v) mode (elements cs p ts other v fit are judged)

  of_operator : (ts : List Tree) → AllByRecursion (Judged cs) ts → Least parts.Operator ts (made parts.Operator ts)
  of_operator [] all = misfit_or cs parts.Operator [] M later refl
  of_operator (n ∷ []) all = misfit_or cs parts.Operator (n ∷ []) M later (and-false (is_some (number_in n)))
  of_operator (n ∷ p ∷ []) all = misfit_or cs parts.Operator (n ∷ p ∷ []) M later (ap (λ b. is_some (number_in n) && b) (and-false (is_some (string_of p))) ∙ and-false (is_some (number_in n)))
  of_operator (n ∷ p ∷ v ∷ []) all = filled parts.Operator (n ∷ p ∷ v ∷ []) v (predicated n p) (λ e. cc) fit (append-nil (vector_of v)) all.1.1.0
    where
      and_assoc : (a b d : Bool) → (a && (b && d)) ≡ ((a && b) && d)
      and_assoc true b d = refl
      and_assoc false b d = refl

      fit : are_kinds cs (kinds_of parts.Operator) (n ∷ p ∷ v ∷ []) ≡ (is_some (predicated n p) && is_vector v)
      fit = ap (λ b. is_some (number_in n) && (is_some (string_of p) && b)) (and-true (is_vector v)) ∙ and_assoc (is_some (number_in n)) (is_some (string_of p)) (is_vector v) ∙ ap (λ b. b && is_vector v) (sym (predicated_is cs n p))
  of_operator (n ∷ p ∷ v ∷ x ∷ ts) all = misfit_or cs parts.Operator (n ∷ p ∷ v ∷ x ∷ ts) M later
      (ap (λ b. is_some (number_in n) && (is_some (string_of p) && b)) (and-false (is_vector v)) ∙ ap (λ b. is_some (number_in n) && b) (and-false (is_some (string_of p))) ∙ and-false (is_some (number_in n)))

  of_operator_dup : (ts : List Tree) → AllByRecursion (Judged cs) ts → Least parts.OperatorDup ts (made parts.OperatorDup ts)
  of_operator_dup [] all = misfit_or cs parts.OperatorDup [] M later refl
  of_operator_dup (n ∷ []) all = misfit_or cs parts.OperatorDup (n ∷ []) M later (and-false (is_some (number_in n)))
  of_operator_dup (n ∷ v ∷ []) all = filled parts.OperatorDup (n ∷ v ∷ []) v (numbered n) (λ e. cc)
      (ap (λ b. is_some (number_in n) && b) (and-true (is_vector v)) ∙ ap (λ b. b && is_vector v) (sym (numbered_is cs n))) (append-nil (vector_of v)) all.1.0
  of_operator_dup (n ∷ v ∷ x ∷ ts) all = misfit_or cs parts.OperatorDup (n ∷ v ∷ x ∷ ts) M later (ap (λ b. is_some (number_in n) && b) (and-false (is_vector v)) ∙ and-false (is_some (number_in n)))

  -- ---- any

  pub of_parts : (p : Parts) (ts : List Tree) → AllByRecursion (Judged cs) ts → Least p ts (made p ts)
  of_parts parts.Register ts all = of_register ts
  of_parts parts.Number ts all = of_number ts
  of_parts parts.Symbol ts all = of_symbol ts
  of_parts parts.Lowpart ts all = of_lowpart ts all
  of_parts (parts.Expressions n) ts all = of_expressions n ts all
  of_parts parts.Vector ts all = of_vector ts all
  of_parts parts.Operand ts all = alone parts.Operand ts (operand_in ts) (λ e. cc) (operand cs ts) (refl, (refl, (refl, tt)))
  of_parts parts.Scratch ts all = alone parts.Scratch ts (scratch_in ts) (λ e. cc) (scratch cs ts) (refl, (refl, tt))
  of_parts parts.Dup ts all = alone parts.Dup ts (dup_in ts) (λ e. cc) (dup cs ts) (refl, tt)
  of_parts parts.Operator ts all = of_operator ts all
  of_parts parts.OperatorDup ts all = of_operator_dup ts all
