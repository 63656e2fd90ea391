-- A list by what it begins with and by the expressions in it.
use Rattle.std.proofs.Common.{◌≡◌, ◌≤◌, ◌<◌, ◌==◌, Bool, true, false, List, [], ◌∷◌, Option, Some, None, Result, Ok, Err, map, drop, length, ℕ, IfOk, refl, sym, ap, subst, ◌∙◌, if◌then◌else◌, arith, rules}
use Rattle.std.specs.Prelude.{codes}
use Rattle.plain_data.specs.declared.memory.Memory.{Memory}
use denote.Param.Weighed.{most}
use Rattle.rtx_tree.specs.declared.code.Code.{Code}
use Rattle.rtx_tree.specs.declared.code.Mode.{Mode}
use Rattle.rtx_tree.specs.declared.code.Mode.TheVariants.{Void}
use Rattle.rtx_tree.specs.declared.class.Parts.{Parts}
use Rattle.rtx_tree.specs.declared.class.Parts.TheVariants as parts
use Rattle.rtx_tree.specs.declared.constants.Constant.{Constant}
use Rattle.rtx_tree.specs.Code.{class_of_code, parts_of}
use Rattle.lisp_read.specs.declared.tree.Tree.{Tree}
use Rattle.lisp_read.specs.declared.tree.Tree.TheFolds as folds
use Rattle.lisp_read.proofs.tree.Tree.TheLaws.{the_size}
use Rattle.lisp_read.specs.Shape.{atom_of, items_of, vector_of, is_vector, is_word}
use Rattle.lisp_read.specs.Head.{code_of_head, mode_of_head}
use Rattle.md_pattern.specs.declared.reason.Reason.{Reason}
use Rattle.md_pattern.specs.declared.reason.Reason.TheVariants as reason
use Rattle.md_pattern.specs.declared.operand.Operand.{Operand}
use Rattle.md_pattern.specs.declared.pattern.Head.{Head}
use Rattle.md_pattern.specs.declared.pattern.Pattern.{Pattern}
use Rattle.md_pattern.specs.declared.pattern.Patterns.{Patterns}
use Rattle.md_pattern.specs.Reason.{judged_with}
use Rattle.md_pattern.specs.Pattern.{each, behind, mode_for, has_mode, node_with, node_by, matching_with, meaning_of, pattern_of, patterns_of, list_by, of_code, of_head, operand_by}
use Rattle.md_pattern.specs.Operand.{numbered, predicated}
use Rattle.md_pattern.specs.machine.Steps.{head_with, head_in, head_at, head_of, behind_head, elements_in, inner, made}
use Rattle.md_pattern.proofs.Meanings.{pattern_out, vector_out}

-- ---- the expressions are smaller

pub items_below : (t : Tree) → most (λ x. the_size x) (behind_head t) < the_size t
items_below t = search (rules, folds.the_lemmas)

pub vector_below : (t : Tree) → most (λ x. the_size x) (vector_of t) < the_size t
vector_below t = search (rules, folds.the_lemmas)

pub elements_below : (t : Tree) (us : List Tree) → Some us ≡ elements_in t → most (λ x. the_size x) us < the_size t
elements_below t us is = search (rules, folds.the_lemmas, vector_below t)

pub inner_below : (p : Parts) (ts us : List Tree) → Some us ≡ inner p ts → most (λ x. the_size x) us ≤ most (λ x. the_size x) ts
inner_below p ts us is = search (rules, elements_below)

pub below : (t : Tree) (p : Parts) (ts us : List Tree) → ts ≡ behind_head t → Some us ≡ inner p ts → most (λ x. the_size x) us < the_size t
below t p ts us behind is = let less = inner_below p ts us is in let small = items_below t in let same = ap (most (λ x. the_size x)) behind in omega (arith, less, small, same)

-- ---- what is made of them

module _ (cs : List Constant) where
  -- what is read where the expressions are those in a tree
  abbrev pub read_with : (Result Patterns Reason → Result Pattern Reason) → Option (List Tree) → Result Pattern Reason
  read_with make None = Err reason.Parts
  read_with make (Some us) = make (each (map (meaning_of cs) us))

  elements_read : (make : Result Patterns Reason → Result Pattern Reason) (v : Tree) → make (Err reason.Parts) ≡ Err reason.Parts → make (patterns_of cs v) ≡ read_with make (elements_in v)
  elements_read make v none = ap make (vector_out cs v) ∙ by_test (is_vector v)
    where
      by_test : (b : Bool) → make (if b then each (map (meaning_of cs) (vector_of v)) else Err reason.Parts) ≡ read_with make (if b then Some (vector_of v) else None)
      by_test true = refl
      by_test false = none

  module _ (c : Code) (m : Option Mode) where
    no_kids : (f : Mode → Patterns → Pattern) → judged_with f (mode_for c m) (Err reason.Parts) ≡ Err reason.Parts
    no_kids f = by_mode m
      where
        by_test : (b : Bool) (mode : Mode) → judged_with f (if b then Ok mode else Ok Void) (Err reason.Parts) ≡ Err reason.Parts
        by_test true mode = refl
        by_test false mode = refl

        by_mode : (n : Option Mode) → judged_with f (mode_for c n) (Err reason.Parts) ≡ Err reason.Parts
        by_mode None = refl
        by_mode (Some mode) = by_test (has_mode c) mode

    no_operand : (o : Option Operand) → operand_by c (mode_for c m) o (Err reason.Parts) ≡ Err reason.Parts
    no_operand None = refl
    no_operand (Some o) = no_kids (matching_with c o)

    by_count : (b : Bool) (ts : List Tree) → node_by b c (mode_for c m) (map (meaning_of cs) ts) ≡ read_with (judged_with (node_with c) (mode_for c m)) (if b then Some ts else None)
    by_count true ts = refl
    by_count false ts = refl

    behind_is : (p : Parts) (ts : List Tree) → behind cs c (mode_for c m) p ts (map (meaning_of cs) ts) ≡ read_with (made cs c (mode_for c m) p ts) (inner p ts)
    behind_is parts.Register ts = refl
    behind_is parts.Number ts = refl
    behind_is parts.Symbol ts = refl
    behind_is parts.Lowpart [] = refl
    behind_is parts.Lowpart (x ∷ []) = refl
    behind_is parts.Lowpart (x ∷ offset ∷ []) = by_count (is_word (codes "0") offset) (x ∷ [])
    behind_is parts.Lowpart (x ∷ offset ∷ y ∷ ts) = refl
    behind_is (parts.Expressions n) ts = by_count (length ts == n) ts
    behind_is parts.Vector [] = refl
    behind_is parts.Vector (v ∷ []) = elements_read (judged_with (node_with c) (mode_for c m)) v (no_kids (node_with c))
    behind_is parts.Vector (v ∷ w ∷ ts) = refl
    behind_is parts.Operand ts = refl
    behind_is parts.Scratch ts = refl
    behind_is parts.Dup ts = refl
    behind_is parts.Operator [] = refl
    behind_is parts.Operator (n ∷ []) = refl
    behind_is parts.Operator (n ∷ p ∷ []) = refl
    behind_is parts.Operator (n ∷ p ∷ v ∷ []) = elements_read (operand_by c (mode_for c m) (predicated n p)) v (no_operand (predicated n p))
    behind_is parts.Operator (n ∷ p ∷ v ∷ w ∷ ts) = refl
    behind_is parts.OperatorDup [] = refl
    behind_is parts.OperatorDup (n ∷ []) = refl
    behind_is parts.OperatorDup (n ∷ v ∷ []) = elements_read (operand_by c (mode_for c m) (numbered n)) v (no_operand (numbered n))
    behind_is parts.OperatorDup (n ∷ v ∷ w ∷ ts) = refl

  -- what is read behind a head
  abbrev pub read_head : Head → List Tree → Option (List Tree) → Result Pattern Reason
  read_head h ts us = read_with (made cs h.code (mode_for h.code h.mode) (parts_of (class_of_code h.code)) ts) us

  abbrev pub read_list : Result Head Reason → List Tree → Result Pattern Reason
  read_list (Err r) ts = Err r
  read_list (Ok h) ts = read_head h ts (inner (parts_of (class_of_code h.code)) ts)

  list_is : (items : List Tree) → list_by cs items (map (meaning_of cs) items) ≡ read_list (head_at items) (drop 1 items)
  list_is [] = refl
  list_is (word ∷ ts) = by_word (atom_of word)
    where
      by_code : (c : Option Code) (m : Option Mode) → of_code cs c m ts (map (meaning_of cs) ts) ≡ read_list (head_with c m) ts
      by_code None m = refl
      by_code (Some c) m = behind_is c m (parts_of (class_of_code c)) ts

      by_word : (o : Option (List ℕ)) → of_head cs o ts (map (meaning_of cs) ts) ≡ read_list (head_in o) ts
      by_word None = refl
      by_word (Some text) = by_code (code_of_head text) (mode_of_head text)

  by_head : (t : Tree) (o : Result Head Reason) (ts : List Tree) → o ≡ head_of t → ts ≡ behind_head t → read_list o ts ≡ pattern_of cs t
  by_head t o ts is behind = rw is (rw behind (sym (pattern_out cs t ∙ list_is (items_of t))))

  -- the list has no head
  pub no_head : (t : Tree) (r : Reason) → Err r ≡ head_of t → Err r ≡ pattern_of cs t
  no_head t r is = by_head t (Err r) (behind_head t) is refl

  -- the parts are not those that its code takes
  pub no_inner : (t : Tree) (h : Head) (ts : List Tree) → Ok h ≡ head_of t → ts ≡ behind_head t → None ≡ inner (parts_of (class_of_code h.code)) ts → Err reason.Parts ≡ pattern_of cs t
  no_inner t h ts is behind none = ap (read_head h ts) none ∙ by_head t (Ok h) ts is behind

  -- the expressions were read, and the rest was made
  pub whole : (t : Tree) (h : Head) (ts us : List Tree) (kids : Result Patterns Reason) (all : Result (Result Pattern Reason) Memory) → Ok h ≡ head_of t → ts ≡ behind_head t → Some us ≡ inner (parts_of (class_of_code h.code)) ts →
      kids ≡ each (map (meaning_of cs) us) → IfOk all (λ p. p ≡ made cs h.code (mode_for h.code h.mode) (parts_of (class_of_code h.code)) ts kids) → IfOk all (λ p. p ≡ pattern_of cs t)
  whole t h ts us kids all is behind some read makes =
      subst (λ (x : Result Pattern Reason). IfOk all (λ p. p ≡ x)) (ap (made cs h.code (mode_for h.code h.mode) (parts_of (class_of_code h.code)) ts) read ∙ ap (read_head h ts) some ∙ by_head t (Ok h) ts is behind) makes
