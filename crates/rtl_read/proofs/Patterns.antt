-- A pattern is the expression of a tree whose head names the code of a pattern.
use Rattle.std.proofs.Common.{◌≡◌, ℕ, true, false, Bool, List, [], ◌∷◌, Option, Some, None, map, refl, sym, ap, ◌∙◌, arith}
use Rattle.std.specs.Prelude.{if◌then◌else◌, option_map, option_and_then}
use Rattle.rtx_tree.specs.declared.code.Code.{Code}
use Rattle.rtx_tree.specs.declared.code.Mode.{Mode}
use Rattle.rtx_tree.specs.declared.tree.Rtx.{Rtx}
use Rattle.lisp_read.specs.declared.tree.Tree.{Tree}
use Rattle.lisp_read.specs.declared.head.Opening.{Opening}
use Rattle.rtx_tree.specs.declared.class.Class.{Class}
use Rattle.rtx_tree.specs.declared.class.Class.TheVariants as class
use Rattle.lisp_read.specs.declared.position.Position.TheVariants.{Top, Pattern}
use Rattle.lisp_read.specs.Shape.{atom_of, items_of}
use Rattle.rtx_tree.specs.Code.{class_of_code, is_effect_class, code_in}
use Rattle.lisp_read.specs.Positions.{admits, mode_of_class}
use Rattle.lisp_read.specs.Head.{cut, head_in, head_with, mode_in, flagged, flags_pass}
use Rattle.lisp_read.specs.Parsed.{Parsed, outside}
use Rattle.lisp_read.specs.Expression.{Meaning, meaning_of, expression_by, list_by, read_at, rtx_in, head_of_items, placed}
use Rattle.lisp_read.proofs.Meanings.{read_at_out}
use Rattle.rtl_read.specs.Word.{head_word, head_of_list}
use Rattle.rtl_read.specs.machine.Head.{is_pattern_code, names_pattern}

-- what a pattern is does not hang on the position
list_same : (k : Class) (h : Opening) (t : Tree) (inside : List Meaning) → is_effect_class k ≡ true → list_by k Pattern h t inside ≡ list_by k Top h t inside
list_same class.Register h t inside e = absurd (grind arith)
list_same class.Constant h t inside e = absurd (grind arith)
list_same class.Label h t inside e = absurd (grind arith)
list_same _ h t inside e = refl

abbrev head_with_mode : Code → Mode → Opening
head_with_mode c m = record { code = c; mode = m }

moded_same : (c : Code) (m : Option Mode) (t : Tree) (inside : List Meaning) → is_effect_class (class_of_code c) ≡ true →
    expression_by Pattern (option_map (head_with_mode c) m) t inside ≡ expression_by Top (option_map (head_with_mode c) m) t inside
moded_same c None t inside e = refl
moded_same c (Some m) t inside e = list_same (class_of_code c) (record { code = c; mode = m }) t inside e

top_admits : (k : Class) → is_effect_class k ≡ true → admits Top k ≡ true
top_admits class.Operand e = absurd (grind arith)
top_admits class.OperandAgain e = absurd (grind arith)
top_admits class.OperandScratch e = absurd (grind arith)
top_admits class.Operator e = absurd (grind arith)
top_admits class.OperatorAgain e = absurd (grind arith)
top_admits _ e = refl

by_pattern : (b : Bool) (c : Code) (m : Mode) (t : Tree) (inside : List Meaning) → is_effect_class (class_of_code c) ≡ b →
    expression_by Pattern (placed Pattern (head_with_mode c m)) t inside
    ≡ (if is_effect_class (class_of_code c) then expression_by Top (placed Top (head_with_mode c m)) t inside else outside t)
by_pattern true c m t inside e = rw e (rw (top_admits (class_of_code c) e) (moded_same c (mode_of_class (class_of_code c) m) t inside e))
by_pattern false c m t inside e = rw e refl

-- the head that an atom writes has the code that it names, if it is one
by_head : (c : Code) (flags : Option (List ℕ)) (mode : Option Mode) (t : Tree) (inside : List Meaning) →
    expression_by Pattern (option_and_then (placed Pattern) (option_and_then (head_with mode) (flagged flags c))) t inside
    ≡ (if is_effect_class (class_of_code c) then expression_by Top (option_and_then (placed Top) (option_and_then (head_with mode) (flagged flags c))) t inside else outside t)
by_head c flags mode t inside = flags_by (flags_pass c flags) mode
  where
    none : Parsed Rtx
    none = outside t

    nothing : (b : Bool) → none ≡ (if b then none else none)
    nothing true = refl
    nothing false = refl

    flags_by : (b : Bool) (mode : Option Mode) → expression_by Pattern (option_and_then (placed Pattern) (option_and_then (head_with mode) (if b then Some c else None))) t inside
        ≡ (if is_effect_class (class_of_code c) then expression_by Top (option_and_then (placed Top) (option_and_then (head_with mode) (if b then Some c else None))) t inside else outside t)
    flags_by false mode = nothing (is_effect_class (class_of_code c))
    flags_by true None = nothing (is_effect_class (class_of_code c))
    flags_by true (Some m) = by_pattern (is_effect_class (class_of_code c)) c m t inside refl

by_code : (c : Option Code) (flags : Option (List ℕ)) (mode : Option Mode) (t : Tree) (inside : List Meaning) →
    expression_by Pattern (option_and_then (placed Pattern) (option_and_then (head_with mode) (option_and_then (flagged flags) c))) t inside
    ≡ (if is_pattern_code c then expression_by Top (option_and_then (placed Top) (option_and_then (head_with mode) (option_and_then (flagged flags) c))) t inside else outside t)
by_code None flags mode t inside = refl
by_code (Some c) flags mode t inside = by_head c flags mode t inside

by_atom : (a : Option (List ℕ)) (t : Tree) (inside : List Meaning) →
    expression_by Pattern (option_and_then (placed Pattern) (option_and_then head_in a)) t inside
    ≡ (if is_pattern_code (option_and_then (λ text. code_in (head_word text)) a) then expression_by Top (option_and_then (placed Top) (option_and_then head_in a)) t inside else outside t)
by_atom None t inside = refl
by_atom (Some text) t inside = by_code (code_in (head_word text)) (cut 47 (cut 58 text).0).1 (mode_in (cut 58 text).1) t inside

by_items : (items : List Tree) (t : Tree) (inside : List Meaning) →
    expression_by Pattern (option_and_then (placed Pattern) (head_of_items items)) t inside
    ≡ (if is_pattern_code (option_and_then (λ text. code_in (head_word text)) (head_of_list items)) then expression_by Top (option_and_then (placed Top) (head_of_items items)) t inside else outside t)
by_items [] t inside = refl
by_items (h ∷ rest) t inside = by_atom (atom_of h) t inside

pub pattern_out : (t : Tree) → read_at Pattern t ≡ (if names_pattern t then rtx_in t else outside t)
pattern_out t = read_at_out Pattern t ∙ by_items (items_of t) t (map meaning_of (items_of t)) ∙ ap (λ (p : Parsed Rtx). if names_pattern t then p else outside t) (sym (read_at_out Top t))
