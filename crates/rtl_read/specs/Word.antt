-- The words of RTL's text: numbers, and the atom at the head of a list. GCC Internals, "Reading
-- RTL" and "Machine Modes".
use Rattle.std.specs.Prelude.{ℕ, Bool, false, List, [], ◌∷◌, Option, Some, None, option_and_then}
use Rattle.rtx_tree.specs.declared.code.Code.{Code}
use Rattle.rtx_tree.specs.declared.tree.Rtx.{Rtx}
use Rattle.lisp_read.specs.declared.tree.Tree.{Tree}
use Rattle.lisp_read.specs.Head.{cut}
use Rattle.lisp_read.specs.Leaf.{uid_in}
use Rattle.lisp_read.specs.Parsed.{Parsed, stands, construct}
use Rattle.lisp_read.specs.Expression.{rtx_in}
use Rattle.lisp_read.specs.Shape.{atom_of, items_of, is_word}
use Rattle.rtx_tree.specs.Code.{code_in}

-- the number of 32 bits that an atom writes
abbrev pub number_of : Tree → Option ℕ
number_of t = option_and_then uid_in (atom_of t)

-- a list that begins with this word
abbrev pub begins : List ℕ → List Tree → Bool
begins word (h ∷ parts) = is_word word h
begins word [] = false

abbrev pub is_headed : List ℕ → Tree → Bool
is_headed word t = begins word (items_of t)

-- the list of this word alone
abbrev pub is_alone : List ℕ → List Tree → Bool
is_alone word (h ∷ []) = is_word word h
is_alone word _ = false

-- the word of a head: what stands before its flags and its mode
abbrev pub head_word : List ℕ → List ℕ
head_word text = (cut 47 (cut 58 text).0).0

-- the head that a list begins with
abbrev pub head_of_list : List Tree → Option (List ℕ)
head_of_list (h ∷ parts) = atom_of h
head_of_list [] = None

-- the code that the head of a tree names, whatever its flags and its mode
abbrev pub named_code : Tree → Option Code
named_code t = option_and_then (λ text. code_in (head_word text)) (head_of_list (items_of t))

-- the expression of a tree, if it is one
abbrev pub if_stands : {A : Type 0} → Parsed A → Option A
if_stands (stands x) = Some x
if_stands (construct place name) = None

abbrev pub expression_of : Tree → Option Rtx
expression_of t = if_stands (rtx_in t)
