-- The expressions whose parts are words: registers, constants, labels and symbols. GCC Internals,
-- "Registers and Memory", "Constant Expression Types", and for the registers' names the RISC-V ELF
-- psABI, "Integer Register Convention".
use Rattle.std.specs.Prelude.{ℕ, ◌-◌, ℤ, pos, negsuc, nat_lt, ◌==◌, ◌&&◌, List, [], ◌∷◌, Option, Some, None, if◌then◌else◌, option_map, option_and_then, take, drop, length, slice_index, codes}
use Rattle.std.specs.Option.{option_or}
use Rattle.std.specs.Str.{bytes_eq}
use Rattle.rtx_tree.specs.declared.code.Code.TheVariants.{SymbolRef}
use Rattle.rtx_tree.specs.declared.code.Mode.{Mode}
use Rattle.rtx_tree.specs.declared.tree.Rtx.{Rtx}
use Rattle.rtx_tree.specs.Registers.{number_of_reg, hard_reg, virtual_stack_vars, pseudo}
use Rattle.rtx_tree.specs.Tree.{reg_of, const_of, named_of}
use Rattle.rtx_tree.specs.Patterns.{label_rtx}
use Rattle.text_words.specs.Words.{number_in, is_symbol}
use Rattle.lisp_read.specs.declared.tree.Tree.{Tree}
use Rattle.rtx_tree.specs.declared.class.Class.{Class}
use Rattle.rtx_tree.specs.declared.class.Class.TheVariants.{Register, Constant, Label}
use Rattle.lisp_read.specs.declared.position.Position.{Position}
use Rattle.lisp_read.specs.Positions.{admits_register}
use Rattle.lisp_read.specs.Shape.{atom_of, string_of, items_of, is_nested}
use Rattle.lisp_read.specs.Parsed.{Parsed, outside, or_outside}

-- a number from 0 up to, and without, a limit
abbrev pub below : ℕ → ℤ → Option ℕ
below limit (pos n) = if nat_lt n limit then Some n else None
below limit (negsuc n) = None

-- what stands between < and >
abbrev pub angled_in : List ℕ → Option (List ℕ)
angled_in text =
    let last = length text - 1 in
    if nat_lt 1 (length text) && (slice_index text 0 == 60) && (slice_index text last == 62) then Some (take (last - 1) (drop 1 text)) else None

-- <K>, K being below 2,147,483,648
abbrev pub pseudo_in : List ℕ → Option ℕ
pseudo_in text = option_map pseudo (option_and_then (below 2147483648) (option_and_then number_in (angled_in text)))

abbrev pub stack_vars_in : List ℕ → Option ℕ
stack_vars_in text =
    if bytes_eq text (codes "virtual-stack-vars") then Some virtual_stack_vars else None

abbrev pub hard_in : List ℕ → Option ℕ
hard_in text = option_map hard_reg (number_of_reg text)

-- a register: a hard one by its name, `virtual-stack-vars`, or a pseudo register
abbrev pub register_in : List ℕ → Option ℕ
register_in text = option_or (hard_in text) (option_or (stack_vars_in text) (pseudo_in text))

-- a register that may stand at the position
abbrev pub allowed : Position → ℕ → Option ℕ
allowed p r = if admits_register p r then Some r else None

abbrev pub register_at : Position → Mode → List ℕ → Option Rtx
register_at p m text = option_map (reg_of m) (option_and_then (allowed p) (register_in text))

abbrev pub constant_in : List ℕ → Option Rtx
constant_in text = option_map const_of (number_in text)

-- a label's uid, which has 32 bits
abbrev pub uid_in : List ℕ → Option ℕ
uid_in text = option_and_then (below 4294967296) (number_in text)

abbrev pub label_in : List ℕ → Option Rtx
label_in text = option_map label_rtx (uid_in text)

-- what the word behind the head says
abbrev pub word_at : Class → Position → Mode → List ℕ → Option Rtx
word_at Register p m text = register_at p m text
word_at Constant p m text = constant_in text
word_at Label p m text = label_in text
word_at _ p m text = None

-- a name in quotes loses one star in front; what is left is a symbol
abbrev pub unstarred : List ℕ → List ℕ
unstarred [] = []
unstarred (b ∷ bs) = if b == 42 then bs else b ∷ bs

abbrev pub symbol_of : List ℕ → Option (List ℕ)
symbol_of text = if is_symbol (unstarred text) then Some (unstarred text) else None

-- ("NAME")
abbrev pub quoted_name : List Tree → Option (List ℕ)
quoted_name (s ∷ []) = option_and_then symbol_of (string_of s)
quoted_name _ = None

abbrev pub symbol_at : Mode → Tree → Parsed Rtx
symbol_at m l = or_outside l (option_map (named_of SymbolRef m) (quoted_name (items_of l)))

-- The expression t by the items of its list. What stands behind the first word or list is passed
-- over.
abbrev pub symbol_with : Tree → Mode → List Tree → Parsed Rtx
symbol_with t m (h ∷ l ∷ more) = if is_nested l then symbol_at m l else outside t
symbol_with t m _ = outside t

abbrev pub word_with : Tree → Class → Position → Mode → List Tree → Parsed Rtx
word_with t c p m (h ∷ w ∷ more) = or_outside t (option_and_then (word_at c p m) (atom_of w))
word_with t c p m _ = outside t
