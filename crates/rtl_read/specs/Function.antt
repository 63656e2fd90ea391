-- A function by its tree: GCC Internals, "RTL Function Units", in the compact form that GCC dumps
-- for reading by its RTL front end.
use Rattle.std.specs.Prelude.{ℕ, ℤ, ◌&&◌, ◌==◌, nat_le, Bool, List, [], ◌∷◌, ◌++◌, count_by, unwrap_or, Option, Some, None, if◌then◌else◌, option_map, option_and_then, codes}
use Rattle.std.specs.List.{list_all}
use Rattle.std.specs.Option.{option_or}
use Rattle.rtx_tree.specs.declared.code.Code.{Code}
use Rattle.rtx_tree.specs.declared.code.Code.TheVariants.{Reg}
use Rattle.rtx_tree.specs.declared.code.Mode.{Mode}
use Rattle.rtx_tree.specs.declared.function.Insn.{Insn}
use Rattle.rtx_tree.specs.declared.function.Function.{Function}
use Rattle.rtx_tree.specs.declared.tree.Rtx.{Rtx, out-Rtx}
use Rattle.lisp_read.specs.declared.tree.Tree.{Tree}
use Rattle.lisp_read.specs.Shape.{string_of, items_of, is_vector, is_nested, is_word}
use Rattle.lisp_read.specs.Leaf.{below}
use Rattle.lisp_read.specs.Parsed.{Parsed, stands, outside, or_outside, parsed_map, parsed_then}
use Rattle.text_words.specs.Words.{is_symbol}
use Rattle.rtl_read.specs.declared.parts.Returned.{Returned}
use Rattle.rtl_read.specs.declared.parts.Said.{Said}
use Rattle.rtl_read.specs.Word.{number_of, is_headed, is_alone, expression_of}
use Rattle.rtl_read.specs.Chain.{chain_of}
use Rattle.rtl_read.specs.Locals.{locals_in}

-- ---- the size of the locals

abbrev pub number_behind : List ℕ → List Tree → Option ℕ
number_behind word (h ∷ n ∷ []) = if is_word word h then number_of n else None
number_behind word _ = None

-- (locals N)
abbrev pub locals_of : Tree → Parsed ℕ
locals_of t = or_outside t (number_behind (codes "locals") (items_of t))

-- ---- the result

abbrev pub returned_in : Mode → ℕ → Returned
returned_in mode reg = record { mode = mode; reg = reg }

abbrev pub returned_register : Code → Mode → ℤ → Option Returned
returned_register Reg mode number = option_map (returned_in mode) (below 4294967296 number)
returned_register _ mode number = None

-- a register in its mode
abbrev pub returned_of : Rtx → Option Returned
returned_of x = returned_register (out-Rtx x).code (out-Rtx x).mode (out-Rtx x).number

-- (nil), or a register
abbrev pub result_of : Tree → Parsed (Option Returned)
result_of t =
    if is_alone (codes "nil") (items_of t) then stands None
    else or_outside t (option_map (λ r. Some r) (option_and_then returned_of (expression_of t)))

-- the one list or vector behind a word
abbrev pub sole_part : List ℕ → List Tree → Option Tree
sole_part word (h ∷ t ∷ []) = if is_word word h && is_nested t then Some t else None
sole_part word _ = None

abbrev pub return_by : Tree → Option Tree → Parsed (Option Returned)
return_by t (Some r) = result_of r
return_by t None = outside t

-- (return_rtx RESULT)
abbrev pub return_of : Tree → Parsed (Option Returned)
return_of t = return_by t (sole_part (codes "return_rtx") (items_of t))

abbrev pub crtl_by : Tree → Option Tree → Parsed (Option Returned)
crtl_by t (Some r) = return_of r
crtl_by t None = outside t

-- (crtl), or (crtl (return_rtx RESULT))
abbrev pub crtl_of : Tree → Parsed (Option Returned)
crtl_of t = if is_alone (codes "crtl") (items_of t) then stands None else crtl_by t (sole_part (codes "crtl") (items_of t))

-- ---- the items

abbrev pub says_nothing : Said
says_nothing = record { insns = []; locals = None; result = None }

abbrev pub says_chain : List Insn → Said
says_chain insns = record { insns = insns; locals = None; result = None }

abbrev pub says_locals : ℕ → Said
says_locals n = record { insns = []; locals = Some n; result = None }

abbrev pub says_result : Option Returned → Said
says_result r = record { insns = []; locals = None; result = r }

-- what an item says of its function; of a list with any other head nothing is asked
abbrev pub said_by : Tree → Parsed Said
said_by t =
    if is_vector t then outside t
    else (if is_headed (codes "insn-chain") t then parsed_map says_chain (chain_of t)
    else (if is_headed (codes "locals") t then parsed_map says_locals (locals_of t)
    else (if is_headed (codes "crtl") t then parsed_map says_result (crtl_of t) else stands says_nothing)))

-- what is said first, and what is said then
abbrev pub said_too : Said → Said → Said
said_too a b = record { insns = a.insns ++ b.insns; locals = option_or b.locals a.locals; result = option_or b.result a.result }

abbrev pub all_said : List Tree → Parsed Said
all_said [] = stands says_nothing
all_said (t ∷ ts) = parsed_then (said_by t) (λ first. parsed_map (said_too first) (all_said ts))

-- ---- the function

-- one chain, and no more than one size of the locals and one result
abbrev pub are_items : List Tree → Bool
are_items items =
    (count_by (is_headed (codes "insn-chain")) items == 1) && nat_le (count_by (is_headed (codes "locals")) items) 1 && nat_le (count_by (is_headed (codes "crtl")) items) 1

abbrev pub named_by : Option (List ℕ) → Option (List ℕ)
named_by None = None
named_by (Some name) = if is_symbol name then Some name else None

abbrev pub with_items : List Tree → List ℕ → List ℕ × List Tree
with_items items name = (name, items)

-- the name and the items of a function
abbrev pub function_parts : List Tree → Option (List ℕ × List Tree)
function_parts (h ∷ n ∷ items) =
    if is_word (codes "function") h && list_all is_nested items && are_items items then option_map (with_items items) (named_by (string_of n)) else None
function_parts _ = None

-- the number of the register of the result: a0 where there is none
abbrev pub result_register : Option Returned → ℕ
result_register None = 10
result_register (Some r) = r.reg

abbrev pub function_from : List ℕ → Said → Function
function_from name said = record {
  name = name;
  insns = said.insns;
  locals = unwrap_or said.locals (locals_in said.insns);
  result = option_map (λ r. r.mode) said.result;
  result_reg = result_register said.result;
}

abbrev pub function_of_items : List ℕ → List Tree → Parsed Function
function_of_items name items = parsed_map (function_from name) (all_said items)

abbrev pub function_by : Tree → Option (List ℕ × List Tree) → Parsed Function
function_by t (Some parts) = function_of_items parts.0 parts.1
function_by t None = outside t

-- (function "NAME" ITEMS)
abbrev pub function_of : Tree → Parsed Function
function_of t = function_by t (function_parts (items_of t))
