-- The words of patterns: numbers, names of constants, and registers. GCC Internals, "Constants" and
-- "Registers and Memory".
use Rattle.std.specs.Prelude.{ℕ, ℤ, ◌^◌, List, Option, option_and_then}
use Rattle.std.specs.Option.{option_or}
use Rattle.rtx_tree.specs.declared.constants.Constant.{Constant}
use Rattle.name_places.specs.Names.{constant_named}
use Rattle.lisp_read.specs.Leaf.{below}
use Rattle.text_words.specs.Words.{number_in}

-- a number, or the name of a constant
abbrev pub number_of : List Constant → List ℕ → Option ℤ
number_of constants text = option_or (number_in text) (constant_named constants text)

-- a hard register, by its number
abbrev pub register_of : List Constant → List ℕ → Option ℕ
register_of constants text = option_and_then (below 32) (number_of constants text)

-- the number of an operand, which has 32 bits
abbrev pub operand_number : List ℕ → Option ℕ
operand_number text = option_and_then (below (2 ^ 32)) (number_in text)
