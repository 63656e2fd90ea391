-- The mnemonic with a name.
use Rattle.std.specs.Prelude.{ℕ, List, [], ◌∷◌, Option, Some, None, option_map, if◌then◌else◌, bytes_eq}
use Rattle.rv_text.specs.Table.{row_of, all_mnemonics}
use Rattle.rv_text.specs.declared.mnemonic.Mnemonic.{Mnemonic}
use Rattle.rv_word.specs.Spelling.{spelling_of}
use Rattle.rv_word.specs.declared.spelling.Spelling.{Spelling}

-- the first of some mnemonics that has a name
abbrev pub find_mnemonic : List ℕ → List Mnemonic → Option Mnemonic
find_mnemonic name [] = None
find_mnemonic name (mnemonic ∷ mnemonics) =
    if bytes_eq (row_of mnemonic).name name then Some mnemonic else find_mnemonic name mnemonics

-- the mnemonic with a name
unfoldable pub mnemonic_named : List ℕ → Option Mnemonic
mnemonic_named name = find_mnemonic name all_mnemonics

-- which words a line with a name has
abbrev pub spelling_named : List ℕ → Option Spelling
spelling_named name = option_map spelling_of (mnemonic_named name)
