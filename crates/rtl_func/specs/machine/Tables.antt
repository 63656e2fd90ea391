-- The tables that the program looks up.
use Rattle.std.specs.Prelude.{◌≡◌, ℕ}
use Rattle.std.specs.Ordering.{nat_cmp}
use Rattle.std.specs.BTreeMap as map
use Rattle.rtx_tree.specs.declared.function.Function.{Function}
use Rattle.rtx_tree.specs.Patterns.{place_of}
use Rattle.rtl_func.specs.declared.tables.Tables.{Tables}
use Rattle.rtl_func.specs.Modes.{first_mode, mentions}

-- the places of labels, and the modes of pseudos
pub record AreTables (f : Function) (tables : Tables) : Type 0 where
  pub labels : (uid : ℕ) → map.get nat_cmp tables.labels uid ≡ place_of uid f.insns
  pub modes : (reg : ℕ) → map.get nat_cmp tables.modes reg ≡ first_mode (mentions f.insns) reg
