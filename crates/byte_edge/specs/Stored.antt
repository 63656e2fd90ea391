-- Files in memory.
use Rattle.std.specs.Prelude.{◌≡◌, ◌≢◌, ℕ, List, find}
use Rattle.std.specs.Str.{bytes_eq}
use Rattle.std.specs.Option.{option_map}
use Rattle.std.specs.declared.option.Option.{Option}
use Rattle.std.specs.declared.option.Option.TheVariants.{Some}
use Rattle.byte_edge.specs.declared.stored.Entry.{Entry}

-- a file of this name and these bytes
abbrev pub entry : List ℕ → List ℕ → Entry
entry name bytes = record { name = name; bytes = bytes }

-- the bytes of the file of a name, if it is there
abbrev pub file_of : List Entry → List ℕ → Option (List ℕ)
file_of entries name = option_map (λ e. e.bytes) (find (λ e. bytes_eq e.name name) entries)

-- the name has these bytes, and every other name is as before
pub record PutsFile (old new : List Entry) (name bytes : List ℕ) : Type 0 where
  pub there : file_of new name ≡ Some bytes
  pub others : (other : List ℕ) → other ≢ name → file_of new other ≡ file_of old other
