-- An operand that is changed before all inputs are taken, and an input that mentions its register:
-- GCC Internals, "Constraint Modifier Characters" (&). Of an input its number is asked, and which
-- registers it mentions.
use Rattle.std.specs.Prelude.{ℕ, ◌==◌, Bool, false, not, ◌&&◌, List}
use Rattle.std.specs.List.{list_any}
use Rattle.std.specs.Option.{option_map_or}
use Rattle.rtx_tree.specs.declared.tree.Rtx.{Rtx}
use Rattle.md_constr.specs.Admits.{register_of}

-- an input other than operand n mentions the register
abbrev pub is_shared : {A : Type 0} → (A → ℕ) → (A → ℕ → Bool) → List A → ℕ → ℕ → Bool
is_shared number_of mentions inputs n reg =
    list_any (λ input. not (number_of input == n) && mentions input reg) inputs

-- a register that is shared; what is in memory shares none
abbrev pub shares_register : (ℕ → Bool) → Rtx → Bool
shares_register shared x = option_map_or shared (register_of x) false

-- an operand that is changed, and that early, shares its register
abbrev pub clashes : Bool → Bool → Bool → Bool
clashes early changed shares = early && (changed && shares)
