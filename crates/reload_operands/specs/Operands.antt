-- What reload knows of the operands of an instruction: GCC Internals, "RTL Template", "Simple
-- Constraints" and "RTL passes" (reload). The instruction is matched where references to the frame
-- are put in and homes are not; with its homes it is handed in too.
use Rattle.std.specs.Prelude.{ℕ, ℤ, pos, negsuc, Bool, true, false, ◌==◌, nat_lt, List, [], ◌∷◌, Option, Some, if◌then◌else◌, is_some}
use Rattle.std.specs.List.{find, flat_map}
use Rattle.rtx_tree.specs.declared.code.Code.{Code}
use Rattle.rtx_tree.specs.declared.code.Code.TheVariants.{Scratch, MatchOperator}
use Rattle.rtx_tree.specs.declared.tree.Rtx.{Rtx}
use Rattle.rtx_tree.specs.Operands.{operand_at}
use Rattle.rtx_tree.specs.Tree.{head_of}
use Rattle.rtx_tree.specs.Code.{mode_or}
use Rattle.md_operand.specs.declared.built_in.BuiltIn.{BuiltIn}
use Rattle.md_operand.specs.declared.built_in.BuiltIn.TheVariants as owns
use Rattle.md_operand.specs.Operand.{built_in_named}
use Rattle.md_match.specs.Pattern.{Ops, gives, gives_number, placeholders}
use Rattle.assign.specs.declared.home.HomeOf.{HomeOf}
use Rattle.assign.specs.declared.places.Layout.{Layout}
use Rattle.reload_homes.specs.Homes.{homed}
use Rattle.reload_operands.specs.Put.{in_lowpart}
use Rattle.reload_operands.specs.Directions.{is_input, is_output, is_clobbered, is_hidden}
use Rattle.reload_operands.specs.Bases.{in_slot, base_of}
use Rattle.reload_operands.specs.Changes.{changes_address, other_memory}
use Rattle.reload_operands.specs.declared.operand.Operand.{Operand}

-- ---- which operands there are: those that placeholders give, each once, in increasing number

-- a list in increasing order with a number more, where it is missing
abbrev pub with_number : List ℕ → ℕ → List ℕ
with_number [] k = k ∷ []
with_number (n ∷ ns) k =
    if nat_lt k n then k ∷ (n ∷ ns) else if k == n then n ∷ ns else n ∷ with_number ns k

-- no operand has a negative number
abbrev pub with_natural : List ℕ → ℤ → List ℕ
with_natural ns (pos k) = with_number ns k
with_natural ns (negsuc k) = ns

-- with the number that a placeholder gives
abbrev pub with_given : List ℕ → Rtx → List ℕ
with_given ns p = if gives (head_of p).code then with_natural ns (head_of p).number else ns

abbrev pub with_all_given : List ℕ → List Rtx → List ℕ
with_all_given ns [] = ns
with_all_given ns (p ∷ ps) = with_all_given (with_given ns p) ps

-- the numbers of the operands that a pattern gives
abbrev pub numbers_of : Rtx → List ℕ
numbers_of pattern = with_all_given [] (placeholders pattern)

-- the first placeholder that gives the operand with a number
abbrev pub giver : Rtx → ℕ → Option Rtx
giver pattern k = find (gives_number k) (placeholders pattern)

-- ---- what an operand is

abbrev pub is_scratch_code : Code → Bool
is_scratch_code Scratch = true
is_scratch_code _ = false

abbrev pub is_operator_code : Code → Bool
is_operator_code MatchOperator = true
is_operator_code _ = false

-- whether a predicate is that of addresses
abbrev pub is_address_predicate : Option BuiltIn → Bool
is_address_predicate (Some owns.Address) = true
is_address_predicate _ = false

-- ---- an operand, and all of them

abbrev pub operand_for : Rtx → Rtx → Rtx → List HomeOf → Layout → ℕ → Rtx → Rtx → Operand
operand_for pattern placed with_homes homes layout k p x = record {
  number = k;
  tree = homed homes layout x;
  mode = mode_or (head_of x).mode (head_of p).mode;
  is_operator = is_operator_code (head_of p).code;
  is_scratch = is_scratch_code (head_of x).code;
  is_address = is_address_predicate (built_in_named (head_of p).name);
  is_input = is_input pattern k;
  is_output = is_output pattern k;
  is_clobbered = is_clobbered pattern k;
  is_hidden = is_hidden pattern k;
  in_slot = in_slot homes x;
  in_lowpart = in_lowpart pattern placed k;
  base = base_of homes layout x;
  changed_address = changes_address homes placed with_homes (is_some (base_of homes layout x)) x (homed homes layout x);
  other_memory = other_memory pattern placed k;
}

abbrev pub at_both : {A : Type 0} → (Rtx → Rtx → A) → Option Rtx → Option Rtx → List A
at_both f (Some p) (Some x) = f p x ∷ []
at_both f _ _ = []

-- the operand with a number, where its placeholder and its tree are there
abbrev pub operand_with : Rtx → Ops → Rtx → Rtx → List HomeOf → Layout → ℕ → List Operand
operand_with pattern found placed with_homes homes layout k =
    at_both (operand_for pattern placed with_homes homes layout k) (giver pattern k) (operand_at found k)

-- the operands that a pattern has found in an instruction, in increasing number
abbrev pub operands_of : Rtx → Ops → Rtx → Rtx → List HomeOf → Layout → List Operand
operands_of pattern found placed with_homes homes layout =
    flat_map (operand_with pattern found placed with_homes homes layout) (numbers_of pattern)
