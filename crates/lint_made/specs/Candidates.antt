-- What may stand in the place of a placeholder: GCC Internals, "RTL Template". A candidate is a tree
-- with a slot for a register. The addresses are those of "Addressing Modes" with the ends of the
-- offsets of loads and stores.
use Rattle.std.specs.Prelude.{ℕ, ℤ, pos, negsuc, Bool, not, List, [], ◌∷◌, ◌++◌, filter, codes, if◌then◌else◌}
use Rattle.std.specs.List.{flat_map}
use Rattle.std.specs.Ordering.{int_eq}
use Rattle.rtx_tree.specs.declared.code.Code.{Code}
use Rattle.rtx_tree.specs.declared.code.Code.TheVariants as code
use Rattle.rtx_tree.specs.declared.code.Mode.{Mode}
use Rattle.rtx_tree.specs.declared.code.Mode.TheVariants.{Void, DI}
use Rattle.rtx_tree.specs.declared.tree.Rtx.{Rtx}
use Rattle.rtx_tree.specs.Code.{all_codes, named_modes, class_of_code, is_value_class, same_mode}
use Rattle.rtx_tree.specs.Tree.{reg_of, const_of, named_of, node_of, leaf_of}
use Rattle.rtx_tree.specs.Patterns.{sum_rtx}
use Rattle.rv_regs.specs.Registers.{stack_pointer}
use Rattle.lint_made.specs.declared.candidate.Candidate.{Candidate}
use Rattle.lint_made.specs.declared.candidate.Candidate.TheVariants as candidate

-- ---- its tree

abbrev pub sum_at : ℕ → ℤ → Rtx
sum_at reg offset = sum_rtx (reg_of DI reg) (const_of offset)

-- the address of a register and an offset
abbrev pub place_at : ℕ → ℤ → Rtx
place_at reg offset = if int_eq offset (pos 0) then reg_of DI reg else sum_at reg offset

abbrev pub memory_at : Mode → ℕ → ℤ → Rtx
memory_at mode reg offset = node_of code.Mem mode (place_at reg offset ∷ [])

-- the name of the symbol that is tried
abbrev pub symbol_tried : List ℕ
symbol_tried = codes "symbol"

abbrev pub symbol_tree : Rtx
symbol_tree = named_of code.SymbolRef DI symbol_tried

-- a candidate's tree, with a register in its slot; an operator's has no parts yet, and what is the
-- same as another operand is a dup of it
abbrev pub tree_with : ℕ → Candidate → Rtx
tree_with reg (candidate.Register mode) = reg_of mode reg
tree_with reg (candidate.Number number) = const_of number
tree_with reg candidate.Symbol = symbol_tree
tree_with reg (candidate.Memory mode offset) = memory_at mode reg offset
tree_with reg (candidate.StackMemory mode offset) = memory_at mode stack_pointer offset
tree_with reg (candidate.Address offset) = place_at reg offset
tree_with reg (candidate.Operator code mode) = leaf_of code mode (pos 0)
tree_with reg (candidate.Same operand) = leaf_of code.MatchDup Void (pos operand)

-- ---- of an operand

-- the modes in which an operand is tried first: its own, or each where it has none
abbrev pub modes_of : Mode → List Mode
modes_of Void = named_modes
modes_of own = own ∷ []

-- the others, which a predicate that asks for no mode accepts too
abbrev pub other_modes : Mode → List Mode
other_modes Void = []
other_modes own = filter (λ m. not (same_mode own m)) named_modes

abbrev pub register_in : Mode → List Candidate
register_in mode = candidate.Register mode ∷ []

abbrev pub registers_of : List Mode → List Candidate
registers_of modes = flat_map register_in modes

-- memory of a mode at each kind of address
abbrev pub memory_of : Mode → List Candidate
memory_of mode =
    candidate.Memory mode (pos 0) ∷ candidate.Memory mode (negsuc 2047) ∷ candidate.Memory mode (pos 2047) ∷
    candidate.Memory mode (pos 8) ∷ candidate.StackMemory mode (pos 2040) ∷ []

-- addresses: the last is far
abbrev pub addresses : List Candidate
addresses = candidate.Address (pos 0) ∷ candidate.Address (negsuc 2047) ∷ candidate.Address (pos 2047) ∷ candidate.Address (pos 5000) ∷ []

abbrev pub number_in : ℤ → List Candidate
number_in n = candidate.Number n ∷ []

-- a target is no constant
abbrev pub constants_for : Bool → List ℤ → List Candidate
constants_for is_target numbers =
    if is_target then [] else flat_map number_in numbers ++ candidate.Symbol ∷ []

-- what stands behind registers and constants
abbrev pub rest_of : Mode → List Candidate
rest_of mode =
    flat_map memory_of (modes_of mode) ++ (addresses ++ registers_of (other_modes mode))

-- in the place of an operand of a mode, in this order
abbrev pub operand_candidates : Bool → Mode → List ℤ → List Candidate
operand_candidates is_target mode numbers =
    registers_of (modes_of mode) ++ (constants_for is_target numbers ++ rest_of mode)

-- ---- of an operator

-- in the place of an operator in a mode: each code of a value
abbrev pub operator_in : Mode → Code → List Candidate
operator_in mode c =
    if is_value_class (class_of_code c) then candidate.Operator c mode ∷ [] else []

unfoldable pub operators_in : Mode → List Candidate
operators_in mode = flat_map (operator_in mode) all_codes

-- its own mode comes first
abbrev pub operator_candidates : Mode → List Candidate
operator_candidates mode = operators_in mode ++ flat_map operators_in (other_modes mode)

-- ---- of a placeholder, by its code

-- a scratch is a register; a dup gives nothing
abbrev pub candidates_by : Code → Bool → Mode → List ℤ → List Candidate
candidates_by code.MatchOperand is_target mode numbers = operand_candidates is_target mode numbers
candidates_by code.MatchScratch is_target mode numbers = registers_of (modes_of mode)
candidates_by code.MatchOperator is_target mode numbers = operator_candidates mode
candidates_by _ is_target mode numbers = []
