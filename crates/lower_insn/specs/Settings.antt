-- The operands of an instruction as a form asks for them, with the instructions that make them so:
-- GCC Internals, "Addressing Modes", "Machine-Independent Predicates" and "Standard Pattern Names
-- For Generation". What a form does not take is set into a new pseudo register before the
-- instruction, and what it does not set is set from one behind it.
use Rattle.std.specs.Prelude.{ℕ, ◌+◌, Bool, true, not, ◌&&◌, if◌then◌else◌, List, [], ◌∷◌, ◌++◌, flat_map, Option, Some, None, option_map, option_and_then}
use Rattle.std.specs.List.{find}
use Rattle.std.specs.Option.{option_map_or}
use Rattle.rtx_tree.specs.declared.code.Code.{Code}
use Rattle.rtx_tree.specs.declared.code.Code.TheVariants.{Mem}
use Rattle.rtx_tree.specs.declared.code.Mode.{Mode}
use Rattle.rtx_tree.specs.declared.code.Mode.TheVariants.{DI}
use Rattle.rtx_tree.specs.declared.tree.Rtx.{Rtx}
use Rattle.rtx_tree.specs.Registers.{pseudo}
use Rattle.rtx_tree.specs.Tree.{head_of, kids_of, tree_of, reg_of}
use Rattle.rtx_tree.specs.Patterns.{set_rtx}
use Rattle.rtx_tree.specs.Code.{mode_or}
use Rattle.md_operand.specs.Addresses.{is_legitimate_address}
use Rattle.md_match.specs.Pattern.{placeholders, gives_number}
use Rattle.md_recog.specs.Match.{Accepts, names_predicate}
use Rattle.std_name.specs.declared.standard.OperandRole.{OperandRole}
use Rattle.std_name.specs.declared.standard.OperandRole.TheVariants.{Target, Input, Comparison, Fixed}
use Rattle.std_name.specs.declared.standard.StandardOperand.{StandardOperand}
use Rattle.lower_insn.specs.declared.part.Prepared.{Prepared}

-- ---- what operands come to: what stands before, the operands, what stands behind, and the next free pseudo register

abbrev pub prepared : List Rtx → List StandardOperand → List Rtx → ℕ → Prepared
prepared before operands after next = record { before = before; operands = operands; after = after; next = next }

-- no operands
abbrev pub nothing : ℕ → Prepared
nothing next = prepared [] [] [] next

-- an operand as it is
abbrev pub unchanged : StandardOperand → ℕ → Prepared
unchanged operand next = prepared [] (operand ∷ []) [] next

-- some operands, and others behind them
abbrev pub joined : Prepared → Prepared → Prepared
joined a b = prepared (a.before ++ b.before) (a.operands ++ b.operands) (a.after ++ b.after) b.next

-- another tree stands as the operand
abbrev pub with_tree : StandardOperand → Rtx → StandardOperand
with_tree operand x = record operand { tree = x }

-- ---- addresses

-- the memory at the address that the new register holds, which is set before
abbrev pub address_set : StandardOperand → Rtx → ℕ → Prepared
address_set operand address next =
    prepared (set_rtx (reg_of DI (pseudo next)) address ∷ [])
    (with_tree operand (tree_of (head_of operand.tree) (reg_of DI (pseudo next) ∷ [])) ∷ []) [] (next + 1)

abbrev pub addressed_at : StandardOperand → Rtx → ℕ → Prepared
addressed_at operand address next = if is_legitimate_address address then unchanged operand next else address_set operand address next

abbrev pub addressed_by : Code → List Rtx → StandardOperand → ℕ → Prepared
addressed_by Mem (address ∷ []) operand next = addressed_at operand address next
addressed_by _ kids operand next = unchanged operand next

-- an operand, where an address that is not legitimate is set into a new register
abbrev pub addressed_one : StandardOperand → ℕ → Prepared
addressed_one operand next =
    addressed_by (head_of operand.tree).code (kids_of operand.tree) operand next

-- each operand in its order
abbrev pub addressed : List StandardOperand → ℕ → Prepared
addressed [] next = nothing next
addressed (operand ∷ operands) next =
    let first = addressed_one operand next in joined first (addressed operands first.next)

-- ---- predicates

-- the placeholder of a form's patterns that gives the operand with a number
abbrev pub placeholder_of : List Rtx → ℕ → Option Rtx
placeholder_of patterns number = find (gives_number number) (flat_map placeholders patterns)

-- whether the predicate that a placeholder names refuses a tree in the placeholder's mode
abbrev pub refuses : Accepts → Rtx → Rtx → Bool
refuses accepts p x =
    names_predicate (head_of p).code && not (accepts (head_of p).name x (head_of p).mode)

-- the new register holds the value, which is set before
abbrev pub input_set : Mode → StandardOperand → ℕ → Prepared
input_set mode operand next =
    prepared (set_rtx (reg_of mode (pseudo next)) operand.tree ∷ []) (with_tree operand (reg_of mode (pseudo next)) ∷ []) [] (next + 1)

-- the new register gets the value, which is moved behind
abbrev pub target_moved : Mode → StandardOperand → ℕ → Prepared
target_moved mode operand next =
    prepared [] (with_tree operand (reg_of mode (pseudo next)) ∷ []) (set_rtx operand.tree (reg_of mode (pseudo next)) ∷ []) (next + 1)

-- A new register in the place of an operand that is refused; what has its place can't have one. A
-- comparison waits for its operands.
abbrev pub replaced_by : OperandRole → Mode → StandardOperand → ℕ → Option Prepared
replaced_by Input mode operand next = Some (input_set mode operand next)
replaced_by Target mode operand next = Some (target_moved mode operand next)
replaced_by Comparison mode operand next = Some (unchanged operand next)
replaced_by Fixed mode operand next = None

-- An operand with its placeholder. A new register has the operand's mode, or the placeholder's
-- where it has none. An instruction that is held, a move that lowering itself made,
-- gets no more registers.
abbrev pub fitted_at : Accepts → Bool → StandardOperand → ℕ → Rtx → Option Prepared
fitted_at accepts held operand next p =
    if refuses accepts p operand.tree
    then (if held then None else replaced_by operand.role (mode_or operand.mode (head_of p).mode) operand next)
    else Some (unchanged operand next)

-- the operand with a number; a form without a placeholder for it asks nothing
abbrev pub fitted_one : Accepts → List Rtx → Bool → ℕ → StandardOperand → ℕ → Option Prepared
fitted_one accepts patterns held number operand next =
    option_map_or (fitted_at accepts held operand next) (placeholder_of patterns number) (Some (unchanged operand next))

-- each operand in its order, from a number on; none where one is refused for which no register can
-- stand
abbrev pub fitted : Accepts → List Rtx → Bool → ℕ → List StandardOperand → ℕ → Option Prepared
fitted accepts patterns held number [] next = Some (nothing next)
fitted accepts patterns held number (operand ∷ operands) next =
    option_and_then (λ first. option_map (joined first) (fitted accepts patterns held (number + 1) operands first.next)) (fitted_one accepts patterns held number operand next)

-- ---- comparisons

-- A comparison is made of the two operands behind it: operand 1 of `cstoreMODE4` compares operands 2
-- and 3, operand 0 of `cbranchMODE4` compares operands 1 and 2.
abbrev pub compared_by : OperandRole → StandardOperand → List StandardOperand → StandardOperand
compared_by Comparison operand (a ∷ b ∷ more) =
    with_tree operand (tree_of (head_of operand.tree) (a.tree ∷ b.tree ∷ []))
compared_by _ operand behind = operand

-- operands, with comparisons of what the others are
abbrev pub compared : List StandardOperand → List StandardOperand
compared [] = []
compared (operand ∷ operands) = compared_by operand.role operand operands ∷ compared operands

-- whether a form takes a tree as the operand with a number; one without a placeholder for it asks
-- nothing
abbrev pub takes : Accepts → List Rtx → ℕ → Rtx → Bool
takes accepts patterns number x =
    option_map_or (λ p. not (refuses accepts p x)) (placeholder_of patterns number) true

abbrev pub takes_comparison : OperandRole → Accepts → List Rtx → ℕ → Rtx → Bool
takes_comparison Comparison accepts patterns number x = takes accepts patterns number x
takes_comparison _ accepts patterns number x = true

-- whether it takes each comparison, of the operands from a number on
abbrev pub takes_comparisons : Accepts → List Rtx → ℕ → List StandardOperand → Bool
takes_comparisons accepts patterns number [] = true
takes_comparisons accepts patterns number (operand ∷ operands) =
    takes_comparison operand.role accepts patterns number operand.tree && takes_comparisons accepts patterns (number + 1) operands

-- prepared operands with their comparisons, if the form takes these
abbrev pub with_operands : Prepared → List StandardOperand → Prepared
with_operands p operands = prepared p.before operands p.after p.next

abbrev pub with_comparisons : Accepts → List Rtx → Prepared → Option Prepared
with_comparisons accepts patterns p =
    if takes_comparisons accepts patterns 0 (compared p.operands)
    then Some (with_operands p (compared p.operands))
    else None
