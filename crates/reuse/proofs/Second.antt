-- The second of a repeated value, and what it becomes.
use Rattle.std.proofs.Common.{◌≡◌, ℕ, ◌≤◌, ◌<◌, ◌&&◌, ◌||◌, ◌==◌, ◌^◌, not, nat_le, pos, true, false, List, [], ◌∷◌, Some, refl, ap, subst, ◌∙◌, arith}
use Rattle.std.specs.Prelude.{slice_get, option_map}
use Rattle.std.specs.Int.{cast_unsigned, w64}
use Rattle.std.specs.List.{list_all}
use Rattle.std.proofs.lemmas.Bool.{and_parts, and_from}
use Rattle.std.proofs.lemmas.Bool.Decides.{nat_tests}
use Rattle.rtx_tree.specs.Code.{class_of_code}
use Rattle.rtx_tree.specs.declared.code.Code.{Code}
use Rattle.rtx_tree.specs.declared.code.Code.TheVariants.{Reg, Set}
use Rattle.rtx_tree.specs.declared.code.Mode.{Mode}
use Rattle.rtx_tree.specs.declared.tree.Rtx.{Rtx}
use Rattle.rtx_tree.specs.declared.function.Insn.{Insn}
use Rattle.rtx_tree.specs.declared.function.Kind.{Kind}
use Rattle.rtx_tree.specs.declared.function.Kind.TheVariants.{Plain}
use Rattle.rtx_tree.specs.Registers.{pseudo, virtual_stack_vars}
use Rattle.rtx_tree.specs.Tree.{RtxHead, head_of, kids_of, tree_of, reg_of, changed_at, replaced_at}
use Rattle.rtx_tree.proofs.Trees.{head_of-tree, kids_of-tree}
use Rattle.rtl_func.specs.Modes.{register_by}
use Rattle.rtl_func.specs.Calls.{is_hard_argument, has_argument, use_is_argument, argument_registers}
use Rattle.rtl_func.proofs.AllPass.{all_pass, pass_out, itself, within}
use Rattle.std_name.specs.Operands.{is_leaf_class, is_vars_by}
use Rattle.reuse.specs.Reuse.{set_mode_by, set_mode, reusing, is_computed}

-- ---- a plain set of a register, by its parts

pub record SecondParts (i : Insn) : Type 0 where
  pub target : Rtx
  pub source : Rtx
  pub plain : i.kind ≡ Plain
  pub kids_are : kids_of i.pattern ≡ target ∷ source ∷ []

parts_by : (i : Insn) (mode : Mode) (k : Kind) (c : Code) (kids : List Rtx) → i.kind ≡ k → kids_of i.pattern ≡ kids → set_mode_by k c kids ≡ Some mode → SecondParts i
parts_by i mode Plain Set (target ∷ source ∷ []) plain kids is = record { target = target; source = source; plain = plain; kids_are = kids }
parts_by i mode _ _ _ plain kids is = absurd (let none : ⊥ = cc in none)

pub second_parts : (i : Insn) (mode : Mode) → set_mode i ≡ Some mode → SecondParts i
second_parts i mode is = parts_by i mode i.kind (head_of i.pattern).code (kids_of i.pattern) refl refl is

-- ---- with a register

-- the number of a pseudo register, read as one
pub number_is : (register : ℕ) → register < 2 ^ 32 → cast_unsigned w64 (pos register) ≡ register
number_is register below = grind (arith, below)

module _ (i : Insn) (s : SecondParts i) (x : Rtx) where
  pub new_pattern : replaced_at (1 ∷ []) x i.pattern ≡ tree_of (head_of i.pattern) (s.target ∷ x ∷ [])
  new_pattern = ap (λ ks. tree_of (head_of i.pattern) (changed_at ks 1 (option_map (replaced_at [] x) (slice_get ks 1)))) s.kids_are

  new_kids : kids_of (replaced_at (1 ∷ []) x i.pattern) ≡ s.target ∷ x ∷ []
  new_kids = ap kids_of new_pattern ∙ kids_of-tree (head_of i.pattern) (s.target ∷ x ∷ [])

  pub new_source : slice_get (kids_of (replaced_at (1 ∷ []) x i.pattern)) 1 ≡ Some x
  new_source = ap (λ ks. slice_get ks 1) new_kids

  -- of the hard registers it names a0 to a7 alone, where both do
  new_arguments : all_pass has_argument i.pattern ≡ true → all_pass has_argument x ≡ true → all_pass has_argument (tree_of (head_of i.pattern) (s.target ∷ x ∷ [])) ≡ true
  new_arguments whole own =
      let kids = s.target ∷ x ∷ [] in
      let head : has_argument (tree_of (head_of i.pattern) kids) ≡ true =
      ap (λ (h : RtxHead). is_hard_argument (register_by (class_of_code h.code) (cast_unsigned w64 h.number))) (head_of-tree (head_of i.pattern) kids) ∙ itself has_argument i.pattern whole in
      let old = subst (λ ks. list_all (all_pass has_argument) ks ≡ true) s.kids_are (within has_argument i.pattern whole) in
      let first = (and_parts (all_pass has_argument s.target) (list_all (all_pass has_argument) (s.source ∷ [])) old).0 in
      let all : list_all (all_pass has_argument) (kids_of (tree_of (head_of i.pattern) kids)) ≡ true =
      ap (list_all (all_pass has_argument)) (kids_of-tree (head_of i.pattern) kids) ∙ and_from (all_pass has_argument s.target) (all_pass has_argument x && true) first (and_from (all_pass has_argument x) true own refl) in
      pass_out has_argument (tree_of (head_of i.pattern) kids) ∙ and_from (has_argument (tree_of (head_of i.pattern) kids)) _ head all

-- a register alone
abbrev register_head : Mode → ℕ → RtxHead
register_head mode register = record { code = Reg; mode = mode; number = pos register; name = [] }

register_keeps : (mode : Mode) (register : ℕ) → pseudo 0 ≤ register → register < 2 ^ 32 → all_pass has_argument (reg_of mode register) ≡ true
register_keeps mode register above below =
    let h = register_head mode register in
    let high : (nat_le 32 register || (nat_le 10 register && nat_le register 17)) ≡ true = grind (arith, nat_tests, above) in
    let own : has_argument (tree_of h []) ≡ true =
    ap (λ (g : RtxHead). is_hard_argument (register_by (class_of_code g.code) (cast_unsigned w64 g.number))) (head_of-tree h []) ∙ (ap (λ n. is_hard_argument (Some n)) (number_is register below) ∙ high) in
    pass_out has_argument (tree_of h []) ∙ and_from (has_argument (tree_of h [])) (list_all (all_pass has_argument) (kids_of (tree_of h []))) own (ap (list_all (all_pass has_argument)) (kids_of-tree h []))

pub reusing_arguments : (mode : Mode) (register : ℕ) (i : Insn) → SecondParts i → pseudo 0 ≤ register → register < 2 ^ 32 → argument_registers i.pattern i.uses ≡ true →
    argument_registers (reusing mode register i).pattern (reusing mode register i).uses ≡ true
reusing_arguments mode register i s above below keeps =
    let both = and_parts (all_pass has_argument i.pattern) (list_all use_is_argument i.uses) keeps in
    and_from (all_pass has_argument (replaced_at (1 ∷ []) (reg_of mode register) i.pattern)) (list_all use_is_argument i.uses)
    (ap (all_pass has_argument) (new_pattern i s (reg_of mode register)) ∙ new_arguments i s (reg_of mode register) both.0 (register_keeps mode register above below)) both.1

-- a pseudo register is no computed expression
pub register_not_computed : (mode : Mode) (register : ℕ) → pseudo 0 ≤ register → register < 2 ^ 32 → is_computed (reg_of mode register) ≡ false
register_not_computed mode register above below =
    let other : (register == virtual_stack_vars) ≡ false = grind (arith, nat_tests, above) in
    ap (λ (g : RtxHead). not (is_leaf_class (class_of_code g.code)) || is_vars_by (class_of_code g.code) (cast_unsigned w64 g.number)) (head_of-tree (register_head mode register) [])
    ∙ (ap (λ n. n == virtual_stack_vars) (number_is register below) ∙ other)
