-- The numbers of the registers in a function that was read.
use Rattle.std.proofs.Common.{◌≡◌, ℕ, true, List, [], ◌∷◌, filter, Option, Some, None, refl, subst}
use Rattle.std.specs.Prelude.{slice_get}
use Rattle.std.specs.List.{AllByRecursion}
use Rattle.rtx_tree.specs.declared.code.Code.TheVariants.{Parallel}
use Rattle.rtx_tree.specs.declared.code.Mode.TheVariants.{Void}
use Rattle.rtx_tree.specs.declared.function.Insn.{Insn}
use Rattle.rtx_tree.specs.declared.function.Function.{Function}
use Rattle.rtx_tree.specs.declared.function.Kind.{Kind}
use Rattle.rtx_tree.specs.declared.function.Kind.TheVariants.{Plain, Jump}
use Rattle.rtx_tree.specs.declared.tree.Rtx.{Rtx}
use Rattle.rtx_tree.specs.Patterns.{nothing_rtx}
use Rattle.lisp_read.specs.declared.tree.Tree.{Tree}
use Rattle.lisp_read.specs.declared.position.Position.TheVariants.{Pattern}
use Rattle.lisp_read.specs.Expression.{read_at}
use Rattle.lisp_read.specs.Parsed.{Parsed, stands, construct, parsed_map, each_parsed}
use Rattle.rtl_read.specs.Call as call
use Rattle.rtl_read.specs.Call.{is_kept, together, effects_of, call_of, uses_of}
use Rattle.rtl_read.specs.Chain.{InsnParts, insn_with, insn_by, call_with, call_by, label_by}
use Rattle.rtl_read.specs.Syntax.{functions_in}
use Rattle.func_input.specs.Input.{IsInput}
use Rattle.sym_insns.specs.Shape.{all_natural}
use Rattle.law_rules.proofs.Entries.{OfSorts, each_read}
use Rattle.lisp_read.proofs.Standing.{weaker, IfStands, any_stands, map_stands, then_stands, each_stands}
use Rattle.law_reading.proofs.Trees.{Natural, natural_node, natural_read}

stands_where : {A : Type 0} (P : A → Type 0) (p : Parsed A) → ((x : A) → p ≡ stands x → P x) → IfStands P p
stands_where P (stands x) is = is x refl
stands_where P (construct place name) is = tt

pattern_natural : (t : Tree) → IfStands Natural (read_at Pattern t)
pattern_natural t = stands_where Natural (read_at Pattern t) (natural_read Pattern t)

abbrev IsNatural : Insn → Type 0
IsNatural i = Natural i.pattern

abbrev Good : List Insn → Type 0
Good = AllByRecursion IsNatural

good_insn : (kind : Kind) (t : Tree) (parts : Option InsnParts) → IfStands Good (insn_by kind t parts)
good_insn kind t (Some parts) = map_stands Good (λ x. insn_with kind parts.uid [] x ∷ []) (read_at Pattern parts.pattern)
    (weaker Natural (λ x. Good (insn_with kind parts.uid [] x ∷ [])) (λ x natural. (natural, tt)) (read_at Pattern parts.pattern) (pattern_natural parts.pattern))
good_insn kind t None = tt

-- what is left of a call's effects
together_natural : (xs : List Rtx) → AllByRecursion Natural xs → Natural (together xs)
together_natural [] natural = natural_node Parallel Void [] tt
together_natural (x ∷ []) natural = natural.0
together_natural (x ∷ y ∷ xs) natural = natural_node Parallel Void (x ∷ y ∷ xs) natural

called_natural : (t : Tree) (effects : Option (List Tree)) → IfStands Natural (call.call_by t effects)
called_natural t (Some effects) = map_stands Natural together (each_parsed (read_at Pattern) (filter is_kept effects))
    (weaker (AllByRecursion Natural) (λ xs. Natural (together xs)) together_natural (each_parsed (read_at Pattern) (filter is_kept effects))
    (each_stands Natural (read_at Pattern) pattern_natural (filter is_kept effects)))
called_natural t None = pattern_natural t

good_call : (t : Tree) (parts : Option InsnParts) → IfStands Good (call_by t parts)
good_call t (Some parts) =
    then_stands Natural Good (call_of parts.pattern) (λ x. parsed_map (call_with parts.uid x) (uses_of parts.rest))
    (called_natural parts.pattern (effects_of parts.pattern))
    (λ x natural. map_stands Good (call_with parts.uid x) (uses_of parts.rest)
    (any_stands (λ uses. Good (call_with parts.uid x uses)) (λ uses. (natural, tt)) (uses_of parts.rest)))
good_call t None = tt

nothing_natural : Natural nothing_rtx
nothing_natural = natural_node Parallel Void [] tt

good_label : (t : Tree) (number : Option ℕ) → IfStands Good (label_by t number)
good_label t (Some uid) = (nothing_natural, tt)
good_label t None = tt

sorts : OfSorts IsNatural
sorts = record {
  plain = good_insn Plain;
  jump = good_insn Jump;
  called = good_call;
  label = good_label;
  barred = nothing_natural;
}

-- no register of an instruction that was read has a number below 0
pub trees_natural : (trees : List Tree) (functions : List Function) → functions_in trees ≡ stands functions →
    (index : ℕ) (f : Function) → slice_get functions index ≡ Some f → (place : ℕ) (i : Insn) → slice_get f.insns place ≡ Some i →
    all_natural i.pattern ≡ true
trees_natural trees functions read index f at place i there = each_read IsNatural sorts trees functions read index f at place i there

-- and so of an instruction of an input
pub input_natural : (bytes : List ℕ) (functions : List Function) → IsInput bytes functions →
    (index : ℕ) (f : Function) → slice_get functions index ≡ Some f → (place : ℕ) (i : Insn) → slice_get f.insns place ≡ Some i →
    all_natural i.pattern ≡ true
input_natural bytes functions input index f at place i there = trees_natural input.read.trees functions input.read.stand index f at place i there
