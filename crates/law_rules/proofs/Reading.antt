-- What is read from trees has barriers that do nothing.
use Rattle.std.proofs.Common.{◌≡◌, ℕ, List, [], ◌∷◌, Option, Some, None, refl}
use Rattle.std.specs.Prelude.{slice_get}
use Rattle.std.specs.List.{AllByRecursion}
use Rattle.rtx_tree.specs.declared.function.Insn.{Insn}
use Rattle.rtx_tree.specs.declared.function.Function.{Function}
use Rattle.rtx_tree.specs.declared.function.Kind.{Kind}
use Rattle.rtx_tree.specs.declared.function.Kind.TheVariants.{Plain, Jump, Call, Label, Barrier}
use Rattle.rtx_tree.specs.Patterns.{nothing_rtx}
use Rattle.lisp_read.specs.declared.tree.Tree.{Tree}
use Rattle.lisp_read.specs.declared.position.Position.TheVariants.{Pattern}
use Rattle.lisp_read.specs.Expression.{read_at}
use Rattle.lisp_read.specs.Parsed.{stands, parsed_map}
use Rattle.rtl_read.specs.Call.{call_of, uses_of}
use Rattle.rtl_read.specs.Chain.{InsnParts, insn_with, insn_by, call_with, call_by, label_by}
use Rattle.rtl_read.specs.Syntax.{functions_in}
use Rattle.law_rules.specs.Admitted.{BarriersDoNothing}
use Rattle.law_rules.proofs.Entries.{OfSorts, each_read}
use Rattle.lisp_read.proofs.Standing.{IfStands, any_stands, map_stands, then_stands}

abbrev DoesNothing : Insn → Type 0
DoesNothing i = i.kind ≡ Barrier → i.pattern ≡ nothing_rtx

abbrev Good : List Insn → Type 0
Good = AllByRecursion DoesNothing

-- one of another kind is no barrier
good_other : (i : Insn) → (i.kind ≡ Barrier → ⊥) → Good (i ∷ [])
good_other i other = (λ is. absurd (other is), tt)

plain_is_none : Plain ≡ Barrier → ⊥
plain_is_none is = let nothing : ⊥ = cc in nothing

jump_is_none : Jump ≡ Barrier → ⊥
jump_is_none is = let nothing : ⊥ = cc in nothing

call_is_none : Call ≡ Barrier → ⊥
call_is_none is = let nothing : ⊥ = cc in nothing

label_is_none : Label ≡ Barrier → ⊥
label_is_none is = let nothing : ⊥ = cc in nothing

good_insn : (kind : Kind) → (kind ≡ Barrier → ⊥) → (t : Tree) (parts : Option InsnParts) → IfStands Good (insn_by kind t parts)
good_insn kind other t (Some parts) = map_stands Good (λ x. insn_with kind parts.uid [] x ∷ []) (read_at Pattern parts.pattern)
    (any_stands (λ x. Good (insn_with kind parts.uid [] x ∷ [])) (λ x. good_other (insn_with kind parts.uid [] x) other) (read_at Pattern parts.pattern))
good_insn kind other t None = tt

good_call : (t : Tree) (parts : Option InsnParts) → IfStands Good (call_by t parts)
good_call t (Some parts) =
    then_stands (λ x. Unit {0}) Good (call_of parts.pattern) (λ x. parsed_map (call_with parts.uid x) (uses_of parts.rest))
    (any_stands (λ x. Unit {0}) (λ x. tt) (call_of parts.pattern))
    (λ x nothing. map_stands Good (call_with parts.uid x) (uses_of parts.rest)
    (any_stands (λ uses. Good (call_with parts.uid x uses)) (λ uses. good_other (insn_with Call parts.uid uses x) call_is_none) (uses_of parts.rest)))
good_call t None = tt

good_label : (t : Tree) (number : Option ℕ) → IfStands Good (label_by t number)
good_label t (Some uid) = good_other (insn_with Label uid [] nothing_rtx) label_is_none
good_label t None = tt

sorts : OfSorts DoesNothing
sorts = record {
  plain = good_insn Plain plain_is_none;
  jump = good_insn Jump jump_is_none;
  called = good_call;
  label = good_label;
  barred = λ is. refl;
}

-- the barriers of each function that is read do nothing
pub read_barriers : (trees : List Tree) (functions : List Function) → functions_in trees ≡ stands functions →
    (index : ℕ) (f : Function) → slice_get functions index ≡ Some f → BarriersDoNothing f.insns
read_barriers trees functions read index f at = each_read DoesNothing sorts trees functions read index f at
