-- What holds of each instruction that an entry of a chain is read as holds of each instruction of a function that is read.
use Rattle.std.proofs.Common.{◌≡◌, ℕ, Bool, true, false, List, [], ◌∷◌, ◌++◌, Option, Some, None}
use Rattle.std.specs.Prelude.{slice_get, if◌then◌else◌, codes}
use Rattle.std.specs.List.{AllByRecursion}
use Rattle.rtx_tree.specs.declared.function.Insn.{Insn}
use Rattle.rtx_tree.specs.declared.function.Function.{Function}
use Rattle.rtx_tree.specs.declared.function.Kind.TheVariants.{Plain, Jump}
use Rattle.lisp_read.specs.declared.tree.Tree.{Tree}
use Rattle.lisp_read.specs.Parsed.{Parsed, stands, outside, parsed_map}
use Rattle.lisp_read.specs.Shape.{items_of, is_vector, is_word}
use Rattle.rtl_read.specs.declared.parts.Said.{Said}
use Rattle.rtl_read.specs.Chain.{InsnParts, insn_by, insn_parts, call_by, label_by, leading_number, barrier, one_barrier, is_passed, entry_by, entry_of, each_joined, block_entries, item_by, item_of, chain_items, chain_by, chain_of}
use Rattle.rtl_read.specs.Function.{locals_of, crtl_of, says_nothing, says_chain, says_locals, says_result, said_by, said_too, all_said, function_from, function_by, function_parts, function_of}
use Rattle.rtl_read.specs.Word.{is_headed}
use Rattle.rtl_read.specs.Syntax.{functions_in}
use Rattle.lisp_read.proofs.Standing.{IfStands, any_stands, weaker, map_stands, then_stands, all_stand, at_place}

-- what holds of the instructions of each sort of entry
pub record OfSorts (P : Insn → Type 0) : Type 0 where
  pub plain : (t : Tree) (parts : Option InsnParts) → IfStands (AllByRecursion P) (insn_by Plain t parts)
  pub jump : (t : Tree) (parts : Option InsnParts) → IfStands (AllByRecursion P) (insn_by Jump t parts)
  pub called : (t : Tree) (parts : Option InsnParts) → IfStands (AllByRecursion P) (call_by t parts)
  pub label : (t : Tree) (number : Option ℕ) → IfStands (AllByRecursion P) (label_by t number)
  pub barred : P barrier

module _ (P : Insn → Type 0) (sorts : OfSorts P) where
  abbrev Good : List Insn → Type 0
  Good = AllByRecursion P

  good_append : (xs ys : List Insn) → Good xs → Good ys → Good (xs ++ ys)
  good_append [] ys first more = more
  good_append (x ∷ xs) ys first more = (first.0, good_append xs ys first.1 more)

  good_entry : (t : Tree) (items : List Tree) → IfStands Good (entry_by t items)
  good_entry t [] = tt
  good_entry t (h ∷ parts) =
      by (is_word (codes "cinsn") h) (is_word (codes "cjump_insn") h) (is_word (codes "ccall_insn") h) (is_word (codes "clabel") h) (is_word (codes "cbarrier") h) (is_passed h)
    where
      by : (plain jump call label barred passed : Bool) → IfStands Good
          (if plain then insn_by Plain t (insn_parts parts)
          else (if jump then insn_by Jump t (insn_parts parts)
          else (if call then call_by t (insn_parts parts)
          else (if label then label_by t (leading_number parts)
          else (if barred then one_barrier
          else (if passed then stands [] else outside t))))))
      by true jump call label barred passed = sorts.plain t (insn_parts parts)
      by false true call label barred passed = sorts.jump t (insn_parts parts)
      by false false true label barred passed = sorts.called t (insn_parts parts)
      by false false false true barred passed = sorts.label t (leading_number parts)
      by false false false false true passed = (sorts.barred, tt)
      by false false false false false true = tt
      by false false false false false false = tt

  -- ---- chains

  good_each : (read : Tree → Parsed (List Insn)) → ((t : Tree) → IfStands Good (read t)) → (trees : List Tree) →
      IfStands Good (each_joined read trees)
  good_each read each [] = tt
  good_each read each (t ∷ trees) = then_stands Good Good (read t) (λ xs. parsed_map (λ ys. xs ++ ys) (each_joined read trees)) (each t)
      (λ xs good. map_stands Good (λ ys. xs ++ ys) (each_joined read trees)
      (weaker Good (λ ys. Good (xs ++ ys)) (λ ys more. good_append xs ys good more) (each_joined read trees) (good_each read each trees)))

  good_item : (t : Tree) (entries : Option (List Tree)) → IfStands Good (item_by t entries)
  good_item t (Some entries) = good_each entry_of (λ t. good_entry t (items_of t)) entries
  good_item t None = good_entry t (items_of t)

  good_chain : (t : Tree) (items : Option (List Tree)) → IfStands Good (chain_by t items)
  good_chain t (Some items) = good_each item_of (λ t. good_item t (block_entries (items_of t))) items
  good_chain t None = tt

  -- ---- functions

  abbrev GoodSaid : Said → Type 0
  GoodSaid said = Good said.insns

  good_said : (t : Tree) → IfStands GoodSaid (said_by t)
  good_said t = by (is_vector t) (is_headed (codes "insn-chain") t) (is_headed (codes "locals") t) (is_headed (codes "crtl") t)
    where
      by : (vector chain locals result : Bool) → IfStands GoodSaid
          (if vector then outside t
          else (if chain then parsed_map says_chain (chain_of t)
          else (if locals then parsed_map says_locals (locals_of t)
          else (if result then parsed_map says_result (crtl_of t) else stands says_nothing))))
      by true chain locals result = tt
      by false true locals result = map_stands GoodSaid says_chain (chain_of t) (good_chain t (chain_items (items_of t)))
      by false false true result =
          map_stands GoodSaid says_locals (locals_of t) (any_stands (λ n. GoodSaid (says_locals n)) (λ n. tt) (locals_of t))
      by false false false true =
          map_stands GoodSaid says_result (crtl_of t) (any_stands (λ r. GoodSaid (says_result r)) (λ r. tt) (crtl_of t))
      by false false false false = tt

  good_all_said : (trees : List Tree) → IfStands GoodSaid (all_said trees)
  good_all_said [] = tt
  good_all_said (t ∷ trees) = then_stands GoodSaid GoodSaid (said_by t) (λ first. parsed_map (said_too first) (all_said trees)) (good_said t)
      (λ first good. map_stands GoodSaid (said_too first) (all_said trees)
      (weaker GoodSaid (λ said. GoodSaid (said_too first said)) (λ said more. good_append first.insns said.insns good more) (all_said trees) (good_all_said trees)))

  abbrev GoodFunction : Function → Type 0
  GoodFunction f = Good f.insns

  good_function : (t : Tree) (parts : Option (List ℕ × List Tree)) → IfStands GoodFunction (function_by t parts)
  good_function t (Some parts) = map_stands GoodFunction (function_from parts.0) (all_said parts.1) (good_all_said parts.1)
  good_function t None = tt

  -- each instruction of each function that is read
  pub each_read : (trees : List Tree) (functions : List Function) → functions_in trees ≡ stands functions →
      (index : ℕ) (f : Function) → slice_get functions index ≡ Some f → (place : ℕ) (i : Insn) → slice_get f.insns place ≡ Some i → P i
  each_read trees functions read index f at =
      at_place P f.insns (at_place GoodFunction functions (all_stand GoodFunction function_of (λ t. good_function t (function_parts (items_of t))) trees functions read) index f at)
