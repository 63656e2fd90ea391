-- A function that a tree stands for is read back from the tree that its canonical text writes.
use Rattle.std.proofs.Common.{◌≡◌, ◌≤◌, ◌<◌, ◌-◌, ℕ, suc, List, [], ◌∷◌, Bool, true, false, ◌&&◌, Option, Some, None, cond, codes, refl, sym, ap, subst, ◌∙◌, arith}
use Rattle.std.specs.Prelude.{unwrap_or, option_map}
use Rattle.std.specs.List.{list_all}
use Rattle.rtx_tree.specs.declared.function.Function.{Function}
use Rattle.rtx_tree.specs.declared.function.Insn.{Insn}
use Rattle.text_words.specs.Words.{is_symbol}
use Rattle.lisp_read.specs.declared.tree.Tree.{Tree}
use Rattle.lisp_read.specs.Parsed.{stands}
use Rattle.lisp_read.specs.Shape.{string_of, items_of, is_nested, is_word}
use Rattle.rtl_read.specs.declared.parts.Returned.{Returned}
use Rattle.rtl_read.specs.Function.{all_said, are_items, named_by, with_items, function_parts, result_register, function_from, function_of_items, function_by, function_of}
use Rattle.rtl_read.specs.Locals.{locals_in}
use Rattle.tree_print.specs.Print.{depth_of}
use Rattle.rtl_print.specs.Back.{is_settled}
use Rattle.rtl_print.proofs.Admitted.{string_admitted}
use Rattle.rtl_print.proofs.Atoms.{symbol_is_quoted}
use Rattle.rtl_print.proofs.ChainBack.{ChainBack, chain_back}
use Rattle.rtl_print.proofs.EntriesRead.{uid_fits}
use Rattle.rtl_print.proofs.FunctionBack.{made, function_again}
use Rattle.rtl_print.proofs.FunctionTree.{chain_tree, locals_tree, result_trees, function_tree}
use Rattle.rtl_print.proofs.Good.{Fits, AllFit, fits_more, list_fits, word_fits, first_deep, rest_deep}
use Rattle.rtl_print.proofs.LocalsLess.{locals_less}
use Rattle.rtl_print.proofs.Numbers.{and_true, map_some}
use Rattle.rtl_print.proofs.Parsing.{map_stands}
use Rattle.rtl_print.proofs.ResultBack.{IfReturned}
use Rattle.rtl_print.proofs.SaidBack.{SaidBack, all_said_back}
use Rattle.rtl_print.proofs.Same.{Same}
use Rattle.rtl_print.proofs.Shallow.{deepest, items_depth, nested_depth, string_depth}
use Rattle.rtl_print.proofs.Written.{atom, string}

pub record FunctionBack (most : ℕ) (f : Function) : Type 0 where
  pub back : list_all is_settled f.insns ≡ true → (t : Tree) → Same t (function_tree f) → function_of t ≡ stands f
  pub fits : Fits most (function_tree f)

-- ---- how deep a function goes

string_fits : (most : ℕ) (name : List ℕ) → is_symbol name ≡ true → Fits most (string name)
string_fits most name is = record { admitted = string_admitted name (symbol_is_quoted name is); low = omega (arith, string_depth name) }

locals_fits : (most locals : ℕ) → locals < 4294967296 → Fits (suc most) (locals_tree locals)
locals_fits most locals less = list_fits most (atom (codes "locals") ∷ atom _ ∷ []) (word_fits most (codes "locals") refl, (uid_fits most locals less, tt))

results_fit : (most : ℕ) (o : Option Returned) → IfReturned most o → AllFit most (result_trees (option_map (λ (r : Returned). r.mode) o) (result_register o))
results_fit most None h = tt
results_fit most (Some r) h = (h.fits, tt)

function_fits : (most : ℕ) (name : List ℕ) (insns : List Insn) (locals : ℕ) (o : Option Returned) → 1 ≤ most → is_symbol name ≡ true → Fits most (chain_tree insns) → locals < 4294967296 → IfReturned most o →
    Fits (suc most) (function_tree (made name insns locals o))
function_fits most name insns locals o deep symbol chain less returned =
    list_fits most _ (word_fits most (codes "function") refl, (string_fits most name symbol, (chain, (fits_more 1 most (locals_tree locals) deep (locals_fits 0 locals less), results_fit most o returned))))

-- ---- what a function's tree says

record PartsSay (ts : List Tree) (name : List ℕ) (items : List Tree) : Type 0 where
  pub head : Tree
  pub quoted : Tree
  pub is : ts ≡ head ∷ quoted ∷ items
  pub symbol : is_symbol name ≡ true
  pub deep : 1 ≤ deepest items

items_deep : (items : List Tree) → list_all is_nested items ≡ true → are_items items ≡ true → 1 ≤ deepest items
items_deep [] nested are = absurd (let none : ⊥ = cc in none)
items_deep (t ∷ ts) nested are = omega (arith, first_deep t ts, nested_depth t (and_true (is_nested t) (list_all is_nested ts) nested).0)

named_symbol : (o : Option (List ℕ)) (name : List ℕ) → named_by o ≡ Some name → is_symbol name ≡ true
named_symbol None name e = cc
named_symbol (Some text) name e = by_test (is_symbol text) refl e
  where
    by_test : (b : Bool) → is_symbol text ≡ b → cond b (Some text) None ≡ Some name → is_symbol name ≡ true
    by_test true is h = let same : text ≡ name = cc in sym (ap is_symbol same) ∙ is
    by_test false is h = cc

parts_say : (ts : List Tree) (parts : List ℕ × List Tree) → function_parts ts ≡ Some parts → PartsSay ts parts.0 parts.1
parts_say [] parts e = absurd (let none : ⊥ = cc in none)
parts_say (h ∷ []) parts e = absurd (let none : ⊥ = cc in none)
parts_say (h ∷ n ∷ items) parts e = by (is_word (codes "function") h) (list_all is_nested items) refl (are_items items) refl e
  where
    by : (w l : Bool) → list_all is_nested items ≡ l → (a : Bool) → are_items items ≡ a → cond (w && l && a) (option_map (with_items items) (named_by (string_of n))) None ≡ Some parts → PartsSay (h ∷ n ∷ items) parts.0 parts.1
    by true true nested true are h' =
        let name = map_some (named_by (string_of n)) (with_items items) parts h' in
        subst (λ (p : List ℕ × List Tree). PartsSay (h ∷ n ∷ items) p.0 p.1) name.2
        (record { head = h; quoted = n; is = refl; symbol = named_symbol (string_of n) name.0 name.1; deep = items_deep items nested are })
    by true true nested false are h' = absurd (let none : ⊥ = cc in none)
    by true false nested a are h' = absurd (let none : ⊥ = cc in none)
    by false l nested a are h' = absurd (let none : ⊥ = cc in none)

locals_small : (insns : List Insn) (o : Option ℕ) → ((n : ℕ) → o ≡ Some n → n < 4294967296) → unwrap_or o (locals_in insns) < 4294967296
locals_small insns None h = locals_less insns
locals_small insns (Some n) h = h n refl

from_items : (most : ℕ) (name : List ℕ) (items : List Tree) (f : Function) → suc (deepest items) ≤ most → 1 ≤ deepest items → is_symbol name ≡ true → function_of_items name items ≡ stands f → FunctionBack most f
from_items most name items f le deep symbol e =
    let k = map_stands (function_from name) (all_said items) f e in
    let d : ℕ = deepest items in
    let s : SaidBack d k.0 = all_said_back d items k.0 (omega arith) k.1 in
    let less : unwrap_or k.0.locals (locals_in k.0.insns) < 4294967296 = locals_small k.0.insns k.0.locals s.locals in
    let chain : ChainBack (suc (d - 1)) k.0.insns = chain_back (d - 1) k.0.insns s.lines in
    subst (FunctionBack most) k.2
    (record {
      back = λ settled. function_again name k.0.insns _ k.0.result (suc (d - 1)) d symbol chain settled less s.result;
      fits = fits_more (suc d) most _ le (function_fits d name k.0.insns _ k.0.result deep symbol (fits_more (suc (d - 1)) d (chain_tree k.0.insns) (omega (arith, deep)) chain.fits) less s.result);
    })

pub function_back : (t : Tree) (f : Function) → function_of t ≡ stands f → FunctionBack (depth_of t) f
function_back t f e = by_parts (function_parts (items_of t)) refl e
  where
    by_parts : (o : Option (List ℕ × List Tree)) → function_parts (items_of t) ≡ o → function_by t o ≡ stands f → FunctionBack (depth_of t) f
    by_parts None is h = absurd (let none : ⊥ = cc in none)
    by_parts (Some parts) is h =
        let s : PartsSay (items_of t) parts.0 parts.1 = parts_say (items_of t) parts is in
        from_items (depth_of t) parts.0 parts.1 f (omega (arith, items_depth t s.head (s.quoted ∷ parts.1) s.is, rest_deep s.head (s.quoted ∷ parts.1), rest_deep s.quoted parts.1)) s.deep s.symbol h
