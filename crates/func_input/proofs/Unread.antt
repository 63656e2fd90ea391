-- Bytes that are not read as functions.
use Rattle.std.proofs.Common.{◌≡◌, ℕ, List, sym, ap, ◌∙◌}
use Rattle.rtx_tree.specs.declared.place.Place.{Place}
use Rattle.rtx_tree.specs.declared.function.Function.{Function}
use Rattle.lisp_read.specs.declared.tree.Tree.{Tree}
use Rattle.lisp_read.specs.Reading.{Reading, ReadsAs, Trees}
use Rattle.lisp_read.specs.Parsed.{Parsed, stands, construct}
use Rattle.lisp_read.proofs.Unique.{one_reading}
use Rattle.rtl_read.specs.Syntax.{functions_in}
use Rattle.func_input.specs.Input.{IsRead}

-- what reads otherwise does not read as trees
pub no_reading : (bytes : List ℕ) (reading : Reading) (trees : List Tree) → (reading ≡ Trees trees → ⊥) → ReadsAs bytes reading → ReadsAs bytes (Trees trees) → ⊥
no_reading bytes reading trees other reads as_trees = other (one_reading bytes reading (Trees trees) reads as_trees)

-- trees with one outside the language stand for no functions
pub no_stand : (trees : List Tree) (place : Place) (name : List ℕ) (functions : List Function) → functions_in trees ≡ construct place name → functions_in trees ≡ stands functions → ⊥
no_stand trees place name functions is is' = let no : ◌≡◌ {A = Parsed (List Function)} (construct place name) (stands functions) = sym is ∙ is' in let none : ⊥ = cc in none

-- bytes that read as trees which stand for no functions are not read as functions
pub no_functions : (bytes : List ℕ) (trees : List Tree) (functions : List Function) → ReadsAs bytes (Trees trees) → ((functions : List Function) → functions_in trees ≡ stands functions → ⊥) → IsRead bytes functions → ⊥
no_functions bytes trees functions reads none read =
    let one : Trees trees ≡ Trees read.trees = one_reading bytes (Trees trees) (Trees read.trees) reads read.reads in
    let same : trees ≡ read.trees = cc in
    none functions (ap functions_in same ∙ read.stand)
