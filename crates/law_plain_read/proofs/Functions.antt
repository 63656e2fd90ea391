-- The functions that trees stand for can be printed.
use Rattle.std.proofs.Common.{◌≡◌, ℕ, Bool, true, false, cond, List, [], ◌∷◌, ◌++◌, codes, Option, Some, None, refl, subst}
use Rattle.std.specs.List.{AllByRecursion}
use Rattle.rtx_tree.specs.declared.function.Function.{Function}
use Rattle.rtx_tree.specs.declared.function.Insn.{Insn}
use Rattle.lisp_read.specs.declared.tree.Tree.{Tree}
use Rattle.lisp_read.specs.Parsed.{Parsed, stands, outside, parsed_map, each_parsed}
use Rattle.lisp_read.specs.Shape.{items_of, is_vector}
use Rattle.rtl_read.specs.declared.parts.Returned.{Returned}
use Rattle.rtl_read.specs.declared.parts.Said.{Said}
use Rattle.rtl_read.specs.Word.{is_headed}
use Rattle.rtl_read.specs.Chain.{chain_of}
use Rattle.rtl_read.specs.Function.{locals_of, crtl_of, says_nothing, says_chain, says_locals, says_result, said_by, said_too, all_said, function_parts, function_from, function_of_items, function_by, function_of}
use Rattle.rtl_print.proofs.Parsing.{map_stands, pair_stands}
use Rattle.law_plain_read.specs.Read.{AreReadable, PlainRead}
use Rattle.law_plain_read.proofs.Entries.{All, both, chain_read}

abbrev Says : Parsed Said → Type 0
Says p = (s : Said) → p ≡ stands s → All s.insns

given : (s : Said) → All s.insns → Says (stands s)
given s all others is = let same : s ≡ others = cc in subst (λ (k : Said). All k.insns) same all

-- ---- an item

chain_said : (t : Tree) → Says (parsed_map says_chain (chain_of t))
chain_said t s is = let k = map_stands says_chain (chain_of t) s is in subst (λ (k : Said). All k.insns) k.2 (chain_read t k.0 k.1)

locals_said : (t : Tree) → Says (parsed_map says_locals (locals_of t))
locals_said t s is = let k = map_stands says_locals (locals_of t) s is in subst (λ (k : Said). All k.insns) k.2 tt

result_said : (t : Tree) → Says (parsed_map says_result (crtl_of t))
result_said t s is = let k = map_stands says_result (crtl_of t) s is in subst (λ (k : Said). All k.insns) k.2 tt

chosen : (b : Bool) (p q : Parsed Said) → Says p → Says q → Says (cond b p q)
chosen true p q first second = first
chosen false p q first second = second

missing : (t : Tree) → Says (outside t)
missing t s is = absurd (let no : ⊥ = cc in no)

item_said : (t : Tree) → Says (said_by t)
item_said t =
    chosen (is_vector t) (outside t) _ (missing t)
    (chosen (is_headed (codes "insn-chain") t) (parsed_map says_chain (chain_of t)) _ (chain_said t)
    (chosen (is_headed (codes "locals") t) (parsed_map says_locals (locals_of t)) _ (locals_said t)
    (chosen (is_headed (codes "crtl") t) (parsed_map says_result (crtl_of t)) _ (result_said t) (given says_nothing tt))))

all_items : (ts : List Tree) → Says (all_said ts)
all_items [] s is = given says_nothing tt s is
all_items (t ∷ ts) s is =
    let k = pair_stands (said_by t) (all_said ts) (λ (a b : Said). said_too a b) s is in
    subst (λ (k : Said). All k.insns) k.4 (both k.0.insns k.1.insns (item_said t k.0 k.2) (all_items ts k.1 k.3))

-- ---- functions

from_items : (name : List ℕ) (items : List Tree) (f : Function) → function_of_items name items ≡ stands f → AreReadable f
from_items name items f is = let k = map_stands (function_from name) (all_said items) f is in subst AreReadable k.2 (all_items items k.0 k.1)

function_read : (t : Tree) (f : Function) → function_of t ≡ stands f → AreReadable f
function_read t f is = go (function_parts (items_of t)) is
  where
    go : (o : Option (List ℕ × List Tree)) → function_by t o ≡ stands f → AreReadable f
    go None is = absurd (let no : ⊥ = cc in no)
    go (Some parts) is = from_items parts.0 parts.1 f is

pub read : PlainRead
read [] functions is = let same : [] ≡ functions = cc in subst (AllByRecursion AreReadable) same tt
read (t ∷ trees) functions is =
    let s = pair_stands (function_of t) (each_parsed function_of trees) (λ (f : Function) (fs : List Function). f ∷ fs) functions is in
    subst (AllByRecursion AreReadable) s.4 (function_read t s.0 s.2, read trees s.1 s.3)
