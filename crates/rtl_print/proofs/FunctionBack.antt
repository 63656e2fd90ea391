-- A function is read back from the tree that its canonical text writes.
use Rattle.std.proofs.Common.{◌≡◌, ◌<◌, ℕ, List, [], ◌∷◌, ◌++◌, map, true, false, Option, Some, None, codes, refl, ap, ◌∙◌}
use Rattle.std.proofs.lemmas.List.{append-nil}
use Rattle.std.specs.Prelude.{option_map, option_and_then}
use Rattle.std.specs.List.{list_all}
use Rattle.std.specs.Fmt.{decimal}
use Rattle.rtx_tree.specs.declared.function.Function.{Function}
use Rattle.rtx_tree.specs.declared.function.Insn.{Insn}
use Rattle.text_words.specs.Words.{is_symbol}
use Rattle.lisp_read.specs.declared.tree.Tree.{Tree}
use Rattle.lisp_read.specs.Leaf.{uid_in}
use Rattle.lisp_read.specs.Parsed.{stands, or_outside, parsed_map}
use Rattle.lisp_read.specs.Shape.{atom_at, string_at, string_of, items_of, is_nested, is_text, is_word}
use Rattle.rtl_read.specs.declared.parts.Returned.{Returned}
use Rattle.rtl_read.specs.declared.parts.Said.{Said}
use Rattle.rtl_read.specs.Function.{number_behind, locals_of, says_chain, says_locals, says_result, said_by, are_items, named_by, with_items, function_parts, result_register, function_from, function_of_items, function_by, function_of}
use Rattle.rtl_read.specs.Word.{number_of, begins, is_headed}
use Rattle.tree_print.specs.Print.{nowhere}
use Rattle.rtl_print.specs.Back.{is_settled}
use Rattle.rtl_print.proofs.ChainBack.{ChainBack}
use Rattle.rtl_print.proofs.FunctionTree.{insn_tree, chain_tree, locals_tree, result_tree, function_tree}
use Rattle.rtl_print.proofs.Numbers.{uid_again}
use Rattle.rtl_print.proofs.Opened.{Opened, opened}
use Rattle.rtl_print.proofs.ResultBack.{ReturnBack, IfReturned}
use Rattle.rtl_print.proofs.Same.{Same, AllSame, as_atom, as_string}
use Rattle.rtl_print.proofs.Written.{atom, string, list, written}

-- ---- items by their words

headed : (word text : List ℕ) (t : Tree) (ps : List Tree) → Opened t text ps → is_headed word t ≡ is_text word (Some text)
headed word text t ps o = ap (begins word) o.items ∙ ap (is_text word) o.word

-- an item that is printed: what it says, and which word it begins with
record Item (text : List ℕ) (t : Tree) (s : Said) : Type 0 where
  pub nested : is_nested t ≡ true
  pub says : said_by t ≡ stands s
  pub word : (w : List ℕ) → is_headed w t ≡ is_text w (Some text)

chain_item : (most : ℕ) (insns : List Insn) (t : Tree) → ChainBack most insns → list_all is_settled insns ≡ true → Same t (chain_tree insns) → Item (codes "insn-chain") t (says_chain insns)
chain_item most insns t b settled same =
    let o : Opened t (codes "insn-chain") (map insn_tree insns) = opened t (codes "insn-chain") (map insn_tree insns) same in
    let word : is_headed (codes "insn-chain") t ≡ true = headed (codes "insn-chain") (codes "insn-chain") t (map insn_tree insns) o in
    record {
      nested = o.nested;
      says = rw (o.no_vector, word) (ap (parsed_map says_chain) (b.back settled t same));
      word = λ w. headed w (codes "insn-chain") t (map insn_tree insns) o;
    }

locals_again : (locals : ℕ) (t : Tree) → locals < 4294967296 → (o : Opened t (codes "locals") (atom (decimal locals) ∷ [])) → locals_of t ≡ stands locals
locals_again locals t less o = by_parts o.parts o.same o.items
  where
    by_parts : (ps : List Tree) → AllSame ps (atom (decimal locals) ∷ []) → items_of t ≡ o.head ∷ ps → locals_of t ≡ stands locals
    by_parts (n ∷ []) s items =
        let head : is_word (codes "locals") o.head ≡ true = ap (is_text (codes "locals")) o.word in
        let number : number_of n ≡ Some locals = ap (option_and_then uid_in) (ap atom_at (as_atom n nowhere (decimal locals) s.0).is) ∙ uid_again locals less in
        ap (λ (ts : List Tree). or_outside t (number_behind (codes "locals") ts)) items ∙ rw head (ap (or_outside t) number)
    by_parts [] s items = absurd s
    by_parts (n ∷ p ∷ ps) s items = absurd s.1

locals_item : (locals : ℕ) (t : Tree) → locals < 4294967296 → Same t (locals_tree locals) → Item (codes "locals") t (says_locals locals)
locals_item locals t less same =
    let ps : List Tree = atom (decimal locals) ∷ [] in
    let o : Opened t (codes "locals") ps = opened t (codes "locals") ps same in
    let chain : is_headed (codes "insn-chain") t ≡ false = headed (codes "insn-chain") (codes "locals") t ps o in
    let word : is_headed (codes "locals") t ≡ true = headed (codes "locals") (codes "locals") t ps o in
    record {
      nested = o.nested;
      says = rw (o.no_vector, chain, word) (ap (parsed_map says_locals) (locals_again locals t less o));
      word = λ w. headed w (codes "locals") t ps o;
    }

result_item : (most : ℕ) (r : Returned) (t : Tree) → ReturnBack most r → Same t (result_tree r.mode r.reg) → Item (codes "crtl") t (says_result (Some r))
result_item most r t b same =
    let ps : List Tree = list (atom (codes "return_rtx") ∷ written _ ∷ []) ∷ [] in
    let o : Opened t (codes "crtl") ps = opened t (codes "crtl") ps same in
    let chain : is_headed (codes "insn-chain") t ≡ false = headed (codes "insn-chain") (codes "crtl") t ps o in
    let locals : is_headed (codes "locals") t ≡ false = headed (codes "locals") (codes "crtl") t ps o in
    let word : is_headed (codes "crtl") t ≡ true = headed (codes "crtl") (codes "crtl") t ps o in
    record {
      nested = o.nested;
      says = rw (o.no_vector, chain, locals, word) (ap (parsed_map says_result) (b.back t same));
      word = λ w. headed w (codes "crtl") t ps o;
    }

-- ---- the function

abbrev pub made : List ℕ → List Insn → ℕ → Option Returned → Function
made name insns locals o = record { name = name; insns = insns; locals = locals; result = option_map (λ r. r.mode) o; result_reg = result_register o }

from_said : (name : List ℕ) (insns : List Insn) (locals : ℕ) (o : Option Returned) → function_from name (record { insns = insns ++ []; locals = Some locals; result = o }) ≡ made name insns locals o
from_said name insns locals o = ap (λ (is : List Insn). made name is locals o) (append-nil insns)

-- the name and the items
front_again : (t n : Tree) (name : List ℕ) (items : List Tree) (head : Tree) → items_of t ≡ head ∷ n ∷ items → is_word (codes "function") head ≡ true → Same n (string name) → is_symbol name ≡ true →
    list_all is_nested items ≡ true → are_items items ≡ true → function_of t ≡ function_of_items name items
front_again t n name items head is word same symbol nested are =
    let quoted : string_of n ≡ Some name = ap string_at (as_string n nowhere name same).is in
    let named : named_by (string_of n) ≡ Some name = ap named_by quoted ∙ rw symbol refl in
    let parts : function_parts (items_of t) ≡ Some (with_items items name) = ap function_parts is ∙ rw (word, nested, are) (ap (option_map (with_items items)) named) in
    ap (function_by t) parts

two_items : (name : List ℕ) (insns : List Insn) (locals : ℕ) (c l : Tree) → Item (codes "insn-chain") c (says_chain insns) → Item (codes "locals") l (says_locals locals) →
    (list_all is_nested (c ∷ l ∷ []) ≡ true) × (are_items (c ∷ l ∷ []) ≡ true) × (function_of_items name (c ∷ l ∷ []) ≡ stands (made name insns locals None))
two_items name insns locals c l a b = (
  rw (a.nested, b.nested) refl,
  rw (a.word (codes "insn-chain"), b.word (codes "insn-chain"), a.word (codes "locals"), b.word (codes "locals"), a.word (codes "crtl"), b.word (codes "crtl")) refl,
  rw (a.says, b.says) (ap (λ (f : Function). stands f) (from_said name insns locals None)),
)

three_items : (name : List ℕ) (insns : List Insn) (locals : ℕ) (r : Returned) (c l e : Tree) → Item (codes "insn-chain") c (says_chain insns) → Item (codes "locals") l (says_locals locals) → Item (codes "crtl") e (says_result (Some r)) →
    (list_all is_nested (c ∷ l ∷ e ∷ []) ≡ true) × (are_items (c ∷ l ∷ e ∷ []) ≡ true) × (function_of_items name (c ∷ l ∷ e ∷ []) ≡ stands (made name insns locals (Some r)))
three_items name insns locals r c l e a b d = (
  rw (a.nested, b.nested, d.nested) refl,
  rw (a.word (codes "insn-chain"), b.word (codes "insn-chain"), d.word (codes "insn-chain"), a.word (codes "locals"), b.word (codes "locals"), d.word (codes "locals"), a.word (codes "crtl"), b.word (codes "crtl"), d.word (codes "crtl")) refl,
  rw (a.says, b.says, d.says) (ap (λ (f : Function). stands f) (from_said name insns locals (Some r))),
)

pub function_again : (name : List ℕ) (insns : List Insn) (locals : ℕ) (o : Option Returned) (m n : ℕ) → is_symbol name ≡ true → ChainBack m insns → list_all is_settled insns ≡ true → locals < 4294967296 → IfReturned n o →
    (t : Tree) → Same t (function_tree (made name insns locals o)) → function_of t ≡ stands (made name insns locals o)
function_again name insns locals None m n symbol chain settled less returned t same = by_parts w.parts w.same w.items
  where
    ps : List Tree
    ps = string name ∷ chain_tree insns ∷ locals_tree locals ∷ []

    w : Opened t (codes "function") ps
    w = opened t (codes "function") ps same

    by_parts : (us : List Tree) → AllSame us ps → items_of t ≡ w.head ∷ us → function_of t ≡ stands (made name insns locals None)
    by_parts (q ∷ c ∷ l ∷ []) s items =
        let k = two_items name insns locals c l (chain_item m insns c chain settled s.1.0) (locals_item locals l less s.1.1.0) in
        front_again t q name (c ∷ l ∷ []) w.head items (ap (is_text (codes "function")) w.word) s.0 symbol k.0 k.1 ∙ k.2
    by_parts [] s items = absurd s
    by_parts (q ∷ []) s items = absurd s.1
    by_parts (q ∷ c ∷ []) s items = absurd s.1.1
    by_parts (q ∷ c ∷ l ∷ e ∷ us) s items = absurd s.1.1.1
function_again name insns locals (Some r) m n symbol chain settled less returned t same = by_parts w.parts w.same w.items
  where
    ps : List Tree
    ps = string name ∷ chain_tree insns ∷ locals_tree locals ∷ result_tree r.mode r.reg ∷ []

    w : Opened t (codes "function") ps
    w = opened t (codes "function") ps same

    by_parts : (us : List Tree) → AllSame us ps → items_of t ≡ w.head ∷ us → function_of t ≡ stands (made name insns locals (Some r))
    by_parts (q ∷ c ∷ l ∷ e ∷ []) s items =
        let k = three_items name insns locals r c l e (chain_item m insns c chain settled s.1.0) (locals_item locals l less s.1.1.0) (result_item n r e returned s.1.1.1.0) in
        front_again t q name (c ∷ l ∷ e ∷ []) w.head items (ap (is_text (codes "function")) w.word) s.0 symbol k.0 k.1 ∙ k.2
    by_parts [] s items = absurd s
    by_parts (q ∷ []) s items = absurd s.1
    by_parts (q ∷ c ∷ []) s items = absurd s.1.1
    by_parts (q ∷ c ∷ l ∷ []) s items = absurd s.1.1.1
    by_parts (q ∷ c ∷ l ∷ e ∷ v ∷ us) s items = absurd s.1.1.1.1
