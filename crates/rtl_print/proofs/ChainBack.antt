-- The chain of a function is read back from its lines.
use Rattle.std.proofs.Common.{◌≡◌, ◌≤◌, ◌-◌, ℕ, suc, List, [], ◌∷◌, ◌++◌, map, Bool, true, false, ◌&&◌, Option, Some, None, cond, is_some, codes, refl, ap, subst, ◌∙◌, arith}
use Rattle.std.specs.List.{list_all}
use Rattle.rtx_tree.specs.declared.function.Insn.{Insn}
use Rattle.lisp_read.specs.declared.tree.Tree.{Tree}
use Rattle.lisp_read.specs.Parsed.{Parsed, stands}
use Rattle.lisp_read.specs.Shape.{items_of, is_nested_at, is_nested, is_text, is_word}
use Rattle.rtl_read.specs.Chain.{each_joined, entry_of, block_entries, item_by, item_of, items_joined, chain_items, chain_by, chain_of}
use Rattle.rtl_read.specs.Word.{number_of}
use Rattle.tree_print.specs.Print.{depth_of}
use Rattle.rtl_print.specs.Back.{is_settled}
use Rattle.rtl_print.proofs.EntriesRead.{AllBack, all_more, entry_back}
use Rattle.rtl_print.proofs.FunctionTree.{parts_of_insn, insn_tree, chain_tree}
use Rattle.rtl_print.proofs.Good.{Fits, AllFit, list_fits, word_fits, first_deep, rest_deep}
use Rattle.rtl_print.proofs.Numbers.{if_some, and_true}
use Rattle.rtl_print.proofs.Opened.{Opened, opened}
use Rattle.rtl_print.proofs.Parsing.{pair_stands}
use Rattle.rtl_print.proofs.Same.{Same, AllSame, IsList, as_list}
use Rattle.rtl_print.proofs.Shallow.{deepest, items_depth}
use Rattle.rtl_print.proofs.Written.{atom}

-- ---- what trees give one after the other

pub both : (most : ℕ) (xs ys : List Insn) → AllBack most xs → AllBack most ys → AllBack most (xs ++ ys)
both most [] ys first rest = rest
both most (x ∷ xs) ys first rest = (first.0, both most xs ys first.1 rest)

joined : (read : Tree → Parsed (List Insn)) → ((t : Tree) (insns : List Insn) → read t ≡ stands insns → AllBack (depth_of t) insns) →
    (most : ℕ) (ts : List Tree) (insns : List Insn) → deepest ts ≤ most → each_joined read ts ≡ stands insns → AllBack most insns
joined read back most [] insns le e = let same : [] ≡ insns = cc in subst (AllBack most) same tt
joined read back most (t ∷ ts) insns le e =
    let s = pair_stands (read t) (each_joined read ts) (λ (xs ys : List Insn). xs ++ ys) insns e in
    subst (AllBack most) s.4
    (both most s.0 s.1 (all_more (depth_of t) most s.0 (omega (arith, le, first_deep t ts)) (back t s.0 s.2)) (joined read back most ts s.1 (omega (arith, le, rest_deep t ts)) s.3))

-- ---- blocks and entries

block_says : (items entries : List Tree) → block_entries items ≡ Some entries → (a : Tree) × (n : Tree) × (items ≡ a ∷ n ∷ entries)
block_says [] entries e = cc
block_says (a ∷ []) entries e = cc
block_says (a ∷ n ∷ rest) entries e = by (is_word (codes "block") a) (is_some (number_of n)) (list_all is_nested rest) e
  where
    by : (p q r : Bool) → cond (p && q && r) (Some rest) None ≡ Some entries → (b : Tree) × (m : Tree) × (a ∷ n ∷ rest ≡ b ∷ m ∷ entries)
    by true true true h = (a, n, let same : rest ≡ entries = cc in ap (λ (ts : List Tree). a ∷ n ∷ ts) same)
    by true true false h = cc
    by true false r h = cc
    by false q r h = cc

item_back : (t : Tree) (insns : List Insn) → item_of t ≡ stands insns → AllBack (depth_of t) insns
item_back t insns e = by_block (block_entries (items_of t)) refl e
  where
    by_block : (o : Option (List Tree)) → block_entries (items_of t) ≡ o → item_by t o ≡ stands insns → AllBack (depth_of t) insns
    by_block None is h = entry_back t insns h
    by_block (Some entries) is h =
        let s = block_says (items_of t) entries is in
        joined entry_of entry_back (depth_of t) entries insns (omega (arith, items_depth t s.0 (s.1 ∷ entries) s.2, rest_deep s.0 (s.1 ∷ entries), rest_deep s.1 entries)) h

-- ---- the chain

-- a chain whose lines go no deeper than this
pub record ChainBack (most : ℕ) (insns : List Insn) : Type 0 where
  pub back : list_all is_settled insns ≡ true → (t : Tree) → Same t (chain_tree insns) → chain_of t ≡ stands insns
  pub fits : Fits most (chain_tree insns)

lines_again : (most : ℕ) (insns : List Insn) (ts : List Tree) → AllBack most insns → list_all is_settled insns ≡ true → AllSame ts (map insn_tree insns) → items_joined ts ≡ stands insns
lines_again most [] [] all settled same = refl
lines_again most (i ∷ insns) (t ∷ ts) all settled same =
    let parts = and_true (is_settled i) (list_all is_settled insns) settled in
    rw (all.0.back parts.0 t same.0) (rw (lines_again most insns ts all.1 parts.1 same.1) refl)
lines_again most [] (t ∷ ts) all settled same = absurd same
lines_again most (i ∷ insns) [] all settled same = absurd same

line_nested : (t : Tree) (i : Insn) → Same t (insn_tree i) → is_nested t ≡ true
unfolding insn_tree
line_nested t i same = let l : IsList t (parts_of_insn i.kind i) = as_list t _ (parts_of_insn i.kind i) same in ap is_nested_at l.is

lines_nested : (insns : List Insn) (ts : List Tree) → AllSame ts (map insn_tree insns) → list_all is_nested ts ≡ true
lines_nested [] [] same = refl
lines_nested (i ∷ insns) (t ∷ ts) same = rw (line_nested t i same.0) (lines_nested insns ts same.1)
lines_nested [] (t ∷ ts) same = absurd same
lines_nested (i ∷ insns) [] same = absurd same

chain_again : (most : ℕ) (insns : List Insn) → AllBack most insns → list_all is_settled insns ≡ true → (t : Tree) → Same t (chain_tree insns) → chain_of t ≡ stands insns
chain_again most insns all settled t same =
    let o : Opened t (codes "insn-chain") (map insn_tree insns) = opened t (codes "insn-chain") (map insn_tree insns) same in
    let word : is_word (codes "insn-chain") o.head ≡ true = ap (is_text (codes "insn-chain")) o.word in
    let items : chain_items (items_of t) ≡ Some o.parts = ap chain_items o.items ∙ rw word (rw (lines_nested insns o.parts o.same) refl) in
    ap (chain_by t) items ∙ lines_again most insns o.parts all settled o.same

lines_fit : (most : ℕ) (insns : List Insn) → AllBack most insns → AllFit most (map insn_tree insns)
lines_fit most [] all = tt
lines_fit most (i ∷ insns) all = (all.0.fits, lines_fit most insns all.1)

chain_says : (items inner : List Tree) → chain_items items ≡ Some inner → (a : Tree) × (items ≡ a ∷ inner)
chain_says [] inner e = cc
chain_says (a ∷ rest) inner e =
    let s = if_some (is_word (codes "insn-chain") a && list_all is_nested rest) rest inner e in
    (a, ap (λ (ts : List Tree). a ∷ ts) s.1)

pub chain_lines : (t : Tree) (insns : List Insn) → chain_of t ≡ stands insns → AllBack (depth_of t - 1) insns
chain_lines t insns e = by_items (chain_items (items_of t)) refl e
  where
    by_items : (o : Option (List Tree)) → chain_items (items_of t) ≡ o → chain_by t o ≡ stands insns → AllBack (depth_of t - 1) insns
    by_items None is h = absurd (let none : ⊥ = cc in none)
    by_items (Some inner) is h =
        let s = chain_says (items_of t) inner is in
        joined item_of item_back (depth_of t - 1) inner insns (omega (arith, items_depth t s.0 inner s.1, rest_deep s.0 inner)) h

pub chain_back : (most : ℕ) (insns : List Insn) → AllBack most insns → ChainBack (suc most) insns
chain_back most insns all = record {
  back = chain_again most insns all;
  fits = list_fits most (atom (codes "insn-chain") ∷ map insn_tree insns) (word_fits most (codes "insn-chain") refl, lines_fit most insns all);
}
