-- What is read of a chain can be printed.
use Rattle.std.proofs.Common.{◌≡◌, ℕ, Bool, true, false, cond, List, [], ◌∷◌, ◌++◌, codes, Option, Some, None, refl, subst}
use Rattle.std.specs.List.{AllByRecursion}
use Rattle.rtx_tree.specs.declared.function.Insn.{Insn}
use Rattle.rtx_tree.specs.declared.function.Kind.{Kind}
use Rattle.rtx_tree.specs.declared.function.Kind.TheVariants.{Plain, Jump, Label}
use Rattle.rtx_tree.specs.declared.tree.Rtx.{Rtx}
use Rattle.rtx_tree.specs.Patterns.{nothing_rtx}
use Rattle.lisp_read.specs.declared.position.Position.TheVariants.{Pattern}
use Rattle.lisp_read.specs.declared.tree.Tree.{Tree}
use Rattle.lisp_read.specs.Expression.{read_at}
use Rattle.lisp_read.specs.Parsed.{Parsed, stands, outside}
use Rattle.lisp_read.specs.Shape.{items_of, is_word}
use Rattle.rtl_read.specs.Call.{call_of, uses_of}
use Rattle.rtl_read.specs.Chain as chain
use Rattle.rtl_read.specs.Chain.{InsnParts, insn_with, insn_parts, insn_by, call_with, leading_number, label_by, barrier, one_barrier, is_passed, entry_by, entry_of, each_joined, block_entries, item_by, item_of, chain_items, chain_by, chain_of}
use Rattle.rtl_print.proofs.Parsing.{map_stands, pair_stands}
use Rattle.law_plain_read.specs.Read.{IsReadable}
use Rattle.law_plain_read.proofs.Sound.{printable}
use Rattle.law_plain_read.proofs.Expressions.{expression, together}
use Rattle.law_plain_read.proofs.Calls.{call}
use Rattle.law_plain_read.proofs.Uses.{uses}

abbrev pub All : List Insn → Type 0
All insns = AllByRecursion IsReadable insns

-- what is read of a tree
abbrev Reads : Parsed (List Insn) → Type 0
Reads p = (insns : List Insn) → p ≡ stands insns → All insns

nothing : (kind : Kind) (uid : ℕ) → IsReadable (insn_with kind uid [] nothing_rtx)
nothing kind uid = record { printable = printable nothing_rtx (together [] tt); moded = refl }

given : (insns : List Insn) → All insns → Reads (stands insns)
given insns all others is = let same : insns ≡ others = cc in subst All same all

missing : (t : Tree) → Reads (outside t)
missing t insns is = absurd (let no : ⊥ = cc in no)

-- ---- an entry

insn_read : (kind : Kind) (t : Tree) (o : Option InsnParts) → Reads (insn_by kind t o)
insn_read kind t None insns is = missing t insns is
insn_read kind t (Some ip) insns is =
    let x = map_stands (λ (y : Rtx). insn_with kind ip.uid [] y ∷ []) (read_at Pattern ip.pattern) insns is in
    subst All x.2 (record { printable = printable x.0 (expression ip.pattern Pattern x.0 x.1); moded = refl }, tt)

call_read : (t : Tree) (o : Option InsnParts) → Reads (chain.call_by t o)
call_read t None insns is = missing t insns is
call_read t (Some ip) insns is =
    let r = pair_stands (call_of ip.pattern) (uses_of ip.rest) (call_with ip.uid) insns is in
    subst All r.4 (record { printable = printable r.0 (call ip.pattern r.0 r.2); moded = uses ip.rest r.1 r.3 }, tt)

label_read : (t : Tree) (o : Option ℕ) → Reads (label_by t o)
label_read t None = missing t
label_read t (Some uid) = given (insn_with Label uid [] nothing_rtx ∷ []) (nothing Label uid, tt)

chosen : (b : Bool) (p q : Parsed (List Insn)) → Reads p → Reads q → Reads (cond b p q)
chosen true p q first second = first
chosen false p q first second = second

entry_items : (t : Tree) (items : List Tree) → Reads (entry_by t items)
entry_items t [] = missing t
entry_items t (h ∷ parts) =
    chosen (is_word (codes "cinsn") h) _ _ (insn_read Plain t (insn_parts parts))
    (chosen (is_word (codes "cjump_insn") h) _ _ (insn_read Jump t (insn_parts parts))
    (chosen (is_word (codes "ccall_insn") h) _ _ (call_read t (insn_parts parts))
    (chosen (is_word (codes "clabel") h) _ _ (label_read t (leading_number parts))
    (chosen (is_word (codes "cbarrier") h) _ _ (given (barrier ∷ []) (nothing barrier.kind 0, tt)) (chosen (is_passed h) _ _ (given [] tt) (missing t))))))

-- ---- the chain

pub both : (xs ys : List Insn) → All xs → All ys → All (xs ++ ys)
both [] ys one other = other
both (x ∷ xs) ys one other = (one.0, both xs ys one.1 other)

joined : (read : Tree → Parsed (List Insn)) → ((t : Tree) → Reads (read t)) → (ts : List Tree) → Reads (each_joined read ts)
joined read each [] insns is = given [] tt insns is
joined read each (t ∷ ts) insns is =
    let s = pair_stands (read t) (each_joined read ts) (λ (xs ys : List Insn). xs ++ ys) insns is in
    subst All s.4 (both s.0 s.1 (each t s.0 s.2) (joined read each ts s.1 s.3))

entry_read : (t : Tree) → Reads (entry_of t)
entry_read t = entry_items t (items_of t)

item_read : (t : Tree) → Reads (item_of t)
item_read t = go (block_entries (items_of t))
  where
    go : (o : Option (List Tree)) → Reads (item_by t o)
    go None = entry_read t
    go (Some entries) = joined entry_of entry_read entries

pub chain_read : (t : Tree) → Reads (chain_of t)
chain_read t = go (chain_items (items_of t))
  where
    go : (o : Option (List Tree)) → Reads (chain_by t o)
    go None = missing t
    go (Some items) = joined item_of item_read items
