-- The lines of a chain are read back, by what they hold.
use Rattle.std.proofs.Common.{◌≡◌, ◌<◌, ℕ, List, [], ◌∷◌, Bool, true, false, ◌||◌, Option, Some, None, codes, bytes_eq, refl, ap, ◌∙◌}
use Rattle.std.specs.Prelude.{option_map, option_and_then, if◌then◌else◌}
use Rattle.std.specs.Fmt.{decimal}
use Rattle.rtx_tree.specs.declared.function.ArgUse.{ArgUse}
use Rattle.rtx_tree.specs.declared.function.Insn.{Insn}
use Rattle.rtx_tree.specs.declared.function.Kind.{Kind}
use Rattle.rtx_tree.specs.declared.function.Kind.TheVariants.{Plain, Jump, Call, Label}
use Rattle.rtx_tree.specs.declared.tree.Rtx.{Rtx}
use Rattle.rtx_tree.specs.Patterns.{nothing_rtx}
use Rattle.lisp_read.specs.declared.position.Position.TheVariants.{Pattern}
use Rattle.lisp_read.specs.declared.tree.Tree.{Tree}
use Rattle.lisp_read.specs.Leaf.{uid_in}
use Rattle.lisp_read.specs.Parsed.{Parsed, stands, outside, parsed_map}
use Rattle.lisp_read.specs.Shape.{atom_at, atom_of, is_text}
use Rattle.rtl_read.specs.Call.{call_of, uses_of}
use Rattle.rtl_read.specs.Chain as chain
use Rattle.rtl_read.specs.Chain.{insn_with, parts_with, insn_parts, insn_by, call_with, leading_number, label_by, barrier, one_barrier, entry_by, block_entries, item_by, item_of}
use Rattle.rtl_read.specs.Word.{number_of}
use Rattle.tree_print.specs.Print.{nowhere}
use Rattle.rtl_print.specs.Back.{is_settled}
use Rattle.rtl_print.proofs.CallRead.{CallBack}
use Rattle.rtl_print.proofs.FunctionTree.{uses_tree, insn_tree}
use Rattle.rtl_print.proofs.Nodes.{nested_written}
use Rattle.rtl_print.proofs.Numbers.{uid_again}
use Rattle.rtl_print.proofs.Opened.{Opened, opened}
use Rattle.rtl_print.proofs.Same.{Same, AllSame, as_atom}
use Rattle.rtl_print.proofs.UsesBack.{UsesBack, uses_again}
use Rattle.rtl_print.proofs.Words.{Back}
use Rattle.rtl_print.proofs.Written.{atom, written}

-- ---- an entry, by the word at its head

abbrev is_passed_word : Option (List ℕ) → Bool
is_passed_word a = is_text (codes "cnote") a || is_text (codes "edge-from") a || is_text (codes "edge-to") a

abbrev pub entry_at : Tree → Option (List ℕ) → List Tree → Parsed (List Insn)
entry_at t a parts =
    if is_text (codes "cinsn") a then insn_by Plain t (insn_parts parts)
    else (if is_text (codes "cjump_insn") a then insn_by Jump t (insn_parts parts)
    else (if is_text (codes "ccall_insn") a then chain.call_by t (insn_parts parts)
    else (if is_text (codes "clabel") a then label_by t (leading_number parts)
    else (if is_text (codes "cbarrier") a then one_barrier
    else (if is_passed_word a then stands [] else outside t)))))

no_block : (head : Tree) (parts : List Tree) (word : List ℕ) → atom_of head ≡ Some word → bytes_eq word (codes "block") ≡ false → block_entries (head ∷ parts) ≡ None
no_block head [] word is other = refl
no_block head (n ∷ entries) word is other = rw (ap (is_text (codes "block")) is ∙ other) refl

-- a line is no block
item_at : (t : Tree) (word : List ℕ) (ps : List Tree) (o : Opened t word ps) → bytes_eq word (codes "block") ≡ false → item_of t ≡ entry_at t (Some word) o.parts
item_at t word ps o other =
    ap (item_by t) (ap block_entries o.items ∙ no_block o.head o.parts word o.word other)
    ∙ (ap (entry_by t) o.items
    ∙ ap (λ (a : Option (List ℕ)). entry_at t a o.parts) o.word)

-- ---- its parts

number_again : (u : Tree) (uid : ℕ) → uid < 4294967296 → Same u (atom (decimal uid)) → number_of u ≡ Some uid
number_again u uid fits same = ap (option_and_then uid_in) (ap atom_at (as_atom u nowhere (decimal uid) same).is) ∙ uid_again uid fits

parts_again : (u p : Tree) (rest : List Tree) (uid : ℕ) (x : Rtx) → uid < 4294967296 → Same u (atom (decimal uid)) → Same p (written x) → insn_parts (u ∷ p ∷ rest) ≡ Some (parts_with p rest uid)
parts_again u p rest uid x fits same_u same_p = rw (nested_written p x same_p) (ap (option_map (parts_with p rest)) (number_again u uid fits same_u))

-- ---- plain instructions and jumps

insn_parts_again : (kind : Kind) (t : Tree) (ps : List Tree) (uid : ℕ) (x : Rtx) → uid < 4294967296 → Back Pattern x → AllSame ps (atom (decimal uid) ∷ written x ∷ []) → insn_by kind t (insn_parts ps) ≡ stands (insn_with kind uid [] x ∷ [])
unfolding Back
insn_parts_again kind t (u ∷ p ∷ []) uid x fits back same =
    ap (insn_by kind t) (parts_again u p [] uid x fits same.0 same.1.0)
    ∙ ap (parsed_map (λ (y : Rtx). insn_with kind uid [] y ∷ [])) (back p same.1.0)
insn_parts_again kind t [] uid x fits back same = absurd same
insn_parts_again kind t (u ∷ []) uid x fits back same = absurd same.1
insn_parts_again kind t (u ∷ p ∷ q ∷ ps) uid x fits back same = absurd same.1.1

pub plain_again : (uid : ℕ) (x : Rtx) → uid < 4294967296 → Back Pattern x → (t : Tree) → Same t (insn_tree (insn_with Plain uid [] x)) → item_of t ≡ stands (insn_with Plain uid [] x ∷ [])
unfolding insn_tree
plain_again uid x fits back t same =
    let ps : List Tree = atom (decimal uid) ∷ written x ∷ [] in
    let o : Opened t (codes "cinsn") ps = opened t (codes "cinsn") ps same in
    item_at t (codes "cinsn") ps o refl ∙ insn_parts_again Plain t o.parts uid x fits back o.same

pub jump_again : (uid : ℕ) (x : Rtx) → uid < 4294967296 → Back Pattern x → (t : Tree) → Same t (insn_tree (insn_with Jump uid [] x)) → item_of t ≡ stands (insn_with Jump uid [] x ∷ [])
unfolding insn_tree
jump_again uid x fits back t same =
    let ps : List Tree = atom (decimal uid) ∷ written x ∷ [] in
    let o : Opened t (codes "cjump_insn") ps = opened t (codes "cjump_insn") ps same in
    item_at t (codes "cjump_insn") ps o refl ∙ insn_parts_again Jump t o.parts uid x fits back o.same

-- ---- calls

call_parts_again : (t : Tree) (ps : List Tree) (uid : ℕ) (x : Rtx) (uses : List ArgUse) → uid < 4294967296 → ((p : Tree) → Same p (written x) → call_of p ≡ stands x) →
    ((c : Tree) → Same c (uses_tree uses) → uses_of (c ∷ []) ≡ stands uses) → AllSame ps (atom (decimal uid) ∷ written x ∷ uses_tree uses ∷ []) → chain.call_by t (insn_parts ps) ≡ stands (call_with uid x uses)
call_parts_again t (u ∷ p ∷ c ∷ []) uid x uses fits call told same =
    ap (chain.call_by t) (parts_again u p (c ∷ []) uid x fits same.0 same.1.0)
    ∙ rw (call p same.1.0) (rw (told c same.1.1.0) refl)
call_parts_again t [] uid x uses fits call told same = absurd same
call_parts_again t (u ∷ []) uid x uses fits call told same = absurd same.1
call_parts_again t (u ∷ p ∷ []) uid x uses fits call told same = absurd same.1.1
call_parts_again t (u ∷ p ∷ c ∷ q ∷ ps) uid x uses fits call told same = absurd same.1.1.1

pub call_again : (uid : ℕ) (x : Rtx) (uses : List ArgUse) (m n : ℕ) → uid < 4294967296 → CallBack m x → UsesBack n uses → is_settled (insn_with Call uid uses x) ≡ true →
    (t : Tree) → Same t (insn_tree (insn_with Call uid uses x)) → item_of t ≡ stands (insn_with Call uid uses x ∷ [])
unfolding insn_tree
call_again uid x uses m n fits call told settled t same =
    let ps : List Tree = atom (decimal uid) ∷ written x ∷ uses_tree uses ∷ [] in
    let o : Opened t (codes "ccall_insn") ps = opened t (codes "ccall_insn") ps same in
    item_at t (codes "ccall_insn") ps o refl
    ∙ call_parts_again t o.parts uid x uses fits (λ p here. call.back settled p here) (λ c here. uses_again n uses c told here) o.same

-- ---- labels and barriers

leading_again : (ps : List Tree) (uid : ℕ) → uid < 4294967296 → AllSame ps (atom (decimal uid) ∷ []) → leading_number ps ≡ Some uid
leading_again [] uid fits same = absurd same
leading_again (u ∷ more) uid fits same = number_again u uid fits same.0

pub label_again : (uid : ℕ) → uid < 4294967296 → (t : Tree) → Same t (insn_tree (insn_with Label uid [] nothing_rtx)) → item_of t ≡ stands (insn_with Label uid [] nothing_rtx ∷ [])
unfolding insn_tree
label_again uid fits t same =
    let ps : List Tree = atom (decimal uid) ∷ [] in
    let o : Opened t (codes "clabel") ps = opened t (codes "clabel") ps same in
    item_at t (codes "clabel") ps o refl ∙ ap (label_by t) (leading_again o.parts uid fits o.same)

pub barrier_again : (t : Tree) → Same t (insn_tree barrier) → item_of t ≡ stands (barrier ∷ [])
unfolding insn_tree
barrier_again t same =
    let o : Opened t (codes "cbarrier") [] = opened t (codes "cbarrier") [] same in
    item_at t (codes "cbarrier") [] o refl
