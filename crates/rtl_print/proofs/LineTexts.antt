-- The canonical text of a function spells the parts of the tree that it writes.
use Rattle.std.proofs.Common.{◌≡◌, ℕ, List, [], ◌∷◌, ◌++◌, map, flat_map, codes, sym, ap, subst, ◌∙◌, append_assoc}
use Rattle.std.proofs.lemmas.List.{append-nil}
use Rattle.std.proofs.lemmas.List.Concat.{flat_map-cons}
use Rattle.std.specs.Fmt.{decimal}
use Rattle.rtx_tree.specs.declared.code.Mode.{Mode}
use Rattle.rtx_tree.specs.declared.function.ArgUse.{ArgUse}
use Rattle.rtx_tree.specs.declared.function.Insn.{Insn}
use Rattle.rtx_tree.specs.declared.function.Kind.{Kind}
use Rattle.rtx_tree.specs.declared.function.Kind.TheVariants.{Plain, Jump, Call, Label, Barrier}
use Rattle.rtx_tree.specs.declared.tree.Rtx.{Rtx, out-roll-Rtx}
use Rattle.rtx_tree.specs.declared.tree.Rtx.TheOpen.{Rtx-F}
use Rattle.rtx_tree.specs.Tree.{reg_of}
use Rattle.lisp_read.specs.declared.tree.Tree.{Tree}
use Rattle.lisp_read.specs.Part.{Part, parts_of, parts_of_all}
use Rattle.tree_print.proofs.SpellsPrinted.{SpellsAs}
use Rattle.rtl_print.specs.Canonical.{printed_register, printed_link, printed_uses, doing, calling, insn_body, printed_insn}
use Rattle.rtx_tree.specs.Code.{class_of_code}
use Rattle.rtl_print.specs.Print.{head_text, printed, printed_body, spaced_text, spaced_number}
use Rattle.rtl_print.proofs.FunctionTree.{use_rtx, uses_tree, parts_of_insn, insn_tree}
use Rattle.rtl_print.proofs.Pieces.{Piece, nothing, space, newline, listed, first, next, last, word, retold}
use Rattle.rtl_print.proofs.RtxBack.{spells_rtx}
use Rattle.rtl_print.proofs.Texts.{printed_out}
use Rattle.rtl_print.proofs.Written.{atom, list, written}

-- ---- registers and uses

abbrev layer : Rtx-F Rtx → List ℕ
layer o = codes "(" ++ (head_text o.code o.mode ++ (printed_body (class_of_code o.code) o.number o.name (flat_map spaced_text o.kids) (flat_map spaced_number o.kids) ++ codes ")"))

pub register_text : (m : Mode) (r : ℕ) → printed (reg_of m r) ≡ printed_register m r
unfolding printed_register
register_text m r = printed_out (reg_of m r) ∙ ap layer (out-roll-Rtx _)

pub register_spells : (m : Mode) (r : ℕ) → SpellsAs (parts_of (written (reg_of m r))) (printed_register m r)
register_spells m r = retold (parts_of (written (reg_of m r))) (printed (reg_of m r)) (printed_register m r) (register_text m r) (spells_rtx (reg_of m r))

-- (use (reg:MODE R))
use_text : (u : ArgUse) → printed (use_rtx u) ≡ codes "(use " ++ (printed_register u.mode u.reg ++ codes ")")
use_text u =
    let r : Rtx = reg_of u.mode u.reg in
    printed_out (use_rtx u)
    ∙ (ap layer (out-roll-Rtx _)
    ∙ (ap (λ (t : List ℕ). codes "(use" ++ (t ++ codes ")")) (flat_map-cons spaced_text r [] ∙ append-nil (spaced_text r))
    ∙ ap (λ (t : List ℕ). codes "(use " ++ (t ++ codes ")")) (register_text u.mode u.reg)))

link_text : (u : ArgUse) (rest : List ℕ) → 40 ∷ ((codes "expr_list" ++ (32 ∷ (printed (use_rtx u) ++ (32 ∷ rest)))) ++ 41 ∷ []) ≡ printed_link u ++ (rest ++ codes ")")
unfolding printed_link
link_text u rest =
    let r : List ℕ = printed_register u.mode u.reg in
    ap (λ (t : List ℕ). codes "(expr_list " ++ ((t ++ (32 ∷ rest)) ++ 41 ∷ [])) (use_text u)
    ∙ (ap (λ (t : List ℕ). codes "(expr_list (use " ++ (t ++ 41 ∷ [])) (append_assoc r (codes ")") (32 ∷ rest))
    ∙ (ap (λ (t : List ℕ). codes "(expr_list (use " ++ t) (append_assoc r (codes ") " ++ rest) (41 ∷ []))
    ∙ ap (λ (t : List ℕ). codes "(expr_list (use " ++ t) (sym (append_assoc r (codes ") ") (rest ++ 41 ∷ [])))))

pub uses_spell : (us : List ArgUse) → SpellsAs (parts_of (uses_tree us)) (printed_uses us)
unfolding uses_tree
uses_spell [] = (listed (atom (codes "nil") ∷ []) (codes "nil") (first (atom (codes "nil")) [] (codes "nil") [] (word (codes "nil")) nothing)).spells
uses_spell (u ∷ us) =
    let w : List ℕ = codes "expr_list" in
    let one : Tree = written (use_rtx u) in
    let rest : Tree = uses_tree us in
    let a : List ℕ = printed (use_rtx u) in
    let b : List ℕ = printed_uses us in
    let inner : SpellsAs (parts_of_all (atom w ∷ one ∷ rest ∷ [])) (w ++ (32 ∷ (a ++ (32 ∷ b)))) =
    first (atom w) (one ∷ rest ∷ []) w (32 ∷ (a ++ (32 ∷ b))) (word w) (next one (rest ∷ []) a (32 ∷ b) (spells_rtx (use_rtx u)) (last rest b (uses_spell us))) in
    subst (SpellsAs (parts_of (list (atom w ∷ one ∷ rest ∷ [])))) (link_text u b) (listed (atom w ∷ one ∷ rest ∷ []) (w ++ (32 ∷ (a ++ (32 ∷ b)))) inner).spells

-- ---- lines

-- a word and what stands behind it, in a list
abbrev Line : List Tree → List ℕ → Type 0
Line ts bytes = SpellsAs (parts_of_all ts) bytes

doing_line : (w : List ℕ) (i : Insn) → Line (atom w ∷ atom (decimal i.uid) ∷ written i.pattern ∷ []) (doing w i)
doing_line w i =
    let d : List ℕ = decimal i.uid in
    let p : List ℕ = printed i.pattern in
    let x : Tree = written i.pattern in
    retold (parts_of_all (atom w ∷ atom d ∷ x ∷ [])) (w ++ (32 ∷ (d ++ (32 ∷ p)))) (doing w i) (sym (append_assoc w (32 ∷ d) (32 ∷ p)))
    (first (atom w) (atom d ∷ x ∷ []) w (32 ∷ (d ++ (32 ∷ p))) (word w) (next (atom d) (x ∷ []) d (32 ∷ p) (word d) (last x p (spells_rtx i.pattern))))

calling_text : (i : Insn) → codes "ccall_insn" ++ (32 ∷ (decimal i.uid ++ (32 ∷ (printed i.pattern ++ (32 ∷ printed_uses i.uses))))) ≡ calling i
calling_text i =
    let w : List ℕ = codes "ccall_insn" in
    let d : List ℕ = 32 ∷ decimal i.uid in
    let p : List ℕ = 32 ∷ printed i.pattern in
    let u : List ℕ = 32 ∷ printed_uses i.uses in
    sym (append_assoc (w ++ d) p u ∙ append_assoc w d (p ++ u))

body_line : (k : Kind) (i : Insn) → Line (parts_of_insn k i) (insn_body k i)
body_line Plain i = doing_line (codes "cinsn") i
body_line Jump i = doing_line (codes "cjump_insn") i
body_line Call i =
    let w : List ℕ = codes "ccall_insn" in
    let d : List ℕ = decimal i.uid in
    let p : List ℕ = printed i.pattern in
    let u : List ℕ = printed_uses i.uses in
    let x : Tree = written i.pattern in
    let c : Tree = uses_tree i.uses in
    retold (parts_of_all (atom w ∷ atom d ∷ x ∷ c ∷ [])) (w ++ (32 ∷ (d ++ (32 ∷ (p ++ (32 ∷ u)))))) (calling i) (calling_text i)
    (first (atom w) (atom d ∷ x ∷ c ∷ []) w (32 ∷ (d ++ (32 ∷ (p ++ (32 ∷ u))))) (word w)
    (next (atom d) (x ∷ c ∷ []) d (32 ∷ (p ++ (32 ∷ u))) (word d) (next x (c ∷ []) p (32 ∷ u) (spells_rtx i.pattern) (last c u (uses_spell i.uses)))))
body_line Label i =
    let w : List ℕ = codes "clabel" in
    let d : List ℕ = decimal i.uid in
    first (atom w) (atom d ∷ []) w (32 ∷ d) (word w) (last (atom d) d (word d))
body_line Barrier i =
    let w : List ℕ = codes "cbarrier" in
    retold (parts_of_all (atom w ∷ [])) (w ++ []) w (append-nil w) (first (atom w) [] w [] (word w) nothing)

-- a line of the chain, and then others
pub line_spells : (i : Insn) (ts : List Tree) (more : List ℕ) → Piece (parts_of_all ts) more → Piece (parts_of_all (insn_tree i ∷ ts)) (printed_insn i ++ more)
unfolding insn_tree printed_insn
line_spells i ts more rest =
    let body : List ℕ = insn_body i.kind i in
    let whole : SpellsAs (parts_of_all (insn_tree i ∷ ts)) ((40 ∷ (body ++ 41 ∷ [])) ++ (10 ∷ more)) =
    first (list (parts_of_insn i.kind i)) ts (40 ∷ (body ++ 41 ∷ [])) (10 ∷ more) (listed (parts_of_insn i.kind i) body (body_line i.kind i)).spells (newline (parts_of_all ts) more rest.spells) in
    let same : (40 ∷ (body ++ 41 ∷ [])) ++ (10 ∷ more) ≡ 40 ∷ ((body ++ 41 ∷ 10 ∷ []) ++ more) =
    ap (λ (t : List ℕ). 40 ∷ t) (append_assoc body (41 ∷ []) (10 ∷ more) ∙ sym (append_assoc body (41 ∷ 10 ∷ []) more)) in
    let ps : List Part = parts_of_all (insn_tree i ∷ ts) in
    let line : List ℕ = 40 ∷ ((body ++ 41 ∷ 10 ∷ []) ++ more) in
    space ps (32 ∷ 32 ∷ 32 ∷ line) (space ps (32 ∷ 32 ∷ line) (space ps (32 ∷ line) (space ps line (retold ps ((40 ∷ (body ++ 41 ∷ [])) ++ (10 ∷ more)) line same whole)).spells).spells).spells

pub lines_spell : (insns : List Insn) (more : List ℕ) → Piece [] more → Piece (parts_of_all (map insn_tree insns)) (flat_map printed_insn insns ++ more)
lines_spell [] more rest = rest
lines_spell (i ∷ insns) more rest =
    let same : printed_insn i ++ (flat_map printed_insn insns ++ more) ≡ flat_map printed_insn (i ∷ insns) ++ more =
    sym (ap (λ (t : List ℕ). t ++ more) (flat_map-cons printed_insn i insns) ∙ append_assoc (printed_insn i) (flat_map printed_insn insns) more) in
    subst (λ (t : List ℕ). Piece (parts_of_all (map insn_tree (i ∷ insns))) t) same (line_spells i (map insn_tree insns) (flat_map printed_insn insns ++ more) (lines_spell insns more rest))
