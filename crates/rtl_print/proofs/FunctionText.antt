-- The canonical text of a function spells the parts of the tree that it writes.
use Rattle.std.proofs.Common.{◌≡◌, ℕ, List, [], ◌∷◌, ◌++◌, map, flat_map, Option, Some, None, codes, refl, sym, ap, ◌∙◌, append_assoc}
use Rattle.std.specs.Fmt.{decimal}
use Rattle.rtx_tree.specs.declared.code.Mode.{Mode}
use Rattle.rtx_tree.specs.declared.function.Function.{Function}
use Rattle.rtx_tree.specs.declared.function.Insn.{Insn}
use Rattle.rtx_tree.specs.Tree.{reg_of}
use Rattle.lisp_read.specs.declared.tree.Tree.{Tree}
use Rattle.lisp_read.specs.Part.{Part, parts_of, parts_of_all}
use Rattle.tree_print.proofs.SpellsPrinted.{SpellsAs}
use Rattle.rtl_print.specs.Canonical.{printed_register, printed_insn, printed_result, printed_name, printed_function}
use Rattle.rtl_print.proofs.FunctionTree.{insn_tree, chain_tree, locals_tree, result_tree, result_trees, function_tree}
use Rattle.rtl_print.proofs.LineTexts.{register_spells, lines_spell}
use Rattle.rtl_print.proofs.Pieces.{Piece, nothing, space, newline, listed, first, next, last, word, quoted, retold}
use Rattle.rtl_print.proofs.Written.{atom, string, list, written}

-- ---- one text, in two groupings

abbrev l_text : List ℕ → List ℕ → List ℕ
l_text d res = (40 ∷ ((codes "locals" ++ (32 ∷ d)) ++ 41 ∷ [])) ++ (10 ∷ res)

abbrev c_text : List ℕ → List ℕ → List ℕ
c_text lines l = (40 ∷ ((codes "insn-chain" ++ (10 ∷ (lines ++ 32 ∷ 32 ∷ []))) ++ 41 ∷ [])) ++ (10 ∷ 32 ∷ 32 ∷ l)

abbrev s_text : List ℕ → List ℕ → List ℕ
s_text name c = (34 ∷ (name ++ 34 ∷ [])) ++ (10 ∷ 32 ∷ 32 ∷ c)

l_grouped : (d res z : List ℕ) → l_text d res ++ z ≡ codes "(locals " ++ (d ++ (41 ∷ 10 ∷ (res ++ z)))
l_grouped d res z = ap (λ (t : List ℕ). codes "(locals " ++ t) (append_assoc (d ++ 41 ∷ []) (10 ∷ res) z ∙ append_assoc d (41 ∷ []) (10 ∷ (res ++ z)))

c_grouped : (lines l z : List ℕ) → c_text lines l ++ z ≡ codes "(insn-chain\n" ++ (lines ++ (codes "  )\n  " ++ (l ++ z)))
c_grouped lines l z =
    ap (λ (t : List ℕ). codes "(insn-chain\n" ++ t)
    (append_assoc ((lines ++ 32 ∷ 32 ∷ []) ++ 41 ∷ []) (10 ∷ 32 ∷ 32 ∷ l) z
    ∙ (append_assoc (lines ++ 32 ∷ 32 ∷ []) (41 ∷ []) (10 ∷ 32 ∷ 32 ∷ (l ++ z)) ∙ append_assoc lines (32 ∷ 32 ∷ []) (41 ∷ 10 ∷ 32 ∷ 32 ∷ (l ++ z))))

s_grouped : (name c z : List ℕ) → s_text name c ++ z ≡ 34 ∷ (name ++ (codes "\"\n  " ++ (c ++ z)))
s_grouped name c z = ap (λ (t : List ℕ). 34 ∷ t) (append_assoc (name ++ 34 ∷ []) (10 ∷ 32 ∷ 32 ∷ c) z ∙ append_assoc name (34 ∷ []) (10 ∷ 32 ∷ 32 ∷ (c ++ z)))

abbrev grouped : List ℕ → List ℕ → List ℕ → List ℕ → List ℕ → List ℕ
grouped name lines d res more = codes "(function \"" ++ (name ++ (codes "\"\n  (insn-chain\n" ++ (lines ++ (codes "  )\n  (locals " ++ (d ++ (codes ")\n" ++ (res ++ (codes ")\n" ++ more))))))))

left : (name lines d res more : List ℕ) → (40 ∷ ((codes "function" ++ (32 ∷ s_text name (c_text lines (l_text d res)))) ++ 41 ∷ [])) ++ (10 ∷ more) ≡ grouped name lines d res more
left name lines d res more =
    let z : List ℕ = 41 ∷ 10 ∷ more in
    let l : List ℕ = l_text d res in
    let c : List ℕ = c_text lines l in
    ap (λ (t : List ℕ). codes "(function " ++ t) (append_assoc (s_text name c) (41 ∷ []) (10 ∷ more) ∙ s_grouped name c z)
    ∙ (ap (λ (t : List ℕ). codes "(function \"" ++ (name ++ (codes "\"\n  " ++ t))) (c_grouped lines l z)
    ∙ ap (λ (t : List ℕ). codes "(function \"" ++ (name ++ (codes "\"\n  (insn-chain\n" ++ (lines ++ (codes "  )\n  " ++ t))))) (l_grouped d res z))

abbrev front : List ℕ → List ℕ → List ℕ
front name lines = (name ++ codes "\"\n  (insn-chain\n") ++ (lines ++ codes "  )\n")

abbrev end : List ℕ → List ℕ → List ℕ
end d res = (codes "  (locals " ++ (d ++ codes ")\n")) ++ (res ++ codes ")\n")

front_grouped : (name lines z : List ℕ) → front name lines ++ z ≡ name ++ (codes "\"\n  (insn-chain\n" ++ (lines ++ (codes "  )\n" ++ z)))
front_grouped name lines z =
    append_assoc (name ++ codes "\"\n  (insn-chain\n") (lines ++ codes "  )\n") z
    ∙ (append_assoc name (codes "\"\n  (insn-chain\n") ((lines ++ codes "  )\n") ++ z)
    ∙ ap (λ (t : List ℕ). name ++ (codes "\"\n  (insn-chain\n" ++ t)) (append_assoc lines (codes "  )\n") z))

end_grouped : (d res more : List ℕ) → end d res ++ more ≡ codes "  (locals " ++ (d ++ (codes ")\n" ++ (res ++ (codes ")\n" ++ more))))
end_grouped d res more =
    ap (λ (t : List ℕ). codes "  (locals " ++ t)
    (append_assoc (d ++ codes ")\n") (res ++ codes ")\n") more
    ∙ (append_assoc d (codes ")\n") ((res ++ codes ")\n") ++ more) ∙ ap (λ (t : List ℕ). d ++ (codes ")\n" ++ t)) (append_assoc res (codes ")\n") more)))

right : (name lines d res more : List ℕ) → (((codes "(function \"" ++ (name ++ codes "\"\n  (insn-chain\n")) ++ (lines ++ codes "  )\n")) ++ end d res) ++ more ≡ grouped name lines d res more
right name lines d res more =
    ap (λ (t : List ℕ). codes "(function \"" ++ t)
    (append_assoc (front name lines) (end d res) more
    ∙ (front_grouped name lines (end d res ++ more) ∙ ap (λ (t : List ℕ). name ++ (codes "\"\n  (insn-chain\n" ++ (lines ++ (codes "  )\n" ++ t)))) (end_grouped d res more)))

texts : (name lines d res more : List ℕ) → (40 ∷ ((codes "function" ++ (32 ∷ s_text name (c_text lines (l_text d res)))) ++ 41 ∷ [])) ++ (10 ∷ more)
    ≡ (((codes "(function \"" ++ (name ++ codes "\"\n  (insn-chain\n")) ++ (lines ++ codes "  )\n")) ++ end d res) ++ more
texts name lines d res more = left name lines d res more ∙ sym (right name lines d res more)

result_texts : (reg : List ℕ) →
    32 ∷ 32 ∷ ((40 ∷ ((codes "crtl" ++ (10 ∷ 32 ∷ 32 ∷ 32 ∷ 32 ∷ ((40 ∷ ((codes "return_rtx" ++ (32 ∷ reg)) ++ 41 ∷ [])) ++ (10 ∷ 32 ∷ 32 ∷ [])))) ++ 41 ∷ [])) ++ (10 ∷ []))
    ≡ codes "  (crtl\n    (return_rtx " ++ (reg ++ codes ")\n  )\n")
result_texts reg = simp append_assoc refl

-- ---- the result

-- so many spaces in front
two_spaces : (ps : List Part) (bytes : List ℕ) → SpellsAs ps bytes → SpellsAs ps (32 ∷ 32 ∷ bytes)
two_spaces ps bytes h = (space ps (32 ∷ bytes) (space ps bytes h).spells).spells

on_line : (ps : List Part) (bytes : List ℕ) → SpellsAs ps bytes → Piece ps (10 ∷ 32 ∷ 32 ∷ bytes)
on_line ps bytes h = newline ps (32 ∷ 32 ∷ bytes) (two_spaces ps bytes h)

result_spells : (m : Mode) (r : ℕ) → SpellsAs (parts_of_all (result_tree m r ∷ [])) (printed_result (Some m) r)
result_spells m r =
    let reg : List ℕ = printed_register m r in
    let x : Tree = written (reg_of m r) in
    let returned : Tree = list (atom (codes "return_rtx") ∷ x ∷ []) in
    let inner : List ℕ = 40 ∷ ((codes "return_rtx" ++ (32 ∷ reg)) ++ 41 ∷ []) in
    let body : List ℕ = codes "crtl" ++ (10 ∷ 32 ∷ 32 ∷ 32 ∷ 32 ∷ (inner ++ (10 ∷ 32 ∷ 32 ∷ []))) in
    let one : Piece (parts_of returned) inner = listed (atom (codes "return_rtx") ∷ x ∷ []) (codes "return_rtx" ++ (32 ∷ reg)) (first (atom (codes "return_rtx")) (x ∷ []) (codes "return_rtx") (32 ∷ reg) (word (codes "return_rtx")) (last x reg (register_spells m r))) in
    let ends : Piece [] (10 ∷ 32 ∷ 32 ∷ []) = on_line [] [] nothing.spells in
    let middle : Piece (parts_of_all (returned ∷ [])) (10 ∷ 32 ∷ 32 ∷ 32 ∷ 32 ∷ (inner ++ (10 ∷ 32 ∷ 32 ∷ []))) =
    on_line (parts_of_all (returned ∷ [])) (32 ∷ 32 ∷ (inner ++ (10 ∷ 32 ∷ 32 ∷ []))) (two_spaces (parts_of_all (returned ∷ [])) (inner ++ (10 ∷ 32 ∷ 32 ∷ [])) (first returned [] inner (10 ∷ 32 ∷ 32 ∷ []) one.spells ends)) in
    let whole : Piece (parts_of (result_tree m r)) (40 ∷ (body ++ 41 ∷ [])) =
    listed (atom (codes "crtl") ∷ returned ∷ []) body (first (atom (codes "crtl")) (returned ∷ []) (codes "crtl") (10 ∷ 32 ∷ 32 ∷ 32 ∷ 32 ∷ (inner ++ (10 ∷ 32 ∷ 32 ∷ []))) (word (codes "crtl")) middle) in
    retold (parts_of_all (result_tree m r ∷ [])) (32 ∷ 32 ∷ ((40 ∷ (body ++ 41 ∷ [])) ++ (10 ∷ []))) (printed_result (Some m) r) (result_texts reg)
    (two_spaces (parts_of_all (result_tree m r ∷ [])) ((40 ∷ (body ++ 41 ∷ [])) ++ (10 ∷ [])) (first (result_tree m r) [] (40 ∷ (body ++ 41 ∷ [])) (10 ∷ []) whole.spells (newline [] [] nothing.spells)))

results_spell : (o : Option Mode) (r : ℕ) → Piece (parts_of_all (result_trees o r)) (10 ∷ printed_result o r)
results_spell None r = newline [] [] nothing.spells
results_spell (Some m) r = newline (parts_of_all (result_tree m r ∷ [])) (printed_result (Some m) r) (result_spells m r)

-- ---- the function

chain_text : List Insn → List ℕ
chain_text insns = 40 ∷ ((codes "insn-chain" ++ (10 ∷ (flat_map printed_insn insns ++ 32 ∷ 32 ∷ []))) ++ 41 ∷ [])

chain_spells : (insns : List Insn) → SpellsAs (parts_of (chain_tree insns)) (chain_text insns)
unfolding chain_text
chain_spells insns =
    let lines : List ℕ = flat_map printed_insn insns ++ 32 ∷ 32 ∷ [] in
    let inner : Piece (parts_of_all (map insn_tree insns)) (10 ∷ lines) =
    newline (parts_of_all (map insn_tree insns)) lines (lines_spell insns (32 ∷ 32 ∷ []) (space [] (32 ∷ []) (space [] [] nothing.spells).spells)).spells in
    (listed (atom (codes "insn-chain") ∷ map insn_tree insns) (codes "insn-chain" ++ (10 ∷ lines)) (first (atom (codes "insn-chain")) (map insn_tree insns) (codes "insn-chain") (10 ∷ lines) (word (codes "insn-chain")) inner)).spells

locals_text : ℕ → List ℕ
locals_text locals = 40 ∷ ((codes "locals" ++ (32 ∷ decimal locals)) ++ 41 ∷ [])

locals_spell : (locals : ℕ) → SpellsAs (parts_of (locals_tree locals)) (locals_text locals)
unfolding locals_text
locals_spell locals =
    let d : List ℕ = decimal locals in
    (listed (atom (codes "locals") ∷ atom d ∷ []) (codes "locals" ++ (32 ∷ d)) (first (atom (codes "locals")) (atom d ∷ []) (codes "locals") (32 ∷ d) (word (codes "locals")) (last (atom d) d (word d)))).spells

-- a function, and then other trees
pub function_spells : (f : Function) (ts : List Tree) (more : List ℕ) → Piece (parts_of_all ts) more → SpellsAs (parts_of_all (function_tree f ∷ ts)) (printed_function f ++ more)
unfolding chain_text locals_text printed_name
function_spells f ts more rest =
    let results : List Tree = result_trees f.result f.result_reg in
    let res : List ℕ = printed_result f.result f.result_reg in
    let l : List ℕ = locals_text f.locals ++ (10 ∷ res) in
    let c : List ℕ = chain_text f.insns ++ (10 ∷ 32 ∷ 32 ∷ l) in
    let s : List ℕ = (34 ∷ (f.name ++ 34 ∷ [])) ++ (10 ∷ 32 ∷ 32 ∷ c) in
    let locals : Piece (parts_of_all (locals_tree f.locals ∷ results)) (10 ∷ 32 ∷ 32 ∷ l) =
    on_line (parts_of_all (locals_tree f.locals ∷ results)) l (first (locals_tree f.locals) results (locals_text f.locals) (10 ∷ res) (locals_spell f.locals) (results_spell f.result f.result_reg)) in
    let chain : Piece (parts_of_all (chain_tree f.insns ∷ locals_tree f.locals ∷ results)) (10 ∷ 32 ∷ 32 ∷ c) =
    on_line (parts_of_all (chain_tree f.insns ∷ locals_tree f.locals ∷ results)) c (first (chain_tree f.insns) (locals_tree f.locals ∷ results) (chain_text f.insns) (10 ∷ 32 ∷ 32 ∷ l) (chain_spells f.insns) locals) in
    let named : Piece (parts_of_all (string f.name ∷ chain_tree f.insns ∷ locals_tree f.locals ∷ results)) (32 ∷ s) =
    next (string f.name) (chain_tree f.insns ∷ locals_tree f.locals ∷ results) (34 ∷ (f.name ++ 34 ∷ [])) (10 ∷ 32 ∷ 32 ∷ c) (quoted f.name) chain in
    let whole : Piece (parts_of (function_tree f)) (40 ∷ ((codes "function" ++ (32 ∷ s)) ++ 41 ∷ [])) =
    listed (atom (codes "function") ∷ string f.name ∷ chain_tree f.insns ∷ locals_tree f.locals ∷ results) (codes "function" ++ (32 ∷ s)) (first (atom (codes "function")) (string f.name ∷ chain_tree f.insns ∷ locals_tree f.locals ∷ results) (codes "function") (32 ∷ s) (word (codes "function")) named) in
    retold (parts_of_all (function_tree f ∷ ts)) ((40 ∷ ((codes "function" ++ (32 ∷ s)) ++ 41 ∷ [])) ++ (10 ∷ more)) (printed_function f ++ more) (texts f.name (flat_map printed_insn f.insns) (decimal f.locals) res more)
    (first (function_tree f) ts (40 ∷ ((codes "function" ++ (32 ∷ s)) ++ 41 ∷ [])) (10 ∷ more) whole.spells (newline (parts_of_all ts) more rest.spells))
