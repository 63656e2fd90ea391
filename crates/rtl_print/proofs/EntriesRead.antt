-- The instructions that an entry of a chain gives are read back, each from its line.
use Rattle.std.proofs.Common.{◌≡◌, ◌≤◌, ◌<◌, ℕ, suc, List, [], ◌∷◌, Bool, true, false, Option, Some, None, cond, codes, refl, ap, subst, arith}
use Rattle.std.specs.Prelude.{option_map}
use Rattle.std.specs.List.{AllByRecursion}
use Rattle.std.specs.Fmt.{decimal}
use Rattle.rtx_tree.specs.declared.function.ArgUse.{ArgUse}
use Rattle.rtx_tree.specs.declared.function.Insn.{Insn}
use Rattle.rtx_tree.specs.declared.function.Kind.TheVariants.{Plain, Jump, Call, Label}
use Rattle.rtx_tree.specs.declared.tree.Rtx.{Rtx}
use Rattle.rtx_tree.specs.Patterns.{nothing_rtx}
use Rattle.lisp_read.specs.declared.position.Position.TheVariants.{Pattern}
use Rattle.lisp_read.specs.declared.tree.Tree.{Tree}
use Rattle.lisp_read.specs.Expression.{read_at}
use Rattle.lisp_read.specs.Leaf.{uid_in}
use Rattle.lisp_read.specs.Parsed.{Parsed, stands, outside}
use Rattle.lisp_read.specs.Shape.{atom_of, items_of, is_nested, is_word}
use Rattle.rtl_read.specs.Call.{call_of, uses_of}
use Rattle.rtl_read.specs.Chain as chain
use Rattle.rtl_read.specs.Chain.{InsnParts, insn_with, parts_with, insn_parts, insn_by, call_with, leading_number, label_by, barrier, one_barrier, is_passed, entry_by, entry_of, item_of}
use Rattle.rtl_read.specs.Word.{number_of}
use Rattle.tree_print.specs.Print.{depth_of}
use Rattle.rtl_print.specs.Back.{is_settled}
use Rattle.rtl_print.proofs.Atoms.{is_plain_word, decimal_is_atom}
use Rattle.rtl_print.proofs.Back.{back}
use Rattle.rtl_print.proofs.CallRead.{CallBack, call_back}
use Rattle.rtl_print.proofs.FunctionTree.{uses_tree, insn_tree}
use Rattle.rtl_print.proofs.Good.{Fits, fits_more, list_fits, atom_fits, word_fits, rtx_fits, first_deep, rest_deep}
use Rattle.rtl_print.proofs.InsnsBack.{plain_again, jump_again, call_again, label_again, barrier_again}
use Rattle.rtl_print.proofs.Numbers.{then_some, map_some, uid_less}
use Rattle.rtl_print.proofs.Parsing.{map_stands, pair_stands}
use Rattle.rtl_print.proofs.Same.{Same}
use Rattle.rtl_print.proofs.Shallow.{deepest, items_depth, nested_depth}
use Rattle.rtl_print.proofs.UsesBack.{UsesBack, uses_back}
use Rattle.rtl_print.proofs.Written.{atom, list, written}

-- an instruction whose line goes no deeper than this
pub record InsnBack (most : ℕ) (i : Insn) : Type 0 where
  pub back : is_settled i ≡ true → (t : Tree) → Same t (insn_tree i) → item_of t ≡ stands (i ∷ [])
  pub fits : Fits most (insn_tree i)

abbrev pub AllBack : ℕ → List Insn → Type 0
AllBack most insns = AllByRecursion (InsnBack most) insns

pub insn_more : (a b : ℕ) (i : Insn) → a ≤ b → InsnBack a i → InsnBack b i
insn_more a b i le h = record { back = h.back; fits = fits_more a b (insn_tree i) le h.fits }

pub all_more : (a b : ℕ) (insns : List Insn) → a ≤ b → AllBack a insns → AllBack b insns
all_more a b [] le all = tt
all_more a b (i ∷ insns) le all = (insn_more a b i le all.0, all_more a b insns le all.1)

-- ---- how deep a line goes

pub uid_fits : (most uid : ℕ) → uid < 4294967296 → Fits most (atom (decimal uid))
uid_fits most uid less = atom_fits most (decimal uid) (decimal_is_atom uid (omega (arith, less)))

doing_fits : (most uid : ℕ) (word : List ℕ) (x : Rtx) → is_plain_word word ≡ true → uid < 4294967296 → Fits most (written x) → Fits (suc most) (list (atom word ∷ atom (decimal uid) ∷ written x ∷ []))
doing_fits most uid word x is less fits = list_fits most (atom word ∷ atom (decimal uid) ∷ written x ∷ []) (word_fits most word is, (uid_fits most uid less, (fits, tt)))

plain_fits : (most uid : ℕ) (x : Rtx) → uid < 4294967296 → Fits most (written x) → Fits (suc most) (insn_tree (insn_with Plain uid [] x))
unfolding insn_tree
plain_fits most uid x less fits = doing_fits most uid (codes "cinsn") x refl less fits

jump_fits : (most uid : ℕ) (x : Rtx) → uid < 4294967296 → Fits most (written x) → Fits (suc most) (insn_tree (insn_with Jump uid [] x))
unfolding insn_tree
jump_fits most uid x less fits = doing_fits most uid (codes "cjump_insn") x refl less fits

call_fits : (most uid : ℕ) (x : Rtx) (uses : List ArgUse) → uid < 4294967296 → Fits most (written x) → Fits most (uses_tree uses) → Fits (suc most) (insn_tree (insn_with Call uid uses x))
unfolding insn_tree
call_fits most uid x uses less fits told =
    list_fits most (atom (codes "ccall_insn") ∷ atom (decimal uid) ∷ written x ∷ uses_tree uses ∷ []) (word_fits most (codes "ccall_insn") refl, (uid_fits most uid less, (fits, (told, tt))))

label_fits : (uid : ℕ) → uid < 4294967296 → Fits 1 (insn_tree (insn_with Label uid [] nothing_rtx))
unfolding insn_tree
label_fits uid less = list_fits 0 (atom (codes "clabel") ∷ atom (decimal uid) ∷ []) (word_fits 0 (codes "clabel") refl, (uid_fits 0 uid less, tt))

barrier_fits : Fits 1 (insn_tree barrier)
unfolding insn_tree
barrier_fits = list_fits 0 (atom (codes "cbarrier") ∷ []) (word_fits 0 (codes "cbarrier") refl, tt)

-- ---- the parts of an instruction

number_less : (u : Tree) (uid : ℕ) → number_of u ≡ Some uid → uid < 4294967296
number_less u uid e = let text = then_some (atom_of u) uid_in uid e in uid_less text.0 uid text.2

record PartsSay (parts : List Tree) (ip : InsnParts) : Type 0 where
  pub u : Tree
  pub is : parts ≡ u ∷ ip.pattern ∷ ip.rest
  pub nested : is_nested ip.pattern ≡ true
  pub less : ip.uid < 4294967296

parts_say : (parts : List Tree) (ip : InsnParts) → insn_parts parts ≡ Some ip → PartsSay parts ip
parts_say [] ip e = cc
parts_say (u ∷ []) ip e = cc
parts_say (u ∷ p ∷ rest) ip e = by_test (is_nested p) refl e
  where
    by_test : (b : Bool) → is_nested p ≡ b → cond b (option_map (parts_with p rest) (number_of u)) None ≡ Some ip → PartsSay (u ∷ p ∷ rest) ip
    by_test false is h = cc
    by_test true is h =
        let uid = map_some (number_of u) (parts_with p rest) ip h in
        subst (PartsSay (u ∷ p ∷ rest)) uid.2 (record { u = u; is = refl; nested = is; less = number_less u uid.0 uid.1 })

-- how deep the pattern and what stands behind it are
deep_in : (t h : Tree) (parts : List Tree) (ip : InsnParts) → items_of t ≡ h ∷ parts → PartsSay parts ip → suc (deepest (ip.pattern ∷ ip.rest)) ≤ depth_of t
deep_in t h parts ip items s =
    let same : deepest parts ≡ deepest (s.u ∷ ip.pattern ∷ ip.rest) = ap (λ (ts : List Tree). deepest ts) s.is in
    omega (arith, items_depth t h parts items, same, rest_deep h parts, rest_deep s.u (ip.pattern ∷ ip.rest))

-- ---- an entry

Entry : Tree → Parsed (List Insn) → Type 0
Entry t p = (insns : List Insn) → p ≡ stands insns → AllBack (depth_of t) insns

plain_entry : (t h : Tree) (parts : List Tree) → items_of t ≡ h ∷ parts → (o : Option InsnParts) → insn_parts parts ≡ o → Entry t (insn_by Plain t o)
unfolding Entry
plain_entry t h parts items None is insns e = absurd (let none : ⊥ = cc in none)
plain_entry t h parts items (Some ip) is insns e =
    let s : PartsSay parts ip = parts_say parts ip is in
    let x = map_stands (λ (y : Rtx). insn_with Plain ip.uid [] y ∷ []) (read_at Pattern ip.pattern) insns e in
    subst (AllBack (depth_of t)) x.2 (
      record {
        back = λ settled. plain_again ip.uid x.0 s.less (back Pattern ip.pattern x.0 x.1);
        fits = fits_more (suc (depth_of ip.pattern)) (depth_of t) _ (omega (arith, deep_in t h parts ip items s, first_deep ip.pattern ip.rest)) (plain_fits (depth_of ip.pattern) ip.uid x.0 s.less (rtx_fits Pattern ip.pattern x.0 x.1));
      },
      tt,
    )

jump_entry : (t h : Tree) (parts : List Tree) → items_of t ≡ h ∷ parts → (o : Option InsnParts) → insn_parts parts ≡ o → Entry t (insn_by Jump t o)
unfolding Entry
jump_entry t h parts items None is insns e = absurd (let none : ⊥ = cc in none)
jump_entry t h parts items (Some ip) is insns e =
    let s : PartsSay parts ip = parts_say parts ip is in
    let x = map_stands (λ (y : Rtx). insn_with Jump ip.uid [] y ∷ []) (read_at Pattern ip.pattern) insns e in
    subst (AllBack (depth_of t)) x.2 (
      record {
        back = λ settled. jump_again ip.uid x.0 s.less (back Pattern ip.pattern x.0 x.1);
        fits = fits_more (suc (depth_of ip.pattern)) (depth_of t) _ (omega (arith, deep_in t h parts ip items s, first_deep ip.pattern ip.rest)) (jump_fits (depth_of ip.pattern) ip.uid x.0 s.less (rtx_fits Pattern ip.pattern x.0 x.1));
      },
      tt,
    )

call_entry : (t h : Tree) (parts : List Tree) → items_of t ≡ h ∷ parts → (o : Option InsnParts) → insn_parts parts ≡ o → Entry t (chain.call_by t o)
unfolding Entry
call_entry t h parts items None is insns e = absurd (let none : ⊥ = cc in none)
call_entry t h parts items (Some ip) is insns e =
    let s : PartsSay parts ip = parts_say parts ip is in
    let r = pair_stands (call_of ip.pattern) (uses_of ip.rest) (call_with ip.uid) insns e in
    let most : ℕ = deepest (ip.pattern ∷ ip.rest) in
    let call : CallBack (depth_of ip.pattern) r.0 = call_back ip.pattern r.0 r.2 in
    let told : UsesBack most r.1 = uses_back most ip.rest r.1 (omega (arith, nested_depth ip.pattern s.nested, first_deep ip.pattern ip.rest)) (rest_deep ip.pattern ip.rest) r.3 in
    subst (AllBack (depth_of t)) r.4 (
      record {
        back = λ settled. call_again ip.uid r.0 r.1 (depth_of ip.pattern) most s.less call told settled;
        fits = fits_more (suc most) (depth_of t) _ (deep_in t h parts ip items s) (call_fits most ip.uid r.0 r.1 s.less (fits_more (depth_of ip.pattern) most (written r.0) (first_deep ip.pattern ip.rest) call.fits) told.fits);
      },
      tt,
    )

leading_less : (parts : List Tree) (uid : ℕ) → leading_number parts ≡ Some uid → uid < 4294967296
leading_less [] uid e = cc
leading_less (u ∷ rest) uid e = number_less u uid e

label_entry : (t : Tree) (parts : List Tree) → 1 ≤ depth_of t → (o : Option ℕ) → leading_number parts ≡ o → Entry t (label_by t o)
unfolding Entry
label_entry t parts deep None is insns e = absurd (let none : ⊥ = cc in none)
label_entry t parts deep (Some uid) is insns e =
    let same : insn_with Label uid [] nothing_rtx ∷ [] ≡ insns = cc in
    let less : uid < 4294967296 = leading_less parts uid is in
    subst (AllBack (depth_of t)) same (record { back = λ settled. label_again uid less; fits = fits_more 1 (depth_of t) _ deep (label_fits uid less) }, tt)

barrier_entry : (t : Tree) → 1 ≤ depth_of t → Entry t one_barrier
unfolding Entry
barrier_entry t deep insns e =
    let same : barrier ∷ [] ≡ insns = cc in
    subst (AllBack (depth_of t)) same (record { back = λ settled. barrier_again; fits = fits_more 1 (depth_of t) _ deep barrier_fits }, tt)

passed_entry : (t : Tree) (b : Bool) → Entry t (cond b (stands []) (outside t))
unfolding Entry
passed_entry t true insns e = let same : [] ≡ insns = cc in subst (AllBack (depth_of t)) same tt
passed_entry t false insns e = absurd (let none : ⊥ = cc in none)

choose : (t : Tree) (b : Bool) (p q : Parsed (List Insn)) → Entry t p → Entry t q → Entry t (cond b p q)
choose t true p q first second = first
choose t false p q first second = second

entry_items : (t : Tree) (items : List Tree) → items_of t ≡ items → Entry t (entry_by t items)
unfolding Entry
entry_items t [] is = λ insns e. absurd (let none : ⊥ = cc in none)
entry_items t (h ∷ parts) is =
    let deep : 1 ≤ depth_of t = omega (arith, items_depth t h parts is) in
    choose t (is_word (codes "cinsn") h) _ _ (plain_entry t h parts is (insn_parts parts) refl)
    (choose t (is_word (codes "cjump_insn") h) _ _ (jump_entry t h parts is (insn_parts parts) refl)
    (choose t (is_word (codes "ccall_insn") h) _ _ (call_entry t h parts is (insn_parts parts) refl)
    (choose t (is_word (codes "clabel") h) _ _ (label_entry t parts deep (leading_number parts) refl)
    (choose t (is_word (codes "cbarrier") h) _ _ (barrier_entry t deep) (passed_entry t (is_passed h))))))

pub entry_back : (t : Tree) (insns : List Insn) → entry_of t ≡ stands insns → AllBack (depth_of t) insns
unfolding Entry
entry_back t = entry_items t (items_of t) refl
