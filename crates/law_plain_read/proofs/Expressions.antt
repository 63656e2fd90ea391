-- What is read of a tree is sound.
use Rattle.std.proofs.Common.{◌≡◌, ◌⊎◌, inl, inr, ℕ, pos, ◌<◌, ◌≤◌, nat_lt, true, List, [], ◌∷◌, Option, Some, None, refl, sym, ap, subst, ◌∙◌, arith}
use Rattle.std.proofs.lemmas.Bool.Decides.{nat_tests}
use Rattle.rtx_tree.specs.declared.class.Class.TheVariants as class
use Rattle.rtx_tree.specs.declared.code.Code.{Code}
use Rattle.rtx_tree.specs.declared.code.Code.TheVariants as code
use Rattle.rtx_tree.specs.declared.code.Mode.{Mode}
use Rattle.rtx_tree.specs.declared.code.Mode.TheVariants.{Void, QI, HI, SI, DI}
use Rattle.rtx_tree.specs.declared.tree.Rtx.{Rtx}
use Rattle.rtx_tree.specs.Code.{class_of_code}
use Rattle.rtx_tree.specs.Tree.{node_of, reg_of, const_of}
use Rattle.rtx_tree.specs.Patterns.{label_rtx}
use Rattle.rtl_func.specs.Shapes.{has_mode}
use Rattle.text_words.specs.Words.{fits_i64}
use Rattle.lisp_read.specs.declared.head.Opening.{Opening}
use Rattle.lisp_read.specs.declared.position.Position.{Position}
use Rattle.lisp_read.specs.declared.position.Position.TheVariants as position
use Rattle.lisp_read.specs.declared.tree.Tree.{Tree}
use Rattle.lisp_read.specs.Positions.{admits, needed, mode_at}
use Rattle.lisp_read.specs.Parsed.{stands}
use Rattle.lisp_read.specs.Expression.{class_of, positions_of, parts_of_class, read_at}
use Rattle.rtl_print.proofs.Induction.{Holds, EachAt, Elements, holds_of_each}
use Rattle.rtl_print.proofs.Modes.{Placed}
use Rattle.rtl_print.proofs.Positions.{parts_positions}
use Rattle.rtl_print.proofs.ReadCases.{Leaf}
use Rattle.rtl_print.proofs.Registers.{IsRegister}
use Rattle.law_plain_leaves.specs.Machine.{is_named_by}
use Rattle.law_plain_leaves.proofs.Shaped.{Each}
use Rattle.law_plain_read.proofs.Sound.{is_sound, is_moded_by, AreSound, sound}

abbrev Q : Position → Tree → Rtx → Type 0
Q p t x = AreSound x

-- ---- registers

register_fits : (r : ℕ) → IsRegister r → fits_i64 (pos r) ≡ true
register_fits r (inl low) = grind (arith, nat_tests, low)
register_fits r (inr pseudo) = let high : r < 2147483712 = pseudo.1 in grind (arith, nat_tests, high)

same_mode : (a b : Mode) → Some a ≡ Some b → a ≡ b
same_mode a b is = cc

needed_mode : (a b : Mode) → needed a ≡ Some b → has_mode b ≡ true
needed_mode Void b is = absurd (let no : ⊥ = cc in no)
needed_mode QI b is = subst (λ m. has_mode m ≡ true) (same_mode QI b is) refl
needed_mode HI b is = subst (λ m. has_mode m ≡ true) (same_mode HI b is) refl
needed_mode SI b is = subst (λ m. has_mode m ≡ true) (same_mode SI b is) refl
needed_mode DI b is = subst (λ m. has_mode m ≡ true) (same_mode DI b is) refl

register_mode : (p : Position) (a b : Mode) → admits p class.Register ≡ true → mode_at p class.Register a ≡ Some b → has_mode b ≡ true
register_mode position.Callee a b admitted is = absurd (let no : ⊥ = cc in no)
register_mode _ a b admitted is = needed_mode a b is

-- ---- words

leaf : (p : Position) (h : Opening) (t : Tree) (x : Rtx) → Placed p h → Leaf p h t x → AreSound x
leaf p h t x placed (Leaf.register r of_class is fits same) =
    let admitted : admits p class.Register ≡ true = ap (admits p) (sym of_class) ∙ placed.admitted in
    let moded = register_mode p placed.written.mode h.mode admitted (ap (λ c. mode_at p c placed.written.mode) (sym of_class) ∙ placed.moded) in
    subst AreSound (sym same) (sound (record { code = code.Reg; mode = h.mode; number = pos r; name = [] }) [] (record { fits = register_fits r is; named = refl; moded = moded }) tt)
leaf p h t x placed (Leaf.number n of_class fits same) =
    subst AreSound (sym same) (sound (record { code = code.ConstInt; mode = Void; number = n; name = [] }) [] (record { fits = fits; named = refl; moded = refl }) tt)
leaf p h t x placed (Leaf.label uid of_class less same) =
    let fits : fits_i64 (pos uid) ≡ true = grind (arith, nat_tests, less) in
    let number = sound (record { code = code.ConstInt; mode = Void; number = pos uid; name = [] }) [] (record { fits = fits; named = refl; moded = refl }) tt in
    subst AreSound (sym same) (sound (record { code = code.LabelRef; mode = Void; number = pos 0; name = [] }) (const_of (pos uid) ∷ []) (record { fits = refl; named = refl; moded = refl }) (number, tt))
leaf p h t x placed (Leaf.symbol a l more name of_class items nested is same) =
    subst AreSound (sym same) (sound (record { code = code.SymbolRef; mode = h.mode; number = pos 0; name = name }) [] (record { fits = refl; named = is; moded = refl }) tt)

-- ---- what holds others

node_named : (c : Code) (m : Mode) (items : List Tree) (ps : List Position) → positions_of (class_of_code c) items ≡ Some ps → (is_named_by c [] ≡ true) × (is_moded_by c m ≡ true)
node_named code.Reg m items ps is = absurd (let no : ⊥ = cc in no)
node_named code.SymbolRef m items ps is = absurd (let no : ⊥ = cc in no)
node_named _ m items ps is = (refl, refl)

elements : (ts : List Tree) (kids : List Rtx) → Elements Q ts kids → Each is_sound kids
elements [] [] all = tt
elements (t ∷ ts) (x ∷ xs) all = (all.1, elements ts xs all.2)
elements [] (x ∷ xs) all = absurd all
elements (t ∷ ts) [] all = absurd all

each : (ps : List Position) (ts : List Tree) (kids : List Rtx) → EachAt Q ps ts kids → Each is_sound kids
each [] ts [] all = tt
each (p ∷ ps) (t ∷ ts) (x ∷ xs) all = (all.1, each ps ts xs all.2)
each [] ts (x ∷ xs) all = absurd all
each (p ∷ ps) [] kids all = absurd all
each (p ∷ ps) (t ∷ ts) [] all = absurd all

pub together : (kids : List Rtx) → Each is_sound kids → AreSound (node_of code.Parallel Void kids)
together kids all = sound (record { code = code.Parallel; mode = Void; number = pos 0; name = [] }) kids (record { fits = refl; named = refl; moded = refl }) all

holds : Holds Q
holds = record {
  leaf = λ p h t a ts x placed items l. leaf p h t x placed l;
  parallel = λ p h t a v kids placed of_class items vector all. together kids (elements _ kids all);
  node = λ p h t a ts ps kids placed items parts all. (
      let plain = node_named h.code h.mode (a ∷ ts) ps (parts_positions (class_of h) (a ∷ ts) ps parts).0 in
      sound (record { code = h.code; mode = h.mode; number = pos 0; name = [] }) kids (record { fits = refl; named = plain.0; moded = plain.1 }) (each ps ts kids all));
}

-- an expression that a tree stands for
pub expression : (t : Tree) (p : Position) (x : Rtx) → read_at p t ≡ stands x → AreSound x
expression = holds_of_each Q holds
