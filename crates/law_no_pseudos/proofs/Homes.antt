-- A tree whose registers live in registers of the machine or in slots names no other registers, once it has its references to the frame and
-- the homes of its registers put in.
use Rattle.std.proofs.Common.{◌≡◌, ℕ, ◌≤◌, ◌||◌, ◌⊎◌, inl, inr, if◌then◌else◌, Bool, true, false, List, [], ◌∷◌, map, Option, Some, None, refl, sym, ap, subst, ◌∙◌, arith}
use Rattle.std.proofs.lemmas.Bool.{false≢true, or_cases, or_left, or_right}
use Rattle.std.proofs.lemmas.Bool.Decides.{Decides-int_eq}
use Rattle.std.specs.Int.{int_wrap, w64}
use Rattle.std.specs.List.{AllByRecursion, list_any}
use Rattle.std.specs.Ordering.{int_eq}
use Rattle.std.specs.Prelude.{ℤ, pos, negsuc, ◌+ℤ◌}
use Rattle.rtx_tree.specs.Tree.{head_of, kids_of, tree_of, node_of, reg_of, const_of, is_reg_numbered, mentions_reg}
use Rattle.rtx_tree.specs.declared.code.Code.{Code}
use Rattle.rtx_tree.specs.declared.code.Code.TheVariants as code
use Rattle.rtx_tree.specs.declared.code.Mode.{Mode}
use Rattle.rtx_tree.specs.declared.code.Mode.TheVariants.{DI}
use Rattle.rtx_tree.specs.declared.tree.Rtx.{Rtx, out-roll-Rtx}
use Rattle.rtx_tree.specs.declared.tree.Rtx.TheOpen.{Rtx-F}
use Rattle.rtx_tree.proofs.Trees.{mentions_out}
use Rattle.form_needs.specs.Needs.{is_homeless, names_homeless}
use Rattle.md_operand.specs.Addresses.{is_stack_vars}
use Rattle.assign.specs.declared.home.Home.{Home}
use Rattle.assign.specs.declared.home.Home.TheVariants.{Hard, Slot}
use Rattle.assign.specs.declared.home.HomeOf.{HomeOf}
use Rattle.assign.specs.declared.places.Layout.{Layout}
use Rattle.reload_homes.specs.FrameRefs.{from_sp, offset_by, frame_offset, framed}
use Rattle.reload_homes.specs.Homes.{home_of, slot_offset, slot_address, place_by, register_numbered, register_in, register_by, register_at, homed}
use Rattle.reload_homes.proofs.Rewrites.{framed_reference, framed_over, homed_register, homed_over}
use Rattle.law_emitted_hard.specs.Hard.{IsHard, AreHard}
use Rattle.law_emitted_hard.proofs.Trees.{induction, hard_tree, reg_hard, const_hard, node_hard, pair_hard}

-- ---- registers that stand in a tree

-- each has a property
abbrev pub EachNamed : (ℕ → Type 0) → Rtx → Type 0
EachNamed Q x = (reg : ℕ) → mentions_reg reg x ≡ true → Q reg

parts_named : (Q : ℕ → Type 0) (kids : List Rtx) → ((reg : ℕ) → list_any (mentions_reg reg) kids ≡ true → Q reg) → AllByRecursion (EachNamed Q) kids
parts_named Q [] all = tt
parts_named Q (k ∷ kids) all = (
  λ reg has. all reg (or_left (mentions_reg reg k) (list_any (mentions_reg reg) kids) has),
  parts_named Q kids (λ reg has. all reg (or_right (mentions_reg reg k) (list_any (mentions_reg reg) kids) has)),
)

pub kids_named : (Q : ℕ → Type 0) (x : Rtx) → EachNamed Q x → AllByRecursion (EachNamed Q) (kids_of x)
kids_named Q x all = parts_named Q (kids_of x) (λ reg has. all reg (mentions_out reg x ∙ or_right (is_reg_numbered (head_of x).code (head_of x).number reg) _ has))

itself : (x : Rtx) (reg : ℕ) → is_reg_numbered (head_of x).code (head_of x).number reg ≡ true → mentions_reg reg x ≡ true
itself x reg is = mentions_out reg x ∙ or_left (is_reg_numbered (head_of x).code (head_of x).number reg) (list_any (mentions_reg reg) (kids_of x)) is

-- ---- sums with sp

one_kid : (a : Bool) → a || false ≡ true → a ≡ true
one_kid true is = refl
one_kid false is = absurd (false≢true is)

same_number : (a b : ℕ) → is_reg_numbered code.Reg (pos a) b ≡ true → a ≡ b
same_number a b is = let same = (Decides-int_eq (pos a) (pos b)).0 is in let e : a ≡ b = cc in e

in_reg : (mode : Mode) (a r : ℕ) → mentions_reg r (reg_of mode a) ≡ true → a ≡ r
in_reg mode a r has = same_number a r (one_kid (is_reg_numbered code.Reg (pos a) r)
    (sym (mentions_out r (reg_of mode a) ∙ ap (λ (o : Rtx-F Rtx). is_reg_numbered o.code o.number r || list_any (mentions_reg r) o.kids) (out-roll-Rtx _)) ∙ has))

in_const : (n : ℤ) (r : ℕ) → mentions_reg r (const_of n) ≡ true → ⊥
in_const n r has = false≢true
    (sym (mentions_out r (const_of n) ∙ ap (λ (o : Rtx-F Rtx). is_reg_numbered o.code o.number r || list_any (mentions_reg r) o.kids) (out-roll-Rtx _)) ∙ has)

in_sum : (mode : Mode) (n : ℤ) (r : ℕ) → mentions_reg r (node_of code.Plus mode (reg_of mode 2 ∷ const_of n ∷ [])) ≡ true → 2 ≡ r
in_sum mode n r has = elim (or_cases (mentions_reg r (reg_of mode 2)) (mentions_reg r (const_of n) || false)
    (sym (mentions_out r (node_of code.Plus mode (reg_of mode 2 ∷ const_of n ∷ []))
    ∙ ap (λ (o : Rtx-F Rtx). is_reg_numbered o.code o.number r || list_any (mentions_reg r) o.kids) (out-roll-Rtx _)) ∙ has)) [
      | inl sp ↦ in_reg mode 2 r sp
      | inr constant ↦ absurd (in_const n r (one_kid (mentions_reg r (const_of n)) constant))
    ]

in_from_sp : (mode : Mode) (n : ℤ) (r : ℕ) → mentions_reg r (from_sp mode n) ≡ true → 2 ≡ r
in_from_sp mode n r = by (int_eq (int_wrap w64 n) (pos 0))
  where
    by : (b : Bool) → mentions_reg r (if b then reg_of mode 2 else node_of code.Plus mode (reg_of mode 2 ∷ const_of (int_wrap w64 n) ∷ [])) ≡ true → 2 ≡ r
    by true has = in_reg mode 2 r has
    by false has = in_sum mode (int_wrap w64 n) r has

sp_hard : (mode : Mode) → IsHard (reg_of mode 2)
sp_hard mode = reg_hard mode 2 (omega arith)

from_sp_hard : (mode : Mode) (n : ℤ) → IsHard (from_sp mode n)
from_sp_hard mode n = by (int_eq (int_wrap w64 n) (pos 0))
  where
    by : (b : Bool) → IsHard (if b then reg_of mode 2 else node_of code.Plus mode (reg_of mode 2 ∷ const_of (int_wrap w64 n) ∷ []))
    by true = sp_hard mode
    by false = pair_hard code.Plus mode (reg_of mode 2) (const_of (int_wrap w64 n)) (sp_hard mode) (const_hard (int_wrap w64 n))

-- ---- a home is a register of the machine, or a slot

abbrev pub IsMachine : Home → Type 0
IsMachine (Hard hard) = hard ≤ 31
IsMachine Slot = Unit {0}

module _ (homes : List HomeOf) (layout : Layout) where
  abbrev pub Lives : ℕ → Type 0
  Lives reg = IsMachine (home_of homes reg)

  -- each register lives in one; or, before references to the frame are put in, is the address of the locals
  abbrev pub AllLive : Rtx → Type 0
  AllLive x = EachNamed Lives x

  abbrev pub MayLive : Rtx → Type 0
  MayLive x = EachNamed (λ reg. (reg ≡ 32) ⊎ Lives reg) x

  -- ---- homes

  place_hard : (mode : Mode) (reg : ℕ) (home : Home) → IsMachine home → IsHard (place_by layout mode reg home)
  place_hard mode reg (Hard hard) few = reg_hard mode hard few
  place_hard mode reg Slot few = node_hard code.Mem mode (slot_address layout reg ∷ []) (from_sp_hard DI (pos (slot_offset layout reg)), tt)

  of_number : (c : Code) (n : ℤ) (reg : ℕ) → register_numbered c n ≡ Some reg → is_reg_numbered c n reg ≡ true
  of_number code.Reg (pos k) reg is = let same : k ≡ reg = cc in (Decides-int_eq (pos k) (pos reg)).1 (ap pos same)
  of_number code.Reg (negsuc k) reg is = absurd (let no : ⊥ = cc in no)
  of_number _ n reg is = absurd (let no : ⊥ = cc in no)

  is_itself : (x : Rtx) (reg : ℕ) → register_in x ≡ Some reg → mentions_reg reg x ≡ true
  is_itself x reg has = itself x reg (of_number (head_of x).code (head_of x).number reg has)

  at_by : (c : Code) (x : Rtx) (kids : List Rtx) (reg : ℕ) → kids_of x ≡ kids → register_by c x kids ≡ Some reg → mentions_reg reg x ≡ true
  at_by code.Subreg x (inner ∷ []) reg are has =
      mentions_out reg x ∙ or_right (is_reg_numbered (head_of x).code (head_of x).number reg) (list_any (mentions_reg reg) (kids_of x))
      (ap (list_any (mentions_reg reg)) are ∙ or_left (mentions_reg reg inner) false (is_itself inner reg has))
  at_by code.Subreg x [] reg are has = is_itself x reg has
  at_by code.Subreg x (a ∷ b ∷ kids) reg are has = is_itself x reg has
  at_by _ x kids reg are has = is_itself x reg has

  none_number : (c : Code) (n : ℤ) → register_numbered c n ≡ None → is_homeless c n ≡ false
  none_number code.Reg (pos k) none = absurd (let no : ⊥ = cc in no)
  none_number code.Reg (negsuc k) none = refl
  none_number _ n none = refl

  none_by : (c : Code) (x : Rtx) (kids : List Rtx) → (head_of x).code ≡ c → register_by c x kids ≡ None → is_homeless (head_of x).code (head_of x).number ≡ false
  none_by code.Subreg x (inner ∷ []) is none = ap (λ c. is_homeless c (head_of x).number) is
  none_by code.Subreg x [] is none = none_number (head_of x).code (head_of x).number none
  none_by code.Subreg x (a ∷ b ∷ kids) is none = none_number (head_of x).code (head_of x).number none
  none_by _ x kids is none = none_number (head_of x).code (head_of x).number none

  abbrev hm : Rtx → Rtx
  hm = homed homes layout

  abbrev Becomes : Rtx → Type 0
  Becomes x = AllLive x → IsHard (hm x)

  each_homed : (kids : List Rtx) → AllByRecursion Becomes kids → AllByRecursion AllLive kids → AreHard (map hm kids)
  each_homed [] each all = tt
  each_homed (k ∷ kids) each all = (each.0 all.0, each_homed kids each.1 all.1)

  homed_step : (x : Rtx) → AllByRecursion Becomes (kids_of x) → Becomes x
  homed_step x each all = by (register_at x) refl
    where
      by : (o : Option ℕ) → register_at x ≡ o → IsHard (hm x)
      by None none = ap names_homeless (homed_over homes layout x none) ∙
          hard_tree (head_of x) (map hm (kids_of x)) (none_by (head_of x).code x (kids_of x) refl none)
          (each_homed (kids_of x) each (kids_named Lives x all))
      by (Some reg) has = ap names_homeless (homed_register homes layout x reg has) ∙
          place_hard (head_of x).mode reg (home_of homes reg) (all reg (at_by (head_of x).code x (kids_of x) reg refl has))

  pub homed_hard : (x : Rtx) → AllLive x → IsHard (hm x)
  homed_hard = induction Becomes homed_step

  -- ---- references to the frame

  code_of : (c : Code) (n : ℤ) (reg : ℕ) → is_reg_numbered c n reg ≡ true → c ≡ code.Reg
  code_of code.Reg n reg is = refl
  code_of _ n reg is = absurd (false≢true is)

  offset_at : (c : Code) (x : Rtx) (parts : List Rtx) → c ≡ code.Reg → is_stack_vars x ≡ true → offset_by c x parts ≡ Some (pos 0)
  offset_at code.Reg x parts is vars = ap (λ b. if b then Some (pos 0) else None) vars
  offset_at _ x parts is vars = absurd (let no : ⊥ = cc in no)

  -- what stands by itself is not the address of the locals
  no_vars : (x : Rtx) (reg : ℕ) → frame_offset x ≡ None → is_reg_numbered (head_of x).code (head_of x).number reg ≡ true → reg ≡ 32 → ⊥
  no_vars x reg none is vars =
      let here : is_reg_numbered (head_of x).code (head_of x).number 32 ≡ true = ap (is_reg_numbered (head_of x).code (head_of x).number) (sym vars) ∙ is in
      let some : frame_offset x ≡ Some (pos 0) = offset_at (head_of x).code x (kids_of x) (code_of (head_of x).code (head_of x).number reg is) here in
      let e : ◌≡◌ {A = Option ℤ} None (Some (pos 0)) = sym none ∙ some in
      let no : ⊥ = cc in no

  module _ (sp : Lives 2) where
    abbrev fr : Rtx → Rtx
    fr = framed layout.size

    abbrev Stays : Rtx → Type 0
    Stays x = MayLive x → AllLive (fr x)

    some_kid : (reg : ℕ) (kids : List Rtx) → AllByRecursion Stays kids → AllByRecursion MayLive kids → list_any (mentions_reg reg) (map fr kids) ≡ true → Lives reg
    some_kid reg [] each may has = absurd (false≢true has)
    some_kid reg (k ∷ kids) each may has = elim (or_cases (mentions_reg reg (fr k)) (list_any (mentions_reg reg) (map fr kids)) has) [
      | inl here ↦ each.0 may.0 reg here
      | inr more ↦ some_kid reg kids each.1 may.1 more
    ]

    by_itself : (x : Rtx) (reg : ℕ) → frame_offset x ≡ None → MayLive x → is_reg_numbered (head_of x).code (head_of x).number reg ≡ true → Lives reg
    by_itself x reg none may is = elim (may reg (itself x reg is)) [
      | inl vars ↦ absurd (no_vars x reg none is vars)
      | inr lives ↦ lives
    ]

    over_lives : (x : Rtx) (reg : ℕ) → frame_offset x ≡ None → AllByRecursion Stays (kids_of x) → MayLive x → mentions_reg reg (fr x) ≡ true → Lives reg
    over_lives x reg none each may has =
        let open_is : mentions_reg reg (fr x) ≡ (is_reg_numbered (head_of x).code (head_of x).number reg || list_any (mentions_reg reg) (map fr (kids_of x))) =
        ap (mentions_reg reg) (framed_over layout.size x none) ∙ mentions_out reg (tree_of (head_of x) (map fr (kids_of x)))
        ∙ ap (λ (o : Rtx-F Rtx). is_reg_numbered o.code o.number reg || list_any (mentions_reg reg) o.kids) (out-roll-Rtx _) in
        elim (or_cases (is_reg_numbered (head_of x).code (head_of x).number reg) (list_any (mentions_reg reg) (map fr (kids_of x))) (sym open_is ∙ has)) [
          | inl here ↦ by_itself x reg none may here
          | inr kid ↦ some_kid reg (kids_of x) each (kids_named (λ reg. (reg ≡ 32) ⊎ Lives reg) x may) kid
        ]

    framed_step : (x : Rtx) → AllByRecursion Stays (kids_of x) → Stays x
    framed_step x each may reg has = by (frame_offset x) refl
      where
        by : (o : Option ℤ) → frame_offset x ≡ o → Lives reg
        by (Some n) is = subst Lives (in_from_sp (head_of x).mode (pos layout.size +ℤ n) reg (sym (ap (mentions_reg reg) (framed_reference layout.size x n is)) ∙ has)) sp
        by None none = over_lives x reg none each may has

    pub framed_lives : (x : Rtx) → MayLive x → AllLive (fr x)
    framed_lives = induction Stays framed_step
