-- Uses and clobbers with new trees put in.
use Rattle.std.proofs.Common.{◌≡◌, ◌≢◌, ◌⊎◌, inl, inr, ℕ, Bool, true, false, List, [], ◌∷◌, length, Option, Some, None, refl, sym, ap, subst, ◌∙◌}
use Rattle.std.specs.List.{list_all}
use Rattle.std.specs.Prelude.{ℤ, unwrap_or, option_and_then}
use Rattle.std.proofs.lemmas.Bool.{and_parts}
use Rattle.rtx_tree.specs.Code.{class_of_code, is_effect_class}
use Rattle.rtx_tree.specs.Tree.{RtxHead, head_of, kids_of, reg_of}
use Rattle.rtx_tree.specs.declared.class.Class.{Class}
use Rattle.rtx_tree.specs.declared.class.Class.TheVariants as class
use Rattle.rtx_tree.specs.declared.code.Code.{Code}
use Rattle.rtx_tree.specs.declared.code.Code.TheVariants as code
use Rattle.rtx_tree.specs.declared.code.Mode.{Mode}
use Rattle.rtx_tree.specs.declared.machine.SymbolAt.{SymbolAt}
use Rattle.rtx_tree.specs.declared.memories.MemByte.{MemByte}
use Rattle.rtx_tree.specs.declared.tree.Rtx.{Rtx}
use Rattle.rtl_func.specs.Shapes.{class_at, is_effect}
use Rattle.rtl_func.proofs.AllPass.{all_pass}
use Rattle.rtl_step.specs.Effect.{effect_of, effect_by, clobber_effect, clobber_by, register_of, register_by}
use Rattle.rtl_step.specs.Regs.{Regs}
use Rattle.rtl_step.specs.declared.effect.Effect.{Effect}
use Rattle.rtl_step.specs.declared.effect.Effect.TheVariants.{Nothing}
use Rattle.md_match.specs.Pattern.{Ops, role_of, operand_numbered}
use Rattle.md_match.specs.declared.role.Role.{Role}
use Rattle.md_match.specs.declared.role.Role.TheVariants.{Operand, Operator, Itself}
use Rattle.reload_operands.specs.Put.{put}
use Rattle.reload_operands.proofs.PutLaws.{put_operand}
use Rattle.law_operands_replaced.specs.Places.{first, itself, part}
use Rattle.law_operands_replaced.specs.Spare.{is_spare, KnowsRest}
use Rattle.law_operands_replaced.proofs.Addresses.{is_new_class, IsNewTree, AddressToo}
use Rattle.law_operands_replaced.proofs.ElementTurns.{NewFor, stays_for, moves_for, AllNew, AllReads, same_head, one_part, part_new, at_first, whole_kids, no_low, memory_code_of}
use Rattle.law_operands_replaced.proofs.Keying.{TurnedAs, stays, result, unsets}
use Rattle.law_operands_replaced.proofs.NewTrees.{is_whole, is_lowpart, is_lowpart_class}
use Rattle.law_operands_replaced.proofs.NewTrees as trees
use Rattle.law_operands_replaced.proofs.Turning.{IsLone, lone_opened}

register_any : (c : Code) (n : ℤ) (kids kids' : List Rtx) → is_lowpart_class (class_of_code c) ≡ false → register_by c n kids ≡ register_by c n kids'
register_any code.Subreg n kids kids' low = absurd (let no : ⊥ = cc in no)
register_any code.Reg n kids kids' low = refl
register_any _ n kids kids' low = refl

-- a clobber sees the head of a place alone
pub clobber_same : (t t' : Rtx) → head_of t' ≡ head_of t → is_lowpart t ≡ false → clobber_effect t' ≡ clobber_effect t
clobber_same t t' head low =
    ap (λ (h : RtxHead). clobber_by h.code (register_by h.code h.number (kids_of t'))) head ∙
    ap (clobber_by (head_of t).code) (register_any (head_of t).code (head_of t).number (kids_of t') (kids_of t) low)

-- memory is left
pub memory_clobber : (t : Rtx) → class_at t ≡ class.Memory → clobber_effect t ≡ Some Nothing
memory_clobber t is = by (head_of t).code (register_of t) is
  where
    by : (c : Code) (reg : Option ℕ) → class_of_code c ≡ class.Memory → clobber_by c reg ≡ Some Nothing
    by code.Mem reg is = refl
    by _ reg is = absurd (let no : ⊥ = cc in no)

pub binary_no_clobber : (t : Rtx) (e : Effect) → class_at t ≡ class.Binary → clobber_effect t ≡ Some e → ⊥
binary_no_clobber t e is does = by (head_of t).code (kids_of t) is does
  where
    by : (c : Code) (kids : List Rtx) → class_of_code c ≡ class.Binary → clobber_by c (register_by c (head_of t).number kids) ≡ Some e → ⊥
    by code.Mem kids is does = let no : ⊥ = cc in no
    by code.Scratch kids is does = let no : ⊥ = cc in no
    by code.Reg kids is does = let no : ⊥ = cc in no
    by code.Subreg kids is does = let no : ⊥ = cc in no
    by _ kids is does = let no : ⊥ = cc in no

-- an effect is no new tree
pub effect_class : (k : Class) → is_effect_class k ≡ true → is_new_class k ≡ false
effect_class class.Setting is = refl
effect_class class.Use is = refl
effect_class class.Clobber is = refl
effect_class class.Parallel is = refl
effect_class class.Call is = refl
effect_class class.Return is = refl
effect_class _ is = absurd (let no : ⊥ = cc in no)

module _ (symbols : List SymbolAt) (regs other : Regs) (m : List MemByte) (known : KnowsRest regs other)
    (own : ℕ → ℕ) (mode : ℕ → Mode) (tree : ℕ → Rtx) (Free : ℕ → Type 0) (result_at : ℤ → Option ℕ) (news : Ops) (Reads Lost : ℤ → Type 0) where
  abbrev New : ℤ → Rtx → Rtx → Type 0
  New number z r = NewFor symbols regs other m known own mode tree Free result_at news Reads Lost number z r

  abbrev News : Rtx → Rtx → Type 0
  News q x = AllNew symbols regs other m known own mode tree Free result_at news Reads Lost q x

  abbrev ReadsAll : Rtx → Rtx → Type 0
  ReadsAll q x = AllReads symbols regs other m known own mode tree Free result_at news Reads Lost q x

  abbrev NewTree : Rtx → Rtx → Type 0
  NewTree z r = IsNewTree symbols regs other m z r

  abbrev Turns : Option ℕ → Rtx → Rtx → Type 0
  Turns key x y = TurnedAs symbols regs other m own mode tree Free key x y

  -- ---- uses and clobbers

  lone_same : (c : Code) (x y t t' : Rtx) → IsLone c x t → IsLone c y t' → effect_by c (t' ∷ []) symbols other m ≡ effect_by c (t ∷ []) symbols regs m → Turns None x y
  lone_same c x y t t' is is' same = stays x y (λ e does.
      lone_opened symbols regs other m other c y t' is' ∙ same ∙ sym (lone_opened symbols regs other m regs c x t is) ∙ does)

  -- what becomes of a place that a clobber names
  pub data Clobbers (t t' : Rtx) : Type 0 where
    stays_it : clobber_effect t' ≡ clobber_effect t → Clobbers t t'
    loses_it : (md : Mode) (q : ℕ) → t' ≡ reg_of md q → is_spare q ≡ true → Free q → Clobbers t t'

  clobber_by_new : (number : ℤ) (t t' r : Rtx) (e : Effect) → t' ≡ r → New number t r → Lost number → clobber_effect t ≡ Some e → Clobbers t t'
  clobber_by_new number t t' r e here (stays_for is (inl place) none) lost does =
      stays_it (ap clobber_effect here ∙ memory_clobber r place ∙ sym (memory_clobber t (was_memory (is.address place))))
    where
      was_memory : AddressToo symbols regs other m t r → class_at t ≡ class.Memory
      was_memory a = ap class_of_code (memory_code_of (head_of t).code (kids_of t) a.first a.first_is)
  clobber_by_new number t t' r e here (stays_for is (inr binary) none) lost does = absurd (binary_no_clobber t e binary does)
  clobber_by_new number t t' r e here (moves_for k tree_is reg_is spare at modes may free) lost does =
      loses_it (mode k) (own k) (here ∙ reg_is) spare (free lost)

  target_clobbers : (role : Role) (a t : Rtx) (e : Effect) → role_of (head_of a).code ≡ role → News a t → (role ≡ Operand → Lost (head_of a).number) → is_lowpart t ≡ false →
      clobber_effect t ≡ Some e → Clobbers t (put a news t)
  target_clobbers Operand a t e is news' lost low does = by (operand_numbered news (head_of a).number) refl
    where
      by : (o : Option Rtx) → operand_numbered news (head_of a).number ≡ o → Clobbers t (put a news t)
      by None none = stays_it (ap clobber_effect (put_operand a news t is ∙ ap (λ o. unwrap_or o t) none))
      by (Some r) has = clobber_by_new (head_of a).number t (put a news t) r e (put_operand a news t is ∙ ap (λ o. unwrap_or o t) has)
          (news' (head_of a).number t r (itself a t is) has) (lost refl) does
  target_clobbers Operator a t e is news' lost low does = stays_it (clobber_same t (put a news t)
      (same_head symbols regs other m known own mode tree Free result_at news Reads Lost a t (λ o. let no : Operator ≡ Operand = sym is ∙ o in let never : ⊥ = cc in never)) low)
  target_clobbers Itself a t e is news' lost low does = stays_it (clobber_same t (put a news t)
      (same_head symbols regs other m known own mode tree Free result_at news Reads Lost a t (λ o. let no : Itself ≡ Operand = sym is ∙ o in let never : ⊥ = cc in never)) low)

  clobbers_by : (x y t t' : Rtx) → IsLone code.Clobber x t → IsLone code.Clobber y t' → Clobbers t t' → Turns None x y
  clobbers_by x y t t' is is' (stays_it same) = lone_same code.Clobber x y t t' is is' same
  clobbers_by x y t t' is is' (loses_it md q here spare free) =
      unsets x y t md q is (record { code_is = is'.code_is; parts = is'.parts ∙ ap (λ t. t ∷ []) here }) spare free

  not_operand : (q : Rtx) (c : Code) → (head_of q).code ≡ c → role_of c ≡ Itself → role_of (head_of q).code ≢ Operand
  not_operand q c is itself_is o = let no : Itself ≡ Operand = sym itself_is ∙ sym (ap role_of is) ∙ o in let never : ⊥ = cc in never

  lone_put : (c : Code) (q x a t : Rtx) → (head_of q).code ≡ c → role_of c ≡ Itself → kids_of q ≡ a ∷ [] → IsLone c x t → IsLone c (put q news x) (put a news t)
  lone_put c q x a t is itself_is are lone =
      let other' = not_operand q c is itself_is in record {
        code_is = ap (λ (h : RtxHead). h.code) (same_head symbols regs other m known own mode tree Free result_at news Reads Lost q x other') ∙ lone.code_is;
        parts = one_part symbols regs other m known own mode tree Free result_at news Reads Lost q x a t other' are lone.parts;
      }

  -- a use
  pub use_turns : (q x a t : Rtx) → (head_of q).code ≡ code.Use → kids_of q ≡ a ∷ [] → IsLone code.Use x t → Turns None x (put q news x)
  use_turns q x a t is are lone = lone_same code.Use x (put q news x) t (put a news t) lone (lone_put code.Use q x a t is refl are lone) refl

  -- a clobber
  pub clobber_turns : (q x a t : Rtx) (e : Effect) → (head_of q).code ≡ code.Clobber → kids_of q ≡ a ∷ [] → IsLone code.Clobber x t → News q x →
      (role_of (head_of a).code ≡ Operand → Lost (head_of a).number) → all_pass is_whole x ≡ true → effect_of symbols regs m x ≡ Some e → Turns None x (put q news x)
  clobber_turns q x a t e is are lone news' lost whole does =
      let other' = not_operand q code.Clobber is refl in
      let long : length (kids_of q) ≡ length (kids_of x) = ap length are ∙ sym (ap length lone.parts) in
      let new_a = part_new symbols regs other m known own mode tree Free result_at news Reads Lost q x a t other' long
      (at_first symbols regs other m known own mode tree Free result_at news Reads Lost a a [] t t [] (kids_of q) (kids_of x) are lone.parts) news' in
      let whole_t : all_pass is_whole t ≡ true = (and_parts (all_pass is_whole t) true
      (whole_kids symbols regs other m known own mode tree Free result_at news Reads Lost x (t ∷ []) lone.parts whole)).0 in
      clobbers_by x (put q news x) t (put a news t) lone (lone_put code.Clobber q x a t is refl are lone)
      (target_clobbers (role_of (head_of a).code) a t e refl new_a lost (no_low symbols regs other m known own mode tree Free result_at news Reads Lost t whole_t)
      (sym (lone_opened symbols regs other m regs code.Clobber x t lone) ∙ does))
