-- An address in which no memory stands, and whose registers are left, is the same behind effects.
use Rattle.std.proofs.Common.{◌≡◌, ◌≢◌, ℕ, zero, suc, not, Bool, true, false, List, [], ◌∷◌, map, Option, Some, None, refl, sym, ap, subst, ◌∙◌}
use Rattle.std.proofs.lemmas.Bool.{and_parts}
use Rattle.std.specs.FinMap.{get}
use Rattle.std.specs.List.{AllByRecursion, list_all}
use Rattle.std.specs.Prelude.{ℤ}
use Rattle.law_operands_fetched.specs.bits64.declared.Width.{Width}
use Rattle.law_operands_fetched.specs.rtx_tree.Tree.{head_of, kids_of, mentions_reg}
use Rattle.law_operands_fetched.specs.rtx_tree.declared.class.Class.{Class}
use Rattle.law_operands_fetched.specs.rtx_tree.declared.class.Class.TheVariants as class
use Rattle.law_operands_fetched.specs.rtx_tree.declared.code.Code.{Code}
use Rattle.law_operands_fetched.specs.rtx_tree.declared.machine.SymbolAt.{SymbolAt}
use Rattle.law_operands_fetched.specs.rtx_tree.declared.memories.MemByte.{MemByte}
use Rattle.law_operands_fetched.specs.rtx_tree.declared.tree.Rtx.{Rtx}
use Rattle.law_operands_fetched.specs.rtl_func.Shapes.{class_at, mode_at}
use Rattle.law_operands_fetched.proofs.rtl_func.AllPass as nodes
use Rattle.law_operands_fetched.proofs.rtl_func.AllPass.{all_pass}
use Rattle.law_operands_fetched.specs.rtl_step.Effect.{reg_after, regs_after}
use Rattle.law_operands_fetched.specs.rtl_step.Regs.{Regs}
use Rattle.law_operands_fetched.specs.rtl_step.Value.{Reading, width_of, value_of, value_of_one, value_by}
use Rattle.law_operands_fetched.specs.rtl_step.declared.effect.Effect.{Effect}
use Rattle.law_operands_fetched.specs.rtl_step.declared.effect.Effect.TheVariants.{Nothing, Sets, Unsets, Stores}
use Rattle.law_operands_fetched.proofs.rtl_step.Values.{value_read}
use Rattle.law_operands_fetched.specs.sym_insns.Shape.{all_natural}
use Rattle.law_operands_fetched.specs.law_window_kept.Same.{KnownToo}
use Rattle.law_operands_fetched.proofs.law_frame.law_window_replaced.Known.{values_too}
use Rattle.law_operands_fetched.specs.law_operands_replaced.Spare.{NamesNoSpare, KnowsRest}
use Rattle.law_reload_moves.proofs.HomedTrees.{induction}
use Rattle.law_operands_fetched.proofs.law_operands_replaced.ReadTrees.{read_in}
use Rattle.law_operands_fetched.proofs.law_operands_replaced.Registers.{set_other, unset_other, value_alike}

-- ---- registers that are left

abbrev pub Leaves : ℕ → Effect → Type 0
Leaves q (Sets r known) = q ≢ r
Leaves q (Unsets r) = q ≢ r
Leaves q _ = Unit {0}

abbrev pub AllLeave : ℕ → List Effect → Type 0
AllLeave q [] = Unit {0}
AllLeave q (e ∷ es) = Leaves q e × AllLeave q es

pub one_leaves : (q : ℕ) (e : Effect) (regs : Regs) → Leaves q e → get (reg_after e regs) q ≡ get regs q
one_leaves q (Sets r known) regs leaves = set_other regs r known q leaves
one_leaves q (Unsets r) regs leaves = unset_other regs r q leaves
one_leaves q (Stores w at v) regs leaves = refl
one_leaves q Nothing regs leaves = refl

pub all_leave : (q : ℕ) (es : List Effect) (regs : Regs) → AllLeave q es → get (regs_after es regs) q ≡ get regs q
all_leave q [] regs leave = refl
all_leave q (e ∷ es) regs leave = all_leave q es (reg_after e regs) leave.1 ∙ one_leaves q e regs leave.0

-- ---- trees in which no memory stands

abbrev pub no_memory_class : Class → Bool
no_memory_class class.Memory = false
no_memory_class _ = true

abbrev pub is_no_memory : Rtx → Bool
is_no_memory x = no_memory_class (class_at x)

one_part : (m m' : List MemByte) (k : Class) (c : Code) (r : Reading) (w : Width) → no_memory_class k ≡ true → value_of_one m k c r w ≡ value_of_one m' k c r w
one_part m m' class.Memory c r w none = absurd (let no : ⊥ = cc in no)
one_part m m' _ c r w none = refl

parts_alike : (symbols : List SymbolAt) (regs : Regs) (m m' : List MemByte) (k : Class) (c : Code) (n : ℤ) (name : List ℕ) (rs : List Reading) (w : Width) →
    no_memory_class k ≡ true → value_by symbols regs m k c n name rs w ≡ value_by symbols regs m' k c n name rs w
parts_alike symbols regs m m' k c n name [] w none = refl
parts_alike symbols regs m m' k c n name (r ∷ []) w none = one_part m m' k c r w none
parts_alike symbols regs m m' k c n name (r ∷ s ∷ rs) w none = refl

module _ (symbols : List SymbolAt) (regs : Regs) (m m' : List MemByte) where
  abbrev P : Rtx → Type 0
  P x = all_pass is_no_memory x ≡ true → (w : Width) → value_of symbols regs m x w ≡ value_of symbols regs m' x w

  one_read : (x : Rtx) → ((w : Width) → value_of symbols regs m x w ≡ value_of symbols regs m' x w) → read_in symbols regs m x ≡ read_in symbols regs m' x
  one_read x same = ap (λ (v : Width → Option ℕ). record { width = width_of (mode_at x); value = v }) (λ i w. same w i)

  kids_alike : (kids : List Rtx) → AllByRecursion P kids → list_all (all_pass is_no_memory) kids ≡ true →
      map (read_in symbols regs m) kids ≡ map (read_in symbols regs m') kids
  kids_alike [] all none = refl
  kids_alike (x ∷ kids) all none =
      let both = and_parts (all_pass is_no_memory x) (list_all (all_pass is_no_memory) kids) none in
      ap (λ (r : Reading). r ∷ map (read_in symbols regs m) kids) (one_read x (all.0 both.0)) ∙
      ap (λ (rs : List Reading). read_in symbols regs m' x ∷ rs) (kids_alike kids all.1 both.1)

  layer_alike : (x : Rtx) → AllByRecursion P (kids_of x) → P x
  layer_alike x all none w =
      value_read symbols regs m x w ∙
      ap (λ (rs : List Reading). value_by symbols regs m (class_at x) (head_of x).code (head_of x).number (head_of x).name rs w)
      (kids_alike (kids_of x) all (nodes.within is_no_memory x none)) ∙
      parts_alike symbols regs m m' (class_at x) (head_of x).code (head_of x).number (head_of x).name (map (read_in symbols regs m') (kids_of x)) w
      (nodes.itself is_no_memory x none) ∙
      sym (value_read symbols regs m' x w)

  -- a value without memory is the same in each memory
  pub memory_free : (x : Rtx) → P x
  memory_free = induction P layer_alike

-- ---- an address

-- no memory stands in it, and registers that some effects leave
pub record IsSteady (es : List Effect) (a : Rtx) : Type 0 where
  pub no_memory : all_pass is_no_memory a ≡ true
  pub left : (q : ℕ) → mentions_reg q a ≡ true → AllLeave q es

-- the registers that some effects leave are the same
abbrev pub AreLeft : List Effect → Regs → Regs → Type 0
AreLeft es regs r0 = (q : ℕ) → AllLeave q es → get r0 q ≡ get regs q

module _ (symbols : List SymbolAt) (regs : Regs) (m : List MemByte) (es : List Effect) where
  -- it has its value still, in registers of which those outside t3 to t6 are known as such effects leave them
  pub steady : (r0 r : Regs) (m' : List MemByte) → AreLeft es regs r0 → KnowsRest r0 r → (a : Rtx) (w : Width) (v : ℕ) → IsSteady es a → all_natural a ≡ true → NamesNoSpare a →
      value_of symbols regs m a w ≡ Some v → value_of symbols r m' a w ≡ Some v
  steady r0 r m' are knows a w v is natural quiet at =
      values_too symbols regs r m' a w natural had v (sym (memory_free symbols regs m m' a is.no_memory w) ∙ at)
    where
      had : (q : ℕ) → mentions_reg (suc q) a ≡ true → KnownToo regs r (suc q)
      had q has wide n there = knows (suc q) (quiet (suc q) has) wide n
          (value_alike regs r0 (suc q) wide (are (suc q) (is.left (suc q) has)) ∙ there)
