-- What a jump is made of, and what stands in it for an operand that may be replaced by a register.
use Rattle.std.proofs.Common.{◌≡◌, ◌≢◌, ◌⊎◌, inl, inr, ℕ, zero, suc, ◌&&◌, ◌||◌, not, if◌then◌else◌, Bool, true, false, List, [], ◌∷◌, length, map, Option, Some, None, refl, sym, ap, subst, ◌∙◌, arith}
use Rattle.std.proofs.lemmas.Bool.{and_parts}
use Rattle.std.specs.List.{list_all}
use Rattle.std.specs.Prelude.{ℤ, pos, unwrap_or, option_map}
use Rattle.bits64.specs.declared.Width.TheVariants.{W64}
use Rattle.rtx_tree.specs.Code.{class_of_code, is_place_class}
use Rattle.rtx_tree.specs.Operands.{operand_at, put_at}
use Rattle.rtx_tree.specs.Patterns.{is_pc, is_pc_code, label_uid, label_of}
use Rattle.rtx_tree.specs.Tree.{head_of, kids_of, reg_of}
use Rattle.rtx_tree.specs.declared.class.Class.{Class}
use Rattle.rtx_tree.specs.declared.class.Class.TheVariants as class
use Rattle.rtx_tree.specs.declared.code.Code.{Code}
use Rattle.rtx_tree.specs.declared.code.Code.TheVariants as code
use Rattle.rtx_tree.specs.declared.code.Mode.{Mode}
use Rattle.rtx_tree.specs.declared.machine.SymbolAt.{SymbolAt}
use Rattle.rtx_tree.specs.declared.memories.MemByte.{MemByte}
use Rattle.rtx_tree.specs.declared.tree.Rtx.{Rtx, out-roll-Rtx}
use Rattle.rtx_tree.specs.declared.tree.Rtx.TheOpen.{Rtx-F}
use Rattle.rtl_func.specs.Shapes.{class_at, mode_at, number_at, has_mode, is_constant, is_label_class, is_counter_class, is_comparison_class, is_jump_source_class, is_choice, is_set_to, fits_row, is_bare, is_shaped}
use Rattle.rtl_step.specs.Jump.{goes_to, chosen, branch, way_by, way_of, jump_by, jump_of}
use Rattle.rtl_step.specs.Regs.{Regs}
use Rattle.rtl_step.specs.Value.{value_of, of_two}
use Rattle.rtl_step.specs.declared.jump.Way.{Way}
use Rattle.rtl_step.specs.declared.jump.Way.TheVariants.{Goes}
use Rattle.md_match.specs.Pattern.{Ops, role_of, operand_numbered}
use Rattle.md_match.specs.declared.role.Role.TheVariants.{Operand}
use Rattle.reload_operands.specs.Put.{put}
use Rattle.reload_operands.proofs.PutLaws.{put_operand}
use Rattle.law_operands_replaced.proofs.Valued.{IsThere}

-- ---- an operand with something new for it alone

put_here : (o : Ops) (k : ℕ) (t : Rtx) → operand_at (put_at o k t) k ≡ Some t
put_here [] zero t = refl
put_here [] (suc k) t = put_here [] k t
put_here (o ∷ os) zero t = refl
put_here (o ∷ os) (suc k) t = put_here os k t

-- it stands in its place
pub put_alone : (q z t : Rtx) (k : ℕ) → role_of (head_of q).code ≡ Operand → (head_of q).number ≡ pos k → put q (put_at [] k t) z ≡ t
put_alone q z t k is same = put_operand q (put_at [] k t) z is ∙ ap (λ (n : ℤ). unwrap_or (operand_numbered (put_at [] k t) n) z) same ∙
    ap (λ o. unwrap_or o z) (put_here [] k t)

-- ---- the parts of a jump

pub data IsJump (symbols : List SymbolAt) (regs : Regs) (m : List MemByte) (x : Rtx) : Type 0 where
  returns : (head_of x).code ≡ code.Return → IsJump symbols regs m x
  sets : (t s : Rtx) (way : Way) → (head_of x).code ≡ code.Set → kids_of x ≡ t ∷ s ∷ [] → is_pc t ≡ true → way_of symbols regs m s ≡ Some way → IsJump symbols regs m x

pub data IsSource (symbols : List SymbolAt) (regs : Regs) (m : List MemByte) (s : Rtx) : Type 0 where
  label : (uid : Rtx) → (head_of s).code ≡ code.LabelRef → kids_of s ≡ uid ∷ [] → IsSource symbols regs m s
  choice : (test to rest : Rtx) → (head_of s).code ≡ code.IfThenElse → kids_of s ≡ test ∷ to ∷ rest ∷ [] → IsThere (value_of symbols regs m test W64) →
      IsSource symbols regs m s

module _ (symbols : List SymbolAt) (regs : Regs) (m : List MemByte) where
  if_some : (b : Bool) (o : Option Way) (way : Way) → (if b then o else None) ≡ Some way → (b ≡ true) × (o ≡ Some way)
  if_some true o way is = (refl, is)
  if_some false o way is = absurd (let no : ⊥ = cc in no)

  jump_code : (c : Code) (x : Rtx) (kids : List Rtx) (way : Way) → (head_of x).code ≡ c → kids_of x ≡ kids → jump_by c kids symbols regs m ≡ Some way → IsJump symbols regs m x
  jump_code code.Return x kids way is are does = returns is
  jump_code code.Set x (t ∷ s ∷ []) way is are does = let p = if_some (is_pc t) (way_of symbols regs m s) way does in sets t s way is are p.0 p.1
  jump_code _ x kids way is are does = absurd (let no : ⊥ = cc in no)

  pub jump_is : (x : Rtx) (way : Way) → jump_of symbols regs m x ≡ Some way → IsJump symbols regs m x
  jump_is x way does = jump_code (head_of x).code x (kids_of x) way refl refl does

  label_parts : (c : Code) (kids : List Rtx) (o : Option ℕ) → label_uid c kids ≡ o → (o ≡ None → ⊥) → (c ≡ code.LabelRef) × ((uid : Rtx) × (kids ≡ uid ∷ []))
  label_parts code.LabelRef (uid ∷ []) o is some = (refl, (uid, refl))
  label_parts _ kids o is some = absurd (some (sym is))

  goes_some : (s : Rtx) (way : Way) → goes_to s ≡ Some way → label_of s ≡ None → ⊥
  goes_some s way is none = let e : ◌≡◌ {A = Option Way} None (Some way) = sym (ap (λ o. option_map Goes o) none) ∙ is in let no : ⊥ = cc in no

  label_is : (s : Rtx) (way : Way) → goes_to s ≡ Some way → IsSource symbols regs m s
  label_is s way is =
      let p = label_parts (head_of s).code (kids_of s) (label_of s) refl (λ none. goes_some s way is none) in label p.1.0 p.0 p.1.1

  branch_there : (test to : Option ℕ) (way : Way) → of_two (λ holds uid. Some (chosen holds uid)) test to ≡ Some way → IsThere test
  branch_there None to way is = absurd (let no : ⊥ = cc in no)
  branch_there (Some v) to way is = (v, refl)

  source_code : (c : Code) (s : Rtx) (kids : List Rtx) (way : Way) → (head_of s).code ≡ c → kids_of s ≡ kids → way_by c kids s symbols regs m ≡ Some way → IsSource symbols regs m s
  source_code code.IfThenElse s (test ∷ to ∷ rest ∷ []) way is are does =
      let p = if_some (is_pc rest) (branch symbols regs m test to) way does in
      choice test to rest is are (branch_there (value_of symbols regs m test W64) (label_of to) way p.1)
  source_code _ s kids way is are does = label_is s way does

  pub source_is : (s : Rtx) (way : Way) → way_of symbols regs m s ≡ Some way → IsSource symbols regs m s
  source_is s way does = source_code (head_of s).code s (kids_of s) way refl refl does

-- ---- rows

pub row_at : (x : Rtx) → is_shaped x ≡ true → fits_row (class_at x) (mode_at x) (number_at x) (kids_of x) ≡ true
row_at x shaped = (and_parts (is_bare (class_at x) (number_at x) (head_of x).name) _ shaped).1

-- a class without parts
abbrev pub is_bare_class : Class → Bool
is_bare_class class.Return = true
is_bare_class class.Counter = true
is_bare_class class.Constant = true
is_bare_class class.Register = true
is_bare_class _ = false

bare_row : (k : Class) (mode : Mode) (number : ℕ) (kids : List Rtx) → is_bare_class k ≡ true → fits_row k mode number kids ≡ true → kids ≡ []
bare_row k mode number [] is fits = refl
bare_row class.Return mode number (a ∷ []) is fits = absurd (let no : ⊥ = cc in no)
bare_row class.Return mode number (a ∷ b ∷ []) is fits = absurd (let no : ⊥ = cc in no)
bare_row class.Return mode number (a ∷ b ∷ c ∷ []) is fits = absurd (let no : ⊥ = cc in no)
bare_row class.Return mode number (a ∷ b ∷ c ∷ d ∷ kids) is fits = absurd (let no : ⊥ = cc in no)
bare_row class.Counter mode number (a ∷ []) is fits = absurd (let no : ⊥ = cc in no)
bare_row class.Counter mode number (a ∷ b ∷ []) is fits = absurd (let no : ⊥ = cc in no)
bare_row class.Counter mode number (a ∷ b ∷ c ∷ []) is fits = absurd (let no : ⊥ = cc in no)
bare_row class.Counter mode number (a ∷ b ∷ c ∷ d ∷ kids) is fits = absurd (let no : ⊥ = cc in no)
bare_row class.Constant mode number (a ∷ []) is fits = absurd (let no : ⊥ = cc in no)
bare_row class.Constant mode number (a ∷ b ∷ []) is fits = absurd (let no : ⊥ = cc in no)
bare_row class.Constant mode number (a ∷ b ∷ c ∷ []) is fits = absurd (let no : ⊥ = cc in no)
bare_row class.Constant mode number (a ∷ b ∷ c ∷ d ∷ kids) is fits = absurd (let no : ⊥ = cc in no)
bare_row class.Register mode number (a ∷ []) is fits = absurd (let no : ⊥ = cc in no)
bare_row class.Register mode number (a ∷ b ∷ []) is fits = absurd (let no : ⊥ = cc in no)
bare_row class.Register mode number (a ∷ b ∷ c ∷ []) is fits = absurd (let no : ⊥ = cc in no)
bare_row class.Register mode number (a ∷ b ∷ c ∷ d ∷ kids) is fits = absurd (let no : ⊥ = cc in no)
bare_row _ mode number (a ∷ kids) is fits = absurd (let no : ⊥ = cc in no)

pub bare_kids : (x : Rtx) → is_bare_class (class_at x) ≡ true → is_shaped x ≡ true → kids_of x ≡ []
bare_kids x is shaped = bare_row (class_at x) (mode_at x) (number_at x) (kids_of x) is (row_at x shaped)

pub pc_class : (c : Code) → is_pc_code c ≡ true → class_of_code c ≡ class.Counter
pc_class code.Pc is = refl
pc_class _ is = absurd (let no : ⊥ = cc in no)

pub set_row : (c : Code) (mode : Mode) (number : ℕ) (a b : Rtx) → c ≡ code.Set → fits_row (class_of_code c) mode number (a ∷ b ∷ []) ≡ true → is_set_to a b ≡ true
set_row code.Set mode number a b is fits = (and_parts (not (has_mode mode)) (is_set_to a b) fits).1
set_row _ mode number a b is fits = absurd (let no : ⊥ = cc in no)

pub counter_source : (k : Class) (a b : Bool) → k ≡ class.Counter → (is_place_class k && a) || (is_counter_class k && b) ≡ true → b ≡ true
counter_source class.Counter a b is fits = fits
counter_source _ a b is fits = absurd (let no : ⊥ = cc in no)

-- what the pc is set to
pub set_source : (x t s : Rtx) → (head_of x).code ≡ code.Set → kids_of x ≡ t ∷ s ∷ [] → is_shaped x ≡ true → is_pc t ≡ true → is_jump_source_class (class_at s) ≡ true
set_source x t s is are shaped pc =
    let row = ap (λ c. fits_row (class_of_code c) (mode_at x) (number_at x) (t ∷ s ∷ [])) (sym is) ∙
    ap (fits_row (class_at x) (mode_at x) (number_at x)) (sym are) ∙ row_at x shaped in
    counter_source (class_at t) _ (is_jump_source_class (class_at s)) (pc_class (head_of t).code pc) (set_row code.Set (mode_at x) (number_at x) t s refl row)

pub label_row : (c : Code) (mode : Mode) (number : ℕ) (uid : Rtx) → c ≡ code.LabelRef → fits_row (class_of_code c) mode number (uid ∷ []) ≡ true → is_constant uid ≡ true
label_row code.LabelRef mode number uid is fits = (and_parts (not (has_mode mode)) (is_constant uid) fits).1
label_row _ mode number uid is fits = absurd (let no : ⊥ = cc in no)

-- a label's part is a constant
pub label_constant : (x uid : Rtx) → (head_of x).code ≡ code.LabelRef → kids_of x ≡ uid ∷ [] → is_shaped x ≡ true → is_constant uid ≡ true
label_constant x uid is are shaped = label_row code.LabelRef (mode_at x) (number_at x) uid refl
    (ap (λ c. fits_row (class_of_code c) (mode_at x) (number_at x) (uid ∷ [])) (sym is) ∙ ap (fits_row (class_at x) (mode_at x) (number_at x)) (sym are) ∙ row_at x shaped)

kids_row : (c : Code) (mode : Mode) (number : ℕ) (kids : List Rtx) → is_label_class (class_of_code c) ≡ true → fits_row (class_of_code c) mode number kids ≡ true →
    (uid : Rtx) × ((c ≡ code.LabelRef) × (kids ≡ uid ∷ []))
kids_row code.LabelRef mode number (uid ∷ []) is fits = (uid, (refl, refl))
kids_row code.LabelRef mode number [] is fits = absurd (let no : ⊥ = cc in no)
kids_row code.LabelRef mode number (a ∷ b ∷ []) is fits = absurd (let no : ⊥ = cc in no)
kids_row code.LabelRef mode number (a ∷ b ∷ c ∷ []) is fits = absurd (let no : ⊥ = cc in no)
kids_row code.LabelRef mode number (a ∷ b ∷ c ∷ d ∷ kids) is fits = absurd (let no : ⊥ = cc in no)
kids_row _ mode number kids is fits = absurd (let no : ⊥ = cc in no)

-- a label has one part
pub label_kids : (x : Rtx) → is_label_class (class_at x) ≡ true → is_shaped x ≡ true → (uid : Rtx) × (((head_of x).code ≡ code.LabelRef) × (kids_of x ≡ uid ∷ []))
label_kids x is shaped = kids_row (head_of x).code (mode_at x) (number_at x) (kids_of x) is (row_at x shaped)

choice_row : (c : Code) (mode : Mode) (number : ℕ) (a b d : Rtx) → c ≡ code.IfThenElse → fits_row (class_of_code c) mode number (a ∷ b ∷ d ∷ []) ≡ true → is_choice a b d ≡ true
choice_row code.IfThenElse mode number a b d is fits = (and_parts (not (has_mode mode)) (is_choice a b d) fits).1
choice_row _ mode number a b d is fits = absurd (let no : ⊥ = cc in no)

pub choice_parts : (x a b d : Rtx) → (head_of x).code ≡ code.IfThenElse → kids_of x ≡ a ∷ b ∷ d ∷ [] → is_shaped x ≡ true →
    (is_comparison_class (class_at a) ≡ true) × ((is_label_class (class_at b) ≡ true) × (is_counter_class (class_at d) ≡ true))
choice_parts x a b d is are shaped =
    let row = ap (λ c. fits_row (class_of_code c) (mode_at x) (number_at x) (a ∷ b ∷ d ∷ [])) (sym is) ∙ ap (fits_row (class_at x) (mode_at x) (number_at x)) (sym are) ∙ row_at x shaped in
    let one = and_parts (is_comparison_class (class_at a)) _ (choice_row code.IfThenElse (mode_at x) (number_at x) a b d refl row) in
    (one.0, and_parts (is_label_class (class_at b)) (is_counter_class (class_at d)) one.1)

-- a register is none of a label, the pc and a jump's source
pub no_register : (md : Mode) (reg : ℕ) →
    (is_label_class (class_at (reg_of md reg)) ≡ false) × ((is_counter_class (class_at (reg_of md reg)) ≡ false) × (is_jump_source_class (class_at (reg_of md reg)) ≡ false))
no_register md reg = (
  ap (λ (o : Rtx-F Rtx). is_label_class (class_of_code o.code)) (out-roll-Rtx _),
  (ap (λ (o : Rtx-F Rtx). is_counter_class (class_of_code o.code)) (out-roll-Rtx _), ap (λ (o : Rtx-F Rtx). is_jump_source_class (class_of_code o.code)) (out-roll-Rtx _)),
)
