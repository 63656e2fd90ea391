-- The register of a place: the one that is set by its number as 64 bits is the one that it defines.
use Rattle.std.proofs.lemmas.Bool.Decides.{nat_tests}
use Rattle.std.proofs.Common.{◌≡◌, ℕ, suc, ◌==◌, ◌&&◌, not, Bool, true, false, List, [], ◌∷◌, Option, Some, None, refl, sym, ◌∙◌, ap, arith, tests}
use Rattle.std.specs.Prelude.{ℤ, pos, negsuc, is_some}
use Rattle.std.specs.Int.{cast_unsigned, w64}
use Rattle.std.specs.List.{list_all, AllByRecursion}
use Rattle.rtx_tree.specs.Code.{class_of_code}
use Rattle.rtx_tree.specs.Tree.{is_reg_numbered}
use Rattle.rtx_tree.specs.declared.class.Class.TheVariants as class
use Rattle.rtx_tree.specs.declared.code.Code.{Code}
use Rattle.rtx_tree.specs.declared.code.Code.TheVariants as code
use Rattle.rtx_tree.specs.declared.code.Mode.{Mode}
use Rattle.rtx_tree.specs.declared.tree.Rtx.{Rtx, out-Rtx}
use Rattle.rtl_step.specs.Effect.{inner_number, register_by, register_of, address_part}
use Rattle.rtl_func.specs.Shapes.{class_at, mode_at, number_at, has_mode, is_true_register, fits_row}
use Rattle.reg_uses.specs.Effects.{is_register, place_is_by, place_is}
use Rattle.sym_insns.specs.Shape.{is_natural, all_natural}
use Rattle.sym_insns.proofs.Shapes.{natural_out}
use Rattle.law_insn_terms.proofs.JumpShapes.{IsSound, row_by}
use Rattle.law_insn_terms.proofs.Bools.{both_of}

-- ---- numbers

-- a tree in which the registers have numbers, and its parts
abbrev pub IsNatural : Rtx → Type 0
IsNatural x = all_natural x ≡ true

natural_each : (kids : List Rtx) → list_all all_natural kids ≡ true → AllByRecursion IsNatural kids
natural_each [] all = tt
natural_each (k ∷ kids) all = let both = both_of (all_natural k) _ all in (both.0, natural_each kids both.1)

pub natural_here : (x : Rtx) → IsNatural x → is_natural (out-Rtx x).code (out-Rtx x).number ≡ true
natural_here x all = (both_of _ _ (sym (natural_out x) ∙ all)).0

pub natural_kids : (x : Rtx) → IsNatural x → AllByRecursion IsNatural (out-Rtx x).kids
natural_kids x all = natural_each (out-Rtx x).kids (both_of (is_natural (out-Rtx x).code (out-Rtx x).number) _ (sym (natural_out x) ∙ all)).1

-- the number of a register as 64 bits is the number
pub same_number : (number : ℤ) (reg : ℕ) → is_natural code.Reg number ≡ true → (cast_unsigned w64 number == reg) ≡ is_reg_numbered code.Reg number reg
same_number (pos n) reg natural = grind (arith, nat_tests, tests, natural)
same_number (negsuc n) reg natural = absurd (let no : ⊥ = cc in no)

positive : (q : ℕ) → (suc q == 0) ≡ false
positive q = grind (arith, nat_tests)

-- ---- places

-- the register is the one that there is
abbrev pub is_that : Option ℕ → ℕ → Bool
is_that None reg = false
is_that (Some other) reg = other == reg

-- a tree that is a register or not
register_as : (x : Rtx) (q : ℕ) → is_register (suc q) x ≡ is_reg_numbered (out-Rtx x).code (out-Rtx x).number (suc q)
register_as x q = ap (λ b. not b && is_reg_numbered (out-Rtx x).code (out-Rtx x).number (suc q)) (positive q)

true_code : (c : Code) (reg : ℕ) → is_true_register (class_of_code c) reg ≡ true → c ≡ code.Reg
true_code code.Reg reg is = refl
true_code _ reg is = absurd (let no : ⊥ = cc in no)

numbered : (x : Rtx) (q : ℕ) → (out-Rtx x).code ≡ code.Reg → IsNatural x → (cast_unsigned w64 (out-Rtx x).number == suc q) ≡ is_register (suc q) x
numbered x q is natural =
    same_number (out-Rtx x).number (suc q) (ap (λ c. is_natural c (out-Rtx x).number) (sym is) ∙ natural_here x natural)
    ∙ (ap (λ c. is_reg_numbered c (out-Rtx x).number (suc q)) (sym is) ∙ sym (register_as x q))

lowpart_as : (m : Mode) (reg : ℕ) (number : ℤ) (parts : List Rtx) (x : Rtx) (q : ℕ) → fits_row class.Lowpart m reg parts ≡ true → AllByRecursion IsNatural parts →
    is_that (register_by code.Subreg number parts) (suc q) ≡ place_is_by (suc q) code.Subreg parts x
lowpart_as m reg number [] x q fits natural = absurd (let no : ⊥ = cc in no)
lowpart_as m reg number (inner ∷ []) x q fits natural =
    let is : (out-Rtx inner).code ≡ code.Reg = true_code (out-Rtx inner).code (number_at inner) (both_of _ _ fits).0 in
    ap (λ c. is_that (inner_number c (out-Rtx inner).number) (suc q)) is ∙ numbered inner q is natural.0
lowpart_as m reg number (a ∷ b ∷ []) x q fits natural = absurd (let no : ⊥ = cc in no)
lowpart_as m reg number (a ∷ b ∷ c ∷ []) x q fits natural = absurd (let no : ⊥ = cc in no)
lowpart_as m reg number (a ∷ b ∷ c ∷ d ∷ parts) x q fits natural = absurd (let no : ⊥ = cc in no)

place_by : (x : Rtx) (c : Code) (q : ℕ) → (out-Rtx x).code ≡ c → IsSound x → IsNatural x →
    is_that (register_by c (out-Rtx x).number (out-Rtx x).kids) (suc q) ≡ place_is_by (suc q) c (out-Rtx x).kids x
place_by x code.Reg q is sound natural = numbered x q is natural
place_by x code.Subreg q is sound natural = lowpart_as (mode_at x) (number_at x) (out-Rtx x).number (out-Rtx x).kids x q (row_by x code.Subreg sound is) (natural_kids x natural)
place_by x c q is sound natural = ap (λ c. is_reg_numbered c (out-Rtx x).number (suc q)) (sym is) ∙ sym (register_as x q)

-- the register of a place that is set, and the one that it defines
pub place_as : (x : Rtx) (q : ℕ) → IsSound x → IsNatural x → is_that (register_of x) (suc q) ≡ place_is (suc q) x
place_as x q sound natural = place_by x (out-Rtx x).code q refl sound natural

-- memory is no register
in_memory : (c : Code) (number : ℤ) (parts : List Rtx) (reg : ℕ) → is_some (address_part c parts) ≡ true → is_that (register_by c number parts) reg ≡ false
in_memory code.Mem number parts reg is = refl
in_memory c number parts reg is = absurd (let no : ⊥ = cc in no)

pub memory_none : (x : Rtx) (reg : ℕ) → is_some (address_part (out-Rtx x).code (out-Rtx x).kids) ≡ true → is_that (register_of x) reg ≡ false
memory_none x reg is = in_memory (out-Rtx x).code (out-Rtx x).number (out-Rtx x).kids reg is

-- a register has a mode
moded_by : (c : Code) (m : Mode) (reg : ℕ) (number : ℤ) (parts : List Rtx) (q : ℕ) → fits_row (class_of_code c) m reg parts ≡ true → has_mode m ≡ false → is_that (register_by c number parts) q ≡ false
moded_by code.Reg m reg number [] q fits none = let moded = (both_of (has_mode m) _ fits).0 in let wrong : true ≡ false = sym moded ∙ none in absurd (let no : ⊥ = cc in no)
moded_by code.Reg m reg number (a ∷ []) q fits none = absurd (let no : ⊥ = cc in no)
moded_by code.Reg m reg number (a ∷ b ∷ []) q fits none = absurd (let no : ⊥ = cc in no)
moded_by code.Reg m reg number (a ∷ b ∷ c ∷ []) q fits none = absurd (let no : ⊥ = cc in no)
moded_by code.Reg m reg number (a ∷ b ∷ c ∷ d ∷ parts) q fits none = absurd (let no : ⊥ = cc in no)
moded_by code.Subreg m reg number [] q fits none = refl
moded_by code.Subreg m reg number (inner ∷ []) q fits none =
    let narrower = (both_of (is_true_register (class_at inner) (number_at inner)) _ fits).1 in
    let moded = (both_of (has_mode m) _ narrower).0 in
    let wrong : true ≡ false = sym moded ∙ none in absurd (let no : ⊥ = cc in no)
moded_by code.Subreg m reg number (a ∷ b ∷ parts) q fits none = refl
moded_by c m reg number parts q fits none = refl

pub modeless_none : (x : Rtx) (q : ℕ) → IsSound x → has_mode (mode_at x) ≡ false → is_that (register_of x) q ≡ false
modeless_none x q sound none = moded_by (out-Rtx x).code (mode_at x) (number_at x) (out-Rtx x).number (out-Rtx x).kids q (row_by x (out-Rtx x).code sound refl) none
