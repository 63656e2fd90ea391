-- Registers, constants and symbols.
use Rattle.std.proofs.Common.{◌≡◌, ℕ, zero, suc, pos, negsuc, ◌<◌, true, not, nat_le, nat_lt, List, [], ◌∷◌, refl, sym, ap, ◌∙◌, arith}
use Rattle.std.proofs.lemmas.Bool.Decides.{nat_tests}
use Rattle.std.specs.Prelude.{ℤ}
use Rattle.rtx_tree.specs.declared.code.Code.{Code}
use Rattle.rtx_tree.specs.declared.code.Code.TheVariants as code
use Rattle.rtx_tree.specs.declared.code.Mode.{Mode}
use Rattle.rtx_tree.specs.declared.code.Mode.TheVariants.{Void, QI, HI, SI, DI}
use Rattle.rtx_tree.specs.declared.class.Class.TheVariants as class
use Rattle.rtx_tree.specs.declared.tree.Rtx.{Rtx, out-Rtx}
use Rattle.rtl_func.specs.Shapes as shapes
use Rattle.rtl_func.specs.Shapes.{number_at, is_shaped, is_nameless, fits_row}
use Rattle.md_operand.specs.Operand.{accepts_mode, has_mode, is_register_by, is_register, is_constant_code, is_constant, is_symbol_code, is_symbol}
use Rattle.rtx_tree.specs.Code.{same_mode}
use Rattle.rtx_open.proofs.Expressions.{Written, node, none, rtx}
use Rattle.law_plain_leaves.specs.Machine.{is_machine_by, is_machine}
use Rattle.law_plain_leaves.proofs.Shaped.{tree_is, two_of, row_is}

-- ---- modes

pub same_mode_is : (a b : Mode) → same_mode a b ≡ true → a ≡ b
same_mode_is Void Void is = refl
same_mode_is QI QI is = refl
same_mode_is HI HI is = refl
same_mode_is SI SI is = refl
same_mode_is DI DI is = refl
same_mode_is _ _ is = absurd (let no : ⊥ = cc in no)

-- a mode, and not none
abbrev pub IsMode : Mode → Type 0
IsMode m = shapes.has_mode m ≡ true

pub mode_is : (m n : Mode) → IsMode m → accepts_mode m n ≡ true → n ≡ m
mode_is Void n is accepted = absurd (let no : ⊥ = cc in no)
mode_is QI n is accepted = sym (same_mode_is QI n accepted)
mode_is HI n is accepted = sym (same_mode_is HI n accepted)
mode_is SI n is accepted = sym (same_mode_is SI n accepted)
mode_is DI n is accepted = sym (same_mode_is DI n accepted)

no_mode : (m : Mode) → not (shapes.has_mode m) ≡ true → m ≡ Void
no_mode Void is = refl
no_mode _ is = absurd (let no : ⊥ = cc in no)

word_mode : (m : Mode) → shapes.same_mode m DI ≡ true → m ≡ DI
word_mode DI is = refl
word_mode _ is = absurd (let no : ⊥ = cc in no)

-- ---- what has neither parts nor a name

pub nameless_is : (s : List ℕ) → is_nameless s ≡ true → s ≡ []
nameless_is [] is = refl
nameless_is (b ∷ s) is = cc

pub register_parts : (m : Mode) (n : ℕ) (kids : List Rtx) → fits_row class.Register m n kids ≡ true → kids ≡ []
register_parts m n [] fits = refl
register_parts m n (a ∷ []) fits = cc
register_parts m n (a ∷ b ∷ []) fits = cc
register_parts m n (a ∷ b ∷ c ∷ []) fits = cc
register_parts m n (a ∷ b ∷ c ∷ d ∷ kids) fits = cc

constant_parts : (m : Mode) (n : ℕ) (kids : List Rtx) → fits_row class.Constant m n kids ≡ true → kids ≡ []
constant_parts m n [] fits = refl
constant_parts m n (a ∷ []) fits = cc
constant_parts m n (a ∷ b ∷ []) fits = cc
constant_parts m n (a ∷ b ∷ c ∷ []) fits = cc
constant_parts m n (a ∷ b ∷ c ∷ d ∷ kids) fits = cc

symbol_parts : (m : Mode) (n : ℕ) (kids : List Rtx) → fits_row class.Symbol m n kids ≡ true → kids ≡ []
symbol_parts m n [] fits = refl
symbol_parts m n (a ∷ []) fits = cc
symbol_parts m n (a ∷ b ∷ []) fits = cc
symbol_parts m n (a ∷ b ∷ c ∷ []) fits = cc
symbol_parts m n (a ∷ b ∷ c ∷ d ∷ kids) fits = cc

-- ---- registers

-- (reg:MODE NUMBER), by its number less 1
abbrev pub register : Mode → ℕ → Written
register m n = node code.Reg m (pos (suc n)) [] none

pub register_in : (x : Rtx) (m : Mode) (n : ℕ) → is_shaped x ≡ true → (out-Rtx x).code ≡ code.Reg → (out-Rtx x).number ≡ pos (suc n) → (out-Rtx x).mode ≡ m → x ≡ rtx (register m n)
register_in x m n shaped is number mode =
    let row = row_is x code.Reg is shaped in
    tree_is x code.Reg m (pos (suc n)) [] [] (record {
      code = is;
      mode = mode;
      number = number;
      name = nameless_is (out-Rtx x).name row.bare;
      kids_are = register_parts (out-Rtx x).mode (number_at x) (out-Rtx x).kids row.fits;
    })

-- a register of the machine but register zero, by its number less 1
pub record IsMachine (x : Rtx) : Type 0 where
  pub number : ℕ
  pub small : number < 31
  pub is : (out-Rtx x).number ≡ pos (suc number)

number_of : (z : ℤ) → is_machine_by code.Reg z ≡ true → (n : ℕ) × (n < 31) × (z ≡ pos (suc n))
number_of (pos zero) is = cc
number_of (pos (suc n)) is = let two = two_of (nat_le 1 (suc n)) (nat_lt (suc n) 32) is in (n, grind (arith, nat_tests, two), refl)
number_of (negsuc n) is = cc

pub machine_at : (x : Rtx) → (out-Rtx x).code ≡ code.Reg → is_machine x ≡ true → IsMachine x
machine_at x coded is =
    let n = number_of (out-Rtx x).number (ap (λ c. is_machine_by c (out-Rtx x).number) (sym coded) ∙ is) in
    record { number = n.0; small = n.1; is = n.2 }

-- none is a low part
register_code : (c : Code) (z : ℤ) (x : Rtx) (kids : List Rtx) → is_machine_by c z ≡ true → is_register_by c x kids ≡ true → c ≡ code.Reg
register_code code.Reg z x kids machine is = refl
register_code code.Subreg z x kids machine is = absurd (let no : ⊥ = cc in no)
register_code _ z x kids machine is = absurd (let no : ⊥ = cc in no)

-- a register of a mode
pub record IsRegister (x : Rtx) (m : Mode) : Type 0 where
  pub number : ℕ
  pub small : number < 31
  pub is : x ≡ rtx (register m number)

pub register_is : (x : Rtx) (m : Mode) → IsMode m → is_shaped x ≡ true → is_machine x ≡ true → is_register x ≡ true → has_mode m x ≡ true → IsRegister x m
register_is x m is shaped machine accepted moded =
    let here = register_code (out-Rtx x).code (out-Rtx x).number x (out-Rtx x).kids machine accepted in
    let n = machine_at x here machine in
    record { number = n.number; small = n.small; is = register_in x m n.number shaped here n.is (mode_is m (out-Rtx x).mode is moded) }

-- ---- constants

-- (const_int NUMBER)
abbrev pub number : ℤ → Written
number z = node code.ConstInt Void z [] none

constant_code : (c : Code) → is_constant_code c ≡ true → c ≡ code.ConstInt
constant_code code.ConstInt is = refl
constant_code _ is = absurd (let no : ⊥ = cc in no)

pub constant_is : (x : Rtx) → is_shaped x ≡ true → is_constant x ≡ true → x ≡ rtx (number (out-Rtx x).number)
constant_is x shaped is =
    let here = constant_code (out-Rtx x).code is in
    let row = row_is x code.ConstInt here shaped in
    let kids = constant_parts (out-Rtx x).mode (number_at x) (out-Rtx x).kids row.fits in
    tree_is x code.ConstInt Void (out-Rtx x).number [] [] (record {
      code = here;
      mode = no_mode (out-Rtx x).mode (ap (λ kids. fits_row class.Constant (out-Rtx x).mode (number_at x) kids) (sym kids) ∙ row.fits);
      number = refl;
      name = nameless_is (out-Rtx x).name row.bare;
      kids_are = kids;
    })

-- ---- symbols

-- (symbol_ref:DI NAME), whose number no one looks at
abbrev pub symbol : ℤ → List ℕ → Written
symbol z name = node code.SymbolRef DI z name none

symbol_code : (c : Code) → is_symbol_code c ≡ true → c ≡ code.SymbolRef
symbol_code code.SymbolRef is = refl
symbol_code _ is = absurd (let no : ⊥ = cc in no)

pub symbol_is : (x : Rtx) → is_shaped x ≡ true → is_symbol x ≡ true → x ≡ rtx (symbol (out-Rtx x).number (out-Rtx x).name)
symbol_is x shaped is =
    let here = symbol_code (out-Rtx x).code is in
    let row = row_is x code.SymbolRef here shaped in
    let kids = symbol_parts (out-Rtx x).mode (number_at x) (out-Rtx x).kids row.fits in
    tree_is x code.SymbolRef DI (out-Rtx x).number (out-Rtx x).name [] (record {
      code = here;
      mode = word_mode (out-Rtx x).mode (ap (λ kids. fits_row class.Symbol (out-Rtx x).mode (number_at x) kids) (sym kids) ∙ row.fits);
      number = refl;
      name = refl;
      kids_are = kids;
    })
