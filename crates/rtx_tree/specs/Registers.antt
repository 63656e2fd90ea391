-- Registers: RISC-V ELF psABI, "Integer Register Convention"; GCC Internals, "Registers and
-- Memory".
use Rattle.std.specs.Prelude.{ℕ, Bool, ◌||◌, ◌&&◌, nat_le, nat_lt, nat_eq, ◌+◌, ◌-◌, List, [], ◌∷◌, ◌++◌, codes, slice_index_or, if◌then◌else◌, Option, position}
use Rattle.std.specs.Fmt.{decimal}
use Rattle.std.specs.Str.{bytes_eq}

-- the registers' names, in the order of their numbers
abbrev pub reg_names : List (List ℕ)
reg_names =
    codes "zero" ∷ codes "ra" ∷ codes "sp" ∷ codes "gp" ∷ codes "tp" ∷ codes "t0" ∷ codes "t1" ∷ codes "t2" ∷
    codes "s0" ∷ codes "s1" ∷ codes "a0" ∷ codes "a1" ∷ codes "a2" ∷ codes "a3" ∷ codes "a4" ∷ codes "a5" ∷
    codes "a6" ∷ codes "a7" ∷ codes "s2" ∷ codes "s3" ∷ codes "s4" ∷ codes "s5" ∷ codes "s6" ∷ codes "s7" ∷
    codes "s8" ∷ codes "s9" ∷ codes "s10" ∷ codes "s11" ∷ codes "t3" ∷ codes "t4" ∷ codes "t5" ∷ codes "t6" ∷ []

-- the name of a register
abbrev pub reg_text : ℕ → List ℕ
reg_text reg = slice_index_or reg_names reg []

-- the register with a name, where there is one
abbrev pub number_of_reg : List ℕ → Option ℕ
number_of_reg name = position (λ text. bytes_eq text name) reg_names

abbrev is_within : ℕ → ℕ → ℕ → Bool
is_within first last reg = nat_le first reg && nat_le reg last

-- whether a call need not preserve a register: ra, t0 to t2, a0 to a7, t3 to t6
abbrev pub is_call_used : ℕ → Bool
is_call_used reg =
    nat_eq reg 1 || (is_within 5 7 reg || (is_within 10 17 reg || is_within 28 31 reg))

-- the number of hard register k, one of 0 to 31
abbrev pub hard_reg : ℕ → ℕ
hard_reg k = k

-- the number of virtual-stack-vars, the register that stands for the address past the locals
abbrev pub virtual_stack_vars : ℕ
virtual_stack_vars = 32

-- the number of pseudo register k
abbrev pub pseudo : ℕ → ℕ
pseudo k = 64 + k

-- the text of a register: a hard one by its name, `virtual-stack-vars`, or pseudo k as <k>
abbrev pub register_text : ℕ → List ℕ
register_text reg =
    if nat_lt reg 32 then reg_text reg
    else (if nat_lt reg 64 then codes "virtual-stack-vars" else codes "<" ++ (decimal (reg - 64) ++ codes ">"))
