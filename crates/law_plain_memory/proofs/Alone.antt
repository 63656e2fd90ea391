-- A register alone as an address is the register and the offset 0.
use Rattle.std.proofs.Common.{◌≡◌, ℕ, suc, pos, [], ◌∷◌, ◌++◌, sym, ◌∙◌, ap}
use Rattle.std.specs.Prelude.{ℤ}
use Rattle.bits64.specs.declared.Width.{Width}
use Rattle.bits64.specs.declared.Width.TheVariants.{W64}
use Rattle.rtx_tree.specs.declared.code.Mode.{Mode}
use Rattle.rtx_tree.specs.declared.code.Mode.TheVariants.{DI}
use Rattle.sym_state.specs.State.{Register, Access}
use Rattle.sym_insns.specs.Value.{Made, loaded}
use Rattle.rtx_open.proofs.Expressions.{Written}
use Rattle.law_plain_terms.proofs.Memory.{same_address, bare_address}
use Rattle.law_plain_states.proofs.Effects.{register, memory_at, made}
use Rattle.law_plain_memory.proofs.Loads.{address_of, memory_of}

pub alone : (a : ℕ) → made (register DI a) W64 ≡ made (address_of (a, pos 0)) W64
alone a = ap (λ t. record { term = t; needs = Register (suc a) W64 ∷ [] }) (sym (bare_address a) ∙ same_address a 0)

-- what is loaded from an address of the same value is the same
pub loads_alike : (m : Mode) (z : ℤ) (place : Written) (p : ℕ × ℤ) (w : Width) → made place W64 ≡ made (address_of p) W64 → made (memory_at m z place) w ≡ made (memory_of m p) w
loads_alike m z place p w same = ap (loaded [] w) same
