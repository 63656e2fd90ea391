-- The place of a register among the changed ones, and the steps by which it is put there.
use Rattle.std.specs.Prelude.{ℕ, suc, ◌==◌, nat_lt, Bool, false, if◌then◌else◌, List, [], ◌∷◌, Option, Some, None, slice_get, slice_set}
use Rattle.std.specs.List.{insert}
use Rattle.bits64.specs.declared.Width.{Width}
use Rattle.rtx_tree.specs.Registers.{is_call_used}
use Rattle.term_tree.specs.Tree.{Tree, width_of}
use Rattle.term_tree.specs.Form.{narrower}
use Rattle.sym_term.specs.term_mean.Compared.{low_bits}
use Rattle.sym_state.specs.State.{Changed, own_register}
use Rattle.sym_state.specs.Registers.{changed, put}

-- the place of the first register that is not below one, or the end
abbrev pub place_of : List Changed → ℕ → ℕ
place_of [] reg = 0
place_of (c ∷ regs) reg = if nat_lt c.reg reg then suc (place_of regs reg) else 0

abbrev pub is_register : Option Changed → ℕ → Bool
is_register None reg = false
is_register (Some c) reg = c.reg == reg

-- a register put at a place, in place of itself where it stands there
abbrev pub put_at : List Changed → ℕ → ℕ → Option Tree → List Changed
put_at regs at reg value =
    if is_register (slice_get regs at) reg then slice_set regs at (changed reg value) else insert regs at (changed reg value)

-- the low bits of a term that is left, or of what the register held at first
abbrev pub term_left : Option Tree → ℕ → Width → Tree
term_left None reg w = low_bits w (own_register reg)
term_left (Some t) reg w =
    if narrower (width_of t) w then low_bits w (own_register reg) else low_bits w t

-- at most one, as a list
abbrev pub listed : {X : Type 0} → Option X → List X
listed None = []
listed (Some x) = x ∷ []

-- one register left by a call
abbrev pub left_at : ℕ → List Changed → List Changed
left_at reg regs = if is_call_used reg then put regs reg None else regs
