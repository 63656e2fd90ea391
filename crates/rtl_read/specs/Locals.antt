-- The locals of a function that doesn't tell their size: GCC Internals, "Registers and Memory"
-- (`virtual-stack-vars`).
use Rattle.std.specs.Prelude.{ℕ, suc, ◌&&◌, max, fold, map, ℤ, pos, negsuc, nat_lt, List, [], ◌∷◌, if◌then◌else◌}
use Rattle.rtx_tree.specs.declared.code.Code.{Code}
use Rattle.rtx_tree.specs.declared.code.Code.TheVariants.{Plus}
use Rattle.rtx_tree.specs.declared.function.Insn.{Insn}
use Rattle.rtx_tree.specs.declared.tree.Rtx.{Rtx, out-Rtx, roll-Rtx}
use Rattle.rtx_tree.specs.declared.tree.Rtx.TheOpen.{Rtx-F}
use Rattle.rtx_tree.specs.declared.tree.Rtx.TheFolds.{fold-Rtx}
use Rattle.rtx_tree.specs.Tree.{is_constant, is_stack_vars}

-- how far below 0 a number is, where that has 32 bits
abbrev pub depth_of : ℤ → ℕ
depth_of (pos n) = 0
depth_of (negsuc n) = if nat_lt (suc n) 4294967296 then suc n else 0

-- the one is virtual-stack-vars and the other a constant: how far below it that goes
abbrev pub depth_below : Rtx → Rtx → ℕ
depth_below a b = if is_stack_vars a && is_constant b then depth_of (out-Rtx b).number else 0

abbrev pub depth_by : Code → List Rtx → ℕ
depth_by Plus (a ∷ b ∷ []) = max (depth_below a b) (depth_below b a)
depth_by _ kids = 0

-- how far below virtual-stack-vars a sum of it and a constant goes
abbrev pub depth_at : Rtx → ℕ
depth_at x = depth_by (out-Rtx x).code (out-Rtx x).kids

-- a tree, and how far the deepest sum in it goes
pub record Depths : Type 0 where
  pub whole : Rtx
  pub deepest : ℕ

abbrev pub depths_step : Rtx-F Depths → Depths
depths_step x =
    let whole = roll-Rtx (record { code = x.code; mode = x.mode; number = x.number; name = x.name; kids = map (λ k. k.whole) x.kids }) in
    record { whole = whole; deepest = fold max (depth_at whole) (map (λ k. k.deepest) x.kids) }

-- the greatest depth of all sums in a tree, 0 if there is none
abbrev pub deepest_in : Rtx → ℕ
deepest_in x = (fold-Rtx Depths depths_step x).deepest

-- The greatest d from 0 to 4,294,967,295 such that -d is added to virtual-stack-vars somewhere in a
-- chain, 0 if there is none.
abbrev pub locals_in : List Insn → ℕ
locals_in insns = fold max 0 (map (λ i. deepest_in i.pattern) insns)
