-- The shipped description: GCC Internals, "Machine Descriptions", of the RISC-V unprivileged
-- manual's RV64I and M.
use Rattle.std.specs.Prelude.{ℕ, List}
use Rattle.rv_target.specs.declared.description.TheConstants.{RV64IM}

-- The bytes of the constant RV64IM, which is written out in src/description.rt. No proof looks into
-- them.
unfoldable pub shipped_text : List ℕ
shipped_text = RV64IM.now
