-- The assembly of some functions, said of its lines: for each function, in order, its frame of
-- lines, and in it for each label its line, and for each instruction that needs a form the filled
-- template of the first that counts at output, with the lowest enabled alternative that fits.
use Rattle.std.specs.Prelude.{◌<◌, ◌^◌, ℕ, ◌+◌, List, [], ◌∷◌, Ok}
use Rattle.rtx_tree.specs.declared.function.Function.{Function}
use Rattle.pass_name.specs.declared.road.Road.{Road}
use Rattle.md_forms.specs.declared.form.Entry.{Entry}
use Rattle.func_after.specs.After.{AfterComes}
use Rattle.func_after.specs.declared.compilation.Compilation.{Compilation}
use Rattle.asm_out.specs.declared.piece.Piece.{Piece}
use Rattle.asm_out.specs.Written.{IsWritten}
use Rattle.func_text.specs.declared.assembly.Assembly.{Assembly}
use Rattle.func_text.specs.Assembly.{nothing, alone, joined}

-- each function, in order and numbered, has its text and its items, those of what the passes made
-- of it, and is counted in the summary
pub data IsAssembly (forms : List Entry) (road : Road) : ℕ → List Function → Assembly → Type 0 where
  none : (number : ℕ) → IsAssembly forms road number [] nothing
  function : (number : ℕ) (f : Function) (m : Compilation) (functions : List Function) (piece : Piece) (rest : Assembly) → number < 2 ^ 32 →
      AfterComes forms road f (Ok m) → IsWritten forms number m.function piece → IsAssembly forms road (number + 1) functions rest →
      IsAssembly forms road number (f ∷ functions) (joined (alone f m piece) rest)
