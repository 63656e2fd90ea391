-- The lines of sound functions have the behaviour of the functions.
use Rattle.std.proofs.Common.{ℕ, ◌+◌, suc, List, Ok, refl}
use Rattle.rtx_tree.specs.declared.function.Function.{Function}
use Rattle.pass_name.specs.declared.road.Road.{Road}
use Rattle.md_forms.specs.declared.form.Entry.{Entry}
use Rattle.same_behaviour.specs.Same.{Same}
use Rattle.func_after.specs.law_insn_replaced.Sound.{IsSound}
use Rattle.func_after.specs.declared.compilation.Compilation.{Compilation}
use Rattle.func_after.specs.After.{AfterComes}
use Rattle.func_after.specs.Leads.{IsDescribed}
use Rattle.func_after.proofs.Keeping.{after_leads}
use Rattle.asm_out.specs.declared.piece.Piece.{Piece}
use Rattle.asm_out.specs.Written.{IsWritten}
use Rattle.func_after.proofs.law_output.Written.{written_is_same}
use Rattle.func_text.specs.declared.assembly.Assembly.{Assembly}
use Rattle.func_text.specs.Assembly.{AssemblyComes}
use Rattle.func_text.specs.Lines.{IsAssembly}
use Rattle.func_text.specs.Same.{AreParts, HasBehaviour, AreSound, AreSame, AreSameFramed}
use Rattle.func_text.proofs.Laws.{is_assembly, are_parts}

-- what is written of what the passes make of a function has the function's behaviour
written_same : (forms : List Entry) (road : Road) (number : ℕ) (f : Function) (m : Compilation) (piece : Piece) → IsDescribed forms → IsSound f →
    AfterComes forms road f (Ok m) → IsWritten forms number m.function piece → Same m.layout.size f piece.items
written_same forms road number f m piece described sound comes written =
    let leads = after_leads forms road f m described sound comes in
    leads.same piece.items (written_is_same forms number m.function piece leads.writable written)

-- in each frame that has the room at least of which the passes laid out its frame
pub are_framed : (forms : List Entry) (road : Road) (number : ℕ) (functions : List Function) (a : Assembly) → IsDescribed forms → AreSound functions →
    IsAssembly forms road number functions a → AreSameFramed forms road functions a.parts
are_framed forms road number _ _ described sound (IsAssembly.none _) = AreSameFramed.none
are_framed forms road number _ _ described sound (IsAssembly.function _ f m functions piece rest small after written others) =
    AreSameFramed.function f m functions piece.items rest.parts after
    (written_same forms road number f m piece described (sound 0 f refl) after written)
    (are_framed forms road (number + 1) functions rest described (λ index h at. sound (suc index) h at) others)

-- and this frame is one that a function may have
has_behaviour : (forms : List Entry) (road : Road) (number : ℕ) (f : Function) (m : Compilation) (piece : Piece) → IsDescribed forms → IsSound f →
    AfterComes forms road f (Ok m) → IsWritten forms number m.function piece → HasBehaviour f piece.items
has_behaviour forms road number f m piece described sound comes written = record {
  size = m.layout.size;
  small = (after_leads forms road f m described sound comes).small;
  same = written_same forms road number f m piece described sound comes written;
}

pub are_same : (forms : List Entry) (road : Road) (number : ℕ) (functions : List Function) (a : Assembly) → IsDescribed forms → AreSound functions →
    IsAssembly forms road number functions a → AreSame functions a.parts
are_same forms road number _ _ described sound (IsAssembly.none _) = AreSame.none
are_same forms road number _ _ described sound (IsAssembly.function _ f m functions piece rest small after written others) =
    AreSame.function f functions piece.items rest.parts
    (has_behaviour forms road number f m piece described (sound 0 f refl) after written)
    (are_same forms road (number + 1) functions rest described (λ index h at. sound (suc index) h at) others)

-- and so of all that were compiled
pub compiled_parts : (forms : List Entry) (road : Road) (functions : List Function) (a : Assembly) → AssemblyComes forms road functions (Ok a) → AreParts functions a.text a.parts
compiled_parts forms road functions a comes = are_parts forms road 0 functions a (is_assembly forms road functions a comes)

pub compiled_framed : (forms : List Entry) (road : Road) (functions : List Function) (a : Assembly) → IsDescribed forms → AreSound functions →
    AssemblyComes forms road functions (Ok a) → AreSameFramed forms road functions a.parts
compiled_framed forms road functions a described sound comes = are_framed forms road 0 functions a described sound (is_assembly forms road functions a comes)

pub compiled_same : (forms : List Entry) (road : Road) (functions : List Function) (a : Assembly) → IsDescribed forms → AreSound functions →
    AssemblyComes forms road functions (Ok a) → AreSame functions a.parts
compiled_same forms road functions a described sound comes = are_same forms road 0 functions a described sound (is_assembly forms road functions a comes)
