-- What the assembly of functions is: its lines, the parts of its text, how many these are, and its size.
use Rattle.std.proofs.Common.{◌≡◌, ◌≤◌, ℕ, suc, ◌+◌, List, [], ◌∷◌, ◌++◌, length, Ok, Err, refl, sym, ap, subst, ◌∙◌, arith}
use Rattle.std.proofs.lemmas.List.{length-append}
use Rattle.rtx_tree.specs.declared.function.Function.{Function}
use Rattle.pass_name.specs.declared.road.Road.{Road}
use Rattle.md_forms.specs.declared.form.Entry.{Entry}
use Rattle.func_after.specs.After.{AfterComes}
use Rattle.func_after.specs.declared.compilation.Compilation.{Compilation}
use Rattle.asm_out.specs.declared.piece.Piece.{Piece}
use Rattle.asm_out.specs.Comes as out
use Rattle.asm_out.specs.Outcome as out_of
use Rattle.asm_out.specs.Frame.{framed}
use Rattle.rtx_tree.specs.Limit.{most_output}
use Rattle.asm_out.proofs.WrittenLaws.{function_written, function_within}
use Rattle.asm_out.proofs.SpelledLaws.{chain_spelled}
use Rattle.func_text.specs.declared.assembly.Assembly.{Assembly}
use Rattle.func_text.specs.Assembly.{told_for, FunctionComes, Outcome, AreWritten, AssemblyComes, nothing, alone, joined, outcome_behind}
use Rattle.func_text.specs.Lines.{IsAssembly}
use Rattle.func_text.specs.Same.{AreParts}
use Rattle.func_after.proofs.Kept.{after_name}

-- ---- one function

-- a function that has an assembly, with what the passes made of it
record HasAlone (forms : List Entry) (road : Road) (number size : ℕ) (f : Function) (a : Assembly) : Type 0 where
  pub made : Compilation
  pub comes_after : AfterComes forms road f (Ok made)
  pub piece : Piece
  pub comes : out.FunctionComes forms number made.function size (Ok piece)
  pub is : alone f made piece ≡ a

pub same_assembly : (a b : Assembly) → ◌≡◌ {A = Outcome} (Ok a) (Ok b) → a ≡ b
same_assembly a b is = cc

told_alone : (forms : List Entry) (road : Road) (number size : ℕ) (f : Function) (m : Compilation) (o : out_of.Outcome) (a : Assembly) →
    AfterComes forms road f (Ok m) → out.FunctionComes forms number m.function size o → told_for f m o ≡ Ok a → HasAlone forms road number size f a
told_alone forms road number size f m (Ok piece) a after comes is =
    record { made = m; comes_after = after; piece = piece; comes = comes; is = same_assembly (alone f m piece) a is }
told_alone forms road number size f m (Err e) a after comes is = absurd (let none : ⊥ = cc in none)

has_alone : (forms : List Entry) (road : Road) (number size : ℕ) (f : Function) (o : Outcome) (a : Assembly) → o ≡ Ok a →
    FunctionComes forms road number size f o →
    HasAlone forms road number size f a
has_alone forms road number size f _ a is (FunctionComes.refused e after) = absurd (let none : ⊥ = cc in none)
has_alone forms road number size f _ a is (FunctionComes.written m o after comes) = told_alone forms road number size f m o a after comes is

-- ---- all

-- an assembly with something behind it
record Behind (front : Assembly) (rest : Outcome) (a : Assembly) : Type 0 where
  pub more : Assembly
  pub rest_is : rest ≡ Ok more
  pub whole : joined front more ≡ a

behind : (front : Assembly) (rest : Outcome) (a : Assembly) → outcome_behind front rest ≡ Ok a → Behind front rest a
behind front (Ok more) a is = record { more = more; rest_is = refl; whole = let same : joined front more ≡ a = cc in same }
behind front (Err e) a is = absurd (let none : ⊥ = cc in none)

is_assembly_from : (forms : List Entry) (road : Road) (number size : ℕ) (functions : List Function) (o : Outcome) (a : Assembly) → o ≡ Ok a → AreWritten forms road number size functions o → IsAssembly forms road number functions a
is_assembly_from forms road number size _ _ a is (AreWritten.none _ _) = subst (IsAssembly forms road number []) (same_assembly nothing a is) (IsAssembly.none number)
is_assembly_from forms road number size _ _ a is (AreWritten.refused _ _ f functions e comes) = absurd (let none : ⊥ = cc in none)
is_assembly_from forms road number size _ _ a is (AreWritten.goes_on _ _ f functions one rest small comes more) =
    let here = has_alone forms road number size f (Ok one) one refl comes in
    let b = behind one rest a is in
    let others = is_assembly_from forms road (number + 1) (size + length one.text) functions rest b.more b.rest_is more in
    subst (IsAssembly forms road number (f ∷ functions)) (ap (λ (x : Assembly). joined x b.more) here.is ∙ b.whole)
    (IsAssembly.function number f here.made functions here.piece b.more small here.comes_after
    (function_written forms number here.made.function size here.piece here.comes) others)

-- the lines are those of the forms
pub is_assembly : (forms : List Entry) (road : Road) (functions : List Function) (a : Assembly) → AssemblyComes forms road functions (Ok a) → IsAssembly forms road 0 functions a
is_assembly forms road functions a comes = is_assembly_from forms road 0 0 functions (Ok a) a refl comes

-- the parts of the text spell what stands beside it
pub are_parts : (forms : List Entry) (road : Road) (number : ℕ) (functions : List Function) (a : Assembly) → IsAssembly forms road number functions a → AreParts functions a.text a.parts
are_parts forms road number _ _ (IsAssembly.none _) = AreParts.none
are_parts forms road number _ _ (IsAssembly.function _ f m functions piece rest small after written others) =
    let g = m.function in
    let framed_is : piece.text ≡ framed f.name written.body =
    written.framed_is ∙ ap (λ (n : List ℕ). framed n written.body) (after_name forms road f m after) in
    subst (λ (t : List ℕ). AreParts (f ∷ functions) (t ++ rest.text) (piece.items ∷ rest.parts)) (sym framed_is)
    (AreParts.part f functions written.body rest.text piece.items rest.parts (chain_spelled forms number g 0 g.insns written.body piece.items small written.are) (are_parts forms road (number + 1) functions rest others))

-- there is one for each function
pub parts_count : (forms : List Entry) (road : Road) (number : ℕ) (functions : List Function) (a : Assembly) → IsAssembly forms road number functions a → length a.parts ≡ length functions
parts_count forms road number _ _ (IsAssembly.none _) = refl
parts_count forms road number _ _ (IsAssembly.function _ f m functions piece rest small after written others) =
    ap suc (parts_count forms road (number + 1) functions rest others)

within_from : (forms : List Entry) (road : Road) (number size : ℕ) (functions : List Function) (o : Outcome) (a : Assembly) → size ≤ most_output → o ≡ Ok a → AreWritten forms road number size functions o → size + length a.text ≤ most_output
within_from forms road number size _ _ a within is (AreWritten.none _ _) = let empty : length a.text ≡ 0 = ap (λ (x : Assembly). length x.text) (sym (same_assembly nothing a is)) in omega (arith, within, empty)
within_from forms road number size _ _ a within is (AreWritten.refused _ _ f functions e comes) = absurd (let none : ⊥ = cc in none)
within_from forms road number size _ _ a within is (AreWritten.goes_on _ _ f functions one rest small comes more) =
    let here = has_alone forms road number size f (Ok one) one refl comes in
    let b = behind one rest a is in
    let own : size + length one.text ≤ most_output =
    subst (λ (x : Assembly). size + length x.text ≤ most_output) here.is
    (function_within forms number here.made.function size here.piece here.comes) in
    let all : (size + length one.text) + length b.more.text ≤ most_output =
    within_from forms road (number + 1) (size + length one.text) functions rest b.more own b.rest_is more in
    let size_is : length a.text ≡ length one.text + length b.more.text =
    ap (λ (x : Assembly). length x.text) (sym b.whole) ∙ length-append one.text b.more.text in
    omega (arith, all, size_is)

-- the text is no longer than an assembly may be
pub is_within : (forms : List Entry) (road : Road) (functions : List Function) (a : Assembly) → AssemblyComes forms road functions (Ok a) → length a.text ≤ most_output
is_within forms road functions a comes = let all : 0 + length a.text ≤ most_output = within_from forms road 0 0 functions (Ok a) a (omega arith) refl comes in omega (arith, all)
