-- What a function comes to, from what the calls gave.
use Rattle.std.proofs.Common.{◌≡◌, ℕ, List, [], ◌∷◌, ◌++◌, length, Result, Ok, Err, refl, sym, ap, subst, ◌∙◌}
use Rattle.rtx_tree.specs.declared.function.Function.{Function}
use Rattle.rv_text.specs.declared.line.CodeItem.{CodeItem}
use Rattle.run_refusal.specs.declared.refusal.Refusal.{Refusal}
use Rattle.pass_name.specs.declared.road.Road.{Road}
use Rattle.md_forms.specs.declared.form.Entry.{Entry}
use Rattle.func_input.specs.Input.{RefusesWith}
use Rattle.func_input.specs.machine.Steps.{IsOrMemory}
use Rattle.func_input.proofs.Refusing.{refuses_map, made_refuses}
use Rattle.func_after.specs.After.{AfterComes, refused_for}
use Rattle.func_after.proofs.PassLaws.{told_for}
use Rattle.pass_name.specs.declared.pass.Pass.TheVariants.{Output}
use Rattle.func_after.specs.declared.compilation.Compilation.{Compilation}
use Rattle.asm_out.specs.pass_refusal.declared.refusal.PassRefusal.{PassRefusal}
use Rattle.asm_out.specs.pass_refusal.Outcome as pass
use Rattle.asm_out.specs.Comes as out
use Rattle.asm_out.specs.Outcome as out_of
use Rattle.func_text.specs.declared.summary.Summary.{Summary}
use Rattle.func_text.specs.Summary.{summary_of}
use Rattle.func_text.specs.Assembly.{Outcome, alone, FunctionComes}
use Rattle.func_text.specs.machine.Steps.{AppendsAssembly, WrittenComes}

-- ---- a function as it comes to output

pub piece_written : {A : Type 0} (forms : List Entry) (number : ℕ) (f : Function) (m : Compilation) (text text' : List ℕ)
    (none items : List CodeItem) (parts parts' : List (List CodeItem)) (x : A) → none ≡ [] →
    out_of.Appends text text' none items (Ok x) (out.FunctionComes forms number m.function (length text)) → parts' ≡ parts ++ items ∷ [] →
    AppendsAssembly text text' parts parts' (Ok (summary_of f m items)) (WrittenComes forms number (length text) f m)
piece_written forms number f m text text' none items parts parts' x empty written is =
    let items_are : items ≡ written.0.items = written.3 ∙ ap (λ (i : List CodeItem). i ++ written.0.items) empty in
    let parts_are = is ∙ ap (λ (i : List CodeItem). parts ++ i ∷ []) items_are in
    (alone f m written.0, (Ok written.0, written.1, refl), written.2, parts_are, ap (summary_of f m) items_are)

pub piece_refused : (forms : List Entry) (number size : ℕ) (f : Function) (m : Compilation) (e : PassRefusal) (told : Refusal) →
    pass.RefusesWith e (out.FunctionComes forms number m.function size) → IsOrMemory told (refused_for f.name Output e) →
    RefusesWith told (WrittenComes forms number size f m)
piece_refused forms number size f m e told r is =
    made_refuses told (refused_for f.name Output e) (WrittenComes forms number size f m)
    (told_for f.name Output e (out.FunctionComes forms number m.function size) (WrittenComes forms number size f m) (λ e comes. (Err e, comes, refl)) r) is

-- ---- a function

written_comes : (forms : List Entry) (road : Road) (number size : ℕ) (f : Function) (m : Compilation) (told : Outcome) → AfterComes forms road f (Ok m) →
    WrittenComes forms number size f m told → FunctionComes forms road number size f told
written_comes forms road number size f m told after w =
    subst (FunctionComes forms road number size f) (sym w.2) (FunctionComes.written m w.0 after w.1)

pub next_comes : (forms : List Entry) (road : Road) (number size : ℕ) (f : Function) (m : Compilation) (text text' : List ℕ)
    (parts parts' : List (List CodeItem)) (r : Result Summary Refusal) → AfterComes forms road f (Ok m) →
    AppendsAssembly text text' parts parts' r (WrittenComes forms number size f m) →
    AppendsAssembly text text' parts parts' r (FunctionComes forms road number size f)
next_comes forms road number size f m text text' parts parts' (Ok x) after w =
    (w.0, written_comes forms road number size f m (Ok w.0) after w.1, w.2, w.3, w.4)
next_comes forms road number size f m text text' parts parts' (Err e) after w =
    refuses_map e (WrittenComes forms number size f m) (FunctionComes forms road number size f)
    (λ e w. written_comes forms road number size f m (Err e) after w) w

-- what refuses it before output refuses it
pub next_refused : (forms : List Entry) (road : Road) (number size : ℕ) (f : Function) (e : Refusal) → RefusesWith e (AfterComes forms road f) → RefusesWith e (FunctionComes forms road number size f)
next_refused forms road number size f e r = refuses_map e (AfterComes forms road f) (FunctionComes forms road number size f) (λ e after. FunctionComes.refused e after) r
