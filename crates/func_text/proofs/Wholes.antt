-- The assembly of functions, made one behind the other.
use Rattle.std.proofs.Common.{◌≡◌, ◌<◌, ◌^◌, ℕ, ◌+◌, List, [], ◌∷◌, length, Ok, Err, refl, sym, ap, subst, ◌∙◌, append_assoc, arith}
use Rattle.std.proofs.lemmas.List.{append-nil, length-append}
use Rattle.rtx_tree.specs.declared.function.Function.{Function}
use Rattle.rv_text.specs.declared.line.CodeItem.{CodeItem}
use Rattle.run_refusal.specs.declared.refusal.Refusal.{Refusal}
use Rattle.pass_name.specs.declared.road.Road.{Road}
use Rattle.md_forms.specs.declared.form.Entry.{Entry}
use Rattle.func_input.specs.Input.{RefusesWith}
use Rattle.func_input.proofs.Refusing.{refuses_map}
use Rattle.func_text.specs.declared.assembly.Assembly.{Assembly}
use Rattle.func_text.specs.declared.summary.Summary.{Summary}
use Rattle.func_text.specs.Summary as summaries
use Rattle.func_text.specs.Summary.{plus}
use Rattle.func_text.specs.Assembly.{Outcome, FunctionComes, AreWritten, AssemblyComes, nothing, joined, outcome_behind}
use Rattle.func_text.specs.machine.Steps.{AppendsAssembly}

-- ---- assemblies from their parts

abbrev pub assembly : List ℕ → List (List CodeItem) → Summary → Assembly
assembly text parts summary = record { text = text; parts = parts; summary = summary }

same_assembly : (a b : Assembly) → a.text ≡ b.text → a.parts ≡ b.parts → a.summary ≡ b.summary → a ≡ b
same_assembly a b text parts summary = λ i. assembly (text i) (parts i) (summary i)

abbrev counts : (instructions combined slots frame lines : ℕ) → Summary
counts instructions combined slots frame lines =
    record { instructions = instructions; combined = combined; slots = slots; frame = frame; lines = lines }

same_summary : (a b : Summary) → a.instructions ≡ b.instructions → a.combined ≡ b.combined → a.slots ≡ b.slots → a.frame ≡ b.frame →
    a.lines ≡ b.lines → a ≡ b
same_summary a b instructions combined slots frame lines = λ i. counts (instructions i) (combined i) (slots i) (frame i) (lines i)

sum_assoc : (m n k : ℕ) → (m + n) + k ≡ m + (n + k)
sum_assoc m n k = omega arith

sum_zero : (n : ℕ) → n + 0 ≡ n
sum_zero n = omega arith

zero_sum : (n : ℕ) → 0 + n ≡ n
zero_sum n = omega arith

plus_assoc : (a b c : Summary) → plus (plus a b) c ≡ plus a (plus b c)
plus_assoc a b c =
    same_summary (plus (plus a b) c) (plus a (plus b c)) (sum_assoc a.instructions b.instructions c.instructions)
    (sum_assoc a.combined b.combined c.combined) (sum_assoc a.slots b.slots c.slots) (sum_assoc a.frame b.frame c.frame)
    (sum_assoc a.lines b.lines c.lines)

plus_empty : (a : Summary) → plus a summaries.empty ≡ a
plus_empty a =
    same_summary (plus a summaries.empty) a (sum_zero a.instructions) (sum_zero a.combined) (sum_zero a.slots) (sum_zero a.frame)
    (sum_zero a.lines)

empty_plus : (a : Summary) → plus summaries.empty a ≡ a
empty_plus a =
    same_summary (plus summaries.empty a) a (zero_sum a.instructions) (zero_sum a.combined) (zero_sum a.slots) (zero_sum a.frame)
    (zero_sum a.lines)

joined_assoc : (a b c : Assembly) → joined (joined a b) c ≡ joined a (joined b c)
joined_assoc a b c =
    same_assembly (joined (joined a b) c) (joined a (joined b c)) (append_assoc a.text b.text c.text) (append_assoc a.parts b.parts c.parts)
    (plus_assoc a.summary b.summary c.summary)

-- ---- one behind the other

behind_both : (a b : Assembly) (o : Outcome) → outcome_behind (joined a b) o ≡ outcome_behind a (outcome_behind b o)
behind_both a b (Ok c) = ap (λ (x : Assembly). Ok x) (joined_assoc a b c)
behind_both a b (Err e) = refl

behind_nothing : (o : Outcome) → outcome_behind nothing o ≡ o
behind_nothing (Ok a) = ap (λ (x : Assembly). Ok x) (same_assembly (joined nothing a) a refl refl (empty_plus a.summary))
behind_nothing (Err e) = refl

-- what is left comes to, with what is there, what all come to
pub record Makes (forms : List Entry) (road : Road) (functions : List Function) (number : ℕ) (text : List ℕ) (parts : List (List CodeItem))
    (summary : Summary) (rest : List Function) : Type 0 where
  pub makes : (more : Outcome) → AreWritten forms road number (length text) rest more →
      AssemblyComes forms road functions (outcome_behind (assembly text parts summary) more)

pub makes_start : (forms : List Entry) (road : Road) (functions : List Function) → Makes forms road functions 0 [] [] summaries.empty functions
makes_start forms road functions = record { makes = λ more written. subst (AssemblyComes forms road functions) (sym (behind_nothing more)) written }

-- one more function was written
pub makes_on : (forms : List Entry) (road : Road) (functions : List Function) (number : ℕ) (text text' : List ℕ) (parts parts' : List (List CodeItem))
    (summary one : Summary) (f : Function) (rest : List Function) → number < 2 ^ 32 →
    AppendsAssembly text text' parts parts' (Ok one) (FunctionComes forms road number (length text) f) →
    Makes forms road functions number text parts summary (f ∷ rest) → Makes forms road functions (number + 1) text' parts' (plus summary one) rest
makes_on forms road functions number text text' parts parts' summary one f rest small written so_far = record {
  makes = λ more others.
      let own = written.0 in
      let size : length text' ≡ length text + length own.text = ap length written.2 ∙ length-append text own.text in
      let behind : AreWritten forms road (number + 1) (length text + length own.text) rest more =
      subst (λ n. AreWritten forms road (number + 1) n rest more) size others in
      let whole : assembly text' parts' (plus summary one) ≡ joined (assembly text parts summary) own =
      same_assembly (assembly text' parts' (plus summary one)) (joined (assembly text parts summary) own) written.2 written.3
      (ap (plus summary) written.4) in
      let same : outcome_behind (assembly text' parts' (plus summary one)) more ≡
      outcome_behind (assembly text parts summary) (outcome_behind own more) =
      ap (λ (a : Assembly). outcome_behind a more) whole ∙ behind_both (assembly text parts summary) own more in
      subst (AssemblyComes forms road functions) (sym same)
      (so_far.makes (outcome_behind own more) (AreWritten.goes_on number (length text) f rest own more small written.1 behind));
}

-- one was refused
pub makes_wrong : (forms : List Entry) (road : Road) (functions : List Function) (number : ℕ) (text : List ℕ) (parts : List (List CodeItem))
    (summary : Summary) (f : Function) (rest : List Function) (e : Refusal) → RefusesWith e (FunctionComes forms road number (length text) f) →
    Makes forms road functions number text parts summary (f ∷ rest) → RefusesWith e (AssemblyComes forms road functions)
makes_wrong forms road functions number text parts summary f rest e r so_far =
    refuses_map e (FunctionComes forms road number (length text) f) (AssemblyComes forms road functions)
    (λ e comes. so_far.makes (Err e) (AreWritten.refused number (length text) f rest e comes)) r

-- all were written
pub makes_all : (forms : List Entry) (road : Road) (functions : List Function) (number : ℕ) (text : List ℕ) (parts : List (List CodeItem))
    (summary : Summary) → Makes forms road functions number text parts summary [] →
    AssemblyComes forms road functions (Ok (assembly text parts summary))
makes_all forms road functions number text parts summary so_far =
    subst (λ (a : Assembly). AssemblyComes forms road functions (Ok a))
    (same_assembly (joined (assembly text parts summary) nothing) (assembly text parts summary) (append-nil text) (append-nil parts)
    (plus_empty summary))
    (so_far.makes (Ok nothing) (AreWritten.none number (length text)))
