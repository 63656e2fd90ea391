-- What is told of the functions of the input, from what the description and the input gave.
use Rattle.std.proofs.Common.{◌≡◌, ℕ, ◌+◌, ◌<◌, List, [], ◌∷◌, length, Result, Ok, Err, Option, Some, None, Vec, refl, sym, subst, arith}
use Rattle.std.specs.Prelude.{IfSome}
use Rattle.std.specs.declared.alloc.Global.{Global}
use Rattle.std.specs.Io.KnownBytes.{Consumes, IsAtEnd}
use Rattle.rtx_tree.specs.Limit.{most_bytes}
use Rattle.rtx_tree.specs.declared.limit.Limit.{Limit}
use Rattle.rtx_tree.specs.declared.limit.Limit.TheVariants as limit
use Rattle.run_refusal.specs.declared.refusal.Refusal.{Refusal}
use Rattle.run_refusal.specs.declared.refusal.Refusal.TheVariants as refusal
use Rattle.md_source.specs.Source.{Source}
use Rattle.md_forms.specs.declared.form.Entry.{Entry}
use Rattle.md_named.specs.Named.{FormsCome}
use Rattle.md_named.specs.Answers.{RefusesForms}
use Rattle.func_input.specs.Input.{InputComesTo, RefusesWith}
use Rattle.func_input.specs.Outcome.{Outcome}
use Rattle.pass_name.specs.declared.road.Road.TheVariants.{Usual}
use Rattle.func_image.specs.func_text.Assembly as assembly
use Rattle.func_image.specs.func_text.Compile.{FunctionsCome}
use Rattle.func_image.specs.func_text.Code.{CodeComes, Gives as GivesCode}
use Rattle.rtl_make.specs.Made.{made}
use Rattle.rtlc_words.specs.declared.command.Told.{Told}
use Rattle.rtlc_words.specs.declared.command.Told.TheVariants as telling
use Rattle.plain_text.specs.Plain.{ComeToLines}
use Rattle.rtlc_run.specs.Told.{EvalComes, ToldComes}
use Rattle.rtlc_run.specs.Generated.{SummaryComes}
use Rattle.rtlc_run.specs.Answer.{ByForms, OverInput, IsMissing}
use Rattle.rtlc_run.specs.machine.Steps.{Gives, InputRefused, IsOwn}
use Rattle.rtlc_run.proofs.Commands.{of_input, gives_map}

-- which functions of the input are plain
abbrev OverPlain : Option (List ℕ) → Outcome → Type 0
OverPlain left outcome = IfSome left (λ bytes. InputComesTo ComeToLines bytes outcome)

-- ---- the description

-- what refused the description refuses the command
pub forms_refuse : (comes : List Entry → Outcome → Type 0) (known : Source) (name : List ℕ) (e : Refusal) → RefusesForms e (FormsCome known name) → Gives (Err e) (ByForms comes known name)
forms_refuse comes known name refusal.Memory h = tt
forms_refuse comes known name refusal.ReadFault h = tt
forms_refuse comes known name refusal.Usage h = absurd h
forms_refuse comes known name refusal.WriteFault h = absurd h
forms_refuse comes known name (refusal.Syntax file place) h = ByForms.refused (refusal.Syntax file place) h
forms_refuse comes known name (refusal.Construct place what) h = ByForms.refused (refusal.Construct place what) h
forms_refuse comes known name (refusal.IllFormed function uid rule) h = ByForms.refused (refusal.IllFormed function uid rule) h
forms_refuse comes known name (refusal.Limit which count) h = ByForms.refused (refusal.Limit which count) h
forms_refuse comes known name (refusal.Unmatched function uid stage insn) h = ByForms.refused (refusal.Unmatched function uid stage insn) h
forms_refuse comes known name (refusal.Unsatisfied function uid form insn) h = ByForms.refused (refusal.Unsatisfied function uid form insn) h
forms_refuse comes known name (refusal.NotEquated function uid rule item l r) h = ByForms.refused (refusal.NotEquated function uid rule item l r) h

pub forms_are_own : (known : Source) (name : List ℕ) (e : Refusal) → RefusesForms e (FormsCome known name) → IsOwn (Err e)
forms_are_own known name refusal.Usage h = absurd h
forms_are_own known name refusal.WriteFault h = absurd h
forms_are_own known name _ h = (λ is. cc, λ is. cc)

-- ---- an input that was not read

-- bytes that are too many are no functions
too_many : (t : Told) (forms : List Entry) (bytes : List ℕ) → most_bytes < length bytes → ToldComes t forms bytes (Err (refusal.Limit limit.Text (most_bytes + 1)))
too_many (telling.Lines road) forms bytes long = (Err (refusal.Limit limit.Text (most_bytes + 1)), InputComesTo.too_long long, refl)
too_many telling.Forms forms bytes long = InputComesTo.too_long long
too_many telling.Cycles forms bytes long = InputComesTo.too_long long
too_many telling.Words forms bytes long = InputComesTo.too_long long
too_many (telling.Behind pass) forms bytes long = InputComesTo.too_long long
too_many (telling.Outcomes function steps args) forms bytes long =
    (Err (refusal.Limit limit.Text (most_bytes + 1)), CodeComes.unread (refusal.Limit limit.Text (most_bytes + 1)) (λ functions read. let within = read.within in omega (arith, long, within)) (InputComesTo.too_long long), refl, tt)

too_many_left : (t : Told) (forms : List Entry) (left : Option (List ℕ)) (count : ℕ) → InputRefused left (refusal.Limit limit.Text count) → IfSome left (λ bytes. ToldComes t forms bytes (Err (refusal.Limit limit.Text count)))
too_many_left t forms None count h = tt
too_many_left t forms (Some bytes) count h = subst (λ (n : ℕ). ToldComes t forms bytes (Err (refusal.Limit limit.Text n))) (sym h.0) (too_many t forms bytes h.1)

unread_limit : (t : Told) (known : Source) (left : Option (List ℕ)) (name : List ℕ) (forms : List Entry) (which : Limit) (count : ℕ) → FormsCome known name (Ok forms) → InputRefused left (refusal.Limit which count) →
    Gives (Err (refusal.Limit which count)) (ByForms (OverInput t left) known name)
unread_limit t known left name forms limit.Text count come h = ByForms.by_forms forms (Err (refusal.Limit limit.Text count)) come (too_many_left t forms left count h)
unread_limit t known left name forms _ count come h = absurd h

-- an input that was not read refuses what is told
pub unread : (t : Told) (known : Source) (left : Option (List ℕ)) (name : List ℕ) (forms : List Entry) (e : Refusal) → FormsCome known name (Ok forms) → InputRefused left e → Gives (Err e) (ByForms (OverInput t left) known name)
unread t known left name forms refusal.Memory come h = tt
unread t known left name forms refusal.ReadFault come h = tt
unread t known left name forms (refusal.Limit which count) come h = unread_limit t known left name forms which count come h
unread t known left name forms _ come h = absurd h

-- ---- an input that was read

-- what the bytes that were read came to, the input comes to
pub input_told : (t : Told) (known : Source) (left left' : Option (List ℕ)) (name : List ℕ) (forms : List Entry) (bytes : List ℕ) (r : Result (Vec ℕ Global) Refusal) → FormsCome known name (Ok forms) →
    Consumes left left' bytes × IsAtEnd left' → Gives r (ToldComes t forms bytes) → Gives r (ByForms (OverInput t left) known name)
input_told t known left left' name forms bytes r come read h =
    gives_map r (ToldComes t forms bytes) (ByForms (OverInput t left) known name) (λ o comes. ByForms.by_forms forms o come (of_input (λ (bs : List ℕ). ToldComes t forms bs o) left left' bytes read comes)) h

-- what is missing among the bytes that were read is missing in the input
pub misused : (t : Told) (left left' : Option (List ℕ)) (bytes : List ℕ) → Consumes left left' bytes × IsAtEnd left' → IsMissing t bytes → IfSome left (λ bytes. IsMissing t bytes)
misused t left left' bytes read h = of_input (λ (bs : List ℕ). IsMissing t bs) left left' bytes read h

-- ---- which functions are plain

-- bytes that are too many are no functions, whatever is told of these
plain_too_many : (bytes : List ℕ) → most_bytes < length bytes → InputComesTo ComeToLines bytes (Err (refusal.Limit limit.Text (most_bytes + 1)))
plain_too_many bytes long = InputComesTo.too_long long

plain_too_many_left : (left : Option (List ℕ)) (count : ℕ) → InputRefused left (refusal.Limit limit.Text count) → IfSome left (λ bytes. InputComesTo ComeToLines bytes (Err (refusal.Limit limit.Text count)))
plain_too_many_left None count h = tt
plain_too_many_left (Some bytes) count h = subst (λ (n : ℕ). InputComesTo ComeToLines bytes (Err (refusal.Limit limit.Text n))) (sym h.0) (plain_too_many bytes h.1)

plain_limit : (left : Option (List ℕ)) (which : Limit) (count : ℕ) → InputRefused left (refusal.Limit which count) → Gives (Err (refusal.Limit which count)) (OverPlain left)
plain_limit left limit.Text count h = plain_too_many_left left count h
plain_limit left _ count h = absurd h

-- an input that was not read refuses it
pub plain_unread : (left : Option (List ℕ)) (e : Refusal) → InputRefused left e → Gives (Err e) (OverPlain left)
plain_unread left refusal.Memory h = tt
plain_unread left refusal.ReadFault h = tt
plain_unread left (refusal.Limit which count) h = plain_limit left which count h
plain_unread left _ h = absurd h

-- what the bytes that were read came to, the input comes to
pub plain_told : (left left' : Option (List ℕ)) (bytes : List ℕ) (r : Result (Vec ℕ Global) Refusal) → Consumes left left' bytes × IsAtEnd left' → Gives r (InputComesTo ComeToLines bytes) → Gives r (OverPlain left)
plain_told left left' bytes r read h =
    gives_map r (InputComesTo ComeToLines bytes) (OverPlain left) (λ o comes. of_input (λ (bs : List ℕ). InputComesTo ComeToLines bs o) left left' bytes read comes) h

-- ---- texts

-- what refused an assembly refuses what is told of it
assembly_refused : (P : assembly.Outcome → Type 0) (Q : Outcome → Type 0) → ((e : Refusal) → P (Err e) → Q (Err e)) → (e : Refusal) → RefusesWith e P → Gives (Err e) Q
assembly_refused P Q follows refusal.Memory h = tt
assembly_refused P Q follows refusal.Usage h = absurd h
assembly_refused P Q follows refusal.ReadFault h = tt
assembly_refused P Q follows refusal.WriteFault h = absurd h
assembly_refused P Q follows (refusal.Syntax file place) h = follows (refusal.Syntax file place) h
assembly_refused P Q follows (refusal.Construct place name) h = follows (refusal.Construct place name) h
assembly_refused P Q follows (refusal.IllFormed function uid rule) h = follows (refusal.IllFormed function uid rule) h
assembly_refused P Q follows (refusal.Limit which count) h = follows (refusal.Limit which count) h
assembly_refused P Q follows (refusal.Unmatched function uid stage insn) h = follows (refusal.Unmatched function uid stage insn) h
assembly_refused P Q follows (refusal.Unsatisfied function uid form insn) h = follows (refusal.Unsatisfied function uid form insn) h
assembly_refused P Q follows (refusal.NotEquated function uid rule item left right) h = follows (refusal.NotEquated function uid rule item left right) h

-- its summary
pub summary_refused : (number : ℕ) (forms : List Entry) (e : Refusal) → RefusesWith e (FunctionsCome forms Usual (made number ∷ [])) → Gives (Err e) (SummaryComes number forms)
summary_refused number forms e h = assembly_refused (FunctionsCome forms Usual (made number ∷ [])) (SummaryComes number forms) (λ e comes. (Err e, comes, refl)) e h

-- such a refusal is no fault, and none of the words
pub refusal_is_own : (P : assembly.Outcome → Type 0) (e : Refusal) → RefusesWith e P → IsOwn (Err e)
refusal_is_own P refusal.Usage h = absurd h
refusal_is_own P refusal.WriteFault h = absurd h
refusal_is_own P _ h = (λ is. cc, λ is. cc)

pub refusal_read : (P : assembly.Outcome → Type 0) (e : Refusal) → RefusesWith e P → ◌≡◌ {A = Result (Vec ℕ Global) Refusal} (Err e) (Err refusal.ReadFault) → ⊥
refusal_read P refusal.ReadFault h is = h
refusal_read P _ h is = cc

-- what refused the code refuses the outcomes
pub code_refused : (forms : List Entry) (bytes function : List ℕ) (steps : ℕ) (args : List ℕ) (e : Refusal) → GivesCode (Err e) (CodeComes forms bytes function) → Gives (Err e) (EvalComes function steps args forms bytes)
code_refused forms bytes function steps args refusal.Memory h = tt
code_refused forms bytes function steps args refusal.ReadFault h = absurd h
code_refused forms bytes function steps args refusal.WriteFault h = absurd h
code_refused forms bytes function steps args refusal.Usage h = (Err refusal.Usage, h, refl, tt)
code_refused forms bytes function steps args (refusal.Syntax file place) h = (Err (refusal.Syntax file place), h, refl, tt)
code_refused forms bytes function steps args (refusal.Construct place name) h = (Err (refusal.Construct place name), h, refl, tt)
code_refused forms bytes function steps args (refusal.IllFormed name uid rule) h = (Err (refusal.IllFormed name uid rule), h, refl, tt)
code_refused forms bytes function steps args (refusal.Limit which count) h = (Err (refusal.Limit which count), h, refl, tt)
code_refused forms bytes function steps args (refusal.Unmatched name uid stage insn) h = (Err (refusal.Unmatched name uid stage insn), h, refl, tt)
code_refused forms bytes function steps args (refusal.Unsatisfied name uid form insn) h = (Err (refusal.Unsatisfied name uid form insn), h, refl, tt)
code_refused forms bytes function steps args (refusal.NotEquated name uid rule item left right) h = (Err (refusal.NotEquated name uid rule item left right), h, refl, tt)
