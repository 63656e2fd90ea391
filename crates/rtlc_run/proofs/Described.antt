-- There is one answer by a description, and what it says of a text that was written.
use Rattle.std.proofs.Common.{◌≡◌, ℕ, ◌+◌, ◌≤◌, List, [], ◌∷◌, Result, Ok, Err, Option, Some, None, refl, sym, ap, subst, ◌∙◌, arith}
use Rattle.std.specs.Prelude.{IfOk, IfSome, IsSome}
use Rattle.std.specs.Io.KnownBytes.{Appends}
use Rattle.rtx_tree.specs.declared.function.Function.{Function}
use Rattle.rtx_tree.specs.declared.limit.Limit.TheVariants as limit
use Rattle.run_refusal.specs.declared.refusal.Refusal.{Refusal}
use Rattle.run_refusal.specs.declared.refusal.Refusal.TheVariants as refusal
use Rattle.md_source.specs.Source.{Source}
use Rattle.md_source.specs.Asked.{IsKnown}
use Rattle.md_forms.specs.declared.form.Entry.{Entry}
use Rattle.md_iter.specs.Definition.{all_constants_in}
use Rattle.tree_forms.specs.Trees.{expanded, forms_of}
use Rattle.rtx_tree.specs.Limit.{most_forms}
use Rattle.md_list.specs.declared.refusal.ListRefusal.{ListRefusal}
use Rattle.md_list.specs.Listing.{ListComes}
use Rattle.md_list.proofs.Lists.{one_list}
use Rattle.md_named.specs.Named.{source_refused, FormsCome}
use Rattle.md_named.proofs.Forms.{one_answer as one_forms}
use Rattle.func_input.specs.Outcome.{Outcome}
use Rattle.func_input.specs.Input.{IsInput, FunctionsComeTo, InputComesTo}
use Rattle.func_input.proofs.Inputs.{input_reached, input_last}
use Rattle.func_input.proofs.One.{one_coming_to}
use Rattle.pass_name.specs.declared.road.Road.{Road}
use Rattle.pass_name.specs.declared.road.Road.TheVariants.{Usual}
use Rattle.func_image.specs.Image.{TellsImage}
use Rattle.func_image.proofs.One.{one_image_of, tells_image, has_image}
use Rattle.func_image.proofs.Does.{does_in_words}
use Rattle.func_image.specs.func_text.Recog.{FunctionsCome as FormsTold}
use Rattle.func_image.proofs.func_text.One.{functions_one}
use Rattle.func_image.specs.func_text.Cycles as cycles
use Rattle.func_image.proofs.func_text.CyclesOne as cycles_one
use Rattle.func_image.specs.func_text.Dump as dump
use Rattle.func_image.proofs.func_text.DumpOne as dump_one
use Rattle.func_image.specs.func_text.declared.assembly.Assembly.{Assembly}
use Rattle.func_image.specs.func_text.declared.code.Coded.{Coded}
use Rattle.func_image.specs.func_text.Assembly as assembly
use Rattle.func_image.specs.func_text.Assembly.{AssemblyComes}
use Rattle.func_image.specs.func_text.Compile.{FunctionsCome, TextComes, text_told}
use Rattle.func_image.specs.func_text.Code.{CodeComes, IsCoded}
use Rattle.func_image.proofs.func_text.OneAssembly.{one_coming, one_coming_of, one_assembly}
use Rattle.func_image.proofs.func_text.Laws.{is_assembly}
use Rattle.func_image.specs.func_text.func_after.Leads.{IsDescribed}
use Rattle.func_image.proofs.law_assembly.Same.{input_does_same, input_does_framed, coded_is_same}
use Rattle.func_image.specs.func_text.Same.{DoesSame, DoesSameFramed}
use Rattle.func_image.proofs.func_text.CodeLaws.{one_code, code_coded, code_has}
use Rattle.code_eval.specs.Start.{stack_room}
use Rattle.code_eval.specs.Eval.{eval_text, IsFair, ComesToSame}
use Rattle.code_eval.proofs.Lawful.{agree}
use Rattle.rtl_make.specs.Made.{made}
use Rattle.rtlc_words.specs.declared.command.Told.{Told}
use Rattle.rtlc_words.specs.declared.command.Told.TheVariants as telling
use Rattle.rtlc_words.specs.declared.command.Command.{Command}
use Rattle.rtlc_words.specs.declared.command.Command.TheVariants as commands
use Rattle.rtlc_run.specs.Told.{evaluated, EvalComes, ToldComes, Tells, HaveText}
use Rattle.rtlc_run.specs.Generated.{summary_line, summary_told, SummaryComes, TellsSummary}
use Rattle.rtlc_run.specs.Answer.{Given, described, list_told, ByForms, OverInput, CommandComes}
use Rattle.plain_text.specs.Plain.{ComeToLines, text_of}
use Rattle.rtlc_run.specs.Written.{WritesSame, WritesSameFramed, WritesWords, Means, HasText}

-- ---- one answer

same_ok : (a b : List Entry) → ◌≡◌ {A = Given} (Ok a) (Ok b) → a ≡ b
same_ok a b e = cc

same_err : (a b : Refusal) → ◌≡◌ {A = Given} (Err a) (Err b) → a ≡ b
same_err a b e = cc

not_both : (a : List Entry) (b : Refusal) → ◌≡◌ {A = Given} (Ok a) (Err b) → ⊥
not_both a b e = cc

-- what forms come to, they come to alone
abbrev IsOne : (List Entry → Outcome → Type 0) → Type 0
IsOne comes = (forms : List Entry) (a b : Outcome) → comes forms a → comes forms b → a ≡ b

one_by : (comes : List Entry → Outcome → Type 0) → IsOne comes → (known : Source) (name : List ℕ) (a b : Outcome) → IsKnown known name → ByForms comes known name a → ByForms comes known name b → a ≡ b
one_by comes one known name _ _ enough (ByForms.refused e p) (ByForms.refused f q) = ap (λ (r : Refusal). Err r) (same_err e f (one_forms known name (Err e) (Err f) enough p q))
one_by comes one known name _ _ enough (ByForms.refused e p) (ByForms.by_forms forms o q come) = absurd (not_both forms e (one_forms known name (Ok forms) (Err e) enough q p))
one_by comes one known name _ _ enough (ByForms.by_forms forms o p come) (ByForms.refused f q) = absurd (not_both forms f (one_forms known name (Ok forms) (Err f) enough p q))
one_by comes one known name _ _ enough (ByForms.by_forms forms o p come) (ByForms.by_forms forms' o' q come') =
    let same : forms ≡ forms' = same_ok forms forms' (one_forms known name (Ok forms) (Ok forms') enough p q) in
    one forms' o o' (subst (λ (fs : List Entry). comes fs o) same come) come'

-- what forms and bytes come to, they come to alone
abbrev IsOneOver : (List Entry → List ℕ → Outcome → Type 0) → Type 0
IsOneOver comes = (forms : List Entry) (bytes : List ℕ) (a b : Outcome) → comes forms bytes a → comes forms bytes b → a ≡ b

text_one : (road : Road) → IsOneOver (λ forms bytes. TextComes forms road bytes)
text_one road forms bytes a b p q = p.2 ∙ ap text_told (one_coming_of forms road bytes p.0 q.0 p.1 q.1) ∙ sym q.2

trial_one : (function : List ℕ) (steps : ℕ) (args : List ℕ) → IsOneOver (EvalComes function steps args)
trial_one function steps args forms bytes a b p q = p.2 ∙ ap (evaluated steps args) (one_code forms bytes function p.0 q.0 p.1 q.1) ∙ sym q.2

told_one : (t : Told) → IsOneOver (ToldComes t)
told_one (telling.Lines road) forms bytes a b p q = text_one road forms bytes a b p q
told_one telling.Forms forms bytes a b p q = one_coming_to (FormsTold forms) bytes a b (functions_one forms) p q
told_one telling.Cycles forms bytes a b p q = one_coming_to (cycles.FunctionsCome forms) bytes a b (cycles_one.functions_one forms) p q
told_one telling.Words forms bytes a b p q = one_image_of forms bytes a b p q
told_one (telling.Behind pass) forms bytes a b p q = one_coming_to (dump.FunctionsCome forms pass) bytes a b (dump_one.functions_one forms pass) p q
told_one (telling.Outcomes function steps args) forms bytes a b p q = trial_one function steps args forms bytes a b p q

told_left : (t : Told) (left : Option (List ℕ)) → IsSome left → IsOne (OverInput t left)
told_left t None some forms a b p q = cc
told_left t (Some bytes) some forms a b p q = told_one t forms bytes a b p q

pub one_telling : (t : Told) (known : Source) (left : Option (List ℕ)) (name : List ℕ) (a b : Outcome) → IsKnown known name × IsSome left → ByForms (OverInput t left) known name a → ByForms (OverInput t left) known name b → a ≡ b
one_telling t known left name a b enough p q = one_by (OverInput t left) (told_left t left enough.1) known name a b enough.0 p q

summary_one : (number : ℕ) → IsOne (SummaryComes number)
summary_one number forms a b p q = p.2 ∙ ap summary_told (one_coming forms Usual (made number ∷ []) p.0 q.0 p.1 q.1) ∙ sym q.2

pub one_summary : (number : ℕ) (known : Source) (name : List ℕ) (a b : Outcome) → IsKnown known name → ByForms (SummaryComes number) known name a → ByForms (SummaryComes number) known name b → a ≡ b
one_summary number known name a b enough p q = one_by (SummaryComes number) (summary_one number) known name a b enough p q

-- where the forms are known, the answer is by them
by_known : (comes : List Entry → Outcome → Type 0) (known : Source) (name : List ℕ) (forms : List Entry) (o : Outcome) → IsKnown known name → FormsCome known name (Ok forms) → ByForms comes known name o → comes forms o
by_known comes known name forms _ enough come (ByForms.refused e p) = absurd (not_both forms e (one_forms known name (Ok forms) (Err e) enough come p))
by_known comes known name forms _ enough come (ByForms.by_forms forms' o p own) =
    subst (λ (fs : List Entry). comes fs o) (same_ok forms' forms (one_forms known name (Ok forms') (Ok forms) enough p come)) own

-- ---- what was written

-- the forms by which a text came
record Reached (comes : List Entry → Outcome → Type 0) (known : Source) (name text : List ℕ) : Type 0 where
  pub forms : List Entry
  pub come : FormsCome known name (Ok forms)
  pub own : comes forms (Ok text)

reached : (comes : List Entry → Outcome → Type 0) (known : Source) (name text : List ℕ) (o : Outcome) → o ≡ Ok text → ByForms comes known name o → Reached comes known name text
reached comes known name text _ is (ByForms.refused e p) = absurd (let no : ⊥ = cc in no)
reached comes known name text _ is (ByForms.by_forms forms o p own) = record { forms = forms; come = p; own = subst (comes forms) is own }

-- an assembly whose text was told
told_text : (o : assembly.Outcome) (text : List ℕ) → Ok text ≡ text_told o → (a : Assembly) × (o ≡ Ok a) × (a.text ≡ text)
told_text (Ok a) text is = (a, refl, (let same : text ≡ a.text = cc in sym same))
told_text (Err e) text is = absurd (let no : ⊥ = cc in no)

-- a list that was told
told_list : (r : Result (List ℕ) ListRefusal) (text : List ℕ) → Ok text ≡ list_told r → r ≡ Ok text
told_list (Ok other) text is = let same : other ≡ text = cc in ap (λ (t : List ℕ). Ok t) same
told_list (Err e) text is = cc

-- the input has functions, and the text is that of their assembly
lines_told : (forms : List Entry) (road : Road) (bytes text : List ℕ) → TextComes forms road bytes (Ok text) → Tells (telling.Lines road) forms bytes text
lines_told forms road bytes text own =
    let told = told_text own.0 text own.2 in
    let r = input_reached (AssemblyComes forms road) bytes told.0 own.0 told.1 own.1 in
    (r.functions, r.input, told.0, is_assembly forms road r.functions told.0 (subst (AssemblyComes forms road r.functions) told.1 r.own), sym told.2)

-- the forms that a description comes to are those of its constants and its instances
described_is : (known : Source) (name : List ℕ) (given : Given) (forms : List Entry) → given ≡ Ok forms → FormsCome known name given →
    IsDescribed forms
described_is known name _ forms is (FormsCome.refused e comes) = absurd (not_both forms (source_refused e) (sym is))
described_is known name _ forms is (FormsCome.too_many trees comes many) =
    absurd (not_both forms (refusal.Limit limit.Forms (most_forms + 1)) (sym is))
described_is known name _ forms is (FormsCome.described trees comes few) =
    (all_constants_in trees, expanded trees, sym (same_ok (forms_of trees) forms is))

is_described : (known : Source) (name : List ℕ) (forms : List Entry) → FormsCome known name (Ok forms) → IsDescribed forms
is_described known name forms come = described_is known name (Ok forms) forms refl come

-- the code of a function, tried fairly, comes to the same: its frame fits in the stack, and so do its locals
comes_to_same : (forms : List Entry) (bytes name : List ℕ) (c : Coded) (steps : ℕ) (args : List ℕ) → IsDescribed forms →
    IsCoded forms bytes name c →
    IsFair c.function steps args → ComesToSame c.function c.items steps args
comes_to_same forms bytes name c steps args described coded fair =
    let made = coded_is_same forms bytes name c described coded in
    let small = made.2 in
    let holds = made.3 in
    let fits : made.0.layout.size ≤ stack_room = omega (arith, small) in
    let room : c.function.locals ≤ stack_room = omega (arith, small, holds) in
    agree c.function c.items steps args fair made.0.layout.size made.4 fits room

told_outcomes : (bytes function : List ℕ) (steps : ℕ) (args text : List ℕ) (forms : List Entry) (r : Result Coded Refusal) → IsDescribed forms → CodeComes forms bytes function r →
    Ok text ≡ evaluated steps args r → IfOk r (λ c. IsFair c.function steps args) → Tells (telling.Outcomes function steps args) forms bytes text
told_outcomes bytes function steps args text forms (Ok c) described comes is fair =
    let coded = code_coded forms bytes function c (Ok c) refl comes in (
      c,
      coded,
      record { fair = fair; same = comes_to_same forms bytes function c steps args described coded fair },
      (let same : text ≡ eval_text c.function c.items steps args = cc in same),
    )
told_outcomes bytes function steps args text forms (Err e) described comes is fair = cc

-- what a text that was told says
tells : (t : Told) (forms : List Entry) (bytes text : List ℕ) → IsDescribed forms → ToldComes t forms bytes (Ok text) → Tells t forms bytes text
tells (telling.Lines road) forms bytes text described own = lines_told forms road bytes text own
tells telling.Forms forms bytes text described own = let r = input_reached (FormsTold forms) bytes text (Ok text) refl own in (r.functions, r.input, r.own)
tells telling.Cycles forms bytes text described own = let r = input_reached (cycles.FunctionsCome forms) bytes text (Ok text) refl own in (r.functions, r.input, r.own)
tells telling.Words forms bytes text described own = tells_image forms bytes text own
tells (telling.Behind pass) forms bytes text described own = let r = input_reached (dump.FunctionsCome forms pass) bytes text (Ok text) refl own in (r.functions, r.input, r.own)
tells (telling.Outcomes function steps args) forms bytes text described own = told_outcomes bytes function steps args text forms own.0 described own.1 own.2 own.3

-- a summary that was told
summary_text : (o : assembly.Outcome) (text : List ℕ) → Ok text ≡ summary_told o → (a : Assembly) × (o ≡ Ok a) × (text ≡ summary_line a.summary)
summary_text (Ok a) text is = (a, refl, (let same : text ≡ summary_line a.summary = cc in same))
summary_text (Err e) text is = absurd (let no : ⊥ = cc in no)

-- functions that come to an assembly have it
admitted_come : (forms : List Entry) (functions : List Function) (o : assembly.Outcome) (a : Assembly) → o ≡ Ok a → FunctionsCome forms Usual functions o → AssemblyComes forms Usual functions (Ok a)
admitted_come forms functions _ a is (FunctionsComeTo.refused e first) = absurd (let no : ⊥ = cc in no)
admitted_come forms functions _ a is (FunctionsComeTo.admitted o none own) = subst (AssemblyComes forms Usual functions) is own

-- it is that of the assembly of the generated function
tells_summary : (number : ℕ) (forms : List Entry) (text : List ℕ) → SummaryComes number forms (Ok text) → TellsSummary forms number text
tells_summary number forms text own =
    let told = summary_text own.0 text own.2 in
    (told.0, is_assembly forms Usual (made number ∷ []) told.0 (admitted_come forms (made number ∷ []) own.0 told.0 told.1 own.1), told.2)

same_text : (a b : List ℕ) → ◌≡◌ {A = Outcome} (Ok a) (Ok b) → a ≡ b
same_text a b is = cc

-- what the answer to a command says, where it is a text
pub means : (known : Source) (left : Option (List ℕ)) (c : Command) (text : List ℕ) → CommandComes known left c (Ok text) → Means known left c text
means known None (commands.Over name t) text comes = tt
means known (Some bytes) (commands.Over name t) text comes =
    let by = reached (OverInput t (Some bytes)) known (described name) text (Ok text) refl comes in
    (by.forms, by.come, tells t by.forms bytes text (is_described known (described name) by.forms by.come) by.own)
means known None commands.Plain text comes = tt
means known (Some bytes) commands.Plain text comes =
    let r = input_reached ComeToLines bytes text (Ok text) refl comes in (r.functions, r.input, same_text (text) (text_of r.functions) r.own)
means known left (commands.Listed name) text comes = subst (ListComes known (described name)) (told_list comes.0 text comes.2) comes.1
means known left (commands.Made name number) text comes =
    let by = reached (SummaryComes number) known (described name) text (Ok text) refl comes in (by.forms, by.come, tells_summary number by.forms text by.own)

-- ---- what the text of an assembly does

pub writes_same : (known : Source) (left old new : Option (List ℕ)) (name : Option (List ℕ)) (road : Road) (text : List ℕ) → Means known left (commands.Over name (telling.Lines road)) text → Appends old new text → WritesSame left old new
writes_same known None old new name road text h appends = tt
writes_same known (Some bytes) old new name road text h appends =
    let told = h.2 in
    let does = input_does_same h.0 road bytes told.0 told.2 (is_described known (described name) h.0 h.1) told.1 told.3 in
    (told.0, told.1.read, text, subst (DoesSame told.0) (sym told.4) does, appends)

pub writes_framed : (known : Source) (left old new : Option (List ℕ)) (name : Option (List ℕ)) (road : Road) (text : List ℕ) → Means known left (commands.Over name (telling.Lines road)) text → Appends old new text →
    WritesSameFramed known road (described name) left old new
writes_framed known None old new name road text h appends = tt
writes_framed known (Some bytes) old new name road text h appends =
    let told = h.2 in
    let does = input_does_framed h.0 road bytes told.0 told.2 (is_described known (described name) h.0 h.1) told.1 told.3 in
    (h.0, h.1, told.0, told.1, text, subst (DoesSameFramed h.0 road told.0) (sym told.4) does, appends)

-- ---- what the text of an image does

pub writes_words : (known : Source) (left old new : Option (List ℕ)) (name : Option (List ℕ)) (text : List ℕ) → Means known left (commands.Over name telling.Words) text → Appends old new text → WritesWords left old new
writes_words known None old new name text h appends = tt
writes_words known (Some bytes) old new name text h appends =
    let told : TellsImage h.0 bytes text = h.2 in
    (told.functions, told.input.read, text, does_in_words h.0 bytes text (is_described known (described name) h.0 h.1) told, appends)

-- ---- which functions have a text

told_has : (t : Told) (forms : List Entry) (bytes : List ℕ) (functions : List Function) (o : Outcome) → IsInput bytes functions → HaveText t forms functions → ToldComes t forms bytes o → (text : List ℕ) × (o ≡ Ok text)
told_has (telling.Lines road) forms bytes functions o input have own =
    let whole = one_assembly forms road functions own.0 (Ok have.0) (input_last (AssemblyComes forms road) bytes functions own.0 input own.1) have.1 in
    (have.0.text, own.2 ∙ ap text_told whole)
told_has telling.Forms forms bytes functions o input have own = (have.0, functions_one forms functions o (Ok have.0) (input_last (FormsTold forms) bytes functions o input own) have.1)
told_has telling.Cycles forms bytes functions o input have own =
    (have.0, cycles_one.functions_one forms functions o (Ok have.0) (input_last (cycles.FunctionsCome forms) bytes functions o input own) have.1)
told_has telling.Words forms bytes functions o input have own = has_image forms bytes functions o input have own
told_has (telling.Behind pass) forms bytes functions o input have own =
    (have.0, dump_one.functions_one forms pass functions o (Ok have.0) (input_last (dump.FunctionsCome forms pass) bytes functions o input own) have.1)
told_has (telling.Outcomes function steps args) forms bytes functions o input have own =
    let t = code_has forms bytes function functions have.0 own.0 input have.1 have.2 own.1 in
    (eval_text t.0.function t.0.items steps args, own.2 ∙ ap (evaluated steps args) t.1)

-- a command that has a text comes to one
pub ends : (known : Source) (left : Option (List ℕ)) (c : Command) (o : Outcome) → HasText known left c → CommandComes known left c o → (text : List ℕ) × (o ≡ Ok text)
ends known left (commands.Over name t) o has comes =
    let here = subst (λ (i : Option (List ℕ)). ByForms (OverInput t i) known (described name) o) has.4 comes in
    told_has t has.1 has.3 has.5 o has.6 has.7 (by_known (OverInput t (Some has.3)) known (described name) has.1 o has.0 has.2 here)
ends known left commands.Plain o has comes =
    let here = subst (λ (i : Option (List ℕ)). IfSome i (λ bytes. InputComesTo ComeToLines bytes o)) has.1 comes in
    (text_of has.2, input_last ComeToLines has.0 has.2 o has.3 here)
ends known left (commands.Listed name) o has comes = (has.1, comes.2 ∙ ap list_told (one_list known (described name) comes.0 (Ok has.1) has.0 comes.1 has.2))
ends known left (commands.Made name number) o has comes =
    let own = by_known (SummaryComes number) known (described name) has.1 o has.0 has.2 comes in
    (summary_line has.3.0.summary, own.2 ∙ ap summary_told (one_coming has.1 Usual (made number ∷ []) own.0 (Ok has.3.0) own.1 has.3.1))
