-- The answer of a run, from how it ended.
use Rattle.std.proofs.Common.{◌≡◌, ◌⊎◌, ℕ, List, [], true, Result, Err, Option, Some, None, Vec, refl, sym, ap, subst, ◌∙◌, ⊎_elim}
use Rattle.std.specs.declared.alloc.Global.{Global}
use Rattle.std.proofs.lemmas.List.{append-nil}
use Rattle.std.specs.Io.KnownBytes.{Appends}
use Rattle.byte_edge.specs.Causes.{Rose}
use Rattle.run_refusal.specs.declared.refusal.Refusal.{Refusal}
use Rattle.run_refusal.specs.declared.refusal.Refusal.TheVariants as refusal
use Rattle.run_refusal.specs.Refusals.{status_of, has_values}
use Rattle.md_source.specs.Source.{Source}
use Rattle.rtlc_run.specs.Shown.{line_told}
use Rattle.rtlc_run.specs.Answer.{Answers, IsRefused, Reports, IsAnswered}

-- ---- how a run ended

-- nothing was appended
pub appends_nothing : (old new : Option (List ℕ)) → new ≡ old → Appends old new []
appends_nothing None new e = tt
appends_nothing (Some xs) None e = cc
appends_nothing (Some xs) (Some ys) e = let same : ys ≡ xs = cc in same ∙ sym (append-nil xs)

-- a refusal with its own cause was told as it is, where the status is not 8
told_itself : (e told : Refusal) (status : ℕ) → status ≡ status_of told → (told ≡ e) ⊎ ((told ≡ refusal.Memory) × (has_values e ≡ true)) → (status ≡ 8 → ⊥) → told ≡ e
told_itself e told status is which other =
    ⊎_elim (λ same. same) (λ memory. absurd (other (is ∙ ap status_of memory.0))) which

-- the cause of a refusal that is no fault is an answer
answers_of : (words : List (List ℕ)) (known : Source) (input : Option (List ℕ)) (e : Refusal) → IsRefused words known input e → (e ≡ refusal.ReadFault → ⊥) → (e ≡ refusal.WriteFault → ⊥) → (e ≡ refusal.Memory → ⊥) → Answers words known input (Err e)
answers_of words known input refusal.ReadFault h r w m = absurd (r refl)
answers_of words known input refusal.WriteFault h r w m = absurd (w refl)
answers_of words known input refusal.Memory h r w m = absurd (m refl)
answers_of words known input refusal.Usage h r w m = h
answers_of words known input (refusal.Syntax file place) h r w m = h
answers_of words known input (refusal.Construct place name) h r w m = h
answers_of words known input (refusal.IllFormed function uid rule) h r w m = h
answers_of words known input (refusal.Limit which count) h r w m = h
answers_of words known input (refusal.Unmatched function uid stage insn) h r w m = h
answers_of words known input (refusal.Unsatisfied function uid form insn) h r w m = h
answers_of words known input (refusal.NotEquated function uid rule item left right) h r w m = h

pub answered_err : (words : List (List ℕ)) (known : Source) (input : Option (List ℕ)) (e : Refusal) (status : ℕ) (output output' errors errors' : Option (List ℕ)) (faults faults' : ℕ) →
    IsRefused words known input e → (e ≡ refusal.ReadFault → ⊥) → (e ≡ refusal.WriteFault → ⊥) → (status ≡ 8 → ⊥) → Reports e status errors errors' faults faults' → output' ≡ output →
    IsAnswered words known input status output output' errors errors' faults faults'
answered_err words known input e status output output' errors errors' faults faults' h r w other reports same =
    let itself : reports.told ≡ e = told_itself e reports.told status reports.status_is reports.which other in
    let is : status ≡ status_of e = reports.status_is ∙ ap status_of itself in
    let line : ¬ Rose faults faults' → Appends errors errors' (line_told e) = λ calm. subst (λ (t : Refusal). Appends errors errors' (line_told t)) itself (reports.line calm) in
    (Err e, answers_of words known input e h r w (λ memory. other (is ∙ ap status_of memory)), record { status_is = is; written = appends_nothing output output' same; told = line })

-- the refusal of an error
pub err_of : (d e : Refusal) → ◌≡◌ {A = Result (Unit {0}) Refusal} (Err d) (Err e) → d ≡ e
err_of d e h = cc

-- an error that is handed on stays the same
pub err_on : (r : Result (Unit {0}) Refusal) (d e f : Refusal) → r ≡ Err d → d ≡ e → ◌≡◌ {A = Result (Vec ℕ Global) Refusal} (Err e) (Err f) → r ≡ Err f
err_on r d e f p q is = let same : e ≡ f = cc in p ∙ ap (λ (x : Refusal). Err x) (q ∙ same)

-- what was told has its cause where the refusal has
pub told_cause : (words : List (List ℕ)) (known : Source) (input : Option (List ℕ)) (e told : Refusal) → (told ≡ e) ⊎ ((told ≡ refusal.Memory) × (has_values e ≡ true)) → IsRefused words known input e → IsRefused words known input told
told_cause words known input e told which h =
    ⊎_elim (λ same. subst (IsRefused words known input) (sym same) h) (λ memory. subst (IsRefused words known input) (sym memory.0) tt) which

no_values : has_values refusal.ReadFault ≡ true → ⊥
no_values h = cc

-- a fault of a read that was told has its own status
pub read_status : (e told : Refusal) (status : ℕ) → status ≡ status_of told → (told ≡ e) ⊎ ((told ≡ refusal.Memory) × (has_values e ≡ true)) → e ≡ refusal.ReadFault → status ≡ 6
read_status e told status is which read =
    ⊎_elim (λ same. is ∙ ap status_of (same ∙ read)) (λ memory. absurd (no_values (sym (ap has_values read) ∙ memory.1))) which

-- what an error was that is handed on
pub err_back : {T : Type 0} (r : Result T Refusal) (d e f : Refusal) → r ≡ Err d → d ≡ e → r ≡ Err f → e ≡ f
err_back r d e f p q is = let same : d ≡ f = cc in sym q ∙ same

read_of : (e : Refusal) → status_of e ≡ 6 → e ≡ refusal.ReadFault
read_of refusal.ReadFault is = refl
read_of refusal.WriteFault is = cc
read_of refusal.Memory is = cc
read_of refusal.Usage is = cc
read_of (refusal.Syntax file place) is = cc
read_of (refusal.Construct place name) is = cc
read_of (refusal.IllFormed function uid rule) is = cc
read_of (refusal.Limit which count) is = cc
read_of (refusal.Unmatched function uid stage insn) is = cc
read_of (refusal.Unsatisfied function uid form insn) is = cc
read_of (refusal.NotEquated function uid rule item left right) is = cc

-- a status 6 was that of a fault of a read
pub read_told : (e told : Refusal) (status : ℕ) → status ≡ status_of told → (told ≡ e) ⊎ ((told ≡ refusal.Memory) × (has_values e ≡ true)) → status ≡ 6 → e ≡ refusal.ReadFault
read_told e told status is which six =
    let read : told ≡ refusal.ReadFault = read_of told (sym is ∙ six) in
    ⊎_elim (λ same. sym same ∙ read) (λ memory. absurd (not_memory (sym read ∙ memory.0))) which
  where
    not_memory : refusal.ReadFault ≡ refusal.Memory → ⊥
    not_memory same = cc
