-- What a command comes to, from what reading and listing gave.
use Rattle.std.proofs.Common.{◌≡◌, ℕ, ◌++◌, List, [], Result, Ok, Err, Option, Some, None, Vec, refl, sym, ap, subst, ◌∙◌}
use Rattle.std.specs.Prelude.{IfSome, IsSome}
use Rattle.std.specs.declared.alloc.Global.{Global}
use Rattle.std.proofs.lemmas.List.{append-nil}
use Rattle.std.specs.Io.KnownBytes.{Consumes, IsAtEnd}
use Rattle.run_refusal.specs.declared.refusal.Refusal.{Refusal}
use Rattle.run_refusal.specs.declared.refusal.Refusal.TheVariants as refusal
use Rattle.md_source.specs.declared.refusal.SourceRefusal.TheVariants as source
use Rattle.md_source.specs.Source.{Source}
use Rattle.md_source.specs.Asked.{AreNamed, GrewBy}
use Rattle.md_source.specs.Answers.{Agrees}
use Rattle.md_list.specs.declared.refusal.ListRefusal.{ListRefusal}
use Rattle.md_list.specs.declared.refusal.ListRefusal.TheVariants as listing
use Rattle.md_list.specs.Listing.{ListComes}
use Rattle.md_list.specs.Answers.{Gives as GivesList}
use Rattle.func_input.specs.Outcome.{Outcome}
use Rattle.func_input.specs.Outcome.{Gives as GivesText}
use Rattle.rtlc_words.specs.declared.command.Command.{Command}
use Rattle.rtlc_words.specs.declared.command.Command.TheVariants as commands
use Rattle.rtlc_words.specs.Words.{command_of}
use Rattle.rtlc_run.specs.Answer.{described, list_refused, CommandComes, Answers, MayBeAsked, ReadFails, IsRefused}
use Rattle.rtlc_run.specs.machine.Steps.{Gives, InputRefused, IsOwn}

-- what was produced has any property that follows
pub gives_map : (r : Result (Vec ℕ Global) Refusal) (P Q : Outcome → Type 0) → ((o : Outcome) → P o → Q o) → Gives r P → Gives r Q
gives_map (Ok text) P Q follows h = follows (Ok text.items) h
gives_map (Err refusal.Memory) P Q follows h = tt
gives_map (Err refusal.ReadFault) P Q follows h = tt
gives_map (Err refusal.WriteFault) P Q follows h = absurd h
gives_map (Err refusal.Usage) P Q follows h = follows (Err refusal.Usage) h
gives_map (Err (refusal.Syntax file place)) P Q follows h = follows (Err (refusal.Syntax file place)) h
gives_map (Err (refusal.Construct place name)) P Q follows h = follows (Err (refusal.Construct place name)) h
gives_map (Err (refusal.IllFormed function uid rule)) P Q follows h = follows (Err (refusal.IllFormed function uid rule)) h
gives_map (Err (refusal.Limit which count)) P Q follows h = follows (Err (refusal.Limit which count)) h
gives_map (Err (refusal.Unmatched function uid stage insn)) P Q follows h = follows (Err (refusal.Unmatched function uid stage insn)) h
gives_map (Err (refusal.Unsatisfied function uid form insn)) P Q follows h = follows (Err (refusal.Unsatisfied function uid form insn)) h
gives_map (Err (refusal.NotEquated function uid rule item left right)) P Q follows h = follows (Err (refusal.NotEquated function uid rule item left right)) h

-- so has what was told
pub gives_text : (r : Result (Vec ℕ Global) Refusal) (P Q : Outcome → Type 0) → ((o : Outcome) → P o → Q o) → GivesText r P → Gives r Q
gives_text (Ok text) P Q follows h = follows (Ok text.items) h
gives_text (Err refusal.Memory) P Q follows h = tt
gives_text (Err refusal.Usage) P Q follows h = absurd h
gives_text (Err refusal.ReadFault) P Q follows h = tt
gives_text (Err refusal.WriteFault) P Q follows h = absurd h
gives_text (Err (refusal.Syntax file place)) P Q follows h = follows (Err (refusal.Syntax file place)) h
gives_text (Err (refusal.Construct place name)) P Q follows h = follows (Err (refusal.Construct place name)) h
gives_text (Err (refusal.IllFormed function uid rule)) P Q follows h = follows (Err (refusal.IllFormed function uid rule)) h
gives_text (Err (refusal.Limit which count)) P Q follows h = follows (Err (refusal.Limit which count)) h
gives_text (Err (refusal.Unmatched function uid stage insn)) P Q follows h = follows (Err (refusal.Unmatched function uid stage insn)) h
gives_text (Err (refusal.Unsatisfied function uid form insn)) P Q follows h = follows (Err (refusal.Unsatisfied function uid form insn)) h
gives_text (Err (refusal.NotEquated function uid rule item left right)) P Q follows h = follows (Err (refusal.NotEquated function uid rule item left right)) h

-- ---- the input

-- what was read to the end is what was there
all_read : (all rest bytes : List ℕ) → all ≡ bytes ++ rest → rest ≡ [] → all ≡ bytes
all_read all rest bytes e none = e ∙ ap (λ (z : List ℕ). bytes ++ z) none ∙ append-nil bytes

-- of what was read to the end, what holds of the bytes read holds of those that were left
pub of_input : (P : List ℕ → Type 0) (old new : Option (List ℕ)) (bytes : List ℕ) → Consumes old new bytes × IsAtEnd new → P bytes → IfSome old P
of_input P None new bytes h p = tt
of_input P (Some all) None bytes h p = absurd h.0
of_input P (Some all) (Some rest) bytes h p = subst P (sym (all_read all rest bytes h.0 h.1)) p

-- ---- refusals that a command does not give

pub unread_is_own : (left : Option (List ℕ)) (e : Refusal) → InputRefused left e → IsOwn (Err e)
unread_is_own left refusal.Usage h = absurd h
unread_is_own left refusal.WriteFault h = absurd h
unread_is_own left refusal.Memory h = (λ is. cc, λ is. cc)
unread_is_own left refusal.ReadFault h = (λ is. cc, λ is. cc)
unread_is_own left (refusal.Limit which count) h = (λ is. cc, λ is. cc)
unread_is_own left _ h = absurd h

pub told_is_own : (P : Outcome → Type 0) (r : Result (Vec ℕ Global) Refusal) → GivesText r P → IsOwn r
told_is_own P (Ok text) h = (λ is. cc, λ is. cc)
told_is_own P (Err refusal.Usage) h = absurd h
told_is_own P (Err refusal.WriteFault) h = absurd h
told_is_own P (Err refusal.ReadFault) h = absurd h
told_is_own P (Err refusal.Memory) h = (λ is. cc, λ is. cc)
told_is_own P (Err (refusal.Syntax file place)) h = (λ is. cc, λ is. cc)
told_is_own P (Err (refusal.Construct place name)) h = (λ is. cc, λ is. cc)
told_is_own P (Err (refusal.IllFormed function uid rule)) h = (λ is. cc, λ is. cc)
told_is_own P (Err (refusal.Limit which count)) h = (λ is. cc, λ is. cc)
told_is_own P (Err (refusal.Unmatched function uid stage insn)) h = (λ is. cc, λ is. cc)
told_is_own P (Err (refusal.Unsatisfied function uid form insn)) h = (λ is. cc, λ is. cc)
told_is_own P (Err (refusal.NotEquated function uid rule item left right)) h = (λ is. cc, λ is. cc)

own_listing : (e : ListRefusal) → IsOwn (Err (list_refused e))
own_listing (listing.Source (source.Syntax file place)) = (λ is. cc, λ is. cc)
own_listing (listing.Source source.Depth) = (λ is. cc, λ is. cc)
own_listing (listing.Source source.Include) = (λ is. cc, λ is. cc)
own_listing (listing.Source source.Text) = (λ is. cc, λ is. cc)
own_listing (listing.Source source.ReadFault) = (λ is. cc, λ is. cc)
own_listing (listing.Source source.Memory) = (λ is. cc, λ is. cc)
own_listing listing.Forms = (λ is. cc, λ is. cc)
own_listing listing.Memory = (λ is. cc, λ is. cc)

pub listing_is_own : (e : ListRefusal) (told : Refusal) → told ≡ list_refused e → IsOwn (Err told)
listing_is_own e told is = subst (λ (r : Refusal). IsOwn (Err r)) (sym is) (own_listing e)

pub told_read : (P : Outcome → Type 0) (r : Result (Vec ℕ Global) Refusal) → GivesText r P → r ≡ Err refusal.ReadFault → ⊥
told_read P r h is = subst (λ (x : Result (Vec ℕ Global) Refusal). GivesText x P) is h

-- ---- descriptions

list_refuses : (known : Source) (input : Option (List ℕ)) (name : Option (List ℕ)) (e : ListRefusal) → GivesList (ListComes known (described name)) (Err e) → Gives (Err (list_refused e)) (CommandComes known input (commands.Listed name))
list_refuses known input name (listing.Source (source.Syntax file place)) h = ((Err (listing.Source (source.Syntax file place))), h, refl)
list_refuses known input name (listing.Source source.Depth) h = ((Err (listing.Source source.Depth)), h, refl)
list_refuses known input name (listing.Source source.Include) h = ((Err (listing.Source source.Include)), h, refl)
list_refuses known input name (listing.Source source.Text) h = ((Err (listing.Source source.Text)), h, refl)
list_refuses known input name (listing.Source source.ReadFault) h = tt
list_refuses known input name (listing.Source source.Memory) h = tt
list_refuses known input name listing.Forms h = ((Err listing.Forms), h, refl)
list_refuses known input name listing.Memory h = tt

-- what refused the list refuses the command
pub list_unproduced : (known : Source) (input : Option (List ℕ)) (name : Option (List ℕ)) (e : ListRefusal) (told : Refusal) → told ≡ list_refused e → GivesList (ListComes known (described name)) (Err e) → Gives (Err told) (CommandComes known input (commands.Listed name))
list_unproduced known input name e told is h = subst (λ (r : Refusal). Gives (Err r) (CommandComes known input (commands.Listed name))) (sym is) (list_refuses known input name e h)

-- ---- words

-- what their command comes to, words come to
pub words_produced : (words : List (List ℕ)) (known : Source) (input : Option (List ℕ)) (c : Command) (r : Result (Vec ℕ Global) Refusal) → command_of words ≡ Some c → Gives r (CommandComes known input c) → Gives r (Answers words known input)
words_produced words known input c r is h = gives_map r (CommandComes known input c) (Answers words known input) (λ o comes. Answers.spoken c o is comes) h

-- what was produced as a refusal has its cause
pub refused_has_cause : (words : List (List ℕ)) (known : Source) (input : Option (List ℕ)) (e : Refusal) → Gives (Err e) (Answers words known input) → IsRefused words known input e
refused_has_cause words known input refusal.Memory h = tt
refused_has_cause words known input refusal.ReadFault h = tt
refused_has_cause words known input refusal.WriteFault h = tt
refused_has_cause words known input refusal.Usage h = h
refused_has_cause words known input (refusal.Syntax file place) h = h
refused_has_cause words known input (refusal.Construct place name) h = h
refused_has_cause words known input (refusal.IllFormed function uid rule) h = h
refused_has_cause words known input (refusal.Limit which count) h = h
refused_has_cause words known input (refusal.Unmatched function uid stage insn) h = h
refused_has_cause words known input (refusal.Unsatisfied function uid form insn) h = h
refused_has_cause words known input (refusal.NotEquated function uid rule item left right) h = h

-- ---- what was asked

may_ask_nothing : (known : Source) (c : Option Command) → MayBeAsked known c []
may_ask_nothing known None = refl
may_ask_nothing known (Some (commands.Over name t)) = AreNamed.none
may_ask_nothing known (Some commands.Plain) = refl
may_ask_nothing known (Some (commands.Listed name)) = AreNamed.none
may_ask_nothing known (Some (commands.Made name number)) = AreNamed.none

pub nothing_asked : (known : Source) (c : Option Command) (asked : Option (List (List ℕ))) → GrewBy (MayBeAsked known c) asked asked
nothing_asked known c None = tt
nothing_asked known c (Some names) = ([], sym (append-nil names), may_ask_nothing known c)

-- ---- faults

-- a fault was told of the files of a list
listing_fault : (e : ListRefusal) → list_refused e ≡ refusal.ReadFault → e ≡ listing.Source source.ReadFault
listing_fault (listing.Source source.ReadFault) is = refl
listing_fault (listing.Source (source.Syntax file place)) is = cc
listing_fault (listing.Source source.Depth) is = cc
listing_fault (listing.Source source.Include) is = cc
listing_fault (listing.Source source.Text) is = cc
listing_fault (listing.Source source.Memory) is = cc
listing_fault listing.Forms is = cc
listing_fault listing.Memory is = cc

pub listing_failed : (e : ListRefusal) (told : Refusal) → told ≡ list_refused e → ◌≡◌ {A = Result (Vec ℕ Global) Refusal} (Err told) (Err refusal.ReadFault) →
    ◌≡◌ {A = Result (Vec ℕ Global) ListRefusal} (Err e) (Err (listing.Source source.ReadFault))
listing_failed e told is read = ap (λ (r : ListRefusal). Err r) (listing_fault e (let same : told ≡ refusal.ReadFault = cc in sym is ∙ same))

-- a read that fails for a command fails for its words
pub words_fail : (words : List (List ℕ)) (known : Source) (faults faults' input input' : ℕ) (asked asked' : Option (List (List ℕ))) (c : Command) → command_of words ≡ Some c → ReadFails known faults faults' input input' asked asked' (Some c) →
    ReadFails known faults faults' input input' asked asked' (command_of words)
words_fail words known faults faults' input input' asked asked' c is h = subst (ReadFails known faults faults' input input' asked asked') (sym is) h

-- a read fails for words only that are a command
pub fails_spoken : (known : Source) (faults faults' input input' : ℕ) (asked asked' : Option (List (List ℕ))) (o : Option Command) → ReadFails known faults faults' input input' asked asked' o → IsSome o
fails_spoken known faults faults' input input' asked asked' _ (ReadFails.of_input name t forms come rose same) = refl
fails_spoken known faults faults' input input' asked asked' _ (ReadFails.of_plain rose same) = refl
fails_spoken known faults faults' input input' asked asked' _ (ReadFails.of_files c reads asks rose same) = refl

-- ---- what is known of files

-- where nothing is known of files
abbrev pub nothing_known : Source
nothing_known name = None

pub nothing_agrees : (holds : List ℕ → List ℕ → Type 0) → Agrees nothing_known holds
nothing_agrees holds name text is = absurd (let none : ⊥ = cc in none)
