-- There is one answer, and what it says of a text that was written.
use Rattle.std.proofs.Common.{◌≡◌, ℕ, List, arith, eqb, Bool, true, false, Option, Some, None, refl, sym, ap, subst, ◌∙◌, inl, inr, Ok}
use Rattle.std.proofs.lemmas.Bool.{eqb-true}
use Rattle.md_source.specs.Source.{Source}
use Rattle.md_list.proofs.Lists.{one_list}
use Rattle.func_input.specs.Outcome.{Outcome}
use Rattle.pass_name.specs.declared.road.Road.{Road}
use Rattle.rtlc_words.specs.declared.command.Told.TheVariants as telling
use Rattle.plain_text.proofs.Lines.{one as plain_one}
use Rattle.rtlc_words.specs.declared.command.Command.{Command}
use Rattle.rtlc_words.specs.declared.command.Command.TheVariants as commands
use Rattle.rtlc_words.specs.Words.{command_of}
use Rattle.rtlc_run.specs.Answer.{described, list_told, CommandComes, Answers, IsKnownFor, Writes, IsAnswered, status_of_answer}
use Rattle.rtlc_run.specs.Written.{WritesSame, WritesSameFramed, WritesWords, WritesText, HasText, IsDone}
use Rattle.rtlc_run.proofs.Described as described_by
use Rattle.rtlc_run.proofs.Described.{one_telling, one_summary, means, ends}

-- ---- the command

some_same : (o : Option Command) (c d : Command) → o ≡ Some c → o ≡ Some d → c ≡ d
some_same o c d p q = cc

none_some : (o : Option Command) (c : Command) → o ≡ None → o ≡ Some c → ⊥
none_some o c p q = cc

-- what words answer that are a command, the command comes to
comes_to : (words : List (List ℕ)) (known : Source) (input : Option (List ℕ)) (c : Command) (o : Outcome) → command_of words ≡ Some c → Answers words known input o → CommandComes known input c o
comes_to words known input c _ is (Answers.usage none) = absurd (none_some (command_of words) c none is)
comes_to words known input c _ is (Answers.spoken d o is' comes) = subst (λ (k : Command). CommandComes known input k o) (some_same (command_of words) d c is' is) comes

-- ---- there is one answer

one_command : (known : Source) (input : Option (List ℕ)) (c : Command) (a b : Outcome) → IsKnownFor known input (Some c) → CommandComes known input c a → CommandComes known input c b → a ≡ b
one_command known input (commands.Over name t) a b enough p q = one_telling t known input (described name) a b enough p q
one_command known None commands.Plain a b enough p q = absurd (let no : ⊥ = cc in no)
one_command known (Some bytes) commands.Plain a b enough p q = plain_one bytes a b p q
one_command known input (commands.Made name number) a b enough p q = one_summary number known (described name) a b enough p q
one_command known input (commands.Listed name) a b enough p q = p.2 ∙ ap list_told (one_list known (described name) p.0 q.0 enough p.1 q.1) ∙ sym q.2

pub one_answer : (words : List (List ℕ)) (known : Source) (input : Option (List ℕ)) (a b : Outcome) → IsKnownFor known input (command_of words) → Answers words known input a → Answers words known input b → a ≡ b
one_answer words known input _ _ enough (Answers.usage none) (Answers.usage none') = refl
one_answer words known input _ _ enough (Answers.usage none) (Answers.spoken c o is comes) = absurd (none_some (command_of words) c none is)
one_answer words known input _ _ enough (Answers.spoken c o is comes) (Answers.usage none) = absurd (none_some (command_of words) c none is)
one_answer words known input _ _ enough (Answers.spoken c o is comes) (Answers.spoken d o' is' comes') =
    one_command known input c o o' (subst (λ (k : Option Command). IsKnownFor known input k) is enough) comes
    (subst (λ (k : Command). CommandComes known input k o') (some_same (command_of words) d c is' is) comes')

-- ---- what was written

pub writes_text : (words : List (List ℕ)) (known : Source) (input old new : Option (List ℕ)) (c : Command) → command_of words ≡ Some c → Writes words known input old new → WritesText known c input old new
writes_text words known input old new c is h = (h.0, means known input c h.0 (comes_to words known input c (Ok h.0) is h.1), h.2)

pub writes_same : (words : List (List ℕ)) (known : Source) (input old new : Option (List ℕ)) (name : Option (List ℕ)) (road : Road) → command_of words ≡ Some (commands.Over name (telling.Lines road)) → Writes words known input old new → WritesSame input old new
writes_same words known input old new name road is h =
    let text = writes_text words known input old new (commands.Over name (telling.Lines road)) is h in described_by.writes_same known input old new name road text.0 text.1 text.2

pub writes_framed : (words : List (List ℕ)) (known : Source) (input old new : Option (List ℕ)) (name : Option (List ℕ)) (road : Road) → command_of words ≡ Some (commands.Over name (telling.Lines road)) → Writes words known input old new →
    WritesSameFramed known road (described name) input old new
writes_framed words known input old new name road is h =
    let text = writes_text words known input old new (commands.Over name (telling.Lines road)) is h in described_by.writes_framed known input old new name road text.0 text.1 text.2

pub writes_words : (words : List (List ℕ)) (known : Source) (input old new : Option (List ℕ)) (name : Option (List ℕ)) → command_of words ≡ Some (commands.Over name telling.Words) → Writes words known input old new → WritesWords input old new
writes_words words known input old new name is h =
    let text = writes_text words known input old new (commands.Over name telling.Words) is h in described_by.writes_words known input old new name text.0 text.1 text.2

-- ---- what ends with a text

decided : (status : ℕ) (b : Bool) → eqb status 8 ≡ b → ((status ≡ 8 → ⊥) → status ≡ 0) → IsDone status
decided status true e h = inr (eqb-true status 8 e)
decided status false e h = inl (h (λ same. not_both status same e))
  where
    not_both : (n : ℕ) → n ≡ 8 → eqb n 8 ≡ false → ⊥
    not_both n same e = grind arith

pub done : (words : List (List ℕ)) (known : Source) (c : Command) (input : Option (List ℕ)) (status : ℕ) (output output' errors errors' : Option (List ℕ)) (faults faults' : ℕ) → command_of words ≡ Some c → HasText known input c →
    ((status ≡ 8 → ⊥) → IsAnswered words known input status output output' errors errors' faults faults') → IsDone status
done words known c input status output output' errors errors' faults faults' is has h = decided status (eqb status 8) refl (λ other.
    let answer = h other in
    let end = ends known input c answer.0 has (comes_to words known input c answer.0 is answer.1) in
    answer.2.status_is ∙ ap status_of_answer end.1)
