-- What is read of the file of a name, where its text is known.
use Rattle.std.proofs.Common.{◌≡◌, ℕ, List, Option, Some, Ok, Err, Bool, true, false, sym, ap, subst, ◌∙◌, cond}
use Rattle.std.specs.Str.{bytes_eq}
use Rattle.rv_target.specs.Shipped.{shipped_text}
use Rattle.md_source.specs.declared.refusal.SourceRefusal.TheVariants as refusal
use Rattle.md_source.specs.Source.{Source, Outcome, shipped_name, text_of}
use Rattle.md_source.specs.Answers.{Agrees, Gives}
use Rattle.md_source.specs.machine.Steps.{TextReads, FileReads}

same_text : (a b : List ℕ) → ◌≡◌ {A = Option (List ℕ)} (Some a) (Some b) → a ≡ b
same_text a b e = cc

-- the text of the shipped description is known
shipped_is : (source : Source) (name text : List ℕ) → bytes_eq name shipped_name ≡ true → text_of source name ≡ Some text → shipped_text ≡ text
shipped_is source name text test known = same_text shipped_text text (sym (ap (λ (b : Bool). cond b (Some shipped_text) (source name)) test) ∙ known)

-- that of another name is known by what is known of the files
pub elsewhere : (source : Source) (name : List ℕ) → bytes_eq name shipped_name ≡ false → text_of source name ≡ source name
elsewhere source name test = ap (λ (b : Bool). cond b (Some shipped_text) (source name)) test

-- what was read of the one text that a name may have
gives_file : (source : Source) (used : ℕ) (name text : List ℕ) (r : Outcome) → ((t : List ℕ) → text_of source name ≡ Some t → text ≡ t) → Gives r (TextReads name used text) → Gives r (FileReads source used name)
gives_file source used name text (Ok read) is h = λ t known. subst (λ (t : List ℕ). TextReads name used t (Ok read)) (is t known) h
gives_file source used name text (Err (refusal.Syntax file place)) is h = λ t known. subst (λ (t : List ℕ). TextReads name used t (Err (refusal.Syntax file place))) (is t known) h
gives_file source used name text (Err refusal.Depth) is h = λ t known. subst (λ (t : List ℕ). TextReads name used t (Err refusal.Depth)) (is t known) h
gives_file source used name text (Err refusal.Text) is h = λ t known. subst (λ (t : List ℕ). TextReads name used t (Err refusal.Text)) (is t known) h
gives_file source used name text (Err refusal.Include) is h = absurd h
gives_file source used name text (Err refusal.ReadFault) is h = tt
gives_file source used name text (Err refusal.Memory) is h = tt

pub reads_shipped : (source : Source) (used : ℕ) (name text : List ℕ) (r : Outcome) → bytes_eq name shipped_name ≡ true → text ≡ shipped_text → Gives r (TextReads name used text) → Gives r (FileReads source used name)
reads_shipped source used name text r same is h = gives_file source used name text r (λ t known. is ∙ shipped_is source name t same known) h

pub reads_fetched : (source : Source) (holds : List ℕ → List ℕ → Type 0) (used : ℕ) (name text : List ℕ) (r : Outcome) → Agrees source holds → bytes_eq name shipped_name ≡ false →
    ((t : List ℕ) → holds name t → text ≡ t) → Gives r (TextReads name used text) → Gives r (FileReads source used name)
reads_fetched source holds used name text r agrees other is h = gives_file source used name text r (λ t known. is t (agrees name t (sym (elsewhere source name other) ∙ known))) h
