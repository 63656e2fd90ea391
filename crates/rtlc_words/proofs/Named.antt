-- A name that is no command's.
use Rattle.std.proofs.Common.{◌≡◌, ℕ, false, List, Option, None, refl, sym, codes, bytes_eq}
use Rattle.rtlc_words.specs.Words.{command_by}
use Rattle.rtlc_words.proofs.Texts.{other_text}

other : (row name : List ℕ) → (name ≡ row → ⊥) → bytes_eq row name ≡ false
other row name differ = other_text row name (λ same. differ (sym same))

pub named_none : (name : List ℕ) (description : Option (List ℕ)) (words : List (List ℕ)) →
    (name ≡ codes "asm" → ⊥) → (name ≡ codes "list" → ⊥) → (name ≡ codes "recog" → ⊥) → (name ≡ codes "dump" → ⊥) → (name ≡ codes "eval" → ⊥) → (name ≡ codes "make" → ⊥) → (name ≡ codes "image" → ⊥) → (name ≡ codes "reuse" → ⊥) → (name ≡ codes "schedule" → ⊥) → (name ≡ codes "cycles" → ⊥) → (name ≡ codes "plain" → ⊥) →
    None ≡ command_by name description words
named_none name description words asm list recog dump eval make image reuse schedule cycles plain =
    rw (other (codes "asm") name asm, other (codes "list") name list, other (codes "recog") name recog, other (codes "dump") name dump, other (codes "eval") name eval, other (codes "make") name make, other (codes "image") name image, other (codes "reuse") name reuse, other (codes "schedule") name schedule, other (codes "cycles") name cycles, other (codes "plain") name plain) refl
