-- Functions have one image, or one size that is too large.
use Rattle.std.proofs.Common.{◌≡◌, ℕ, ◌*◌, Bool, List, [], ◌∷◌, ◌++◌, Ok, Err, refl, sym, ◌∙◌, ap, arith}
use Rattle.long_branches.proofs.Rounds.{least_is_one}
use Rattle.rtx_tree.specs.declared.machine.SymbolAt.{SymbolAt}
use Rattle.rv_unit.specs.Layout.{pieces_of}
use Rattle.rv_image.specs.Image.{AreLeast, sizes, entries_from, first_entry, words_with, IsImage, IsTooLong, IsOne}
use Rattle.rv_image.specs.declared.image.AssembleRefusal.TheVariants.{Limit, Memory}
use Rattle.rv_image.specs.declared.image.CodeUnit.{CodeUnit}
use Rattle.rv_image.specs.declared.image.Image.{Image}

-- the least sets of functions are one list
pub one_least : (units : List CodeUnit) (a b : List (List Bool)) → AreLeast units a → AreLeast units b → a ≡ b
one_least [] [] [] p q = refl
one_least [] [] (y ∷ b) p q = absurd q
one_least [] (x ∷ a) b p q = absurd p
one_least (unit ∷ units) [] b p q = absurd p
one_least (unit ∷ units) (x ∷ a) [] p q = absurd q
one_least (unit ∷ units) (x ∷ a) (y ∷ b) p q =
    ap (λ (l : List Bool). l ∷ a) (least_is_one (pieces_of unit.items) x y p.0 q.0) ∙ ap (λ (ls : List (List Bool)). y ∷ ls) (one_least units a b p.1 q.1)

abbrev image_with : List ℕ → List SymbolAt → List SymbolAt → Image
image_with words entries outside = record { words = words; entries = entries; outside = outside }

same_parts : (a b : Image) → a.words ≡ b.words → a.entries ≡ b.entries → a.outside ≡ b.outside → a ≡ b
same_parts a b words entries outside = λ i. image_with (words i) (entries i) (outside i)

-- so is the image
pub one_image : (units : List CodeUnit) (a b : Image) → IsImage units a → IsImage units b → a ≡ b
one_image units a b p q =
    let sets : p.sets ≡ q.sets = one_least units p.sets q.sets p.are_least q.are_least in
    let entries : a.entries ≡ b.entries = p.entries ∙ (ap (entries_from first_entry units) sets ∙ sym q.entries) in
    let outside : a.outside ≡ b.outside = p.outside ∙ sym q.outside in
    let symbols : a.entries ++ a.outside ≡ b.entries ++ b.outside =
    ap (λ (es : List SymbolAt). es ++ a.outside) entries ∙ ap (λ (os : List SymbolAt). b.entries ++ os) outside in
    let words : a.words ≡ b.words =
    p.words ∙ (ap (λ (ss : List SymbolAt). words_with ss units p.sets) symbols
    ∙ (ap (words_with (b.entries ++ b.outside) units) sets ∙ sym q.words)) in
    same_parts a b words entries outside

-- and the size
pub one_size : (units : List CodeUnit) (a b : ℕ) → IsTooLong units a → IsTooLong units b → a ≡ b
one_size units a b p q =
    p.size_is ∙ (ap (λ (sets : List (List Bool)). 4 * sizes units sets) (one_least units p.sets q.sets p.are_least q.are_least) ∙ sym q.size_is)

-- what is too long has no image
pub not_both : (units : List CodeUnit) (image : Image) (size : ℕ) → IsImage units image → IsTooLong units size → ⊥
not_both units image size p q =
    let same : 4 * sizes units p.sets ≡ 4 * sizes units q.sets =
    ap (λ (sets : List (List Bool)). 4 * sizes units sets) (one_least units p.sets q.sets p.are_least q.are_least) in
    omega (arith, same, p.within, q.size_is, q.more)

pub is_one : IsOne
is_one units (Ok a) (Ok b) h h' p q = ap (λ (image : Image). Ok image) (one_image units a b p q)
is_one units (Ok a) (Err (Limit size)) h h' p q = absurd (not_both units a size p q)
is_one units (Err (Limit size)) (Ok b) h h' p q = absurd (not_both units b size q p)
is_one units (Err (Limit m)) (Err (Limit n)) h h' p q = ap (λ (size : ℕ). Err (Limit size)) (one_size units m n p q)
is_one units (Ok a) (Err Memory) h h' p q = absurd (h' refl)
is_one units (Err Memory) b h h' p q = absurd (h refl)
is_one units (Err (Limit m)) (Err Memory) h h' p q = absurd (h' refl)
