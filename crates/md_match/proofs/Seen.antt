-- Expressions behind references.
use Rattle.std.proofs.Common.{◌≡◌, ◌≤◌, ◌<◌, ℕ, List, map, length, get_or, Bor, sym, ap, subst, ◌∙◌}
use Rattle.std.proofs.lemmas.List.{get_or-map, length-map}
use Rattle.rtx_tree.specs.declared.tree.Rtx.{Rtx}

abbrev pub seen : List (Bor Rtx) → List Rtx
seen bs = map (λ (b : Bor Rtx). b.now) bs

pub seen_length : (bs : List (Bor Rtx)) → length (seen bs) ≡ length bs
seen_length bs = length-map bs (λ (b : Bor Rtx). b.now)

pub seen_other : (ps : List Rtx) (bs : List (Bor Rtx)) → (length ps ≡ length bs → ⊥) → length ps ≡ length (seen bs) → ⊥
seen_other ps bs other same = other (same ∙ seen_length bs)

pub seen_within : (bs : List (Bor Rtx)) (i : ℕ) → i < length bs → i < length (seen bs)
seen_within bs i h = subst (λ n. i < n) (sym (seen_length bs)) h

pub seen_end : (bs : List (Bor Rtx)) (i : ℕ) → length bs ≤ i → length (seen bs) ≤ i
seen_end bs i h = subst (λ n. n ≤ i) (sym (seen_length bs)) h

pub seen_at : (bs : List (Bor Rtx)) (i : ℕ) (b : Bor Rtx) → i < length bs → b ≡ get_or bs i b → b.now ≡ get_or (seen bs) i b.now
seen_at bs i b h e = ap (λ (b : Bor Rtx). b.now) e ∙ sym (get_or-map (λ (b : Bor Rtx). b.now) bs i b b.now h)
