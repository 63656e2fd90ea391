-- One read or write after another.
use Rattle.std.proofs.Common.{◌≡◌, ℕ, ◌-◌, ◌+◌, ◌≤◌, ◌<◌, List, ◌++◌, length, take, drop, Option, Some, None, Result, Ok, Err, sym, ap, ◌∙◌, append_assoc, arith, length-append, IfErr, IsErr, IsErrAnd}
use Rattle.std.proofs.lemmas.List.{take-append-drop, length-drop, length-take-le}
use Rattle.std.proofs.Math.Seq.{take-length}
use Rattle.std.specs.Io.KnownBytes.{Appends, Consumes}
use Rattle.byte_edge.specs.declared.source.ReadAll.{ReadAll}
use Rattle.byte_edge.specs.declared.source.ReadAll.TheVariants as read_all
use Rattle.byte_edge.specs.Reading.{StopsWithin}

pub appends_more : (old mid new : Option (List ℕ)) (xs ys : List ℕ) → Appends old mid xs → Appends mid new ys → Appends old new (xs ++ ys)
appends_more None mid new xs ys p q = tt
appends_more (Some a) None new xs ys p q = absurd p
appends_more (Some a) (Some b) None xs ys p q = absurd q
appends_more (Some a) (Some b) (Some c) xs ys p q = q ∙ ap (λ (z : List ℕ). z ++ ys) p ∙ append_assoc a xs ys

-- the rest is what is left behind n bytes
pub takes_more : (old mid new : Option (List ℕ)) (bytes rest : List ℕ) (n : ℕ) → ((front : List ℕ) × (bytes ≡ front ++ rest) × Appends old mid front) → Appends mid new (take n rest) →
    (front : List ℕ) × (bytes ≡ front ++ take (length rest - n) (drop n rest)) × Appends old new front
takes_more old mid new bytes rest n h q =
    let all : take (length rest - n) (drop n rest) ≡ drop n rest = ap (λ (k : ℕ). take k (drop n rest)) (sym (length-drop n rest)) ∙ take-length (drop n rest) in
    (h.0 ++ take n rest, h.1 ∙ ap (λ (z : List ℕ). h.0 ++ z) (sym (take-append-drop n rest)) ∙ sym (append_assoc h.0 (take n rest) (drop n rest)) ∙ ap (λ (z : List ℕ). (h.0 ++ take n rest) ++ z) (sym all), appends_more old mid new h.0 (take n rest) h.2 q)

pub consumes_more : (old mid new : Option (List ℕ)) (xs ys : List ℕ) → Consumes old mid xs → Consumes mid new ys → Consumes old new (xs ++ ys)
consumes_more None mid new xs ys p q = tt
consumes_more (Some a) None new xs ys p q = absurd p
consumes_more (Some a) (Some b) None xs ys p q = absurd q
consumes_more (Some a) (Some b) (Some c) xs ys p q = p ∙ ap (λ (z : List ℕ). xs ++ z) q ∙ sym (append_assoc xs ys c)

-- so many bytes were read behind those that were there
length-more : (bytes buf : List ℕ) (n : ℕ) → n ≤ length buf → length (bytes ++ take n buf) ≡ length bytes + n
length-more bytes buf n h = length-append bytes (take n buf) ∙ ap (λ (k : ℕ). length bytes + k) (length-take-le n buf h)

-- a read that goes past the limit
pub stops_past : (old mid new : Option (List ℕ)) (bytes buf : List ℕ) (n limit : ℕ) → Consumes old mid bytes → Consumes mid new (take n buf) → n ≤ length buf → limit < length bytes + n →
    StopsWithin old new limit read_all.TooLong
stops_past old mid new bytes buf n limit p q h over = (bytes ++ take n buf, consumes_more old mid new bytes (take n buf) p q, let e : _ = length-more bytes buf n h in omega arith)

-- a read within the limit, for whose bytes there is no memory
pub stops_short : {T : Type 0} (r : Result T ReadAll) (old mid new : Option (List ℕ)) (bytes buf : List ℕ) (n limit : ℕ) → IsErr r × IsErrAnd r (λ e. e ≡ read_all.Memory) →
    Consumes old mid bytes → Consumes mid new (take n buf) → n ≤ length buf → length bytes + n ≤ limit → IfErr r (StopsWithin old new limit)
stops_short (Ok x) old mid new bytes buf n limit e p q h under = tt
stops_short (Err refusal) old mid new bytes buf n limit e p q h under =
    rw e.1 (bytes ++ take n buf, consumes_more old mid new bytes (take n buf) p q, let e : _ = length-more bytes buf n h in omega arith)
