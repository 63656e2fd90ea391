-- Where the words of a function's lines stand.
use Rattle.std.proofs.Common.{◌≡◌, ℕ, zero, suc, ◌+◌, ◌≤◌, Bool, true, false, if◌then◌else◌, List, [], ◌∷◌, ◌++◌, length, Some, option_map, refl, sym, ◌∙◌, ap, arith, add-one, append_assoc, length-append}
use Rattle.std.specs.Prelude.{slice_get}
use Rattle.std.proofs.lemmas.Option.{slice_get-map}
use Rattle.long_branches.specs.Branches.{is_long, width, place}
use Rattle.long_branches.proofs.Apart.{ordered}
use Rattle.rv_text.specs.declared.line.CodeItem.{CodeItem}
use Rattle.rv_text.specs.declared.line.CodeItem.TheVariants.{Label, Code}
use Rattle.rv_line.specs.Run.{is_label, behind_label}
use Rattle.rv_word.specs.declared.base.Base.{Base}
use Rattle.rv_unit.specs.Layout.{item_piece, label_at, lead_of, pieces_of}
use Rattle.rv_unit.specs.Words.{Placed, bases_from, item_bases}
use Rattle.words_run.proofs.Fill.{fills_from, item_fills}

-- where an item begins, in words
abbrev pub word_place : Placed → ℕ → ℕ
word_place unit n = place (pieces_of unit.items) unit.longs n

-- ---- items behind others

get_past : {X : Type 0} (front rest : List X) (k i : ℕ) → i ≡ length front + k → slice_get (front ++ rest) i ≡ slice_get rest k
get_past [] rest k i is = let same : i ≡ k = omega (arith, is) in ap (slice_get rest) same
get_past (x ∷ front) rest k zero is = absurd (omega (arith, is))
get_past (x ∷ front) rest k (suc i) is = get_past front rest k i (omega (arith, is))

pub item_at : {X : Type 0} (items front rest : List X) (x : X) → items ≡ front ++ x ∷ rest → slice_get items (length front) ≡ Some x
item_at items front rest x split =
    ap (λ xs. slice_get xs (length front)) split ∙ get_past front (x ∷ rest) 0 (length front) (omega arith)

bases_append : (unit : Placed) (xs ys : List CodeItem) (at : ℕ) → bases_from unit at (xs ++ ys) ≡ bases_from unit at xs ++ bases_from unit (at + length xs) ys
bases_append unit [] ys at = let same : at ≡ at + 0 = omega arith in ap (λ n. bases_from unit n ys) same
bases_append unit (x ∷ xs) ys at =
    let same : at + 1 + length xs ≡ at + suc (length xs) = omega arith in
    ap (λ bs. item_bases unit at x ++ bs) (bases_append unit xs ys (at + 1))
    ∙ (ap (λ n. item_bases unit at x ++ (bases_from unit (at + 1) xs ++ bases_from unit n ys)) same
    ∙ sym (append_assoc (item_bases unit at x) (bases_from unit (at + 1) xs) (bases_from unit (at + suc (length xs)) ys)))

-- the words before an item, its own, and those behind it
pub record Stands (unit : Placed) (n : ℕ) (item : CodeItem) : Type 0 where
  pub before : List Base
  pub after : List Base
  pub split : bases_from unit 0 unit.items ≡ before ++ (item_bases unit n item ++ after)
  pub size : length before ≡ word_place unit n
  pub next : word_place unit (n + 1) ≡ word_place unit n + length (item_bases unit n item)
  pub within : word_place unit (n + 1) ≤ word_place unit (length unit.items)

module _ (unit : Placed) (front rest : List CodeItem) (item : CodeItem) (split : unit.items ≡ front ++ item ∷ rest) where
  counted : length unit.items ≡ length front + suc (length rest)
  counted = ap (λ (xs : List CodeItem). length xs) split ∙ length-append front (item ∷ rest)

  behind : (k : ℕ) → slice_get (item ∷ rest) k ≡ slice_get unit.items (length front + k)
  behind k = sym (ap (λ xs. slice_get xs (length front + k)) split ∙ get_past front (item ∷ rest) k (length front + k) refl)

  all_behind : (k : ℕ) → slice_get unit.items k ≡ slice_get unit.items (0 + k)
  all_behind k = let same : k ≡ 0 + k = omega arith in ap (slice_get unit.items) same

  parted : bases_from unit 0 unit.items ≡ bases_from unit 0 front ++ bases_from unit (length front) (item ∷ rest)
  parted =
      let same : 0 + length front ≡ length front = omega arith in
      ap (bases_from unit 0) split ∙ (bases_append unit front (item ∷ rest) 0 ∙ ap (λ n. bases_from unit 0 front ++ bases_from unit n (item ∷ rest)) same)

  sized : length (bases_from unit 0 front) ≡ word_place unit (length front)
  sized =
      let whole = fills_from unit unit.items 0 all_behind in
      let tail = fills_from unit (item ∷ rest) (length front) behind in
      let ends : word_place unit (0 + length unit.items) ≡ word_place unit (length front + length (item ∷ rest)) =
      (let same : 0 + length unit.items ≡ length front + suc (length rest) = omega (arith, counted) in ap (word_place unit) same) in
      let parts = length-append (bases_from unit 0 front) (bases_from unit (length front) (item ∷ rest)) in
      let sum = ap (λ (bs : List Base). length bs) parted in
      omega (arith, whole, tail, ends, parts, sum)

  stepped : word_place unit (length front + 1) ≡ word_place unit (length front) + length (item_bases unit (length front) item)
  stepped =
      let here : slice_get unit.items (length front) ≡ Some item = item_at unit.items front rest item split in
      let piece : slice_get (pieces_of unit.items) (length front) ≡ Some (item_piece item (lead_of unit.items item)) =
      slice_get-map (λ x. item_piece x (lead_of unit.items x)) unit.items (length front) ∙ ap (option_map (λ x. item_piece x (lead_of unit.items x))) here in
      ap (word_place unit) (add-one (length front)) ∙ ap (λ w. word_place unit (length front) + w) (ap (λ p. width p (is_long unit.longs (length front))) piece ∙ sym (item_fills unit (length front) item (lead_of unit.items item)))

  pub stands : Stands unit (length front) item
  stands = record {
    before = bases_from unit 0 front;
    after = bases_from unit (length front + 1) rest;
    split = parted;
    size = sized;
    next = stepped;
    within = ordered (pieces_of unit.items) unit.longs (length front + 1) (length unit.items) (omega (arith, counted));
  }

-- ---- labels

-- a label stands between some items and others, and has no words
pub record Found (target : List ℕ) (items rest : List CodeItem) : Type 0 where
  pub front : List CodeItem
  pub function : ℕ
  pub uid : ℕ
  pub split : items ≡ front ++ Label function uid ∷ rest
  pub at : label_at target items ≡ Some (length front)

pub found_label : (target : List ℕ) (items rest : List CodeItem) → behind_label target items ≡ Some rest → Found target items rest
found_label target [] rest is = cc
found_label target (Code line ∷ items) rest is =
    let found = found_label target items rest is in
    record {
      front = Code line ∷ found.front;
      function = found.function;
      uid = found.uid;
      split = ap (λ xs. Code line ∷ xs) found.split;
      at = ap (option_map (λ n. n + 1)) found.at ∙ ap Some (add-one (length found.front));
    }
found_label target (Label function uid ∷ items) rest is = by (is_label target (Label function uid)) refl is (found_label target items rest)
  where
    by : (b : Bool) → is_label target (Label function uid) ≡ b → (if b then Some items else behind_label target items) ≡ Some rest → (behind_label target items ≡ Some rest → Found target items rest) → Found target (Label function uid ∷ items) rest
    by true e some left =
        let same : items ≡ rest = cc in
        record { front = []; function = function; uid = uid; split = ap (λ xs. Label function uid ∷ xs) same; at = ap (λ t. if t then Some 0 else option_map (λ n. n + 1) (label_at target items)) e }
    by false e some left =
        let found = left some in
        record {
          front = Label function uid ∷ found.front;
          function = found.function;
          uid = found.uid;
          split = ap (λ xs. Label function uid ∷ xs) found.split;
          at = ap (λ t. if t then Some 0 else option_map (λ n. n + 1) (label_at target items)) e ∙ (ap (option_map (λ n. n + 1)) found.at ∙ ap Some (add-one (length found.front)));
        }
