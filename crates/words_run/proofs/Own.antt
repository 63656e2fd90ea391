-- The words at a function's entry are its own.
use Rattle.std.proofs.Common.{◌≡◌, ℕ, ◌+◌, ◌-◌, ◌*◌, ◌<◌, ◌≤◌, Bool, true, false, nat_lt, if◌then◌else◌, List, [], ◌∷◌, ◌++◌, length, take, drop, refl, sym, ◌∙◌, ap, arith, append_assoc}
use Rattle.std.proofs.Math.Seq.{take-append_seam, drop-append_seam}
use Rattle.std.proofs.lemmas.Bool.Decides.{nat_tests}
use Rattle.rtx_tree.specs.declared.machine.SymbolAt.{SymbolAt}
use Rattle.rv_unit.specs.Words.{words_of}
use Rattle.rv_image.specs.Image.{entries_from, first_entry, size_of, sizes, words_with}
use Rattle.rv_image.specs.declared.image.CodeUnit.{CodeUnit}
use Rattle.rv_image.specs.declared.image.Image.{Image}
use Rattle.words_run.specs.Run.{end_behind, own_words, words_before}
use Rattle.words_run.proofs.Fill.{image_fills, words_fill}

less : (m n : ℕ) → m < n → nat_lt m n ≡ true
less m n h = grind (arith, nat_tests)

not_less : (m n : ℕ) → n ≤ m → nat_lt m n ≡ false
not_less m n h = grind (arith, nat_tests)

-- an entry that is not behind is passed over, and one that is behind is the end
passed : (address : ℕ) (symbol : SymbolAt) (symbols : List SymbolAt) (end : ℕ) → symbol.address ≤ address → end_behind address (symbol ∷ symbols) end ≡ end_behind address symbols end
passed address symbol symbols end h =
    ap (λ b. if b then symbol.address else end_behind address symbols end) (not_less address symbol.address h)

found : (address : ℕ) (symbol : SymbolAt) (symbols : List SymbolAt) (end : ℕ) → address < symbol.address → end_behind address (symbol ∷ symbols) end ≡ symbol.address
found address symbol symbols end h =
    ap (λ b. if b then symbol.address else end_behind address symbols end) (less address symbol.address h)

-- the first function behind an address, or the end of all
first_behind : (address from end : ℕ) (units : List CodeUnit) (sets : List (List Bool)) → address < from → end ≡ from + 4 * sizes units sets → end_behind address (entries_from from units sets) end ≡ from
first_behind address from end [] sets behind end_is = omega (arith, end_is)
first_behind address from end (unit ∷ units) [] behind end_is = omega (arith, end_is)
first_behind address from end (unit ∷ units) (longs ∷ sets) behind end_is =
    found address (record { name = unit.name; address = from }) (entries_from (from + 4 * size_of unit.items longs) units sets) end behind

-- functions before, one of at least one word, and functions behind it
pub end_is : (front : List CodeUnit) (unit : CodeUnit) (back : List CodeUnit) (before : List (List Bool)) (longs : List Bool) (after : List (List Bool)) (from address end : ℕ) → length front ≡ length before → 0 < size_of unit.items longs → address ≡ from + 4 * sizes front before → end ≡ from + 4 * sizes (front ++ unit ∷ back) (before ++ longs ∷ after) →
    end_behind address (entries_from from (front ++ unit ∷ back) (before ++ longs ∷ after)) end ≡ address + 4 * size_of unit.items longs
end_is [] unit back [] longs after from address end same some address_is end_is_at =
    let next = from + 4 * size_of unit.items longs in
    passed address (record { name = unit.name; address = from }) (entries_from next back after) end (omega (arith, address_is))
    ∙ (first_behind address next end back after (omega (arith, address_is, some)) (omega (arith, end_is_at)) ∙ omega (arith, address_is))
end_is [] unit back (x ∷ before) longs after from address end same some address_is end_is_at = absurd (omega (arith, same))
end_is (u ∷ front) unit back [] longs after from address end same some address_is end_is_at = absurd (omega (arith, same))
end_is (u ∷ front) unit back (x ∷ before) longs after from address end same some address_is end_is_at =
    let next = from + 4 * size_of u.items x in
    passed address (record { name = u.name; address = from }) (entries_from next (front ++ unit ∷ back) (before ++ longs ∷ after)) end (omega (arith, address_is))
    ∙ end_is front unit back before longs after next address end (omega (arith, same)) some (omega (arith, address_is)) (omega (arith, end_is_at))

-- the words of all are those before, the function's own, and those behind
pub words_split : (symbols : List SymbolAt) (front : List CodeUnit) (unit : CodeUnit) (back : List CodeUnit) (before : List (List Bool)) (longs : List Bool) (after : List (List Bool)) → length front ≡ length before → words_with symbols (front ++ unit ∷ back) (before ++ longs ∷ after) ≡ words_with symbols front before ++ (words_of (record { items = unit.items; longs = longs; symbols = symbols }) ++ words_with symbols back after)
words_split symbols [] unit back [] longs after same = refl
words_split symbols [] unit back (x ∷ before) longs after same = absurd (omega (arith, same))
words_split symbols (u ∷ front) unit back [] longs after same = absurd (omega (arith, same))
words_split symbols (u ∷ front) unit back (x ∷ before) longs after same =
    let own : List ℕ = words_of (record { items = u.items; longs = x; symbols = symbols }) in
    ap (λ ws. own ++ ws) (words_split symbols front unit back before longs after (omega (arith, same))) ∙ sym (append_assoc own (words_with symbols front before) (words_of (record { items = unit.items; longs = longs; symbols = symbols }) ++ words_with symbols back after))

seam : (front own back xs : List ℕ) (m n : ℕ) → xs ≡ front ++ (own ++ back) → m ≡ length front → n ≡ length own → take n (drop m xs) ≡ own
seam front own back xs m n xs_is m_is n_is =
    ap (λ ys. take n (drop m ys)) xs_is ∙ (ap (λ k. take n (drop k (front ++ (own ++ back)))) m_is
    ∙ (ap (λ ys. take n ys) (drop-append_seam front (own ++ back)) ∙ (ap (λ k. take k (own ++ back)) n_is ∙ take-append_seam own back)))

module _ (image : Image) (symbols : List SymbolAt) (front : List CodeUnit) (unit : CodeUnit) (back : List CodeUnit) (before : List (List Bool)) (longs : List Bool) (after : List (List Bool)) where
  -- a function of at least one word has its own words at its entry
  pub own_are : image.entries ≡ entries_from first_entry (front ++ unit ∷ back) (before ++ longs ∷ after) → image.words ≡ words_with symbols (front ++ unit ∷ back) (before ++ longs ∷ after) → length front ≡ length before → 0 < size_of unit.items longs → (address : ℕ) → address ≡ first_entry + 4 * sizes front before → own_words image address ≡ words_of (record { items = unit.items; longs = longs; symbols = symbols })
  own_are entries_are words_are same some address address_is =
      let own : List ℕ = words_of (record { items = unit.items; longs = longs; symbols = symbols }) in
      let all : length image.words ≡ sizes (front ++ unit ∷ back) (before ++ longs ∷ after) =
      ap (λ (ws : List ℕ). length ws) words_are ∙ image_fills symbols (front ++ unit ∷ back) (before ++ longs ∷ after) in
      let end : ℕ = first_entry + 4 * length image.words in
      let stop : end_behind address image.entries end ≡ address + 4 * size_of unit.items longs =
      ap (λ es. end_behind address es end) entries_are ∙ end_is front unit back before longs after first_entry address end same some address_is (ap (λ n. first_entry + 4 * n) all) in
      let first : words_before address ≡ length (words_with symbols front before) =
      counted (sizes front before) address address_is ∙ sym (image_fills symbols front before) in
      let last : words_before (end_behind address image.entries end) ≡ sizes front before + size_of unit.items longs =
      ap words_before stop ∙ counted (sizes front before + size_of unit.items longs) (address + 4 * size_of unit.items longs) (omega (arith, address_is)) in
      let size : words_before (end_behind address image.entries end) - words_before address ≡ length own =
      omega (arith, first, last, image_fills symbols front before, words_fill (record { items = unit.items; longs = longs; symbols = symbols })) in
      seam (words_with symbols front before) own (words_with symbols back after) image.words (words_before address) (words_before (end_behind address image.entries end) - words_before address) (words_are ∙ words_split symbols front unit back before longs after same) first size
    where
      counted : (n address : ℕ) → address ≡ first_entry + 4 * n → words_before address ≡ n
      counted n address is = omega (arith, is)
