-- What has a value by registers has it by others of which as much is known.
use Rattle.std.proofs.lemmas.Bool.Decides.{nat_tests}
use Rattle.std.proofs.Common.{◌≡◌, ℕ, zero, suc, ◌==◌, ◌&&◌, ◌||◌, Bool, true, false, List, [], ◌∷◌, map, refl, sym, ◌∙◌, ap, subst, arith, tests}
use Rattle.std.specs.Prelude.{ℤ, pos, negsuc}
use Rattle.std.specs.Int.{cast_unsigned, w64}
use Rattle.std.specs.List.{list_all, list_any}
use Rattle.bits64.specs.declared.Width.{Width}
use Rattle.bits64.specs.declared.Width.TheVariants.{W64}
use Rattle.rtx_tree.specs.Code.{class_of_code}
use Rattle.rtx_tree.specs.Tree.{is_reg_numbered, mentions_step, mentions_reg}
use Rattle.rtx_tree.specs.declared.class.Class.{Class}
use Rattle.rtx_tree.specs.declared.class.Class.TheVariants as class
use Rattle.rtx_tree.specs.declared.code.Code.{Code}
use Rattle.rtx_tree.specs.declared.code.Code.TheVariants as code
use Rattle.rtx_tree.specs.declared.machine.SymbolAt.{SymbolAt}
use Rattle.rtx_tree.specs.declared.memories.MemByte.{MemByte}
use Rattle.rtx_tree.specs.declared.tree.Rtx.{Rtx, roll-Rtx}
use Rattle.rtx_tree.specs.declared.tree.Rtx.TheFolds.{fold-roll-Rtx, ind-Rtx, map-Rtx}
use Rattle.rtx_tree.specs.declared.tree.Rtx.TheOpen.{Rtx-F}
use Rattle.run_memory.specs.RunMemory.{load}
use Rattle.rtl_step.specs.Regs.{Regs}
use Rattle.rtl_step.specs.Value as rtl
use Rattle.rtl_step.specs.Value.{Reading, value_of}
use Rattle.rtl_step.proofs.Too.{Too, too_then}
use Rattle.rtl_step.proofs.Readings.{Reads, AllRead, converted_too, two_too}
use Rattle.law_window_kept.specs.Same.{KnownToo}
use Rattle.sym_insns.specs.Shape.{is_natural, natural_step, all_natural}

-- ---- truths

pub both_of : (a b : Bool) → a && b ≡ true → (a ≡ true) × (b ≡ true)
both_of true b both = (refl, both)
both_of false b both = absurd (let no : ⊥ = cc in no)

pub or_first : (a b : Bool) → a ≡ true → a || b ≡ true
or_first true b is = refl
or_first false b is = absurd (let no : ⊥ = cc in no)

pub or_later : (a b : Bool) → b ≡ true → a || b ≡ true
or_later true b is = refl
or_later false b is = is

-- ---- registers

-- the number of a register as 64 bits is the number
pub same_number : (number : ℤ) (reg : ℕ) → is_natural code.Reg number ≡ true →
    (cast_unsigned w64 number == reg) ≡ is_reg_numbered code.Reg number reg
same_number (pos n) reg natural = grind (arith, nat_tests, tests, natural)
same_number (negsuc n) reg natural = absurd (let no : ⊥ = cc in no)

pub numbered : (number : ℤ) (reg : ℕ) → is_natural code.Reg number ≡ true → cast_unsigned w64 number ≡ reg →
    is_reg_numbered code.Reg number reg ≡ true
numbered number reg natural is =
    sym (same_number number reg natural) ∙ (let yes : (cast_unsigned w64 number == reg) ≡ true = grind (arith, nat_tests, is) in yes)

pub number_of : (number : ℤ) (reg : ℕ) → is_natural code.Reg number ≡ true → is_reg_numbered code.Reg number reg ≡ true →
    cast_unsigned w64 number ≡ reg
number_of number reg natural is = let yes : (cast_unsigned w64 number == reg) ≡ true = same_number number reg natural ∙ is in
    grind (arith, nat_tests, yes)

register_code : (c : Code) → class_of_code c ≡ class.Register → c ≡ code.Reg
register_code code.Reg is = refl
register_code _ is = absurd (let no : ⊥ = cc in no)

module _ (symbols : List SymbolAt) (regs other : Regs) (memory : List MemByte) where
  register_known : (n : ℤ) (reg : ℕ) → cast_unsigned w64 n ≡ reg → is_natural code.Reg n ≡ true →
      ((q : ℕ) → is_reg_numbered code.Reg n (suc q) ≡ true → KnownToo regs other (suc q)) → KnownToo regs other reg
  register_known n zero is natural own = λ w value known. known
  register_known n (suc q) is natural own = own q (numbered n (suc q) natural is)

  -- ---- expressions, by their parts

  none_too : (k : Class) (c : Code) (n : ℤ) (name : List ℕ) (w : Width) → class_of_code c ≡ k → is_natural c n ≡ true →
      ((q : ℕ) → is_reg_numbered c n (suc q) ≡ true → KnownToo regs other (suc q)) →
      Too (rtl.value_of_none symbols regs k n name w) (rtl.value_of_none symbols other k n name w)
  none_too class.Register c n name w is natural own =
      let here : c ≡ code.Reg = register_code c is in
      register_known n (cast_unsigned w64 n) refl (ap (λ c. is_natural c n) (sym here) ∙ natural)
      (λ q same. own q (ap (λ c. is_reg_numbered c n (suc q)) here ∙ same)) w
  none_too class.Constant c n name w is natural own = λ v is. is
  none_too class.Symbol c n name w is natural own = λ v is. is
  none_too k c n name w is natural own = λ v none. absurd (let no : ⊥ = cc in no)

  one_too : (k : Class) (c : Code) (r r' : Reading) (w : Width) → Reads r r' →
      Too (rtl.value_of_one memory k c r w) (rtl.value_of_one memory k c r' w)
  one_too class.Memory c r r' w reads = too_then (load w memory) (r.value W64) (r'.value W64) (reads.values W64)
  one_too class.Lowpart c r r' w reads = reads.values w
  one_too class.Unary c r r' w reads = too_then (rtl.unary c w) (r.value w) (r'.value w) (reads.values w)
  one_too class.Extension c r r' w reads = converted_too c r r' w reads
  one_too class.Truncation c r r' w reads = converted_too c r r' w reads
  one_too k c r r' w reads = λ v none. absurd (let no : ⊥ = cc in no)

  value_too : (c : Code) (n : ℤ) (name : List ℕ) (rs rs' : List Reading) (w : Width) → is_natural c n ≡ true →
      ((q : ℕ) → is_reg_numbered c n (suc q) ≡ true → KnownToo regs other (suc q)) → AllRead rs rs' →
      Too (rtl.value_by symbols regs memory (class_of_code c) c n name rs w)
      (rtl.value_by symbols other memory (class_of_code c) c n name rs' w)
  value_too c n name [] [] w natural own reads = none_too (class_of_code c) c n name w refl natural own
  value_too c n name [] (r' ∷ rs') w natural own reads = absurd reads
  value_too c n name (r ∷ rs) [] w natural own reads = absurd reads
  value_too c n name (r ∷ []) (r' ∷ []) w natural own reads = one_too (class_of_code c) c r r' w reads.0
  value_too c n name (r ∷ []) (r' ∷ r'' ∷ rs') w natural own reads = absurd reads.1
  value_too c n name (r ∷ s ∷ rs) (r' ∷ []) w natural own reads = absurd reads.1
  value_too c n name (r ∷ s ∷ []) (r' ∷ s' ∷ []) w natural own reads =
      two_too (class_of_code c) c r r' s s' w reads.0 reads.1.0
  value_too c n name (r ∷ s ∷ []) (r' ∷ s' ∷ u' ∷ rs') w natural own reads = absurd reads.1.1
  value_too c n name (r ∷ s ∷ u ∷ rs) (r' ∷ s' ∷ []) w natural own reads = absurd reads.1.1
  value_too c n name (r ∷ s ∷ u ∷ rs) (r' ∷ s' ∷ u' ∷ rs') w natural own reads =
      λ v none. absurd (let no : ⊥ = cc in no)

  -- ---- each expression

  -- what is known of the registers in a tree is known too
  abbrev pub Had : Rtx → Type 0
  Had x = (q : ℕ) → mentions_reg (suc q) x ≡ true → KnownToo regs other (suc q)

  abbrev one : Rtx → Reading
  one = rtl.reading_of symbols regs memory

  abbrev two : Rtx → Reading
  two = rtl.reading_of symbols other memory

  abbrev P : Rtx → Type 0
  P x = all_natural x ≡ true → Had x → Reads (one x) (two x)

  abbrev Kid : Type 0
  Kid = (x : Rtx) × P x

  abbrev tree : Kid → Rtx
  tree y = y.0

  kids_read : (ys : List Kid) → list_all (λ here. here) (map all_natural (map tree ys)) ≡ true →
      ((q : ℕ) → list_any (λ here. here) (map (mentions_reg (suc q)) (map tree ys)) ≡ true → KnownToo regs other (suc q)) →
      AllRead (map one (map tree ys)) (map two (map tree ys))
  kids_read [] natural had = tt
  kids_read (y ∷ ys) natural had = let both = both_of (all_natural y.0) _ natural in (
    y.1 both.0 (λ q is. had q (or_first (mentions_reg (suc q) y.0) _ is)),
    kids_read ys both.1 (λ q is. had q (or_later (mentions_reg (suc q) y.0) _ is)),
  )

  layer : (y : Rtx-F Kid) → P (roll-Rtx (map-Rtx Kid Rtx tree y))
  layer y natural had =
      let z : Rtx-F Rtx = map-Rtx Kid Rtx tree y in
      let r = fold-roll-Rtx Reading (rtl.reading_step symbols regs memory) z in
      let r' = fold-roll-Rtx Reading (rtl.reading_step symbols other memory) z in
      let numbers = both_of (is_natural z.code z.number) _ (sym (fold-roll-Rtx Bool natural_step z) ∙ natural) in
      subst (λ (r : Reading). Reads r (two (roll-Rtx z))) (sym r)
      (subst (λ (r' : Reading). Reads (rtl.reading_step symbols regs memory (map-Rtx Rtx Reading one z)) r') (sym r') (record {
        widths = refl;
        values = λ w. value_too z.code z.number z.name (map one z.kids) (map two z.kids) w numbers.0
            (λ q is. had q (fold-roll-Rtx Bool (mentions_step (suc q)) z ∙ or_first (is_reg_numbered z.code z.number (suc q)) _ is))
            (kids_read y.kids numbers.1
            (λ q is. had q (fold-roll-Rtx Bool (mentions_step (suc q)) z ∙ or_later (is_reg_numbered z.code z.number (suc q)) _ is)));
      }))

  all_read : (x : Rtx) → P x
  all_read = ind-Rtx P (λ x y e. subst (λ (z : Rtx-F Rtx). P (roll-Rtx z)) e (layer y))

  -- the value of an expression
  pub values_too : (x : Rtx) (w : Width) → all_natural x ≡ true → Had x →
      Too (value_of symbols regs memory x w) (value_of symbols other memory x w)
  values_too x w natural had = (all_read x natural had).values w
