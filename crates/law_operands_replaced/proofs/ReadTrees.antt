-- A tree in which new trees stand for some of its trees has in its own mode the value of the tree, where each new one has the value of what it
-- stands for.
use Rattle.std.proofs.Common.{◌≡◌, inl, ℕ, suc, true, false, List, [], ◌∷◌, map, refl, sym, ap, ◌∙◌}
use Rattle.std.specs.Prelude.{ℤ}
use Rattle.std.specs.List.{list_all, list_any}
use Rattle.std.proofs.lemmas.Bool.{and_parts}
use Rattle.bits64.specs.declared.Width.{Width}
use Rattle.rtx_tree.specs.Code.{class_of_code}
use Rattle.rtx_tree.specs.Tree.{RtxHead, head_of, kids_of, mentions_reg}
use Rattle.rtx_tree.specs.declared.class.Class.{Class}
use Rattle.rtx_tree.specs.declared.class.Class.TheVariants as class
use Rattle.rtx_tree.specs.declared.code.Code.{Code}
use Rattle.rtx_tree.specs.declared.code.Mode.{Mode}
use Rattle.rtx_tree.specs.declared.machine.SymbolAt.{SymbolAt}
use Rattle.rtx_tree.specs.declared.memories.MemByte.{MemByte}
use Rattle.rtx_tree.specs.declared.tree.Rtx.{Rtx}
use Rattle.rtl_func.specs.Shapes.{class_at, mode_at, number_at, is_bare, fits_row, is_shaped}
use Rattle.rtl_func.proofs.AllPass.{all_pass, itself, within}
use Rattle.rtl_step.specs.Regs.{Regs}
use Rattle.rtl_step.specs.Value.{Reading, width_of, value_by, value_of, value_of_one, value_of_two}
use Rattle.rtl_step.proofs.Values.{value_read}
use Rattle.rtl_step.proofs.Too.{Too}
use Rattle.law_frame.proofs.law_window_replaced.Known.{both_of, or_first, or_later, values_too}
use Rattle.law_frame.proofs.law_window_replaced.Trees.{natural_kids, mentions_kid}
use Rattle.sym_insns.specs.Shape.{all_natural}
use Rattle.law_operands_replaced.specs.Spare.{is_spare, KnowsRest, NamesNoSpare}
use Rattle.law_operands_replaced.proofs.NewTrees.{Becomes, AllBecome, same, new, over, none, next, is_lowpart, is_lowpart_class}
use Rattle.law_operands_replaced.proofs.Readings.{IsOwn, ReadsAs, ReadsTree, one_reads, two_reads}

-- an expression as its outside reads it
abbrev pub read_in : List SymbolAt → Regs → List MemByte → Rtx → Reading
read_in symbols regs memory x = record { width = width_of (mode_at x); value = value_of symbols regs memory x }

-- none of t3 to t6 stands in one of some trees
abbrev pub NameNoSpare : List Rtx → Type 0
NameNoSpare xs = (reg : ℕ) → list_any (mentions_reg reg) xs ≡ true → is_spare reg ≡ false

-- a row of one part, and of two
one_by : (memory : List MemByte) (k : Class) (c : Code) (mode : Mode) (number : ℕ) (y : Rtx) (r r' : Reading) (w : Width) →
    is_lowpart_class k ≡ false → fits_row k mode number (y ∷ []) ≡ true → IsOwn (width_of mode) w → ReadsTree y r' → ReadsAs r r' →
    Too (value_of_one memory k c r w) (value_of_one memory k c r' w)
one_by memory class.Parallel c mode number y r r' w other fits own tree reads = λ v none. absurd (let no : ⊥ = cc in no)
one_by memory k c mode number y r r' w other fits own tree reads = one_reads memory k c mode y r r' w other fits own tree reads

two_by : (memory : List MemByte) (k : Class) (c : Code) (mode : Mode) (number : ℕ) (x y : Rtx) (a b a' b' : Reading) (w : Width) →
    fits_row k mode number (x ∷ y ∷ []) ≡ true → IsOwn (width_of mode) w → ReadsTree x a' → ReadsTree y b' → ReadsAs a a' → ReadsAs b b' →
    Too (value_of_two k c a b w) (value_of_two k c a' b' w)
two_by memory class.Parallel c mode number x y a b a' b' w fits own tree tree' first second = λ v none. absurd (let no : ⊥ = cc in no)
two_by memory k c mode number x y a b a' b' w fits own tree tree' first second =
    two_reads memory k c mode x y a b a' b' w fits own tree tree' first second

module _ (symbols : List SymbolAt) (regs other : Regs) (memory : List MemByte) where
  abbrev one : Rtx → Reading
  one = read_in symbols regs memory

  abbrev two : Rtx → Reading
  two = read_in symbols other memory

  -- each is read as the one in its place
  abbrev AllRead : List Rtx → List Rtx → Type 0
  AllRead [] [] = Unit {0}
  AllRead [] (y ∷ ys) = ⊥
  AllRead (x ∷ xs) [] = ⊥
  AllRead (x ∷ xs) (y ∷ ys) = ReadsAs (one x) (two y) × AllRead xs ys

  parts_read : (k : Class) (c : Code) (n : ℤ) (name : List ℕ) (mode : Mode) (number : ℕ) (xs ys : List Rtx) (w : Width) →
      is_lowpart_class k ≡ false → fits_row k mode number ys ≡ true → IsOwn (width_of mode) w → list_all (all_pass is_shaped) ys ≡ true →
      (xs ≡ [] → Too (value_by symbols regs memory k c n name [] w) (value_by symbols other memory k c n name [] w)) → AllRead xs ys →
      Too (value_by symbols regs memory k c n name (map one xs) w) (value_by symbols other memory k c n name (map two ys) w)
  parts_read k c n name mode number [] [] w low fits own shaped leaf reads = leaf refl
  parts_read k c n name mode number [] (y ∷ ys) w low fits own shaped leaf reads = absurd reads
  parts_read k c n name mode number (x ∷ xs) [] w low fits own shaped leaf reads = absurd reads
  parts_read k c n name mode number (x ∷ []) (y ∷ []) w low fits own shaped leaf reads =
      one_by memory k c mode number y (one x) (two y) w low fits own
      (refl, itself is_shaped y (and_parts (all_pass is_shaped y) _ shaped).0) reads.0
  parts_read k c n name mode number (x ∷ []) (y ∷ y' ∷ ys) w low fits own shaped leaf reads = absurd reads.1
  parts_read k c n name mode number (x ∷ x' ∷ xs) (y ∷ []) w low fits own shaped leaf reads = absurd reads.1
  parts_read k c n name mode number (x ∷ x' ∷ []) (y ∷ y' ∷ []) w low fits own shaped leaf reads =
      let both = and_parts (all_pass is_shaped y) _ shaped in
      two_by memory k c mode number y y' (one x) (one x') (two y) (two y') w fits own (refl, itself is_shaped y both.0)
      (refl, itself is_shaped y' (and_parts (all_pass is_shaped y') _ both.1).0) reads.0 reads.1.0
  parts_read k c n name mode number (x ∷ x' ∷ []) (y ∷ y' ∷ y'' ∷ ys) w low fits own shaped leaf reads = absurd reads.1.1
  parts_read k c n name mode number (x ∷ x' ∷ x'' ∷ xs) (y ∷ y' ∷ []) w low fits own shaped leaf reads = absurd reads.1.1
  parts_read k c n name mode number (x ∷ x' ∷ x'' ∷ xs) (y ∷ y' ∷ y'' ∷ ys) w low fits own shaped leaf reads =
      λ v none. absurd (let no : ⊥ = cc in no)

  -- the value of an expression, by its head and its parts
  value_parts : (rs : Regs) (x : Rtx) (h : RtxHead) (kids : List Rtx) (w : Width) → head_of x ≡ h → kids_of x ≡ kids →
      value_of symbols rs memory x w ≡ value_by symbols rs memory (class_of_code h.code) h.code h.number h.name (map (read_in symbols rs memory) kids) w
  value_parts rs x h kids w head are = value_read symbols rs memory x w ∙
      ap (λ (ks : List Rtx). value_by symbols rs memory (class_at x) (head_of x).code (head_of x).number (head_of x).name (map (read_in symbols rs memory) ks) w) are ∙
      ap (λ (h : RtxHead). value_by symbols rs memory (class_of_code h.code) h.code h.number h.name (map (read_in symbols rs memory) kids) w) head

  module _ (known : KnowsRest regs other) where
    -- what is known of the registers of a tree is known too
    pub tree_too : (x : Rtx) (w : Width) → all_natural x ≡ true → NamesNoSpare x →
        Too (value_of symbols regs memory x w) (value_of symbols other memory x w)
    tree_too x w natural quiet = values_too symbols regs other memory x w natural (λ q is. known (suc q) (quiet (suc q) is))

    over_reads : (x y : Rtx) (xs ys : List Rtx) → head_of y ≡ head_of x → kids_of x ≡ xs → kids_of y ≡ ys → is_lowpart x ≡ false →
        all_natural x ≡ true → NamesNoSpare x → all_pass is_shaped y ≡ true → AllRead xs ys → ReadsAs (one x) (two y)
    over_reads x y xs ys head are are' low natural quiet shaped reads = record {
      modes = inl (ap (λ (h : RtxHead). width_of h.mode) head);
      values = λ w own v is.
          value_parts other y (head_of x) ys w head are' ∙
          parts_read (class_at x) (head_of x).code (head_of x).number (head_of x).name (mode_at y) (number_at y) xs ys w low
          (ap (λ (h : RtxHead). fits_row (class_of_code h.code) (mode_at y) (number_at y) ys) (sym head) ∙
          (ap (fits_row (class_at y) (mode_at y) (number_at y)) (sym are') ∙
          (and_parts (is_bare (class_at y) (number_at y) (head_of y).name) _ (itself is_shaped y shaped)).1)) own
          (ap (list_all (all_pass is_shaped)) (sym are') ∙ within is_shaped y shaped) (leaf w) reads v
          (sym (value_parts regs x (head_of x) xs w refl are) ∙ is);
    }
      where
        -- without parts both are one
        leaf : (w : Width) → xs ≡ [] →
            Too (value_by symbols regs memory (class_at x) (head_of x).code (head_of x).number (head_of x).name [] w)
            (value_by symbols other memory (class_at x) (head_of x).code (head_of x).number (head_of x).name [] w)
        leaf w nothing v is = sym (value_parts other x (head_of x) [] w refl (are ∙ nothing)) ∙
            tree_too x w natural quiet v (value_parts regs x (head_of x) [] w refl (are ∙ nothing) ∙ is)

    module _ (New : Rtx → Rtx → Type 0) (new_reads : (x y : Rtx) → New x y → ReadsAs (one x) (two y)) where
      quiet_kids : (x : Rtx) → NamesNoSpare x → NameNoSpare (kids_of x)
      quiet_kids x quiet reg is = quiet reg (mentions_kid x reg is)

      mutual
        -- in its own mode it has the value of what it stands for
        pub reads_as : (x y : Rtx) → Becomes New x y → all_natural x ≡ true → NamesNoSpare x → all_pass is_shaped y ≡ true →
            ReadsAs (one x) (two y)
        reads_as _ _ (same x) natural quiet shaped = record { modes = inl refl; values = λ w own. tree_too x w natural quiet }
        reads_as _ _ (new x y is) natural quiet shaped = new_reads x y is
        reads_as _ _ (over x y head low all) natural quiet shaped =
            over_reads x y (kids_of x) (kids_of y) head refl refl low natural quiet shaped
            (all_read (kids_of x) (kids_of y) all (natural_kids x natural) (quiet_kids x quiet) (within is_shaped y shaped))

        all_read : (xs ys : List Rtx) → AllBecome New xs ys → list_all all_natural xs ≡ true → NameNoSpare xs →
            list_all (all_pass is_shaped) ys ≡ true → AllRead xs ys
        all_read _ _ none natural quiet shaped = tt
        all_read _ _ (next x y xs ys is all) natural quiet shaped =
            let both = both_of (all_natural x) _ natural in
            let both' = both_of (all_pass is_shaped y) _ shaped in (
              reads_as x y is both.0 (λ reg at. quiet reg (or_first (mentions_reg reg x) _ at)) both'.0,
              all_read xs ys all both.1 (λ reg at. quiet reg (or_later (mentions_reg reg x) _ at)) both'.1,
            )
