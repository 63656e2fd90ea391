-- What is asked of new trees; and the addresses of memory in which they stand.
use Rattle.std.proofs.Common.{◌≡◌, ℕ, Bool, true, false, List, [], ◌∷◌, Some, refl, sym, ap, ◌∙◌}
use Rattle.std.specs.List.{list_all, list_any}
use Rattle.std.proofs.lemmas.Bool.{and_parts}
use Rattle.bits64.specs.declared.Width.TheVariants.{W64}
use Rattle.rtx_tree.specs.Code.{class_of_code}
use Rattle.rtx_tree.specs.Tree.{RtxHead, head_of, kids_of, mentions_reg}
use Rattle.rtx_tree.specs.declared.class.Class.{Class}
use Rattle.rtx_tree.specs.declared.class.Class.TheVariants as class
use Rattle.rtx_tree.specs.declared.code.Code.{Code}
use Rattle.rtx_tree.specs.declared.code.Code.TheVariants as code
use Rattle.rtx_tree.specs.declared.code.Mode.{Mode}
use Rattle.rtx_tree.specs.declared.code.Mode.TheVariants.{DI}
use Rattle.rtx_tree.specs.declared.machine.SymbolAt.{SymbolAt}
use Rattle.rtx_tree.specs.declared.memories.MemByte.{MemByte}
use Rattle.rtx_tree.specs.declared.tree.Rtx.{Rtx}
use Rattle.rtl_func.specs.Shapes.{class_at, mode_at, number_at, has_mode, is_operand, is_bare, fits_row, is_shaped}
use Rattle.rtl_func.proofs.AllPass.{all_pass, itself, within}
use Rattle.rtl_step.specs.Effect.{address_of, address_part}
use Rattle.rtl_step.specs.Regs.{Regs}
use Rattle.rtl_step.specs.Value.{width_of, value_of}
use Rattle.rtl_step.proofs.Too.{Too}
use Rattle.sym_insns.specs.Shape.{all_natural}
use Rattle.law_frame.proofs.law_window_replaced.Known.{both_of, or_first}
use Rattle.law_frame.proofs.law_window_replaced.Trees.{natural_kids, mentions_kid}
use Rattle.law_operands_replaced.specs.Spare.{KnowsRest, NamesNoSpare}
use Rattle.law_operands_replaced.proofs.NewTrees.{Becomes, AllBecome, same, new, over, none, next}
use Rattle.law_operands_replaced.proofs.Readings.{ReadsAs, operand_own, own_here}
use Rattle.law_operands_replaced.proofs.ReadTrees.{read_in, reads_as}

-- a register, memory or a sum
abbrev pub is_new_class : Class → Bool
is_new_class class.Register = true
is_new_class class.Memory = true
is_new_class class.Binary = true
is_new_class _ = false

-- the code of a class that has one alone
pub memory_code : (c : Code) → class_of_code c ≡ class.Memory → c ≡ code.Mem
memory_code code.Mem is = refl
memory_code _ is = absurd (let no : ⊥ = cc in no)

row_kid : (k : Class) (mode : Mode) (number : ℕ) (kids : List Rtx) → k ≡ class.Memory → fits_row k mode number kids ≡ true →
    (a : Rtx) × ((kids ≡ a ∷ []) × (is_operand DI a ≡ true))
row_kid class.Memory mode number [] is fits = absurd (let no : ⊥ = cc in no)
row_kid class.Memory mode number (a ∷ []) is fits = (a, (refl, (and_parts (has_mode mode) (is_operand DI a) fits).1))
row_kid class.Memory mode number (a ∷ b ∷ []) is fits = absurd (let no : ⊥ = cc in no)
row_kid class.Memory mode number (a ∷ b ∷ c ∷ []) is fits = absurd (let no : ⊥ = cc in no)
row_kid class.Memory mode number (a ∷ b ∷ c ∷ d ∷ kids) is fits = absurd (let no : ⊥ = cc in no)
row_kid _ mode number kids is fits = absurd (let no : ⊥ = cc in no)

-- memory has an address
pub memory_kid : (x : Rtx) → class_at x ≡ class.Memory → is_shaped x ≡ true → (a : Rtx) × ((kids_of x ≡ a ∷ []) × (is_operand DI a ≡ true))
memory_kid x is shaped = row_kid (class_at x) (mode_at x) (number_at x) (kids_of x) is (and_parts (is_bare (class_at x) (number_at x) (head_of x).name) _ shaped).1

pub address_is : (x a : Rtx) → class_at x ≡ class.Memory → kids_of x ≡ a ∷ [] → address_of x ≡ Some a
address_is x a is are = ap (λ c. address_part c (kids_of x)) (memory_code (head_of x).code is) ∙ ap (address_part code.Mem) are

-- a tree becomes itself, and so do its parts
pub all_same : (New : Rtx → Rtx → Type 0) (xs : List Rtx) → AllBecome New xs xs
all_same New [] = none
all_same New (x ∷ xs) = next x x xs xs (same x) (all_same New xs)

module _ (symbols : List SymbolAt) (regs other : Regs) (memory : List MemByte) where
  -- both are memory, and the address of the second has the value of the first's
  pub record AddressToo (x y : Rtx) : Type 0 where
    pub first : Rtx
    pub second : Rtx
    pub first_is : address_of x ≡ Some first
    pub second_is : address_of y ≡ Some second
    pub mode_is : width_of (mode_at y) ≡ width_of (mode_at x)
    pub value : Too (value_of symbols regs memory first W64) (value_of symbols other memory second W64)

  -- what is asked of each new tree
  pub record IsNewTree (x y : Rtx) : Type 0 where
    pub class_is : is_new_class (class_at y) ≡ true
    pub reads : ReadsAs (read_in symbols regs memory x) (read_in symbols other memory y)
    pub address : class_at y ≡ class.Memory → AddressToo x y

  module _ (known : KnowsRest regs other) (New : Rtx → Rtx → Type 0) (news : (x y : Rtx) → New x y → IsNewTree x y) where
    pub becomes_reads : (x y : Rtx) → Becomes New x y → all_natural x ≡ true → NamesNoSpare x → all_pass is_shaped y ≡ true →
        ReadsAs (read_in symbols regs memory x) (read_in symbols other memory y)
    becomes_reads = reads_as symbols regs other memory known New (λ x y is. (news x y is).reads)

    first_natural : (x a : Rtx) (kids : List Rtx) → kids_of x ≡ a ∷ kids → all_natural x ≡ true → all_natural a ≡ true
    first_natural x a kids are natural = (both_of (all_natural a) (list_all all_natural kids) (ap (list_all all_natural) (sym are) ∙ natural_kids x natural)).0

    first_quiet : (x a : Rtx) (kids : List Rtx) → kids_of x ≡ a ∷ kids → NamesNoSpare x → NamesNoSpare a
    first_quiet x a kids are quiet reg is = quiet reg (mentions_kid x reg (ap (list_any (mentions_reg reg)) are ∙ or_first (mentions_reg reg a) _ is))

    over_address : (x y : Rtx) (xs ys : List Rtx) → head_of y ≡ head_of x → kids_of x ≡ xs → kids_of y ≡ ys → AllBecome New xs ys → all_natural x ≡ true →
        NamesNoSpare x → all_pass is_shaped y ≡ true → class_at y ≡ class.Memory → AddressToo x y
    over_address x y _ _ head are are' none natural quiet shaped is =
        let k = memory_kid y is (itself is_shaped y shaped) in
        absurd (let e : ◌≡◌ {A = List Rtx} [] (k.0 ∷ []) = sym are' ∙ k.1.0 in let no : ⊥ = cc in no)
    over_address x y _ _ head are are' (next a a' xs ys becomes all) natural quiet shaped is =
        let k = memory_kid y is (itself is_shaped y shaped) in
        let e : a' ∷ ys ≡ k.0 ∷ [] = sym are' ∙ k.1.0 in
        let here : a' ≡ k.0 = cc in
        let nothing : ys ≡ [] = cc in
        let is_x : class_at x ≡ class.Memory = ap (λ (h : RtxHead). class_of_code h.code) (sym head) ∙ is in
        let inside : all_pass is_shaped a' ≡ true =
        (both_of (all_pass is_shaped a') (list_all (all_pass is_shaped) ys) (ap (list_all (all_pass is_shaped)) (sym are') ∙ within is_shaped y shaped)).0 in
        record {
          first = a;
          second = a';
          first_is = address_is x a is_x (are ∙ ap (λ (ks : List Rtx). a ∷ ks) (no_more xs ys all nothing));
          second_is = address_is y a' is (are' ∙ ap (λ (ks : List Rtx). a' ∷ ks) nothing);
          mode_is = ap (λ (h : RtxHead). width_of h.mode) head;
          value = (becomes_reads a a' becomes (first_natural x a xs are natural) (first_quiet x a xs are quiet) inside).values W64
              (operand_own DI a' W64 (itself is_shaped a' inside) (ap (is_operand DI) here ∙ k.1.1) (own_here W64));
        }
      where
        no_more : (xs ys : List Rtx) → AllBecome New xs ys → ys ≡ [] → xs ≡ []
        no_more _ _ none e = refl
        no_more _ _ (next x y xs ys b more) e = absurd (let no : ⊥ = cc in no)

    -- memory that becomes memory has an address with the same value
    pub address_becomes : (x y : Rtx) → Becomes New x y → all_natural x ≡ true → NamesNoSpare x → all_pass is_shaped y ≡ true →
        class_at y ≡ class.Memory → AddressToo x y
    address_becomes _ _ (same x) natural quiet shaped is =
        over_address x x (kids_of x) (kids_of x) refl refl refl (all_same New (kids_of x)) natural quiet shaped is
    address_becomes _ _ (new x y at) natural quiet shaped is = (news x y at).address is
    address_becomes _ _ (over x y head low all) natural quiet shaped is =
        over_address x y (kids_of x) (kids_of y) head refl refl all natural quiet shaped is

    -- a tree of another class than new ones has kept its head
    pub record IsOver (x y : Rtx) : Type 0 where
      pub head : head_of y ≡ head_of x
      pub parts : AllBecome New (kids_of x) (kids_of y)

    pub is_over : (x y : Rtx) → Becomes New x y → is_new_class (class_at y) ≡ false → IsOver x y
    is_over _ _ (same x) other = record { head = refl; parts = all_same New (kids_of x) }
    is_over _ _ (new x y at) other = absurd (let e : true ≡ false = sym (news x y at).class_is ∙ other in let no : ⊥ = cc in no)
    is_over _ _ (over x y head low all) other = record { head = head; parts = all }
