-- A name is no predicate's name where that is longer or shorter.
use Rattle.std.proofs.Common.{◌≡◌, ◌∙◌, ℕ, Bool, false, List, [], length, Option, Some, None, if◌then◌else◌, refl, sym, ap, bytes_eq, nat_eq, codes, eq-eqb}
use Rattle.std.proofs.lemmas.Bool.{false≢true}
use Rattle.std.specs.Cmp.Lexicographic.{unequal}
use Rattle.md_operand.specs.declared.built_in.BuiltIn.{BuiltIn}
use Rattle.md_operand.specs.declared.built_in.BuiltIn.TheVariants as own
use Rattle.md_operand.specs.Operand.{built_in_named}

-- a name is not compared with one that is longer or shorter
skip : (n : ℕ) (name text : List ℕ) (here behind : Option BuiltIn) → length name ≡ n → nat_eq n (length text) ≡ false → (if bytes_eq name text then here else behind) ≡ behind
skip n name text here behind is other = ap (λ (b : Bool). if b then here else behind) (unequal nat_eq name text (λ same. false≢true (sym other ∙ eq-eqb n (length text) (sym is ∙ same))))

-- the predicates behind those that the manual calls operands
abbrev pub operator : Option BuiltIn → List ℕ → Option BuiltIn
operator other name = if bytes_eq name (codes "comparison_operator") then Some own.Comparison else other

abbrev pub ordered : Option BuiltIn → List ℕ → Option BuiltIn
ordered other name = if bytes_eq name (codes "ordered_comparison_operator") then Some own.OrderedComparison else other

abbrev frame : List ℕ → Option BuiltIn
frame name = if bytes_eq name (codes "frame_operand") then Some own.Frame else None

-- a long name is none of an operand
long : (n : ℕ) (name : List ℕ) → length name ≡ n → nat_eq n 0 ≡ false → nat_eq n 16 ≡ false → nat_eq n 17 ≡ false → nat_eq n 14 ≡ false → nat_eq n 20 ≡ false → nat_eq n 15 ≡ false → built_in_named name ≡ operator (ordered (frame name) name) name
long n name is n0 n16 n17 n14 n20 n15 =
    skip n name [] _ _ is n0 ∙ skip n name (codes "register_operand") _ _ is n16
    ∙ skip n name (codes "const_int_operand") _ _ is n17 ∙ skip n name (codes "immediate_operand") _ _ is n17
    ∙ skip n name (codes "memory_operand") _ _ is n14 ∙ skip n name (codes "nonimmediate_operand") _ _ is n20
    ∙ skip n name (codes "nonmemory_operand") _ _ is n17 ∙ skip n name (codes "general_operand") _ _ is n15
    ∙ skip n name (codes "address_operand") _ _ is n15

pub nineteen : (name : List ℕ) → length name ≡ 19 → built_in_named name ≡ operator None name
nineteen name is =
    long 19 name is refl refl refl refl refl refl
    ∙ ap (λ other. operator other name) (skip 19 name (codes "ordered_comparison_operator") _ _ is refl ∙ skip 19 name (codes "frame_operand") _ _ is refl)

pub twenty_seven : (name : List ℕ) → length name ≡ 27 → built_in_named name ≡ ordered None name
twenty_seven name is =
    long 27 name is refl refl refl refl refl refl
    ∙ skip 27 name (codes "comparison_operator") _ _ is refl
    ∙ ap (λ other. ordered other name) (skip 27 name (codes "frame_operand") _ _ is refl)
