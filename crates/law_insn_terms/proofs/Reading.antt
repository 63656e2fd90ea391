-- What an expression needs of registers: each that it needs stands in it, and was not changed before.
use Rattle.std.proofs.lemmas.Bool.Decides.{nat_tests}
use Rattle.std.proofs.Common.{◌≡◌, ℕ, zero, suc, ◌==◌, Bool, true, false, List, [], ◌∷◌, ◌++◌, map, Option, Some, None, refl, sym, ◌∙◌, ap, subst, arith}
use Rattle.std.specs.Prelude.{ℤ, is_some, if◌then◌else◌}
use Rattle.std.specs.Int.{cast_unsigned, w64}
use Rattle.std.specs.List.{list_all, list_any, AllByRecursion}
use Rattle.bits64.specs.declared.Width.{Width}
use Rattle.bits64.specs.declared.Width.TheVariants.{W64}
use Rattle.bits64.specs.declared.operator.Operator.{Operator}
use Rattle.bits64.specs.declared.operator.Relation.{Relation}
use Rattle.bits64.specs.declared.operator.Asks.{Asks}
use Rattle.bits64.specs.declared.operator.Asks.TheVariants.{Nothing, SecondNonzero}
use Rattle.bits64.specs.Operators.{asks_of}
use Rattle.term_tree.specs.declared.head.Head.{Head}
use Rattle.rtx_tree.specs.Code.{class_of_code}
use Rattle.rtx_tree.specs.Tree.{is_reg_numbered, mentions_step, mentions_reg}
use Rattle.rtx_tree.specs.declared.class.Class.{Class}
use Rattle.rtx_tree.specs.declared.class.Class.TheVariants as class
use Rattle.rtx_tree.specs.declared.code.Code.{Code}
use Rattle.rtx_tree.specs.declared.code.Code.TheVariants as code
use Rattle.rtx_tree.specs.declared.tree.Rtx.{Rtx, roll-Rtx}
use Rattle.rtx_tree.specs.declared.tree.Rtx.TheFolds.{fold-roll-Rtx, ind-Rtx, map-Rtx}
use Rattle.rtx_tree.specs.declared.tree.Rtx.TheOpen.{Rtx-F}
use Rattle.rtl_step.specs.Value.{first_width, count_width, operator_of, alone, counting, relation_in}
use Rattle.term_tree.specs.Tree.{Tree, width_of}
use Rattle.term_tree.specs.Form.{narrower}
use Rattle.term_mean.specs.Stores.{Store}
use Rattle.term_mean.specs.Sums.{constant_in}
use Rattle.sym_insns.specs.sym_state.State.{Changed, Need, Register, Lost, Access, Divisor, Symbol}
use Rattle.sym_insns.specs.sym_state.Registers.{held, need_of, read_needs}
use Rattle.sym_insns.specs.Value as spec
use Rattle.sym_insns.specs.Value.{Made, Reading}
use Rattle.sym_insns.specs.Shape.{is_natural, natural_step, all_natural}
use Rattle.law_insn_terms.proofs.Places.{same_number, IsNatural}
use Rattle.law_insn_terms.proofs.Bools.{both_of, or_first, or_later}

-- ---- needs of registers

-- a register, other than register zero, is one of some and was not changed
pub record IsThere (regs : List Changed) (some : ℕ → Bool) (reg : ℕ) : Type 0 where
  pub below : ℕ
  pub reg_is : reg ≡ suc below
  pub unchanged : is_some (held regs (suc below)) ≡ false
  pub is_one : some (suc below) ≡ true

-- a register that is needed
abbrev pub NeedIs : List Changed → (ℕ → Bool) → Need → Type 0
NeedIs regs some (Register reg w) = IsThere regs some reg
NeedIs regs some _ = Unit {0}

abbrev pub NeedsAre : List Changed → (ℕ → Bool) → List Need → Type 0
NeedsAre regs some needs = AllByRecursion (NeedIs regs some) needs

abbrev pub AreMore : (ℕ → Bool) → (ℕ → Bool) → Type 0
AreMore some more = (q : ℕ) → some (suc q) ≡ true → more (suc q) ≡ true

pub needs_joined : (regs : List Changed) (some : ℕ → Bool) (xs ys : List Need) → NeedsAre regs some xs → NeedsAre regs some ys → NeedsAre regs some (xs ++ ys)
needs_joined regs some [] ys first later = later
needs_joined regs some (x ∷ xs) ys first later = (first.0, needs_joined regs some xs ys first.1 later)

need_more : (regs : List Changed) (some more : ℕ → Bool) → AreMore some more → (n : Need) → NeedIs regs some n → NeedIs regs more n
need_more regs some more are (Register reg w) is = record { below = is.below; reg_is = is.reg_is; unchanged = is.unchanged; is_one = are is.below is.is_one }
need_more regs some more are (Lost reg w) is = tt
need_more regs some more are (Access address w) is = tt
need_more regs some more are (Divisor t) is = tt
need_more regs some more are (Symbol name) is = tt

pub needs_more : (regs : List Changed) (some more : ℕ → Bool) → AreMore some more → (needs : List Need) → NeedsAre regs some needs → NeedsAre regs more needs
needs_more regs some more are [] is = tt
needs_more regs some more are (n ∷ needs) is = (need_more regs some more are n is.0, needs_more regs some more are needs is.1)

-- ---- registers

need_by : (regs : List Changed) (some : ℕ → Bool) (r : ℕ) (w : Width) → some (suc r) ≡ true → (left : Option (Option Tree)) → held regs (suc r) ≡ left → NeedsAre regs some (need_of left (suc r) w)
need_by regs some r w is None there = (record { below = r; reg_is = refl; unchanged = ap is_some there; is_one = is }, tt)
need_by regs some r w is (Some None) there = (tt, tt)
need_by regs some r w is (Some (Some t)) there = by (narrower (width_of t) w)
  where
    by : (b : Bool) → NeedsAre regs some (if b then Lost (suc r) w ∷ [] else [])
    by true = (tt, tt)
    by false = tt

pub read_is : (regs : List Changed) (some : ℕ → Bool) (reg : ℕ) (w : Width) → ((q : ℕ) → reg ≡ suc q → some (suc q) ≡ true) → NeedsAre regs some (read_needs regs reg w)
read_is regs some zero w is = tt
read_is regs some (suc r) w is = need_by regs some r w (is r refl) (held regs (suc r)) refl

register_code : (c : Code) → class_of_code c ≡ class.Register → c ≡ code.Reg
register_code code.Reg is = refl
register_code _ is = absurd (let no : ⊥ = cc in no)

-- ---- expressions, by what their parts need

module _ (regs : List Changed) (stores : List Store) (some : ℕ → Bool) where
  abbrev Needs : List Need → Type 0
  Needs needs = NeedsAre regs some needs

  abbrev PartNeeds : Reading → Type 0
  PartNeeds m = (w : Width) → Needs (m.made w).needs

  none_needs : (k : Class) (c : Code) (n : ℤ) (name : List ℕ) (w : Width) → class_of_code c ≡ k → is_natural c n ≡ true → ((q : ℕ) → is_reg_numbered c n (suc q) ≡ true → some (suc q) ≡ true) →
      Needs (spec.made_of_none regs k n name w).needs
  none_needs class.Register c n name w is natural own =
      let here : c ≡ code.Reg = register_code c is in
      let natural' : is_natural code.Reg n ≡ true = ap (λ c. is_natural c n) (sym here) ∙ natural in
      read_is regs some (cast_unsigned w64 n) w (λ q same.
      let yes : (cast_unsigned w64 n == suc q) ≡ true = grind (arith, nat_tests, same) in
      own q (ap (λ c. is_reg_numbered c n (suc q)) here ∙ (sym (same_number n (suc q) natural') ∙ yes)))
  none_needs class.Constant c n name w is natural own = tt
  none_needs class.Symbol c n name w is natural own = (tt, tt)
  none_needs k c n name w is natural own = (tt, tt)

  conversion_needs : (o : Option Head) (m : Made) (w : Width) → Needs m.needs → Needs (spec.of_conversion stores o w m).needs
  conversion_needs None m w part = (tt, tt)
  conversion_needs (Some h) m w part = part

  converted_needs : (o : Option Width) (c : Code) (m : Reading) (w : Width) → PartNeeds m → Needs (spec.of_converted stores o c m w).needs
  converted_needs None c m w part = (tt, tt)
  converted_needs (Some own) c m w part = conversion_needs (spec.conversion_of c) (m.made own) w (part own)

  operand_needs : (o : Option Operator) (m : Made) (w : Width) → Needs m.needs → Needs (spec.of_operand stores o w m).needs
  operand_needs None m w part = (tt, tt)
  operand_needs (Some o) m w part = part

  one_needs : (k : Class) (c : Code) (m : Reading) (w : Width) → PartNeeds m → Needs (spec.made_of_one stores k c m w).needs
  one_needs class.Memory c m w part = needs_joined regs some (m.made W64).needs (Access (m.made W64).term w ∷ []) (part W64) (tt, tt)
  one_needs class.Lowpart c m w part = part w
  one_needs class.Unary c m w part = operand_needs (alone (operator_of c)) (m.made w) w (part w)
  one_needs class.Extension c m w part = converted_needs m.width c m w part
  one_needs class.Truncation c m w part = converted_needs m.width c m w part
  one_needs k c m w part = (tt, tt)

  divisor_is : (q : Asks) (b : Tree) → Needs (spec.divisor_needs q b)
  divisor_is Nothing b = tt
  divisor_is SecondNonzero b = by (spec.is_nonzero (constant_in b))
    where
      by : (nonzero : Bool) → Needs (if nonzero then [] else Divisor b ∷ [])
      by true = tt
      by false = (tt, tt)

  operands_needs : (o : Option Operator) (a b : Made) (w : Width) → Needs a.needs → Needs b.needs → Needs (spec.of_operands stores o w a b).needs
  operands_needs None a b w first second = (tt, tt)
  operands_needs (Some o) a b w first second =
      needs_joined regs some (a.needs ++ b.needs) (spec.divisor_needs (asks_of o) b.term) (needs_joined regs some a.needs b.needs first second) (divisor_is (asks_of o) b.term)

  shifted_needs : (o : Option Operator) (a b : Made) (w : Width) → Needs a.needs → Needs b.needs → Needs (spec.of_shifted stores o w a b).needs
  shifted_needs None a b w first second = (tt, tt)
  shifted_needs (Some o) a b w first second = needs_joined regs some a.needs b.needs first second

  related_needs : (o : Option Relation) (own : Width) (a b : Made) (w : Width) → Needs a.needs → Needs b.needs → Needs (spec.of_related stores o own w a b).needs
  related_needs None own a b w first second = (tt, tt)
  related_needs (Some r) own a b w first second = needs_joined regs some a.needs b.needs first second

  compared_needs : (o : Option Width) (c : Code) (a b : Reading) (w : Width) → PartNeeds a → PartNeeds b → Needs (spec.of_compared stores o c a b w).needs
  compared_needs None c a b w first second = (tt, tt)
  compared_needs (Some own) c a b w first second =
      related_needs (relation_in (operator_of c)) own (a.made own) (b.made own) w (first own) (second own)

  two_needs : (k : Class) (c : Code) (a b : Reading) (w : Width) → PartNeeds a → PartNeeds b → Needs (spec.made_of_two stores k c a b w).needs
  two_needs class.Binary c a b w first second = operands_needs (operator_of c) (a.made w) (b.made w) w (first w) (second w)
  two_needs class.Shift c a b w first second =
      shifted_needs (counting (operator_of c)) (a.made w) (b.made (count_width b.width)) w (first w) (second (count_width b.width))
  two_needs class.Comparison c a b w first second = compared_needs (first_width a.width b.width) c a b w first second
  two_needs k c a b w first second = (tt, tt)

  made_needs : (c : Code) (n : ℤ) (name : List ℕ) (ms : List Reading) (w : Width) → is_natural c n ≡ true → ((q : ℕ) → is_reg_numbered c n (suc q) ≡ true → some (suc q) ≡ true) →
      AllByRecursion PartNeeds ms → Needs (spec.made_by regs stores (class_of_code c) c n name ms w).needs
  made_needs c n name [] w natural own parts = none_needs (class_of_code c) c n name w refl natural own
  made_needs c n name (a ∷ []) w natural own parts = one_needs (class_of_code c) c a w parts.0
  made_needs c n name (a ∷ b ∷ []) w natural own parts = two_needs (class_of_code c) c a b w parts.0 parts.1.0
  made_needs c n name (a ∷ b ∷ d ∷ ms) w natural own parts = (tt, tt)

-- ---- each expression

module _ (regs : List Changed) (stores : List Store) where
  abbrev terms : Rtx → Reading
  terms = spec.reading_of regs stores

  abbrev P : Rtx → Type 0
  P x = IsNatural x → (w : Width) → NeedsAre regs (λ reg. mentions_reg reg x) ((terms x).made w).needs

  abbrev Kid : Type 0
  Kid = (x : Rtx) × P x

  abbrev tree : Kid → Rtx
  tree y = y.0

  kids_need : (some : ℕ → Bool) (ys : List Kid) → list_all (λ here. here) (map all_natural (map tree ys)) ≡ true →
      ((q : ℕ) → list_any (λ here. here) (map (mentions_reg (suc q)) (map tree ys)) ≡ true → some (suc q) ≡ true) → AllByRecursion (PartNeeds regs stores some) (map terms (map tree ys))
  kids_need some [] natural stands = tt
  kids_need some (y ∷ ys) natural stands =
      let both = both_of (all_natural y.0) _ natural in (
        (λ w. needs_more regs (λ reg. mentions_reg reg y.0) some (λ q is. stands q (or_first (mentions_reg (suc q) y.0) _ is)) ((terms y.0).made w).needs (y.1 both.0 w)),
        kids_need some ys both.1 (λ q is. stands q (or_later (mentions_reg (suc q) y.0) _ is)),
      )

  layer : (y : Rtx-F Kid) → P (roll-Rtx (map-Rtx Kid Rtx tree y))
  layer y natural w =
      let z : Rtx-F Rtx = map-Rtx Kid Rtx tree y in
      let some : ℕ → Bool = λ reg. mentions_reg reg (roll-Rtx z) in
      let made = fold-roll-Rtx Reading (spec.reading_step regs stores) z in
      let numbers = both_of (is_natural z.code z.number) _ (sym (fold-roll-Rtx Bool natural_step z) ∙ natural) in
      subst (λ (m : Reading). NeedsAre regs some (m.made w).needs) (sym made)
      (made_needs regs stores some z.code z.number z.name (map terms z.kids) w numbers.0
      (λ q is. fold-roll-Rtx Bool (mentions_step (suc q)) z ∙ or_first (is_reg_numbered z.code z.number (suc q)) _ is)
      (kids_need some y.kids numbers.1 (λ q is. fold-roll-Rtx Bool (mentions_step (suc q)) z ∙ or_later (is_reg_numbered z.code z.number (suc q)) _ is)))

  all_need : (x : Rtx) → P x
  all_need = ind-Rtx P (λ x y e. subst (λ (z : Rtx-F Rtx). P (roll-Rtx z)) e (layer y))

  -- the registers that an expression needs stand in it
  pub value_needs : (x : Rtx) (w : Width) → IsNatural x → NeedsAre regs (λ reg. mentions_reg reg x) (spec.made_of regs stores x w).needs
  value_needs x w natural = all_need x natural w
