-- The value of an expression is the number of its term, where its needs are met; else it has none.
use Rattle.std.proofs.Common.{◌≡◌, ℕ, zero, suc, ◌<◌, ◌^◌, ◌==◌, ◌&&◌, not, Bool, true, false, List, [], ◌∷◌, ◌++◌, map, length, Option, Some, None, refl, sym, ◌∙◌, ap, subst}
use Rattle.std.specs.Prelude.{ℤ, if◌then◌else◌, option_map, option_and_then, is_some}
use Rattle.std.specs.Int.{cast_unsigned, w64}
use Rattle.std.proofs.lemmas.List.Folds.{list_all-append}
use Rattle.bits64.specs.declared.Width.{Width}
use Rattle.bits64.specs.declared.Width.TheVariants.{W8, W16, W32, W64}
use Rattle.bits64.specs.declared.operator.Operator.{Operator}
use Rattle.bits64.specs.declared.operator.Relation.{Relation}
use Rattle.bits64.specs.declared.operator.Asks.{Asks}
use Rattle.bits64.specs.declared.operator.Asks.TheVariants.{Nothing, SecondNonzero}
use Rattle.bits64.specs.Words.{low}
use Rattle.bits64.specs.Operators.{number, holds, truth, lacks, asks_of}
use Rattle.bits64.proofs.Operators.{below}
use Rattle.rtx_tree.specs.Code.{class_of_code}
use Rattle.rtx_tree.specs.declared.class.Class.{Class}
use Rattle.rtx_tree.specs.declared.class.Class.TheVariants as class
use Rattle.rtx_tree.specs.declared.code.Code.{Code}
use Rattle.rtx_tree.specs.declared.code.Code.TheVariants as code
use Rattle.rtx_tree.specs.declared.memories.MemByte.{MemByte}
use Rattle.rtx_tree.specs.declared.tree.Rtx.{Rtx, roll-Rtx}
use Rattle.rtx_tree.specs.declared.tree.Rtx.TheFolds.{fold-roll-Rtx, ind-Rtx, map-Rtx}
use Rattle.rtx_tree.specs.declared.tree.Rtx.TheOpen.{Rtx-F}
use Rattle.run_memory.specs.Symbols.{symbol_address}
use Rattle.run_memory.specs.RunMemory.{load}
use Rattle.rtl_step.specs.Regs.{Regs, reg_value}
use Rattle.rtl_step.specs.Value as rtl
use Rattle.term_tree.specs.declared.head.Head.TheVariants as heads
use Rattle.term_tree.specs.Tree.{Tree, width_of}
use Rattle.term_tree.specs.Form.{narrower}
use Rattle.term_mean.specs.Meaning.{Valuation, mean}
use Rattle.term_mean.specs.Stores.{Store}
use Rattle.term_mean.specs.Sums.{constant, constant_in}
use Rattle.term_mean.specs.Compared.{low_bits}
use Rattle.term_mean.proofs.SumLaws.{mean-constant}
use Rattle.term_mean.proofs.ComparedLaws.{mean-low_bits, width-low_bits}
use Rattle.term_mean.proofs.ShiftLaws.{constant-is}
use Rattle.term_mean.proofs.NormalWidths.{width-built}
use Rattle.sym_insns.specs.sym_state.State.{State, Need, own_register, own_symbol}
use Rattle.sym_insns.specs.sym_state.State as state
use Rattle.sym_insns.specs.sym_state.Registers.{held, read, term_held}
use Rattle.sym_insns.specs.sym_state.Makers.{one, related, term_of}
use Rattle.sym_insns.specs.Value as spec
use Rattle.sym_insns.specs.Value.{Made, Reading}
use Rattle.law_insn_terms.specs.Needs.{First, is_met, are_met, worth}
use Rattle.law_insn_terms.specs.Shows.{IsOf, Shows}
use Rattle.law_insn_terms.proofs.Operations as made
use Rattle.law_insn_terms.proofs.Parts.{register_worth, load_worth}

module _ (v : Valuation) (f : First) where
  -- ---- what is made of parts

  worth_one : (g : ℕ → Option ℕ) (h : Tree → Tree) (a : Made) → g (mean v a.term) ≡ Some (mean v (h a.term)) →
      option_and_then g (worth v f a) ≡ worth v f (spec.of_one h a)
  worth_one g h a is = by (are_met v f a.needs)
    where
      by : (b : Bool) → option_and_then g (if b then Some (mean v a.term) else None) ≡ (if b then Some (mean v (h a.term)) else None)
      by true = is
      by false = refl

  pub both_met : (xs ys : List Need) → are_met v f (xs ++ ys) ≡ (are_met v f xs && are_met v f ys)
  both_met xs ys = list_all-append (is_met v f) xs ys

  worth_two : (g : ℕ → ℕ → Option ℕ) (h : Tree → Tree → Tree) (a b : Made) → g (mean v a.term) (mean v b.term) ≡ Some (mean v (h a.term b.term)) →
      rtl.of_two g (worth v f a) (worth v f b) ≡ worth v f (spec.of_two h a b)
  worth_two g h a b is =
      by (are_met v f a.needs) (are_met v f b.needs)
      ∙ ap (λ c. if c then Some (mean v (h a.term b.term)) else None) (sym (both_met a.needs b.needs))
    where
      by : (c d : Bool) → rtl.of_two g (if c then Some (mean v a.term) else None) (if d then Some (mean v b.term) else None) ≡ (if c && d then Some (mean v (h a.term b.term)) else None)
      by true true = is
      by true false = refl
      by false true = refl
      by false false = refl

  -- two operands, the second of which may be a divisor
  worth_operands : (stores : List Store) (o : Operator) (w : Width) (a b : Made) →
      rtl.operated o w (mean v a.term) (mean v b.term) ≡ (if are_met v f (spec.divisor_needs (asks_of o) b.term) then Some (mean v (term_of stores o w a.term b.term)) else None) →
      rtl.of_two (rtl.operated o w) (worth v f a) (worth v f b) ≡ worth v f (spec.of_operands stores (Some o) w a b)
  worth_operands stores o w a b is =
      by (are_met v f a.needs) (are_met v f b.needs)
      ∙ ap (λ m. if m then Some (mean v (term_of stores o w a.term b.term)) else None)
      (sym (both_met (a.needs ++ b.needs) (spec.divisor_needs (asks_of o) b.term) ∙ ap (λ m. m && are_met v f (spec.divisor_needs (asks_of o) b.term)) (both_met a.needs b.needs)))
    where
      by : (x y : Bool) → rtl.of_two (rtl.operated o w) (if x then Some (mean v a.term) else None) (if y then Some (mean v b.term) else None) ≡
          (if (x && y) && are_met v f (spec.divisor_needs (asks_of o) b.term) then Some (mean v (term_of stores o w a.term b.term)) else None)
      by true true = is
      by true false = refl
      by false true = refl
      by false false = refl

  -- a divisor that is a constant other than 0, or that is not 0
  nonzero_low : (w : Width) (b : Tree) → width_of b ≡ w → low w (mean v b) ≡ mean v b
  nonzero_low w b is = sym (below w (mean v b) (made.mean_below v w b is))

  and_true : (x : Bool) → (x && true) ≡ x
  and_true true = refl
  and_true false = refl

  divisor_met : (b : Tree) (c : Option ℕ) → constant_in b ≡ c →
      are_met v f (if spec.is_nonzero c then [] else state.Divisor b ∷ []) ≡ not (mean v b == 0)
  divisor_met b None is = and_true (not (mean v b == 0))
  divisor_met b (Some c) is = by (c == 0) refl
    where
      number : mean v b ≡ c
      number = constant-is v b c is

      by : (z : Bool) → (c == 0) ≡ z → are_met v f (if not z then [] else state.Divisor b ∷ []) ≡ not (mean v b == 0)
      by true e = and_true (not (mean v b == 0))
      by false e = sym (ap (λ n. not (n == 0)) number ∙ ap not e)

  -- a number is there where its second operand lacks nothing: where what it asks is met
  asked : (q : Asks) (w : Width) (b : Tree) (m n : ℕ) → m ≡ n → width_of b ≡ w →
      (if lacks q w (mean v b) then None else Some m) ≡ (if are_met v f (spec.divisor_needs q b) then Some n else None)
  asked Nothing w b m n e is = ap Some e
  asked SecondNonzero w b m n e is =
      ap (λ k. if k == 0 then None else Some m) (nonzero_low w b is)
      ∙ turned (mean v b == 0)
      ∙ ap (λ x. if x then Some m else None) (sym (divisor_met b (constant_in b) refl))
      ∙ ap (λ k. if are_met v f (spec.divisor_needs SecondNonzero b) then Some k else None) e
    where
      turned : (z : Bool) → (if z then None else Some m) ≡ (if not z then Some m else None)
      turned true = refl
      turned false = refl

-- ---- an expression by its parts

module _ (v : Valuation) (f : First) (s : State) (regs : Regs) (memory : List MemByte) (of : IsOf v f) (shows : Shows v f s regs memory) where
  -- what an expression is worth: its value is the number of its term where its needs are met, and the term has the width
  pub record IsWorth (value : Option ℕ) (m : Made) (w : Width) : Type 0 where
    pub value_is : value ≡ worth v f m
    pub width_is : width_of m.term ≡ w

  -- an expression as its outside reads it, over numbers and over terms
  pub record Agree (r : rtl.Reading) (m : Reading) : Type 0 where
    pub widths : r.width ≡ m.width
    pub values : (w : Width) → IsWorth (r.value w) (m.made w) w

  abbrev AllAgree : List rtl.Reading → List Reading → Type 0
  AllAgree [] [] = Unit {0}
  AllAgree [] (m ∷ ms) = ⊥
  AllAgree (r ∷ rs) [] = ⊥
  AllAgree (r ∷ rs) (m ∷ ms) = Agree r m × AllAgree rs ms

  none_worth : (w : Width) → IsWorth None (spec.no_value w) w
  none_worth w = record { value_is = refl; width_is = refl }

  -- expressions of a class and a code are worth what is made of them, whatever their parts are
  abbrev Good : Class → Code → Type 0
  Good k c = (n : ℤ) (name : List ℕ) (rs : List rtl.Reading) (ms : List Reading) → AllAgree rs ms → (w : Width) →
      IsWorth (rtl.value_by f.symbols regs memory k c n name rs w) (spec.made_by s.regs s.stores k c n name ms w) w

  -- by the number of parts
  good_by : (k : Class) (c : Code) →
      ((n : ℤ) (name : List ℕ) (w : Width) → IsWorth (rtl.value_of_none f.symbols regs k n name w) (spec.made_of_none s.regs k n name w) w) →
      ((r : rtl.Reading) (m : Reading) → Agree r m → (w : Width) → IsWorth (rtl.value_of_one memory k c r w) (spec.made_of_one s.stores k c m w) w) →
      ((r r' : rtl.Reading) (m m' : Reading) → Agree r m → Agree r' m' → (w : Width) → IsWorth (rtl.value_of_two k c r r' w) (spec.made_of_two s.stores k c m m' w) w) →
      Good k c
  good_by k c none one two n name [] [] all w = none n name w
  good_by k c none one two n name [] (m ∷ ms) all w = absurd all
  good_by k c none one two n name (r ∷ rs) [] all w = absurd all
  good_by k c none one two n name (r ∷ []) (m ∷ []) all w = one r m all.0 w
  good_by k c none one two n name (r ∷ []) (m ∷ m' ∷ ms) all w = absurd all.1
  good_by k c none one two n name (r ∷ r' ∷ rs) (m ∷ []) all w = absurd all.1
  good_by k c none one two n name (r ∷ r' ∷ []) (m ∷ m' ∷ []) all w = two r r' m m' all.0 all.1.0 w
  good_by k c none one two n name (r ∷ r' ∷ []) (m ∷ m' ∷ m'' ∷ ms) all w = absurd all.1.1
  good_by k c none one two n name (r ∷ r' ∷ r'' ∷ rs) (m ∷ m' ∷ []) all w = absurd all.1.1
  good_by k c none one two n name (r ∷ r' ∷ r'' ∷ rs) (m ∷ m' ∷ m'' ∷ ms) all w = none_worth w

  -- ---- expressions without parts

  symbol_worth_by : (name : List ℕ) (w : Width) (o : Option ℕ) → symbol_address f.symbols name ≡ o →
      option_map (low w) o ≡ (if is_some o && true then Some (mean v (low_bits w (own_symbol name))) else None)
  symbol_worth_by name w None is = refl
  symbol_worth_by name w (Some address) is =
      ap Some (ap (low w) (of.symbols name address is)
      ∙ sym (mean-low_bits v w (own_symbol name) ∙ ap (low w) (sym (below W64 (v.sym name) (subst (λ a. a < 2 ^ 64) (of.symbols name address is) (of.words name address is))))))

  symbol_worth : (name : List ℕ) (w : Width) → IsWorth (option_map (low w) (symbol_address f.symbols name)) (spec.of_symbol name w) w
  symbol_worth name w = record {
    value_is = symbol_worth_by name w (symbol_address f.symbols name) refl;
    width_is = width-low_bits w (own_symbol name);
  }

  pub read_width : (reg : ℕ) (w : Width) → width_of (read s.regs reg w) ≡ w
  read_width zero w = refl
  read_width (suc reg) w = by (held s.regs (suc reg))
    where
      either : (b : Bool) (t u : Tree) → width_of t ≡ w → width_of u ≡ w → width_of (if b then t else u) ≡ w
      either true t u p q = p
      either false t u p q = q

      by : (left : Option (Option Tree)) → width_of (term_held left (suc reg) w) ≡ w
      by None = width-low_bits w (own_register (suc reg))
      by (Some None) = width-low_bits w (own_register (suc reg))
      by (Some (Some t)) = either (narrower (width_of t) w) (low_bits w (own_register (suc reg))) (low_bits w t) (width-low_bits w (own_register (suc reg))) (width-low_bits w t)

  reg_worth : (reg : ℕ) (w : Width) → IsWorth (reg_value regs reg w) (spec.of_register s.regs reg w) w
  reg_worth reg w = record { value_is = register_worth v f of s regs reg w shows.registers; width_is = read_width reg w }

  constant_worth : (n : ℤ) (w : Width) → IsWorth (Some (low w (cast_unsigned w64 n))) (record { term = constant w (cast_unsigned w64 n); needs = [] }) w
  constant_worth n w = record { value_is = ap Some (sym (mean-constant v w (cast_unsigned w64 n))); width_is = refl }

  good_register : (c : Code) → Good class.Register c
  good_register c = good_by class.Register c (λ n name w. reg_worth (cast_unsigned w64 n) w) (λ r m a w. none_worth w) (λ r r' m m' a a' w. none_worth w)

  good_constant : (c : Code) → Good class.Constant c
  good_constant c = good_by class.Constant c (λ n name w. constant_worth n w) (λ r m a w. none_worth w) (λ r r' m m' a a' w. none_worth w)

  good_symbol : (c : Code) → Good class.Symbol c
  good_symbol c = good_by class.Symbol c (λ n name w. symbol_worth name w) (λ r m a w. none_worth w) (λ r r' m m' a a' w. none_worth w)

  -- ---- of one part

  no_one : (o : Option ℕ) → ◌≡◌ {A = Option ℕ} (option_and_then (λ n. None) o) None
  no_one None = refl
  no_one (Some n) = refl

  no_two : (o p : Option ℕ) → ◌≡◌ {A = Option ℕ} (rtl.of_two (λ m n. None) o p) None
  no_two None p = refl
  no_two (Some m) p = no_one p

  zero_is : (w : Width) → mean v (constant w 0) ≡ 0
  zero_is w = mean-constant v w 0 ∙ none w
    where
      none : (w : Width) → low w 0 ≡ 0
      none W8 = refl
      none W16 = refl
      none W32 = refl
      none W64 = refl

  operand_worth : (p : Option Operator) (w : Width) (m : Made) →
      IsWorth (option_and_then (λ n. option_map (λ o. number o w n 0) p) (worth v f m)) (spec.of_operand s.stores p w m) w
  operand_worth None w m = record { value_is = no_one (worth v f m); width_is = refl }
  operand_worth (Some o) w m =
      let makes = made.made v s.stores o w m.term (constant w 0) shows.stored in
      record {
        value_is = worth_one v f (λ n. Some (number o w n 0)) (λ t. term_of s.stores o w t (constant w 0)) m (ap Some (ap (number o w (mean v m.term)) (sym (zero_is w)) ∙ makes.number_is));
        width_is = makes.width_is;
      }

  good_unary : (c : Code) → Good class.Unary c
  good_unary c = good_by class.Unary c (λ n name w. none_worth w) (λ r m a w.
      subst (λ o. IsWorth (option_and_then (rtl.unary c w) o) (spec.of_operand s.stores (rtl.alone (rtl.operator_of c)) w (m.made w)) w) (sym (a.values w).value_is)
      (operand_worth (rtl.alone (rtl.operator_of c)) w (m.made w)))
      (λ r r' m m' a a' w. none_worth w)

  good_lowpart : (c : Code) → Good class.Lowpart c
  good_lowpart c = good_by class.Lowpart c (λ n name w. none_worth w) (λ r m a w. a.values w) (λ r r' m m' a a' w. none_worth w)

  -- of a part that is as wide as it says
  conversion_worth : (c : Code) (own w : Width) (m : Made) → width_of m.term ≡ own →
      IsWorth (option_and_then (rtl.converted c own w) (worth v f m)) (spec.of_conversion s.stores (spec.conversion_of c) w m) w
  conversion_worth code.SignExtend own w m is =
      let makes = made.sign_made v s.stores own w m.term shows.stored is in
      record {
        value_is = worth_one v f (rtl.converted code.SignExtend own w) (one s.stores heads.Sext w) m (ap Some makes.number_is);
        width_is = makes.width_is;
      }
  conversion_worth code.ZeroExtend own w m is =
      let makes = made.zero_made v s.stores own w m.term shows.stored is in
      record {
        value_is = worth_one v f (rtl.converted code.ZeroExtend own w) (one s.stores heads.Zext w) m (ap Some makes.number_is);
        width_is = makes.width_is;
      }
  conversion_worth code.Truncate own w m is =
      let makes = made.truncate_made v s.stores w m.term shows.stored in
      record {
        value_is = worth_one v f (rtl.converted code.Truncate own w) (one s.stores heads.Trunc w) m (ap Some makes.number_is);
        width_is = makes.width_is;
      }
  conversion_worth _ own w m is = record { value_is = no_one (worth v f m); width_is = refl }

  convert : (c : Code) (r : rtl.Reading) (m : Reading) → Agree r m → (w : Width) (own : Option Width) → r.width ≡ own →
      IsWorth (rtl.of_converted c r w) (spec.of_converted s.stores own c m w) w
  convert c r m a w None is = record { value_is = ap (λ o. option_and_then (λ own. rtl.of_one (rtl.converted c own w) (r.value own)) o) is; width_is = refl }
  convert c r m a w (Some own) is =
      subst (λ o. IsWorth (option_and_then (λ own. rtl.of_one (rtl.converted c own w) (r.value own)) o) (spec.of_converted s.stores (Some own) c m w) w) (sym is)
      (subst (λ o. IsWorth (option_and_then (rtl.converted c own w) o) (spec.of_converted s.stores (Some own) c m w) w) (sym (a.values own).value_is)
      (conversion_worth c own w (m.made own) (a.values own).width_is))

  good_extension : (c : Code) → Good class.Extension c
  good_extension c = good_by class.Extension c (λ n name w. none_worth w) (λ r m a w. convert c r m a w m.width a.widths) (λ r r' m m' a a' w. none_worth w)

  good_truncation : (c : Code) → Good class.Truncation c
  good_truncation c = good_by class.Truncation c (λ n name w. none_worth w) (λ r m a w. convert c r m a w m.width a.widths) (λ r r' m m' a a' w. none_worth w)

  memory_one : (c : Code) (r : rtl.Reading) (m : Reading) → Agree r m → (w : Width) → IsWorth (rtl.value_of_one memory class.Memory c r w) (spec.loaded s.stores w (m.made W64)) w
  memory_one c r m a w = record {
    value_is = ap (λ o. option_and_then (load w memory) o) (a.values W64).value_is
        ∙ by (are_met v f (m.made W64).needs)
        ∙ ap (λ b. if b then Some (mean v (spec.load_at s.stores w (m.made W64).term)) else None) (sym (both_met v f (m.made W64).needs (state.Access (m.made W64).term w ∷ [])));
    width_is = width-built s.stores heads.Load w (length s.stores) [] ((m.made W64).term ∷ []);
  }
    where
      there : load w memory (mean v (m.made W64).term) ≡ (if is_some (load w f.memory (mean v (m.made W64).term)) && true then Some (mean v (spec.load_at s.stores w (m.made W64).term)) else None)
      there = load_worth v f memory (length s.stores) shows.memory_is w (m.made W64).term s.stores shows.stored refl

      by : (b : Bool) → option_and_then (load w memory) (if b then Some (mean v (m.made W64).term) else None) ≡
          (if b && are_met v f (state.Access (m.made W64).term w ∷ []) then Some (mean v (spec.load_at s.stores w (m.made W64).term)) else None)
      by true = there
      by false = refl

  good_memory : (c : Code) → Good class.Memory c
  good_memory c = good_by class.Memory c (λ n name w. none_worth w) (memory_one c) (λ r r' m m' a a' w. none_worth w)

  -- ---- of two parts

  operands_worth : (p : Option Operator) (w : Width) (m m' : Made) → width_of m'.term ≡ w →
      IsWorth (rtl.of_two (λ a b. option_and_then (λ o. rtl.operated o w a b) p) (worth v f m) (worth v f m')) (spec.of_operands s.stores p w m m') w
  operands_worth None w m m' is = record { value_is = no_two (worth v f m) (worth v f m'); width_is = refl }
  operands_worth (Some o) w m m' is =
      let makes = made.made v s.stores o w m.term m'.term shows.stored in
      record {
        value_is = worth_operands v f s.stores o w m m' (asked v f (asks_of o) w m'.term _ _ makes.number_is is);
        width_is = makes.width_is;
      }

  good_binary : (c : Code) → Good class.Binary c
  good_binary c = good_by class.Binary c (λ n name w. none_worth w) (λ r m a w. none_worth w) (λ r r' m m' a a' w.
      subst (λ o. IsWorth (rtl.of_two (rtl.binary c w) o (r'.value w)) (spec.of_operands s.stores (rtl.operator_of c) w (m.made w) (m'.made w)) w) (sym (a.values w).value_is)
      (subst (λ o. IsWorth (rtl.of_two (rtl.binary c w) (worth v f (m.made w)) o) (spec.of_operands s.stores (rtl.operator_of c) w (m.made w) (m'.made w)) w) (sym (a'.values w).value_is)
      (operands_worth (rtl.operator_of c) w (m.made w) (m'.made w) (a'.values w).width_is)))

  count_worth : (p : Option Operator) (w : Width) (m m' : Made) →
      IsWorth (rtl.of_two (λ a b. option_map (λ o. number o w a b) p) (worth v f m) (worth v f m')) (spec.of_shifted s.stores p w m m') w
  count_worth None w m m' = record { value_is = no_two (worth v f m) (worth v f m'); width_is = refl }
  count_worth (Some o) w m m' =
      let makes = made.made v s.stores o w m.term m'.term shows.stored in
      record {
        value_is = worth_two v f (λ a b. Some (number o w a b)) (term_of s.stores o w) m m' (ap Some makes.number_is);
        width_is = makes.width_is;
      }

  good_shift : (c : Code) → Good class.Shift c
  good_shift c = good_by class.Shift c (λ n name w. none_worth w) (λ r m a w. none_worth w) (λ r r' m m' a a' w.
      let own : Width = rtl.count_width m'.width in
      let whole : Made = spec.of_shifted s.stores (rtl.counting (rtl.operator_of c)) w (m.made w) (m'.made own) in
      subst (λ o. IsWorth (rtl.of_two (rtl.shifted c w) o (r'.value (rtl.count_width r'.width))) whole w) (sym (a.values w).value_is)
      (subst (λ (u : Option Width). IsWorth (rtl.of_two (rtl.shifted c w) (worth v f (m.made w)) (r'.value (rtl.count_width u))) whole w) (sym a'.widths)
      (subst (λ o. IsWorth (rtl.of_two (rtl.shifted c w) (worth v f (m.made w)) o) whole w) (sym (a'.values own).value_is)
      (count_worth (rtl.counting (rtl.operator_of c)) w (m.made w) (m'.made own)))))

  truth_worth : (p : Option Relation) (own w : Width) (m m' : Made) →
      IsWorth (rtl.of_two (λ a b. option_map (λ r. truth (holds r own a b)) p) (worth v f m) (worth v f m')) (spec.of_related s.stores p own w m m') w
  truth_worth None own w m m' = record { value_is = no_two (worth v f m) (worth v f m'); width_is = refl }
  truth_worth (Some r) own w m m' =
      let makes = made.related_made v s.stores r own w m.term m'.term shows.stored in
      record {
        value_is = worth_two v f (λ a b. Some (truth (holds r own a b))) (related s.stores r own w) m m' (ap Some makes.number_is);
        width_is = makes.width_is;
      }

  compare : (c : Code) (r r' : rtl.Reading) (m m' : Reading) → Agree r m → Agree r' m' → (w : Width) (own : Option Width) → rtl.first_width r.width r'.width ≡ own →
      IsWorth (rtl.of_compared c r r') (spec.of_compared s.stores own c m m' w) w
  compare c r r' m m' a a' w None is = record {
    value_is = ap (λ o. option_and_then (λ own. rtl.of_two (rtl.compared c own) (r.value own) (r'.value own)) o) is;
    width_is = refl;
  }
  compare c r r' m m' a a' w (Some own) is =
      let whole : Made = spec.of_compared s.stores (Some own) c m m' w in
      subst (λ o. IsWorth (option_and_then (λ own. rtl.of_two (rtl.compared c own) (r.value own) (r'.value own)) o) whole w) (sym is)
      (subst (λ o. IsWorth (rtl.of_two (rtl.compared c own) o (r'.value own)) whole w) (sym (a.values own).value_is)
      (subst (λ o. IsWorth (rtl.of_two (rtl.compared c own) (worth v f (m.made own)) o) whole w) (sym (a'.values own).value_is)
      (truth_worth (rtl.relation_in (rtl.operator_of c)) own w (m.made own) (m'.made own))))

  good_comparison : (c : Code) → Good class.Comparison c
  good_comparison c = good_by class.Comparison c (λ n name w. none_worth w) (λ r m a w. none_worth w) (λ r r' m m' a a' w.
      compare c r r' m m' a a' w (rtl.first_width m.width m'.width) (ap (λ o. rtl.first_width o r'.width) a.widths ∙ ap (λ o. rtl.first_width m.width o) a'.widths))

  -- ---- each class

  good : (k : Class) (c : Code) → Good k c
  good class.Register c = good_register c
  good class.Constant c = good_constant c
  good class.Symbol c = good_symbol c
  good class.Memory c = good_memory c
  good class.Lowpart c = good_lowpart c
  good class.Unary c = good_unary c
  good class.Binary c = good_binary c
  good class.Shift c = good_shift c
  good class.Extension c = good_extension c
  good class.Truncation c = good_truncation c
  good class.Comparison c = good_comparison c
  good k c = good_by k c (λ n name w. none_worth w) (λ r m a w. none_worth w) (λ r r' m m' a a' w. none_worth w)

  -- ---- each expression

  abbrev numbers : Rtx → rtl.Reading
  numbers = rtl.reading_of f.symbols regs memory

  abbrev terms : Rtx → Reading
  terms = spec.reading_of s.regs s.stores

  abbrev P : Rtx → Type 0
  P x = Agree (numbers x) (terms x)

  kids_agree : (ys : List ((x : Rtx) × P x)) → AllAgree (map numbers (map (λ (y : (x : Rtx) × P x). y.0) ys)) (map terms (map (λ (y : (x : Rtx) × P x). y.0) ys))
  kids_agree [] = tt
  kids_agree (y ∷ ys) = (y.1, kids_agree ys)

  layer : (y : Rtx-F ((x : Rtx) × P x)) → P (roll-Rtx (map-Rtx ((x : Rtx) × P x) Rtx (λ e. e.0) y))
  layer y =
      let z : Rtx-F Rtx = map-Rtx ((x : Rtx) × P x) Rtx (λ e. e.0) y in
      let r = fold-roll-Rtx rtl.Reading (rtl.reading_step f.symbols regs memory) z in
      let m = fold-roll-Rtx Reading (spec.reading_step s.regs s.stores) z in
      subst (λ (r : rtl.Reading). Agree r (terms (roll-Rtx z))) (sym r) (
      subst (λ (m : Reading). Agree (rtl.reading_step f.symbols regs memory (map-Rtx Rtx rtl.Reading numbers z)) m) (sym m) (record {
        widths = refl;
        values = good (class_of_code z.code) z.code z.number z.name (map numbers z.kids) (map terms z.kids) (kids_agree y.kids);
      }))

  agree : (x : Rtx) → P x
  agree = ind-Rtx P (λ x y e. subst (λ (z : Rtx-F Rtx). P (roll-Rtx z)) e (layer y))

  -- the value of an expression in a width is the number of its term where its needs are met, and it has none where they are not
  pub value_worth : (x : Rtx) (w : Width) → rtl.value_of f.symbols regs memory x w ≡ worth v f (spec.made_of s.regs s.stores x w)
  value_worth x w = ((agree x).values w).value_is

  -- the term has the width
  pub made_width : (x : Rtx) (w : Width) → width_of (spec.made_of s.regs s.stores x w).term ≡ w
  made_width x w = ((agree x).values w).width_is
