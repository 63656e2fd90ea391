-- The value of an expression in a width has no more bits than the width.
use Rattle.std.proofs.Common.{◌≡◌, ℕ, zero, suc, ◌+◌, ◌-◌, ◌*◌, ◌/◌, ◌%◌, ◌^◌, ◌<◌, ◌≤◌, if◌then◌else◌, Bool, true, false, List, [], ◌∷◌, map, Option, Some, None, refl, sym, subst, arith}
use Rattle.std.proofs.Math.Nat.{mod-lt, mod-eq_of_lt, pow-succ'}
use Rattle.std.proofs.lemmas.List.Elements.{All-head, All-tail}
use Rattle.std.specs.FinMap.{get}
use Rattle.std.specs.Int.{cast_unsigned, w64}
use Rattle.std.specs.List.{All}
use Rattle.std.specs.Prelude.{ℤ, pos, negsuc, ◌==◌, option_map, option_and_then}
use Rattle.law_operands_replaced.specs.bits64.Words.{bits_of, bytes_of, low}
use Rattle.law_operands_replaced.specs.bits64.Operators.{number, holds, truth, lacks, asks_of}
use Rattle.law_operands_replaced.specs.bits64.declared.operator.Operator.{Operator}
use Rattle.law_operands_replaced.specs.bits64.declared.operator.Relation.{Relation}
use Rattle.law_operands_replaced.specs.bits64.declared.Width.{Width}
use Rattle.law_operands_replaced.specs.bits64.declared.Width.TheVariants.{W8, W16, W32, W64}
use Rattle.law_operands_replaced.specs.rtx_tree.Code.{class_of_code}
use Rattle.law_operands_replaced.specs.rtx_tree.Memories.{byte_at}
use Rattle.law_operands_replaced.specs.rtx_tree.declared.class.Class.{Class}
use Rattle.law_operands_replaced.specs.rtx_tree.declared.class.Class.TheVariants as class
use Rattle.law_operands_replaced.specs.rtx_tree.declared.code.Code.{Code}
use Rattle.law_operands_replaced.specs.rtx_tree.declared.code.Code.TheVariants as code
use Rattle.law_operands_replaced.specs.rtx_tree.declared.machine.SymbolAt.{SymbolAt}
use Rattle.law_operands_replaced.specs.rtx_tree.declared.memories.MemByte.{MemByte}
use Rattle.law_operands_replaced.specs.rtx_tree.declared.tree.Rtx.{Rtx, roll-Rtx}
use Rattle.law_operands_replaced.specs.rtx_tree.declared.tree.Rtx.TheFolds.{fold-roll-Rtx, ind-Rtx, map-Rtx}
use Rattle.law_operands_replaced.specs.rtx_tree.declared.tree.Rtx.TheOpen.{Rtx-F}
use Rattle.law_operands_replaced.specs.run_memory.RunMemory.{is_aligned, load, number_at}
use Rattle.law_operands_replaced.specs.run_memory.Symbols.{symbol_address}
use Rattle.law_operands_replaced.specs.rtl_step.Regs.{Regs, known_in, reg_value}
use Rattle.law_operands_replaced.specs.rtl_step.Value.{Reading, operator_of, alone, counting, relation_in, operated, unary, binary, shifted, compared, converted, of_one, of_two, first_width, count_width, value_of_none, value_of_one, value_of_two, value_by, reading_step, reading_of, value_of}
use Rattle.law_operands_replaced.specs.rtl_step.declared.regs.Known.{Known}
use Rattle.law_operands_replaced.proofs.bits64.Operators.{number_fits}
use Rattle.same_behaviour.specs.Lawful.{IsByte, IsMemory}
use Rattle.law_homes.proofs.Stores.{bytes_bits}

-- ---- numbers

-- what there is has no more bits
abbrev pub Fits : Width → Option ℕ → Type 0
Fits w o = (v : ℕ) → o ≡ Some v → v < 2 ^ bits_of w

fits_none : (w : Width) → Fits w None
fits_none w v is = absurd (let no : ⊥ = cc in no)

fits_some : (w : Width) (n : ℕ) → n < 2 ^ bits_of w → Fits w (Some n)
fits_some w n less v is = let same : n ≡ v = cc in subst (λ n. n < 2 ^ bits_of w) same less

more_than_one : (w : Width) → 1 < 2 ^ bits_of w
more_than_one W8 = omega arith
more_than_one W16 = omega arith
more_than_one W32 = omega arith
more_than_one W64 = omega arith

some_power : (w : Width) → 0 < 2 ^ bits_of w
some_power w = omega (arith, more_than_one w)

low_fits : (w : Width) (n : ℕ) → low w n < 2 ^ bits_of w
low_fits w n = mod-lt n (some_power w)

-- no bits are cut
pub fits_low : (w : Width) (v : ℕ) → v < 2 ^ bits_of w → low w v ≡ v
fits_low w v less = mod-eq_of_lt less

-- ---- operations

one_fits : (w : Width) (f : ℕ → Option ℕ) (o : Option ℕ) → ((a : ℕ) → Fits w (f a)) → Fits w (of_one f o)
one_fits w f None each = fits_none w
one_fits w f (Some a) each = each a

two_fits : (w : Width) (f : ℕ → ℕ → Option ℕ) (o o' : Option ℕ) → ((a b : ℕ) → Fits w (f a b)) → Fits w (of_two f o o')
two_fits w f None o' each = fits_none w
two_fits w f (Some a) None each = fits_none w
two_fits w f (Some a) (Some b) each = each a b

number_of_fits : (o : Option Operator) (w : Width) (a b : ℕ) → Fits w (option_map (λ o. number o w a b) o)
number_of_fits None w a b = fits_none w
number_of_fits (Some o) w a b = fits_some w _ (number_fits o w a b)

unary_fits : (c : Code) (w : Width) (a : ℕ) → Fits w (unary c w a)
unary_fits c w a = number_of_fits (alone (operator_of c)) w a 0

unless_fits : (lacks : Bool) (w : Width) (n : ℕ) → n < 2 ^ bits_of w → Fits w (if lacks then None else Some n)
unless_fits true w n less = fits_none w
unless_fits false w n less = fits_some w n less

binary_fits : (c : Code) (w : Width) (a b : ℕ) → Fits w (binary c w a b)
binary_fits c w a b = by (operator_of c)
  where
    by : (o : Option Operator) → Fits w (option_and_then (λ o. operated o w a b) o)
    by None = fits_none w
    by (Some o) = unless_fits (lacks (asks_of o) w b) w _ (number_fits o w a b)

shifted_fits : (c : Code) (w : Width) (a b : ℕ) → Fits w (shifted c w a b)
shifted_fits c w a b = number_of_fits (counting (operator_of c)) w a b

truth_fits : (w : Width) (b : Bool) → Fits w (Some (truth b))
truth_fits w true = fits_some w 1 (more_than_one w)
truth_fits w false = fits_some w 0 (some_power w)

compared_fits : (c : Code) (w own : Width) (a b : ℕ) → Fits w (compared c own a b)
compared_fits c w own a b = by (relation_in (operator_of c))
  where
    by : (r : Option Relation) → Fits w (option_map (λ r. truth (holds r own a b)) r)
    by None = fits_none w
    by (Some r) = truth_fits w (holds r own a b)

converted_fits : (c : Code) (from to : Width) (a : ℕ) → Fits to (converted c from to a)
converted_fits code.SignExtend from to a = fits_some to _ (low_fits to _)
converted_fits code.ZeroExtend from to a = fits_some to _ (low_fits to _)
converted_fits code.Truncate from to a = fits_some to _ (low_fits to _)
converted_fits _ from to a = fits_none to

-- ---- registers and memory

known_fits : (b : Bool) (w : Width) (n : ℕ) → Fits w (if b then Some (low w n) else None)
known_fits true w n = fits_some w (low w n) (low_fits w n)
known_fits false w n = fits_none w

found_fits : (w : Width) (o : Option Known) → Fits w (option_and_then (known_in w) o)
found_fits w None = fits_none w
found_fits w (Some k) = known_fits _ w k.value

register_fits : (regs : Regs) (reg : ℕ) (w : Width) → Fits w (reg_value regs reg w)
register_fits regs zero w = fits_some w 0 (some_power w)
register_fits regs (suc reg) w = found_fits w (get regs (suc reg))

byte_small : (memory : List MemByte) → All IsByte memory → (address byte : ℕ) → byte_at memory address ≡ Some byte → byte < 256
byte_small [] bytes address byte is = absurd (let no : ⊥ = cc in no)
byte_small (b ∷ memory) bytes address byte is =
    by (b.address == address) is (λ found. byte_small memory (All-tail IsByte b memory bytes) address byte found)
  where
    by : (here : Bool) → (if here then Some b.byte else byte_at memory address) ≡ Some byte →
        (byte_at memory address ≡ Some byte → byte < 256) → byte < 256
    by true found later = let same : b.byte ≡ byte = cc in let small : b.byte < 2 ^ 8 =
        (All-head IsByte b memory bytes).byte in omega (arith, small, same)
    by false found later = later found

more_bytes : (b r power : ℕ) → b < 256 → r < power → b + 256 * r < 256 * power
more_bytes b r power first second = omega (arith, first, second)

number_small : (memory : List MemByte) → All IsByte memory → (address count v : ℕ) →
    number_at memory address count ≡ Some v → v < 256 ^ count
number_small memory bytes address zero v is = let same : 0 ≡ v = cc in let less : 0 < 256 ^ 0 = omega arith in
    subst (λ v. v < 256 ^ 0) same less
number_small memory bytes address (suc count) v is =
    by (byte_at memory address) (number_at memory (address + 1) count) refl (λ r at. number_small memory bytes (address + 1) count r at) is
  where
    by : (byte rest : Option ℕ) → byte_at memory address ≡ byte → ((r : ℕ) → rest ≡ Some r → r < 256 ^ count) →
        option_and_then (λ byte. option_map (λ rest. byte + 256 * rest) rest) byte ≡ Some v → v < 256 ^ suc count
    by None rest first second is = absurd (let no : ⊥ = cc in no)
    by (Some b) None first second is = absurd (let no : ⊥ = cc in no)
    by (Some b) (Some r) first second is =
        let same : b + 256 * r ≡ v = cc in
        let power : 256 * 256 ^ count ≡ 256 ^ suc count = rw pow-succ' refl in
        subst (λ p. v < p) power (subst (λ v. v < 256 * 256 ^ count) same
        (more_bytes b r (256 ^ count) (byte_small memory bytes address b first) (second r refl)))

-- what is loaded
pub load_fits : (memory : List MemByte) → IsMemory memory → (w : Width) (address : ℕ) → Fits w (load w memory address)
load_fits memory is w address = by (is_aligned w address)
  where
    by : (aligned : Bool) → Fits w (if aligned then number_at memory address (bytes_of w) else None)
    by true v found = subst (λ p. v < p) (bytes_bits w) (number_small memory is.bytes address (bytes_of w) v found)
    by false v found = absurd (let no : ⊥ = cc in no)

-- ---- expressions

module _ (symbols : List SymbolAt) (regs : Regs) (memory : List MemByte) (is : IsMemory memory) where
  symbol_fits : (w : Width) (o : Option ℕ) → Fits w (option_map (low w) o)
  symbol_fits w None = fits_none w
  symbol_fits w (Some n) = fits_some w (low w n) (low_fits w n)

  none_fits : (k : Class) (n : ℤ) (name : List ℕ) (w : Width) → Fits w (value_of_none symbols regs k n name w)
  none_fits class.Register n name w = register_fits regs (cast_unsigned w64 n) w
  none_fits class.Constant n name w = fits_some w _ (low_fits w _)
  none_fits class.Symbol n name w = symbol_fits w (symbol_address symbols name)
  none_fits k n name w = fits_none w

  converted_by : (c : Code) (r : Reading) (w : Width) (own : Option Width) →
      Fits w (option_and_then (λ own. of_one (converted c own w) (r.value own)) own)
  converted_by c r w None = fits_none w
  converted_by c r w (Some own) = one_fits w (converted c own w) (r.value own) (λ a. converted_fits c own w a)

  part_fits : (k : Class) (c : Code) (r : Reading) (w : Width) → Fits w (r.value w) → Fits w (value_of_one memory k c r w)
  part_fits class.Memory c r w fits = one_fits w (load w memory) (r.value W64) (λ a. load_fits memory is w a)
  part_fits class.Lowpart c r w fits = fits
  part_fits class.Unary c r w fits = one_fits w (unary c w) (r.value w) (λ a. unary_fits c w a)
  part_fits class.Extension c r w fits = converted_by c r w r.width
  part_fits class.Truncation c r w fits = converted_by c r w r.width
  part_fits k c r w fits = fits_none w

  compared_by : (c : Code) (a b : Reading) (w : Width) (own : Option Width) →
      Fits w (option_and_then (λ own. of_two (compared c own) (a.value own) (b.value own)) own)
  compared_by c a b w None = fits_none w
  compared_by c a b w (Some own) = two_fits w (compared c own) (a.value own) (b.value own) (λ x y. compared_fits c w own x y)

  parts_fit : (k : Class) (c : Code) (a b : Reading) (w : Width) → Fits w (value_of_two k c a b w)
  parts_fit class.Binary c a b w = two_fits w (binary c w) (a.value w) (b.value w) (λ x y. binary_fits c w x y)
  parts_fit class.Shift c a b w = two_fits w (shifted c w) (a.value w) (b.value (count_width b.width)) (λ x y. shifted_fits c w x y)
  parts_fit class.Comparison c a b w = compared_by c a b w (first_width a.width b.width)
  parts_fit k c a b w = fits_none w

  AllFit : List Reading → Type 0
  AllFit [] = Unit {0}
  AllFit (r ∷ rs) = ((w : Width) → Fits w (r.value w)) × AllFit rs

  by_fits : (k : Class) (c : Code) (n : ℤ) (name : List ℕ) (rs : List Reading) (w : Width) → AllFit rs →
      Fits w (value_by symbols regs memory k c n name rs w)
  unfolding AllFit
  by_fits k c n name [] w fit = none_fits k n name w
  by_fits k c n name (r ∷ []) w fit = part_fits k c r w (fit.0 w)
  by_fits k c n name (r ∷ s ∷ []) w fit = parts_fit k c r s w
  by_fits k c n name (r ∷ s ∷ t ∷ rs) w fit = fits_none w

  abbrev P : Rtx → Type 0
  P x = (w : Width) → Fits w (value_of symbols regs memory x w)

  abbrev Kid : Type 0
  Kid = (x : Rtx) × P x

  abbrev tree : Kid → Rtx
  tree y = y.0

  kids_fit : (ys : List Kid) → AllFit (map (reading_of symbols regs memory) (map tree ys))
  unfolding AllFit
  kids_fit [] = tt
  kids_fit (y ∷ ys) = (y.1, kids_fit ys)

  layer : (y : Rtx-F Kid) → P (roll-Rtx (map-Rtx Kid Rtx tree y))
  layer y w =
      let z : Rtx-F Rtx = map-Rtx Kid Rtx tree y in
      let r = fold-roll-Rtx Reading (reading_step symbols regs memory) z in
      subst (λ (r : Reading). Fits w (r.value w)) (sym r)
      (by_fits (class_of_code z.code) z.code z.number z.name (map (reading_of symbols regs memory) z.kids) w (kids_fit y.kids))

  -- the value of an expression
  pub value_fits : (x : Rtx) → P x
  value_fits = ind-Rtx P (λ x y e. subst (λ (z : Rtx-F Rtx). P (roll-Rtx z)) e (layer y))

  -- no bits of it are cut
  pub value_low : (x : Rtx) (w : Width) (v : ℕ) → value_of symbols regs memory x w ≡ Some v → low w v ≡ v
  value_low x w v at = fits_low w v (value_fits x w v at)
