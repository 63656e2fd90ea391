-- The numbers of parts: registers and loads.
use Rattle.std.proofs.Common.{◌≡◌, ℕ, zero, suc, ◌+◌, ◌*◌, ◌%◌, ◌^◌, ◌<◌, ◌≤◌, ◌&&◌, nat_le, nat_lt, Bool, true, false, List, [], ◌∷◌, length, Option, Some, None, refl, sym, ◌∙◌, ap, subst, arith, tests}
use Rattle.std.specs.Prelude.{is_some, option_map, option_and_then, if◌then◌else◌}
use Rattle.std.proofs.Math.Nat.{mod-eq_of_lt, pow-succ'}
use Rattle.bits64.specs.declared.Width.{Width}
use Rattle.bits64.specs.declared.Width.TheVariants.{W8, W16, W32, W64}
use Rattle.bits64.specs.Words.{bits_of, bytes_of, low}
use Rattle.rtx_tree.specs.declared.memories.MemByte.{MemByte}
use Rattle.rtx_tree.specs.Memories.{byte_at}
use Rattle.run_memory.specs.RunMemory.{number_at, is_aligned, load}
use Rattle.run_memory.proofs.Laws.{has-number}
use Rattle.rtl_step.specs.Regs.{Regs, known_of, known_in, reg_value}
use Rattle.term_tree.specs.declared.head.Head.TheVariants as heads
use Rattle.term_tree.specs.Tree.{Tree, width_of}
use Rattle.term_mean.specs.Meaning.{Valuation, mean, bytes_at}
use Rattle.term_mean.specs.Stores.{Store, Stored}
use Rattle.term_mean.specs.Compared.{low_bits}
use Rattle.term_mean.proofs.SumLaws.{mean-cut, mean-constant}
use Rattle.term_mean.proofs.CutLaws.{low-low}
use Rattle.term_mean.proofs.ComparedLaws.{mean-low_bits}
use Rattle.term_mean.proofs.NormalLaws.{mean-built}
use Rattle.sym_insns.specs.sym_state.State.{State, own_register}
use Rattle.sym_insns.specs.sym_state.Registers.{held, term_held, need_of}
use Rattle.sym_insns.specs.Value.{of_register, load_at}
use Rattle.law_insn_terms.specs.Needs.{First, worth}
use Rattle.law_insn_terms.specs.Shows.{IsOf, ShowsRegister, ShowsMemory}

-- ---- registers

no_bits : (w : Width) → low w 0 ≡ 0
no_bits W8 = refl
no_bits W16 = refl
no_bits W32 = refl
no_bits W64 = refl

pub at_most_64 : (w : Width) → bits_of w ≤ bits_of W64
at_most_64 W8 = omega arith
at_most_64 W16 = omega arith
at_most_64 W32 = omega arith
at_most_64 W64 = omega arith

module _ (v : Valuation) (f : First) (of : IsOf v f) where
  own_mean : (reg : ℕ) (w : Width) → mean v (low_bits w (own_register reg)) ≡ low w (v.reg reg)
  own_mean reg w = mean-low_bits v w (own_register reg) ∙ low-low w W64 (v.reg reg) (at_most_64 w)

  -- what was not changed
  kept_worth : (reg : ℕ) (w : Width) (o : Option ℕ) → f.reads reg w ≡ o →
      o ≡ (if is_some o && true then Some (mean v (low_bits w (own_register reg))) else None)
  kept_worth reg w None is = refl
  kept_worth reg w (Some value) is = ap Some (of.registers reg w value is ∙ sym (own_mean reg w))

  kept : (regs : Regs) (reg : ℕ) (w : Width) → reg_value regs reg w ≡ f.reads reg w →
      reg_value regs reg w ≡ worth v f (record { term = low_bits w (own_register reg); needs = need_of None reg w })
  kept regs reg w same = same ∙ kept_worth reg w (f.reads reg w) refl

  -- what has the bits of a term
  known_worth : (t : Tree) (reg : ℕ) (w : Width) (short : Bool) → nat_lt (bits_of (width_of t)) (bits_of w) ≡ short →
      known_in w (known_of (width_of t) (mean v t)) ≡
      worth v f (record { term = if short then low_bits w (own_register reg) else low_bits w t; needs = if short then need_of (Some None) reg w else [] })
  known_worth t reg w true is =
      let none : nat_le (bits_of w) (bits_of (width_of t)) ≡ false = grind (arith, tests, is) in
      ap (λ b. if b then Some (low w (low (width_of t) (mean v t))) else None) none
  known_worth t reg w false is =
      let all : nat_le (bits_of w) (bits_of (width_of t)) ≡ true = grind (arith, tests, is) in
      ap (λ b. if b then Some (low w (low (width_of t) (mean v t))) else None) all
      ∙ ap Some (ap (λ n. low w n) (mean-cut v t) ∙ sym (mean-low_bits v w t))

  shown : (regs : Regs) (reg : ℕ) (w : Width) (left : Option (Option Tree)) → ShowsRegister v f regs left (suc reg) →
      reg_value regs (suc reg) w ≡ worth v f (record { term = term_held left (suc reg) w; needs = need_of left (suc reg) w })
  shown regs reg w None shows = kept regs (suc reg) w (shows w)
  shown regs reg w (Some None) shows = ap (λ o. option_and_then (known_in w) o) shows
  shown regs reg w (Some (Some t)) shows =
      ap (λ o. option_and_then (known_in w) o) shows ∙ known_worth t (suc reg) w (nat_lt (bits_of (width_of t)) (bits_of w)) refl

  -- what a register is worth
  pub register_worth : (s : State) (regs : Regs) (reg : ℕ) (w : Width) → ((reg : ℕ) → ShowsRegister v f regs (held s.regs (suc reg)) (suc reg)) →
      reg_value regs reg w ≡ worth v f (of_register s.regs reg w)
  register_worth s regs zero w shows = ap Some (sym (mean-constant v w 0 ∙ no_bits w))
  register_worth s regs (suc reg) w shows = shown regs reg w (held s.regs (suc reg)) (shows reg)

-- ---- loads

unfoldable pub both_bytes : Option ℕ → Option ℕ → Option ℕ
both_bytes byte rest = option_and_then (λ b. option_map (λ r. b + 256 * r) rest) byte

pub has_load : (w : Width) (memory other : List MemByte) (address : ℕ) → ((q : ℕ) → is_some (byte_at memory q) ≡ is_some (byte_at other q)) →
    is_some (load w memory address) ≡ is_some (load w other address)
has_load w memory other address same = by (is_aligned w address)
  where
    by : (b : Bool) → is_some (if b then number_at memory address (bytes_of w) else None) ≡ is_some (if b then number_at other address (bytes_of w) else None)
    by true = has-number memory other same address (bytes_of w)
    by false = refl

-- the two of a number that is there
pub record Both (byte rest : Option ℕ) (number : ℕ) : Type 0 where
  pub first : ℕ
  pub later : ℕ
  pub byte_is : byte ≡ Some first
  pub rest_is : rest ≡ Some later
  pub number_is : number ≡ first + 256 * later

both_there : (byte rest : Option ℕ) (number : ℕ) → both_bytes byte rest ≡ Some number → Both byte rest number
unfolding both_bytes
both_there None rest number is = absurd (let no : ⊥ = cc in no)
both_there (Some b) None number is = absurd (let no : ⊥ = cc in no)
both_there (Some b) (Some r) number is = record { first = b; later = r; byte_is = refl; rest_is = refl; number_is = let same : number ≡ b + 256 * r = cc in same }

module _ (v : Valuation) (f : First) (memory : List MemByte) (number : ℕ) (shows : ShowsMemory v f memory number) where
  bytes_are : (address count value : ℕ) → number_at memory address count ≡ Some value → bytes_at (v.memory number) count address ≡ value
  unfolding both_bytes
  bytes_are address zero value is = let same : 0 ≡ value = cc in same
  bytes_are address (suc count) value is =
      let both = both_there (byte_at memory address) (number_at memory (address + 1) count) value is in
      let word : address < 2 ^ 64 = shows.words address both.first both.byte_is in
      let small : both.first < 256 = shows.small address both.first both.byte_is in
      let here : v.memory number (address % 2 ^ 64) % 256 ≡ both.first =
      ap (λ a. v.memory number a % 256) (mod-eq_of_lt word) ∙ ap (λ b. b % 256) (sym (shows.bytes address both.first both.byte_is)) ∙ mod-eq_of_lt small in
      let rest = bytes_are (address + 1) count both.later both.rest_is in
      ap (λ b. b + 256 * bytes_at (v.memory number) count (address + 1)) here ∙ ap (λ r. both.first + 256 * r) rest ∙ sym both.number_is

  bound : (address count value : ℕ) → number_at memory address count ≡ Some value → value < 256 ^ count
  unfolding both_bytes
  bound address zero value is = let same : 0 ≡ value = cc in omega (arith, same)
  bound address (suc count) value is =
      let both = both_there (byte_at memory address) (number_at memory (address + 1) count) value is in
      let small : both.first < 256 = shows.small address both.first both.byte_is in
      let rest = bound (address + 1) count both.later both.rest_is in
      let number_is = both.number_is in
      rw pow-succ' (omega (arith, small, rest, number_is))

  wide : (w : Width) → 256 ^ bytes_of w ≡ 2 ^ bits_of w
  wide W8 = refl
  wide W16 = refl
  wide W32 = refl
  wide W64 = refl

  loaded_is : (w : Width) (address value : ℕ) → load w memory address ≡ Some value → value ≡ low w (bytes_at (v.memory number) (bytes_of w) address)
  loaded_is w address value is = by (is_aligned w address) is
    where
      by : (b : Bool) → (if b then number_at memory address (bytes_of w) else None) ≡ Some value → value ≡ low w (bytes_at (v.memory number) (bytes_of w) address)
      by true there =
          let less : value < 2 ^ bits_of w = subst (λ n. value < n) (wide w) (bound address (bytes_of w) value there) in
          sym (mod-eq_of_lt less) ∙ ap (λ n. low w n) (sym (bytes_are address (bytes_of w) value there))
      by false there = absurd (let no : ⊥ = cc in no)

  load_worth_by : (w : Width) (t : Tree) (stores : List Store) → Stored v stores → length stores ≡ number → (o : Option ℕ) → load w memory (mean v t) ≡ o →
      o ≡ (if is_some o && true then Some (mean v (load_at stores w t)) else None)
  load_worth_by w t stores stored is None there = refl
  load_worth_by w t stores stored is (Some value) there =
      ap Some (loaded_is w (mean v t) value there ∙ sym (mean-built v stores heads.Load w (length stores) [] (t ∷ []) stored ∙ ap (λ n. low w (bytes_at (v.memory n) (bytes_of w) (mean v t))) is))

  -- what a load is worth
  pub load_worth : (w : Width) (t : Tree) (stores : List Store) → Stored v stores → length stores ≡ number →
      load w memory (mean v t) ≡ (if is_some (load w f.memory (mean v t)) && true then Some (mean v (load_at stores w t)) else None)
  load_worth w t stores stored is =
      load_worth_by w t stores stored is (load w memory (mean v t)) refl
      ∙ ap (λ b. if b && true then Some (mean v (load_at stores w t)) else None) (has_load w memory f.memory (mean v t) shows.addresses)
