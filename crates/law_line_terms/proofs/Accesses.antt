-- Lines that load and store: an access is had where its needs are met.
use Rattle.std.proofs.Common.{◌≡◌, ℕ, zero, suc, ◌+◌, ◌*◌, ◌/◌, ◌%◌, ◌^◌, ◌<◌, ◌&&◌, Bool, true, false, List, [], ◌∷◌, ◌++◌, length, Option, Some, None, refl, sym, ◌∙◌, ap, arith}
use Rattle.std.specs.Prelude.{if◌then◌else◌, is_some, option_map, option_and_then}
use Rattle.std.specs.Int.{cast_unsigned, w64}
use Rattle.std.proofs.Math.Nat.{mod-eq_of_lt, pow-succ'}
use Rattle.bits64.specs.declared.Width.{Width}
use Rattle.bits64.specs.declared.Width.TheVariants.{W8, W16, W32, W64}
use Rattle.bits64.specs.Words.{bits_of, bytes_of, low, sum_of, sign_extended, zero_extended, signed}
use Rattle.rtx_tree.specs.declared.memories.MemByte.{MemByte}
use Rattle.rtx_tree.specs.Memories.{with_byte}
use Rattle.run_memory.specs.RunMemory.{load, store, with_number}
use Rattle.run_memory.proofs.Laws.{low_bytes, pow-pos}
use Rattle.rv_text.specs.declared.line.Line.{Line}
use Rattle.rv_text.specs.declared.action.Extension.{Extension}
use Rattle.rv_text.specs.declared.action.Extension.TheVariants.{Sign, Zero}
use Rattle.rv_line.specs.Step as line
use Rattle.rv_line.specs.declared.state.RvState.{RvState}
use Rattle.term_tree.specs.declared.head.Head.TheVariants as heads
use Rattle.term_tree.specs.Tree.{Tree, width_of}
use Rattle.term_tree.specs.Form.{same_width}
use Rattle.term_mean.specs.Meaning.{Valuation, mean}
use Rattle.term_mean.specs.Compared.{low_bits}
use Rattle.term_mean.specs.Normal.{built}
use Rattle.term_mean.proofs.SumLaws.{mean-summed}
use Rattle.term_mean.proofs.NormalLaws.{mean-built}
use Rattle.term_mean.proofs.NormalWidths.{width-built}
use Rattle.term_mean.proofs.ComparedLaws.{mean-low_bits}
use Rattle.sym_lines.specs.sym_state.State.{State, Need, Access}
use Rattle.sym_lines.specs.Step as spec
use Rattle.law_insn_terms.specs.Needs as needs
use Rattle.law_insn_terms.specs.Needs.{are_met}
use Rattle.law_insn_terms.proofs.Values.{both_met}
use Rattle.law_insn_terms.proofs.Parts.{has_load, load_worth}
use Rattle.bits64.proofs.Operators.{wrapped_below, below}
use Rattle.law_insn_terms.proofs.Operations.{mean_below}
use Rattle.law_line_terms.specs.ShowsLine.{IsFirst, ShowsLine}
use Rattle.law_line_terms.proofs.Reading.{had, register_had}
use Rattle.law_line_terms.proofs.Computing.{is_64, extended_whole}

-- ---- a number that is stored goes by its low bytes

low_written : (memory : List MemByte) (at count n : ℕ) → with_number memory at count (n % 256 ^ count) ≡ with_number memory at count n
low_written memory at zero n = refl
low_written memory at (suc count) n =
    let power : 256 ^ suc count ≡ 256 * 256 ^ count = rw pow-succ' refl in
    let parts : n % 256 ^ suc count ≡ n % 256 + 256 * (n / 256 % 256 ^ count) = ap (λ k. n % k) power ∙ sym (low_bytes n (256 ^ count) (pow-pos count)) in
    let byte : n % 256 ^ suc count % 256 ≡ n % 256 = omega (arith, parts) in
    let rest : n % 256 ^ suc count / 256 ≡ n / 256 % 256 ^ count = omega (arith, parts) in
    ap (λ b. with_number (with_byte memory at b) (at + 1) count (n % 256 ^ suc count / 256)) byte
    ∙ ap (with_number (with_byte memory at (n % 256)) (at + 1) count) rest
    ∙ low_written (with_byte memory at (n % 256)) (at + 1) count (n / 256)

bits_bytes : (w : Width) → 2 ^ bits_of w ≡ 256 ^ bytes_of w
bits_bytes W8 = refl
bits_bytes W16 = refl
bits_bytes W32 = refl
bits_bytes W64 = refl

low_stored : (w : Width) (memory : List MemByte) (at n : ℕ) → with_number memory at (bytes_of w) (low w n) ≡ with_number memory at (bytes_of w) n
low_stored w memory at n = ap (λ k. with_number memory at (bytes_of w) (n % k)) (bits_bytes w) ∙ low_written memory at (bytes_of w) n

-- ---- what stands above a number that is loaded

no_more : (w : Width) (a : ℕ) → a < 2 ^ bits_of w → low w a ≡ a
no_more w a less = mod-eq_of_lt less

extended_by : (v : Valuation) (e : Extension) (w : Width) (t : Tree) (whole : Bool) → same_width w W64 ≡ whole → width_of t ≡ w → mean v (spec.extended e w t) ≡ line.extended e w (mean v t)
extended_by v Sign w t true is width =
    ap (λ b. mean v (if b then t else built [] heads.Sext W64 0 [] (t ∷ []))) is
    ∙ sym (extended_whole (mean v t) (mean_below v W64 t (width ∙ is_64 w is))) ∙ ap (λ u. sign_extended u (mean v t)) (sym (is_64 w is))
extended_by v Sign w t false is width =
    ap (λ b. mean v (if b then t else built [] heads.Sext W64 0 [] (t ∷ []))) is
    ∙ mean-built v [] heads.Sext W64 0 [] (t ∷ []) tt
    ∙ ap (λ u. low W64 (sign_extended u (mean v t))) width
    ∙ no_more W64 (sign_extended w (mean v t)) (wrapped_below W64 (signed w (mean v t)))
extended_by v Zero w t true is width =
    ap (λ b. mean v (if b then t else built [] heads.Zext W64 0 [] (t ∷ []))) is ∙ below w (mean v t) (mean_below v w t width)
extended_by v Zero w t false is width =
    ap (λ b. mean v (if b then t else built [] heads.Zext W64 0 [] (t ∷ []))) is
    ∙ mean-built v [] heads.Zext W64 0 [] (t ∷ []) tt
    ∙ ap (λ u. low W64 (zero_extended u (mean v t))) width
    ∙ ap (low W64) (no_more w (mean v t) (mean_below v w t width))
    ∙ no_more W64 (mean v t) (wider w (mean v t) (mean_below v w t width))
    ∙ sym (no_more w (mean v t) (mean_below v w t width))
  where
    wider : (w : Width) (a : ℕ) → a < 2 ^ bits_of w → a < 2 ^ 64
    wider W8 a less = omega (arith, less)
    wider W16 a less = omega (arith, less)
    wider W32 a less = omega (arith, less)
    wider W64 a less = less

module _ (v : Valuation) (f : needs.First) (first : List (Option ℕ)) (is_first : IsFirst v f first) (s : State) (m : RvState) (shows : ShowsLine v f first s m) where
  -- ---- the address

  added : (b i : ℕ) → (b + i) % 2 ^ 64 ≡ (i + (1 * b + 0)) % 2 ^ 64
  added b i = let e : b + i ≡ i + (1 * b + 0) = omega arith in ap (λ n. n % 2 ^ 64) e

  pub place_had : (l : Line) → line.place_of m l ≡ had v f first is_first (spec.register_needs s.regs l.rs) (spec.address s.regs l)
  place_had l =
      ap (option_map (λ base. sum_of W64 base (cast_unsigned w64 l.imm))) (register_had v f first is_first s m shows l.rs)
      ∙ by (are_met v f (spec.register_needs s.regs l.rs))
    where
      by : (b : Bool) → option_map (λ base. sum_of W64 base (cast_unsigned w64 l.imm)) (if b then Some (mean v (spec.register s.regs l.rs)) else None) ≡ (if b then Some (mean v (spec.address s.regs l)) else None)
      by true = ap Some (added (mean v (spec.register s.regs l.rs)) (cast_unsigned w64 l.imm) ∙ sym (mean-summed v W64 (cast_unsigned w64 l.imm) ((1, spec.register s.regs l.rs) ∷ [])))
      by false = refl

  -- ---- a load

  pub loaded_had : (l : Line) (w : Width) (e : Extension) → line.loaded w e m l
      ≡ had v f first is_first (spec.register_needs s.regs l.rs ++ Access (spec.address s.regs l) w ∷ []) (spec.extended e w (spec.loaded s.stores w (spec.address s.regs l)))
  loaded_had l w e =
      ap (option_and_then (λ address. option_map (line.extended e w) (load w m.memory address))) (place_had l)
      ∙ by (are_met v f (spec.register_needs s.regs l.rs))
      ∙ ap (λ b. if b then Some (mean v (spec.extended e w (spec.loaded s.stores w (spec.address s.regs l)))) else None) (sym (both_met v f (spec.register_needs s.regs l.rs) (Access (spec.address s.regs l) w ∷ [])))
    where
      at : Tree
      at = spec.address s.regs l

      width : width_of (spec.loaded s.stores w at) ≡ w
      width = width-built s.stores heads.Load w (length s.stores) [] (at ∷ [])

      read : (b : Bool) → option_map (line.extended e w) (if b then Some (mean v (spec.loaded s.stores w at)) else None) ≡ (if b then Some (mean v (spec.extended e w (spec.loaded s.stores w at))) else None)
      read true = ap Some (sym (extended_by v e w (spec.loaded s.stores w at) (same_width w W64) refl width))
      read false = refl

      by : (b : Bool) → option_and_then (λ address. option_map (line.extended e w) (load w m.memory address)) (if b then Some (mean v at) else None)
          ≡ (if b && are_met v f (Access at w ∷ []) then Some (mean v (spec.extended e w (spec.loaded s.stores w at))) else None)
      by true = ap (option_map (line.extended e w)) (load_worth v f m.memory (length s.stores) shows.memory_is w at s.stores shows.stored refl) ∙ read (is_some (load w f.memory (mean v at)) && true)
      by false = refl

  -- ---- a store

  -- memory with the number of a term at the number of another, where needs are met
  abbrev had_stored : List Need → Width → Tree → Tree → Option (List MemByte)
  had_stored ns w at value = if are_met v f ns then Some (with_number m.memory (mean v at) (bytes_of w) (mean v value)) else None

  stored_by : (l : Line) (w : Width) → (a b : Bool) →
      option_and_then (λ memory. memory) (line.of_both (store w m.memory) (if a then Some (mean v (spec.address s.regs l)) else None) (if b then Some (mean v (spec.register s.regs l.rt)) else None))
      ≡ (if b && (a && (is_some (load w f.memory (mean v (spec.address s.regs l))) && true)) then Some (with_number m.memory (mean v (spec.address s.regs l)) (bytes_of w) (mean v (low_bits w (spec.register s.regs l.rt)))) else None)
  stored_by l w true true = by (load w m.memory (mean v at)) refl
    where
      at : Tree
      at = spec.address s.regs l

      n : ℕ
      n = mean v (spec.register s.regs l.rt)

      same : is_some (load w m.memory (mean v at)) ≡ is_some (load w f.memory (mean v at))
      same = has_load w m.memory f.memory (mean v at) shows.memory_is.addresses

      value : with_number m.memory (mean v at) (bytes_of w) n ≡ with_number m.memory (mean v at) (bytes_of w) (mean v (low_bits w (spec.register s.regs l.rt)))
      value = sym (low_stored w m.memory (mean v at) n) ∙ ap (with_number m.memory (mean v at) (bytes_of w)) (sym (mean-low_bits v w (spec.register s.regs l.rt)))

      by : (o : Option ℕ) → load w m.memory (mean v at) ≡ o → option_map (λ _. with_number m.memory (mean v at) (bytes_of w) n) (load w m.memory (mean v at))
          ≡ (if is_some (load w f.memory (mean v at)) && true then Some (with_number m.memory (mean v at) (bytes_of w) (mean v (low_bits w (spec.register s.regs l.rt)))) else None)
      by None there =
          ap (λ (o : Option ℕ). option_map (λ _. with_number m.memory (mean v at) (bytes_of w) n) o) there
          ∙ sym (ap (λ b. if b && true then Some (with_number m.memory (mean v at) (bytes_of w) (mean v (low_bits w (spec.register s.regs l.rt)))) else None) (sym same ∙ ap is_some there))
      by (Some old) there =
          ap (λ (o : Option ℕ). option_map (λ _. with_number m.memory (mean v at) (bytes_of w) n) o) there ∙ ap Some value
          ∙ sym (ap (λ b. if b && true then Some (with_number m.memory (mean v at) (bytes_of w) (mean v (low_bits w (spec.register s.regs l.rt)))) else None) (sym same ∙ ap is_some there))
  stored_by l w true false = refl
  stored_by l w false true = refl
  stored_by l w false false = refl

  pub stored_had : (l : Line) (w : Width) → line.stored w m l
      ≡ had_stored (spec.register_needs s.regs l.rt ++ (spec.register_needs s.regs l.rs ++ Access (spec.address s.regs l) w ∷ [])) w (spec.address s.regs l) (low_bits w (spec.register s.regs l.rt))
  stored_had l w =
      ap (λ o. option_and_then (λ memory. memory) (line.of_both (store w m.memory) o (line.register m.regs l.rt))) (place_had l)
      ∙ ap (λ o. option_and_then (λ memory. memory) (line.of_both (store w m.memory) (had v f first is_first (spec.register_needs s.regs l.rs) (spec.address s.regs l)) o)) (register_had v f first is_first s m shows l.rt)
      ∙ stored_by l w (are_met v f (spec.register_needs s.regs l.rs)) (are_met v f (spec.register_needs s.regs l.rt))
      ∙ ap (λ b. if b then Some (with_number m.memory (mean v (spec.address s.regs l)) (bytes_of w) (mean v (low_bits w (spec.register s.regs l.rt)))) else None)
      (sym (both_met v f (spec.register_needs s.regs l.rt) (spec.register_needs s.regs l.rs ++ Access (spec.address s.regs l) w ∷ [])
      ∙ ap (λ b. are_met v f (spec.register_needs s.regs l.rt) && b) (both_met v f (spec.register_needs s.regs l.rs) (Access (spec.address s.regs l) w ∷ []))))
