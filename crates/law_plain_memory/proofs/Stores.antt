-- Rows that store a register or 0 at a register and an offset.
use Rattle.std.proofs.Common.{◌≡◌, ℕ, suc, pos, true, false, ◌&&◌, List, [], ◌∷◌, ◌++◌, Some, None, refl, sym, subst, ◌∙◌, ap}
use Rattle.std.specs.Prelude.{ℤ}
use Rattle.std.specs.Int.{cast_unsigned, w64}
use Rattle.std.specs.List.{list_all}
use Rattle.bits64.specs.declared.Width.{Width}
use Rattle.bits64.specs.declared.Width.TheVariants.{W8, W64}
use Rattle.rtx_tree.specs.declared.code.Mode.{Mode}
use Rattle.rtx_tree.specs.declared.function.Insn.{Insn}
use Rattle.rtx_tree.specs.declared.function.Kind.TheVariants.{Plain}
use Rattle.rtl_step.specs.Value.{width_of}
use Rattle.rv_text.specs.Lines.{action_of}
use Rattle.rv_text.specs.declared.line.Line.{Line}
use Rattle.rv_text.specs.declared.action.Action.TheVariants.{Store}
use Rattle.term_tree.specs.Tree.{Tree}
use Rattle.term_tree.specs.Small.{is_small}
use Rattle.term_mean.specs.Sums.{constant, summed}
use Rattle.term_mean.specs.Compared.{low_bits}
use Rattle.sym_state.specs.State.{State, Need, NeedAt, Register, Access, Runs, start, is_within, is_small_need, needs_at}
use Rattle.sym_state.specs.Registers.{read, read_needs}
use Rattle.sym_insns.specs.Run as insns
use Rattle.sym_insns.specs.Effects.{effects_of, make_all}
use Rattle.sym_insns.specs.Shape.{is_shaped}
use Rattle.sym_insns.specs.Value.{Made}
use Rattle.sym_lines.specs.Run as lines
use Rattle.sym_diff.specs.Compared.{covers, is_covered}
use Rattle.sym_diff.specs.States.{difference}
use Rattle.sym_diff.proofs.NumberLaws.{or_left, or_right}
use Rattle.equate.specs.Side.{Lines}
use Rattle.equate.specs.Equated.{Equated}
use Rattle.rtx_open.proofs.Expressions.{Written, rtx}
use Rattle.law_plain_terms.specs.Rows.{part, line_address, IsSmall}
use Rattle.law_plain_terms.proofs.Memory.{same_address}
use Rattle.law_plain_terms.proofs.SmallMemory as small_memory
use Rattle.law_plain_states.specs.Frames.{AreCovered, stores}
use Rattle.law_plain_states.proofs.Agreed.{store_agrees}
use Rattle.law_plain_states.proofs.Effects.{register, set_of, made, memory_at, stores_memory}
use Rattle.law_plain_states.proofs.Equated.{insn_runs, line_runs, equated}
use Rattle.law_plain_states.proofs.Rows.{both, has_bits, access_has, line_sets, fits_plain, stays_plain}
use Rattle.law_plain_states.proofs.OneLine.{AreSmallNeeds}
use Rattle.law_plain_states.proofs.Computes.{is_set}
use Rattle.law_plain_rows.proofs.WithConstant.{With, number, word}
use Rattle.law_plain_memory.proofs.Loads.{address, address_of, at_address}

-- ---- states

small_store : (at v : Tree) (needs : List NeedAt) → IsSmall at → IsSmall v → list_all (λ n. is_small_need n.what) needs ≡ true → is_within (stores (at, v) needs) ≡ true
small_store at v needs small_at small_v rest = both ((is_small at && is_small v) && true) _ (both (is_small at && is_small v) true (both (is_small at) (is_small v) small_at small_v) refl) rest

-- ---- the row: where a line stores what the instruction stores, at its address, and needs no more

-- an instruction that stores, at an address and from an expression with the values of those that are
-- written out
pub record StoresAt (i : Insn) (m : Mode) (p : With) (x : Written) : Type 0 where
  pub plain : i.kind ≡ Plain
  pub shaped : is_shaped i ≡ true
  pub number : ℤ
  pub place : Written
  pub source : Written
  pub pattern : i.pattern ≡ rtx (set_of (memory_at m number place) source)
  pub same_place : made place W64 ≡ made (address_of p) W64
  pub same : (w : Width) → made source w ≡ made x w

-- what is stored where, and what is needed for it
abbrev put_in : Made → Made → Width → State
put_in at v w = stores (at.term, v.term) (needs_at 0 (v.needs ++ (at.needs ++ Access at.term w ∷ [])))

module _ (m : Mode) (w : Width) (wide : width_of m ≡ Some w) (source : Written) (p : With) (v : Tree) (had asked : List Need) where
  abbrev all_had : List Need
  all_had = had ++ (Register (suc p.0) W64 ∷ Access (address p) w ∷ [])

  abbrev all_asked : List Need
  all_asked = asked ++ (is_set p.0 ∷ Access (address p) w ∷ [])

  pub store_equated : (made source w).term ≡ v → (made source w).needs ≡ had → IsSmall v → AreSmallNeeds all_had → AreSmallNeeds all_asked → AreCovered (needs_at 0 all_had) (needs_at 0 all_asked) →
      (number : ℕ) (live : List ℕ) (i : Insn) (l : Line) → StoresAt i m p source →
      lines.fits_action (action_of l) [] ≡ true → lines.after number 0 l start ≡ stores (address p, v) (needs_at 0 all_asked) → Equated (i ∷ []) (Lines number (l ∷ [])) live
  store_equated term needs small small_had small_asked covered number live i l s fits state =
      let here = ap (λ k. insns.after_kind k 0 i start) s.plain ∙ (ap (λ x. make_all 0 (effects_of [] [] x) start) s.pattern ∙ (ap (λ es. make_all 0 es start) (stores_memory m s.number s.place s.source w wide) ∙
      (ap (λ at. put_in at (made s.source w) w) s.same_place ∙ (ap (λ v. put_in (made (address_of p) W64) v w) (s.same w) ∙
      (ap (λ t. stores (address p, t) (needs_at 0 ((made source w).needs ++ (Register (suc p.0) W64 ∷ Access (address p) w ∷ [])))) term ∙ ap (λ ns. stores (address p, v) (needs_at 0 (ns ++ (Register (suc p.0) W64 ∷ Access (address p) w ∷ [])))) needs))))) in
      let at = at_address IsSmall p (small_memory.small_address p.0 (word p)) in
      let comes = insn_runs i (fits_plain i s.plain s.shaped) (ap is_within here ∙ small_store (address p) v (needs_at 0 all_had) at small small_had) in
      let runs = line_runs number l fits (ap is_within state ∙ small_store (address p) v (needs_at 0 all_asked) at small small_asked) ∙ ap Runs state in
      equated i number (l ∷ []) live (insns.after 0 i start) (stores (address p, v) (needs_at 0 all_asked)) (stays_plain i s.plain) comes runs
      (subst (λ a. difference true live a (stores (address p, v) (needs_at 0 all_asked)) ≡ None) (sym here) (store_agrees live (address p, v) (needs_at 0 all_had) (needs_at 0 all_asked) covered))

-- ---- the line

abbrev behind : Width → ℕ → ℕ → ℤ → State
behind w s q k =
    let at = summed W64 (cast_unsigned w64 k) ((1, read [] s W64) ∷ []) in
    record start { stores = (at, low_bits w (read [] q W64)) ∷ []; needs = needs_at 0 (read_needs [] q W8 ++ (read_needs [] s W8 ++ Access at w ∷ [])) }

-- the state by the address, what is stored and what is needed for it
abbrev stored : Width → ℕ → Tree → List Need → Tree → State
stored w a v needs at = stores (at, v) (needs_at 0 (needs ++ (is_set a ∷ Access at w ∷ [])))

line_stores : (w : Width) (number : ℕ) (l : Line) (p : With) (q : ℕ) → action_of l ≡ Some (Store w) → l.rs ≡ suc p.0 → l.imm ≡ p.1 → l.rt ≡ q → lines.after number 0 l start ≡ behind w (suc p.0) q p.1
line_stores w number l p q does rs imm rt = line_sets number l (Store w) does ∙ (ap (λ s. behind w s l.rt l.imm) rs ∙ (ap (λ r. behind w (suc p.0) r l.imm) rt ∙ ap (λ k. behind w (suc p.0) q k) imm))

-- ---- a register is stored

small_access : (a : ℕ) (v w : Width) (at : Tree) → IsSmall at → AreSmallNeeds (Register a v ∷ Access at w ∷ [])
small_access a v w at small = both _ true small refl

module _ (m : Mode) (w : Width) (wide : width_of m ≡ Some w) (term : (b : ℕ) → (made (register m b) w).term ≡ part w b) (needs : (b : ℕ) → (made (register m b) w).needs ≡ Register (suc b) w ∷ []) (small : (b : ℕ) → IsSmall (part w b))
    (number : ℕ) (live : List ℕ) (i : Insn) (l : Line) (p : With) (b : ℕ) where
  at_small : IsSmall (address p)
  at_small = at_address IsSmall p (small_memory.small_address p.0 (word p))

  covered : AreCovered (needs_at 0 (Register (suc b) w ∷ Register (suc p.0) W64 ∷ Access (address p) w ∷ [])) (needs_at 0 (is_set b ∷ is_set p.0 ∷ Access (address p) w ∷ []))
  covered =
      let had = needs_at 0 (Register (suc b) w ∷ Register (suc p.0) W64 ∷ Access (address p) w ∷ []) in
      both (is_covered had (is_set b)) _ (or_left _ _ (has_bits (suc b) w))
      (both (is_covered had (is_set p.0)) _ (or_right _ _ (or_left _ _ (has_bits (suc p.0) W64)))
      (both (is_covered had (Access (address p) w)) true (or_left (covers (Access (address p) w) (Access (address p) w)) false (access_has (address p) w)) refl))

  pub register_equated : StoresAt i m p (register m b) → action_of l ≡ Some (Store w) → l.rs ≡ suc p.0 → l.imm ≡ p.1 → l.rt ≡ suc b → Equated (i ∷ []) (Lines number (l ∷ [])) live
  register_equated s does rs imm rt =
      store_equated m w wide (register m b) p (part w b) (Register (suc b) w ∷ []) (is_set b ∷ []) (term b) (needs b) (small b)
      (small_access (suc p.0) W64 w (address p) at_small) (small_access (suc p.0) W8 w (address p) at_small) covered
      number live i l s (ap (λ o. lines.fits_action o []) does)
      (line_stores w number l p (suc b) does rs imm rt ∙ ap (λ at. stored w p.0 (part w b) (is_set b ∷ []) at) (same_address p.0 (word p)))

-- ---- 0 is stored

module _ (m : Mode) (w : Width) (wide : width_of m ≡ Some w) (term : (made (number (pos 0)) w).term ≡ constant w 0) (needs : (made (number (pos 0)) w).needs ≡ []) (small : IsSmall (constant w 0)) (low : low_bits w (constant W64 0) ≡ constant w 0)
    (number_of : ℕ) (live : List ℕ) (i : Insn) (l : Line) (p : With) where
  zero_small : IsSmall (address p)
  zero_small = at_address IsSmall p (small_memory.small_address p.0 (word p))

  zero_covered : AreCovered (needs_at 0 (Register (suc p.0) W64 ∷ Access (address p) w ∷ [])) (needs_at 0 (is_set p.0 ∷ Access (address p) w ∷ []))
  zero_covered =
      let had = needs_at 0 (Register (suc p.0) W64 ∷ Access (address p) w ∷ []) in
      both (is_covered had (is_set p.0)) _ (or_left _ _ (has_bits (suc p.0) W64))
      (both (is_covered had (Access (address p) w)) true (or_left (covers (Access (address p) w) (Access (address p) w)) false (access_has (address p) w)) refl)

  pub zero_equated : StoresAt i m p (number (pos 0)) → action_of l ≡ Some (Store w) → l.rs ≡ suc p.0 → l.imm ≡ p.1 → l.rt ≡ 0 → Equated (i ∷ []) (Lines number_of (l ∷ [])) live
  zero_equated s does rs imm rt =
      store_equated m w wide (number (pos 0)) p (constant w 0) [] [] term needs small
      (small_access (suc p.0) W64 w (address p) zero_small) (small_access (suc p.0) W8 w (address p) zero_small) zero_covered
      number_of live i l s (ap (λ o. lines.fits_action o []) does)
      (line_stores w number_of l p 0 does rs imm rt ∙ (ap (λ v. stored w p.0 v [] (line_address p.0 (word p))) low ∙ ap (λ at. stored w p.0 (constant w 0) [] at) (same_address p.0 (word p))))
