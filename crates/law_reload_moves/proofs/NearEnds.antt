-- A result that an instruction alone moves behind: its register into the operand itself, or with a register in its address.
use Rattle.std.proofs.Common.{◌≡◌, ◌≢◌, ◌⊎◌, inl, inr, ℕ, zero, suc, if◌then◌else◌, Bool, true, false, List, [], ◌∷◌, ◌++◌, Option, Some, None, refl, sym, ap, subst, ◌∙◌}
use Rattle.std.specs.FinMap.{get}
use Rattle.std.specs.Option.{option_map_or}
use Rattle.std.specs.Prelude.{ℤ, is_some, slice_get}
use Rattle.law_operands_fetched.specs.bits64.Words.{low}
use Rattle.law_operands_fetched.specs.bits64.declared.Width.{Width}
use Rattle.law_operands_fetched.specs.bits64.declared.Width.TheVariants.{W64}
use Rattle.law_operands_fetched.specs.rtx_tree.Tree.{reg_of}
use Rattle.law_operands_fetched.specs.rtx_tree.declared.machine.SymbolAt.{SymbolAt}
use Rattle.law_operands_fetched.specs.rtx_tree.declared.memories.MemByte.{MemByte}
use Rattle.law_operands_fetched.specs.rtx_tree.declared.tree.Rtx.{Rtx}
use Rattle.law_operands_fetched.specs.rtl_func.Shapes.{mode_at}
use Rattle.law_operands_fetched.specs.rtl_step.Effect.{address_of, register_of}
use Rattle.law_operands_fetched.specs.rtl_step.Regs.{Regs, known_of}
use Rattle.law_operands_fetched.specs.rtl_step.Value.{width_of, value_of}
use Rattle.law_operands_fetched.specs.rtl_step.declared.effect.Effect.{Effect}
use Rattle.law_operands_fetched.specs.reload_operands.declared.operand.Operand.{Operand}
use Rattle.law_operands_fetched.specs.reload_moves.Moves.{own_of, out_base, out_store, far_to, end_far_of}
use Rattle.law_operands_fetched.specs.reload_moves.declared.ask.Ask.{Ask}
use Rattle.law_operands_fetched.specs.reload_moves.declared.moves.Move.TheVariants.{Out}
use Rattle.law_operands_fetched.specs.reload_moves.declared.part.Part.{Part}
use Rattle.law_operands_fetched.specs.reload_choice.Insns.{reached, out_insn, insns_at, all_insns}
use Rattle.law_operands_fetched.specs.law_operands_replaced.Held.{Held, Holds}
use Rattle.law_operands_fetched.specs.law_operands_replaced.Spare.{KnowsRest, KeepsRest}
use Rattle.law_operands_fetched.proofs.law_operands_replaced.Cells.{IsThere, AreThere}
use Rattle.law_operands_fetched.proofs.law_operands_replaced.Ends.{Stays}
use Rattle.law_operands_fetched.proofs.Endings.{EndedNear}
use Rattle.law_operands_fetched.proofs.law_operands_replaced.Keyed.{Keyed}
use Rattle.law_reload_moves.proofs.OutEffects.{IsPlaceSet, in_register, in_memory, IsOut, StandsOut, set_again, own_value, set_effects, there_after, among_there, all_there, ends_near}
use Rattle.law_reload_moves.proofs.SteadyAddress.{Leaves, AllLeave, all_leave, AreLeft}
use Rattle.law_reload_moves.proofs.ResultsEnd.{Among, AllAmong, Reached, ReachedBy, EndsNear}
use Rattle.law_reload_moves.proofs.GivenSteady.{some_leave}

-- ---- registers that effects leave

-- a state that is reached has them still
pub reached_left : (es : List Effect) (regs : Regs) (m : List MemByte) (r0 : Regs) (n : List MemByte) → Reached es regs m r0 n → AreLeft es regs r0
reached_left es regs m r0 n reached q leave =
    ap (λ (r : Regs). get r q) reached.regs_are ∙ all_leave q reached.made regs (some_leave q reached.made es reached.among leave)

module _ (symbols : List SymbolAt) (regs : Regs) (m : List MemByte) (es : List Effect) (there : AreThere m es) where
  -- an effect that is among them is there still
  pub there_still : (r0 : Regs) (n : List MemByte) (o : Effect) → Reached es regs m r0 n → Among o es → IsThere n o
  there_still r0 n o reached among =
      subst (λ n. IsThere n o) (sym reached.memory_is)
      (there_after reached.made o m (all_there m reached.made es reached.among there) (among_there m o es among there))

  -- what stands for the place where its address is the same
  pub stands_out : (t t' : Rtx) (w : Width) (v : ℕ) (o : Effect) (r : Regs) (n : List MemByte) → IsPlaceSet symbols regs m t w v o → IsThere n o →
      (address_of t ≡ None → t' ≡ t) →
      ((a : Rtx) (at : ℕ) → address_of t ≡ Some a → value_of symbols regs m a W64 ≡ Some at → (a' : Rtx) × ((address_of t' ≡ Some a') × (value_of symbols r n a' W64 ≡ Some at))) →
      StandsOut symbols r n t t' w v o
  stands_out t t' w v _ r n (in_register reg none is) here same too = (ap address_of (same none) ∙ none, (ap register_of (same none) ∙ is, refl))
  stands_out t t' w v _ r n (in_memory a at is address has) here same too =
      let a' = too a at is address in (a'.0, (a'.1.0, (a'.1.1, (here, (refl, refl)))))

-- ---- the instruction

none_more : (xs : List Rtx) → xs ++ [] ≡ xs
none_more [] = refl
none_more (x ∷ xs) = ap (λ (xs : List Rtx). x ∷ xs) (none_more xs)

pub near_code : (operands : List Operand) (asks : List Ask) (p : Part) (x : Operand) → slice_get operands p.place ≡ Some x → p.needs.far ≡ None →
    all_insns operands (out_store asks p) ≡ out_insn (own_of asks p) (out_base asks p) x ∷ []
near_code operands asks p x of near =
    ap (λ far. all_insns operands (far_to (end_far_of asks p) far ++ Out (own_of asks p) p.place (out_base asks p) ∷ [])) near ∙
    ap (λ o. option_map_or (insns_at (Out (own_of asks p) p.place (out_base asks p))) o [] ++ []) of

module _ (symbols : List SymbolAt) (Told : Regs → List MemByte → Type 0)
    (spared : (r r' : Regs) (m : List MemByte) → KeepsRest r r' → Told r m → Told r' m) (operands : List Operand) (asks : List Ask)
    (keyed : List Keyed) (regs : Regs) (m : List MemByte) (hs : List Held) where
  -- where what stands for the operand is its place
  pub near_end : (p : Part) (x : Operand) (s : Rtx) (o : Effect) → slice_get operands p.place ≡ Some x → p.needs.far ≡ None →
      (out : IsOut symbols regs m x.tree s o) → own_of asks p ≢ 0 → low out.width out.value ≡ out.value →
      ((r : Regs) → Holds r hs → get r (own_of asks p) ≡ Some (known_of out.width out.value)) → Stays symbols Told spared o →
      (width_of (mode_at (reached (out_base asks p) x)) ≡ Some out.width) →
      ((r0 r : Regs) (n : List MemByte) → ReachedBy symbols Told spared operands asks keyed regs m hs p r0 n → KnowsRest r0 r → Holds r hs →
      StandsOut symbols r n x.tree (reached (out_base asks p) x) out.width out.value o) →
      EndsNear symbols Told spared operands asks keyed regs m hs p o
  near_end p x s o of near out some fits gives stays wide stands = λ r0 r n reach knows told holds.
      subst (λ code. EndedNear symbols Told spared code r n o) (sym (near_code operands asks p x of near))
      (ends_near symbols Told spared (out_insn (own_of asks p) (out_base asks p) x) r n o
      (set_effects symbols r n (reached (out_base asks p) x) (reg_of x.mode (own_of asks p)) o
      (set_again symbols r n x.tree (reached (out_base asks p) x) (reg_of x.mode (own_of asks p)) out.width out.value o wide
      (own_value symbols r n x.mode (own_of asks p) out.width out.value some (gives r holds) fits)
      (stands r0 r n reach knows holds))) stays told)
