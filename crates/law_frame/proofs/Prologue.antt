-- A frame is made at entry.
use Rattle.std.proofs.Common.{◌≡◌, ◌≢◌, ℕ, zero, suc, ◌+◌, ◌-◌, ◌<◌, ◌^◌, ◌==◌, ◌||◌, if◌then◌else◌, Bool, true, false, length, List, [], ◌∷◌, ◌++◌, Option, Some, None, refl, sym, ap, subst, ◌∙◌, arith}
use Rattle.std.proofs.lemmas.Bool.Decides.{nat_tests}
use Rattle.std.specs.FinMap.{get}
use Rattle.std.specs.List.{flat_map}
use Rattle.std.specs.Prelude.{option_and_then, pos, neg_ℤ}
use Rattle.bits64.specs.declared.Width.TheVariants.{W64}
use Rattle.rtx_tree.specs.declared.function.Function.{Function}
use Rattle.rtx_tree.specs.declared.function.Insn.{Insn}
use Rattle.rtx_tree.specs.declared.machine.Start.{Start}
use Rattle.rtx_tree.specs.declared.machine.World.{World}
use Rattle.rtl_step.specs.Regs.{known_in, known_of}
use Rattle.rtl_step.specs.declared.step.State.{State}
use Rattle.func_run.specs.Run.{entry_regs, entry_of}
use Rattle.same_behaviour.specs.Lawful.{IsLawful}
use Rattle.law_window_replaced.specs.law_window_kept.Same.{KnownToo}
use Rattle.law_window_replaced.proofs.Stands.{Stands, stands_at, stands_same}
use Rattle.assign.specs.declared.places.Layout.{Layout}
use Rattle.assign.specs.declared.places.SavedAt.{SavedAt}
use Rattle.law_frame.specs.Frame.{stored, sp_changed, frame_made, prologue, plain_insns}
use Rattle.law_frame.specs.Kept.{lowered}
use Rattle.law_frame.specs.Keeps.{with_words, with_saved, IsLaidOut}
use Rattle.law_frame.proofs.Registers.{differ, differs, value_alike, holds}
use Rattle.law_frame.proofs.Entry.{lowered_other, spare_unset, sp_given}
use Rattle.law_frame.proofs.Numbers.{lowers}
use Rattle.law_frame.proofs.Behind.{Behind, with_memory, behind_none, behind_both}
use Rattle.law_frame.proofs.Changes.{is_sp, none, two_other, Points, sp_changes}
use Rattle.law_frame.proofs.Stores.{Any, plain-append, AreStorable, Holds, stores}
use Rattle.law_frame.proofs.Layouts.{HavePlaces, all_places, none_saved, no_register, small_offset, word_there}
use Rattle.law_frame.proofs.Held.{is_held}
use Rattle.law_frame.proofs.Lockstep.{Alike}

module _ (world : World) (g : Function) (start : Start) (locals : ℕ) (layout : Layout) (lawful : IsLawful layout.size locals start)
    (out : IsLaidOut locals layout) where
  abbrev base : ℕ
  base = start.sp - layout.size

  -- sp is lowered
  abbrev Lowered : State → Type 0
  Lowered t = get t.regs 2 ≡ Some (known_of W64 base)

  -- the frame is made
  abbrev pub IsEntered : List Insn → Type 0
  IsEntered rest = Behind world g (entry_of start) rest is_sp (with_saved layout start).memory Lowered

  two_some : ◌≢◌ {A = ℕ} 2 0
  two_some is = omega (arith, is)

  base_small : base < 2 ^ 64
  base_small = let small = lawful.words.sp in omega (arith, small)

  -- what is saved can be stored
  storable : (saved : List SavedAt) → HavePlaces start locals layout lawful saved → AreStorable world g base start start.memory saved
  storable [] have = tt
  storable (s ∷ saved) have = (
    record {
      small = small_offset start locals layout lawful s.offset have.0.within;
      other = (no_register s.reg have.0.preserved).2;
      has = word_there start locals layout lawful s.offset out.size_aligned have.0.aligned have.0.within;
    },
    storable saved have.1,
  )

  hold : (t : State) (saved : List SavedAt) → HavePlaces start locals layout lawful saved →
      ((r : ℕ) → r ≢ 28 → is_sp r ≡ false → get t.regs r ≡ get (entry_regs start) r) → Holds world g base start t saved
  hold t [] have same = tt
  hold t (s ∷ saved) have same =
      let other = no_register s.reg have.0.preserved in (
        value_alike (entry_regs start) t.regs s.reg W64 (same s.reg other.2 (differ s.reg 2 other.1)) ∙
            (is_held start lawful.words s.reg have.0.preserved).value_is,
        hold t saved have.1 same,
      )

  or_none : (b : Bool) → b ≡ false → b || false ≡ false
  or_none true is = is
  or_none false is = refl

  by_size : (nothing : Bool) (first : ℕ) (rest : List Insn) → (layout.size == 0) ≡ nothing →
      Stands g.insns 0 (plain_insns first (if nothing then [] else frame_made layout) ++ rest) 0 → IsEntered rest
  by_size true first rest is stands =
      let empty : layout.size ≡ 0 = grind (arith, nat_tests, is) in
      let none_is = none_saved start locals layout lawful (all_places start locals layout lawful out) empty in
      let same : start.sp ≡ base = omega (arith, empty) in
      let b = behind_none world g (entry_of start) rest is_sp Lowered 0 stands (sp_given start ∙ ap (λ n. Some (known_of W64 n)) same) in
      with_memory world g (entry_of start) rest is_sp start.memory (with_saved layout start).memory Lowered Lowered
      (sym (ap (λ (saved : List SavedAt). with_words start base saved start.memory) none_is)) b b.holds
  by_size false first rest is stands =
      let some : 0 < layout.size = grind (arith, nat_tests, is) in
      let change = sp_changed layout.size (neg_ℤ (pos layout.size)) in
      let first' : ℕ = first + length change in
      let have = all_places start locals layout lawful out in
      let b = sp_changes world g (entry_of start) first 0 layout.size start.sp base (neg_ℤ (pos layout.size))
      (plain_insns first' (flat_map stored layout.saved) ++ rest)
      (stands_same g.insns 0 _ _ 0 (plain-append first change (flat_map stored layout.saved) rest) stands)
      (holds (entry_regs start) 2 start.sp two_some lawful.words.sp (sp_given start))
      (lowers start.sp layout.size some lawful.above_zero lawful.words.sp) in
      let more = stores world g base start layout.saved b.after first' b.place rest
      (subst (λ m. AreStorable world g base start m layout.saved) (sym b.memory_is) (storable layout.saved have)) b.stands
      (holds b.after.regs 2 base two_some base_small b.holds) (hold b.after layout.saved have b.others) in
      let whole = behind_both world g (entry_of start) (plain_insns first' (flat_map stored layout.saved) ++ rest) rest is_sp none start.memory
      (with_saved layout start).memory (Points world g base) Lowered b
      (with_memory world g b.after rest none (with_words start base layout.saved b.after.memory) (with_saved layout start).memory Any Lowered
      (ap (with_words start base layout.saved) b.memory_is) more (more.others 2 two_other refl ∙ b.holds)) in record {
        count = whole.count;
        after = whole.after;
        place = whole.place;
        steps_are = whole.steps_are;
        stands = whole.stands;
        others = λ r other kept. whole.others r other (or_none (is_sp r) kept);
        memory_is = whole.memory_is;
        visible_is = whole.visible_is;
        calls_are = whole.calls_are;
        holds = whole.holds;
      }

  pub enters : (first : ℕ) (rest : List Insn) → g.insns ≡ plain_insns first (prologue layout) ++ rest → IsEntered rest
  enters first rest are = by_size (layout.size == 0) first rest refl (stands_at g.insns 0 _ are (omega arith))

  -- ---- what there is then

  abbrev inner : Start
  inner = lowered layout.size (with_saved layout start)

  -- what is unset is not known
  unset_known : (t : State) (r : ℕ) → r ≢ 0 → get (entry_regs inner) r ≡ None → KnownToo (entry_regs inner) t.regs r
  unset_known t zero some none_is = absurd (some refl)
  unset_known t (suc r) some none_is = λ w v is.
      absurd (let none_known : ◌≡◌ {A = Option ℕ} None (Some v) = sym (ap (option_and_then (known_in w)) none_is) ∙ is in let no : ⊥ = cc in no)

  same_entry : (n r : ℕ) → r ≡ suc n → r ≢ 2 → get (entry_regs inner) r ≡ get (entry_regs start) r
  same_entry n r next other =
      ap (get (entry_regs inner)) next ∙ lowered_other layout.size (with_saved layout start) n (λ is. other (next ∙ is)) ∙
      ap (get (entry_regs start)) (sym next)

  known_by : (t : State) (n r : ℕ) (spare sp : Bool) → r ≡ suc n → (r == 28) ≡ spare → (r == 2) ≡ sp → get t.regs 2 ≡ Some (known_of W64 base) →
      ((r : ℕ) → r ≢ 28 → is_sp r ≡ false → get t.regs r ≡ get (entry_regs start) r) → KnownToo (entry_regs inner) t.regs r
  known_by t n r true sp next is is' pointer others =
      let here : r ≡ 28 = grind (arith, nat_tests, is) in
      subst (KnownToo (entry_regs inner) t.regs) (sym here) (unset_known t 28 (λ zero_is. omega (arith, zero_is)) (spare_unset inner))
  known_by t n r false true next is is' pointer others =
      let here : r ≡ 2 = grind (arith, nat_tests, is') in
      subst (KnownToo (entry_regs inner) t.regs) (sym here) (λ w v known.
      value_alike (entry_regs inner) t.regs 2 w (pointer ∙ sym (sp_given inner)) ∙ known)
  known_by t n r false false next is is' pointer others = λ w v known.
      value_alike (entry_regs inner) t.regs r w (others r (differs r 28 is) is' ∙ sym (same_entry n r next (differs r 2 is'))) ∙ known

  known_at : (t : State) (r : ℕ) → get t.regs 2 ≡ Some (known_of W64 base) →
      ((r : ℕ) → r ≢ 28 → is_sp r ≡ false → get t.regs r ≡ get (entry_regs start) r) → KnownToo (entry_regs inner) t.regs r
  known_at t zero pointer others = λ w v is. is
  known_at t (suc r) pointer others = known_by t r (suc r) (suc r == 28) (suc r == 2) refl refl refl pointer others

  -- the state is that at the start in the frame, but that t3 may be known
  pub entered_alike : (rest : List Insn) (e : IsEntered rest) → Alike (entry_of inner) e.after
  entered_alike rest e = record {
    known = λ reg. known_at e.after reg e.holds e.others;
    memory_is = e.memory_is;
    visible_is = e.visible_is;
    calls_are = e.calls_are;
  }
