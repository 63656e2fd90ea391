-- The law: a function with its frame keeps, in a frame of its own, what the function does in one that others make and leave.
use Rattle.std.proofs.Common.{◌≡◌, ℕ, ◌+◌, ◌≤◌, true, false, length, List, [], ◌∷◌, ◌++◌, refl, sym, ap, subst, ◌∙◌, arith}
use Rattle.rtx_tree.specs.declared.function.Function.{Function}
use Rattle.rtx_tree.specs.declared.function.Insn.{Insn}
use Rattle.rtx_tree.specs.declared.machine.Start.{Start}
use Rattle.rtx_tree.specs.declared.machine.World.{World}
use Rattle.rtl_chain.specs.End.{IsFinished, return_insn}
use Rattle.rtl_func.specs.Paths.{Path, Here}
use Rattle.func_run.specs.Run as func
use Rattle.rtl_step.specs.declared.step.State.{State}
use Rattle.law_function_kept.specs.Ends.{ends_past}
use Rattle.assign.specs.declared.places.Layout.{Layout}
use Rattle.law_window_replaced.proofs.law_window_lines.Simulation.{added}
use Rattle.law_window_replaced.specs.Natural.{RegistersAreNatural}
use Rattle.law_window_replaced.proofs.Stands.{stands_at}
use Rattle.law_frame.specs.Frame.{prologue, plain_insns, returns, left_at_returns, framed_insns, next_uid, IsFramed}
use Rattle.law_frame.specs.Kept.{lowered}
use Rattle.law_frame.specs.Keeps.{with_saved, IsLaidOut, Restores, KeepsInFrame}
use Rattle.law_frame.proofs.Straight.{Steps, run_behind, taken_behind, past_behind}
use Rattle.law_frame.proofs.Chain.{return_is}
use Rattle.law_frame.proofs.Lockstep.{Framing, Beside}
use Rattle.law_frame.proofs.Prologue.{enters, entered_alike}
use Rattle.law_frame.proofs.Keeping.{follows}

-- ---- how a finished chain ends

record Ends (f : Function) (chain : List Insn) : Type 0 where
  end : List Insn
  chain_is : chain ≡ f.insns ++ end
  ends : Path f.insns 0 (length f.insns) → (i : Insn) × (end ≡ i ∷ []) × (returns i ≡ true)

nothing_more : (insns : List Insn) → insns ≡ insns ++ []
nothing_more [] = refl
nothing_more (i ∷ insns) = ap (λ (more : List Insn). i ∷ more) (nothing_more insns)

ends_of : (f : Function) (chain : List Insn) → IsFinished f.insns chain → Ends f chain
ends_of f _ (IsFinished.returning reached) = record {
  end = return_insn f.insns ∷ [];
  chain_is = refl;
  ends = λ path. (return_insn f.insns, refl, return_is);
}
ends_of f _ (IsFinished.staying never) = record { end = []; chain_is = nothing_more f.insns; ends = λ path. absurd (never path) }

module _ (f : Function) (layout : Layout) (g : Function) (out : IsLaidOut f.locals layout) (natural : RegistersAreNatural f)
    (framed : IsFramed layout f g) where
  ending : Ends f framed.chain
  ending = ends_of f framed.chain framed.finished

  abbrev first : ℕ
  first = next_uid f.insns

  abbrev body : ℕ
  body = first + length (prologue layout)

  insns_are : g.insns ≡ plain_insns first (prologue layout) ++ left_at_returns layout body (f.insns ++ ending.end)
  insns_are = ap (λ (h : Function). h.insns) framed.framed_is ∙ ap (framed_insns layout first) ending.chain_is

  abbrev framing : World → Framing
  framing world = record {
    world = world;
    f = f;
    g = g;
    layout = layout;
    end = ending.end;
    first = first;
    uid = body;
    insns_are = insns_are;
    natural = natural;
    ends = ending.ends;
  }

  never_past : (world : World) (t u : State) (k n : ℕ) → Steps world g k t u → ends_past world g n u ≡ false →
      ends_past world g (added k n) t ≡ true → ⊥
  never_past world t u k n steps_are within past =
      let both : true ≡ false = sym past ∙ past_behind world g k n t u steps_are ∙ within in cc

  -- it does what the function does, and leaves to its caller what it found
  pub keeps_in_frame : KeepsInFrame f layout g
  keeps_in_frame = λ start world n lawful lawful_world stays defined.
      let c = framing world in
      let inner : Start = lowered layout.size (with_saved layout start) in
      let rest = left_at_returns layout body (f.insns ++ ending.end) in
      let b = enters world g start f.locals layout lawful out first rest insns_are in
      let beside : Beside c (func.entry_of inner) b.after = record {
        rest = f.insns;
        p = 0;
        q = b.place;
        n = body;
        stands = stands_at f.insns 0 f.insns refl (omega arith);
        other = b.stands;
        path = Here 0;
        alike = entered_alike world g start f.locals layout lawful out rest b;
      } in
      let r = follows c start lawful out (ap (λ (h : Function). h.result) framed.framed_is) n (func.entry_of inner) b.after beside stays defined in (
        added b.count r.count,
        subst (λ k. func.taken f inner world n ≤ k) (sym (taken_behind world g b.count r.count (func.entry_of start) b.after b.steps_are)) r.enough,
        subst (Restores start (func.run_of f inner world n)) (sym (run_behind world g b.count r.count (func.entry_of start) b.after b.steps_are))
            r.restores,
        λ past. never_past world (func.entry_of start) b.after b.count r.count b.steps_are r.within past,
      )
