-- What is equated over every register can be replaced, whichever registers are live behind it.
use Rattle.std.proofs.Common.{◌≡◌, ℕ, true, List, [], ◌∷◌, Option, Some, refl, sym, subst, arith}
use Rattle.std.proofs.lemmas.Bool.Decides.{nat_tests}
use Rattle.rtx_tree.specs.RegSet.{has_reg}
use Rattle.rtx_tree.specs.declared.function.Insn.{Insn}
use Rattle.rtx_tree.specs.declared.machine.RangeAt.{RangeAt}
use Rattle.rtx_tree.specs.declared.machine.SymbolAt.{SymbolAt}
use Rattle.rtx_tree.specs.declared.memories.MemByte.{MemByte}
use Rattle.law_window_runs.specs.rtl_step.Regs.{Regs}
use Rattle.law_window_runs.specs.Insns.{InsnsCome, insns_come}
use Rattle.law_window_kept.specs.Same.{KnownToo, InsnsDo, Starts, CanReplace}
use Rattle.equate.proofs.Soundness.{few_keep}
use Rattle.reuse.specs.Reuse.{EquatedOverAll}

-- the set of one register has it
one_in : (reg r : ℕ) → r ≡ reg → has_reg (reg ∷ []) r ≡ true
one_in reg r is = grind (arith, nat_tests, is)

come_one : (o : Option InsnsCome) (a b : InsnsCome) → o ≡ Some a → o ≡ Some b → a ≡ b
come_one o a b first second = cc

module _ (before after : List Insn) (equated : EquatedOverAll before after) where
  over_none : CanReplace before after (λ r. ⊥)
  over_none = few_keep before after [] (equated []) (λ r. ⊥) (λ r none. absurd none)

  over_one : (reg : ℕ) → CanReplace before after (λ r. r ≡ reg)
  over_one reg = few_keep before after (reg ∷ []) (equated (reg ∷ [])) (λ r. r ≡ reg) (one_in reg)

  module _ (Live : ℕ → Type 0) (symbols : List SymbolAt) (ranges : List RangeAt) (regs other : Regs) (memory : List MemByte) (came : InsnsCome)
      (starts : Starts before Live symbols regs other memory) (comes : insns_come symbols ranges before regs memory ≡ Some came) where
    narrowed : (Few : ℕ → Type 0) → ((r : ℕ) → Few r → Live r) → Starts before Few symbols regs other memory
    narrowed Few few = record {
      symbols_are = starts.symbols_are;
      memory_is = starts.memory_is;
      used = starts.used;
      passed = λ r is none. starts.passed r (few r is) none;
    }

    first : InsnsDo before after (λ r. ⊥) symbols ranges other memory came
    first = over_none.same symbols ranges regs other memory came (narrowed (λ r. ⊥) (λ r none. absurd none)) comes

    each : (reg : ℕ) → Live reg → InsnsDo before after (λ r. r ≡ reg) symbols ranges other memory came
    each reg lives = (over_one reg).same symbols ranges regs other memory came (narrowed (λ r. r ≡ reg) (λ r is. subst Live (sym is) lives)) comes

    all_do : InsnsDo before after Live symbols ranges other memory came
    all_do = record {
      done = first.done;
      comes = first.comes;
      same_end = first.same_end;
      memory_is = first.memory_is;
      agree = λ reg lives kept.
          let one = each reg lives in
          subst (λ (d : InsnsCome). KnownToo came.regs d.regs reg) (come_one (insns_come symbols ranges after other memory) one.done first.done one.comes first.comes) (one.agree reg refl kept);
      kept = first.kept;
    }

  pub over_any : (Live : ℕ → Type 0) → CanReplace before after Live
  over_any Live = record { before_leads = over_none.before_leads; after_leads = over_none.after_leads; same = all_do Live }
