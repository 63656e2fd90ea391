-- Steps through moves are steps through which all stays that has to stay.
use Rattle.std.proofs.Common.{ℕ, ◌+◌, length, List, [], ◌∷◌, ◌++◌, refl, ◌∙◌}
use Rattle.rtx_tree.specs.declared.function.Function.{Function}
use Rattle.rtx_tree.specs.declared.function.Insn.{Insn}
use Rattle.rtx_tree.specs.declared.memories.MemByte.{MemByte}
use Rattle.rtx_tree.specs.declared.tree.Rtx.{Rtx}
use Rattle.rtl_step.specs.Regs.{Regs}
use Rattle.rtl_step.specs.Effect.{regs_after, memory_after}
use Rattle.rtl_step.specs.declared.effect.Effect.{Effect}
use Rattle.rtl_step.specs.declared.step.State.{State}
use Rattle.rtl_step.specs.declared.step.StepEnd.TheVariants as ends
use Rattle.law_reload_moves.specs.law_frame.Frame.{plain_insns}
use Rattle.law_reload_moves.specs.law_operands_fetched.Onwards.{Onwards, ArePlain}
use Rattle.law_reload_moves.specs.law_operands_fetched.Onwards as onwards
use Rattle.law_reload_moves.specs.law_operands_replaced.Spare.{KeepsRest}
use Rattle.law_reload_moves.proofs.law_operands_fetched.Keeping.{Stay}
use Rattle.law_reload_moves.proofs.law_operands_fetched.PlainWindow.{ComesTo}
use Rattle.law_reload_moves.proofs.law_operands_replaced.Registers.{value_alike}
use Rattle.law_reload_moves.proofs.law_window_replaced.Stands.{Stands}
use Rattle.law_homes.proofs.Setting.{Setting}
use Rattle.law_reload.specs.Steps.{Kept, Leads}
use Rattle.law_reload.specs.Steps as parts
use Rattle.law_reload.proofs.Law.{pair_of}
use Rattle.law_reload.proofs.Windows.{Comes, Unmarked}

-- ---- new plain instructions

pub plain_unmarked : (uid : ℕ) (xs : List Rtx) → Unmarked (plain_insns uid xs)
plain_unmarked uid [] = tt
plain_unmarked uid (x ∷ xs) = (refl, plain_unmarked (uid + 1) xs)

pub are_plain : (uid : ℕ) (xs : List Rtx) → ArePlain (plain_insns uid xs) xs
are_plain uid [] = tt
are_plain uid (x ∷ xs) = (refl, refl, are_plain (uid + 1) xs)

pub plain_both : (insns others : List Insn) (xs ys : List Rtx) → ArePlain insns xs →
    ArePlain others ys → ArePlain (insns ++ others) (xs ++ ys)
plain_both [] others [] ys plain more = more
plain_both [] others (x ∷ xs) ys plain more = absurd plain
plain_both (i ∷ insns) others [] ys plain more = absurd plain
plain_both (i ∷ insns) others (x ∷ xs) ys plain more = (
  plain.0,
  plain.1,
  plain_both insns others xs ys plain.2 more,
)

-- ---- steps

module _ (c : Setting) (g : Function) (u : State) where
  abbrev Told : Regs → List MemByte → Type 0
  Told = Stay c.f.locals c.layout c.start u

  told_kept : (t : State) → Told t.regs t.memory → Kept (pair_of c g) t
  told_kept t told = record { pointer = told.pointer; registers = told.registers; room = told.room }

  pub leads_of : (k : ℕ) (t last : State) → Kept (pair_of c g) t → Onwards c.world g Told k t last →
      Leads (pair_of c g) k t last
  leads_of _ t _ kept (onwards.stays _) = parts.none t
  leads_of _ t last kept (onwards.on k _ next _ is told rest) =
      parts.more k t next last ends.Next kept is refl (leads_of k next last (told_kept next told)
      rest)

  -- what a plain instruction with its moves leaves
  pub comes_of : (es : List Effect) (insns rest : List Insn) → Kept (pair_of c g) u →
      ComesTo c.world g c.f.locals c.layout c.start u es insns rest →
      Comes c g u (regs_after es u.regs) (memory_after es u.memory) rest
  comes_of es insns rest kept m = record {
    count = length insns;
    next_place = m.next_place;
    place = m.q;
    regs = m.regs;
    leads = leads_of (length insns) u (record u {
      next = m.next_place;
      regs = m.regs;
      memory =
          memory_after es u.memory;
    }) kept m.steps;
    stands = m.stands;
    knows = m.known;
  }

  -- ---- an instruction behind its moves

  -- So many steps lead through moves to the rest of the chain. All registers but t3 to t6, and
  -- memory, are as they were.
  pub record ComesBefore (insns rest : List Insn) : Type 0 where
    pub next_place : ℕ
    pub q : ℕ
    pub regs : Regs
    pub steps : Onwards c.world g Told (length insns) u (record u
        { next = next_place; regs = regs })
    pub stands : Stands g.insns next_place rest q
    pub keeps : KeepsRest u.regs regs

  abbrev pub before_comes : (insns rest : List Insn) → Kept (pair_of c g) u →
      ComesBefore insns rest → Comes c g u u.regs u.memory rest
  before_comes insns rest kept m = record {
    count = length insns;
    next_place = m.next_place;
    place = m.q;
    regs = m.regs;
    leads = leads_of (length insns) u (record u { next = m.next_place; regs = m.regs }) kept
        m.steps;
    stands = m.stands;
    knows = λ reg other w v is. value_alike u.regs m.regs reg w (m.keeps reg other) ∙ is;
  }
