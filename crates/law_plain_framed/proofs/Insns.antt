-- Each new instruction of a function with its frame is matched by a plain form.
use Rattle.std.proofs.Common.{◌≡◌, ℕ, ◌+◌, ◌≤◌, true, List, [], ◌∷◌, ◌++◌, length, arith}
use Rattle.std.proofs.lemmas.Bool.Decides.{nat_tests}
use Rattle.std.specs.Prelude.{max}
use Rattle.std.specs.List.{AllByRecursion}
use Rattle.rtx_tree.specs.declared.tree.Rtx.{Rtx}
use Rattle.rtx_tree.specs.declared.function.Insn.{Insn}
use Rattle.c_eval.specs.declared.facts.Facts.{Facts}
use Rattle.rtl_chain.specs.Counts.{greatest_uid}
use Rattle.rtl_chain.specs.End.{return_insn, IsFinished}
use Rattle.assign.specs.declared.places.Layout.{Layout}
use Rattle.frame.specs.law_frame.Frame.{plain_insns, return_with, entering, leaving, left_uid, returns, left_at_returns, prologue, epilogue, framed_insns, next_uid}
use Rattle.frame.specs.Framed.{is_new}
use Rattle.law_plain_framed.specs.Framed.{IsTaken, SavesRegister}
use Rattle.law_plain_framed.proofs.Moves as moves
use Rattle.law_plain_framed.proofs.Items.{joined, either, weakened}
use Rattle.law_plain_framed.proofs.Pieces.{prologue_taken, epilogue_taken}

-- ---- what stood there is not new

first_below : (a b n : ℕ) → max a b ≤ n → a ≤ n
first_below a b n below = grind (arith, below)

rest_below : (a b n : ℕ) → max a b ≤ n → b ≤ n
rest_below a b n below = grind (arith, below)

abbrev IsOld : ℕ → Insn → Type 0
IsOld n i = i.uid ≤ n

old : (n : ℕ) (insns : List Insn) → greatest_uid insns ≤ n → AllByRecursion (IsOld n) insns
old n [] below = tt
old n (i ∷ insns) below =
    (first_below i.uid (greatest_uid insns) n below, old n insns (rest_below i.uid (greatest_uid insns) n below))

module _ (facts : Facts) (layout : Layout) (first : ℕ) where
  -- an instruction is matched, if it is new
  abbrev pub TakenIfNew : Insn → Type 0
  TakenIfNew i = is_new first i ≡ true → IsTaken facts i.pattern

  abbrev Each : List Insn → Type 0
  Each insns = AllByRecursion TakenIfNew insns

  -- ---- the chain

  not_new : (n : ℕ) → first ≡ n + 1 → (i : Insn) → IsOld n i → TakenIfNew i
  not_new n is i old new = absurd (let no : ⊥ = grind (arith, nat_tests, is, old, new) in no)

  stood : (insns : List Insn) → first ≡ next_uid insns → Each insns
  stood insns is = weakened (IsOld (greatest_uid insns)) TakenIfNew (not_new (greatest_uid insns) is) insns (old (greatest_uid insns) insns (omega arith))

  pub finished : (insns chain : List Insn) → first ≡ next_uid insns → IsFinished insns chain → Each chain
  finished insns _ is (IsFinished.returning reached) = joined TakenIfNew insns (return_insn insns ∷ []) (stood insns is) (λ new. moves.return facts, tt)
  finished insns _ is (IsFinished.staying never) = stood insns is

  -- ---- what is put in

  put_in : (uid : ℕ) (xs : List Rtx) → AllByRecursion (IsTaken facts) xs → Each (plain_insns uid xs)
  put_in uid [] all = tt
  put_in uid (x ∷ xs) all = (λ new. all.0, put_in (uid + 1) xs all.1)

  module _ (saved : AllByRecursion SavesRegister layout.saved) where
    left : (uid : ℕ) → Each (leaving layout uid)
    left uid =
        joined TakenIfNew (plain_insns uid (epilogue layout)) (return_with (uid + length (epilogue layout)) ∷ []) (put_in uid (epilogue layout) (epilogue_taken facts layout saved)) (λ new. moves.return facts, tt)

    returned : (uid : ℕ) (insns : List Insn) → Each insns → Each (left_at_returns layout uid insns)
    returned uid [] all = tt
    returned uid (i ∷ insns) all =
        either TakenIfNew (returns i) (leaving layout uid ++ left_at_returns layout (left_uid layout uid) insns) (i ∷ left_at_returns layout uid insns)
        (joined TakenIfNew (leaving layout uid) (left_at_returns layout (left_uid layout uid) insns) (left uid) (returned (left_uid layout uid) insns all.1))
        (all.0, returned uid insns all.1)

    pub all_taken : (uid : ℕ) (chain : List Insn) → Each chain → Each (framed_insns layout uid chain)
    all_taken uid chain all =
        joined TakenIfNew (entering layout uid) (left_at_returns layout (uid + length (prologue layout)) chain) (put_in uid (prologue layout) (prologue_taken facts layout saved)) (returned (uid + length (prologue layout)) chain all)
