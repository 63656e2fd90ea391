-- A function that names registers of the machine alone does so with a frame of its own.
use Rattle.std.proofs.Common.{◌≡◌, ℕ, ◌+◌, ◌<◌, ◌≤◌, ◌==◌, if◌then◌else◌, Bool, true, false, List, [], ◌∷◌, ◌++◌, length, sym, subst, arith, refl}
use Rattle.std.specs.List.{All, AllByRecursion, flat_map}
use Rattle.std.specs.Prelude.{ℤ, pos, neg_ℤ, nat_lt}
use Rattle.std.proofs.lemmas.Bool.{ltb-true}
use Rattle.std.proofs.lemmas.List.Elements.{recursion_from_All}
use Rattle.rtx_tree.specs.Patterns.{sum_rtx, return_rtx}
use Rattle.rtx_tree.specs.RegSet.{has_reg}
use Rattle.rtx_tree.specs.Tree.{reg_of, const_of}
use Rattle.rtx_tree.specs.declared.code.Code.TheVariants.{Mem, Plus, Return}
use Rattle.rtx_tree.specs.declared.code.Mode.TheVariants.{Void, DI}
use Rattle.rtx_tree.specs.declared.function.Function.{Function}
use Rattle.rtx_tree.specs.declared.function.Insn.{Insn}
use Rattle.rtx_tree.specs.declared.tree.Rtx.{Rtx}
use Rattle.rtl_chain.specs.End.{return_insn, IsFinished}
use Rattle.law_reload.proofs.law_rules.Registers.{one_of}
use Rattle.assign.specs.declared.places.Layout.{Layout}
use Rattle.assign.specs.declared.places.SavedAt.{SavedAt}
use Rattle.reload.proofs.law_pass_needs.Places.{all_joined}
use Rattle.law_reload.specs.law_frame.Frame.{sp_rtx, spare_rtx, short_change, long_change, most_short, most_near, sp_changed, near_address, far_base}
use Rattle.law_reload.specs.law_frame.Frame.{base_made, address_at, word_at, stored, loaded, frame_made, frame_left, prologue, epilogue, plain_insns}
use Rattle.law_reload.specs.law_frame.Frame.{return_with, leaving, left_uid, returns, left_at_returns, next_uid, IsFramed}
use Rattle.law_reload.specs.law_frame.Kept.{preserved_registers}
use Rattle.law_emitted_hard.specs.Hard.{IsHard, AreHard}
use Rattle.law_emitted_hard.proofs.Trees.{all_hard, hard_tree, reg_hard, const_hard, node_hard, pair_hard, set_hard}
use Rattle.law_no_pseudos.specs.Hard.{IsHardInsn, AreHardInsns, IsHardFunction}
use Rattle.law_no_pseudos.proofs.Reloaded.{plain_hard}

-- what is saved is of ra and s0 to s11
abbrev SavesPreserved : Layout → Type 0
SavesPreserved layout = All (λ s. has_reg preserved_registers s.reg ≡ true) layout.saved

either : (b : Bool) (xs ys : List Rtx) → AreHard xs → AreHard ys → AreHard (if b then xs else ys)
either true xs ys one two = one
either false xs ys one two = two

-- ---- trees

sp_hard : IsHard sp_rtx
sp_hard = reg_hard DI 2 (omega arith)

spare_hard : IsHard spare_rtx
spare_hard = reg_hard DI 28 (omega arith)

sum_hard : (a b : Rtx) → IsHard a → IsHard b → IsHard (sum_rtx a b)
sum_hard a b is more = pair_hard Plus DI a b is more

changed_hard : (size : ℕ) (number : ℤ) → AreHard (sp_changed size number)
changed_hard size number = either (nat_lt most_short size) (long_change number) (short_change number) (
  set_hard spare_rtx (const_of number) spare_hard (const_hard number),
  (set_hard sp_rtx (sum_rtx sp_rtx spare_rtx) sp_hard (sum_hard sp_rtx spare_rtx sp_hard spare_hard), tt),
)
    (set_hard sp_rtx (sum_rtx sp_rtx (const_of number)) sp_hard (sum_hard sp_rtx (const_of number) sp_hard (const_hard number)), tt)

made_hard : (offset : ℕ) → AreHard (base_made offset)
made_hard offset = either (nat_lt most_near offset) (far_base offset) [] (
  set_hard spare_rtx (const_of (pos offset)) spare_hard (const_hard (pos offset)),
  (set_hard spare_rtx (sum_rtx spare_rtx sp_rtx) spare_hard (sum_hard spare_rtx sp_rtx spare_hard sp_hard), tt),
)
    tt

near_hard : (offset : ℕ) → IsHard (near_address offset)
near_hard offset = by (offset == 0)
  where
    by : (b : Bool) → IsHard (if b then sp_rtx else sum_rtx sp_rtx (const_of (pos offset)))
    by true = sp_hard
    by false = sum_hard sp_rtx (const_of (pos offset)) sp_hard (const_hard (pos offset))

address_hard : (offset : ℕ) → IsHard (address_at offset)
address_hard offset = by (nat_lt most_near offset)
  where
    by : (b : Bool) → IsHard (if b then spare_rtx else near_address offset)
    by true = spare_hard
    by false = near_hard offset

word_hard : (offset : ℕ) → IsHard (word_at offset)
word_hard offset = node_hard Mem DI (address_at offset ∷ []) (address_hard offset, tt)

-- ---- what is saved

few : (reg : ℕ) → has_reg preserved_registers reg ≡ true → reg ≤ 31
few reg has = let below : reg < 32 = ltb-true reg 32 (one_of (λ r. nat_lt r 32) preserved_registers refl reg has) in omega (arith, below)

saved_hard : (s : SavedAt) → has_reg preserved_registers s.reg ≡ true → IsHard (reg_of DI s.reg)
saved_hard s has = reg_hard DI s.reg (few s.reg has)

abbrev AllSaved : List SavedAt → Type 0
AllSaved saved = AllByRecursion (λ s. has_reg preserved_registers s.reg ≡ true) saved

stored_hard : (saved : List SavedAt) → AllSaved saved → AreHard (flat_map stored saved)
stored_hard [] all = tt
stored_hard (s ∷ saved) all =
    all_hard (stored s) (flat_map stored saved)
    (all_hard (base_made s.offset) _ (made_hard s.offset) (set_hard (word_at s.offset) (reg_of DI s.reg) (word_hard s.offset) (saved_hard s all.0), tt))
    (stored_hard saved all.1)

loaded_hard : (saved : List SavedAt) → AllSaved saved → AreHard (flat_map loaded saved)
loaded_hard [] all = tt
loaded_hard (s ∷ saved) all =
    all_hard (loaded s) (flat_map loaded saved)
    (all_hard (base_made s.offset) _ (made_hard s.offset) (set_hard (reg_of DI s.reg) (word_at s.offset) (saved_hard s all.0) (word_hard s.offset), tt))
    (loaded_hard saved all.1)

-- ---- instructions

return_hard : IsHard return_rtx
return_hard = hard_tree (record { code = Return; mode = Void; number = pos 0; name = [] }) [] refl tt

finished_hard : (insns chain : List Insn) → IsFinished insns chain → AreHardInsns insns → AreHardInsns chain
finished_hard insns _ (IsFinished.returning reached) all = all_joined IsHardInsn insns (return_insn insns ∷ []) all (return_hard, tt)
finished_hard insns _ (IsFinished.staying never) all = all

module _ (layout : Layout) (saves : SavesPreserved layout) where
  all_saved : AllSaved layout.saved
  all_saved = recursion_from_All (λ s. has_reg preserved_registers s.reg ≡ true) layout.saved saves

  prologue_hard : AreHard (prologue layout)
  prologue_hard = either (layout.size == 0) [] (frame_made layout) tt
      (all_hard (sp_changed layout.size (neg_ℤ (pos layout.size))) (flat_map stored layout.saved)
      (changed_hard layout.size (neg_ℤ (pos layout.size))) (stored_hard layout.saved all_saved))

  epilogue_hard : AreHard (epilogue layout)
  epilogue_hard = either (layout.size == 0) [] (frame_left layout) tt
      (all_hard (flat_map loaded layout.saved) (sp_changed layout.size (pos layout.size)) (loaded_hard layout.saved all_saved)
      (changed_hard layout.size (pos layout.size)))

  leaving_hard : (uid : ℕ) → AreHardInsns (leaving layout uid)
  leaving_hard uid =
      all_joined IsHardInsn (plain_insns uid (epilogue layout)) (return_with (uid + length (epilogue layout)) ∷ [])
      (plain_hard uid (epilogue layout) epilogue_hard) (return_hard, tt)

  by_return : (b : Bool) (gone stay : List Insn) → AreHardInsns gone → AreHardInsns stay → AreHardInsns (if b then gone else stay)
  by_return true gone stay one two = one
  by_return false gone stay one two = two

  left_hard : (uid : ℕ) (insns : List Insn) → AreHardInsns insns → AreHardInsns (left_at_returns layout uid insns)
  left_hard uid [] all = tt
  left_hard uid (i ∷ insns) all =
      let behind = left_at_returns layout (left_uid layout uid) insns in
      let stay = left_at_returns layout uid insns in
      by_return (returns i) (leaving layout uid ++ behind) (i ∷ stay)
      (all_joined IsHardInsn (leaving layout uid) behind (leaving_hard uid) (left_hard (left_uid layout uid) insns all.1))
      (all.0, left_hard uid insns all.1)

  pub frame_hard : (f g : Function) → IsHardFunction f → IsFramed layout f g → IsHardFunction g
  frame_hard f g hard framed =
      let first = next_uid f.insns in
      let body = first + length (prologue layout) in
      subst IsHardFunction (sym framed.framed_is)
      (all_joined IsHardInsn (plain_insns first (prologue layout)) (left_at_returns layout body framed.chain)
      (plain_hard first (prologue layout) prologue_hard)
      (left_hard body framed.chain (finished_hard f.insns framed.chain framed.finished hard)))
