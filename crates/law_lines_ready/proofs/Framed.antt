-- A function with a frame of its own has placed instructions still.
use Rattle.std.proofs.Common.{◌≡◌, ℕ, ◌+◌, ◌<◌, ◌^◌, ◌==◌, if◌then◌else◌, Bool, true, false, List, [], ◌∷◌}
use Rattle.std.proofs.Common.{◌++◌, length, refl, sym, ap, subst, ◌∙◌, arith}
use Rattle.std.specs.List.{All, AllByRecursion, flat_map, list_all}
use Rattle.std.specs.Prelude.{ℤ, pos, neg_ℤ, nat_lt}
use Rattle.std.proofs.lemmas.Bool.{false≢true, and_parts, ltb-true}
use Rattle.std.proofs.lemmas.List.Elements.{recursion_from_All}
use Rattle.rtx_tree.specs.Patterns.{sum_rtx, return_rtx}
use Rattle.rtx_tree.specs.RegSet.{has_reg}
use Rattle.rtx_tree.specs.Tree.{head_of, reg_of, const_of}
use Rattle.rtx_tree.specs.declared.code.Code.TheVariants.{Mem, Return}
use Rattle.rtx_tree.specs.declared.code.Mode.TheVariants.{Void, DI}
use Rattle.rtx_tree.specs.declared.function.Function.{Function}
use Rattle.rtx_tree.specs.declared.function.Insn.{Insn}
use Rattle.rtx_tree.specs.declared.tree.Rtx.{Rtx, out-roll-Rtx}
use Rattle.rtx_tree.specs.declared.tree.Rtx.TheOpen.{Rtx-F}
use Rattle.split.specs.form_needs.Needs.{is_note}
use Rattle.sym_insns.specs.Shape.{all_natural}
use Rattle.law_reload.proofs.law_rules.Registers.{one_of}
use Rattle.rtl_chain.specs.End.{return_insn, IsFinished}
use Rattle.assign.specs.declared.places.Layout.{Layout}
use Rattle.assign.specs.declared.places.SavedAt.{SavedAt}
use Rattle.law_output.proofs.law_pass_needs.Places.{all_joined}
use Rattle.law_reload.specs.law_frame.Frame.{sp_rtx, spare_rtx, short_change, long_change, most_short, most_near, sp_changed, near_address, far_base}
use Rattle.law_reload.specs.law_frame.Frame.{base_made, address_at, word_at, stored, loaded, frame_made, frame_left, prologue, epilogue, plain_insns}
use Rattle.law_reload.specs.law_frame.Frame.{return_with, leaving, left_uid, returns, left_at_returns, next_uid, IsFramed}
use Rattle.law_reload.specs.law_frame.Kept.{preserved_registers}
use Rattle.law_reload.proofs.NaturalMoves.{natural_tree, reg_natural, const_natural, sum_natural, set_natural, both}
use Rattle.law_lines_ready.specs.Placed.{IsInsnPlaced, ArePlaced}

-- what is saved is of ra and s0 to s11
abbrev pub SavesPreserved : Layout → Type 0
SavesPreserved layout = All (λ s. has_reg preserved_registers s.reg ≡ true) layout.saved

abbrev AreNatural : List Rtx → Type 0
AreNatural xs = list_all all_natural xs ≡ true

joined : (xs ys : List Rtx) → AreNatural xs → AreNatural ys → AreNatural (xs ++ ys)
joined [] ys all more = more
joined (x ∷ xs) ys all more =
    let parts = and_parts (all_natural x) (list_all all_natural xs) all in
    both (all_natural x) (list_all all_natural (xs ++ ys)) parts.0 (joined xs ys parts.1 more)

if_natural : (b : Bool) (xs ys : List Rtx) → AreNatural xs → AreNatural ys → AreNatural (if b then xs else ys)
if_natural true xs ys one two = one
if_natural false xs ys one two = two

-- ---- trees

sp_natural : all_natural sp_rtx ≡ true
sp_natural = reg_natural DI 2 (omega arith)

spare_natural : all_natural spare_rtx ≡ true
spare_natural = reg_natural DI 28 (omega arith)

alone : (x : Rtx) → all_natural x ≡ true → AreNatural (x ∷ [])
alone x is = both (all_natural x) true is refl

pair : (x y : Rtx) → all_natural x ≡ true → all_natural y ≡ true → AreNatural (x ∷ y ∷ [])
pair x y is more = both (all_natural x) _ is (alone y more)

changed_natural : (size : ℕ) (number : ℤ) → AreNatural (sp_changed size number)
changed_natural size number = if_natural (nat_lt most_short size) (long_change number) (short_change number)
    (pair _ _ (set_natural spare_rtx (const_of number) spare_natural (const_natural number))
    (set_natural sp_rtx _ sp_natural (sum_natural sp_rtx spare_rtx sp_natural spare_natural)))
    (alone _ (set_natural sp_rtx _ sp_natural (sum_natural sp_rtx (const_of number) sp_natural (const_natural number))))

made_natural : (offset : ℕ) → AreNatural (base_made offset)
made_natural offset = if_natural (nat_lt most_near offset) (far_base offset) []
    (pair _ _ (set_natural spare_rtx (const_of (pos offset)) spare_natural (const_natural (pos offset)))
    (set_natural spare_rtx _ spare_natural (sum_natural spare_rtx sp_rtx spare_natural sp_natural)))
    refl

near_natural : (offset : ℕ) → all_natural (near_address offset) ≡ true
near_natural offset = by (offset == 0)
  where
    by : (b : Bool) → all_natural (if b then sp_rtx else sum_rtx sp_rtx (const_of (pos offset))) ≡ true
    by true = sp_natural
    by false = sum_natural sp_rtx (const_of (pos offset)) sp_natural (const_natural (pos offset))

address_natural : (offset : ℕ) → all_natural (address_at offset) ≡ true
address_natural offset = by (nat_lt most_near offset)
  where
    by : (b : Bool) → all_natural (if b then spare_rtx else near_address offset) ≡ true
    by true = spare_natural
    by false = near_natural offset

word_natural : (offset : ℕ) → all_natural (word_at offset) ≡ true
word_natural offset = natural_tree (record { code = Mem; mode = DI; number = pos 0; name = [] }) (address_at offset ∷ []) refl
    (alone (address_at offset) (address_natural offset))

-- ---- what is saved

small : (reg : ℕ) → has_reg preserved_registers reg ≡ true → reg < 2 ^ 63
small reg has = let below : reg < 32 = ltb-true reg 32 (one_of (λ r. nat_lt r 32) preserved_registers refl reg has) in omega (arith, below)

saved_natural : (s : SavedAt) → has_reg preserved_registers s.reg ≡ true → all_natural (reg_of DI s.reg) ≡ true
saved_natural s has = reg_natural DI s.reg (small s.reg has)

abbrev AllSaved : List SavedAt → Type 0
AllSaved saved = AllByRecursion (λ s. has_reg preserved_registers s.reg ≡ true) saved

stored_natural : (saved : List SavedAt) → AllSaved saved → AreNatural (flat_map stored saved)
stored_natural [] all = refl
stored_natural (s ∷ saved) all =
    joined (stored s) (flat_map stored saved)
    (joined (base_made s.offset) _ (made_natural s.offset)
    (alone _ (set_natural (word_at s.offset) (reg_of DI s.reg) (word_natural s.offset) (saved_natural s all.0))))
    (stored_natural saved all.1)

loaded_natural : (saved : List SavedAt) → AllSaved saved → AreNatural (flat_map loaded saved)
loaded_natural [] all = refl
loaded_natural (s ∷ saved) all =
    joined (loaded s) (flat_map loaded saved)
    (joined (base_made s.offset) _ (made_natural s.offset)
    (alone _ (set_natural (reg_of DI s.reg) (word_at s.offset) (saved_natural s all.0) (word_natural s.offset))))
    (loaded_natural saved all.1)

-- ---- instructions

plain_placed : (uid : ℕ) (xs : List Rtx) → AreNatural xs → AllByRecursion IsInsnPlaced (plain_insns uid xs)
plain_placed uid [] all = tt
plain_placed uid (x ∷ xs) all = let parts = and_parts (all_natural x) _ all in (
  record {
    marks = λ mark reg. absurd (false≢true mark);
    label = λ is. absurd (let no : ⊥ = cc in no);
    plain = λ none note. refl;
    natural = parts.0;
    passed = λ none reg has. absurd (false≢true has);
  },
  plain_placed (uid + 1) xs parts.1,
)

return_code : is_note (head_of return_rtx).code ≡ false
return_code = ap (λ (o : Rtx-F Rtx). is_note o.code) (out-roll-Rtx _)

return_placed : (uid : ℕ) → IsInsnPlaced (return_with uid)
return_placed uid = record {
  marks = λ mark reg. absurd (false≢true mark);
  label = λ is. absurd (let no : ⊥ = cc in no);
  plain = λ none note. absurd (false≢true (sym return_code ∙ note));
  natural = natural_tree (record { code = Return; mode = Void; number = pos 0; name = [] }) [] refl refl;
  passed = λ none reg has. absurd (false≢true has);
}

finished_placed : (insns chain : List Insn) → IsFinished insns chain → AllByRecursion IsInsnPlaced insns → AllByRecursion IsInsnPlaced chain
finished_placed insns _ (IsFinished.returning reached) all =
    all_joined IsInsnPlaced insns (return_insn insns ∷ []) all (return_placed (return_insn insns).uid, tt)
finished_placed insns _ (IsFinished.staying never) all = all

module _ (layout : Layout) (saves : SavesPreserved layout) where
  all_saved : AllSaved layout.saved
  all_saved = recursion_from_All (λ s. has_reg preserved_registers s.reg ≡ true) layout.saved saves

  prologue_natural : AreNatural (prologue layout)
  prologue_natural = if_natural (layout.size == 0) [] (frame_made layout) refl
      (joined (sp_changed layout.size (neg_ℤ (pos layout.size))) (flat_map stored layout.saved)
      (changed_natural layout.size (neg_ℤ (pos layout.size))) (stored_natural layout.saved all_saved))

  epilogue_natural : AreNatural (epilogue layout)
  epilogue_natural = if_natural (layout.size == 0) [] (frame_left layout) refl
      (joined (flat_map loaded layout.saved) (sp_changed layout.size (pos layout.size)) (loaded_natural layout.saved all_saved)
      (changed_natural layout.size (pos layout.size)))

  leaving_placed : (uid : ℕ) → AllByRecursion IsInsnPlaced (leaving layout uid)
  leaving_placed uid =
      all_joined IsInsnPlaced (plain_insns uid (epilogue layout)) (return_with (uid + length (epilogue layout)) ∷ [])
      (plain_placed uid (epilogue layout) epilogue_natural) (return_placed (uid + length (epilogue layout)), tt)

  by_return : (b : Bool) (gone stay : List Insn) → AllByRecursion IsInsnPlaced gone → AllByRecursion IsInsnPlaced stay →
      AllByRecursion IsInsnPlaced (if b then gone else stay)
  by_return true gone stay one two = one
  by_return false gone stay one two = two

  left_placed : (uid : ℕ) (insns : List Insn) → AllByRecursion IsInsnPlaced insns →
      AllByRecursion IsInsnPlaced (left_at_returns layout uid insns)
  left_placed uid [] all = tt
  left_placed uid (i ∷ insns) all =
      let behind = left_at_returns layout (left_uid layout uid) insns in
      let stay = left_at_returns layout uid insns in
      by_return (returns i) (leaving layout uid ++ behind) (i ∷ stay)
      (all_joined IsInsnPlaced (leaving layout uid) behind (leaving_placed uid) (left_placed (left_uid layout uid) insns all.1))
      (all.0, left_placed uid insns all.1)

  pub frame_placed : (f g : Function) → ArePlaced f → IsFramed layout f g → ArePlaced g
  frame_placed f g placed framed =
      let first = next_uid f.insns in
      let body = first + length (prologue layout) in
      subst ArePlaced (sym framed.framed_is)
      (all_joined IsInsnPlaced (plain_insns first (prologue layout)) (left_at_returns layout body framed.chain)
      (plain_placed first (prologue layout) prologue_natural)
      (left_placed body framed.chain (finished_placed f.insns framed.chain framed.finished placed)))
