-- The patterns that make a frame and leave it are matched by plain forms.
use Rattle.std.proofs.Common.{◌≡◌, ℕ, pos, Bool, true, false, ◌==◌, nat_lt, nat_le, List, [], refl, ap, ◌∙◌, arith}
use Rattle.std.proofs.lemmas.Bool.Decides.{nat_tests}
use Rattle.std.specs.Prelude.{ℤ, neg_ℤ, if◌then◌else◌}
use Rattle.std.specs.List.{AllByRecursion, flat_map}
use Rattle.rtx_tree.specs.declared.code.Mode.TheVariants.{DI}
use Rattle.rtx_tree.specs.declared.tree.Rtx.{Rtx}
use Rattle.rtx_tree.specs.Patterns.{sum_rtx}
use Rattle.rtx_tree.specs.Tree.{reg_of, const_of}
use Rattle.c_eval.specs.declared.facts.Facts.{Facts}
use Rattle.md_operand.specs.Addresses.{is_near, is_legitimate_address}
use Rattle.assign.specs.declared.places.SavedAt.{SavedAt}
use Rattle.assign.specs.declared.places.Layout.{Layout}
use Rattle.frame.specs.law_frame.Frame.{spare, sp_rtx, most_short, most_near, spare_rtx, near_address, address_at, word_at, short_change, long_change, sp_changed, far_base, base_made, stored, loaded, frame_made, frame_left, prologue, epilogue}
use Rattle.law_plain_framed.specs.Framed.{IsTaken, SavesRegister}
use Rattle.law_plain_known.proofs.Trees.{register_taken, base_reached, sum_reached, memory_taken}
use Rattle.law_plain_framed.proofs.Moves as moves
use Rattle.law_plain_framed.proofs.Items.{joined, either, flat}

-- ---- addresses

not_less : (n : ℕ) → nat_lt 2047 n ≡ false → nat_le n 2047 ≡ true
not_less n is = grind (arith, nat_tests, is)

near_reached : (offset : ℕ) (b : Bool) → (offset == 0) ≡ b → is_near (pos offset) ≡ true → is_legitimate_address (near_address offset) ≡ true
near_reached offset true is near = ap (λ b. is_legitimate_address (if b then sp_rtx else sum_rtx sp_rtx (const_of (pos offset)))) is ∙ base_reached 2 refl
near_reached offset false is near = ap (λ b. is_legitimate_address (if b then sp_rtx else sum_rtx sp_rtx (const_of (pos offset)))) is ∙ sum_reached 2 (pos offset) refl near

pub address_reached : (offset : ℕ) → is_legitimate_address (address_at offset) ≡ true
address_reached offset = go (nat_lt most_near offset) refl
  where
    go : (b : Bool) → nat_lt most_near offset ≡ b → is_legitimate_address (address_at offset) ≡ true
    go true is = ap (λ b. is_legitimate_address (if b then spare_rtx else near_address offset)) is ∙ base_reached spare refl
    go false is = ap (λ b. is_legitimate_address (if b then spare_rtx else near_address offset)) is ∙ near_reached offset (offset == 0) refl (not_less offset is)

module _ (facts : Facts) where
  abbrev Each : List Rtx → Type 0
  Each xs = AllByRecursion (IsTaken facts) xs

  -- ---- sp is changed

  short : (z : ℤ) → Each (short_change z)
  short z = (moves.adds_number facts 2 2 z refl refl, tt)

  long : (z : ℤ) → Each (long_change z)
  long z = (moves.loads_number facts spare z refl, (moves.adds_register facts 2 2 spare refl refl refl, tt))

  changed : (size : ℕ) (z : ℤ) → Each (sp_changed size z)
  changed size z = either (IsTaken facts) (nat_lt most_short size) (long_change z) (short_change z) (long z) (short z)

  -- ---- a register is stored and loaded

  far : (offset : ℕ) → Each (far_base offset)
  far offset = (moves.loads_number facts spare (pos offset) refl, (moves.adds_register facts spare spare 2 refl refl refl, tt))

  based : (offset : ℕ) → Each (base_made offset)
  based offset = either (IsTaken facts) (nat_lt most_near offset) (far_base offset) [] (far offset) tt

  stored_all : (s : SavedAt) → SavesRegister s → Each (stored s)
  stored_all s register =
      joined (IsTaken facts) (base_made s.offset) _ (based s.offset)
      (moves.stored facts DI tt (word_at s.offset) (reg_of DI s.reg) (memory_taken DI (address_at s.offset) (address_reached s.offset)) (register_taken DI s.reg register), tt)

  loaded_all : (s : SavedAt) → SavesRegister s → Each (loaded s)
  loaded_all s register =
      joined (IsTaken facts) (base_made s.offset) _ (based s.offset)
      (moves.of_memory facts DI tt (reg_of DI s.reg) (word_at s.offset) (register_taken DI s.reg register) (memory_taken DI (address_at s.offset) (address_reached s.offset)), tt)

  -- ---- a frame is made and left

  pub prologue_taken : (layout : Layout) → AllByRecursion SavesRegister layout.saved → Each (prologue layout)
  prologue_taken layout saved =
      either (IsTaken facts) (layout.size == 0) [] (frame_made layout) tt
      (joined (IsTaken facts) (sp_changed layout.size (neg_ℤ (pos layout.size))) (flat_map stored layout.saved) (changed layout.size (neg_ℤ (pos layout.size))) (flat (IsTaken facts) SavesRegister stored stored_all layout.saved saved))

  pub epilogue_taken : (layout : Layout) → AllByRecursion SavesRegister layout.saved → Each (epilogue layout)
  epilogue_taken layout saved =
      either (IsTaken facts) (layout.size == 0) [] (frame_left layout) tt
      (joined (IsTaken facts) (flat_map loaded layout.saved) (sp_changed layout.size (pos layout.size)) (flat (IsTaken facts) SavesRegister loaded loaded_all layout.saved saved) (changed layout.size (pos layout.size)))
