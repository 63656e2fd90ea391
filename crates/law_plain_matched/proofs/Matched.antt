-- Each plain shape is matched as it stands, or is a note, or is one of those that lowering makes.
use Rattle.std.proofs.Common.{◌≡◌, ℕ, Bool, true, false, ◌||◌, List, [], ◌∷◌, ◌++◌, refl}
use Rattle.std.specs.List.{list_any}
use Rattle.rtx_tree.specs.declared.code.Mode.{Mode}
use Rattle.rtx_tree.specs.declared.code.Mode.TheVariants.{QI, HI, SI, DI}
use Rattle.rtx_tree.specs.declared.tree.Rtx.{Rtx, out-Rtx}
use Rattle.rtx_tree.specs.Tree.{kids_of}
use Rattle.plain_shape.specs.Plain.{has_shape, is_set_by}
use Rattle.plain_shape.specs.Shapes as all
use Rattle.plain_shape.specs.Shapes.{all_shapes}
use Rattle.plain_shape.specs.declared.shape.Shape.{Shape}
use Rattle.plain_shape.specs.declared.shape.Shape.TheVariants as shape
use Rattle.plain_shape.specs.declared.shape.Part.{Part}
use Rattle.plain_shape.specs.declared.shape.Part.TheVariants as part
use Rattle.plain_shape.specs.declared.shape.Source.{Source}
use Rattle.plain_shape.specs.declared.shape.Source.TheVariants as source
use Rattle.law_plain_matched.specs.Matched.{PlainMatches}
use Rattle.law_plain_matched.proofs.Shapes.{IsWell, IsSetOf, is_set}
use Rattle.law_plain_matched.proofs.Moves as moves
use Rattle.law_plain_matched.proofs.Moves.{Comes, IsMoved}
use Rattle.law_plain_matched.proofs.Operations as operations
use Rattle.law_plain_matched.proofs.Comparisons as comparisons
use Rattle.law_plain_matched.proofs.Jumps as jumps

-- ---- what holds of each of some shapes

module _ (P : Shape → Type 0) where
  abbrev Each : List Shape → Type 0
  Each [] = Unit {0}
  Each (s ∷ ss) = P s × Each ss

  both : (xs ys : List Shape) → Each xs → Each ys → Each (xs ++ ys)
  both [] ys each more = more
  both (x ∷ xs) ys each more = (each.0, both xs ys each.1 more)

module _ (x : Rtx) (w : IsWell x) where
  -- a pattern of the shape comes to what a plain pattern does
  abbrev Brings : Shape → Type 0
  Brings s = has_shape s x ≡ true → Comes x

  one_of : (shapes : List Shape) → Each Brings shapes → list_any (λ s. has_shape s x) shapes ≡ true → Comes x
  one_of [] each is = absurd (let no : ⊥ = cc in no)
  one_of (s ∷ shapes) each is = go (has_shape s x) refl is (one_of shapes each.1)
    where
      go : (b : Bool) → has_shape s x ≡ b → (b || list_any (λ s. has_shape s x) shapes) ≡ true → (list_any (λ s. has_shape s x) shapes ≡ true → Comes x) → Comes x
      go true here is more = each.0 here
      go false here is more = more is

  -- a set
  set : (target : Part) (from : Source) → (IsSetOf target from x → Comes x) → Brings (shape.Set target from)
  set target from go is = go (is_set target from x is w)

  moves_in : (m : Mode) → IsMoved m → Each Brings (all.moves_in m)
  moves_in m of_mode = (
    set _ _ (moves.of_register m of_mode x),
    (
      set _ _ (moves.of_constant m of_mode x),
      (
        set _ _ (moves.of_memory m of_mode x),
        (
          set _ _ (moves.register_stored m of_mode x),
          (
            set _ _ (moves.constant_stored m of_mode x),
            tt,
          ),
        ),
      ),
    ),
  )

  abbrev places : List Shape
  places = shape.Set (part.Register DI) (source.Only part.Symbol) ∷ shape.Set (part.Register DI) (source.Only part.Frame) ∷ []

  addresses : Each Brings places
  addresses = (set _ _ (moves.of_symbol x), (set _ _ (moves.of_frame x), tt))

  moved : Each Brings all.moves
  moved =
      both Brings (all.moves_in QI) (all.moves_in HI ++ (all.moves_in SI ++ (all.moves_in DI ++ places))) (moves_in QI tt)
      (both Brings (all.moves_in HI) (all.moves_in SI ++ (all.moves_in DI ++ places)) (moves_in HI tt)
      (both Brings (all.moves_in SI) (all.moves_in DI ++ places) (moves_in SI tt) (both Brings (all.moves_in DI) places (moves_in DI tt) addresses)))

  binaries : Each Brings all.binaries
  binaries = (
    set _ _ (operations.plus_si x),
    (
      set _ _ (operations.minus_si x),
      (
        set _ _ (operations.mult_si x),
        (
          set _ _ (operations.div_si x),
          (
            set _ _ (operations.udiv_si x),
            (
              set _ _ (operations.mod_si x),
              (
                set _ _ (operations.umod_si x),
                (
                  set _ _ (operations.and_si x),
                  (
                    set _ _ (operations.ior_si x),
                    (
                      set _ _ (operations.xor_si x),
                      (
                        set _ _ (operations.ashift_si x),
                        (
                          set _ _ (operations.ashiftrt_si x),
                          (
                            set _ _ (operations.lshiftrt_si x),
                            (
                              set _ _ (operations.plus_di x),
                              (
                                set _ _ (operations.minus_di x),
                                (
                                  set _ _ (operations.mult_di x),
                                  (
                                    set _ _ (operations.div_di x),
                                    (
                                      set _ _ (operations.udiv_di x),
                                      (
                                        set _ _ (operations.mod_di x),
                                        (
                                          set _ _ (operations.umod_di x),
                                          (
                                            set _ _ (operations.and_di x),
                                            (
                                              set _ _ (operations.ior_di x),
                                              (
                                                set _ _ (operations.xor_di x),
                                                (
                                                  set _ _ (operations.ashift_di x),
                                                  (
                                                    set _ _ (operations.ashiftrt_di x),
                                                    (
                                                      set _ _ (operations.lshiftrt_di x),
                                                      (
                                                          tt),
                                                    ),
                                                  ),
                                                ),
                                              ),
                                            ),
                                          ),
                                        ),
                                      ),
                                    ),
                                  ),
                                ),
                              ),
                            ),
                          ),
                        ),
                      ),
                    ),
                  ),
                ),
              ),
            ),
          ),
        ),
      ),
    ),
  )

  unaries : Each Brings all.unaries
  unaries = (
    set _ _ (operations.neg_si x),
    (
      set _ _ (operations.not_si x),
      (
        set _ _ (operations.neg_di x),
        (
          set _ _ (operations.not_di x),
          (
            set _ _ (operations.sign_qi_si x),
            (
              set _ _ (operations.sign_hi_si x),
              (
                set _ _ (operations.sign_qi_di x),
                (
                  set _ _ (operations.sign_hi_di x),
                  (
                    set _ _ (operations.sign_si_di x),
                    (
                      set _ _ (operations.zero_qi_si x),
                      (
                        set _ _ (operations.zero_hi_si x),
                        (
                          set _ _ (operations.zero_qi_di x),
                          (
                            set _ _ (operations.zero_hi_di x),
                            (
                              set _ _ (operations.zero_si_di x),
                              (
                                set _ _ (operations.cut_si_qi x),
                                (
                                  set _ _ (operations.cut_si_hi x),
                                  (
                                    set _ _ (operations.cut_di_qi x),
                                    (
                                      set _ _ (operations.cut_di_hi x),
                                      (
                                        set _ _ (operations.cut_di_si x),
                                        (
                                            tt),
                                      ),
                                    ),
                                  ),
                                ),
                              ),
                            ),
                          ),
                        ),
                      ),
                    ),
                  ),
                ),
              ),
            ),
          ),
        ),
      ),
    ),
  )

  compared : Each Brings all.comparisons
  compared = (
    set _ _ (comparisons.si_si x),
    (
      set _ _ (comparisons.si_di x),
      (
        set _ _ (comparisons.di_si x),
        (
          set _ _ (comparisons.di_di x),
          (
              tt),
        ),
      ),
    ),
  )

  jumped : Each Brings all.jumps
  jumped = (jumps.branch_narrow x w, (jumps.branch_wide x w, (jumps.jump x w, (jumps.return x w, tt))))

  called : Each Brings all.calls
  called = (jumps.calls_symbol x w, (jumps.calls_register x w, (set _ _ (jumps.symbol_called_for x w), (set _ _ (jumps.register_called_for x w), tt))))

  abbrev notes : List Shape
  notes = shape.Use part.AnyRegister ∷ shape.Clobber part.AnyRegister ∷ []

  noted : Each Brings notes
  noted = (jumps.use_alone x w part.AnyRegister, (jumps.clobber_alone x w part.AnyRegister, tt))

  every : Each Brings all_shapes
  every =
      both Brings all.moves (all.binaries ++ (all.unaries ++ (all.comparisons ++ (all.jumps ++ (all.calls ++ notes))))) moved
      (both Brings all.binaries (all.unaries ++ (all.comparisons ++ (all.jumps ++ (all.calls ++ notes)))) binaries
      (both Brings all.unaries (all.comparisons ++ (all.jumps ++ (all.calls ++ notes))) unaries
      (both Brings all.comparisons (all.jumps ++ (all.calls ++ notes)) compared (both Brings all.jumps (all.calls ++ notes) jumped (both Brings all.calls notes called noted)))))

pub matches : PlainMatches
matches x is shaped printable = let w : IsWell x = record { shaped = shaped; printable = printable } in one_of x w all_shapes (every x w) is
