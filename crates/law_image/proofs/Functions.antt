-- The words of an image do what functions of RTL do.
use Rattle.std.proofs.Common.{◌≢◌, Option, refl, sym, subst, arith}
use Rattle.std.specs.List.{All}
use Rattle.rtx_tree.specs.declared.code.Mode.{Mode}
use Rattle.rtx_tree.specs.declared.machine.Start.{Start}
use Rattle.rtx_tree.specs.declared.machine.World.{World}
use Rattle.func_run.specs.Run.{run_of}
use Rattle.func_run.specs.declared.outcome.Outcome.{Outcome}
use Rattle.func_run.specs.declared.outcome.Outcome.TheVariants as rtl
use Rattle.rv_line.specs.Run.{entry, run}
use Rattle.rv_line.specs.declared.outcome.CodeOutcome.{CodeOutcome}
use Rattle.rv_line.specs.declared.outcome.CodeOutcome.TheVariants as code
use Rattle.same_behaviour.specs.Lawful.{IsLawful, IsLawfulWorld, seen_by_rtl}
use Rattle.same_behaviour.specs.Lawful as lawful
use Rattle.same_behaviour.specs.Same.{SameOutcome}
use Rattle.law_image.specs.WordsDo.{Comes, IsWordReply}
use Rattle.law_image.specs.SameWords.{FunctionsDo}
use Rattle.law_image.proofs.Keep.{Holds, holds_words}
use Rattle.law_image.proofs.Same.{words_do}

start_holds : (start : Start) → lawful.AreWords start → Holds (entry start)
start_holds start w = record {
  count = refl;
  words = (
    omega arith,
    (
      w.ra,
      (
        w.sp,
        (
          tt,
          (
            tt,
            (
              tt,
              (
                tt,
                (
                  tt,
                  (
                    w.saved 0 (omega arith),
                    (
                      w.saved 1 (omega arith),
                      (
                        w.args 0 (omega arith),
                        (
                          w.args 1 (omega arith),
                          (
                            w.args 2 (omega arith),
                            (
                              w.args 3 (omega arith),
                              (
                                w.args 4 (omega arith),
                                (
                                  w.args 5 (omega arith),
                                  (
                                    w.args 6 (omega arith),
                                    (
                                      w.args 7 (omega arith),
                                      (
                                        w.saved 2 (omega arith),
                                        (
                                          w.saved 3 (omega arith),
                                          (
                                            w.saved 4 (omega arith),
                                            (
                                              w.saved 5 (omega arith),
                                              (
                                                w.saved 6 (omega arith),
                                                (
                                                  w.saved 7 (omega arith),
                                                  (
                                                    w.saved 8 (omega arith),
                                                    (
                                                      w.saved 9 (omega arith),
                                                      (
                                                        w.saved 10 (omega arith),
                                                        (
                                                          w.saved 11 (omega arith),
                                                          (tt, (tt, (tt, (tt, tt)))),
                                                        ),
                                                      ),
                                                    ),
                                                  ),
                                                ),
                                              ),
                                            ),
                                          ),
                                        ),
                                      ),
                                    ),
                                  ),
                                ),
                              ),
                            ),
                          ),
                        ),
                      ),
                    ),
                  ),
                ),
              ),
            ),
          ),
        ),
      ),
    ),
  );
}

replies_hold : (start : Start) (world : World) → IsLawfulWorld start world → All IsWordReply world.replies
replies_hold start world is = λ k d within. (is.replies k d within).value

-- what has the same outcome isn't stuck
moves : (mode : Option Mode) (start : Start) (o : Outcome) (c : CodeOutcome) → SameOutcome mode start o c → c ≢ code.Stuck
moves mode start o c same is = none o (subst (λ x. SameOutcome mode start o x) is same)
  where
    none : (o : Outcome) → SameOutcome mode start o code.Stuck → ⊥
    none rtl.Undefined same = same
    none (rtl.Running events) same = same
    none (rtl.Asked events) same = same
    none (rtl.Returned value memory events kept) same = same

pub functions_do : FunctionsDo
functions_do units image is at unit place unit_is place_is least f same frame start world n enough is_lawful world_is has defined =
    let seen = seen_by_rtl frame f.locals start in
    let lines = same frame start world n enough is_lawful world_is defined in
    let still : run unit.items start world lines.0 ≢ code.Stuck = moves f.result start (run_of f seen world n) (run unit.items start world lines.0) lines.2 in
    let words : Comes image place.address start world lines.0 (run unit.items start world lines.0) =
    words_do units image is at unit place unit_is place_is start world (holds_words (entry start) (start_holds start is_lawful.words)) (replies_hold start world world_is) has lines.0 still in
    (words.steps, omega (arith, lines.1, words.enough), subst (λ c. SameOutcome f.result start (run_of f seen world n) c) (sym words.comes) lines.2)
