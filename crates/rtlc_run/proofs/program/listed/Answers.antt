use Rattle.std.proofs.Common.{ℕ, List, Ok, Err, subst, refl}
use Rattle.md_list.specs.Listing.{ListComes}
use Rattle.md_list.specs.Answers.{Gives as GivesList}
use Rattle.rtlc_run.proofs.Commands.{list_unproduced, listing_is_own, listing_failed}
use Rattle.rtlc_run.proofs.program.listed.Goals as goal

pub returns-in-Ok-clause-gives : goal.returns-in-Ok-clause-gives
returns-in-Ok-clause-gives g c = λ known agrees input. (Ok c.in-Ok.text.items, rw c.described.ensures at (c.in-Ok.ensures.gives known agrees), refl)

pub returns-in-Err-clause-gives : goal.returns-in-Err-clause-gives
returns-in-Err-clause-gives g c = λ known agrees input. list_unproduced known input c.args.name.now c.in-Err.e c.list_refused.result c.list_refused.ensures (subst (λ (n : List ℕ). GivesList (ListComes known n) (Err c.in-Err.e)) c.described.ensures (c.in-Err.ensures.gives known agrees))

pub returns-in-Err-clause-own : goal.returns-in-Err-clause-own
returns-in-Err-clause-own g c = listing_is_own c.in-Err.e c.list_refused.result c.list_refused.ensures

pub returns-in-Err-clause-faulted : goal.returns-in-Err-clause-faulted
returns-in-Err-clause-faulted g c = λ read known agrees. rw c.described.ensures at (c.in-Err.ensures.faulted (listing_failed c.in-Err.e c.list_refused.result c.list_refused.ensures read) known agrees)
