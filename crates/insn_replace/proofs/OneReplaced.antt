-- What a sequence in the place of an instruction comes to is one thing.
use Rattle.std.proofs.Common.{◌≡◌, ℕ, ◌+◌, ◌≤◌, ◌<◌, arith, List, [], ◌∷◌, Option, Some, None, Result, Ok, Err, refl, sym, ap, ◌∙◌}
use Rattle.rtx_tree.specs.declared.function.Insn.{Insn}
use Rattle.rtx_tree.specs.declared.function.Function.{Function}
use Rattle.rtx_tree.specs.declared.tree.Rtx.{Rtx}
use Rattle.rtx_tree.specs.declared.limit.Limit.TheVariants.{Instructions}
use Rattle.rtx_tree.specs.Limit.{most_made}
use Rattle.live.specs.Live.{AreLiveAfter}
use Rattle.live.proofs.LiveLists.{live_one}
use Rattle.new_insns.specs.Replaced.{replaced}
use Rattle.pass_refusal.specs.equate.Side.{Insns}
use Rattle.pass_refusal.specs.equate.Verdict.{Verdict}
use Rattle.pass_refusal.specs.equate.Equated.{verdict}
use Rattle.pass_refusal.specs.Refused.{refused_by}
use Rattle.pass_refusal.specs.declared.refusal.PassRefusal.{PassRefusal}
use Rattle.pass_refusal.specs.declared.refusal.PassRefusal.TheVariants as refusal
use Rattle.insn_replace.specs.Replace.{made, count_with, ReplacedComes, OneReplaced}

module _ (f : Function) (place : ℕ) (i : Insn) (rule : List ℕ) (sequence : List Rtx) where
  abbrev outcome_by : Option PassRefusal → Result Function PassRefusal
  outcome_by None = Ok (replaced f place (place + 1) (made f i sequence))
  outcome_by (Some e) = Err e

  -- what comes of the comparison over what is live
  abbrev compared : List ℕ → Result Function PassRefusal
  compared live = outcome_by (refused_by i.uid rule (verdict (i ∷ []) (Insns (made f i sequence)) live))

  record IsCompared (o : Result Function PassRefusal) : Type 0 where
    live : List ℕ
    live_after : AreLiveAfter f place live
    is : o ≡ compared live

  compared_of : (o : Result Function PassRefusal) → count_with f place i sequence ≤ most_made → ReplacedComes f place i rule sequence o → IsCompared o
  compared_of _ few (ReplacedComes.long many) = absurd (omega (arith, few, many))
  compared_of _ few (ReplacedComes.refused live e after is short) = record { live = live; live_after = after; is = sym (ap outcome_by is) }
  compared_of _ few (ReplacedComes.replaced live after same short) =
      record { live = live; live_after = after; is = sym (ap (λ (v : Verdict). outcome_by (refused_by i.uid rule v)) same) }

  one_compared : (a b : Result Function PassRefusal) → IsCompared a → IsCompared b → a ≡ b
  one_compared a b x y = x.is ∙ (ap compared (live_one f place x.live y.live x.live_after y.live_after) ∙ sym y.is)

  -- what is too long is refused for that alone
  long_of : (b : Result Function PassRefusal) → most_made < count_with f place i sequence → ReplacedComes f place i rule sequence b →
      Err (refusal.Limit Instructions (count_with f place i sequence)) ≡ b
  long_of _ many (ReplacedComes.long more) = refl
  long_of _ many (ReplacedComes.refused live e after is short) = absurd (omega (arith, many, short))
  long_of _ many (ReplacedComes.replaced live after same short) = absurd (omega (arith, many, short))

  one_of : (a b : Result Function PassRefusal) → ReplacedComes f place i rule sequence a → ReplacedComes f place i rule sequence b → a ≡ b
  one_of _ b (ReplacedComes.long many) y = long_of b many y
  one_of _ b (ReplacedComes.refused live e after is short) y =
      one_compared _ b (compared_of _ short (ReplacedComes.refused live e after is short)) (compared_of b short y)
  one_of _ b (ReplacedComes.replaced live after same short) y =
      one_compared _ b (compared_of _ short (ReplacedComes.replaced live after same short)) (compared_of b short y)

pub one_replaced : OneReplaced
one_replaced f place i rule sequence a b x y = one_of f place i rule sequence a b x y
