-- What a sequence in the place of a window comes to is one thing.
use Rattle.std.proofs.Common.{◌≡◌, ℕ, ◌-◌, ◌≤◌, ◌<◌, arith, List, Option, Some, None, Result, Ok, Err, refl, sym, ap, ◌∙◌}
use Rattle.rtx_tree.specs.declared.function.Insn.{Insn}
use Rattle.rtx_tree.specs.declared.function.Function.{Function}
use Rattle.rtx_tree.specs.declared.tree.Rtx.{Rtx}
use Rattle.rtx_tree.specs.declared.limit.Limit.TheVariants.{Instructions}
use Rattle.rtx_tree.specs.Limit.{most_made}
use Rattle.live.specs.Live.{AreLiveAfter}
use Rattle.live.proofs.LiveLists.{live_one}
use Rattle.new_insns.specs.Replaced.{window, replaced}
use Rattle.insn_replace.specs.Replace.{made}
use Rattle.pass_refusal.specs.equate.Side.{Insns}
use Rattle.pass_refusal.specs.equate.Verdict.{Verdict}
use Rattle.pass_refusal.specs.equate.Equated.{verdict}
use Rattle.pass_refusal.specs.Refused.{refused_by}
use Rattle.pass_refusal.specs.declared.refusal.PassRefusal.{PassRefusal}
use Rattle.pass_refusal.specs.declared.refusal.PassRefusal.TheVariants as refusal
use Rattle.window_comes.specs.Window.{count_with, WindowComes, OneComes}

module _ (f : Function) (first end : ℕ) (i last : Insn) (rule : List ℕ) (sequence : List Rtx) where
  abbrev outcome_by : Option PassRefusal → Result Function PassRefusal
  outcome_by None = Ok (replaced f first end (made f last sequence))
  outcome_by (Some e) = Err e

  -- what comes of the comparison over what is live
  abbrev compared : List ℕ → Result Function PassRefusal
  compared live = outcome_by (refused_by i.uid rule (verdict (window f first end) (Insns (made f last sequence)) live))

  record IsCompared (o : Result Function PassRefusal) : Type 0 where
    live : List ℕ
    live_after : AreLiveAfter f (end - 1) live
    is : o ≡ compared live

  compared_of : (o : Result Function PassRefusal) → count_with f first end last sequence ≤ most_made → WindowComes f first end i last rule sequence o → IsCompared o
  compared_of _ few (WindowComes.long many) = absurd (omega (arith, few, many))
  compared_of _ few (WindowComes.refused live e after is short) = record { live = live; live_after = after; is = sym (ap outcome_by is) }
  compared_of _ few (WindowComes.replaced put short) =
      record { live = put.live; live_after = put.are; is = sym (ap (λ (v : Verdict). outcome_by (refused_by i.uid rule v)) put.equated) }

  one_compared : (a b : Result Function PassRefusal) → IsCompared a → IsCompared b → a ≡ b
  one_compared a b x y = x.is ∙ (ap compared (live_one f (end - 1) x.live y.live x.live_after y.live_after) ∙ sym y.is)

  -- what is too long is refused for that alone
  long_of : (b : Result Function PassRefusal) → most_made < count_with f first end last sequence → WindowComes f first end i last rule sequence b →
      Err (refusal.Limit Instructions (count_with f first end last sequence)) ≡ b
  long_of _ many (WindowComes.long more) = refl
  long_of _ many (WindowComes.refused live e after is short) = absurd (omega (arith, many, short))
  long_of _ many (WindowComes.replaced put short) = absurd (omega (arith, many, short))

  one_of : (a b : Result Function PassRefusal) → WindowComes f first end i last rule sequence a → WindowComes f first end i last rule sequence b → a ≡ b
  one_of _ b (WindowComes.long many) y = long_of b many y
  one_of _ b (WindowComes.refused live e after is short) y =
      one_compared _ b (compared_of _ short (WindowComes.refused live e after is short)) (compared_of b short y)
  one_of _ b (WindowComes.replaced put short) y =
      one_compared _ b (compared_of _ short (WindowComes.replaced put short)) (compared_of b short y)

pub one_comes : OneComes
one_comes f first end i last rule sequence a b x y = one_of f first end i last rule sequence a b x y
