-- Lists of operands with nothing behind the last: they are the same where the operands are.
use Rattle.std.proofs.Common.{◌≡◌, ℕ, zero, suc, [], ◌∷◌, true, false, Option, Some, None, length, refl, sym, ap, ◌∙◌, arith}
use Rattle.std.specs.Prelude.{is_some, IsSome}
use Rattle.rtx_tree.specs.declared.tree.Rtx.{Rtx}
use Rattle.rtx_tree.specs.Operands.{operand_at, put_at}
use Rattle.md_match.specs.Pattern.{Ops}
use Rattle.md_match.specs.Match.{IsShort}

pub empty_short : IsShort []
empty_short k e = absurd (let none : ⊥ = cc in none)

-- the same without the first
tail_short : (o : Option Rtx) (os : Ops) → IsShort (o ∷ os) → IsShort os
tail_short o os s k e = s (suc k) (ap suc e)

-- a short list that is not empty has an operand
some_there : (o : Option Rtx) (os : Ops) → IsShort (o ∷ os) → IsSome (operand_at (o ∷ os) (length os))
some_there o os s = s (length os) refl

-- ---- what is put keeps a list short

put_length : (os : Ops) (k : ℕ) (x : Rtx) → length (put_at os k x) ≡ zero → ⊥
put_length [] zero x e = cc
put_length [] (suc k) x e = cc
put_length (o ∷ os) zero x e = cc
put_length (o ∷ os) (suc k) x e = cc

longer : (o : Option Rtx) (os : Ops) → (length os ≡ zero → ⊥) → IsShort os → IsShort (o ∷ os)
longer o os some s zero e = absurd (some (let l : length os ≡ zero = omega (arith, e) in l))
longer o os some s (suc k) e = s k (let l : length os ≡ suc k = omega (arith, e) in l)

placed_first : (o : Option Rtx) (os : Ops) (x : Rtx) → IsShort (o ∷ os) → IsShort (Some x ∷ os)
placed_first o os x s zero e = refl
placed_first o os x s (suc k) e = s (suc k) e

one_short : (x : Rtx) → IsShort (Some x ∷ [])
one_short x zero e = refl
one_short x (suc j) e = absurd (let none : ⊥ = cc in none)

pub put_short : (os : Ops) (k : ℕ) (x : Rtx) → IsShort os → IsShort (put_at os k x)
put_short [] zero x s = one_short x
put_short [] (suc k) x s = longer None (put_at [] k x) (put_length [] k x) (put_short [] k x empty_short)
put_short (o ∷ os) zero x s = placed_first o os x s
put_short (o ∷ os) (suc k) x s = longer o (put_at os k x) (put_length os k x) (put_short os k x (tail_short o os s))

-- ---- the same operands in short lists

pub same_short : (a b : Ops) → IsShort a → IsShort b → ((k : ℕ) → operand_at a k ≡ operand_at b k) → a ≡ b
same_short [] [] s t same = refl
same_short [] (p ∷ ps) s t same = absurd (let e : None ≡ operand_at (p ∷ ps) (length ps) = same (length ps) in let f : false ≡ true = ap is_some e ∙ some_there p ps t in let none : ⊥ = cc in none)
same_short (o ∷ os) [] s t same = absurd (let e : operand_at (o ∷ os) (length os) ≡ None = same (length os) in let f : false ≡ true = ap is_some (sym e) ∙ some_there o os s in let none : ⊥ = cc in none)
same_short (o ∷ os) (p ∷ ps) s t same =
    ap (λ q. q ∷ os) (same zero) ∙ ap (λ qs. p ∷ qs) (same_short os ps (tail_short o os s) (tail_short p ps t) (λ k. same (suc k)))
