-- Registers that are added to rows, one after another.
use Rattle.std.proofs.Common.{◌≡◌, ℕ, zero, suc, ◌+◌, ◌<◌, Bool, true, false, ◌||◌, ◌&&◌, eqb, ltb, List, [], ◌∷◌, length, get_or, drop, refl, sym, ap, ◌∙◌, arith}
use Rattle.std.specs.Prelude.{All}
use Rattle.std.proofs.lemmas.Bool.{or_left, or_right, eq-eqb}
use Rattle.std.proofs.lemmas.Bool.Decides.{nat_tests}
use Rattle.rtx_tree.specs.RegSet.{has_reg}
use Rattle.reg_uses.proofs.JoinLaws.{drop_step}

pub or_assoc : (a b c : Bool) → ((a || b) || c) ≡ (a || (b || c))
or_assoc true b c = refl
or_assoc false b c = refl

pub flipped : (a b : ℕ) (h : Bool) → (eqb a b && h) ≡ (h && eqb b a)
flipped a b h = turned (eqb a b) (eqb b a) h (grind (arith, nat_tests))
  where
    turned : (e g h : Bool) → e ≡ g → (e && h) ≡ (h && g)
    turned true g true is = is
    turned true g false is = refl
    turned false g true is = is
    turned false g false is = refl

below_one : (x k : ℕ) → ltb x (k + 1) ≡ (ltb x k || eqb k x)
below_one x k = grind (arith, nat_tests)

three : (o a h e r : Bool) → ((o || ((a && h) && r)) || ((h && e) && r)) ≡ (o || (((a || e) && h) && r))
three true a h e r = refl
three false true true e true = refl
three false true true true false = refl
three false true true false false = refl
three false true false e r = refl
three false false true true r = refl
three false false true false r = refl
three false false false true r = refl
three false false false false r = refl

-- the row of one register more has it
pub other_joined : (x k : ℕ) (start h r old new : Bool) → old ≡ (start || ((ltb x k && h) && r)) → new ≡ (old || ((h && eqb k x) && r)) → new ≡ (start || ((ltb x (k + 1) && h) && r))
other_joined x k start h r old new before step =
    step ∙ (ap (λ b. b || ((h && eqb k x) && r)) before ∙ (three start (ltb x k) h (eqb k x) r ∙ ap (λ b. start || ((b && h) && r)) (sym (below_one x k))))

both : (o a b c d s t : Bool) → ((o || ((s && a) || (t && b))) || ((s && c) || (t && d))) ≡ (o || ((s && (a || c)) || (t && (b || d))))
both true a b c d s t = refl
both false a b c d false false = refl
both false a b c d false true = refl
both false true b c d true false = refl
both false false b c d true false = refl
both false true b c d true true = refl
both false false true true d true true = refl
both false false true false d true true = refl
both false false false c d true true = refl

same_read : (xs : List ℕ) (k d e : ℕ) → k < length xs → get_or xs k d ≡ get_or xs k e
same_read [] k d e l = absurd (omega arith)
same_read (x ∷ xs) zero d e l = refl
same_read (x ∷ xs) (suc k) d e l = same_read xs k d e (omega arith)

-- one listed register more was added, and added to others
pub listed_joined : (regs : List ℕ) (k x y : ℕ) (old new whole s t : Bool) → k < length regs → (old || ((s && has_reg (drop k regs) x) || (t && has_reg (drop k regs) y))) ≡ whole → new ≡ (old || ((s && eqb (get_or regs k 0) x) || (t && eqb (get_or regs k 0) y))) → (new || ((s && has_reg (drop (k + 1) regs) x) || (t && has_reg (drop (k + 1) regs) y))) ≡ whole
listed_joined regs k x y old new whole s t l before step =
    let reg = get_or regs k 0 in
    let is = same_read regs k 0 reg l in
    let rx = has_reg (drop (k + 1) regs) x in
    let ry = has_reg (drop (k + 1) regs) y in
    ap (λ b. b || ((s && rx) || (t && ry))) step ∙
    (both old (eqb reg x) (eqb reg y) rx ry s t ∙
    (ap (λ b. old || ((s && b) || (t && (eqb reg y || ry)))) (sym (drop_step (λ r. eqb r x) regs k reg l is)) ∙
    (ap (λ b. old || ((s && has_reg (drop k regs) x) || (t && b))) (sym (drop_step (λ r. eqb r y) regs k reg l is)) ∙ before)))

-- all of a list have what each that it has has
pub all_listed : (bound : ℕ) (regs : List ℕ) → ((reg : ℕ) → has_reg regs reg ≡ true → reg < bound) → All (λ reg. reg < bound) regs
all_listed bound [] each k d l = absurd (omega arith)
all_listed bound (r ∷ regs) each zero d l = each r (or_left (eqb r r) (has_reg regs r) (eq-eqb r r refl))
all_listed bound (r ∷ regs) each (suc k) d l = all_listed bound regs (λ reg h. each reg (or_right (eqb r reg) (has_reg regs reg) h)) k d (omega arith)
