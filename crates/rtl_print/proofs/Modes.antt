-- A head that may stand at a position may stand there again as it is printed.
use Rattle.std.proofs.Common.{◌≡◌, Bool, true, false, Option, Some, None, cond, refl, sym, ap, subst}
use Rattle.std.specs.Prelude.{option_map}
use Rattle.rtx_tree.specs.declared.code.Mode.{Mode}
use Rattle.rtx_tree.specs.declared.code.Mode.TheVariants as mode
use Rattle.lisp_read.specs.declared.head.Opening.{Opening}
use Rattle.rtx_tree.specs.declared.class.Class.{Class}
use Rattle.rtx_tree.specs.declared.class.Class.TheVariants as class
use Rattle.lisp_read.specs.declared.position.Position.{Position}
use Rattle.lisp_read.specs.declared.position.Position.TheVariants as position
use Rattle.rtx_tree.specs.declared.class.HeadMode.{HeadMode}
use Rattle.rtx_tree.specs.declared.class.HeadMode.TheVariants.{Needed, Optional, Ignored, Absent}
use Rattle.rtx_tree.specs.Code.{head_mode_of}
use Rattle.lisp_read.specs.Positions.{admits, needed, unwanted, mode_by, mode_of_class, mode_at}
use Rattle.lisp_read.specs.Expression.{class_of, placed}
use Rattle.rtl_print.proofs.Heads.{head_with}
use Rattle.rtl_print.proofs.Numbers.{map_some}

needed_is : (a b : Mode) → needed a ≡ Some b → a ≡ b
needed_is mode.Void b e = cc
needed_is _ b e = cc

needed_again : (a b : Mode) → needed a ≡ Some b → needed b ≡ Some b
needed_again a b e = subst (λ (m : Mode). needed m ≡ Some b) (needed_is a b e) e

unwanted_is : (a b : Mode) → unwanted a ≡ Some b → b ≡ mode.Void
unwanted_is mode.Void b e = cc
unwanted_is _ b e = cc

unwanted_again : (a b : Mode) → unwanted a ≡ Some b → unwanted b ≡ Some b
unwanted_again a b e = subst (λ (m : Mode). unwanted m ≡ Some m) (sym (unwanted_is a b e)) refl

mode_again : (k : HeadMode) (a b : Mode) → mode_by k a ≡ Some b → mode_by k b ≡ Some b
mode_again Needed a b e = needed_again a b e
mode_again Optional a b e = refl
mode_again Ignored a b e = e
mode_again Absent a b e = unwanted_again a b e

of_class_again : (c : Class) (a b : Mode) → mode_of_class c a ≡ Some b → mode_of_class c b ≡ Some b
of_class_again c a b e = mode_again (head_mode_of c) a b e

called_again : (a b : Mode) → option_map (λ (written : Mode). mode.SI) (needed a) ≡ Some b → option_map (λ (written : Mode). mode.SI) (needed b) ≡ Some b
called_again a b e =
    let says = map_some (needed a) (λ (written : Mode). mode.SI) b e in
    subst (λ (m : Mode). option_map (λ (written : Mode). mode.SI) (needed m) ≡ Some m) says.2 refl

at_again : (p : Position) (c : Class) (a b : Mode) → admits p c ≡ true → mode_at p c a ≡ Some b → mode_at p c b ≡ Some b
at_again position.Callee class.Memory a b h e = called_again a b e
at_again position.Callee _ a b h e = cc
at_again _ c a b h e = of_class_again c a b e

-- classes whose mode is not written, or passed over
abbrev has_none : Class → Bool
has_none class.Constant = true
has_none class.Label = true
has_none class.Parallel = true
has_none class.Use = true
has_none _ = false

none_of_class : (c : Class) (a b : Mode) → has_none c ≡ true → mode_of_class c a ≡ Some b → b ≡ mode.Void
none_of_class class.Constant a b h e = unwanted_is a b e
none_of_class class.Parallel a b h e = unwanted_is a b e
none_of_class class.Use a b h e = unwanted_is a b e
none_of_class class.Label a b h e = cc
none_of_class _ a b h e = cc

none_at : (p : Position) (c : Class) (a b : Mode) → has_none c ≡ true → admits p c ≡ true → mode_at p c a ≡ Some b → b ≡ mode.Void
none_at position.Callee class.Memory a b n h e = cc
none_at position.Callee _ a b n h e = cc
none_at _ c a b n h e = none_of_class c a b n e

-- ---- heads at positions

pub record Placed (p : Position) (h : Opening) : Type 0 where
  pub written : Opening
  pub same_code : written.code ≡ h.code
  pub admitted : admits p (class_of h) ≡ true
  pub moded : mode_at p (class_of h) written.mode ≡ Some h.mode

pub placed_code : (p : Position) (w h : Opening) → placed p w ≡ Some h → w.code ≡ h.code
placed_code p w h e = by_test (admits p (class_of w)) e
  where
    by_test : (b : Bool) → cond b (option_map (λ (m : Mode). head_with w.code m) (mode_at p (class_of w) w.mode)) None ≡ Some h → w.code ≡ h.code
    by_test true e = ap (λ (k : Opening). k.code) (map_some (mode_at p (class_of w) w.mode) (λ (m : Mode). head_with w.code m) h e).2
    by_test false e = cc

pub placed_says : (p : Position) (w h : Opening) → placed p w ≡ Some h → Placed p h
placed_says p w h e =
    let m = map_some (mode_at p (class_of w) w.mode) (λ (k : Mode). head_with w.code k) h (first (admits p (class_of w)) e).1 in
    let same : w.code ≡ h.code = ap (λ (k : Opening). k.code) m.2 in
    record {
      written = w;
      same_code = same;
      admitted = subst (λ (k : Opening). admits p (class_of k) ≡ true) m.2 (first (admits p (class_of w)) e).0;
      moded = subst (λ (k : Opening). mode_at p (class_of k) w.mode ≡ Some k.mode) m.2 m.1;
    }
  where
    first : (b : Bool) {o : Option Opening} → cond b o None ≡ Some h → (b ≡ true) × (o ≡ Some h)
    first true e = (refl, e)
    first false e = cc

pub placed_again : (p : Position) (h : Opening) → Placed p h → placed p (head_with h.code h.mode) ≡ Some h
placed_again p h s =
    let same : mode_at p (class_of h) h.mode ≡ Some h.mode = at_again p (class_of h) s.written.mode h.mode s.admitted s.moded in
    rw (s.admitted) (rw same refl)

-- a head of such a class is printed without a mode
pub placed_bare : (p : Position) (h : Opening) → has_none (class_of h) ≡ true → Placed p h → h.mode ≡ mode.Void
placed_bare p h n s = none_at p (class_of h) s.written.mode h.mode n s.admitted s.moded
