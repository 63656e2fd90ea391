-- Tests of several.
use Rattle.std.proofs.Common.{◌≡◌, Bool, true, false, ◌&&◌, ◌||◌, refl}

pub neither : (p q : Bool) → p ≡ false → q ≡ false → (p || q) ≡ false
neither true q one other = cc
neither false q one other = other

pub alone : (p : Bool) → p ≡ false → (p || false) ≡ false
alone true is = cc
alone false is = refl
