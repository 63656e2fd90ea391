-- What is read of parts, where the whole stands for something.
use Rattle.std.proofs.Common.{◌≡◌, Option, Some, None, Bool, true, false, cond, refl}
use Rattle.lisp_read.specs.declared.tree.Tree.{Tree}
use Rattle.lisp_read.specs.Parsed.{Parsed, stands, construct, outside, or_outside, parsed_map, parsed_then}

pub or_stands : {A : Type 0} (t : Tree) (o : Option A) (x : A) → or_outside t o ≡ stands x → o ≡ Some x
or_stands t (Some y) x e = cc
or_stands t None x e = cc

pub map_stands : {A B : Type 0} (f : A → B) (p : Parsed A) (y : B) → parsed_map f p ≡ stands y → (x : A) × (p ≡ stands x) × (f x ≡ y)
map_stands f (stands x) y e = (x, refl, cc)
map_stands f (construct place name) y e = cc

pub then_stands : {A B : Type 0} (p : Parsed A) (k : A → Parsed B) (y : B) → parsed_then p k ≡ stands y → (x : A) × (p ≡ stands x) × (k x ≡ stands y)
then_stands (stands x) k y e = (x, refl, e)
then_stands (construct place name) k y e = cc

-- what is read where a test holds
pub tested : {A : Type 0} (b : Bool) (t : Tree) (p : Parsed A) (x : A) → cond b p (outside t) ≡ stands x → (b ≡ true) × (p ≡ stands x)
tested true t p x e = (refl, e)
tested false t p x e = cc

-- two parts and how they are put together
pub pair_stands : {A B C : Type 0} (p : Parsed A) (q : Parsed B) (f : A → B → C) (z : C) → parsed_then p (λ x. parsed_map (f x) q) ≡ stands z →
    (x : A) × (y : B) × (p ≡ stands x) × (q ≡ stands y) × (f x y ≡ z)
pair_stands (stands x) (stands y) f z e = (x, y, refl, refl, cc)
pair_stands (stands x) (construct place name) f z e = cc
pair_stands (construct place name) q f z e = cc
