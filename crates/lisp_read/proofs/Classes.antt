-- Which bytes have a class.
use Rattle.std.proofs.Common.{◌≡◌, ℕ, ◌||◌, eqb, ltb, Bool, true, false, cond, refl}
use Rattle.std.proofs.lemmas.Bool.{eqb-true}
use Rattle.lisp_read.specs.declared.class.ByteClass.{ByteClass}
use Rattle.lisp_read.specs.declared.class.ByteClass.TheVariants as class
use Rattle.lisp_read.specs.Class.{class_of, open_byte, close_byte}

-- the one byte of a class that has only one
abbrev pub IsByteOf : ByteClass → ℕ → Type 0
IsByteOf class.Zero b = b ≡ 0
IsByteOf class.Newline b = b ≡ 10
IsByteOf class.Semicolon b = b ≡ 59
IsByteOf class.Slash b = b ≡ 47
IsByteOf class.Star b = b ≡ 42
IsByteOf class.Quote b = b ≡ 34
IsByteOf class.Backslash b = b ≡ 92
IsByteOf class.OpenBrace b = b ≡ 123
IsByteOf class.CloseBrace b = b ≡ 125
IsByteOf (class.Open k) b = b ≡ open_byte k
IsByteOf (class.Close k) b = b ≡ close_byte k
IsByteOf _ b = Unit {0}

-- a choice by a test of the byte
chosen : (t : Bool) (x y : ByteClass) (b : ℕ) → (t ≡ true → IsByteOf x b) → IsByteOf y b → IsByteOf (cond t x y) b
chosen true x y b h k = h refl
chosen false x y b h k = k

pub byte_of_class : (b : ℕ) → IsByteOf (class_of b) b
byte_of_class b =
    chosen (eqb b 0) _ _ b (eqb-true b 0)
    (chosen (eqb b 32 || eqb b 9 || eqb b 13 || eqb b 12) _ _ b (λ _. tt)
    (chosen (eqb b 10) _ _ b (eqb-true b 10)
    (chosen (eqb b 59) _ _ b (eqb-true b 59)
    (chosen (eqb b 47) _ _ b (eqb-true b 47)
    (chosen (eqb b 42) _ _ b (eqb-true b 42)
    (chosen (eqb b 34) _ _ b (eqb-true b 34)
    (chosen (eqb b 92) _ _ b (eqb-true b 92)
    (chosen (eqb b 123) _ _ b (eqb-true b 123)
    (chosen (eqb b 125) _ _ b (eqb-true b 125)
    (chosen (eqb b 40) _ _ b (eqb-true b 40)
    (chosen (eqb b 91) _ _ b (eqb-true b 91)
    (chosen (eqb b 41) _ _ b (eqb-true b 41)
    (chosen (eqb b 93) _ _ b (eqb-true b 93)
    (chosen (ltb b 33) _ _ b (λ _. tt)
    (chosen (ltb b 127) _ _ b (λ _. tt) tt)))))))))))))))

abbrev pub is_slash_class : ByteClass → Bool
is_slash_class class.Slash = true
is_slash_class _ = false

pub slash_from : (c : ByteClass) → is_slash_class c ≡ true → c ≡ class.Slash
slash_from class.Slash h = refl
slash_from _ h = cc

pub not_slash_from : (c : ByteClass) → is_slash_class c ≡ false → c ≡ class.Slash → ⊥
not_slash_from class.Slash h e = cc
not_slash_from _ h e = cc

pub slash_byte_is : (b : ℕ) → class_of b ≡ class.Slash → b ≡ 47
slash_byte_is b e = rw e at (byte_of_class b)
