-- Stores, and the memories behind them: memory n is memory n - 1 with the value of store n written
-- at its address.
use Rattle.std.specs.Prelude.{◌≡◌, ◌<◌, ℕ, suc, List, [], ◌∷◌, ◌+◌, ◌-◌, ◌/◌, ◌%◌, ◌^◌, nat_lt, if◌then◌else◌}
use Rattle.bits64.specs.Words.{bytes_of}
use Rattle.term_tree.specs.Tree.{Tree, width_of}
use Rattle.term_mean.specs.Meaning.{Valuation, mean}

-- an address, and a value with the width that is stored
abbrev pub Store : Type 0
Store = Tree × Tree

-- byte i of a number, the lowest being byte 0
abbrev pub byte_of : ℕ → ℕ → ℕ
byte_of n i = n / 256 ^ i % 256

-- the byte at address c, after the q bytes of n were written from address a on
abbrev pub written : (ℕ → ℕ) → ℕ → ℕ → ℕ → ℕ → ℕ
written m q a n c = if nat_lt ((c + (2 ^ 64 - a % 2 ^ 64)) % 2 ^ 64) q then byte_of n ((c + (2 ^ 64 - a % 2 ^ 64)) % 2 ^ 64) else m c

-- each memory after number n is the one before it, with its store written
abbrev pub Follow : Valuation → ℕ → List Store → Type 0
Follow v n [] = Unit {0}
Follow v n (s ∷ ss) =
    ((c : ℕ) → c < 2 ^ 64 → v.memory (suc n) c ≡ written (v.memory n) (bytes_of (width_of s.1)) (mean v s.0) (mean v s.1) c) × Follow v (suc n) ss

-- the memories are those behind these stores, the first of which is store 1
abbrev pub Stored : Valuation → List Store → Type 0
Stored v stores = Follow v 0 stores
