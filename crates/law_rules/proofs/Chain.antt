-- A chain with the return at its end: what stands at its places, and which labels.
use Rattle.std.proofs.Common.{◌≡◌, ℕ, zero, suc, ◌+◌, Bool, false, ◌&&◌, ◌==◌, cond, List, [], ◌∷◌, ◌++◌, length, Some, None, refl, ap}
use Rattle.std.specs.Prelude.{slice_get}
use Rattle.std.specs.List.{position_from}
use Rattle.rtx_tree.specs.declared.function.Insn.{Insn}
use Rattle.rtx_tree.specs.Patterns.{is_label, is_label_kind, place_of}

-- what stands in the chain stands there still, and the return at the end
pub before_end : {A : Type 0} (xs : List A) (last : A) (place : ℕ) (x : A) → slice_get xs place ≡ Some x →
    slice_get (xs ++ last ∷ []) place ≡ Some x
before_end [] last place x at = absurd (let nothing : ⊥ = cc in nothing)
before_end (y ∷ xs) last zero x at = at
before_end (y ∷ xs) last (suc place) x at = before_end xs last place x at

pub the_end : {A : Type 0} (xs : List A) (last : A) → slice_get (xs ++ last ∷ []) (length xs) ≡ Some last
the_end [] last = refl
the_end (y ∷ xs) last = the_end xs last

pub length_end : {A : Type 0} (xs : List A) (last : A) → length (xs ++ last ∷ []) ≡ suc (length xs)
length_end [] last = refl
length_end (y ∷ xs) last = ap suc (length_end xs last)

-- ---- labels

-- the first that passes a test is the same where what is added does not pass
position_end : {A : Type 0} (test : A → Bool) (xs : List A) (last : A) (start : ℕ) → test last ≡ false →
    position_from test start (xs ++ last ∷ []) ≡ position_from test start xs
position_end test [] last start fails = ap (λ b. cond b (Some start) None) fails
position_end test (x ∷ xs) last start fails = ap (λ rest. cond (test x) (Some start) rest) (position_end test xs last (start + 1) fails)

-- a label stands where it stood
pub same_labels : (insns : List Insn) (last : Insn) → is_label_kind last.kind ≡ false → (uid : ℕ) →
    place_of uid (insns ++ last ∷ []) ≡ place_of uid insns
same_labels insns last no_label uid = position_end (is_label uid) insns last 0 (ap (λ b. b && (last.uid == uid)) no_label)
