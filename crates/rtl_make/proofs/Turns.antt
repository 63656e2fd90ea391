-- Patterns that are made one behind the other, and numbers of their instructions.
use Rattle.std.proofs.Common.{◌≡◌, ◌<◌, ◌+◌, ◌-◌, ℕ, zero, suc, List, [], ◌∷◌, ◌++◌, length, refl, sym, ap, ◌∙◌, append_assoc, arith}
use Rattle.std.proofs.lemmas.List.{append-nil, length-append}
use Rattle.rtx_tree.specs.declared.function.Insn.{Insn}
use Rattle.rtx_tree.specs.declared.tree.Rtx.{Rtx}
use Rattle.rtl_make.specs.Made.{each_from, operation, operations, next_of, plain_insn, numbered, setting, summing, resulting, patterns}

-- one more was made
pub each_turn : (pattern : ℕ → Rtx) (before after whole : List Rtx) (x : Rtx) (k last : ℕ) → k < last → x ≡ pattern k → after ≡ before ++ x ∷ [] →
    before ++ each_from pattern k (last - k) ≡ whole → after ++ each_from pattern (k + 1) (last - (k + 1)) ≡ whole
unfolding each_from
each_turn pattern before after whole x k last less is made h =
    let left : last - k ≡ suc (last - (k + 1)) = omega (arith, less) in
    rw made (append_assoc before (x ∷ []) (each_from pattern (k + 1) (last - (k + 1)))
    ∙ ap (λ (y : Rtx). before ++ y ∷ each_from pattern (k + 1) (last - (k + 1))) is
    ∙ ap (λ (n : ℕ). before ++ each_from pattern k n) (sym left) ∙ h)

-- all were made
pub each_end : (pattern : ℕ → Rtx) (made whole : List Rtx) (k left : ℕ) → left ≡ 0 → made ++ each_from pattern k left ≡ whole → made ≡ whole
unfolding each_from
each_end pattern made whole k left none h = sym (append-nil made) ∙ ap (λ (n : ℕ). made ++ each_from pattern k n) (sym none) ∙ h

-- one operation more was made, of the number behind the last
pub operation_turn : (before after whole : List Rtx) (tree : Rtx) (x next done count : ℕ) → done < count → next ≡ next_of x → tree ≡ operation next → after ≡ before ++ tree ∷ [] →
    before ++ operations x (count - done) ≡ whole → after ++ operations next (count - (done + 1)) ≡ whole
unfolding operations
operation_turn before after whole tree x next done count less is_next is made h =
    let left : count - done ≡ suc (count - (done + 1)) = omega (arith, less) in
    rw made (append_assoc before (tree ∷ []) (operations next (count - (done + 1)))
    ∙ ap (λ (y : Rtx). before ++ y ∷ operations next (count - (done + 1))) is
    ∙ ap (λ (n : ℕ). before ++ operation n ∷ operations n (count - (done + 1))) is_next
    ∙ ap (λ (n : ℕ). before ++ operations x n) (sym left) ∙ h)

pub operations_end : (made whole : List Rtx) (x left : ℕ) → left ≡ 0 → made ++ operations x left ≡ whole → made ≡ whole
unfolding operations
operations_end made whole x left none h = sym (append-nil made) ∙ ap (λ (n : ℕ). made ++ operations x n) (sym none) ∙ h

-- an instruction behind others
pub numbered_push : (first : ℕ) (xs : List Rtx) (x : Rtx) (uid : ℕ) → uid ≡ first + length xs →
    numbered first (xs ++ x ∷ []) ≡ numbered first xs ++ plain_insn uid x ∷ []
unfolding numbered
numbered_push first [] x uid is =
    let e : uid ≡ first = omega (arith, is) in
    ap (λ (n : ℕ). plain_insn n x ∷ []) (sym e)
numbered_push first (y ∷ ys) x uid is =
    ap (λ (more : List Insn). plain_insn first y ∷ more) (numbered_push (first + 1) ys x uid (omega (arith, is)))

pub numbered_none : (first : ℕ) → numbered first [] ≡ []
unfolding numbered
numbered_none first = refl

-- ---- how many they are

each_length : (pattern : ℕ → Rtx) (k count : ℕ) → length (each_from pattern k count) ≡ count
unfolding each_from
each_length pattern k zero = refl
each_length pattern k (suc count) = ap suc (each_length pattern (k + 1) count)

operations_length : (x count : ℕ) → length (operations x count) ≡ count
unfolding operations
operations_length x zero = refl
operations_length x (suc count) = ap suc (operations_length (next_of x) count)

pub patterns_length : (n : ℕ) → length (patterns n) ≡ n + 32
patterns_length n =
    let first = each_length setting 0 16 in let middle = operations_length n n in let last = each_length summing 1 15 in
    length-append (each_from setting 0 16) (operations n n ++ (each_from summing 1 15 ++ resulting ∷ []))
    ∙ (let inner = length-append (operations n n) (each_from summing 1 15 ++ resulting ∷ []) in
    let deep = length-append (each_from summing 1 15) (resulting ∷ []) in omega (arith, first, middle, last, inner, deep))
