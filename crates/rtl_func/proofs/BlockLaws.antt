-- The blocks that are still to be made.
use Rattle.std.proofs.Common.{◌≡◌, ℕ, zero, suc, length, ◌+◌, ◌-◌, ◌<◌, Bool, true, false, cond, List, [], ◌∷◌, ◌++◌, append_assoc, filter, refl, sym, ap, ◌∙◌, arith}
use Rattle.std.specs.List.{range_with_len}
use Rattle.rtx_tree.specs.declared.function.Insn.{Insn}
use Rattle.rtl_func.specs.declared.block_list.Block.{Block}
use Rattle.rtl_func.specs.Blocks.{block_of, blocks_between, blocks_of, starts_block, Cover}

-- the starts from a place on
abbrev pub later : (ℕ → Bool) → ℕ → ℕ → List ℕ
later test place end = filter test (range_with_len place (end - place))

later_out : (test : ℕ → Bool) (place end : ℕ) → place < end → later test place end ≡ cond (test place) (place ∷ later test (place + 1) end) (later test (place + 1) end)
later_out test place end within = let e : end - place ≡ suc (end - (place + 1)) = omega arith in ap (λ n. filter test (range_with_len place n)) e

-- a block ends where the next starts
pub more_yes : (test : ℕ → Bool) (first place end first' : ℕ) (made made' all : List Block) → place < end → test place ≡ true → made' ≡ made ++ block_of first place ∷ [] → first' ≡ place → made ++ blocks_between (first ∷ later test place end) end ≡ all → made' ++ blocks_between (first' ∷ later test (place + 1) end) end ≡ all
more_yes test first place end first' made made' all within is made_is first_is so_far =
    ap (λ made. made ++ blocks_between (first' ∷ later test (place + 1) end) end) made_is
    ∙ ap (λ first'. (made ++ block_of first place ∷ []) ++ blocks_between (first' ∷ later test (place + 1) end) end) first_is
    ∙ append_assoc made (block_of first place ∷ []) _
    ∙ sym (ap (λ starts. made ++ blocks_between (first ∷ starts) end) (later_out test place end within ∙ ap (λ b. cond b (place ∷ later test (place + 1) end) (later test (place + 1) end)) is))
    ∙ so_far

pub more_no : (test : ℕ → Bool) (first place end first' : ℕ) (made made' all : List Block) → place < end → test place ≡ false → made' ≡ made → first' ≡ first → made ++ blocks_between (first ∷ later test place end) end ≡ all → made' ++ blocks_between (first' ∷ later test (place + 1) end) end ≡ all
more_no test first place end first' made made' all within is made_is first_is so_far =
    ap (λ made. made ++ blocks_between (first' ∷ later test (place + 1) end) end) made_is
    ∙ ap (λ first'. made ++ blocks_between (first' ∷ later test (place + 1) end) end) first_is
    ∙ sym (ap (λ starts. made ++ blocks_between (first ∷ starts) end) (later_out test place end within ∙ ap (λ b. cond b (place ∷ later test (place + 1) end) (later test (place + 1) end)) is))
    ∙ so_far

-- the blocks of a chain cover it
cover_later : (test : ℕ → Bool) (n place first end : ℕ) → place + n ≡ end → first < place → Cover first (blocks_between (first ∷ filter test (range_with_len place n)) end) end
cover_later test zero place first end is lt = (refl, (let e : first < end = omega arith in e), refl)
cover_later test (suc n) place first end is lt = by (test place) (cover_later test n (place + 1) place end (omega arith) (omega arith)) (cover_later test n (place + 1) first end (omega arith) (omega arith))
  where
    by : (b : Bool) → Cover place (blocks_between (place ∷ filter test (range_with_len (place + 1) n)) end) end → Cover first (blocks_between (first ∷ filter test (range_with_len (place + 1) n)) end) end → Cover first (blocks_between (first ∷ cond b (place ∷ filter test (range_with_len (place + 1) n)) (filter test (range_with_len (place + 1) n))) end) end
    by true here none = (refl, lt, here)
    by false here none = none

pub blocks_cover : (insns : List Insn) → Cover 0 (blocks_of insns) (length insns)
blocks_cover [] = refl
blocks_cover (i ∷ insns) = cover_later (starts_block (i ∷ insns)) (length insns) 1 0 (suc (length insns)) (omega arith) (omega arith)
