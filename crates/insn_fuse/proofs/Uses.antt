-- A pattern reads a register somewhere exactly where it uses it.
use Rattle.std.proofs.Common.{◌≡◌, ℕ, ◌+◌, Bool, true, false, List, [], ◌∷◌, ◌++◌, map, refl, sym, ap, ◌∙◌, if◌then◌else◌}
use Rattle.std.specs.Prelude.{◌↔◌, ◌||◌, ◌&&◌, ◌==◌, not}
use Rattle.std.specs.List.{AllByRecursion, list_any}
use Rattle.rtx_tree.specs.declared.code.Code.{Code}
use Rattle.rtx_tree.specs.declared.code.Code.TheVariants.{Mem, Set, Clobber, Parallel}
use Rattle.rtx_tree.specs.declared.tree.Rtx.{Rtx}
use Rattle.rtx_tree.specs.Tree.{head_of, kids_of, is_reg_numbered, mentions_reg}
use Rattle.rtx_tree.proofs.Trees.{mentions_out}
use Rattle.reg_uses.specs.Effects.{reads, place_reads_by, effect_uses_by, effect_uses, effects_by, pattern_uses}
use Rattle.insn_fuse.specs.Fused.{behind_indices, here_too, mentioned_at, address_by, address_reads, effect_reads_by, effect_reads, reads_by, reads_at}
use Rattle.insn_fuse.proofs.Paths.{mentioned_out}
use Rattle.insn_fuse.proofs.Standing.{tree_induction}

-- there is a path
abbrev some_of : List (List ℕ) → Bool
some_of [] = false
some_of (path ∷ paths) = true

some_append : (xs ys : List (List ℕ)) → some_of (xs ++ ys) ≡ (some_of xs || some_of ys)
some_append [] ys = refl
some_append (path ∷ xs) ys = refl

some_behind : (n : ℕ) (paths : List (List ℕ)) → some_of (map (λ (path : List ℕ). n ∷ path) paths) ≡ some_of paths
some_behind n [] = refl
some_behind n (path ∷ paths) = refl

or_two : {a b c d : Bool} → a ≡ c → b ≡ d → (a || b) ≡ (c || d)
or_two p q = cc

some_part : (n : ℕ) (paths : List (List ℕ)) (rest : List (List ℕ)) → some_of (map (λ (path : List ℕ). n ∷ path) paths ++ rest) ≡ (some_of paths || some_of rest)
some_part n paths rest = some_append (map (λ (path : List ℕ). n ∷ path) paths) rest ∙ or_two (some_behind n paths) refl

-- of the parts one has a path where a test of it passes
some_parts : (f : Rtx → List (List ℕ)) (test : Rtx → Bool) (n : ℕ) (kids : List Rtx) → AllByRecursion (λ kid. some_of (f kid) ≡ test kid) kids → some_of (behind_indices n (map f kids)) ≡ list_any test kids
some_parts f test n [] all = refl
some_parts f test n (kid ∷ kids) all = some_part n (f kid) (behind_indices (n + 1) (map f kids)) ∙ or_two all.0 (some_parts f test (n + 1) kids all.1)

some_here : (b : Bool) → some_of (if b then [] ∷ [] else []) ≡ b
some_here true = refl
some_here false = refl

module _ (reg : ℕ) (some : (reg == 0) ≡ false) where
  abbrev Mentions : Rtx → Type 0
  Mentions x = some_of (mentioned_at reg x) ≡ mentions_reg reg x

  mentioned : (x : Rtx) → Mentions x
  mentioned = tree_induction Mentions (λ x all.
      ap some_of (mentioned_out reg x)
      ∙ (some_append (here_too (head_of x).code (head_of x).number reg) (behind_indices 0 (map (mentioned_at reg) (kids_of x)))
      ∙ (or_two (some_here (is_reg_numbered (head_of x).code (head_of x).number reg)) (some_parts (mentioned_at reg) (mentions_reg reg) 0 (kids_of x) all)
      ∙ sym (mentions_out reg x))))

  read : (x : Rtx) → some_of (mentioned_at reg x) ≡ reads reg x
  read x = mentioned x ∙ sym (ap (λ b. not b && mentions_reg reg x) some)

  address : (c : Code) (x : Rtx) → some_of (address_by reg c x) ≡ place_reads_by reg c x
  address Mem x = read x
  address _ x = refl

  effect_by : (c : Code) (kids : List Rtx) (x : Rtx) → some_of (effect_reads_by reg c kids x) ≡ effect_uses_by reg c kids x
  effect_by Set [] x = read x
  effect_by Set (a ∷ []) x = read x
  effect_by Set (place ∷ source ∷ []) x =
      some_part 0 (address_reads reg place) (behind_indices 1 (mentioned_at reg source ∷ []))
      ∙ or_two (address (head_of place).code place) (some_part 1 (mentioned_at reg source) [] ∙ (or_false (some_of (mentioned_at reg source)) ∙ read source))
    where
      or_false : (b : Bool) → (b || false) ≡ b
      or_false true = refl
      or_false false = refl
  effect_by Set (a ∷ b ∷ c ∷ kids) x = read x
  effect_by Clobber kids x = refl
  effect_by _ kids x = read x

  effect : (x : Rtx) → some_of (effect_reads reg x) ≡ effect_uses reg x
  effect x = effect_by (head_of x).code (kids_of x) x

  effects : (xs : List Rtx) → AllByRecursion (λ x. some_of (effect_reads reg x) ≡ effect_uses reg x) xs
  effects [] = tt
  effects (x ∷ xs) = (effect x, effects xs)

  alone : (x : Rtx) → some_of (effect_reads reg x) ≡ list_any (effect_uses reg) (x ∷ [])
  alone x = effect x ∙ with_none (effect_uses reg x)
    where
      with_none : (b : Bool) → b ≡ (b || false)
      with_none true = refl
      with_none false = refl

  by_code : (c : Code) (x : Rtx) → some_of (reads_by reg c (kids_of x) x) ≡ list_any (effect_uses reg) (effects_by c (kids_of x) x)
  by_code Parallel x = some_parts (effect_reads reg) (effect_uses reg) 0 (kids_of x) (effects (kids_of x))
  by_code _ x = alone x

  some_read : (x : Rtx) → some_of (reads_at reg x) ≡ pattern_uses reg x
  some_read x = by_code (head_of x).code x

  none_of : (paths : List (List ℕ)) → some_of paths ≡ false → paths ≡ []
  none_of [] none = refl
  none_of (path ∷ paths) none = cc

  -- register 0 aside, which keeps nothing
  pub reads_are_uses : (x : Rtx) → (reads_at reg x ≡ []) ↔ (pattern_uses reg x ≡ false)
  reads_are_uses x = (
    (λ none. sym (some_read x) ∙ ap some_of none),
    (λ none. none_of (reads_at reg x) (some_read x ∙ none)),
  )
