-- The places of a chain and those of the chain with a frame.
use Rattle.std.proofs.Common.{◌≡◌, ℕ, suc, ◌+◌, ◌≤◌, ◌==◌, ◌&&◌, cond, if◌then◌else◌, Bool, true, false, drop, length, List, [], ◌∷◌, ◌++◌, Some, refl, sym, ap, subst, ◌∙◌, append_assoc, arith}
use Rattle.std.specs.List.{position_from}
use Rattle.rtx_tree.specs.Patterns.{return_rtx, place_of, is_label, is_label_kind}
use Rattle.rtx_tree.specs.Tree.{head_of}
use Rattle.rtx_tree.specs.declared.function.Insn.{Insn}
use Rattle.rtx_tree.specs.declared.function.Kind.{Kind}
use Rattle.rtx_tree.specs.declared.function.Kind.TheVariants as kind
use Rattle.rtx_tree.specs.declared.tree.Rtx.{Rtx, out-roll-Rtx}
use Rattle.rtx_tree.specs.declared.tree.Rtx.TheOpen.{Rtx-F}
use Rattle.reg_uses.specs.Uses.{is_return_code}
use Rattle.assign.specs.declared.places.Layout.{Layout}
use Rattle.law_frame.specs.Frame.{epilogue, prologue, plain_insns, return_with, leaving, left_uid, returns, returns_by, left_at_returns}

-- (return) is a return
pub return_is : is_return_code (head_of return_rtx).code ≡ true
return_is = ap (λ (o : Rtx-F Rtx). is_return_code o.code) (out-roll-Rtx _)

-- ---- behind patterns

-- so many places behind them
abbrev pub past : List Rtx → ℕ → ℕ
past [] n = n
past (x ∷ xs) n = suc (past xs n)

pub drop_past : (uid n : ℕ) (xs : List Rtx) (rest : List Insn) → drop (past xs n) (plain_insns uid xs ++ rest) ≡ drop n rest
drop_past uid n [] rest = refl
drop_past uid n (x ∷ xs) rest = drop_past (uid + 1) n xs rest

pub within_past : (uid n : ℕ) (xs : List Rtx) (rest : List Insn) → n ≤ length rest → past xs n ≤ length (plain_insns uid xs ++ rest)
within_past uid n [] rest within = within
within_past uid n (x ∷ xs) rest within = let later = within_past (uid + 1) n xs rest within in omega (arith, later)

abbrev begins : ℕ → List Rtx → ℕ
begins first [] = first
begins first (x ∷ xs) = begins (first + 1) xs

begins_is : (first n : ℕ) (xs : List Rtx) → begins first xs + n ≡ first + past xs n
begins_is first n [] = refl
begins_is first n (x ∷ xs) = let later = begins_is (first + 1) n xs in omega (arith, later)

-- no label stands there
passed_over : (label first uid : ℕ) (xs : List Rtx) (rest : List Insn) →
    position_from (is_label label) first (plain_insns uid xs ++ rest) ≡ position_from (is_label label) (begins first xs) rest
passed_over label first uid [] rest = refl
passed_over label first uid (x ∷ xs) rest = passed_over label (first + 1) (uid + 1) xs rest

-- ---- what leaves the frame

module _ (layout : Layout) where
  pub leaving-append : (uid : ℕ) (rest : List Insn) →
      leaving layout uid ++ rest ≡ plain_insns uid (epilogue layout) ++ (return_with (uid + length (epilogue layout)) ∷ rest)
  leaving-append uid rest = append_assoc (plain_insns uid (epilogue layout)) (return_with (uid + length (epilogue layout)) ∷ []) rest

  pub left_return : (uid : ℕ) (i : Insn) (insns : List Insn) → returns i ≡ true →
      left_at_returns layout uid (i ∷ insns) ≡ leaving layout uid ++ left_at_returns layout (left_uid layout uid) insns
  left_return uid i insns is = ap (λ b. if b then leaving layout uid ++ left_at_returns layout (left_uid layout uid) insns else i ∷ left_at_returns
      layout uid insns) is

  pub left_other : (uid : ℕ) (i : Insn) (insns : List Insn) → returns i ≡ false →
      left_at_returns layout uid (i ∷ insns) ≡ i ∷ left_at_returns layout uid insns
  left_other uid i insns is = ap (λ b. if b then leaving layout uid ++ left_at_returns layout (left_uid layout uid) insns else i ∷ left_at_returns
      layout uid insns) is

  -- the place of a label in both
  pub record Twin (label : ℕ) (end : List Insn) (first other uid : ℕ) (xs : List Insn) (q : ℕ) : Type 0 where
    pub by : ℕ
    pub by_other : ℕ
    pub uid' : ℕ
    pub place_is : q ≡ first + by
    pub within : by ≤ length xs
    pub other_is : position_from (is_label label) other (left_at_returns layout uid (xs ++ end)) ≡ Some (other + by_other)
    pub within_other : by_other ≤ length (left_at_returns layout uid (xs ++ end))
    pub there : drop by_other (left_at_returns layout uid (xs ++ end)) ≡ left_at_returns layout uid' (drop by xs ++ end)

  label_stays : (i : Insn) (k : Kind) → i.kind ≡ k → is_label_kind k ≡ true → returns_by k i ≡ false
  label_stays i kind.Label is label = refl
  label_stays i kind.Plain is label = refl
  label_stays i kind.Jump is label = absurd (let no : ⊥ = cc in no)
  label_stays i kind.Call is label = refl
  label_stays i kind.Barrier is label = refl

  first_of : (a b : Bool) → a && b ≡ true → a ≡ true
  first_of true b both = refl
  first_of false b both = both

  module _ (label : ℕ) (end : List Insn) where
    abbrev TwinOf : ℕ → ℕ → ℕ → List Insn → ℕ → Type 0
    TwinOf first other uid xs q = Twin label end first other uid xs q

    -- it is the first
    here : (first other uid : ℕ) (i : Insn) (xs : List Insn) (q : ℕ) → is_label label i ≡ true → first ≡ q → TwinOf first other uid (i ∷ xs) q
    here first other uid i xs q is at =
        let stays = left_other uid i (xs ++ end) (label_stays i i.kind refl (first_of (is_label_kind i.kind) (i.uid == label) is)) in record {
          by = 0;
          by_other = 0;
          uid' = uid;
          place_is = omega (arith, at);
          within = omega arith;
          other_is = ap (position_from (is_label label) other) stays ∙
              ap (λ b. cond b (Some other) (position_from (is_label label) (other + 1) (left_at_returns layout uid (xs ++ end)))) is ∙
              ap Some (let zero_is : other ≡ other + 0 = omega arith in zero_is);
          within_other = omega arith;
          there = refl;
        }

    -- it stands behind an item that stays
    behind_item : (first other uid : ℕ) (i : Insn) (xs : List Insn) (q : ℕ) → is_label label i ≡ false → returns i ≡ false →
        TwinOf (first + 1) (other + 1) uid xs q → TwinOf first other uid (i ∷ xs) q
    behind_item first other uid i xs q none stay t =
        let stays = left_other uid i (xs ++ end) stay in record {
          by = suc t.by;
          by_other = suc t.by_other;
          uid' = t.uid';
          place_is = let at = t.place_is in omega (arith, at);
          within = let inside = t.within in omega (arith, inside);
          other_is = ap (position_from (is_label label) other) stays ∙
              ap (λ b. cond b (Some other) (position_from (is_label label) (other + 1) (left_at_returns layout uid (xs ++ end)))) none ∙
              t.other_is ∙ ap Some (let one_more : other + 1 + t.by_other ≡ other + suc t.by_other = omega arith in one_more);
          within_other = let inside = t.within_other in
              subst (λ (ys : List Insn). suc t.by_other ≤ length ys) (sym stays) (omega (arith, inside));
          there = ap (drop (suc t.by_other)) stays ∙ t.there;
        }

    -- it stands behind a return
    behind_return : (first other uid : ℕ) (i : Insn) (xs : List Insn) (q : ℕ) → returns i ≡ true →
        TwinOf (first + 1) (begins other (epilogue layout) + 1) (left_uid layout uid) xs q → TwinOf first other uid (i ∷ xs) q
    behind_return first other uid i xs q is t =
        let rest = left_at_returns layout (left_uid layout uid) (xs ++ end) in
        let e = epilogue layout in
        let stays : left_at_returns layout uid (i ∷ xs ++ end) ≡ plain_insns uid e ++ (return_with (uid + length e) ∷ rest) =
        left_return uid i (xs ++ end) is ∙ leaving-append uid rest in record {
          by = suc t.by;
          by_other = past e (suc t.by_other);
          uid' = t.uid';
          place_is = let at = t.place_is in omega (arith, at);
          within = let inside = t.within in omega (arith, inside);
          other_is = ap (position_from (is_label label) other) stays ∙ passed_over label other uid e (return_with (uid + length e) ∷ rest) ∙
              t.other_is ∙ ap Some (let sum = begins_is other (suc t.by_other) e in
              let same : begins other e + 1 + t.by_other ≡ other + past e (suc t.by_other) = omega (arith, sum) in same);
          within_other = let inside = t.within_other in subst (λ (ys : List Insn). past e (suc t.by_other) ≤ length ys) (sym stays)
              (within_past uid (suc t.by_other) e (return_with (uid + length e) ∷ rest) (omega (arith, inside)));
          there = ap (drop (past e (suc t.by_other))) stays ∙ drop_past uid (suc t.by_other) e (return_with (uid + length e) ∷ rest) ∙ t.there;
        }

    by_test : (is_it stays : Bool) (first other uid : ℕ) (i : Insn) (xs : List Insn) (q : ℕ) → is_label label i ≡ is_it → returns i ≡ stays →
        cond is_it (Some first) (position_from (is_label label) (first + 1) xs) ≡ Some q →
        ((other uid : ℕ) → position_from (is_label label) (first + 1) xs ≡ Some q → TwinOf (first + 1) other uid xs q) →
        TwinOf first other uid (i ∷ xs) q
    by_test true stays first other uid i xs q is is' at later = here first other uid i xs q is (let same : first ≡ q = cc in same)
    by_test false true first other uid i xs q is is' at later =
        behind_return first other uid i xs q is' (later (begins other (epilogue layout) + 1) (left_uid layout uid) at)
    by_test false false first other uid i xs q is is' at later = behind_item first other uid i xs q is is' (later (other + 1) uid at)

    pub twin : (first other uid : ℕ) (xs : List Insn) (q : ℕ) → position_from (is_label label) first xs ≡ Some q → TwinOf first other uid xs q
    twin first other uid [] q at = absurd (let no : ⊥ = cc in no)
    twin first other uid (i ∷ xs) q at =
        by_test (is_label label i) (returns i) first other uid i xs q refl refl at (λ other uid at. twin (first + 1) other uid xs q at)

  -- ---- the whole chain

  pub record IsAt (end chain insns : List Insn) (p q : ℕ) : Type 0 where
    pub uid : ℕ
    pub within : p ≤ length chain
    pub within_other : q ≤ length insns
    pub there : drop q insns ≡ left_at_returns layout uid (drop p chain ++ end)

  -- a label has a place in the chain with a frame too
  pub label_place : (end chain : List Insn) (label first uid p : ℕ) → place_of label chain ≡ Some p →
      (q : ℕ) × (place_of label (plain_insns first (prologue layout) ++ left_at_returns layout uid (chain ++ end)) ≡ Some q) ×
      IsAt end chain (plain_insns first (prologue layout) ++ left_at_returns layout uid (chain ++ end)) p q
  label_place end chain label first uid p at =
      let e = prologue layout in
      let rest = left_at_returns layout uid (chain ++ end) in
      let t = twin label end 0 (begins 0 e) uid chain p at in
      let here : p ≡ t.by = (let is = t.place_is in omega (arith, is)) in (
        past e t.by_other,
        passed_over label 0 first e rest ∙ t.other_is ∙
            ap Some (begins_is 0 t.by_other e ∙ (let same : 0 + past e t.by_other ≡ past e t.by_other = omega arith in same)),
        record {
          uid = t.uid';
          within = let inside = t.within in omega (arith, inside, here);
          within_other = within_past first t.by_other e rest t.within_other;
          there = drop_past first t.by_other e rest ∙ t.there ∙ ap (λ n. left_at_returns layout t.uid' (drop n chain ++ end)) (sym here);
        },
      )
