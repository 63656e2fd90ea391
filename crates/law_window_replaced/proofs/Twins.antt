-- The places of labels in a chain and in the one with other instructions in the place of a window, where neither holds a label.
use Rattle.std.proofs.Common.{◌≡◌, ℕ, suc, ◌+◌, ◌≤◌, ◌==◌, ◌&&◌, not, cond, arith, Bool, true, false, drop, length, List, [], ◌∷◌, ◌++◌, Some, refl, sym, ap, subst, ◌∙◌}
use Rattle.std.specs.List.{position_from}
use Rattle.rtx_tree.specs.Patterns.{is_label, is_label_kind}
use Rattle.rtx_tree.specs.declared.function.Function.{Function}
use Rattle.rtx_tree.specs.declared.function.Insn.{Insn}
use Rattle.rtx_tree.specs.declared.function.Kind.{Kind}
use Rattle.rtx_tree.specs.declared.function.Kind.TheVariants as kind
use Rattle.law_window_kept.specs.Same.{is_plain, leads_last}
use Rattle.law_window_replaced.specs.Replaced as parts
use Rattle.law_window_replaced.specs.Replaced.{AreReplaced}
use Rattle.law_window_replaced.proofs.Known.{both_of}

-- ---- instructions that lead on from their last alone

plain_no_label : (k : Kind) → is_plain k ≡ true → is_label_kind k ≡ false
plain_no_label kind.Plain is = refl
plain_no_label kind.Barrier is = refl
plain_no_label kind.Jump is = absurd (let no : ⊥ = cc in no)
plain_no_label kind.Call is = absurd (let no : ⊥ = cc in no)
plain_no_label kind.Label is = absurd (let no : ⊥ = cc in no)

last_no_label : (k : Kind) → not (is_label_kind k) ≡ true → is_label_kind k ≡ false
last_no_label kind.Plain is = refl
last_no_label kind.Barrier is = refl
last_no_label kind.Jump is = refl
last_no_label kind.Call is = refl
last_no_label kind.Label is = absurd (let no : ⊥ = cc in no)

pub first_no_label : (i : Insn) (rest : List Insn) → leads_last (i ∷ rest) ≡ true → is_label_kind i.kind ≡ false
first_no_label i [] leads = last_no_label i.kind leads
first_no_label i (j ∷ rest) leads = plain_no_label i.kind (both_of (is_plain i.kind) _ leads).0

pub rest_leads : (i : Insn) (rest : List Insn) → leads_last (i ∷ rest) ≡ true → leads_last rest ≡ true
rest_leads i [] leads = refl
rest_leads i (j ∷ rest) leads = (both_of (is_plain i.kind) _ leads).1

-- ---- places behind a list

-- so many places behind the list
abbrev past : List Insn → ℕ → ℕ
past [] n = n
past (i ∷ insns) n = suc (past insns n)

drop_past : (insns rest : List Insn) (n : ℕ) → drop (past insns n) (insns ++ rest) ≡ drop n rest
drop_past [] rest n = refl
drop_past (i ∷ insns) rest n = drop_past insns rest n

within_past : (insns rest : List Insn) (n : ℕ) → n ≤ length rest → past insns n ≤ length (insns ++ rest)
within_past [] rest n within = within
within_past (i ∷ insns) rest n within = let later = within_past insns rest n within in omega (arith, later)

-- where the rest begins, if the list begins at a place
abbrev behind : ℕ → List Insn → ℕ
behind first [] = first
behind first (i ∷ insns) = behind (first + 1) insns

behind_is : (first : ℕ) (insns : List Insn) (n : ℕ) → behind first insns + n ≡ first + past insns n
behind_is first [] n = refl
behind_is first (i ∷ insns) n = let later = behind_is (first + 1) insns n in omega (arith, later)

past_is : (place : ℕ) (insns : List Insn) (n : ℕ) → place + length insns + n ≡ place + past insns n
past_is place [] n = omega arith
past_is place (i ∷ insns) n = let later = past_is place insns n in omega (arith, later)

module _ (uid : ℕ) where
  passed_over : (first : ℕ) (insns rest : List Insn) → leads_last insns ≡ true →
      position_from (is_label uid) first (insns ++ rest) ≡ position_from (is_label uid) (behind first insns) rest
  passed_over first [] rest leads = refl
  passed_over first (i ∷ insns) rest leads =
      ap (λ b. cond (b && (i.uid == uid)) (Some first) (position_from (is_label uid) (first + 1) (insns ++ rest)))
      (first_no_label i insns leads) ∙ passed_over (first + 1) insns rest (rest_leads i insns leads)

-- ---- in both chains

-- a label of the one chain, and the same in the other, by the places at which the rests begin
pub record Twin (uid : ℕ) (f : Function) (xs ys : List Insn) (place first other q : ℕ) : Type 0 where
  pub by : ℕ
  pub by_other : ℕ
  pub place_is : q ≡ first + by
  pub other_is : position_from (is_label uid) other ys ≡ Some (other + by_other)
  pub within : by ≤ length xs
  pub within_other : by_other ≤ length ys
  pub both : AreReplaced f (place + by) (drop by xs) (drop by_other ys)

module _ (uid : ℕ) (f : Function) where
  twin_here : (i : Insn) (xs ys : List Insn) (place first other q : ℕ) → is_label uid i ≡ true → first ≡ q →
      AreReplaced f place (i ∷ xs) (i ∷ ys) → Twin uid f (i ∷ xs) (i ∷ ys) place first other q
  twin_here i xs ys place first other q is at both = record {
    by = 0;
    by_other = 0;
    place_is = omega (arith, at);
    other_is = ap (λ b. cond b (Some other) (position_from (is_label uid) (other + 1) ys)) is ∙
        ap Some (let zero_is : other ≡ other + 0 = omega arith in zero_is);
    within = omega arith;
    within_other = omega arith;
    both = subst (λ p. AreReplaced f p (i ∷ xs) (i ∷ ys)) (let zero_is : place ≡ place + 0 = omega arith in zero_is) both;
  }

  twin_later : (i : Insn) (xs ys : List Insn) (place first other q : ℕ) → is_label uid i ≡ false →
      Twin uid f xs ys (place + 1) (first + 1) (other + 1) q → Twin uid f (i ∷ xs) (i ∷ ys) place first other q
  twin_later i xs ys place first other q none later = record {
    by = suc later.by;
    by_other = suc later.by_other;
    place_is = let at = later.place_is in omega (arith, at);
    other_is = ap (λ b. cond b (Some other) (position_from (is_label uid) (other + 1) ys)) none ∙ later.other_is ∙
        ap Some (let one_more : other + 1 + later.by_other ≡ other + suc later.by_other = omega arith in one_more);
    within = let inside = later.within in omega (arith, inside);
    within_other = let inside = later.within_other in omega (arith, inside);
    both = subst (λ p. AreReplaced f p (drop later.by xs) (drop later.by_other ys))
        (let one_more : place + 1 + later.by ≡ place + suc later.by = omega arith in one_more) later.both;
  }

  twin_by : (b : Bool) (i : Insn) (xs ys : List Insn) (place first other q : ℕ) → is_label uid i ≡ b →
      cond b (Some first) (position_from (is_label uid) (first + 1) xs) ≡ Some q → AreReplaced f place (i ∷ xs) (i ∷ ys) →
      (position_from (is_label uid) (first + 1) xs ≡ Some q → Twin uid f xs ys (place + 1) (first + 1) (other + 1) q) →
      Twin uid f (i ∷ xs) (i ∷ ys) place first other q
  twin_by true i xs ys place first other q is at both later =
      twin_here i xs ys place first other q is (let here : first ≡ q = cc in here) both
  twin_by false i xs ys place first other q is at both later = twin_later i xs ys place first other q is (later at)

  -- behind windows
  twin_behind : (before after xs ys : List Insn) (place first other q : ℕ) → leads_last after ≡ true →
      Twin uid f xs ys (place + length before) (behind first before) (behind other after) q →
      Twin uid f (before ++ xs) (after ++ ys) place first other q
  twin_behind before after xs ys place first other q led later = record {
    by = past before later.by;
    by_other = past after later.by_other;
    place_is = later.place_is ∙ behind_is first before later.by;
    other_is = passed_over uid other after ys led ∙ later.other_is ∙ ap Some (behind_is other after later.by_other);
    within = within_past before xs later.by later.within;
    within_other = within_past after ys later.by_other later.within_other;
    both = subst (λ p. AreReplaced f p (drop (past before later.by) (before ++ xs)) (drop (past after later.by_other) (after ++ ys)))
        (past_is place before later.by)
        (subst (λ l. AreReplaced f (place + length before + later.by) l (drop (past after later.by_other) (after ++ ys)))
        (sym (drop_past before xs later.by))
        (subst (λ l. AreReplaced f (place + length before + later.by) (drop later.by xs) l) (sym (drop_past after ys later.by_other))
        later.both));
  }

  pub twin : (xs ys : List Insn) (place first other q : ℕ) → AreReplaced f place xs ys →
      position_from (is_label uid) first xs ≡ Some q → Twin uid f xs ys place first other q
  twin _ _ _ first other q (parts.end place) is = absurd (let no : ⊥ = cc in no)
  twin _ _ _ first other q (parts.stays place i xs ys rest) is =
      twin_by (is_label uid i) i xs ys place first other q refl is (parts.stays place i xs ys rest)
      (λ at. twin xs ys (place + 1) (first + 1) (other + 1) q rest at)
  twin _ _ _ first other q (parts.window place before after xs ys some replace rest) is =
      twin_behind before after xs ys place first other q replace.after_leads
      (twin xs ys (place + length before) (behind first before) (behind other after) q rest
      (sym (passed_over uid first before xs replace.before_leads) ∙ is))
