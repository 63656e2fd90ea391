-- What operands come to, made one behind the other.
use Rattle.std.proofs.Common.{◌≡◌, ℕ, suc, ◌+◌, ◌<◌, Bool, List, [], ◌∷◌, ◌++◌, length, drop, get_or, Option, Some, None, refl, sym, ap, subst, ◌∙◌, append_assoc, add-one}
use Rattle.std.proofs.Math.Seq.{drop-cons}
use Rattle.std.specs.Option.{option_map, option_and_then}
use Rattle.std.proofs.lemmas.List.{append-nil}
use Rattle.rtx_tree.specs.declared.tree.Rtx.{Rtx}
use Rattle.md_recog.specs.Match.{Accepts}
use Rattle.std_name.specs.declared.standard.StandardOperand.{StandardOperand}
use Rattle.lower_insn.specs.declared.part.Prepared.{Prepared}
use Rattle.lower_insn.specs.Settings.{prepared, nothing, joined, addressed_one, addressed, fitted_one, fitted}

-- ---- one operand more

same_parts : (before before' : List Rtx) (operands operands' : List StandardOperand) (after after' : List Rtx) (next : ℕ) →
    before ≡ before' → operands ≡ operands' → after ≡ after' → prepared before operands after next ≡ prepared before' operands' after' next
same_parts before before' operands operands' after after' next b o a =
    ap (λ (x : List Rtx). prepared x operands after next) b ∙
    (ap (λ (x : List StandardOperand). prepared before' x after next) o ∙ ap (λ (x : List Rtx). prepared before' operands' x next) a)

-- an operand, with what stands before and behind
pub keeps : (so_far : Prepared) (operand : StandardOperand) (next : ℕ) →
    prepared so_far.before (so_far.operands ++ operand ∷ []) so_far.after next ≡ joined so_far (prepared [] (operand ∷ []) [] next)
keeps so_far operand next = same_parts _ _ _ _ _ _ next (sym (append-nil so_far.before)) refl (sym (append-nil so_far.after))

pub keeps_before : (so_far : Prepared) (operand : StandardOperand) (x : Rtx) (next : ℕ) →
    prepared (so_far.before ++ x ∷ []) (so_far.operands ++ operand ∷ []) so_far.after next ≡ joined so_far (prepared (x ∷ []) (operand ∷ []) [] next)
keeps_before so_far operand x next = same_parts _ _ _ _ _ _ next refl refl (sym (append-nil so_far.after))

pub keeps_behind : (so_far : Prepared) (operand : StandardOperand) (x : Rtx) (next : ℕ) →
    prepared so_far.before (so_far.operands ++ operand ∷ []) (so_far.after ++ x ∷ []) next ≡ joined so_far (prepared [] (operand ∷ []) (x ∷ []) next)
keeps_behind so_far operand x next = same_parts _ _ _ _ _ _ next (sym (append-nil so_far.before)) refl refl

-- ---- some behind others

joined_nothing : (a : Prepared) → joined a (nothing a.next) ≡ a
joined_nothing a = same_parts _ _ _ _ _ _ a.next (append-nil a.before) (append-nil a.operands) (append-nil a.after)

joined_twice : (a b c : Prepared) → joined (joined a b) c ≡ joined a (joined b c)
joined_twice a b c = same_parts _ _ _ _ _ _ c.next (append_assoc a.before b.before c.before) (append_assoc a.operands b.operands c.operands) (append_assoc a.after b.after c.after)

-- what is left of a list at a place, where a thing stands there
pub drop_at : {A : Type 0} (xs : List A) (i : ℕ) (x : A) → i < length xs → x ≡ get_or xs i x → drop i xs ≡ x ∷ drop (i + 1) xs
drop_at {A = A} xs i x within is =
    let lt : i < length xs = within in
    let cons : drop i xs ≡ get_or xs i x ∷ drop (suc i) xs = drop-cons xs i x lt in
    rw add-one (cons ∙ ap (λ (u : A). u ∷ drop (suc i) xs) (sym is))

-- ---- addresses

-- what has been made of the operands before one, with those from it on, is what there is to be made
pub record Addresses (operands : List StandardOperand) (next : ℕ) (so_far : Prepared) (rest : List StandardOperand) : Type 0 where
  pub all : joined so_far (addressed rest so_far.next) ≡ addressed operands next

pub addresses_begin : (operands : List StandardOperand) (next : ℕ) → Addresses operands next (nothing next) operands
addresses_begin operands next = record { all = refl }

pub addresses_go_on : (operands : List StandardOperand) (next : ℕ) (so_far more : Prepared) (i : ℕ) (operand : StandardOperand) → i < length operands →
    operand ≡ get_or operands i operand → more ≡ joined so_far (addressed_one operand so_far.next) → Addresses operands next so_far (drop i operands) →
    Addresses operands next more (drop (i + 1) operands)
addresses_go_on operands next so_far more i operand within is made so = record {
  all =
      ap (λ (m : Prepared). joined m (addressed (drop (i + 1) operands) m.next)) made ∙
      (joined_twice so_far (addressed_one operand so_far.next) (addressed (drop (i + 1) operands) (addressed_one operand so_far.next).next) ∙
      (ap (λ (xs : List StandardOperand). joined so_far (addressed xs so_far.next)) (sym (drop_at operands i operand within is)) ∙ so.all));
}

pub addresses_end : (operands : List StandardOperand) (next : ℕ) (so_far : Prepared) → Addresses operands next so_far [] → so_far ≡ addressed operands next
addresses_end operands next so_far so = sym (joined_nothing so_far) ∙ so.all

-- ---- predicates

module _ (accepts : Accepts) (patterns : List Rtx) (held : Bool) where
  pub record Fits (operands : List StandardOperand) (next : ℕ) (so_far : Prepared) (number : ℕ) (rest : List StandardOperand) : Type 0 where
    pub all : option_map (joined so_far) (fitted accepts patterns held number rest so_far.next) ≡ fitted accepts patterns held 0 operands next

  map_nothing : (o : Option Prepared) (next : ℕ) → option_map (joined (nothing next)) o ≡ o
  map_nothing None next = refl
  map_nothing (Some p) next = refl

  pub fits_begin : (operands : List StandardOperand) (next : ℕ) → Fits operands next (nothing next) 0 operands
  fits_begin operands next = record { all = map_nothing (fitted accepts patterns held 0 operands next) next }

  then_more : (so_far first : Prepared) (o : Option Prepared) → option_map (joined (joined so_far first)) o ≡ option_map (joined so_far) (option_map (joined first) o)
  then_more so_far first None = refl
  then_more so_far first (Some p) = ap (λ (p : Prepared). Some p) (joined_twice so_far first p)

  -- from what one operand comes to
  go_on : (operands : List StandardOperand) (next : ℕ) (so_far : Prepared) (number : ℕ) (rest : List StandardOperand) (operand : StandardOperand) (one : Option Prepared) →
      fitted_one accepts patterns held number operand so_far.next ≡ one → Fits operands next so_far number (operand ∷ rest) →
      option_map (joined so_far) (option_and_then (λ first. option_map (joined first) (fitted accepts patterns held (number + 1) rest first.next)) one) ≡ fitted accepts patterns held 0 operands next
  go_on operands next so_far number rest operand one is so =
      ap (λ (o : Option Prepared). option_map (joined so_far) (option_and_then (λ first. option_map (joined first) (fitted accepts patterns held (number + 1) rest first.next)) o)) (sym is) ∙ so.all

  pub fits_go_on : (operands : List StandardOperand) (next : ℕ) (so_far more : Prepared) (number above i : ℕ) (operand : StandardOperand) → i < length operands →
      operand ≡ get_or operands i operand → Some more ≡ option_map (joined so_far) (fitted_one accepts patterns held number operand so_far.next) → above ≡ number + 1 →
      Fits operands next so_far number (drop i operands) → Fits operands next more above (drop (i + 1) operands)
  fits_go_on operands next so_far more number above i operand within is made counted so =
      let at = drop_at operands i operand within is in
      let here : Fits operands next so_far number (operand ∷ drop (i + 1) operands) = subst (Fits operands next so_far number) at so in
      by (fitted_one accepts patterns held number operand so_far.next) refl made here
    where
      by : (one : Option Prepared) → fitted_one accepts patterns held number operand so_far.next ≡ one → Some more ≡ option_map (joined so_far) one →
          Fits operands next so_far number (operand ∷ drop (i + 1) operands) → Fits operands next more above (drop (i + 1) operands)
      by None is made here = absurd (let none : ⊥ = cc in none)
      by (Some first) is made here =
          let same : more ≡ joined so_far first = cc in
          record {
            all =
                ap (λ (k : ℕ). option_map (joined more) (fitted accepts patterns held k (drop (i + 1) operands) more.next)) counted ∙
                (ap (λ (m : Prepared). option_map (joined m) (fitted accepts patterns held (number + 1) (drop (i + 1) operands) m.next)) same ∙
                (then_more so_far first (fitted accepts patterns held (number + 1) (drop (i + 1) operands) first.next) ∙
                go_on operands next so_far number (drop (i + 1) operands) operand (Some first) is here));
          }

  pub fits_not : (operands : List StandardOperand) (next : ℕ) (so_far : Prepared) (number i : ℕ) (operand : StandardOperand) → i < length operands →
      operand ≡ get_or operands i operand → None ≡ option_map (joined so_far) (fitted_one accepts patterns held number operand so_far.next) →
      Fits operands next so_far number (drop i operands) → None ≡ fitted accepts patterns held 0 operands next
  fits_not operands next so_far number i operand within is made so =
      let at = drop_at operands i operand within is in
      let here : Fits operands next so_far number (operand ∷ drop (i + 1) operands) = subst (Fits operands next so_far number) at so in
      by (fitted_one accepts patterns held number operand so_far.next) refl made here
    where
      by : (one : Option Prepared) → fitted_one accepts patterns held number operand so_far.next ≡ one → None ≡ option_map (joined so_far) one →
          Fits operands next so_far number (operand ∷ drop (i + 1) operands) → None ≡ fitted accepts patterns held 0 operands next
      by None is made here = go_on operands next so_far number (drop (i + 1) operands) operand None is here
      by (Some first) is made here = absurd (let none : ⊥ = cc in none)

  pub fits_end : (operands : List StandardOperand) (next : ℕ) (so_far : Prepared) (number : ℕ) → Fits operands next so_far number [] → Some so_far ≡ fitted accepts patterns held 0 operands next
  fits_end operands next so_far number so = ap (λ (p : Prepared). Some p) (sym (joined_nothing so_far)) ∙ so.all
