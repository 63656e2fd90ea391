-- Where the uids of a function differ, they still do when an instruction is replaced.
use Rattle.std.proofs.Common.{◌≡◌, ℕ, ◌+◌, ◌≤◌, Bool, true, false, List, [], ◌∷◌, ◌++◌, map, take, drop, Some, refl, sym, ap, subst, ◌∙◌, append_assoc, arith}
use Rattle.std.specs.Prelude.{slice_get, filter, ◌==◌, if◌then◌else◌}
use Rattle.std.specs.List.{AllByRecursion, IsDistinct}
use Rattle.std.proofs.lemmas.Bool.Decides.{nat_tests}
use Rattle.std.proofs.lemmas.Map.Keys.{IsDistinct-cons, IsDistinct-head, IsDistinct-tail}
use Rattle.std.proofs.lemmas.List.{map-append}
use Rattle.std.proofs.lemmas.List.Elements.{filter-append}
use Rattle.rtx_tree.specs.declared.tree.Rtx.{Rtx}
use Rattle.rtx_tree.specs.declared.function.Insn.{Insn}
use Rattle.rtx_tree.specs.declared.function.Function.{Function}
use Rattle.rtx_tree.specs.declared.function.Kind.{Kind}
use Rattle.rtx_tree.specs.declared.function.Kind.TheVariants.{Plain, Jump, Call, Label, Barrier}
use Rattle.rtl_func.specs.Kinds.{is_jump_tree, is_call_tree}
use Rattle.rtl_func.specs.Uids.{is_ruled, is_ruled_kind, uids_of}
use Rattle.rtl_chain.specs.Counts.{greatest_uid}
use Rattle.law_pass_needs.specs.form_needs.Needs.{is_kind}
use Rattle.new_insns.specs.Made.{insn_for, insns_for}
use Rattle.new_insns.specs.Replaced.{replaced}
use Rattle.insn_replace.specs.Replace.{made}
use Rattle.law_pass_needs.specs.Reloadable.{UidsDiffer}
use Rattle.law_insn_replaced.proofs.Lists.{parted}

-- ---- numbers that differ

abbrev Apart : ℕ → List ℕ → Type 0
Apart x ys = AllByRecursion (λ y. (x == y) ≡ false) ys

apart_in : (a x : ℕ) (front back : List ℕ) → Apart a (front ++ back) → (a == x) ≡ false → Apart a (front ++ x ∷ back)
apart_in a x [] back far other = (other, far)
apart_in a x (y ∷ front) back far other = (far.0, apart_in a x front back far.1 other)

apart_out : (a x : ℕ) (front back : List ℕ) → Apart a (front ++ x ∷ back) → Apart a (front ++ back)
apart_out a x [] back far = far.1
apart_out a x (y ∷ front) back far = (far.0, apart_out a x front back far.1)

flipped : (a x : ℕ) → (x == a) ≡ false → (a == x) ≡ false
flipped a x other = grind (arith, nat_tests, other)

-- one more that differs from all
pub insert : (x : ℕ) (front back : List ℕ) → Apart x (front ++ back) → IsDistinct ◌==◌ (front ++ back) → IsDistinct ◌==◌ (front ++ x ∷ back)
insert x [] back far differ = IsDistinct-cons ◌==◌ x back far differ
insert x (a ∷ front) back far differ =
    IsDistinct-cons ◌==◌ a (front ++ x ∷ back) (apart_in a x front back (IsDistinct-head ◌==◌ a (front ++ back) differ) (flipped a x far.0)) (insert x front back far.1 (IsDistinct-tail ◌==◌ a (front ++ back) differ))

-- one fewer
pub remove : (x : ℕ) (front back : List ℕ) → IsDistinct ◌==◌ (front ++ x ∷ back) → IsDistinct ◌==◌ (front ++ back)
remove x [] back differ = IsDistinct-tail ◌==◌ x back differ
remove x (a ∷ front) back differ =
    IsDistinct-cons ◌==◌ a (front ++ back) (apart_out a x front back (IsDistinct-head ◌==◌ a (front ++ x ∷ back) differ)) (remove x front back (IsDistinct-tail ◌==◌ a (front ++ x ∷ back) differ))

-- ---- numbers up to one

abbrev UpTo : ℕ → List ℕ → Type 0
UpTo n us = AllByRecursion (λ u. u ≤ n) us

higher : (n m : ℕ) (us : List ℕ) → n ≤ m → UpTo n us → UpTo m us
higher n m [] less low = tt
higher n m (u ∷ us) less low = (let here = low.0 in omega (arith, here, less), higher n m us less low.1)

pub above_all : (n : ℕ) (us : List ℕ) → UpTo n us → Apart (n + 1) us
above_all n [] low = tt
above_all n (u ∷ us) low = (let here : u ≤ n = low.0 in grind (arith, nat_tests, here), above_all n us low.1)

up_to_in : (n x : ℕ) (front back : List ℕ) → UpTo n (front ++ back) → x ≤ n → UpTo n (front ++ x ∷ back)
up_to_in n x [] back low here = (here, low)
up_to_in n x (a ∷ front) back low here = (low.0, up_to_in n x front back low.1 here)

-- ---- the uids of a chain

ruled_by : (jump call : Bool) → is_ruled_kind (if jump then Jump else (if call then Call else Plain)) ≡ true
ruled_by true call = refl
ruled_by false true = refl
ruled_by false false = refl

ruled_kind : (kind : Kind) → is_kind kind ≡ true → is_ruled_kind kind ≡ true
ruled_kind Plain is = refl
ruled_kind Jump is = refl
ruled_kind Call is = refl
ruled_kind Label is = refl
ruled_kind Barrier is = cc

uids_first : (i : Insn) (insns : List Insn) → is_ruled i ≡ true → uids_of (i ∷ insns) ≡ i.uid ∷ uids_of insns
uids_first i insns is = grind (arith, is)

uids_passed : (i : Insn) (insns : List Insn) → is_ruled i ≡ false → uids_of (i ∷ insns) ≡ uids_of insns
uids_passed i insns is = grind (arith, is)

pub uids_append : (xs ys : List Insn) → uids_of (xs ++ ys) ≡ uids_of xs ++ uids_of ys
uids_append xs ys = ap (map (λ (i : Insn). i.uid)) (filter-append is_ruled xs ys) ∙ map-append (λ (i : Insn). i.uid) (filter is_ruled xs) (filter is_ruled ys)

pub low_uids : (insns : List Insn) → UpTo (greatest_uid insns) (uids_of insns)
low_uids [] = tt
low_uids (i ∷ insns) = by (is_ruled i) refl (higher (greatest_uid insns) (greatest_uid (i ∷ insns)) (uids_of insns) (grind arith) (low_uids insns))
  where
    by : (b : Bool) → is_ruled i ≡ b → UpTo (greatest_uid (i ∷ insns)) (uids_of insns) → UpTo (greatest_uid (i ∷ insns)) (uids_of (i ∷ insns))
    by true is rest = subst (UpTo (greatest_uid (i ∷ insns))) (sym (uids_first i insns is)) (grind arith, rest)
    by false not rest = subst (UpTo (greatest_uid (i ∷ insns))) (sym (uids_passed i insns not)) rest

-- ---- new uids

one_uid : (old : Insn) (uid : ℕ) (x : Rtx) (insns : List Insn) → uids_of (insn_for old uid x ∷ insns) ≡ uid ∷ uids_of insns
one_uid old uid x insns = uids_first (insn_for old uid x) insns (ruled_by (is_jump_tree x) (is_call_tree x))

module _ (old : Insn) (back : List ℕ) where
  new_uids : (front : List ℕ) (n uid : ℕ) (sequence : List Rtx) → uid ≡ n + 1 → UpTo n (front ++ old.uid ∷ back) → IsDistinct ◌==◌ (front ++ old.uid ∷ back) → IsDistinct ◌==◌ (front ++ (uids_of (insns_for old uid sequence) ++ back))
  new_uids front n uid [] is low differ = remove old.uid front back differ
  new_uids front n uid (x ∷ []) is low differ = subst (λ (us : List ℕ). IsDistinct ◌==◌ (front ++ (us ++ back))) (sym (one_uid old old.uid x [])) differ
  new_uids front n uid (x ∷ y ∷ more) is low differ =
      let rest = uids_of (insns_for old (uid + 1) (y ∷ more)) in
      let far : Apart uid (front ++ old.uid ∷ back) = subst (λ (u : ℕ). Apart u (front ++ old.uid ∷ back)) (sym is) (above_all n (front ++ old.uid ∷ back) low) in
      let with_it : IsDistinct ◌==◌ (front ++ uid ∷ (old.uid ∷ back)) = insert uid front (old.uid ∷ back) far differ in
      let low_it : UpTo uid (front ++ uid ∷ (old.uid ∷ back)) = up_to_in uid uid front (old.uid ∷ back) (higher n uid (front ++ old.uid ∷ back) (omega (arith, is)) low) (omega arith) in
      let all : IsDistinct ◌==◌ ((front ++ uid ∷ []) ++ (rest ++ back)) =
      new_uids (front ++ uid ∷ []) uid (uid + 1) (y ∷ more) refl (subst (UpTo uid) (sym (append_assoc front (uid ∷ []) (old.uid ∷ back))) low_it) (subst (IsDistinct ◌==◌) (sym (append_assoc front (uid ∷ []) (old.uid ∷ back))) with_it) in
      subst (λ (us : List ℕ). IsDistinct ◌==◌ (front ++ (us ++ back))) (sym (one_uid old uid x (insns_for old (uid + 1) (y ∷ more)))) (subst (IsDistinct ◌==◌) (append_assoc front (uid ∷ []) (rest ++ back)) all)

-- ---- a replaced instruction

uids_parted : (f : Function) (place : ℕ) (i : Insn) → slice_get f.insns place ≡ Some i → is_kind i.kind ≡ true → uids_of f.insns ≡ uids_of (take place f.insns) ++ i.uid ∷ uids_of (drop (place + 1) f.insns)
uids_parted f place i at is =
    ap uids_of (parted f.insns place i at) ∙ (uids_append (take place f.insns) (i ∷ drop (place + 1) f.insns) ∙
    ap (λ (us : List ℕ). uids_of (take place f.insns) ++ us) (uids_first i (drop (place + 1) f.insns) (ruled_kind i.kind is)))

pub replaced_differ : (f : Function) (place : ℕ) (i : Insn) (sequence : List Rtx) → slice_get f.insns place ≡ Some i → is_kind i.kind ≡ true → UidsDiffer f → UidsDiffer (replaced f place (place + 1) (made f i sequence))
replaced_differ f place i sequence at is differ =
    let front = uids_of (take place f.insns) in
    let back = uids_of (drop (place + 1) f.insns) in
    let parts = uids_parted f place i at is in
    let new : IsDistinct ◌==◌ (front ++ (uids_of (made f i sequence) ++ back)) =
    new_uids i back front (greatest_uid f.insns) (greatest_uid f.insns + 1) sequence refl (subst (UpTo (greatest_uid f.insns)) parts (low_uids f.insns)) (subst (IsDistinct ◌==◌) parts differ) in
    let whole : uids_of (take place f.insns ++ (made f i sequence ++ drop (place + 1) f.insns)) ≡ front ++ (uids_of (made f i sequence) ++ back) =
    uids_append (take place f.insns) (made f i sequence ++ drop (place + 1) f.insns) ∙ ap (λ (us : List ℕ). front ++ us) (uids_append (made f i sequence) (drop (place + 1) f.insns)) in
    subst (IsDistinct ◌==◌) (sym whole) new
