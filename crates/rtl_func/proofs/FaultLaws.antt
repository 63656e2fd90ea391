-- The first of several faults.
use Rattle.std.proofs.Common.{◌≡◌, ℕ, Bool, true, false, ◌&&◌, not, cond, filter, map, List, [], ◌∷◌, ◌++◌, Option, Some, None, inl, inr, refl, sym, ap, ◌∙◌, arith}
use Rattle.std.proofs.lemmas.Bool.{cases_Bool}
use Rattle.std.proofs.lemmas.Bool.Decides.{nat_tests}
use Rattle.rtx_tree.specs.declared.function.Function.{Function}
use Rattle.rtx_tree.specs.declared.function.Insn.{Insn}
use Rattle.rtl_func.specs.declared.fault.Fault.{Fault}
use Rattle.rtl_func.specs.declared.rules.InsnRule.{InsnRule}
use Rattle.rtl_func.specs.Faults.{fault, is_first, first_of, earlier, first_fault}
use Rattle.rtl_func.specs.Paths.{has_place}
use Rattle.rtl_func.specs.Rules.{rule_number, breaks, rule_faults_in, uid_fault}
use Rattle.rtl_func.specs.Uids.{is_ruled, is_uid, uids_of, bad_uids}

is_first_trans : (a b c : Fault) → is_first a b ≡ true → is_first b c ≡ true → is_first a c ≡ true
is_first_trans a b c p q = grind (arith, nat_tests)

not_first_trans : (a b c : Fault) → is_first a b ≡ false → is_first b c ≡ false → is_first a c ≡ false
not_first_trans a b c p q = grind (arith, nat_tests)

first_yes : (a b : Fault) → is_first a b ≡ true → first_of a b ≡ a
first_yes a b is = ap (λ t. cond t a b) is

first_no : (a b : Fault) → is_first a b ≡ false → first_of a b ≡ b
first_no a b is = ap (λ t. cond t a b) is

first_assoc : (a b c : Fault) → first_of (first_of a b) c ≡ first_of a (first_of b c)
first_assoc a b c = elim (cases_Bool (is_first a b)) [
  | inl ab ↦ elim (cases_Bool (is_first b c)) [
    | inl bc ↦ ap (λ x. first_of x c) (first_yes a b ab) ∙ (first_yes a c (is_first_trans a b c ab bc) ∙ sym (ap (first_of a) (first_yes b c bc) ∙ first_yes a b ab))
    | inr cb ↦ ap (λ x. first_of x c) (first_yes a b ab) ∙ sym (ap (first_of a) (first_no b c cb))
  ]
  | inr ba ↦ elim (cases_Bool (is_first b c)) [
    | inl bc ↦ ap (λ x. first_of x c) (first_no a b ba) ∙ (first_yes b c bc ∙ sym (ap (first_of a) (first_yes b c bc) ∙ first_no a b ba))
    | inr cb ↦ ap (λ x. first_of x c) (first_no a b ba) ∙ (first_no b c cb ∙ sym (ap (first_of a) (first_no b c cb) ∙ first_no a c (not_first_trans a b c ba cb)))
  ]
]

pub earlier_assoc : (a b c : Option Fault) → earlier (earlier a b) c ≡ earlier a (earlier b c)
earlier_assoc None b c = refl
earlier_assoc (Some a) None c = refl
earlier_assoc (Some a) (Some b) None = refl
earlier_assoc (Some a) (Some b) (Some c) = ap (λ x. Some x) (first_assoc a b c)

pub earlier_none : (a : Option Fault) → earlier a None ≡ a
earlier_none None = refl
earlier_none (Some a) = refl

pub first_append : (xs ys : List Fault) → first_fault (xs ++ ys) ≡ earlier (first_fault xs) (first_fault ys)
first_append [] ys = refl
first_append (a ∷ xs) ys = ap (earlier (Some a)) (first_append xs ys) ∙ sym (earlier_assoc (Some a) (first_fault xs) (first_fault ys))

-- a fault that is noted, and those behind it
pub noted : (before after : Option Fault) (a : Fault) (rest : List Fault) → after ≡ earlier before (Some a) → earlier after (first_fault rest) ≡ earlier before (first_fault (a ∷ rest))
noted before after a rest is = ap (λ o. earlier o (first_fault rest)) is ∙ earlier_assoc before (Some a) (first_fault rest)

-- faults that are noted, and those behind them
pub all_noted : (before after : Option Fault) (faults rest : List Fault) → after ≡ earlier before (first_fault faults) → earlier after (first_fault rest) ≡ earlier before (first_fault (faults ++ rest))
all_noted before after faults rest is =
    ap (λ o. earlier o (first_fault rest)) is
    ∙ (earlier_assoc before (first_fault faults) (first_fault rest) ∙ ap (earlier before) (sym (first_append faults rest)))

-- ---- the faults of a chain that begins with an instruction

pub rule_broken : (rule : InsnRule) (f : Function) (i : Insn) (rest : List Insn) → breaks rule f i ≡ true → rule_faults_in rule f (i ∷ rest) ≡ fault (rule_number rule) i.uid ∷ rule_faults_in rule f rest
rule_broken rule f i rest is = ap (λ b. map (λ (i : Insn). fault (rule_number rule) i.uid) (cond b (i ∷ filter (breaks rule f) rest) (filter (breaks rule f) rest))) is

pub rule_kept : (rule : InsnRule) (f : Function) (i : Insn) (rest : List Insn) → breaks rule f i ≡ false → rule_faults_in rule f (i ∷ rest) ≡ rule_faults_in rule f rest
rule_kept rule f i rest is = ap (λ b. map (λ (i : Insn). fault (rule_number rule) i.uid) (cond b (i ∷ filter (breaks rule f) rest) (filter (breaks rule f) rest))) is

-- the faults of uids behind others
abbrev pub uid_faults_in : List ℕ → List Insn → List Fault
uid_faults_in before insns = map (fault 1) (bad_uids before (uids_of insns))

uid_choice : (good : Bool) (uid : ℕ) (uids : List ℕ) → map (fault 1) (cond good uids (uid ∷ uids)) ≡ uid_fault good uid ++ map (fault 1) uids
uid_choice true uid uids = refl
uid_choice false uid uids = refl

pub uid_ruled : (before : List ℕ) (i : Insn) (rest : List Insn) → is_ruled i ≡ true → uid_faults_in before (i ∷ rest) ≡ uid_fault (is_uid i.uid && not (has_place before i.uid)) i.uid ++ uid_faults_in (i.uid ∷ before) rest
uid_ruled before i rest is =
    ap (λ b. map (fault 1) (bad_uids before (map (λ (i : Insn). i.uid) (cond b (i ∷ filter is_ruled rest) (filter is_ruled rest))))) is
    ∙ uid_choice (is_uid i.uid && not (has_place before i.uid)) i.uid (bad_uids (i.uid ∷ before) (uids_of rest))

pub uid_other : (before : List ℕ) (i : Insn) (rest : List Insn) → is_ruled i ≡ false → uid_faults_in before (i ∷ rest) ≡ uid_faults_in before rest
uid_other before i rest is = ap (λ b. map (fault 1) (bad_uids before (map (λ (i : Insn). i.uid) (cond b (i ∷ filter is_ruled rest) (filter is_ruled rest))))) is

-- three lists of faults that are noted one after the other
pub noted_three : (a b c : Option Fault) (xs ys zs : List Fault) → a ≡ earlier None (first_fault xs) → b ≡ earlier a (first_fault ys) → c ≡ earlier b (first_fault zs) → c ≡ first_fault (xs ++ (ys ++ zs))
noted_three a b c xs ys zs p q r =
    r
    ∙ (ap (λ o. earlier o (first_fault zs)) (q ∙ ap (λ o. earlier o (first_fault ys)) p)
    ∙ (earlier_assoc (first_fault xs) (first_fault ys) (first_fault zs)
    ∙ sym (first_append xs (ys ++ zs) ∙ ap (earlier (first_fault xs)) (first_append ys zs))))
