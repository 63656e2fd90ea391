-- Maps of registers by their look-ups.
use Rattle.std.proofs.Common.{◌≡◌, ◌+◌, ℕ, ltb, eqb, ◌&&◌, not, Bool, true, false, cond, List, [], ◌∷◌, sym, ap, ◌∙◌, refl, arith, Some, None}
use Rattle.std.specs.Ordering.{nat_cmp, is_eq, eq_by_cmp}
use Rattle.std.specs.Cmp.{nat_cmp_total, eq_by_cmp_equiv}
use Rattle.std.specs.FinMap.{get, insert, remove, retain_keys, find, from_entries, same_map, nat_cmp-IsAntisymmetric, get-insert, get-remove, get-retain_keys, get-from_entries}
use Rattle.std.specs.BTreeMap.{BTreeMap, is_at}
use Rattle.std.specs.BTreeMap as tree
use Rattle.std.specs.Map.{lookup}
use Rattle.std.proofs.lemmas.Bool.Decides.{nat_tests}
use Rattle.rtx_tree.specs.Registers.{is_call_used}
use Rattle.rtl_step.specs.declared.regs.Known.{Known}
use Rattle.rtl_step.specs.Regs.{Regs, preserved}

lookup_find : (q : ℕ) (entries : List (ℕ × Known)) → lookup (is_at (nat_cmp q)) entries ≡ find nat_cmp q entries
lookup_find q [] = refl
lookup_find q (e ∷ entries) = ap (cond (is_eq (nat_cmp q e.0)) (Some e.1)) (lookup_find q entries)

-- two maps that answer alike are equal
pub same_regs : (m n : Regs) → ((q : ℕ) → get m q ≡ get n q) → m ≡ n
same_regs m n same = same_map nat_cmp_total nat_cmp-IsAntisymmetric m n same

pub map_get : (m : BTreeMap ℕ Known) (q : ℕ) → get (from_entries {R = nat_cmp} m.entries) q ≡ tree.get nat_cmp m q
map_get m q = get-from_entries nat_cmp_total m.entries q ∙ sym (lookup_find q m.entries)

turned : (k q : ℕ) → is_eq (nat_cmp k q) ≡ eq_by_cmp nat_cmp q k
turned k q = (eq_by_cmp_equiv nat_cmp_total).symm k q

-- what a look-up gives after an insertion
pub map_insert : (m n : BTreeMap ℕ Known) (k : ℕ) (v : Known) → ((q : ℕ) → tree.get nat_cmp n q ≡ cond (is_at (nat_cmp k) q) (Some v) (tree.get nat_cmp m q)) → from_entries {R = nat_cmp} n.entries ≡ insert (from_entries {R = nat_cmp} m.entries) k v
map_insert m n k v updates = same_regs _ _ (λ q.
    map_get n q
    ∙ (updates q
    ∙ (ap (λ b. cond b (Some v) (tree.get nat_cmp m q)) (turned k q)
    ∙ (ap (cond (eq_by_cmp nat_cmp q k) (Some v)) (sym (map_get m q))
    ∙ sym (get-insert nat_cmp_total (from_entries {R = nat_cmp} m.entries) k v q)))))

pub map_remove : (m n : BTreeMap ℕ Known) (k : ℕ) → ((q : ℕ) → tree.get nat_cmp n q ≡ cond (is_at (nat_cmp k) q) None (tree.get nat_cmp m q)) → from_entries {R = nat_cmp} n.entries ≡ remove (from_entries {R = nat_cmp} m.entries) k
map_remove m n k updates = same_regs _ _ (λ q.
    map_get n q
    ∙ (updates q
    ∙ (ap (λ b. cond b None (tree.get nat_cmp m q)) (turned k q)
    ∙ (ap (cond (eq_by_cmp nat_cmp q k) None) (sym (map_get m q))
    ∙ sym (get-remove nat_cmp_total (from_entries {R = nat_cmp} m.entries) k q)))))

-- which registers stay
pub get_kept : (regs : Regs) (p : ℕ → Bool) (q : ℕ) → get (retain_keys regs p) q ≡ cond (p q) (get regs q) None
get_kept regs p q = get-retain_keys regs p q (λ x same. ap p (sym (nat_cmp-IsAntisymmetric q x same)))

-- the registers below a number are done
abbrev pub stays : ℕ → ℕ → Bool
stays done reg = not (is_call_used reg && ltb reg done)

eqb_cmp : (q k : ℕ) → eq_by_cmp nat_cmp q k ≡ eqb q k
eqb_cmp q k = grind (arith, nat_tests)

get_removed : (regs : Regs) (k q : ℕ) → get (remove regs k) q ≡ cond (eqb q k) None (get regs q)
get_removed regs k q = get-remove nat_cmp_total regs k q ∙ ap (λ b. cond b None (get regs q)) (eqb_cmp q k)

-- no register is below 0
pub kept_none : (regs : Regs) → regs ≡ retain_keys regs (stays 0)
kept_none regs = same_regs _ _ (λ q. let e = get_kept regs (stays 0) q in grind (arith, nat_tests, e))

-- one register more is done
pub kept_used : (regs now after : Regs) (done : ℕ) → is_call_used done ≡ true → after ≡ remove now done → now ≡ retain_keys regs (stays done) → after ≡ retain_keys regs (stays (done + 1))
kept_used regs now after done used is so_far = same_regs _ _ (λ q.
    let removed = get_removed now done q in
    let before = ap (λ m. get m q) so_far ∙ get_kept regs (stays done) q in
    let goal = get_kept regs (stays (done + 1)) q in
    let new = ap (λ m. get m q) is in
    grind (arith, nat_tests, removed, before, goal, new))

pub kept_other : (regs now : Regs) (done : ℕ) → is_call_used done ≡ false → now ≡ retain_keys regs (stays done) → now ≡ retain_keys regs (stays (done + 1))
kept_other regs now done other so_far = same_regs _ _ (λ q.
    let before = ap (λ m. get m q) so_far ∙ get_kept regs (stays done) q in
    let goal = get_kept regs (stays (done + 1)) q in
    grind (arith, nat_tests, before, goal))

-- all are done
pub kept_all : (regs now : Regs) → now ≡ retain_keys regs (stays 32) → now ≡ preserved regs
kept_all regs now so_far = same_regs _ _ (λ q.
    let before = ap (λ m. get m q) so_far ∙ get_kept regs (stays 32) q in
    let goal = get_kept regs (λ reg. not (is_call_used reg)) q in
    grind (arith, nat_tests, before, goal))
