-- Patterns and items, and one more behind them.
use Rattle.std.proofs.Common.{◌≡◌, ℕ, ◌+◌, ◌<◌, if◌then◌else◌, Bool, true, false, List, [], ◌∷◌, ◌++◌, length, take}
use Rattle.std.proofs.Common.{get_or, refl, sym, ap, ◌∙◌, append_assoc, arith}
use Rattle.std.proofs.lemmas.List.{append-nil, take_more, length-take-le}
use Rattle.rtx_tree.specs.declared.function.Insn.{Insn}
use Rattle.rtx_tree.specs.declared.tree.Rtx.{Rtx}
use Rattle.assign.specs.declared.places.Layout.{Layout}
use Rattle.law_frame.specs.Frame.{epilogue, plain_with, plain_insns, returns, leaving, left_uid, left_at_returns}
use Rattle.frame.specs.machine.Items.{item_by, uid_by, uids_by}

pub plain_push : (uid : ℕ) (xs : List Rtx) (x : Rtx) (next : ℕ) → next ≡ uid + length xs →
    plain_insns uid (xs ++ x ∷ []) ≡ plain_insns uid xs ++ plain_with next x ∷ []
plain_push uid [] x next is = let e : uid ≡ next = omega (arith, is) in ap (λ n. plain_with n x ∷ []) e
plain_push uid (y ∷ ys) x next is =
    ap (λ (more : List Insn). plain_with uid y ∷ more) (plain_push (uid + 1) ys x next (omega (arith, is)))

by_item : (layout : Layout) (uid : ℕ) (b : Bool) (i : Insn) → returns i ≡ b →
    left_at_returns layout uid (i ∷ []) ≡ item_by (epilogue layout) uid i
by_item layout uid true i is =
    ap (λ b. if b then leaving layout uid ++ [] else i ∷ []) is ∙ append-nil (leaving layout uid) ∙
    sym (ap (λ b. if b then leaving layout uid else i ∷ []) is)
by_item layout uid false i is =
    ap (λ b. if b then leaving layout uid ++ [] else i ∷ []) is ∙ sym (ap (λ b. if b then leaving layout uid else i ∷ []) is)

by_first : (layout : Layout) (uid : ℕ) (b : Bool) (j : Insn) (xs : List Insn) (i : Insn) → returns j ≡ b →
    ((uid : ℕ) → left_at_returns layout uid (xs ++ i ∷ []) ≡ left_at_returns layout uid xs ++ item_by (epilogue layout)
    (uids_by (epilogue layout) uid xs) i) →
    left_at_returns layout uid (j ∷ xs ++ i ∷ []) ≡
    left_at_returns layout uid (j ∷ xs) ++ item_by (epilogue layout) (uids_by (epilogue layout) uid (j ∷ xs)) i
by_first layout uid true j xs i is later =
    let left = left_uid layout uid in
    ap (λ b. if b then leaving layout uid ++ left_at_returns layout left (xs ++ i ∷ []) else j ∷ left_at_returns layout uid
    (xs ++ i ∷ [])) is ∙
    ap (λ rest. leaving layout uid ++ rest) (later left) ∙
    sym (append_assoc (leaving layout uid) (left_at_returns layout left xs)
    (item_by (epilogue layout) (uids_by (epilogue layout) left xs) i)) ∙
    sym (ap (λ b. (if b then leaving layout uid ++ left_at_returns layout left xs else j ∷ left_at_returns layout uid xs) ++
    item_by (epilogue layout) (uids_by (epilogue layout) (if b then left else uid) xs) i) is)
by_first layout uid false j xs i is later =
    let left = left_uid layout uid in
    ap (λ b. if b then leaving layout uid ++ left_at_returns layout left (xs ++ i ∷ []) else j ∷ left_at_returns layout uid
    (xs ++ i ∷ [])) is ∙
    ap (λ (rest : List Insn). j ∷ rest) (later uid) ∙
    sym (ap (λ b. (if b then leaving layout uid ++ left_at_returns layout left xs else j ∷ left_at_returns layout uid xs) ++
    item_by (epilogue layout) (uids_by (epilogue layout) (if b then left else uid) xs) i) is)

pub left_push : (layout : Layout) (uid : ℕ) (xs : List Insn) (i : Insn) →
    left_at_returns layout uid (xs ++ i ∷ []) ≡ left_at_returns layout uid xs ++ item_by (epilogue layout)
    (uids_by (epilogue layout) uid xs) i
left_push layout uid [] i = by_item layout uid (returns i) i refl
left_push layout uid (j ∷ xs) i = by_first layout uid (returns j) j xs i refl (λ uid. left_push layout uid xs i)

pub uids_push : (left : List Rtx) (uid : ℕ) (xs : List Insn) (i : Insn) →
    uids_by left uid (xs ++ i ∷ []) ≡ uid_by left (uids_by left uid xs) i
uids_push left uid [] i = refl
uids_push left uid (j ∷ xs) i = uids_push left (uid_by left uid j) xs i

-- ---- as far as a loop has come

pub put_more : (uid : ℕ) (xs : List Rtx) (i : ℕ) (x : Rtx) (old now new : List Insn) (next : ℕ) → i < length xs → x ≡ get_or xs i x →
    now ≡ old ++ plain_insns uid (take i xs) → next ≡ uid + i → new ≡ now ++ plain_with next x ∷ [] →
    new ≡ old ++ plain_insns uid (take (i + 1) xs)
put_more uid xs i x old now new next within is so_far number put =
    let more : take (i + 1) xs ≡ take i xs ++ x ∷ [] = take_more xs i x within ∙ ap (λ y. take i xs ++ y ∷ []) (sym is) in
    let long : length (take i xs) ≡ i = length-take-le i xs (omega (arith, within)) in
    put ∙ ap (λ front. front ++ plain_with next x ∷ []) so_far ∙ append_assoc old (plain_insns uid (take i xs)) (plain_with next x ∷ []) ∙
    ap (λ back. old ++ back) (sym (plain_push uid (take i xs) x next (omega (arith, number, long))) ∙ ap (plain_insns uid) (sym more))

pub left_more : (layout : Layout) (uid next : ℕ) (xs : List Insn) (i : Insn) (old now new : List Insn) →
    now ≡ old ++ left_at_returns layout uid xs → next ≡ uids_by (epilogue layout) uid xs → new ≡ now ++ item_by (epilogue layout) next i →
    new ≡ old ++ left_at_returns layout uid (xs ++ i ∷ [])
left_more layout uid next xs i old now new so_far number put =
    put ∙ ap (λ front. front ++ item_by (epilogue layout) next i) so_far ∙
    append_assoc old (left_at_returns layout uid xs) (item_by (epilogue layout) next i) ∙
    ap (λ n. old ++ (left_at_returns layout uid xs ++ item_by (epilogue layout) n i)) number ∙
    ap (λ back. old ++ back) (sym (left_push layout uid xs i))

pub uid_more : (layout : Layout) (uid next next' : ℕ) (xs : List Insn) (i : Insn) → next ≡ uids_by (epilogue layout) uid xs →
    next' ≡ uid_by (epilogue layout) next i → next' ≡ uids_by (epilogue layout) uid (xs ++ i ∷ [])
uid_more layout uid next next' xs i number is =
    is ∙ ap (λ n. uid_by (epilogue layout) n i) number ∙ sym (uids_push (epilogue layout) uid xs i)
