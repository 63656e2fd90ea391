-- Registers of the machine in a tree, by its head and its parts.
use Rattle.std.proofs.Common.{◌≡◌, ℕ, ◌≤◌, ◌||◌, Bool, true, false, List, [], ◌∷◌, ◌++◌, map, refl, sym, ap, subst, ◌∙◌, arith}
use Rattle.std.proofs.lemmas.Bool.{true≢false, or_from}
use Rattle.std.proofs.lemmas.Bool.Decides.{nat_tests}
use Rattle.std.specs.List.{AllByRecursion, list_any}
use Rattle.std.specs.Prelude.{ℤ, pos, nat_lt}
use Rattle.rtx_tree.specs.Patterns.{set_rtx}
use Rattle.rtx_tree.specs.Tree.{RtxHead, head_of, kids_of, tree_of, node_of, named_of, reg_of, const_of}
use Rattle.rtx_tree.specs.declared.code.Code.{Code}
use Rattle.rtx_tree.specs.declared.code.Code.TheVariants as code
use Rattle.rtx_tree.specs.declared.code.Mode.{Mode}
use Rattle.rtx_tree.specs.declared.code.Mode.TheVariants.{Void}
use Rattle.rtx_tree.specs.declared.tree.Rtx.{Rtx, roll-Rtx, out-roll-Rtx}
use Rattle.rtx_tree.specs.declared.tree.Rtx.TheFolds.{ind-Rtx}
use Rattle.rtx_tree.specs.declared.tree.Rtx.TheOpen.{Rtx-F}
use Rattle.rtx_tree.proofs.Trees.{head_of-tree, kids_of-tree}
use Rattle.form_needs.specs.Needs.{is_homeless, names_homeless}
use Rattle.form_needs.proofs.Homeless.{homeless_out}
use Rattle.law_emitted_hard.specs.Hard.{IsHard, AreHard}

-- ---- induction

all_of : (P : Rtx → Type 0) (kids : List ((x : Rtx) × P x)) → AllByRecursion P (map (λ (k : (x : Rtx) × P x). k.0) kids)
all_of P [] = tt
all_of P (k ∷ kids) = (k.1, all_of P kids)

-- what holds of each tree whose parts it holds of
pub induction : (P : Rtx → Type 0) → ((x : Rtx) → AllByRecursion P (kids_of x) → P x) → (x : Rtx) → P x
induction P step = ind-Rtx P (λ x y is.
    step (roll-Rtx x) (subst (λ (o : Rtx-F Rtx). AllByRecursion P o.kids) (sym (out-roll-Rtx x))
    (subst (λ (z : Rtx-F Rtx). AllByRecursion P z.kids) is (all_of P y.kids))))

-- ---- heads and parts

neither : (a b : Bool) → (a || b) ≡ false → (a ≡ false) × (b ≡ false)
neither true b is = absurd (true≢false is)
neither false b is = (refl, is)

none_any : (xs : List Rtx) → AreHard xs → list_any names_homeless xs ≡ false
none_any [] all = refl
none_any (x ∷ xs) all = or_from (names_homeless x) (list_any names_homeless xs) all.0 (none_any xs all.1)

pub hard_tree : (h : RtxHead) (kids : List Rtx) → is_homeless h.code h.number ≡ false → AreHard kids → IsHard (tree_of h kids)
hard_tree h kids here all =
    let y = tree_of h kids in
    homeless_out y ∙
    ap (λ (j : RtxHead). is_homeless j.code j.number || list_any names_homeless (kids_of y)) (head_of-tree h kids) ∙
    ap (λ ks. is_homeless h.code h.number || list_any names_homeless ks) (kids_of-tree h kids) ∙
    or_from (is_homeless h.code h.number) _ here (none_any kids all)

both_parts : (x : Rtx) → IsHard x → (is_homeless (head_of x).code (head_of x).number ≡ false) × (list_any names_homeless (kids_of x) ≡ false)
both_parts x is = neither (is_homeless (head_of x).code (head_of x).number) (list_any names_homeless (kids_of x)) (sym (homeless_out x) ∙ is)

pub hard_here : (x : Rtx) → IsHard x → is_homeless (head_of x).code (head_of x).number ≡ false
hard_here x is = (both_parts x is).0

each_hard : (xs : List Rtx) → list_any names_homeless xs ≡ false → AreHard xs
each_hard [] none = tt
each_hard (x ∷ xs) none =
    let both = neither (names_homeless x) (list_any names_homeless xs) none in (both.0, each_hard xs both.1)

pub hard_kids : (x : Rtx) → IsHard x → AreHard (kids_of x)
hard_kids x is = each_hard (kids_of x) (both_parts x is).1

-- the converse
pub hard_whole : (x : Rtx) → is_homeless (head_of x).code (head_of x).number ≡ false → AreHard (kids_of x) → IsHard x
hard_whole x here all = homeless_out x ∙ or_from (is_homeless (head_of x).code (head_of x).number) (list_any names_homeless (kids_of x)) here (none_any (kids_of x) all)

pub all_hard : (xs ys : List Rtx) → AreHard xs → AreHard ys → AreHard (xs ++ ys)
all_hard [] ys all more = more
all_hard (x ∷ xs) ys all more = (all.0, all_hard xs ys all.1 more)

-- ---- small trees

pub reg_hard : (mode : Mode) (r : ℕ) → r ≤ 31 → IsHard (reg_of mode r)
reg_hard mode r few =
    let test : nat_lt 31 r ≡ false = grind (arith, nat_tests, few) in
    hard_tree (record { code = code.Reg; mode = mode; number = pos r; name = [] }) [] test tt

pub const_hard : (n : ℤ) → IsHard (const_of n)
const_hard n = hard_tree (record { code = code.ConstInt; mode = Void; number = n; name = [] }) [] refl tt

-- register 0 is one of the machine
zero_hard : (c : Code) → is_homeless c (pos 0) ≡ false
zero_hard code.Reg = refl
zero_hard _ = refl

pub node_hard : (c : Code) (mode : Mode) (kids : List Rtx) → AreHard kids → IsHard (node_of c mode kids)
node_hard c mode kids all = hard_tree (record { code = c; mode = mode; number = pos 0; name = [] }) kids (zero_hard c) all

pub named_hard : (c : Code) (mode : Mode) (name : List ℕ) → IsHard (named_of c mode name)
named_hard c mode name = hard_tree (record { code = c; mode = mode; number = pos 0; name = name }) [] (zero_hard c) tt

pub pair_hard : (c : Code) (mode : Mode) (a b : Rtx) → IsHard a → IsHard b → IsHard (node_of c mode (a ∷ b ∷ []))
pair_hard c mode a b is more = node_hard c mode (a ∷ b ∷ []) (is, (more, tt))

pub set_hard : (a b : Rtx) → IsHard a → IsHard b → IsHard (set_rtx a b)
set_hard a b is more = pair_hard code.Set Void a b is more
