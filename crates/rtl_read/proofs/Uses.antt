-- A chain of uses, one link at a time.
use Rattle.std.proofs.Common.{◌≡◌, ◌≤◌, ◌<◌, true, false, codes, List, [], ◌∷◌, ◌++◌, map, length, get_or, Result, Ok, Err, refl, sym, ap, subst, ◌∙◌, append_assoc, arith}
use Rattle.std.proofs.lemmas.List.{append-nil}
use Rattle.rtx_tree.specs.declared.function.ArgUse.{ArgUse}
use Rattle.lisp_read.specs.declared.tree.Tree.{Tree, out-Tree}
use Rattle.lisp_read.specs.declared.tree.Tree.TheOpen.{Tree-F}
use Rattle.lisp_read.specs.declared.tree.Tree.TheFolds.{fold-Tree, fold_out-Tree, map-Tree}
use Rattle.lisp_read.specs.declared.refusal.RtlRefusal.{RtlRefusal}
use Rattle.lisp_read.specs.declared.refusal.RtlRefusal.TheVariants as refusal
use Rattle.lisp_read.specs.Shape.{items_at, items_of}
use Rattle.lisp_read.specs.Parsed.{Parsed, stands, construct, outside, parsed_map, Refuses}
use Rattle.rtl_read.specs.Call.{uses_in, uses_by, use_of, is_whole_link, chain_step, readers_at, each_chain}
use Rattle.rtl_read.specs.Word.{is_alone}
use Rattle.rtl_read.specs.machine.Adding.{behind, Adds}

reading : Tree → Tree → Parsed (List ArgUse)
reading = fold-Tree (Tree → Parsed (List ArgUse)) chain_step

each_map : (ts : List Tree) → each_chain (map reading ts) ts ≡ map uses_in ts
unfolding uses_in reading
each_map [] = refl
each_map (t ∷ ts) = ap (λ (xs : List (Parsed (List ArgUse))). uses_in t ∷ xs) (each_map ts)

inside_map : (o : Tree-F Tree) → each_chain (readers_at (map-Tree Tree (Tree → Parsed (List ArgUse)) reading o)) (items_at o) ≡ map uses_in (items_at o)
inside_map (Tree-F.Atom place text) = refl
inside_map (Tree-F.Str place text) = refl
inside_map (Tree-F.Block place text) = refl
inside_map (Tree-F.List place items) = each_map items
inside_map (Tree-F.Vector place items) = refl

pub uses_out : (t : Tree) → uses_in t ≡ uses_by t (items_of t) (map uses_in (items_of t))
unfolding uses_in reading
uses_out t =
    ap (λ (read : Tree → Parsed (List ArgUse)). read t) (fold_out-Tree (Tree → Parsed (List ArgUse)) chain_step t)
    ∙ ap (uses_by t (items_of t)) (inside_map (out-Tree t))

pub uses_ends : (before : List ArgUse) (t : Tree) → is_whole_link (items_of t) ≡ false → is_alone (codes "nil") (items_of t) ≡ true → behind before (uses_in t) ≡ stands before
uses_ends before t e alone = ap (behind before) (uses_out t) ∙ rw e (rw alone (ap (λ (all : List ArgUse). stands all) (append-nil before)))

pub uses_outside : (t : Tree) → is_whole_link (items_of t) ≡ false → is_alone (codes "nil") (items_of t) ≡ false → uses_in t ≡ outside t
uses_outside t e alone = uses_out t ∙ rw e (rw alone refl)

-- a use in front of others
pub first_added : (before : List ArgUse) (first : ArgUse) (p : Parsed (List ArgUse)) → behind before (parsed_map (λ uses. first ∷ uses) p) ≡ behind (before ++ first ∷ []) p
first_added before first (stands uses) = ap (λ (all : List ArgUse). stands all) (sym (append_assoc before (first ∷ []) uses))
first_added before first (construct place name) = refl

refuses_first : (e : RtlRefusal) (first : ArgUse) (p : Parsed (List ArgUse)) → Refuses e p → Refuses e (parsed_map (λ uses. first ∷ uses) p)
refuses_first (refusal.Construct place name) first p is = rw is refl
refuses_first refusal.Memory first p is = tt

adds_first : (r : Result (Unit {0}) RtlRefusal) (before after : List ArgUse) (first : ArgUse) (p : Parsed (List ArgUse)) → Adds r (before ++ first ∷ []) after p → Adds r before after (parsed_map (λ uses. first ∷ uses) p)
adds_first (Ok done) before after first p added = first_added before first p ∙ added
adds_first (Err e) before after first p is = refuses_first e first p is

link_is : (t : Tree) (items : List Tree) (element more : Tree) (first : ArgUse) → items_of t ≡ items → 3 ≤ length items → length items < 4 → element ≡ get_or items 1 element → more ≡ get_or items 2 more →
    is_whole_link items ≡ true → use_of element ≡ stands first → uses_in t ≡ parsed_map (λ uses. first ∷ uses) (uses_in more)
link_is t [] element more first is least most second third whole used = absurd (omega arith)
link_is t (a ∷ []) element more first is least most second third whole used = absurd (omega arith)
link_is t (a ∷ b ∷ []) element more first is least most second third whole used = absurd (omega arith)
link_is t (a ∷ b ∷ c ∷ d ∷ items) element more first is least most second third whole used = absurd (omega arith)
link_is t (a ∷ b ∷ c ∷ []) element more first is least most second third whole used =
    uses_out t ∙ rw is (rw whole (rw (sym second) (rw (sym third) (rw used refl))))

-- the chain behind a use was read
pub adds_link : (r : Result (Unit {0}) RtlRefusal) (before between after : List ArgUse) (t : Tree) (items : List Tree) (element more : Tree) (first : ArgUse) →
    items ≡ items_of t → 3 ≤ length items → length items < 4 → element ≡ get_or items 1 element → more ≡ get_or items 2 more → is_whole_link (items_of t) ≡ true → use_of element ≡ stands first →
    between ≡ before ++ first ∷ [] → Adds r between after (uses_in more) → Adds r before after (uses_in t)
adds_link r before between after t items element more first is least most second third whole used pushed added =
    let whole_items : is_whole_link items ≡ true = ap is_whole_link is ∙ whole in
    let link : uses_in t ≡ parsed_map (λ uses. first ∷ uses) (uses_in more) = link_is t items element more first (sym is) least most second third whole_items used in
    let here : Adds r (before ++ first ∷ []) after (uses_in more) = subst (λ (front : List ArgUse). Adds r front after (uses_in more)) pushed added in
    subst (λ (p : Parsed (List ArgUse)). Adds r before after p) (sym link) (adds_first r before after first (uses_in more) here)
