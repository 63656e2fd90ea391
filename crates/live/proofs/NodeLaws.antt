-- Paths of the graph and paths of the chain.
use Rattle.std.proofs.Common.{◌≡◌, ℕ, zero, suc, ◌+◌, ◌*◌, ◌^◌, ◌<◌, true, eqb, List, [], ◌∷◌, ◌++◌, length, get_or, Some, inl, inr, refl, sym, ap, subst, ◌∙◌, arith, ◌⊎◌}
use Rattle.std.specs.Prelude.{slice_get, All}
use Rattle.std.proofs.lemmas.Bool.{or_cases, eqb-true, false≢true}
use Rattle.std.proofs.lemmas.List.{length_push}
use Rattle.std.proofs.lemmas.Option.{slice_get_cases, slice_get_within, same_Some, none-some}
use Rattle.rtx_tree.specs.declared.function.Insn.{Insn}
use Rattle.rtx_tree.specs.declared.function.Function.{Function}
use Rattle.live_rows.specs.declared.node.Node.{Node}
use Rattle.reg_rows.specs.Row.{lists}
use Rattle.live_rows.specs.Paths.{Fits, Reaches, Here, Along, IsLiveRows}
use Rattle.live_rows.specs.Paths as rows_room
use Rattle.live.specs.Live.{IsLive, AtEnd, AtUse, Passing, AreLiveRows, HaveRoom}
use Rattle.live.specs.machine.Nodes.{IsNodeOf, IsEndOf, AreNodes}

-- a node stands for an instruction or for the end
node_cases : (f : Function) (nodes : List Node) → AreNodes f nodes → (p : ℕ) (node : Node) → slice_get nodes p ≡ Some node → ((i : Insn) × (slice_get f.insns p ≡ Some i) × IsNodeOf f p i node) ⊎ ((length f.insns ≡ p) × IsEndOf f node)
node_cases f nodes are p node at =
    elim (slice_get_cases f.insns p).1 [
      | inl w ↦ inl (w.0, w.2, are.each p w.0 node w.2 at)
      | inr w ↦
          let within = slice_get_within nodes p node at in
          let end : length f.insns ≡ p = omega (arith, are.long, w.0) in
          inr (end, are.last node (ap (slice_get nodes) end ∙ at))
    ]

pub to_live : (f : Function) (nodes : List Node) → AreNodes f nodes → (reg p : ℕ) → Reaches nodes reg p → IsLive f reg p
to_live f nodes are reg p (Here _ node at u) =
    elim (node_cases f nodes are p node at) [
      | inl w ↦ AtUse p w.0 w.1 (sym (w.2.uses reg) ∙ u)
      | inr w ↦ subst (IsLive f reg) w.0 (AtEnd (sym (w.1.uses reg) ∙ u))
    ]
to_live f nodes are reg p (Along _ q node at free leads rest) =
    elim (node_cases f nodes are p node at) [
      | inl w ↦ Passing p q w.0 w.1 (sym (w.2.defines reg) ∙ free) (sym (w.2.leads q) ∙ leads) (to_live f nodes are reg q rest)
      | inr w ↦ absurd (false≢true (sym (w.1.leads q) ∙ leads))
    ]

-- each place has a node
node_at : (f : Function) (nodes : List Node) → AreNodes f nodes → (p : ℕ) → p < length f.insns + 1 → (node : Node) × (slice_get nodes p ≡ Some node)
node_at f nodes are p l =
    elim (slice_get_cases nodes p).1 [
      | inl w ↦ (w.0, w.2)
      | inr w ↦ absurd (omega (arith, are.long, w.0))
    ]

pub from_live : (f : Function) (nodes : List Node) → AreNodes f nodes → (reg p : ℕ) → IsLive f reg p → Reaches nodes reg p
from_live f nodes are reg p (AtEnd u) =
    let n = node_at f nodes are (length f.insns) (omega arith) in
    Here (length f.insns) n.0 n.1 ((are.last n.0 n.1).uses reg ∙ u)
from_live f nodes are reg p (AtUse _ i at u) =
    let within = slice_get_within f.insns p i at in
    let n = node_at f nodes are p (omega arith) in
    Here p n.0 n.1 ((are.each p i n.0 at n.1).uses reg ∙ u)
from_live f nodes are reg p (Passing _ q i at free leads rest) =
    let within = slice_get_within f.insns p i at in
    let n = node_at f nodes are p (omega arith) in
    let node = are.each p i n.0 at n.1 in
    Along p q n.0 n.1 (node.defines reg ∙ free) (node.leads q ∙ leads) (from_live f nodes are reg q rest)

-- ---- one node more

pub slice_get-push : {X : Type 0} (xs : List X) (y : X) (k : ℕ) (x : X) → slice_get (xs ++ y ∷ []) k ≡ Some x → ((k < length xs) × (slice_get xs k ≡ Some x)) ⊎ ((k ≡ length xs) × (y ≡ x))
slice_get-push [] y zero x e = inr (refl, same_Some y x e)
slice_get-push [] y (suc k) x e = absurd (none-some x e)
slice_get-push (z ∷ xs) y zero x e = inl (omega arith, e)
slice_get-push (z ∷ xs) y (suc k) x e =
    elim (slice_get-push xs y k x e) [
      | inl (l, w) ↦ inl (omega arith, w)
      | inr (l, w) ↦ inr (ap suc l, w)
    ]

abbrev pub AreSome : Function → List Node → Type 0
AreSome f nodes = (p : ℕ) (i : Insn) (node : Node) → slice_get f.insns p ≡ Some i → slice_get nodes p ≡ Some node → IsNodeOf f p i node

pub AreSome-push : (f : Function) (nodes : List Node) (k : ℕ) (insn : Insn) (new : Node) → AreSome f nodes → length nodes ≡ k → slice_get f.insns k ≡ Some insn → IsNodeOf f k insn new → AreSome f (nodes ++ new ∷ [])
AreSome-push f nodes k insn new each long here is p i node at there =
    elim (slice_get-push nodes new p node there) [
      | inl (l, w) ↦ each p i node at w
      | inr (e, s) ↦
          let place : p ≡ k = e ∙ long in
          let same : insn ≡ i = same_Some insn i (sym here ∙ (ap (slice_get f.insns) (sym place) ∙ at)) in
          subst (λ (n : Node). IsNodeOf f p i n) s (subst (λ (j : Insn). IsNodeOf f p j new) same (subst (λ (q : ℕ). IsNodeOf f q insn new) (sym place) is))
    ]

pub AreNodes-push : (f : Function) (nodes : List Node) (new : Node) → AreSome f nodes → length nodes ≡ length f.insns → IsEndOf f new → AreNodes f (nodes ++ new ∷ [])
AreNodes-push f nodes new each long is =
    record {
      long = omega (arith, length_push nodes new);
      each = λ p i node at there. elim (slice_get-push nodes new p node there) [
        | inl (l, w) ↦ each p i node at w
        | inr (e, s) ↦ let within = slice_get_within f.insns p i at in absurd (omega arith)
      ];
      last = λ node there. elim (slice_get-push nodes new (length f.insns) node there) [
        | inl (l, w) ↦ absurd (omega arith)
        | inr (e, s) ↦ subst (IsEndOf f) s is
      ];
    }

pub AreLiveRows-from : (f : Function) (nodes : List Node) (rows : List (List ℕ)) → AreNodes f nodes → rows_room.HaveRoom nodes rows → IsLiveRows nodes rows → AreLiveRows f rows
AreLiveRows-from f nodes rows are room exact =
    record {
      long = omega (arith, are.long, exact.long);
      narrow = λ k d l. (let e : length (get_or rows k d) ≡ room.width = room.table.widths k d l in omega (arith, e, room.table.small));
      sound = λ p reg h. to_live f nodes are reg p (exact.sound p reg h);
      complete = λ p reg live. exact.complete p reg (from_live f nodes are reg p live);
    }

-- ---- room for what is defined

listed_fits : (bound : ℕ) (regs : List ℕ) (reg : ℕ) → All (λ r. r < bound) regs → lists regs reg ≡ true → reg < bound
listed_fits bound [] reg all h = absurd (false≢true h)
listed_fits bound (r ∷ regs) reg all h =
    elim (or_cases (eqb r reg) (lists regs reg) h) [
      | inl e ↦ let b : r < bound = all 0 0 (omega arith) in let is = eqb-true r reg e in omega arith
      | inr m ↦ listed_fits bound regs reg (λ k d l. all (suc k) d (omega arith)) m
    ]

fits_at : (width : ℕ) (nodes : List Node) (p : ℕ) (node : Node) → All (Fits width) nodes → slice_get nodes p ≡ Some node → Fits width node
fits_at width [] p node all at = absurd (none-some node at)
fits_at width (n ∷ nodes) zero node all at = subst (Fits width) (same_Some n node at) (all 0 n (omega arith))
fits_at width (n ∷ nodes) (suc p) node all at = fits_at width nodes p node (λ k d l. all (suc k) d (omega arith)) at

pub HaveRoom-from : (f : Function) (nodes : List Node) (rows : List (List ℕ)) → AreNodes f nodes → rows_room.HaveRoom nodes rows → length f.insns < 2 ^ 32 → HaveRoom f rows
HaveRoom-from f nodes rows are room short =
    record {
      short = short;
      width = room.width;
      table = room.table;
      defined = λ p i reg at d.
          (let within = slice_get_within f.insns p i at in
          let n = node_at f nodes are p (omega arith) in
          listed_fits (64 * room.width) n.0.defines reg (fits_at room.width nodes p n.0 room.fits n.1).defines ((are.each p i n.0 at n.1).defines reg ∙ d));
    }
