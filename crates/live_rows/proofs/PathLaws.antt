-- Rows stay sound while they grow, and where each is closed they are complete.
use Rattle.std.proofs.Common.{◌≡◌, ℕ, true, false, ◌||◌, ◌&&◌, not, eqb, List, Option, Some, None, refl, sym, ap, subst, ◌∙◌, inl, inr}
use Rattle.std.specs.Prelude.{slice_get}
use Rattle.std.proofs.lemmas.Bool.{or_cases, or_left, or_right, and_parts, and_from, not-true, not_from_false, true≢false, false≢true, eq-eqb, eqb-true}
use Rattle.reg_rows.specs.Table.{has_at}
use Rattle.live_rows.specs.declared.node.Node.{Node}
use Rattle.live_rows.specs.Paths.{defines, is_place, leads_to, Reaches, Here, Along}
use Rattle.live_rows.specs.machine.Rows.{at_place, after, passes, uses_by, uses_at, HasUses, IsSound, IsClosedAt}

-- the rows of a table with what a node passes added to one of them
abbrev pub IsVisit : ℕ → Node → List (List ℕ) → List (List ℕ) → Type 0
IsVisit p node old new = (q reg : ℕ) → has_at new q reg ≡ (has_at old q reg || (eqb q p && passes node old reg))

leads_first : (node : Node) (q : ℕ) → node.first ≡ Some q → leads_to node q ≡ true
leads_first node q e = or_left (is_place node.first q) (is_place node.second q) (ap (λ t. is_place t q) e ∙ eq-eqb q q refl)

leads_second : (node : Node) (q : ℕ) → node.second ≡ Some q → leads_to node q ≡ true
leads_second node q e = or_right (is_place node.first q) (is_place node.second q) (ap (λ t. is_place t q) e ∙ eq-eqb q q refl)

place_sound : (nodes : List Node) (rows : List (List ℕ)) (p reg : ℕ) (node : Node) (t : Option ℕ) → ((q : ℕ) → t ≡ Some q → leads_to node q ≡ true) → slice_get nodes p ≡ Some node → defines node reg ≡ false → IsSound nodes rows → at_place t rows reg ≡ true → Reaches nodes reg p
place_sound nodes rows p reg node None leads at free sound h = absurd (true≢false (sym h))
place_sound nodes rows p reg node (Some q) leads at free sound h = Along p q node at free (leads q refl) (sound q reg h)

-- what a node passes from sound rows leads to a use
passes_sound : (nodes : List Node) (rows : List (List ℕ)) (p reg : ℕ) (node : Node) → slice_get nodes p ≡ Some node → IsSound nodes rows → passes node rows reg ≡ true → Reaches nodes reg p
passes_sound nodes rows p reg node at sound h =
    let both = and_parts (after node rows reg) (not (defines node reg)) h in
    let free : defines node reg ≡ false = not-true (defines node reg) both.1 in
    elim (or_cases (at_place node.first rows reg) (at_place node.second rows reg) both.0) [
      | inl a ↦ place_sound nodes rows p reg node node.first (leads_first node) at free sound a
      | inr b ↦ place_sound nodes rows p reg node node.second (leads_second node) at free sound b
    ]

pub IsSound-visit : (nodes : List Node) (old new : List (List ℕ)) (p : ℕ) (node : Node) → slice_get nodes p ≡ Some node → IsVisit p node old new → IsSound nodes old → IsSound nodes new
IsSound-visit nodes old new p node at visit sound q reg h =
    elim (or_cases (has_at old q reg) (eqb q p && passes node old reg) (sym (visit q reg) ∙ h)) [
      | inl o ↦ sound q reg o
      | inr v ↦
          let both = and_parts (eqb q p) (passes node old reg) v in
          subst (λ (k : ℕ). Reaches nodes reg k) (sym (eqb-true q p both.0)) (passes_sound nodes old p reg node at sound both.1)
    ]

pub visit_keeps : (old new : List (List ℕ)) (p : ℕ) (node : Node) → IsVisit p node old new → (q reg : ℕ) → has_at old q reg ≡ true → has_at new q reg ≡ true
visit_keeps old new p node visit q reg h = visit q reg ∙ or_left (has_at old q reg) (eqb q p && passes node old reg) h

pub HasUses-visit : (nodes : List Node) (old new : List (List ℕ)) (p : ℕ) (node : Node) → IsVisit p node old new → HasUses nodes old → HasUses nodes new
HasUses-visit nodes old new p node visit has q reg u = visit_keeps old new p node visit q reg (has q reg u)

at_of : (rows : List (List ℕ)) (q reg : ℕ) (t : Option ℕ) → is_place t q ≡ true → has_at rows q reg ≡ true → at_place t rows reg ≡ true
at_of rows q reg None a h = absurd (false≢true a)
at_of rows q reg (Some k) a h = subst (λ (j : ℕ). has_at rows j reg ≡ true) (sym (eqb-true k q a)) h

after_of : (rows : List (List ℕ)) (q reg : ℕ) (node : Node) → leads_to node q ≡ true → has_at rows q reg ≡ true → after node rows reg ≡ true
after_of rows q reg node leads h =
    elim (or_cases (is_place node.first q) (is_place node.second q) leads) [
      | inl a ↦ or_left (at_place node.first rows reg) (at_place node.second rows reg) (at_of rows q reg node.first a h)
      | inr b ↦ or_right (at_place node.first rows reg) (at_place node.second rows reg) (at_of rows q reg node.second b h)
    ]

-- closed rows have each register that a path leads to a use of
pub has_from_path : (nodes : List Node) (rows : List (List ℕ)) → HasUses nodes rows → ((p : ℕ) → IsClosedAt nodes rows p) → (reg p : ℕ) → Reaches nodes reg p → has_at rows p reg ≡ true
has_from_path nodes rows has closed reg p (Here _ node at u) = has p reg (ap (λ o. uses_by o reg) at ∙ u)
has_from_path nodes rows has closed reg p (Along _ q node at free leads rest) =
    let there = has_from_path nodes rows has closed reg q rest in
    closed p node reg at (and_from (after node rows reg) (not (defines node reg)) (after_of rows q reg node leads there) (not_from_false (defines node reg) free))

-- rows of uses are sound
used_sound : (nodes : List Node) (p reg : ℕ) (o : Option Node) → slice_get nodes p ≡ o → uses_by o reg ≡ true → Reaches nodes reg p
used_sound nodes p reg None at h = absurd (false≢true h)
used_sound nodes p reg (Some node) at h = Here p node at h

pub IsSound-uses : (nodes : List Node) (rows : List (List ℕ)) → ((p reg : ℕ) → has_at rows p reg ≡ uses_at nodes p reg) → IsSound nodes rows
IsSound-uses nodes rows each p reg h = used_sound nodes p reg (slice_get nodes p) refl (sym (each p reg) ∙ h)

pub HasUses-uses : (nodes : List Node) (rows : List (List ℕ)) → ((p reg : ℕ) → has_at rows p reg ≡ uses_at nodes p reg) → HasUses nodes rows
HasUses-uses nodes rows each p reg u = each p reg ∙ u
