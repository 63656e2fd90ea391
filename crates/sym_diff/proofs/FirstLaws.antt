-- The item that a comparison finds is the first in which the states do not agree; and where it finds none, they agree.
use Rattle.std.proofs.Common.{◌≡◌, ◌≢◌, ℕ, ◌+◌, Bool, true, false, cond, List, [], ◌∷◌, take, slice_get, Option, Some, None, refl, sym, ◌∙◌, subst, arith}
use Rattle.term_tree.specs.Tree.{Tree}
use Rattle.sym_state.specs.State.{State, NeedAt}
use Rattle.sym_diff.specs.Difference.{Difference, Lacks, or_else}
use Rattle.sym_diff.specs.Registers.{compared_registers}
use Rattle.sym_diff.specs.Compared.{compared_stores, compared_jump, compared_calls, compared_needs, need_term, is_covered}
use Rattle.sym_diff.specs.States.{difference}
use Rattle.sym_diff.specs.Agree.{RegistersAgree, JumpsAgree, CallsAgree, Agree, FirstFails, Tells}
use Rattle.sym_diff.proofs.AgreeLaws.{or_none, needs_none, none_needs}
use Rattle.sym_diff.proofs.Items.{contrary}
use Rattle.sym_diff.proofs.RegistersFirst.{registers_none, registers_first}
use Rattle.sym_diff.proofs.StoresFirst.{stores_none, stores_first}
use Rattle.sym_diff.proofs.CallLaws.{jump_item, jump_none, none_jump, calls_item, calls_none, none_calls}

-- ---- needs

record Lacking (d : Difference) : Type 0 where
  term : Tree
  is : d ≡ Lacks term

needs_lack : (had needs : List NeedAt) (d : Difference) → compared_needs had needs ≡ Some d → Lacking d
needs_lack had [] d h = cc
needs_lack had (n ∷ needs) d h = go (is_covered had n.what) h (needs_lack had needs d)
  where
    go : (c : Bool) → cond c (compared_needs had needs) (Some (Lacks (need_term n.what))) ≡ Some d → (compared_needs had needs ≡ Some d → Lacking d) → Lacking d
    go true h ih = ih h
    go false h ih = record { term = need_term n.what; is = (cc) }

-- ---- states

pub nothing_found : (of_lines : Bool) (live : List ℕ) (a b : State) → difference of_lines live a b ≡ None → Agree of_lines live a b
nothing_found of_lines live a b h =
    let one = or_none (compared_registers live a b) _ h in
    let two = or_none (compared_stores 0 a.stores b.stores) _ one.1 in
    let three = or_none (compared_jump a.jump b.jump) _ two.1 in
    let four = or_none (compared_calls of_lines a.call b.call) (compared_needs a.needs b.needs) three.1 in
    record {
      registers = registers_none live a b one.0;
      stores = stores_none 0 a.stores b.stores two.0;
      jumps = jump_none a.jump b.jump three.0;
      calls = calls_none of_lines a.call b.call four.0;
      needs = needs_none a.needs b.needs four.1;
    }

needs_first : (of_lines : Bool) (live : List ℕ) (a b : State) (d : Difference) → RegistersAgree live a b → a.stores ≡ b.stores → JumpsAgree a.jump b.jump → CallsAgree of_lines a.call b.call →
    compared_needs a.needs b.needs ≡ Some d → FirstFails of_lines live a b d
needs_first of_lines live a b d r s j c h =
    let l = needs_lack a.needs b.needs d h in
    subst (λ d. FirstFails of_lines live a b d) (sym l.is) (r, s, j, c, λ agree. contrary (compared_needs a.needs b.needs) d h (none_needs a.needs b.needs agree))

calls_first : (of_lines : Bool) (live : List ℕ) (a b : State) (d : Difference) → RegistersAgree live a b → a.stores ≡ b.stores → JumpsAgree a.jump b.jump →
    or_else (compared_calls of_lines a.call b.call) (compared_needs a.needs b.needs) ≡ Some d → FirstFails of_lines live a b d
calls_first of_lines live a b d r s j h = go (compared_calls of_lines a.call b.call) refl h
  where
    go : (x : Option Difference) → compared_calls of_lines a.call b.call ≡ x → or_else x (compared_needs a.needs b.needs) ≡ Some d → FirstFails of_lines live a b d
    go (Some e) is h =
        let i = calls_item of_lines a.call b.call d (is ∙ h) in
        subst (λ d. FirstFails of_lines live a b d) (sym i.is) (r, s, j, λ agree. contrary (compared_calls of_lines a.call b.call) d (is ∙ h) (none_calls of_lines a.call b.call agree))
    go None is h = needs_first of_lines live a b d r s j (calls_none of_lines a.call b.call is) h

jump_first : (of_lines : Bool) (live : List ℕ) (a b : State) (d : Difference) → RegistersAgree live a b → a.stores ≡ b.stores →
    or_else (compared_jump a.jump b.jump) (or_else (compared_calls of_lines a.call b.call) (compared_needs a.needs b.needs)) ≡ Some d → FirstFails of_lines live a b d
jump_first of_lines live a b d r s h = go (compared_jump a.jump b.jump) refl h
  where
    go : (x : Option Difference) → compared_jump a.jump b.jump ≡ x → or_else x (or_else (compared_calls of_lines a.call b.call) (compared_needs a.needs b.needs)) ≡ Some d → FirstFails of_lines live a b d
    go (Some e) is h =
        let i = jump_item a.jump b.jump d (is ∙ h) in
        subst (λ d. FirstFails of_lines live a b d) (sym i.is) (r, s, λ agree. contrary (compared_jump a.jump b.jump) d (is ∙ h) (none_jump a.jump b.jump agree))
    go None is h = calls_first of_lines live a b d r s (jump_none a.jump b.jump is) h

abbrev behind_stores : Bool → State → State → Option Difference
behind_stores of_lines a b = or_else (compared_jump a.jump b.jump) (or_else (compared_calls of_lines a.call b.call) (compared_needs a.needs b.needs))

stores_fail : (of_lines : Bool) (live : List ℕ) (a b : State) (d : Difference) → RegistersAgree live a b → compared_stores 0 a.stores b.stores ≡ Some d → FirstFails of_lines live a b d
stores_fail of_lines live a b d r h =
    let f = stores_first 0 a.stores b.stores d h in
    let i = f.of_store in
    let at_place : f.place ≡ f.at = (let e : f.at ≡ 0 + f.place = f.at_is in omega arith) in
    subst (λ d. FirstFails of_lines live a b d) (sym i.is)
    (subst (λ n. RegistersAgree live a b × (take n a.stores ≡ take n b.stores) × (slice_get a.stores n ≢ slice_get b.stores n)) at_place (r, f.before, f.differ))

stores_then : (of_lines : Bool) (live : List ℕ) (a b : State) (d : Difference) → RegistersAgree live a b →
    or_else (compared_stores 0 a.stores b.stores) (behind_stores of_lines a b) ≡ Some d → FirstFails of_lines live a b d
stores_then of_lines live a b d r h = go (compared_stores 0 a.stores b.stores) refl h
  where
    go : (x : Option Difference) → compared_stores 0 a.stores b.stores ≡ x → or_else x (behind_stores of_lines a b) ≡ Some d → FirstFails of_lines live a b d
    go (Some e) is h = stores_fail of_lines live a b d r (is ∙ h)
    go None is h = jump_first of_lines live a b d r (stores_none 0 a.stores b.stores is) h

pub first_found : (of_lines : Bool) (live : List ℕ) (a b : State) (d : Difference) → difference of_lines live a b ≡ Some d → FirstFails of_lines live a b d
first_found of_lines live a b d h = go (compared_registers live a b) refl h
  where
    go : (x : Option Difference) → compared_registers live a b ≡ x → or_else x (or_else (compared_stores 0 a.stores b.stores) (behind_stores of_lines a b)) ≡ Some d → FirstFails of_lines live a b d
    go (Some e) is h = registers_first of_lines live a b d (is ∙ h)
    go None is h = stores_then of_lines live a b d (registers_none live a b is) h

pub difference_tells : (of_lines : Bool) (live : List ℕ) (a b : State) (found : Option Difference) → found ≡ difference of_lines live a b → Tells of_lines live a b found
difference_tells of_lines live a b None h = nothing_found of_lines live a b (sym h)
difference_tells of_lines live a b (Some d) h = first_found of_lines live a b d (sym h)

pub ruleset telling = (difference_tells)
