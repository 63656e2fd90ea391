-- Which predicates of a description hold: GCC Internals, "Machine-Independent Predicates" and
-- "Defining Machine-Specific Predicates". A predicate that reaches itself is accepted within no
-- number of rounds.
use Rattle.std.specs.Prelude.{ℕ, zero, suc, Bool, false, ◌&&◌, ◌||◌, List, map, option_and_then, position, slice_get, unwrap_or}
use Rattle.std.specs.List.{list_all}
use Rattle.std.specs.Option.{is_some}
use Rattle.std.specs.Str.{bytes_eq}
use Rattle.md_operand.specs.Operand.{built_in_named}
use Rattle.md_tables.specs.declared.tables.PredicateDraft.{PredicateDraft}

-- a predicate that is there without a definition; that without a name accepts anything
abbrev pub is_own : List ℕ → Bool
is_own name = is_some (built_in_named name)

-- the first definition of a name is one of the accepted
abbrev pub is_accepted : List PredicateDraft → List Bool → List ℕ → Bool
is_accepted ds accepted name =
    unwrap_or (option_and_then (slice_get accepted) (position (λ d. bytes_eq d.name name) ds)) false

-- a predicate that has no definition, or an accepted one
abbrev pub is_known : List PredicateDraft → List Bool → List ℕ → Bool
is_known ds accepted name = is_own name || is_accepted ds accepted name

-- a definition whose own parts are in order, and which names known predicates alone
abbrev pub is_sound : List PredicateDraft → List Bool → PredicateDraft → Bool
is_sound ds accepted d = d.whole && list_all (is_known ds accepted) d.uses

-- which definitions are accepted within so many rounds: within none, none of them; within one more,
-- those that name predicates alone which are accepted within as many
abbrev pub accepted_within : ℕ → List PredicateDraft → List Bool
accepted_within zero ds = map (λ d. false) ds
accepted_within (suc rounds) ds = map (is_sound ds (accepted_within rounds ds)) ds
