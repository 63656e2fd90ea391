-- Uids: GCC Internals, "Insns" (`INSN_UID`). They differ, and are from 1 to 2,147,483,647.
use Rattle.std.specs.Prelude.{ℕ, ◌&&◌, nat_le, not, Bool, true, false, if◌then◌else◌, List, [], ◌∷◌, map, filter}
use Rattle.rtx_tree.specs.declared.function.Kind.{Kind}
use Rattle.rtx_tree.specs.declared.function.Kind.TheVariants.{Barrier}
use Rattle.rtx_tree.specs.declared.function.Insn.{Insn}
use Rattle.rtl_func.specs.Paths.{has_place}

-- rules speak of all places of a chain but its barriers, which have no uid
abbrev pub is_ruled_kind : Kind → Bool
is_ruled_kind Barrier = false
is_ruled_kind _ = true

abbrev pub is_ruled : Insn → Bool
is_ruled i = is_ruled_kind i.kind

abbrev pub uids_of : List Insn → List ℕ
uids_of insns = map (λ i. i.uid) (filter is_ruled insns)

abbrev pub is_uid : ℕ → Bool
is_uid uid = nat_le 1 uid && nat_le uid 2147483647

-- the uids that are none, or that one before has
abbrev pub bad_uids : List ℕ → List ℕ → List ℕ
bad_uids before [] = []
bad_uids before (uid ∷ uids) = if is_uid uid && not (has_place before uid) then bad_uids (uid ∷ before) uids else uid ∷ bad_uids (uid ∷ before) uids
