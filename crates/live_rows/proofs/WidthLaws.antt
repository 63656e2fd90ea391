-- Widths with room for what nodes use and define.
use Rattle.std.proofs.Common.{◌≡◌, ℕ, ◌+◌, ◌*◌, ◌<◌, ◌≤◌, List, length, get_or, take, sym, subst, arith}
use Rattle.std.specs.Prelude.{All}
use Rattle.std.proofs.lemmas.List.{take_more}
use Rattle.std.proofs.lemmas.List.Elements.{All-push}
use Rattle.live_rows.specs.declared.node.Node.{Node}
use Rattle.live_rows.specs.Paths.{Fits}

abbrev HasRoom : ℕ → List ℕ → Type 0
HasRoom width regs = All (λ reg. reg < 64 * width) regs

-- more words have more room
pub room-wider : (w v : ℕ) (regs : List ℕ) → HasRoom w regs → w ≤ v → HasRoom v regs
room-wider w v regs all le k d l = let b : get_or regs k d < 64 * w = all k d l in omega arith

fits-wider : (w v : ℕ) (node : Node) → Fits w node → w ≤ v → Fits v node
fits-wider w v node fits le = record { uses = room-wider w v node.uses fits.uses le; defines = room-wider w v node.defines fits.defines le }

pub fits-more : (nodes : List Node) (k w v : ℕ) (node : Node) → k < length nodes → node ≡ get_or nodes k node → All (Fits w) (take k nodes) → w ≤ v → Fits v node → All (Fits v) (take (k + 1) nodes)
fits-more nodes k w v node l is all le new =
    subst (All (Fits v)) (sym (take_more nodes k node l)) (All-push (Fits v) (take k nodes) (get_or nodes k node) (λ j d h. fits-wider w v (get_or (take k nodes) j d) (all j d h) le) (subst (Fits v) is new))
