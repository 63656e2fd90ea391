-- One rule more, and none.
use Rattle.std.proofs.Common.{◌≡◌, ℕ, zero, suc, Bool, true, false, Option, Some, None, refl, sym, ap, ◌∙◌}
use Rattle.std.specs.Prelude.{option_map, unwrap_or}
use Rattle.std.specs.Option.{is_some}
use Rattle.rtx_tree.specs.declared.tree.Rtx.{Rtx}
use Rattle.rtx_simple.specs.Simple.{once, settled}

turns_by : (o : Option Rtx) (n : ℕ) (x y : Rtx) → true ≡ is_some o → y ≡ unwrap_or o x → unwrap_or (option_map (settled n) o) x ≡ settled n y
turns_by None n x y applies is = cc
turns_by (Some z) n x y applies is = ap (settled n) (sym is)

-- behind a rule that applied, one less is left
pub turns : (n : ℕ) (x y : Rtx) → true ≡ is_some (once x) → y ≡ unwrap_or (once x) x → settled (suc n) x ≡ settled n y
turns n x y applies is = turns_by (once x) n x y applies is

ends_by : (o : Option Rtx) (n : ℕ) (x y : Rtx) → false ≡ is_some o → y ≡ unwrap_or o x → unwrap_or (option_map (settled n) o) x ≡ y
ends_by None n x y applies is = sym is
ends_by (Some z) n x y applies is = cc

stays_by : (o : Option Rtx) (x y : Rtx) → false ≡ is_some o → y ≡ unwrap_or o x → x ≡ y
stays_by None x y applies is = sym is
stays_by (Some z) x y applies is = cc

-- where none applies, the expression stays
pub ends : (n : ℕ) (x y : Rtx) → false ≡ is_some (once x) → y ≡ unwrap_or (once x) x → settled n x ≡ y
ends zero x y applies is = stays_by (once x) x y applies is
ends (suc n) x y applies is = ends_by (once x) n x y applies is
