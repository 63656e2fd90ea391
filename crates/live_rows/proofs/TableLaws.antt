-- Rows that are pushed.
use Rattle.std.proofs.Common.{◌≡◌, ℕ, zero, suc, ◌-◌, ◌*◌, ◌^◌, ◌≤◌, List, [], ◌∷◌, ◌++◌, length, sum, refl, arith}
use Rattle.std.proofs.lemmas.List.Elements.{All-push}
use Rattle.reg_rows.specs.Row.{has}
use Rattle.reg_rows.specs.Table.{has_at, IsTable}
use Rattle.live_rows.specs.declared.node.Node.{Node}
use Rattle.live_rows.specs.Paths.{uses}
use Rattle.live_rows.specs.machine.Rows.{uses_at}

pub uses_push : (rows : List (List ℕ)) (nodes : List Node) (row : List ℕ) (node : Node) → length rows ≡ length nodes → ((at reg : ℕ) → has_at rows at reg ≡ uses_at nodes at reg) → ((reg : ℕ) → has row reg ≡ uses node reg) → (at reg : ℕ) → has_at (rows ++ row ∷ []) at reg ≡ uses_at (nodes ++ node ∷ []) at reg
uses_push [] [] row node long each here zero reg = here reg
uses_push [] [] row node long each here (suc at) reg = refl
uses_push [] (n ∷ nodes) row node long each here at reg = absurd (omega arith)
uses_push (r ∷ rows) [] row node long each here at reg = absurd (omega arith)
uses_push (r ∷ rows) (n ∷ nodes) row node long each here zero reg = each 0 reg
uses_push (r ∷ rows) (n ∷ nodes) row node long each here (suc at) reg = uses_push rows nodes row node (omega arith) (λ at reg. each (suc at) reg) here at reg

pub IsTable-push : (width : ℕ) (rows : List (List ℕ)) (row : List ℕ) → IsTable width rows → length row ≡ width → sum row ≤ width * (2 ^ 64 - 1) → IsTable width (rows ++ row ∷ [])
IsTable-push width rows row table long fits = record { small = table.small; widths = All-push (λ row. length row ≡ width) rows row table.widths long; fits = All-push (λ row. sum row ≤ width * (2 ^ 64 - 1)) rows row table.fits fits }
