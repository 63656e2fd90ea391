-- An instruction in which the new trees of a plan stand names registers of the machine alone.
use Rattle.std.proofs.Common.{◌≡◌, ◌≤◌, ◌==◌, ◌&&◌, not, if◌then◌else◌, Bool, true, false, List, [], ◌∷◌, map, length, Option, Some, None, refl, sym, ap, ◌∙◌}
use Rattle.std.specs.List.{AllByRecursion}
use Rattle.std.specs.Prelude.{ℤ, is_some, slice_get, unwrap_or}
use Rattle.std.specs.Option.{option_map_or}
use Rattle.rtx_tree.specs.Tree.{head_of, kids_of, tree_of, reg_of}
use Rattle.rtx_tree.specs.declared.tree.Rtx.{Rtx}
use Rattle.md_match.specs.Pattern.{Ops, role_of, operand_numbered}
use Rattle.md_match.specs.declared.role.Role.{Role}
use Rattle.md_match.specs.declared.role.Role.TheVariants.{Operand, Operator, Itself}
use Rattle.form_needs.specs.Needs.{names_homeless}
use Rattle.law_reload_moves.specs.reload_operands.declared.operand.Operand as operand
use Rattle.law_reload_moves.specs.reload_operands.Put.{each_by, parts_by, put_as, put}
use Rattle.law_reload_moves.proofs.reload_operands.PutLaws.{put_out}
use Rattle.reload_moves.specs.declared.part.Part.{Part}
use Rattle.reload_moves.specs.declared.ask.Ask.{Ask}
use Rattle.reload_moves.specs.Registers.{asks_of, is_asked, register_for}
use Rattle.reload_moves.specs.Moves.{own_of, base_of, far_of}
use Rattle.law_reload_moves.specs.reload_choice.Insns.{new_tree, with_new, with_part, with_parts, between}
use Rattle.law_reload_moves.specs.reload_fit.Addressed.{on_register}
use Rattle.law_emitted_hard.specs.Hard.{IsHard, AreHard, OperandsHard}
use Rattle.law_emitted_hard.proofs.Trees.{induction, hard_tree, hard_here, hard_kids, reg_hard}
use Rattle.law_emitted_hard.proofs.Operands.{put_hard, numbered_hard}
use Rattle.law_no_pseudos.proofs.Moves.{OperandsAreHard, IsOne, all_one, own_few, staying_few, base_few, register_hard}

-- ---- new trees

both_true : (a b : Bool) → a ≡ false → b ≡ true → (not a && b) ≡ true
both_true true b none is = absurd (let no : ⊥ = cc in no)
both_true false b none is = is

with_one : (news : Ops) (x : operand.Operand) (o : Option Rtx) → OperandsHard news → ((r : Rtx) → o ≡ Some r → IsHard r) → OperandsHard (with_new news x o)
with_one news x None are is = are
with_one news x (Some r) are is = put_hard news x.number r are (is r refl)

module _ (parts : List Part) (most : (a : Ask) → is_asked (asks_of parts) a ≡ true → register_for (asks_of parts) a ≤ 31) where
  abbrev asks : List Ask
  asks = asks_of parts

  new_by : (p : Part) (x : operand.Operand) (moved based far : Bool) → IsOne parts most p → p.is_moved ≡ moved → p.needs.has_base ≡ based →
      is_some p.needs.far ≡ far → IsHard x.tree → (r : Rtx) →
      (if moved then Some (reg_of x.mode (own_of asks p)) else if based then Some (on_register (base_of asks p) x) else if far then Some (on_register (far_of asks p) x) else None) ≡ Some r →
      IsHard r
  new_by p x true based far one is_moved has_base is_far hard r is =
      let same : reg_of x.mode (own_of asks p) ≡ r = cc in
      ap names_homeless (sym same) ∙ reg_hard x.mode (own_of asks p) (own_few parts most p one is_moved)
  new_by p x false true far one is_moved has_base is_far hard r is =
      let same : on_register (base_of asks p) x ≡ r = cc in
      ap names_homeless (sym same) ∙ register_hard (base_of asks p) x (base_few parts most p one has_base) hard
  new_by p x false false true one is_moved has_base is_far hard r is =
      let same : on_register (far_of asks p) x ≡ r = cc in
      ap names_homeless (sym same) ∙ register_hard (far_of asks p) x (staying_few parts most p one (both_true p.is_moved (is_some p.needs.far) is_moved is_far)) hard
  new_by p x false false false one is_moved has_base is_far hard r is = absurd (let no : ⊥ = cc in no)

  module _ (xs : List operand.Operand) (operands_hard : OperandsAreHard xs) where
    part_by : (news : Ops) (p : Part) (o : Option operand.Operand) → IsOne parts most p → slice_get xs p.place ≡ o → OperandsHard news →
        OperandsHard (option_map_or (λ x. with_new news x (new_tree asks p x)) o news)
    part_by news p None one is are = are
    part_by news p (Some x) one is are = with_one news x (new_tree asks p x) are
        (λ r new. new_by p x p.is_moved p.needs.has_base (is_some p.needs.far) one refl refl refl (operands_hard p.place x is) r new)

    parts_hard : (ps : List Part) (news : Ops) → AllByRecursion (IsOne parts most) ps → OperandsHard news → OperandsHard (with_parts asks xs news ps)
    parts_hard [] news all are = are
    parts_hard (p ∷ ps) news all are = parts_hard ps (with_part asks xs news p) all.1 (part_by news p (slice_get xs p.place) all.0 refl are)

-- ---- they are put in

module _ (news : Ops) (are : OperandsHard news) where
  abbrev Puts : Rtx → Type 0
  Puts p = (x : Rtx) → IsHard x → IsHard (put p news x)

  each_hard : (ps xs : List Rtx) → AllByRecursion Puts ps → AreHard xs → AreHard (each_by (map (λ p. put p news) ps) xs)
  each_hard [] xs all hard = hard
  each_hard (p ∷ ps) [] all hard = tt
  each_hard (p ∷ ps) (x ∷ xs) all hard = (all.0 x hard.0, each_hard ps xs all.1 hard.1)

  parts_put : (ps xs : List Rtx) (b : Bool) → AllByRecursion Puts ps → AreHard xs → AreHard (if b then each_by (map (λ p. put p news) ps) xs else xs)
  parts_put ps xs true all hard = each_hard ps xs all hard
  parts_put ps xs false all hard = hard

  over_hard : (ps : List Rtx) (x : Rtx) → AllByRecursion Puts ps → IsHard x → IsHard (tree_of (head_of x) (parts_by (map (λ p. put p news) ps) (kids_of x)))
  over_hard ps x all hard = hard_tree (head_of x) (parts_by (map (λ p. put p news) ps) (kids_of x)) (hard_here x hard)
      (parts_put ps (kids_of x) (length (map (λ p. put p news) ps) == length (kids_of x)) all (hard_kids x hard))

  or_itself : (x : Rtx) (o : Option Rtx) → ((r : Rtx) → o ≡ Some r → IsHard r) → IsHard x → IsHard (unwrap_or o x)
  or_itself x None is hard = hard
  or_itself x (Some r) is hard = is r refl

  by_role : (role : Role) (n : ℤ) (ps : List Rtx) (x : Rtx) → AllByRecursion Puts ps → IsHard x → IsHard (put_as role news n (map (λ p. put p news) ps) x)
  by_role Operand n ps x all hard = or_itself x (operand_numbered news n) (λ r is. numbered_hard news n r are is) hard
  by_role Operator n ps x all hard = over_hard ps x all hard
  by_role Itself n ps x all hard = over_hard ps x all hard

  put_step : (p : Rtx) → AllByRecursion Puts (kids_of p) → Puts p
  put_step p all x hard = ap names_homeless (put_out p news x) ∙ by_role (role_of (head_of p).code) (head_of p).number (kids_of p) x all hard

  puts_hard : (p : Rtx) → Puts p
  puts_hard = induction Puts put_step

-- the instruction of a plan
pub between_hard : (pattern : Rtx) (xs : List operand.Operand) (parts : List Part) (x : Rtx) → OperandsAreHard xs →
    ((a : Ask) → is_asked (asks_of parts) a ≡ true → register_for (asks_of parts) a ≤ 31) → IsHard x → IsHard (between pattern xs parts x)
between_hard pattern xs parts x operands_hard most hard =
    let news = with_parts (asks_of parts) xs [] parts in
    puts_hard news (parts_hard parts most xs operands_hard parts [] (all_one parts most) tt) pattern x hard
