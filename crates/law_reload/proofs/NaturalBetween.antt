-- An instruction in which the new trees of a plan stand has registers with natural numbers.
use Rattle.std.proofs.Common.{◌≡◌, ℕ, zero, suc, ◌≤◌, ◌==◌, if◌then◌else◌, Bool, true, false, List, [], ◌∷◌, map, length, Option, Some, None, refl, sym, ap, ◌∙◌}
use Rattle.std.specs.List.{AllByRecursion, list_all}
use Rattle.std.specs.Prelude.{ℤ, pos, negsuc, is_some, slice_get, unwrap_or}
use Rattle.std.specs.Option.{option_map_or}
use Rattle.std.proofs.lemmas.Bool.{and_parts}
use Rattle.rtx_tree.specs.Operands.{operand_at, put_at}
use Rattle.rtx_tree.specs.Tree.{head_of, kids_of, tree_of, reg_of}
use Rattle.rtx_tree.specs.declared.tree.Rtx.{Rtx}
use Rattle.md_match.specs.Pattern.{Ops, role_of, operand_numbered}
use Rattle.md_match.specs.declared.role.Role.{Role}
use Rattle.md_match.specs.declared.role.Role.TheVariants.{Operand, Operator, Itself}
use Rattle.law_reload_moves.specs.sym_insns.Shape.{all_natural}
use Rattle.law_reload_moves.proofs.law_window_replaced.Trees.{natural_here, natural_kids}
use Rattle.law_homes.proofs.Trees.{tree_induction}
use Rattle.law_reload_moves.specs.reload_operands.declared.operand.Operand as operand
use Rattle.law_reload_moves.specs.reload_operands.Put.{each_by, parts_by, put_as, put}
use Rattle.law_reload_moves.proofs.reload_operands.PutLaws.{put_out}
use Rattle.reload_moves.specs.declared.part.Part.{Part}
use Rattle.reload_moves.specs.declared.ask.Ask.{Ask}
use Rattle.reload_moves.specs.Registers.{asks_of}
use Rattle.reload_moves.specs.Moves.{own_of, base_of, far_of}
use Rattle.law_reload_moves.specs.reload_choice.Insns.{new_tree, with_new, with_part, with_parts, between}
use Rattle.law_reload_moves.specs.reload_fit.Addressed.{on_register}
use Rattle.law_reload.proofs.NaturalMoves.{natural_tree, reg_natural, register_natural, own_small, staying_small, base_small, both, OperandsNatural}

-- ---- new trees

abbrev NewsNatural : Ops → Type 0
NewsNatural [] = Unit {0}
NewsNatural (None ∷ news) = NewsNatural news
NewsNatural (Some r ∷ news) = (all_natural r ≡ true) × NewsNatural news

put_one : (news : Ops) (k : ℕ) (tree : Rtx) → NewsNatural news → all_natural tree ≡ true →
    NewsNatural (put_at news k tree)
put_one [] zero tree are is = (is, tt)
put_one [] (suc k) tree are is = put_one [] k tree tt is
put_one (None ∷ news) zero tree are is = (is, are)
put_one (Some r ∷ news) zero tree are is = (is, are.1)
put_one (None ∷ news) (suc k) tree are is = put_one news k tree are is
put_one (Some r ∷ news) (suc k) tree are is = (are.0, put_one news k tree are.1 is)

at_one : (news : Ops) (k : ℕ) (r : Rtx) → NewsNatural news → operand_at news k ≡ Some r →
    all_natural r ≡ true
at_one [] k r are is = absurd (let no : ⊥ = cc in no)
at_one (None ∷ news) zero r are is = absurd (let no : ⊥ = cc in no)
at_one (Some x ∷ news) zero r are is = let same : x ≡ r = cc in ap all_natural (sym same) ∙ are.0
at_one (None ∷ news) (suc k) r are is = at_one news k r are is
at_one (Some x ∷ news) (suc k) r are is = at_one news k r are.1 is

numbered_one : (news : Ops) (n : ℤ) (r : Rtx) → NewsNatural news →
    operand_numbered news n ≡ Some r → all_natural r ≡ true
numbered_one news (pos k) r are is = at_one news k r are is
numbered_one news (negsuc k) r are is = absurd (let no : ⊥ = cc in no)

module _ (asks : List Ask) (few : length asks ≤ 4) where
  new_by : (p : Part) (x : operand.Operand) (moved based far : Bool) → all_natural x.tree ≡ true →
      (r : Rtx) →
      (if moved then Some (reg_of x.mode (own_of asks p)) else if based then Some
      (on_register (base_of asks p) x) else
      if far then Some (on_register (far_of asks p) x) else None) ≡ Some r → all_natural r ≡ true
  new_by p x true based far natural r is =
      let same : reg_of x.mode (own_of asks p) ≡ r = cc in
      ap all_natural (sym same) ∙ reg_natural x.mode (own_of asks p) (own_small asks few p)
  new_by p x false true far natural r is =
      let same : on_register (base_of asks p) x ≡ r = cc in
      ap all_natural (sym same) ∙ register_natural (base_of asks p) x (base_small asks few p)
      natural
  new_by p x false false true natural r is =
      let same : on_register (far_of asks p) x ≡ r = cc in
      ap all_natural (sym same) ∙ register_natural (far_of asks p) x (staying_small asks few p)
      natural
  new_by p x false false false natural r is = absurd (let no : ⊥ = cc in no)

  with_one : (news : Ops) (x : operand.Operand) (o : Option Rtx) → NewsNatural news →
      ((r : Rtx) → o ≡ Some r → all_natural r ≡ true) →
      NewsNatural (with_new news x o)
  with_one news x None are is = are
  with_one news x (Some r) are is = put_one news x.number r are (is r refl)

  module _ (xs : List operand.Operand) (naturals : OperandsNatural xs) where
    part_by : (news : Ops) (p : Part) (o : Option operand.Operand) → slice_get xs p.place ≡ o →
        NewsNatural news →
        NewsNatural (option_map_or (λ x. with_new news x (new_tree asks p x)) o news)
    part_by news p None is are = are
    part_by news p (Some x) is are = with_one news x (new_tree asks p x) are
        (λ r new. new_by p x p.is_moved p.needs.has_base (is_some p.needs.far)
        (naturals p.place x is) r new)

    parts_natural : (parts : List Part) (news : Ops) → NewsNatural news →
        NewsNatural (with_parts asks xs news parts)
    parts_natural [] news are = are
    parts_natural (p ∷ ps) news are = parts_natural ps (with_part asks xs news p)
        (part_by news p (slice_get xs p.place) refl are)

-- ---- they are put in

module _ (news : Ops) (are : NewsNatural news) where
  abbrev Puts : Rtx → Type 0
  Puts p = (x : Rtx) → all_natural x ≡ true → all_natural (put p news x) ≡ true

  each_natural : (ps xs : List Rtx) → AllByRecursion Puts ps → list_all all_natural xs ≡ true →
      list_all all_natural (each_by (map (λ p. put p news) ps) xs) ≡ true
  each_natural [] xs all natural = natural
  each_natural (p ∷ ps) [] all natural = refl
  each_natural (p ∷ ps) (x ∷ xs) all natural =
      let parts = and_parts (all_natural x) _ natural in
      both (all_natural (put p news x)) _ (all.0 x parts.0) (each_natural ps xs all.1 parts.1)

  parts_put : (ps xs : List Rtx) (b : Bool) → AllByRecursion Puts ps →
      list_all all_natural xs ≡ true →
      list_all all_natural (if b then each_by (map (λ p. put p news) ps) xs else xs) ≡ true
  parts_put ps xs true all natural = each_natural ps xs all natural
  parts_put ps xs false all natural = natural

  over_natural : (ps : List Rtx) (x : Rtx) → AllByRecursion Puts ps → all_natural x ≡ true →
      all_natural (tree_of (head_of x) (parts_by (map (λ p. put p news) ps) (kids_of x))) ≡ true
  over_natural ps x all natural = natural_tree (head_of x)
      (parts_by (map (λ p. put p news) ps) (kids_of x)) (natural_here x natural)
      (parts_put ps (kids_of x) (length (map (λ p. put p news) ps) == length (kids_of x)) all
      (natural_kids x natural))

  or_itself : (x : Rtx) (o : Option Rtx) → ((r : Rtx) → o ≡ Some r → all_natural r ≡ true) →
      all_natural x ≡ true → all_natural (unwrap_or o x) ≡ true
  or_itself x None is natural = natural
  or_itself x (Some r) is natural = is r refl

  by_role : (role : Role) (n : ℤ) (ps : List Rtx) (x : Rtx) → AllByRecursion Puts ps →
      all_natural x ≡ true →
      all_natural (put_as role news n (map (λ p. put p news) ps) x) ≡ true
  by_role Operand n ps x all natural = or_itself x (operand_numbered news n)
      (λ r is. numbered_one news n r are is) natural
  by_role Operator n ps x all natural = over_natural ps x all natural
  by_role Itself n ps x all natural = over_natural ps x all natural

  put_step : (p : Rtx) → AllByRecursion Puts (kids_of p) → Puts p
  put_step p all x natural = ap all_natural (put_out p news x) ∙
      by_role (role_of (head_of p).code) (head_of p).number (kids_of p) x all natural

  puts_natural : (p : Rtx) → Puts p
  puts_natural = tree_induction Puts put_step

-- the instruction of a plan
pub between_natural : (pattern : Rtx) (xs : List operand.Operand) (parts : List Part) (x : Rtx) →
    OperandsNatural xs →
    length (asks_of parts) ≤ 4 → all_natural x ≡ true → all_natural (between pattern xs parts x) ≡
    true
between_natural pattern xs parts x naturals few natural =
    let news = with_parts (asks_of parts) xs [] parts in
    puts_natural news (parts_natural (asks_of parts) few xs naturals parts [] tt) pattern x natural
