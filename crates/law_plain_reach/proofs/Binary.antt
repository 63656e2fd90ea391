-- The first alternative of a form that sets a register to an operation on two operands is reachable.
use Rattle.std.proofs.Common.{◌≡◌, ℕ, pos, true, false, List, [], ◌∷◌, ◌++◌, Some, refl, ap, ◌∙◌}
use Rattle.rtx_tree.specs.declared.code.Code.{Code}
use Rattle.rtx_tree.specs.declared.code.Code.TheVariants as code
use Rattle.rtx_tree.specs.declared.code.Mode.{Mode}
use Rattle.rtx_tree.specs.declared.code.Mode.TheVariants.{Void}
use Rattle.rtx_tree.specs.declared.tree.Rtx.{Rtx}
use Rattle.rtx_tree.specs.Operands.{operand_at}
use Rattle.rtx_tree.specs.Patterns.{set_rtx}
use Rattle.rtx_tree.specs.Tree.{node_of}
use Rattle.assign.specs.declared.home.HomeOf.{HomeOf}
use Rattle.assign.specs.declared.places.Layout.{Layout}
use Rattle.md_match.specs.Pattern.{Ops, role_of, placeholders, placeholders_as}
use Rattle.md_match.specs.declared.role.Role.TheVariants.{Itself}
use Rattle.reload_homes.specs.Homes.{homed}
use Rattle.reload_operands.specs.declared.operand.Operand.{Operand}
use Rattle.reload_operands.specs.Put.{is_lowpart_code, in_lowpart, put}
use Rattle.reload_operands.specs.Operands.{operand_for, operands_of}
use Rattle.rtx_open.proofs.Expressions.{Written, node, any, none, with, rtx}
use Rattle.law_plain_matches.proofs.Patterns.{operand}
use Rattle.law_plain_matches.proofs.Sets.{set_of}
use Rattle.law_plain_taken.proofs.Operands.{asked_is}
use Rattle.law_plain_known.proofs.Directed.{Directed, takes, scratches, itself_takes, itself_scratches, sets}
use Rattle.law_plain_known.proofs.Listed.{given, three_listed}
use Rattle.law_plain_known.proofs.Replaced as replaced
use Rattle.law_plain_known.proofs.Replaced.{new_at}
use Rattle.law_plain_known.proofs.Whole as whole
use Rattle.law_plain_standing.proofs.Sorts as sorts
use Rattle.law_plain_standing.proofs.Sorts.{Sort}
use Rattle.law_plain_homed.proofs.Nodes.{is_home_code, over}
use Rattle.law_plain_homed.proofs.Leaves.{HasSort}
use Rattle.law_plain_reach.proofs.Known as known

-- ---- the pattern, and what it matches

abbrev pub pattern : List ℕ → Code → Mode → List ℕ → Mode → List ℕ → Mode → Written
pattern p c m q n r o = set_of (operand p 0 m) (node c m (pos 0) [] (with (operand q 1 n) (with (operand r 2 o) none)))

abbrev pub insn : Code → Mode → Rtx → Rtx → Rtx → Rtx
insn c m a b d = set_rtx a (node_of c m (b ∷ d ∷ []))

no_part : (c : Code) → is_home_code c ≡ false → is_lowpart_code c ≡ false
no_part code.Subreg other = cc
no_part _ other = refl

module _ (p : List ℕ) (c : Code) (m : Mode) (q : List ℕ) (n : Mode) (r : List ℕ) (o : Mode) (role : role_of c ≡ Itself) (other : is_home_code c ≡ false) where
  abbrev pub the_pattern : Rtx
  the_pattern = rtx (pattern p c m q n r o)

  abbrev source : Written
  source = node c m (pos 0) [] (with (operand q 1 n) (with (operand r 2 o) none))

  abbrev first : Rtx
  first = rtx (operand p 0 m)

  abbrev second : Rtx
  second = rtx (operand q 1 n)

  abbrev third : Rtx
  third = rtx (operand r 2 o)

  pub placed_by : placeholders the_pattern ≡ first ∷ second ∷ third ∷ []
  placed_by = asked_is (pattern p c m q n r o) ∙ ap (λ x. first ∷ (placeholders_as x (node_of c m (second ∷ third ∷ [])) (second ∷ third ∷ []) ++ [])) role

  -- ---- which are inputs, and which is the output

  taken : takes source ≡ 1 ∷ 2 ∷ []
  taken = ap (λ xs. xs ++ (1 ∷ 2 ∷ [])) (itself_takes c (pos 0) role)

  free : scratches source ≡ []
  free = ap (λ xs. xs ++ []) (itself_scratches c (pos 0) role)

  pub result_directed : Directed the_pattern 0 false true
  result_directed = sets p m source (1 ∷ 2 ∷ []) taken free 0 false true refl refl

  pub left_directed : Directed the_pattern 1 true false
  left_directed = sets p m source (1 ∷ 2 ∷ []) taken free 1 true false refl refl

  pub right_directed : Directed the_pattern 2 true false
  right_directed = sets p m source (1 ∷ 2 ∷ []) taken free 2 true false refl refl

  -- ---- none is in a low part

  module _ (a b d : Rtx) where
    inner : (k : ℕ) → whole.NoneInside k (second ∷ third ∷ []) (b ∷ d ∷ [])
    inner k = whole.of_more k second b (third ∷ []) (d ∷ []) (whole.leaf k q 1 n b) (whole.of_more k third d [] [] (whole.leaf k r 2 o d) (whole.of_none k))

    pub none_low : (k : ℕ) → in_lowpart the_pattern (insn c m a b d) k ≡ false
    none_low k =
        let value = node_of c m (b ∷ d ∷ []) in
        let here = whole.through k c m (pos 0) [] (with (operand q 1 n) (with (operand r 2 o) none)) c m (pos 0) [] (with (any b) (with (any d) none)) (no_part c other) role (inner k) in
        whole.through k code.Set Void (pos 0) [] (with (operand p 0 m) (with source none)) code.Set Void (pos 0) [] (with (any a) (with (any value) none)) refl refl
        (whole.of_more k first a (rtx source ∷ []) (value ∷ []) (whole.leaf k p 0 m a) (whole.of_more k (rtx source) value [] [] here (whole.of_none k)))

    -- ---- with other trees in the places of operands

    pub put_in : (news : Ops) → put the_pattern news (insn c m a b d) ≡ insn c m (new_at news 0 a) (new_at news 1 b) (new_at news 2 d)
    put_in news =
        let value = node_of c m (b ∷ d ∷ []) in
        let here = replaced.through news c m (pos 0) [] (with (operand q 1 n) (with (operand r 2 o) none)) c m (pos 0) [] (with (any b) (with (any d) none)) role refl in
        replaced.through news code.Set Void (pos 0) [] (with (operand p 0 m) (with source none)) code.Set Void (pos 0) [] (with (any a) (with (any value) none)) refl refl ∙
        (ap (λ x. set_rtx x (put (rtx source) news value)) (replaced.leaf news p 0 m a) ∙
        (ap (set_rtx (new_at news 0 a)) here ∙
        (ap (λ x. set_rtx (new_at news 0 a) (node_of c m (x ∷ put third news d ∷ []))) (replaced.leaf news q 1 n b) ∙
        ap (λ x. set_rtx (new_at news 0 a) (node_of c m (new_at news 1 b ∷ x ∷ []))) (replaced.leaf news r 2 o d))))

  -- ---- with homes

  module _ (homes : List HomeOf) (layout : Layout) (a b d : Rtx) (s t u : Sort) (of_a : HasSort homes layout a s) (of_b : HasSort homes layout b t) (of_d : HasSort homes layout d u) where
    abbrev placed : Rtx
    placed = insn c m a b d

    abbrev h : Rtx → Rtx
    h x = homed homes layout x

    pub homed_is : h placed ≡ insn c m (sorts.tree s) (sorts.tree t) (sorts.tree u)
    homed_is =
        over homes layout (record { code = code.Set; mode = Void; number = pos 0; name = [] }) (a ∷ node_of c m (b ∷ d ∷ []) ∷ []) refl ∙
        (ap (λ x. set_rtx (h a) x) (over homes layout (record { code = c; mode = m; number = pos 0; name = [] }) (b ∷ d ∷ []) other) ∙
        (ap (λ x. insn c m x (h b) (h d)) of_a.tree_is ∙ (ap (λ x. insn c m (sorts.tree s) x (h d)) of_b.tree_is ∙ ap (insn c m (sorts.tree s) (sorts.tree t)) of_d.tree_is)))

    -- ---- its operands

    module _ (found : Ops) (at_a : operand_at found 0 ≡ Some a) (at_b : operand_at found 1 ≡ Some b) (at_d : operand_at found 2 ≡ Some d) where
      abbrev result : Operand
      result = sorts.operand 0 s m false true (known.changed the_pattern placed (h placed) homes layout 0 p m a s of_a) (known.other the_pattern placed (h placed) homes layout 0 p m a s of_a)

      abbrev left : Mode → Operand
      left mode = sorts.operand 1 t mode true false (known.changed the_pattern placed (h placed) homes layout 1 q n b t of_b) (known.other the_pattern placed (h placed) homes layout 1 q n b t of_b)

      abbrev right : Mode → Operand
      right mode = sorts.operand 2 u mode true false (known.changed the_pattern placed (h placed) homes layout 2 r o d u of_d) (known.other the_pattern placed (h placed) homes layout 2 r o d u of_d)

      pub operands_are : known.IsFound the_pattern placed (h placed) homes layout 0 p m a s of_a m false true → known.IsFound the_pattern placed (h placed) homes layout 1 q n b t of_b n true false →
          known.IsFound the_pattern placed (h placed) homes layout 2 r o d u of_d o true false → operands_of the_pattern found placed (h placed) homes layout ≡ result ∷ left n ∷ right o ∷ []
      operands_are one two three =
          let of_left = operand_for the_pattern placed (h placed) homes layout 1 second b in
          let of_right = operand_for the_pattern placed (h placed) homes layout 2 third d in
          three_listed the_pattern found placed (h placed) homes layout first second third a b d placed_by (given p 0 m) (given q 1 n) (given r 2 o) at_a at_b at_d ∙
          (ap (λ x. x ∷ of_left ∷ of_right ∷ []) (known.found_is the_pattern placed (h placed) homes layout 0 p m a s of_a m false true one) ∙
          (ap (λ x. result ∷ x ∷ of_right ∷ []) (known.found_is the_pattern placed (h placed) homes layout 1 q n b t of_b n true false two) ∙
          ap (λ x. result ∷ left n ∷ x ∷ []) (known.found_is the_pattern placed (h placed) homes layout 2 r o d u of_d o true false three)))
