-- What sets an operand is matched: a copy, and an operation on one operand and on two.
use Rattle.std.proofs.Common.{◌≡◌, ℕ, pos, Bool, true, false, ◌&&◌, List, [], ◌∷◌, ◌++◌, Option, Some, refl, ap, ◌∙◌}
use Rattle.std.specs.Prelude.{option_map}
use Rattle.std.specs.List.{list_all}
use Rattle.rtx_tree.specs.declared.code.Code.{Code}
use Rattle.rtx_tree.specs.declared.code.Code.TheVariants as code
use Rattle.rtx_tree.specs.declared.code.Mode.{Mode}
use Rattle.rtx_tree.specs.declared.code.Mode.TheVariants.{Void}
use Rattle.rtx_tree.specs.declared.tree.Rtx.{Rtx}
use Rattle.rtx_tree.specs.Operands.{operand_at}
use Rattle.rtx_tree.specs.Patterns.{set_rtx}
use Rattle.rtx_tree.specs.Tree.{node_of}
use Rattle.c_cond.specs.declared.tree.Tree.{Tree}
use Rattle.c_eval.specs.declared.facts.Facts.{Facts}
use Rattle.md_match.specs.Pattern.{Ops, role_of, all_some, instantiated_as, placeholders_as}
use Rattle.md_match.specs.declared.role.Role.TheVariants.{Itself}
use Rattle.md_recog.specs.Match.{Accepts, IsMatch, is_accepted, is_met}
use Rattle.rtx_open.proofs.Expressions.{Written, node, none, with, rtx}
use Rattle.law_plain_matches.proofs.Patterns.{operand, filled, asked, accepted_is}
use Rattle.law_plain_matches.proofs.Sets.{set_of}
use Rattle.law_plain_taken.proofs.Operands.{two, three, is_match, operand_asked, operand_gives, gives_two, gives_three, short_two, short_three}

pub both_true : (p q : Bool) → p ≡ true → q ≡ true → (p && q) ≡ true
both_true true q one other = other
both_true false q one other = cc

module _ (accepts : Accepts) (facts : Facts) (condition : Tree) where
  pub taken : (operands : Ops) (name : List ℕ) (k : ℕ) (m : Mode) (x : Rtx) → operand_at operands k ≡ Some x → accepts name x m ≡ true → is_accepted accepts operands (rtx (operand name k m)) ≡ true
  taken operands name k m x at is = accepted_is accepts operands name k m x at ∙ is

  module _ (p : List ℕ) (m : Mode) (a : Rtx) (first : accepts p a m ≡ true) (q : List ℕ) (n : Mode) (b : Rtx) (second : accepts q b n ≡ true) where
    abbrev ps : List Rtx
    ps = rtx (operand p 0 m) ∷ rtx (operand q 1 n) ∷ []

    both : list_all (is_accepted accepts (two a b)) ps ≡ true
    both = both_true (is_accepted accepts (two a b) (rtx (operand p 0 m))) _ (taken (two a b) p 0 m a refl first) (both_true (is_accepted accepts (two a b) (rtx (operand q 1 n))) true (taken (two a b) q 1 n b refl second) refl)

    -- (set A B)
    pub copy : is_met accepts facts condition (two a b) ≡ true → IsMatch accepts facts (set_rtx (rtx (operand p 0 m)) (rtx (operand q 1 n)) ∷ []) condition (set_rtx a b ∷ []) (two a b)
    copy met =
        is_match accepts facts condition (set_of (operand p 0 m) (operand q 1 n)) (two a b) (set_rtx a b) ps refl refl
        (operand_asked (two a b) p 0 m, (operand_asked (two a b) q 1 n, tt)) (gives_two a b (rtx (operand p 0 m)) (rtx (operand q 1 n)) (operand_gives p 0 m) (operand_gives q 1 n)) (short_two a b) both met

    -- (set A (CODE:MODE B))
    module _ (c : Code) (k : Mode) (role : role_of c ≡ Itself) where
      abbrev one_pattern : Written
      one_pattern = set_of (operand p 0 m) (node c k (pos 0) [] (with (operand q 1 n) none))

      abbrev set_of_one : Option Rtx → Option Rtx
      set_of_one x = option_map (λ xs. node_of code.Set Void xs) (all_some (Some a ∷ x ∷ []))

      one_made : filled (two a b) one_pattern ≡ Some (set_rtx a (node_of c k (b ∷ [])))
      one_made = ap (λ r. set_of_one (instantiated_as r (two a b) (record { code = c; mode = k; number = pos 0; name = [] }) (Some (b ∷ [])))) role

      one_asked : asked one_pattern ≡ ps
      one_asked = let source = rtx (operand q 1 n) in ap (λ r. rtx (operand p 0 m) ∷ (placeholders_as r (node_of c k (source ∷ [])) (source ∷ []) ++ [])) role

      pub unary : is_met accepts facts condition (two a b) ≡ true → IsMatch accepts facts (set_rtx (rtx (operand p 0 m)) (node_of c k (rtx (operand q 1 n) ∷ [])) ∷ []) condition (set_rtx a (node_of c k (b ∷ [])) ∷ []) (two a b)
      unary met =
          is_match accepts facts condition one_pattern (two a b) (set_rtx a (node_of c k (b ∷ []))) ps one_asked one_made
          (operand_asked (two a b) p 0 m, (operand_asked (two a b) q 1 n, tt)) (gives_two a b (rtx (operand p 0 m)) (rtx (operand q 1 n)) (operand_gives p 0 m) (operand_gives q 1 n)) (short_two a b) both met

    -- (set A (CODE:MODE B C))
    module _ (c : Code) (k : Mode) (role : role_of c ≡ Itself) (r : List ℕ) (o : Mode) (d : Rtx) (third : accepts r d o ≡ true) where
      abbrev all : List Rtx
      all = rtx (operand p 0 m) ∷ rtx (operand q 1 n) ∷ rtx (operand r 2 o) ∷ []

      abbrev two_pattern : Written
      two_pattern = set_of (operand p 0 m) (node c k (pos 0) [] (with (operand q 1 n) (with (operand r 2 o) none)))

      abbrev set_of_two : Option Rtx → Option Rtx
      set_of_two x = option_map (λ xs. node_of code.Set Void xs) (all_some (Some a ∷ x ∷ []))

      two_made : filled (three a b d) two_pattern ≡ Some (set_rtx a (node_of c k (b ∷ d ∷ [])))
      two_made = ap (λ r. set_of_two (instantiated_as r (three a b d) (record { code = c; mode = k; number = pos 0; name = [] }) (Some (b ∷ d ∷ [])))) role

      two_asked : asked two_pattern ≡ all
      two_asked =
          let left = rtx (operand q 1 n) in
          let right = rtx (operand r 2 o) in
          ap (λ x. rtx (operand p 0 m) ∷ (placeholders_as x (node_of c k (left ∷ right ∷ [])) (left ∷ right ∷ []) ++ [])) role

      pub binary : is_met accepts facts condition (three a b d) ≡ true →
          IsMatch accepts facts (set_rtx (rtx (operand p 0 m)) (node_of c k (rtx (operand q 1 n) ∷ rtx (operand r 2 o) ∷ [])) ∷ []) condition (set_rtx a (node_of c k (b ∷ d ∷ [])) ∷ []) (three a b d)
      binary met =
          is_match accepts facts condition two_pattern (three a b d) (set_rtx a (node_of c k (b ∷ d ∷ []))) all two_asked two_made
          (operand_asked (three a b d) p 0 m, (operand_asked (three a b d) q 1 n, (operand_asked (three a b d) r 2 o, tt)))
          (gives_three a b d (rtx (operand p 0 m)) (rtx (operand q 1 n)) (rtx (operand r 2 o)) (operand_gives p 0 m) (operand_gives q 1 n) (operand_gives r 2 o)) (short_three a b d)
          (both_true (is_accepted accepts (three a b d) (rtx (operand p 0 m))) _ (taken (three a b d) p 0 m a refl first)
          (both_true (is_accepted accepts (three a b d) (rtx (operand q 1 n))) _ (taken (three a b d) q 1 n b refl second)
          (both_true (is_accepted accepts (three a b d) (rtx (operand r 2 o))) true (taken (three a b d) r 2 o d refl third) refl))) met
