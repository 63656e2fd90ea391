-- Where entries stand among the plain forms.
use Rattle.std.proofs.Common.{◌≡◌, ℕ, zero, suc, List, [], ◌∷◌, ◌++◌, Some, Ok, true, refl, sym, subst}
use Rattle.std.specs.Prelude.{slice_get}
use Rattle.rtx_tree.specs.declared.tree.Rtx.{Rtx}
use Rattle.md_match.specs.Pattern.{Ops}
use Rattle.md_recog.specs.Match.{IsMatch}
use Rattle.md_recog.specs.Recog.{is_instruction}
use Rattle.md_forms.specs.declared.form.Entry.{Entry}
use Rattle.md_forms.specs.declared.form.Form.{Form}
use Rattle.md_pred.specs.Holds.{holds}
use Rattle.form_needs.specs.Needs.{lower_facts}
use Rattle.lower_insn.specs.Lowered.{IsMatched}
use Rattle.plain_forms.specs.Forms as plain
use Rattle.plain_forms.specs.Forms.{plain_forms}

-- an entry stands in a list
pub record Has (forms : List Entry) (e : Entry) : Type 0 where
  pub index : ℕ
  pub at : slice_get forms index ≡ Some e

pub behind : (xs ys : List Entry) (e : Entry) → Has ys e → Has (xs ++ ys) e
behind [] ys e has = has
behind (x ∷ xs) ys e has = let h = behind xs ys e has in record { index = suc h.index; at = h.at }

at_front : (xs ys : List Entry) (k : ℕ) (e : Entry) → slice_get xs k ≡ Some e → slice_get (xs ++ ys) k ≡ Some e
at_front [] ys k e is = absurd (let no : ⊥ = cc in no)
at_front (x ∷ xs) ys zero e is = is
at_front (x ∷ xs) ys (suc k) e is = at_front xs ys k e is

pub front : (xs ys : List Entry) (e : Entry) → Has xs e → Has (xs ++ ys) e
front xs ys e has = record { index = has.index; at = at_front xs ys has.index e has.at }

-- what it matches is matched
pub matched : (forms : List Entry) (e : Entry) (f : Form) (x : Rtx) (operands : Ops) → Has forms e → e.form ≡ Ok f → is_instruction f.head ≡ true →
    IsMatch (holds forms) lower_facts f.patterns f.condition (x ∷ []) operands → IsMatched forms x
matched forms e f x operands has form head matches = record {
  form = has.index;
  operands = operands;
  matches = record { entry = e; at = has.at; matches = record { says = f; accepted = form; matches = record { has = head; matches = matches } } };
}

-- ---- the plain forms, by the parts of their list

abbrev pub listed : List Entry
listed = plain.constraints ++ (plain.predicates ++ (plain.moves ++ (plain.arithmetic ++ (plain.bits ++ (plain.extensions ++ (plain.truncations ++ (plain.comparisons ++ (plain.standard_comparisons ++ (plain.jumps ++ plain.sums_joined ∷ [])))))))))

pub are_listed : plain_forms ≡ listed
unfolding plain_forms
are_listed = refl

abbrev At : List Entry → ℕ → Entry → Type 0
At entries k e = slice_get entries k ≡ Some e

module _ (k : ℕ) (e : Entry) where
  there : Has listed e → Has plain_forms e
  there has = subst (λ forms. Has forms e) (sym are_listed) has

  pub among_moves : At plain.moves k e → Has plain_forms e
  among_moves at = there (behind plain.constraints _ e (behind plain.predicates _ e (front plain.moves _ e (record { index = k; at = at }))))

  pub among_arithmetic : At plain.arithmetic k e → Has plain_forms e
  among_arithmetic at = there (behind plain.constraints _ e (behind plain.predicates _ e (behind plain.moves _ e (front plain.arithmetic _ e (record { index = k; at = at })))))

  pub among_bits : At plain.bits k e → Has plain_forms e
  among_bits at = there (behind plain.constraints _ e (behind plain.predicates _ e (behind plain.moves _ e (behind plain.arithmetic _ e (front plain.bits _ e (record { index = k; at = at }))))))

  pub among_extensions : At plain.extensions k e → Has plain_forms e
  among_extensions at =
      there (behind plain.constraints _ e (behind plain.predicates _ e (behind plain.moves _ e (behind plain.arithmetic _ e (behind plain.bits _ e (front plain.extensions _ e (record { index = k; at = at })))))))

  pub among_truncations : At plain.truncations k e → Has plain_forms e
  among_truncations at =
      there (behind plain.constraints _ e (behind plain.predicates _ e (behind plain.moves _ e (behind plain.arithmetic _ e (behind plain.bits _ e (behind plain.extensions _ e (front plain.truncations _ e (record { index = k; at = at }))))))))

  pub among_comparisons : At plain.comparisons k e → Has plain_forms e
  among_comparisons at =
      there (behind plain.constraints _ e (behind plain.predicates _ e (behind plain.moves _ e (behind plain.arithmetic _ e (behind plain.bits _ e (behind plain.extensions _ e (behind plain.truncations _ e (front plain.comparisons _ e (record { index = k; at = at })))))))))

  pub among_jumps : At plain.jumps k e → Has plain_forms e
  among_jumps at =
      there (behind plain.constraints _ e (behind plain.predicates _ e (behind plain.moves _ e (behind plain.arithmetic _ e (behind plain.bits _ e (behind plain.extensions _ e (behind plain.truncations _ e (behind plain.comparisons _ e
      (behind plain.standard_comparisons _ e (front plain.jumps _ e (record { index = k; at = at })))))))))))
