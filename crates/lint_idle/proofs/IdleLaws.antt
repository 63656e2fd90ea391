-- The idle members among some, one after the other.
use Rattle.std.proofs.Common.{◌≡◌, ℕ, ◌+◌, ◌<◌, Bool, true, false, List, [], ◌∷◌, ◌++◌, map, cond, length, drop, get_or, refl, sym, ap, ◌∙◌, append_assoc, append-nil, arith, Option, None, slice_get}
use Rattle.std.specs.Option.{option_map_or}
use Rattle.md_text.specs.declared.constraint.Alternative.{Alternative}
use Rattle.md_desc.specs.md_forms.declared.form.OperandConstraint.{OperandConstraint}
use Rattle.std.specs.List.{filter, flat_map}
use Rattle.lint_choices.proofs.PushedLaws.{opened}
use Rattle.md_desc.specs.md_forms.declared.form.Entry.{Entry}
use Rattle.md_desc.specs.md_forms.declared.form.Form.{Form}
use Rattle.md_text.specs.declared.constraint.Member.{Member}
use Rattle.lint_tried.specs.declared.instance.Instance.{Instance}
use Rattle.lint_idle.specs.declared.idle.Idle.{Idle}
use Rattle.lint_idle.specs.Idle.{is_idle, idle_with, idle_among, idle_in, idle_by}

module _ (forms : List Entry) (tried : List Instance) (operand : ℕ) (members : List Member) (i : ℕ) (m : Member) (out whole : List Idle) (within : i < length members) (is : m ≡ get_or members i m) (so_far : out ++ idle_among forms tried operand (drop i members) ≡ whole) where
  here : out ++ idle_among forms tried operand (m ∷ drop (i + 1) members) ≡ whole
  here = ap (λ (ms : List Member). out ++ idle_among forms tried operand ms) (sym (opened members i m within is)) ∙ so_far

  -- one that admits nothing was told
  pub idle_next : (more : List Idle) → is_idle forms tried operand m ≡ true → more ≡ out ++ idle_with operand m ∷ [] → more ++ idle_among forms tried operand (drop (i + 1) members) ≡ whole
  idle_next more idle made =
      rw made (append_assoc out (idle_with operand m ∷ []) (idle_among forms tried operand (drop (i + 1) members)) ∙ (sym (ap (λ (b : Bool). out ++ map (idle_with operand) (cond b (m ∷ filter (is_idle forms tried operand) (drop (i + 1) members)) (filter (is_idle forms tried operand) (drop (i + 1) members)))) idle) ∙ here))

  -- one that admits something isn't
  pub used_next : is_idle forms tried operand m ≡ false → out ++ idle_among forms tried operand (drop (i + 1) members) ≡ whole
  used_next used =
      sym (ap (λ (b : Bool). out ++ map (idle_with operand) (cond b (m ∷ filter (is_idle forms tried operand) (drop (i + 1) members)) (filter (is_idle forms tried operand) (drop (i + 1) members)))) used) ∙ here

-- an alternative that the constraint lacks has none
pub absent : (forms : List Entry) (tried : List Instance) (alternative : ℕ) (k : OperandConstraint) (out : List Idle) → slice_get k.constraint alternative ≡ None → out ≡ out ++ idle_in forms tried alternative k
absent forms tried alternative k out none =
    sym (ap (λ (o : Option Alternative). out ++ option_map_or (λ (a : Alternative). idle_among forms tried k.operand a.members) o []) none ∙ append-nil out)

-- ---- whether something is tried

pub nothing_tried : (forms : List Entry) (alternative : ℕ) (f : Form) (tried : List Instance) → length tried ≡ 0 → idle_by forms alternative f tried ≡ []
nothing_tried forms alternative f [] none = refl
nothing_tried forms alternative f (i ∷ more) none = absurd (grind (arith, none))

pub something_tried : (forms : List Entry) (alternative : ℕ) (f : Form) (tried : List Instance) → (length tried ≡ 0 → ⊥) → idle_by forms alternative f tried ≡ flat_map (idle_in forms tried alternative) f.constraints
something_tried forms alternative f [] some = absurd (some refl)
something_tried forms alternative f (i ∷ more) some = refl
