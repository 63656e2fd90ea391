-- What the first definition of a name admits.
use Rattle.std.proofs.Common.{◌≡◌, Bool, true, false, if◌then◌else◌, Option, Some, None, refl, ap, ◌∙◌}
use Rattle.std.proofs.Math.Path.{fun_ext}
use Rattle.std.specs.Option.{option_map, option_map_or, option_and_then, option_or}
use Rattle.rtx_tree.specs.declared.tree.Rtx.{Rtx}
use Rattle.pred_rows.specs.Tests.{Accepts}
use Rattle.md_forms.specs.declared.form.Entry.{Entry}
use Rattle.md_attr.specs.Alternatives.{accepted}
use Rattle.md_constr.specs.declared.meaning.Meaning.{Meaning}
use Rattle.md_constr.specs.Admits.{form_admits}
use Rattle.md_constr.specs.machine.Tables.{definition_admits, entry_admits}

-- which operands are admitted, whatever predicates accept
abbrev pub Admitted : Type 0
Admitted = Accepts → Rtx → Bool

-- a definition that admits what is said, where a name has none yet
pub admits_added : (old new : Option (Option Meaning)) (m : Option Meaning) (give : Admitted) (b : Bool) → ((accepts : Accepts) (x : Rtx) → definition_admits m accepts x ≡ give accepts x)
    → new ≡ option_or old (if b then Some m else None) → option_map definition_admits new ≡ option_or (option_map definition_admits old) (if b then Some give else None)
admits_added old new m give b same made = ap (option_map definition_admits) made ∙ by_cases old b
  where
    gives : definition_admits m ≡ give
    gives = fun_ext (λ accepts. fun_ext (λ x. same accepts x))

    by_cases : (old : Option (Option Meaning)) (b : Bool) → option_map definition_admits (option_or old (if b then Some m else None)) ≡ option_or (option_map definition_admits old) (if b then Some give else None)
    by_cases (Some n) b = refl
    by_cases None true = ap (λ (g : Admitted). Some g) gives
    by_cases None false = refl

module _ (accepts : Accepts) (x : Rtx) where
  asked : Option Admitted → Bool
  asked None = false
  asked (Some admits) = admits accepts x

  table : (m : Option (Option Meaning)) → option_map_or (λ found. definition_admits found accepts x) m false ≡ asked (option_map definition_admits m)
  unfolding asked
  table None = refl
  table (Some n) = refl

  said : (e : Option Entry) → asked (option_map entry_admits e) ≡ option_map_or (λ f. form_admits accepts f x) (option_and_then accepted e) false
  unfolding asked
  said None = refl
  said (Some e) = refl

  -- what a name admits, by what its first definition does
  pub admits_found : (m : Option (Option Meaning)) (e : Option Entry) → option_map definition_admits m ≡ option_map entry_admits e
      → option_map_or (λ found. definition_admits found accepts x) m false ≡ option_map_or (λ f. form_admits accepts f x) (option_and_then accepted e) false
  admits_found m e same = table m ∙ ap asked same ∙ said e
