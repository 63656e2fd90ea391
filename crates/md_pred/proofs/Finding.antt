-- The first definition of a name, with one form more.
use Rattle.std.proofs.Common.{◌≡◌, ℕ, Bool, true, false, if◌then◌else◌, List, [], ◌∷◌, ◌++◌, Some, None, refl, sym, ap, ◌∙◌}
use Rattle.std.specs.List.{find}
use Rattle.std.specs.Option.{option_or}
use Rattle.std.proofs.lemmas.List.Folds.{find-append}
use Rattle.md_forms.specs.md_draft.Head.{head_named}
use Rattle.md_forms.specs.declared.form.Entry.{Entry}
use Rattle.md_forms.specs.md_tables.Tables.{defines_predicate}
use Rattle.md_pred.specs.Holds.{is_named, defines}
use Rattle.md_pred.specs.machine.Steps.{predicate_name}

-- a form defines the name that it gives a predicate
pub defines_named : (name : List ℕ) (e : Entry) → defines name e ≡ is_named (predicate_name e) name
defines_named name e = by_test (defines_predicate (head_named e.head)) refl
  where
    by_test : (b : Bool) → defines_predicate (head_named e.head) ≡ b → defines name e ≡ is_named (predicate_name e) name
    by_test true is = rw is refl
    by_test false is = rw is refl

find_one : (name : List ℕ) (e : Entry) → find (defines name) (e ∷ []) ≡ (if is_named (predicate_name e) name then Some e else None)
find_one name e = by_test (defines name e) refl
  where
    by_test : (b : Bool) → defines name e ≡ b → find (defines name) (e ∷ []) ≡ (if is_named (predicate_name e) name then Some e else None)
    by_test true is = rw (sym (defines_named name e)) (rw is refl)
    by_test false is = rw (sym (defines_named name e)) (rw is refl)

-- one form more
pub find_more : (name : List ℕ) (es : List Entry) (e : Entry) → find (defines name) (es ++ e ∷ []) ≡ option_or (find (defines name) es) (if is_named (predicate_name e) name then Some e else None)
find_more name es e = find-append (defines name) es (e ∷ []) ∙ ap (option_or (find (defines name) es)) (find_one name e)
