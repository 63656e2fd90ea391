-- What is kept of definitions, with one form more.
use Rattle.std.proofs.Common.{◌≡◌, ℕ, ◌+◌, ◌<◌, ◌≤◌, Bool, true, false, ◌&&◌, List, [], ◌∷◌, ◌++◌, Option, Some, None, Result, Ok, Err, length, take, get_or, refl, sym, ap, subst, ◌∙◌, arith}
use Rattle.std.proofs.Math.Bool.{and-false}
use Rattle.std.specs.List.{find}
use Rattle.std.specs.Option.{option_or, IfSome}
use Rattle.std.specs.Result.{OnOk}
use Rattle.std.specs.Str.{bytes_eq}
use Rattle.std.proofs.lemmas.List.{take_more, take_all, length-take}
use Rattle.plain_data.specs.declared.memory.Memory.{Memory}
use Rattle.rtx_tree.specs.declared.code.Mode.{Mode}
use Rattle.rtx_tree.specs.declared.tree.Rtx.{Rtx}
use Rattle.md_forms.specs.md_pattern.declared.reason.Reason.{Reason}
use Rattle.md_forms.specs.md_draft.declared.head.FormHead.TheVariants as head
use Rattle.md_forms.specs.declared.form.Form.{Form}
use Rattle.md_forms.specs.declared.form.Entry.{Entry}
use Rattle.name_places.proofs.TextKeys.{same_text}
use Rattle.pred_rows.specs.declared.node.Node.{Node}
use Rattle.pred_rows.specs.Tests.{Accepts}
use Rattle.pred_rows.proofs.Answering.{holds_still}
use Rattle.md_pred.specs.declared.definitions.Definition.{Definition}
use Rattle.md_pred.specs.declared.definitions.Definitions.{Definitions}
use Rattle.md_pred.specs.Holds.{mode_fits, defines}
use Rattle.md_pred.specs.machine.Table.{definition_in, root_holds}
use Rattle.md_pred.specs.machine.Steps.{predicate_name, Keeps, KeepsFirst, AreKept, HasNow, Defines}
use Rattle.md_pred.proofs.Finding.{find_more}

or_none : {X : Type 0} (o : Option X) → option_or o None ≡ o
or_none None = refl
or_none (Some x) = refl

-- ---- rows that grow

longer : (old new : List Node) → take (length old) new ≡ old → length old ≤ length new
longer old new kept =
    let cut : length (take (length old) new) ≡ length old = ap length kept in
    omega (arith, cut, length-take (length old) new)

root_within : (old new : List Node) (root : Option ℕ) → take (length old) new ≡ old → IfSome root (λ r. r < length old) → IfSome root (λ r. r < length new)
root_within old new None kept inside = inside
root_within old new (Some r) kept inside = omega (arith, inside, longer old new kept)

root_still : (old new : List Node) (root : Option ℕ) → take (length old) new ≡ old → IfSome root (λ r. r < length old) → (other : Accepts) (x : Rtx) (m : Mode) → root_holds other x m new root ≡ root_holds other x m old root
root_still old new None kept inside other x m = refl
root_still old new (Some r) kept inside other x m = holds_still other x m old new r kept inside

keeps_still : (old new : List Node) (form : Result Form Reason) (d : Definition) → take (length old) new ≡ old → Keeps old form d → Keeps new form d
keeps_still old new form d kept is = record {
  within = root_within old new d.root kept is.within;
  means = λ other x m. ap (λ (b : Bool). mode_fits d.head m x && b) (root_still old new d.root kept is.within other x m) ∙ is.means other x m;
}

first_still : (old new : List Node) (d : Option Definition) (e : Option Entry) → take (length old) new ≡ old → KeepsFirst old d e → KeepsFirst new d e
first_still old new None None kept is = is
first_still old new (Some d) (Some e) kept is = keeps_still old new e.form d kept is
first_still old new None (Some e) kept is = is
first_still old new (Some d) None kept is = is

-- ---- one form more

-- a form that defines no predicate
pub passed : (ds : Definitions) (e : Entry) → predicate_name e ≡ None → (es : List Entry) → AreKept ds es → AreKept ds (es ++ e ∷ [])
passed ds e none es are name =
    let same : find (defines name) (es ++ e ∷ []) ≡ find (defines name) es = find_more name es e ∙ rw none (or_none (find (defines name) es)) in
    rw same (are name)

-- the name that is defined
first_now : (old new : Definitions) (name : List ℕ) (e : Entry) → Defines old new name e.form → (before : Option Entry) → (d : Option Definition) → definition_in old name ≡ d → KeepsFirst old.rows d before
    → KeepsFirst new.rows (definition_in new name) (option_or before (Some e))
first_now old new name e now None None was is = by_now (definition_in new name) (now.made was)
  where
    by_now : (d : Option Definition) → HasNow new.rows e.form d → KeepsFirst new.rows d (Some e)
    by_now None has = has
    by_now (Some d) has = has
first_now old new name e now (Some first) (Some d) was is =
    let had : IfSome (Some d) (λ k. definition_in new name ≡ Some k) = rw was at now.had in
    rw had (keeps_still old.rows new.rows first.form d now.rows is)
first_now old new name e now None (Some d) was is = absurd is
first_now old new name e now (Some first) None was is = absurd is

-- a form that defines a predicate
pub added : (old new : Definitions) (name : List ℕ) (e : Entry) → predicate_name e ≡ Some name → Defines old new name e.form → (es : List Entry) → AreKept old es → AreKept new (es ++ e ∷ [])
added old new name e named now es are other = by_test (bytes_eq name other) refl
  where
    by_test : (b : Bool) → bytes_eq name other ≡ b → KeepsFirst new.rows (definition_in new other) (find (defines other) (es ++ e ∷ []))
    by_test true same =
        let is : name ≡ other = same_text name other same in
        let here : KeepsFirst new.rows (definition_in new name) (option_or (find (defines name) es) (Some e)) = first_now old new name e now (find (defines name) es) (definition_in old name) refl (are name) in
        let there : KeepsFirst new.rows (definition_in new other) (option_or (find (defines other) es) (Some e)) =
        subst (λ (text : List ℕ). KeepsFirst new.rows (definition_in new text) (option_or (find (defines text) es) (Some e))) is here in
        rw (find_more other es e) (rw named (rw same there))
    by_test false differ =
        let still : KeepsFirst new.rows (definition_in old other) (find (defines other) es) = first_still old.rows new.rows (definition_in old other) (find (defines other) es) now.rows (are other) in
        rw (find_more other es e) (rw named (rw differ (rw (or_none (find (defines other) es)) (rw (now.others other differ) still))))

-- ---- a form that is set aside

pub set_aside : (nodes : List Node) (form : Result Form Reason) (r : Reason) → form ≡ Err r → Keeps nodes form (record { head = head.Predicate; root = None })
set_aside nodes form r is = rw is (record { within = tt; means = λ other x m. and-false (mode_fits head.Predicate m x) })

-- ---- all forms, one behind the other

pub nothing_kept : (ds : Definitions) → ((name : List ℕ) → definition_in ds name ≡ None) → AreKept ds []
nothing_kept ds none name = rw (none name) tt

pub added_then : {A : Type 0} (old new : Definitions) (name : List ℕ) (e : Entry) (r : Result A Memory) → Some name ≡ predicate_name e → OnOk r (Defines old new name e.form)
    → OnOk r ((es : List Entry) → AreKept old es → AreKept new (es ++ e ∷ []))
added_then old new name e (Ok a) named now = added old new name e (sym named) now
added_then old new name e (Err r) named now = tt

pub next_kept : (old new : Definitions) (es : List Entry) (i : ℕ) (e : Entry) → i < length es → e ≡ get_or es i e → ((front : List Entry) → AreKept old front → AreKept new (front ++ e ∷ []))
    → AreKept old (take i es) → AreKept new (take (i + 1) es)
next_kept old new es i e within is more are =
    let longer : take (i + 1) es ≡ take i es ++ e ∷ [] = take_more es i e within ∙ ap (λ (u : Entry). take i es ++ u ∷ []) (sym is) in
    rw longer (more (take i es) are)

pub all_kept : (ds : Definitions) (es : List Entry) (i : ℕ) → length es ≤ i → AreKept ds (take i es) → AreKept ds es
all_kept ds es i all are = rw (take_all i es all) at are
