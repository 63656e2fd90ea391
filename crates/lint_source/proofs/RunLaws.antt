-- The runs of parts tell of each form the file of its tree.
use Rattle.std.proofs.Common.{◌≡◌, ℕ, zero, suc, inl, inr, ◌+◌, ◌-◌, ◌<◌, ◌≤◌, Bool, cond, List, [], ◌∷◌, ◌++◌, length, take, drop, get_or, replicate, find, slice_get, option_map, Some, refl, sym, ap, ap₂, subst, ◌∙◌, append_assoc, append-nil, length-append, length-drop, arith}
use Rattle.std.proofs.lemmas.Bool.{cases_lt, lt-ltb, le-ltb}
use Rattle.std.proofs.lemmas.Grind.{flat_map-append}
use Rattle.std.proofs.lemmas.List.{drop-drop, length-replicate, take-append-drop}
use Rattle.std.proofs.Math.Seq.{take-add}
use Rattle.lisp_read.specs.declared.tree.Tree.{Tree}
use Rattle.md_iter.specs.declared.definition.Definitions.{Definitions}
use Rattle.md_iter.specs.Definition.{definitions_in}
use Rattle.md_iter.specs.Expansion.{forms_of_tree, forms_with}
use Rattle.md_source.specs.Source.{Source}
use Rattle.lint_choices.proofs.PushedLaws.{opened}
use Rattle.lint_source.specs.declared.part.Part.{Part}
use Rattle.lint_source.specs.declared.run.Run.{Run}
use Rattle.lint_source.specs.Runs.{form_files, ends_behind, file_told, AreRuns}
use Rattle.lint_source.specs.machine.Steps.{part_files, files_of, Stand, run_list, AreRunsOf}

-- ---- elements of a list that begins with one element many times

get_front : {A : Type 0} (n : ℕ) (x : A) (ys : List A) (k : ℕ) → k < n → slice_get (replicate n x ++ ys) k ≡ Some x
get_front zero x ys k within = absurd (omega arith)
get_front (suc n) x ys zero within = refl
get_front (suc n) x ys (suc k) within = get_front n x ys k (omega arith)

get_behind : {A : Type 0} (n : ℕ) (x : A) (ys : List A) (k : ℕ) → slice_get (replicate n x ++ ys) (n + k) ≡ slice_get ys k
get_behind zero x ys k = ap (slice_get ys) (omega arith)
get_behind (suc n) x ys k = let next : suc n + k ≡ suc (n + k) = omega arith in ap (slice_get (x ∷ (replicate n x ++ ys))) next ∙ get_behind n x ys k

replicate_both : {A : Type 0} (n m : ℕ) (x : A) → replicate n x ++ replicate m x ≡ replicate (n + m) x
replicate_both zero m x = ap (λ (k : ℕ). replicate k x) (omega arith)
replicate_both (suc n) m x = let next : suc n + m ≡ suc (n + m) = omega arith in ap (λ xs. x ∷ xs) (replicate_both n m x) ∙ ap (λ (k : ℕ). replicate k x) (sym next)

-- ---- the files of the forms of a part

part_forms : (definitions : Definitions) (file : List ℕ) (files : List (List ℕ)) (firsts trees : List Tree) →
    form_files definitions (replicate (length firsts) file ++ files) (firsts ++ trees) ≡ replicate (length (forms_with definitions firsts)) file ++ form_files definitions files trees
part_forms definitions file files [] trees = refl
part_forms definitions file files (t ∷ firsts) trees =
    ap (λ (fs : List (List ℕ)). replicate (length (forms_of_tree definitions t)) file ++ fs) (part_forms definitions file files firsts trees)
    ∙ sym (append_assoc (replicate (length (forms_of_tree definitions t)) file) (replicate (length (forms_with definitions firsts)) file) (form_files definitions files trees))
    ∙ ap (λ (fs : List (List ℕ)). fs ++ form_files definitions files trees)
    (replicate_both (length (forms_of_tree definitions t)) (length (forms_with definitions firsts)) file
    ∙ ap (λ (k : ℕ). replicate k file) (sym (length-append (forms_of_tree definitions t) (forms_with definitions firsts))))

-- ---- what runs tell

taken_all : {A : Type 0} (n : ℕ) (xs : List A) → n ≤ length xs → length (take n xs) ≡ n
taken_all zero xs within = refl
taken_all (suc n) [] within = absurd (omega arith)
taken_all (suc n) (x ∷ xs) within = ap suc (taken_all n xs (omega arith))

told_here : (r : Run) (more : List Run) (form : ℕ) → form < r.end → file_told (r ∷ more) form ≡ Some r.file
told_here r more form h = ap (λ (b : Bool). option_map (λ (q : Run). q.file) (cond b (Some r) (find (ends_behind form) more))) (lt-ltb form r.end h)

told_later : (r : Run) (more : List Run) (form : ℕ) → r.end ≤ form → file_told (r ∷ more) form ≡ file_told more form
told_later r more form h = ap (λ (b : Bool). option_map (λ (q : Run). q.file) (cond b (Some r) (find (ends_behind form) more))) (le-ltb form r.end h)

split_forms : (definitions : Definitions) (file : List ℕ) (files : List (List ℕ)) (n : ℕ) (trees : List Tree) → n ≤ length trees →
    form_files definitions (replicate n file ++ files) trees ≡ replicate (length (forms_with definitions (take n trees))) file ++ form_files definitions files (drop n trees)
split_forms definitions file files n trees within =
    ap₂ (λ (m : ℕ) (ts : List Tree). form_files definitions (replicate m file ++ files) ts) (sym (taken_all n trees within)) (sym (take-append-drop n trees)) ∙ part_forms definitions file files (take n trees) (drop n trees)

tells_part : (definitions : Definitions) (p : Part) (ps : List Part) (before : ℕ) (trees : List Tree) (form at own : ℕ) → own ≡ length (forms_with definitions (take p.trees trees)) → length (files_of (p ∷ ps)) ≡ length trees → form ≡ before + at →
    (length (files_of ps) ≡ length (drop p.trees trees) → form ≡ before + own + (at - own) → file_told (run_list definitions (before + own) (drop p.trees trees) ps) form ≡ slice_get (form_files definitions (files_of ps) (drop p.trees trees)) (at - own)) →
    file_told (record { file = p.file; end = before + own } ∷ run_list definitions (before + own) (drop p.trees trees) ps) form ≡ slice_get (replicate own p.file ++ form_files definitions (files_of ps) (drop p.trees trees)) at
tells_part definitions p ps before trees form at own owned many place on = elim (cases_lt at own) [
  | inl h ↦ told_here (record { file = p.file; end = before + own }) (run_list definitions (before + own) (drop p.trees trees) ps) form (omega arith)
      ∙ sym (get_front own p.file (form_files definitions (files_of ps) (drop p.trees trees)) at h)
  | inr h ↦ (let as_many : p.trees + length (files_of ps) ≡ length trees = omega (arith, length-append (part_files p) (files_of ps), length-replicate p.trees p.file, many) in
      let index : own + (at - own) ≡ at = omega arith in
      told_later (record { file = p.file; end = before + own }) (run_list definitions (before + own) (drop p.trees trees) ps) form (omega arith)
      ∙ on (omega (arith, as_many, length-drop p.trees trees)) (omega arith)
      ∙ sym (get_behind own p.file (form_files definitions (files_of ps) (drop p.trees trees)) (at - own))
      ∙ ap (slice_get (replicate own p.file ++ form_files definitions (files_of ps) (drop p.trees trees))) index)
]

tells : (definitions : Definitions) (parts : List Part) (before : ℕ) (trees : List Tree) (form at : ℕ) → length (files_of parts) ≡ length trees → form ≡ before + at →
    file_told (run_list definitions before trees parts) form ≡ slice_get (form_files definitions (files_of parts) trees) at
tells definitions [] before trees form at many place = refl
tells definitions (p ∷ ps) before trees form at many place =
    let own : ℕ = length (forms_with definitions (take p.trees trees)) in
    let within : p.trees ≤ length trees = omega (arith, length-append (part_files p) (files_of ps), length-replicate p.trees p.file, many) in
    tells_part definitions p ps before trees form at own refl many place (λ m f. tells definitions ps (before + own) (drop p.trees trees) form (at - own) m f)
    ∙ ap (λ (fs : List (List ℕ)). slice_get fs at) (sym (split_forms definitions p.file (files_of ps) p.trees trees within))

-- what the runs of all parts tell, the runs of a description do
pub are_runs : (source : Source) (name : List ℕ) (trees : List Tree) (parts lent_parts : List Part) (runs : List Run) → lent_parts ≡ parts → Stand source name [] parts → AreRunsOf trees lent_parts runs → AreRuns source name trees runs
are_runs source name trees parts lent_parts runs same stand of = record {
  files = stand.files;
  stand = stand.has;
  as_many = ap length files ∙ of.as_many;
  each = λ form. ap (λ (rs : List Run). file_told rs form) of.runs_are ∙ tells (definitions_in trees) lent_parts 0 trees form form of.as_many (omega arith)
      ∙ ap (λ (fs : List (List ℕ)). slice_get (form_files (definitions_in trees) fs trees) form) (sym files);
}
  where
    files : stand.files ≡ files_of lent_parts
    files = sym stand.behind ∙ ap files_of (sym same)

-- ---- one part after the other

-- the runs so far are those of the first parts, which have so many trees; the other parts are these
pub record Goes (trees : List Tree) (parts rest : List Part) (runs : List Run) (before : ℕ) : Type 0 where
  pub within : before ≤ length trees
  pub many : before + length (files_of rest) ≡ length (files_of parts)
  pub so_far : runs ++ run_list (definitions_in trees) (length (forms_with (definitions_in trees) (take before trees))) (drop before trees) rest ≡ run_list (definitions_in trees) 0 trees parts

pub starts : (trees : List Tree) (parts : List Part) → Goes trees parts parts [] 0
starts trees parts = record { within = omega arith; many = omega arith; so_far = refl }

pub goes_on : (trees : List Tree) (parts : List Part) (i : ℕ) (p : Part) (runs new : List Run) (before now n : ℕ) → i < length parts → p ≡ get_or parts i p → now ≡ before + p.trees → now ≤ length trees →
    n ≡ length (forms_with (definitions_in trees) (take now trees)) → new ≡ runs ++ record { file = p.file; end = n } ∷ [] → Goes trees parts (drop i parts) runs before → Goes trees parts (drop (i + 1) parts) new now
goes_on trees parts i p runs new before now n inside is next fits count made goes = record {
  within = fits;
  many = many;
  so_far = so_far;
}
  where
    here : drop i parts ≡ p ∷ drop (i + 1) parts
    here = opened parts i p inside is

    many : now + length (files_of (drop (i + 1) parts)) ≡ length (files_of parts)
    many = let whole : before + length (files_of (p ∷ drop (i + 1) parts)) ≡ length (files_of parts) = subst (λ (ps : List Part). before + length (files_of ps) ≡ length (files_of parts)) here goes.many in
        omega (arith, whole, next, length-append (part_files p) (files_of (drop (i + 1) parts)), length-replicate p.trees p.file)

    forms : length (forms_with (definitions_in trees) (take before trees)) + length (forms_with (definitions_in trees) (take p.trees (drop before trees))) ≡ n
    forms = sym (count ∙ ap (λ (k : ℕ). length (forms_with (definitions_in trees) (take k trees))) next
        ∙ ap (λ (ts : List Tree). length (forms_with (definitions_in trees) ts)) (take-add before p.trees trees)
        ∙ ap length (flat_map-append (forms_of_tree (definitions_in trees)) (take before trees) (take p.trees (drop before trees)))
        ∙ length-append (forms_with (definitions_in trees) (take before trees)) (forms_with (definitions_in trees) (take p.trees (drop before trees))))

    left : drop p.trees (drop before trees) ≡ drop now trees
    left = drop-drop p.trees before trees ∙ ap (λ (k : ℕ). drop k trees) (sym next)

    so_far : new ++ run_list (definitions_in trees) (length (forms_with (definitions_in trees) (take now trees))) (drop now trees) (drop (i + 1) parts) ≡ run_list (definitions_in trees) 0 trees parts
    so_far = ap (λ (rs : List Run). rs ++ run_list (definitions_in trees) (length (forms_with (definitions_in trees) (take now trees))) (drop now trees) (drop (i + 1) parts)) made
        ∙ append_assoc runs (record { file = p.file; end = n } ∷ []) (run_list (definitions_in trees) (length (forms_with (definitions_in trees) (take now trees))) (drop now trees) (drop (i + 1) parts))
        ∙ ap (λ (k : ℕ). runs ++ record { file = p.file; end = n } ∷ run_list (definitions_in trees) k (drop now trees) (drop (i + 1) parts)) (sym count)
        ∙ ap₂ (λ (k : ℕ) (ts : List Tree). runs ++ record { file = p.file; end = k } ∷ run_list (definitions_in trees) k ts (drop (i + 1) parts)) (sym forms) (sym left)
        ∙ ap (λ (ps : List Part). runs ++ run_list (definitions_in trees) (length (forms_with (definitions_in trees) (take before trees))) (drop before trees) ps) (sym here)
        ∙ goes.so_far

pub ends : (trees : List Tree) (parts rest : List Part) (runs : List Run) (before count : ℕ) → rest ≡ [] → count ≡ length trees → count ≤ before → Goes trees parts rest runs before → AreRunsOf trees parts runs
ends trees parts rest runs before count none many all goes = record {
  as_many = let whole : before + 0 ≡ length (files_of parts) = subst (λ (ps : List Part). before + length (files_of ps) ≡ length (files_of parts)) none goes.many in omega (arith, whole, goes.within);
  runs_are = sym (append-nil runs) ∙ subst (λ (ps : List Part). runs ++ run_list (definitions_in trees) (length (forms_with (definitions_in trees) (take before trees))) (drop before trees) ps ≡ run_list (definitions_in trees) 0 trees parts) none goes.so_far;
}
