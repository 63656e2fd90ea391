-- What matches an instruction has its key.
use Rattle.std.proofs.Common.{◌≡◌, inl, inr, Bool, true, false, not, ◌&&◌, ◌||◌, if◌then◌else◌, cond, List, [], ◌∷◌, Option, Some, None, refl, ap, subst, ◌∙◌}
use Rattle.std.specs.Prelude.{option_map, option_and_then, slice_get, filter}
use Rattle.std.specs.List.{find}
use Rattle.rtx_tree.specs.declared.code.Code.{Code}
use Rattle.rtx_tree.specs.declared.code.Code.TheVariants.{Parallel}
use Rattle.rtx_tree.specs.declared.tree.Rtx.{Rtx}
use Rattle.rtx_tree.specs.Tree.{RtxHead, kids_of}
use Rattle.c_eval.specs.Value.{same_code}
use Rattle.c_eval.specs.declared.facts.Facts.{Facts}
use Rattle.md_match.specs.Pattern.{Ops, instantiated, all_instantiated}
use Rattle.md_forms.specs.declared.form.Form.{Form}
use Rattle.md_forms.specs.declared.form.Entry.{Entry}
use Rattle.md_recog.specs.Match.{Accepts}
use Rattle.md_recog.specs.declared.half.Half.{Half}
use Rattle.md_recog.specs.declared.half.Half.TheVariants as half
use Rattle.md_recog.specs.Recog.{has_half, is_scratch, window_of, patterns_of, EntryMatches}
use Rattle.recog_tree.specs.Key.{is_wild, code_of, effect_source, source_of, key_of, fits_source, has_key, only_pattern, leading, form_key, judged_key, entry_key, is_tried_by, is_tried}
use Rattle.recog_tree.proofs.Parts.{At, parts_at, one_of, first_of}
use Rattle.recog_tree.proofs.Effects.{same_self, MadeOf, made_of, effect_fits}

abbrev source_by : Bool → Rtx → Option Code
source_by is_parallel x = if is_parallel then option_and_then effect_source (slice_get (kids_of x) 0) else effect_source x

first_fits : (p x : Rtx) (o : Ops) → At (kids_of p) (kids_of x) o 0 → fits_source (source_by true p) (source_by true x) ≡ true
first_fits p x o (inl none) =
    ap (λ q. fits_source (option_and_then effect_source q) (source_by true x)) none.0 ∙ ap (λ y. fits_source None (option_and_then effect_source y)) none.1
first_fits p x o (inr both) =
    ap (λ q. fits_source (option_and_then effect_source q) (source_by true x)) both.pattern_at ∙
    (ap (λ y. fits_source (effect_source both.pattern) (option_and_then effect_source y)) both.expression_at ∙ effect_fits both.pattern both.expression o both.made)

-- a pattern that stands for itself has the source of what it makes
source_fits : (p x : Rtx) (o : Ops) → MadeOf p x o → instantiated p o ≡ Some x → fits_source (source_of p) (source_of x) ≡ true
source_fits p x o made m = by_parallel (same_code (code_of p) Parallel) refl
  where
    same : code_of p ≡ code_of x
    same = ap (λ (h : RtxHead). h.code) made.head

    by_parallel : (b : Bool) → same_code (code_of p) Parallel ≡ b → fits_source (source_of p) (source_of x) ≡ true
    by_parallel true s =
        let other : same_code (code_of x) Parallel ≡ true = subst (λ c. same_code c Parallel ≡ true) same s in
        ap (λ b. fits_source (source_by b p) (source_of x)) s ∙ (ap (λ b. fits_source (source_by true p) (source_by b x)) other ∙ first_fits p x o (parts_at (kids_of p) (kids_of x) o 0 made.parts))
    by_parallel false s =
        let other : same_code (code_of x) Parallel ≡ false = subst (λ c. same_code c Parallel ≡ false) same s in
        ap (λ b. fits_source (source_by b p) (source_of x)) s ∙ (ap (λ b. fits_source (source_by false p) (source_by b x)) other ∙ effect_fits p x o m)

both_true : (a b c : Bool) → b ≡ true → c ≡ true → (a || (b && c)) ≡ true
both_true true b c e f = refl
both_true false b c e f = ap (λ v. v && c) e ∙ f

-- the law of one pattern
pub made_has_key : (p x : Rtx) (o : Ops) → instantiated p o ≡ Some x → has_key (key_of p) (key_of x) ≡ true
made_has_key p x o m = by_wild (is_wild (code_of p)) refl
  where
    by_wild : (b : Bool) → is_wild (code_of p) ≡ b → has_key (key_of p) (key_of x) ≡ true
    by_wild true e = ap (λ b. b || (same_code (code_of p) (code_of x) && fits_source (source_of p) (source_of x))) e
    by_wild false e =
        let made = made_of p x o e m in
        let same : code_of p ≡ code_of x = ap (λ (h : RtxHead). h.code) made.head in
        both_true (is_wild (code_of p)) (same_code (code_of p) (code_of x)) (fits_source (source_of p) (source_of x))
        (subst (λ c. same_code (code_of p) c ≡ true) same (same_self (code_of p))) (source_fits p x o made m)

-- ---- forms

-- the first expression is made by the pattern that a half is found by
pub record Leads (h : Half) (ps : List Rtx) (x : Rtx) (o : Ops) : Type 0 where
  pub pattern : Rtx
  pub is : leading h ps ≡ Some pattern
  pub made : instantiated pattern o ≡ Some x

by_one : (h : Half) (ps : List Rtx) (x : Rtx) (o : Ops) → ((qs : List Rtx) → leading h qs ≡ only_pattern qs) → all_instantiated ps o ≡ Some (x ∷ []) → Leads h ps x o
by_one h ps x o only made =
    let one = one_of ps x o made in
    record { pattern = one.pattern; is = only ps ∙ ap only_pattern one.is; made = one.made }

-- the first of those that are kept is the first that passes
first_kept : (test : Rtx → Bool) (ps qs : List Rtx) (p : Rtx) → filter test ps ≡ p ∷ qs → find test ps ≡ Some p
first_kept test [] qs p is = absurd (let none : ⊥ = cc in none)
first_kept test (x ∷ xs) qs p is = by (test x) (first_kept test xs qs p) is
  where
    by : (b : Bool) → (filter test xs ≡ p ∷ qs → find test xs ≡ Some p) → cond b (x ∷ filter test xs) (filter test xs) ≡ p ∷ qs → cond b (Some x) (find test xs) ≡ Some p
    by true rest same = let one : x ≡ p = cc in ap Some one
    by false rest same = rest same

leads : (h : Half) (g : Form) (x : Rtx) (o : Ops) → all_instantiated (patterns_of h g) o ≡ Some (x ∷ []) → Leads h g.patterns x o
leads half.Insn g x o made = by_one half.Insn g.patterns x o (λ qs. refl) made
leads half.Split g x o made = by_one half.Split g.patterns x o (λ qs. refl) made
leads half.Window g x o made =
    let one = one_of (window_of g.patterns) x o made in
    record { pattern = one.pattern; is = first_kept (λ p. not (is_scratch p)) g.patterns [] one.pattern one.is; made = one.made }

form_has : (h : Half) (f : Form) (p : Rtx) → has_half h f.head ≡ true → leading h f.patterns ≡ Some p → form_key h f ≡ Some (key_of p)
form_has h f p has is =
    ap (λ (b : Bool). if b then option_map key_of (leading h f.patterns) else None) has ∙ ap (option_map key_of) is

-- the law of the forms: what matches is tried
pub matching_is_tried : (a : Accepts) (f : Facts) (h : Half) (i : Rtx) (e : Entry) (o : Ops) → EntryMatches a f h (i ∷ []) e o → is_tried h i e ≡ true
matching_is_tried a f h i e o m =
    let first = leads h m.says i o m.matches.matches.shape.made in
    let key : entry_key h e ≡ Some (key_of first.pattern) = ap (judged_key h) m.accepted ∙ form_has h m.says first.pattern m.matches.has first.is in
    ap (is_tried_by (key_of i)) key ∙ made_has_key first.pattern i o first.made

-- and the first of several
pub window_is_tried : (a : Accepts) (f : Facts) (i : Rtx) (more : List Rtx) (e : Entry) (o : Ops) → EntryMatches a f half.Window (i ∷ more) e o → is_tried half.Window i e ≡ true
window_is_tried a f i more e o m =
    let first = first_of (window_of m.says.patterns) i more o m.matches.matches.shape.made in
    let leads = first_kept (λ p. not (is_scratch p)) m.says.patterns first.more first.pattern first.is in
    let key : entry_key half.Window e ≡ Some (key_of first.pattern) =
    ap (judged_key half.Window) m.accepted ∙ form_has half.Window m.says first.pattern m.matches.has leads in
    ap (is_tried_by (key_of i)) key ∙ made_has_key first.pattern i o first.made
