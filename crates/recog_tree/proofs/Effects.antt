-- A pattern's source lets the source of what it makes through.
use Rattle.std.proofs.Common.{◌≡◌, inl, inr, Bool, true, false, not, ◌||◌, if◌then◌else◌, List, Option, Some, None, refl, sym, ap, subst, ◌∙◌}
use Rattle.std.specs.Prelude.{option_map}
use Rattle.std.specs.Str.{bytes_eq}
use Rattle.std.proofs.lemmas.Slice.Eq.{bytes_eq-Decides}
use Rattle.rtx_tree.specs.declared.code.Code.{Code}
use Rattle.rtx_tree.specs.declared.code.Code.TheVariants.{Set, MatchOperand, MatchScratch, MatchDup, MatchOperator, MatchOpDup}
use Rattle.rtx_tree.specs.declared.tree.Rtx.{Rtx}
use Rattle.rtx_tree.specs.Code.{code_name}
use Rattle.rtx_tree.specs.Tree.{RtxHead, head_of, kids_of, tree_of}
use Rattle.rtx_tree.proofs.Trees.{head_of-tree, kids_of-tree}
use Rattle.c_eval.specs.Value.{same_code}
use Rattle.md_match.specs.declared.role.Role.{Role}
use Rattle.md_match.specs.declared.role.Role.TheVariants.{Operand, Operator, Itself}
use Rattle.md_match.specs.Pattern.{Ops, role_of, instantiated, all_instantiated}
use Rattle.md_match.proofs.Instantiated.{made_itself}
use Rattle.recog_tree.specs.Key.{is_itself, is_wild, code_of, part_code, own_code, effect_source, fits_code, fits_source}
use Rattle.recog_tree.proofs.Parts.{At, parts_at}

-- ---- codes

pub same_self : (c : Code) → same_code c c ≡ true
same_self c = (bytes_eq-Decides (code_name c) (code_name c)).1 refl

-- what stands for other expressions is no code that has parts of its own
pub no_set : (c : Code) → is_wild c ≡ true → same_code c Set ≡ false
no_set MatchOperand e = refl
no_set MatchScratch e = refl
no_set MatchDup e = refl
no_set MatchOperator e = refl
no_set MatchOpDup e = refl
no_set _ e = absurd (let none : ⊥ = cc in none)

itself_of : (r : Role) → is_itself r ≡ true → r ≡ Itself
itself_of Itself e = refl
itself_of Operand e = absurd (let none : ⊥ = cc in none)
itself_of Operator e = absurd (let none : ⊥ = cc in none)

not_false : (b : Bool) → not b ≡ false → b ≡ true
not_false true e = refl
not_false false e = absurd (let none : ⊥ = cc in none)

role_itself : (c : Code) → is_wild c ≡ false → role_of c ≡ Itself
role_itself c e = itself_of (role_of c) (not_false (is_itself (role_of c)) e)

or_true : (a : Bool) → (a || true) ≡ true
or_true true = refl
or_true false = refl

-- ---- what a pattern that stands for itself makes

pub record MadeOf (p x : Rtx) (o : Ops) : Type 0 where
  pub head : head_of p ≡ head_of x
  pub parts : all_instantiated (kids_of p) o ≡ Some (kids_of x)

split : (h : RtxHead) (parts : Option (List Rtx)) (x : Rtx) → option_map (tree_of h) parts ≡ Some x → (h ≡ head_of x) × (parts ≡ Some (kids_of x))
split h None x e = absurd (let none : ⊥ = cc in none)
split h (Some ks) x e =
    let same : tree_of h ks ≡ x = cc in
    (sym (head_of-tree h ks) ∙ ap head_of same, ap Some (sym (kids_of-tree h ks) ∙ ap kids_of same))

pub made_of : (p x : Rtx) (o : Ops) → is_wild (code_of p) ≡ false → instantiated p o ≡ Some x → MadeOf p x o
made_of p x o e m =
    let both = split (head_of p) (all_instantiated (kids_of p) o) x (sym (made_itself p o (role_itself (code_of p) e)) ∙ m) in
    record { head = both.0; parts = both.1 }

-- the code of what a pattern makes is let through
pub code_fits : (p x : Rtx) (o : Ops) → instantiated p o ≡ Some x → fits_code (code_of p) (code_of x) ≡ true
code_fits p x o m = by_wild (is_wild (code_of p)) refl
  where
    by_wild : (b : Bool) → is_wild (code_of p) ≡ b → fits_code (code_of p) (code_of x) ≡ true
    by_wild true e = ap (λ b. b || same_code (code_of p) (code_of x)) e
    by_wild false e =
        let same : code_of p ≡ code_of x = ap (λ (h : RtxHead). h.code) (made_of p x o e m).head in
        ap (λ b. is_wild (code_of p) || b) (subst (λ c. same_code (code_of p) c ≡ true) same (same_self (code_of p))) ∙ or_true (is_wild (code_of p))

-- ---- the source of an effect

-- the source of an effect, by its code and by the code of its second part
abbrev source_by : Bool → Code → Option Code → Option Code
source_by is_set code part = if is_set then part else own_code code

wild_fits : (c : Code) (s : Option Code) → is_wild c ≡ true → fits_source (Some c) s ≡ true
wild_fits c (Some d) e = ap (λ b. b || same_code c d) e
wild_fits c None e = e

part_fits : (p x : Rtx) (o : Ops) → At (kids_of p) (kids_of x) o 1 → fits_source (part_code p 1) (part_code x 1) ≡ true
part_fits p x o (inl none) = ap (λ q. fits_source (option_map code_of q) (part_code x 1)) none.0 ∙ ap (λ y. fits_source None (option_map code_of y)) none.1
part_fits p x o (inr both) =
    ap (λ q. fits_source (option_map code_of q) (part_code x 1)) both.pattern_at ∙
    (ap (λ y. fits_source (Some (code_of both.pattern)) (option_map code_of y)) both.expression_at ∙ code_fits both.pattern both.expression o both.made)

-- an effect whose code stands for others has its own code for a source
wild_source : (x : Rtx) → is_wild (code_of x) ≡ true → effect_source x ≡ Some (code_of x)
wild_source x e =
    ap (λ b. source_by b (code_of x) (part_code x 1)) (no_set (code_of x) e) ∙ ap (λ (b : Bool). if b then Some (code_of x) else None) e

pub effect_fits : (p x : Rtx) (o : Ops) → instantiated p o ≡ Some x → fits_source (effect_source p) (effect_source x) ≡ true
effect_fits p x o m = by_wild (is_wild (code_of p)) refl
  where
    by_set : (b : Bool) → same_code (code_of p) Set ≡ b → is_wild (code_of p) ≡ false → code_of p ≡ code_of x → At (kids_of p) (kids_of x) o 1 → fits_source (effect_source p) (effect_source x) ≡ true
    by_set true s e same at =
        let other : same_code (code_of x) Set ≡ true = subst (λ c. same_code c Set ≡ true) same s in
        ap (λ b. fits_source (source_by b (code_of p) (part_code p 1)) (effect_source x)) s ∙
        (ap (λ b. fits_source (part_code p 1) (source_by b (code_of x) (part_code x 1))) other ∙ part_fits p x o at)
    by_set false s e same at =
        let other : same_code (code_of x) Set ≡ false = subst (λ c. same_code c Set ≡ false) same s in
        let tame : is_wild (code_of x) ≡ false = subst (λ c. is_wild c ≡ false) same e in
        ap (λ b. fits_source (source_by b (code_of p) (part_code p 1)) (effect_source x)) s ∙
        (ap (λ b. fits_source (own_code (code_of p)) (source_by b (code_of x) (part_code x 1))) other ∙
        (ap (λ (b : Bool). fits_source (if b then Some (code_of p) else None) (own_code (code_of x))) e ∙
        ap (λ (b : Bool). fits_source None (if b then Some (code_of x) else None)) tame))

    by_wild : (b : Bool) → is_wild (code_of p) ≡ b → fits_source (effect_source p) (effect_source x) ≡ true
    by_wild true e = ap (λ s. fits_source s (effect_source x)) (wild_source p e) ∙ wild_fits (code_of p) (effect_source x) e
    by_wild false e =
        let made = made_of p x o e m in
        by_set (same_code (code_of p) Set) refl e (ap (λ (h : RtxHead). h.code) made.head) (parts_at (kids_of p) (kids_of x) o 1 made.parts)
