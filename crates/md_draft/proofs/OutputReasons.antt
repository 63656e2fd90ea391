-- An output sets its form aside with the smallest of the reasons that it has.
use Rattle.std.proofs.Common.{◌≡◌, ◌≤◌, ℕ, ◌==◌, ◌&&◌, ◌||◌, Bool, true, false, true≢false, List, [], ◌∷◌, Option, Some, None, Result, Ok, Err, if◌then◌else◌, refl, sym, ap, subst, ◌∙◌, arith}
use Rattle.std.proofs.lemmas.Bool.{eqb-true}
use Rattle.std.specs.List.{list_any}
use Rattle.lisp_read.specs.declared.tree.Tree.{Tree, out-Tree}
use Rattle.lisp_read.specs.declared.tree.Tree.TheOpen.{Tree-F}
use Rattle.lisp_read.specs.Shape.{string_of, string_at}
use Rattle.md_text.specs.declared.template.Piece.{Piece}
use Rattle.md_text.specs.declared.template.Template.TheVariants as template
use Rattle.md_text.specs.declared.template.Reading.TheVariants as reading
use Rattle.md_text.specs.Lists.{each}
use Rattle.md_text.specs.Template.{template_of, is_code, is_split, is_several, is_code_line, behind_first, lines, spaced_line_of, line_of, each_line, one, several}
use Rattle.md_compact.specs.declared.block.Block.{Block}
use Rattle.md_compact.specs.Block.{block_of}
use Rattle.md_compact.specs.Old.{old_template, has_expression}
use Rattle.md_pattern.specs.declared.reason.Reason.{Reason}
use Rattle.md_pattern.specs.declared.reason.Reason.TheVariants as reason
use Rattle.md_pattern.specs.Reason.{number_of, IsSmallest}
use Rattle.md_pattern.proofs.Smallest.{change}
use Rattle.rtx_tree.specs.declared.place.Place.{Place}
use Rattle.md_draft.specs.declared.draft.Output.{Output}
use Rattle.md_draft.specs.declared.draft.Output.TheVariants as output
use Rattle.md_draft.specs.Conditions.{written, written_at}
use Rattle.md_draft.specs.Outputs.{fits, is_compact, output_by, unless_code, quoted, rows_output, braced, block_at, block_of_tree, output_at, output_of_tree}
use Rattle.md_draft.specs.OutputReasons.{is_code_text, braces_at, braces_of, IsTemplate, IsBraced, OutputHasReason}

same_text : (a b : List ℕ) (o : Option (List ℕ)) → o ≡ Some a → o ≡ Some b → a ≡ b
same_text a b o first second = let e : ◌≡◌ {A = Option (List ℕ)} (Some a) (Some b) = sym first ∙ second in cc

same_block : (a b : Block) (o : Option Block) → o ≡ Some a → o ≡ Some b → a ≡ b
same_block a b o first second = let e : ◌≡◌ {A = Option Block} (Some a) (Some b) = sym first ∙ second in cc

not_both : {X P : Type 0} (x : X) (o : Option X) → o ≡ None → o ≡ Some x → P
not_both {X} x o none some = absurd (let e : ◌≡◌ {A = Option X} None (Some x) = sym none ∙ some in let no : ⊥ = cc in no)

-- ---- a template that is C code

-- the reason that a template gives that isn't too long
abbrev IsCCode : List ℕ → Reason → Type 0
IsCCode text r = (r ≡ reason.CCode) × (is_code_text text ≡ true)

split_not_several : (text : List ℕ) → is_split text ≡ true → is_several text ≡ false
split_not_several [] is = absurd (true≢false (sym is))
split_not_several (b ∷ []) is = ap (λ n. n == 64) (eqb-true b 35 is)
split_not_several (b ∷ c ∷ rest) is = absurd (true≢false (sym is))

module _ (text : List ℕ) where
  abbrev Smallest : Result Output Reason → Type 0
  Smallest = IsSmallest (IsCCode text)

  five : (s : Reason) → IsCCode text s → 5 ≤ number_of s
  five s has = subst (λ r. 5 ≤ number_of r) (sym has.0) (omega arith)

  is_it : is_code_text text ≡ true → Smallest (Err reason.CCode)
  is_it is = ((refl, is), five)

  is_none : (o : Output) → is_code_text text ≡ false → Smallest (Ok o)
  is_none o is = λ r has. true≢false (sym has.1 ∙ is)

  abbrev a_line : Bool
  a_line = list_any is_code_line (lines (behind_first text))

  by_line : is_code text ≡ false → is_several text ≡ true → is_code_text text ≡ a_line
  by_line plain at = ap (λ c. c || (is_several text && a_line)) plain ∙ ap (λ s. s && a_line) at

  no_line : is_code text ≡ false → is_several text ≡ false → is_code_text text ≡ false
  no_line plain not = ap (λ c. c || (is_several text && a_line)) plain ∙ ap (λ s. s && a_line) not

  of_one : (o : Option (List Piece)) → is_code_text text ≡ false → Smallest (output_by (one o))
  of_one None is = is_none output.Outside is
  of_one (Some line) is = is_none (output.Template (template.One line)) is

  of_several : (o : Option (List (List Piece))) → is_code_text text ≡ false → Smallest (output_by (several o))
  of_several None is = is_none output.Outside is
  of_several (Some all) is = is_none (output.Template (template.Each all)) is

  by_lines : (b : Bool) → a_line ≡ b → is_code text ≡ false → is_several text ≡ true →
      Smallest (output_by (if b then reading.Code else several (each spaced_line_of (lines (behind_first text)))))
  by_lines true is plain at = is_it (by_line plain at ∙ is)
  by_lines false is plain at = of_several (each spaced_line_of (lines (behind_first text))) (by_line plain at ∙ is)

  by_several : (b : Bool) → is_several text ≡ b → is_code text ≡ false →
      Smallest (output_by (if b then each_line (lines (behind_first text)) else one (line_of text)))
  by_several true at plain = by_lines a_line refl plain at
  by_several false not plain = of_one (line_of text) (no_line plain not)

  by_split : (b : Bool) → is_split text ≡ b → is_code text ≡ false →
      Smallest (output_by (if b then reading.Template template.Split else (if is_several text then each_line (lines (behind_first text)) else one (line_of text))))
  by_split true split plain = is_none (output.Template template.Split) (no_line plain (split_not_several text split))
  by_split false other plain = by_several (is_several text) refl plain

  by_code : (b : Bool) → is_code text ≡ b →
      Smallest (output_by (if b then reading.Code else (if is_split text then reading.Template template.Split else (if is_several text then each_line (lines (behind_first text)) else one (line_of text)))))
  by_code true is = is_it (ap (λ c. c || (is_several text && a_line)) is)
  by_code false plain = by_split (is_split text) refl plain

  of_template : Smallest (output_by (template_of text))
  of_template = by_code (is_code text) refl

-- ---- an output

two : (t : Tree) (s : Reason) → OutputHasReason t s → 2 ≤ number_of s
two t _ (OutputHasReason.no_text none) = omega arith
two t _ (OutputHasReason.long_template text at long) = omega arith
two t _ (OutputHasReason.long_code text at long) = omega arith
two t _ (OutputHasReason.code_template text at is) = omega arith
two t _ (OutputHasReason.code_row block at is) = omega arith
two t _ (OutputHasReason.code text at) = omega arith

module _ (t : Tree) where
  abbrev Least : Result Output Reason → Type 0
  Least = IsSmallest (OutputHasReason t)

  -- neither in quotes nor in braces
  no_text : written t ≡ None → Least (Err reason.Parts)
  no_text none = (OutputHasReason.no_text none, two t)

  -- a template, which no other tree of the form could be
  module _ (text : List ℕ) (is : IsTemplate t text) (only : (other : List ℕ) → IsTemplate t other → other ≡ text)
      (there : written t ≡ None → ⊥) (unbraced : (other : List ℕ) → IsBraced t other → ⊥)
      (no_rows : (block : Block) → block_of_tree t ≡ Some block → has_expression block ≡ true → ⊥) where
    to : (r : Reason) → IsCCode text r → OutputHasReason t r
    to r has = subst (OutputHasReason t) (sym has.0) (OutputHasReason.code_template text is has.1)

    from : fits text ≡ true → (r : Reason) → OutputHasReason t r → IsCCode text r
    from fit _ (OutputHasReason.no_text none) = absurd (there none)
    from fit _ (OutputHasReason.long_template other at long) = absurd (true≢false (sym fit ∙ (ap fits (sym (only other at)) ∙ long)))
    from fit _ (OutputHasReason.long_code other at long) = absurd (unbraced other at)
    from fit _ (OutputHasReason.code_template other at code) = (refl, ap is_code_text (sym (only other at)) ∙ code)
    from fit _ (OutputHasReason.code_row block at code) = absurd (no_rows block at code)
    from fit _ (OutputHasReason.code other at) = absurd (unbraced other at)

    by_fits : (b : Bool) → fits text ≡ b → Least (if b then output_by (template_of text) else Err reason.Parts)
    by_fits true fit = change (IsCCode text) (OutputHasReason t) (output_by (template_of text)) to (from fit) (of_template text)
    by_fits false long = (OutputHasReason.long_template text is long, two t)

    of_text : Least (quoted text)
    of_text = by_fits (fits text) refl

  -- ---- in quotes

  of_quotes : (place : Place) (text : List ℕ) → out-Tree t ≡ Tree-F.Str place text → Least (quoted text)
  of_quotes place text is =
      of_text text (IsTemplate.quoted text string) only
      (λ none. not_both text (written t) none (ap written_at is))
      (λ other at. not_both other (braces_of t) (ap braces_at is) at.braces)
      (λ block at code. not_both block (block_of_tree t) no_block at)
    where
      string : string_of t ≡ Some text
      string = ap string_at is

      no_block : block_of_tree t ≡ None
      no_block = ap block_at is

      only : (other : List ℕ) → IsTemplate t other → other ≡ text
      only _ (IsTemplate.quoted other at) = same_text other text (string_of t) at string
      only _ (IsTemplate.rows block at) = not_both block (block_of_tree t) no_block at

  -- ---- in braces

  module _ (text : List ℕ) (braces : braces_of t ≡ Some text) (there : written t ≡ Some text) (no_string : string_of t ≡ None) where
    module _ (block : Block) (is : block_of text ≡ Some block) (own : block_of_tree t ≡ Some block) where
      only_rows : (other : List ℕ) → IsTemplate t other → other ≡ old_template block
      only_rows _ (IsTemplate.quoted other at) = not_both other (string_of t) no_string at
      only_rows _ (IsTemplate.rows b at) = ap old_template (same_block b block (block_of_tree t) at own)

      unbraced : (other : List ℕ) → IsBraced t other → ⊥
      unbraced other at = not_both block (block_of other) at.no_block (ap block_of (same_text other text (braces_of t) at.braces braces) ∙ is)

      here : (none : written t ≡ None) → ⊥
      here none = not_both text (written t) none there

      -- an output of it is C code
      from_row : fits (old_template block) ≡ true → (r : Reason) → OutputHasReason t r → 5 ≤ number_of r
      from_row fit _ (OutputHasReason.no_text none) = absurd (here none)
      from_row fit _ (OutputHasReason.long_template other at long) = absurd (true≢false (sym fit ∙ (ap fits (sym (only_rows other at)) ∙ long)))
      from_row fit _ (OutputHasReason.long_code other at long) = absurd (unbraced other at)
      from_row fit _ (OutputHasReason.code_template other at code) = omega arith
      from_row fit _ (OutputHasReason.code_row b at code) = omega arith
      from_row fit _ (OutputHasReason.code other at) = omega arith

      by_row : (e : Bool) → has_expression block ≡ e → fits (old_template block) ≡ true →
          Least (unless_code e (output_by (template_of (old_template block))))
      by_row true code fit = (OutputHasReason.code_row block own code, from_row fit)
      by_row false none fit =
          by_fits (old_template block) (IsTemplate.rows block own) only_rows here unbraced
          (λ b at code. true≢false (sym code ∙ (ap has_expression (same_block b block (block_of_tree t) at own) ∙ none)))
          true fit

      by_length : (b : Bool) → fits (old_template block) ≡ b →
          Least (if b then unless_code (has_expression block) (output_by (template_of (old_template block))) else Err reason.Parts)
      by_length true fit = by_row (has_expression block) refl fit
      by_length false long = (OutputHasReason.long_template (old_template block) (IsTemplate.rows block own) long, two t)

      of_rows : Least (rows_output block)
      of_rows = by_length (fits (old_template block)) refl

    module _ (none : block_of text ≡ None) (own : block_of_tree t ≡ None) where
      no_template : {P : Type 0} (other : List ℕ) → IsTemplate t other → P
      no_template _ (IsTemplate.quoted other at) = not_both other (string_of t) no_string at
      no_template _ (IsTemplate.rows block at) = not_both block (block_of_tree t) own at

      same_braces : (other : List ℕ) → IsBraced t other → other ≡ text
      same_braces other at = same_text other text (braces_of t) at.braces braces

      -- what begins as a block is outside for another reason
      begun : is_compact text ≡ true → (r : Reason) → OutputHasReason t r → ⊥
      begun is _ (OutputHasReason.no_text missing) = not_both text (written t) missing there
      begun is _ (OutputHasReason.long_template other at long) = no_template other at
      begun is _ (OutputHasReason.long_code other at long) = true≢false (sym is ∙ (ap is_compact (sym (same_braces other at)) ∙ at.no_rows))
      begun is _ (OutputHasReason.code_template other at code) = no_template other at
      begun is _ (OutputHasReason.code_row block at code) = not_both block (block_of_tree t) own at
      begun is _ (OutputHasReason.code other at) = true≢false (sym is ∙ (ap is_compact (sym (same_braces other at)) ∙ at.no_rows))

      is_braced : is_compact text ≡ false → IsBraced t text
      is_braced other = record { braces = braces; no_block = none; no_rows = other }

      from_code : fits text ≡ true → (r : Reason) → OutputHasReason t r → 5 ≤ number_of r
      from_code fit _ (OutputHasReason.no_text missing) = not_both text (written t) missing there
      from_code fit _ (OutputHasReason.long_template other at long) = no_template other at
      from_code fit _ (OutputHasReason.long_code other at long) = absurd (true≢false (sym fit ∙ (ap fits (sym (same_braces other at)) ∙ long)))
      from_code fit _ (OutputHasReason.code_template other at code) = omega arith
      from_code fit _ (OutputHasReason.code_row block at code) = omega arith
      from_code fit _ (OutputHasReason.code other at) = omega arith

      code_by : (b : Bool) → fits text ≡ b → is_compact text ≡ false → Least (if b then Err reason.CCode else Err reason.Parts)
      code_by true fit other = (OutputHasReason.code text (is_braced other), from_code fit)
      code_by false long other = (OutputHasReason.long_code text (is_braced other) long, two t)

      by_begin : (b : Bool) → is_compact text ≡ b → Least (if b then Ok output.Outside else (if fits text then Err reason.CCode else Err reason.Parts))
      by_begin true is = begun is
      by_begin false other = code_by (fits text) refl other

    by_block : (o : Option Block) → block_of text ≡ o → block_of_tree t ≡ o → Least (braced text o)
    by_block (Some block) is own = of_rows block is own
    by_block None none own = by_begin none own (is_compact text) refl

  of_braces : (place : Place) (text : List ℕ) → out-Tree t ≡ Tree-F.Block place text → Least (braced text (block_of_tree t))
  of_braces place text is =
      subst (λ o. Least (braced text o)) (sym own)
      (by_block text (ap braces_at is) (ap written_at is) (ap string_at is) (block_of text) refl own)
    where
      own : block_of_tree t ≡ block_of text
      own = ap block_at is

  -- ---- any tree

  by_tree : (o : Tree-F Tree) → out-Tree t ≡ o → Least (output_at (block_of_tree t) o)
  by_tree (Tree-F.Atom place text) is = no_text (ap written_at is)
  by_tree (Tree-F.Str place text) is = of_quotes place text is
  by_tree (Tree-F.Block place text) is = of_braces place text is
  by_tree (Tree-F.List place items) is = no_text (ap written_at is)
  by_tree (Tree-F.Vector place items) is = no_text (ap written_at is)

pub of_output : (t : Tree) → IsSmallest (OutputHasReason t) (output_of_tree (block_of_tree t) t)
of_output t = by_tree t (out-Tree t) refl
