-- Why the own text of a form sets it aside. Each part of a form gives a reason where it is not what
-- its place takes; a form has the reasons of its parts, and is set aside with the smallest.
use Rattle.std.specs.Prelude.{◌≡◌, ℕ, false, true, List, Option, Some, None, Err, option_and_then}
use Rattle.rtx_tree.specs.declared.constants.Constant.{Constant}
use Rattle.lisp_read.specs.declared.tree.Tree.{Tree}
use Rattle.lisp_read.specs.Shape.{items_of}
use Rattle.md_pattern.specs.declared.reason.Reason.{Reason}
use Rattle.md_pattern.specs.declared.reason.Reason.TheVariants as reason
use Rattle.md_draft.specs.declared.head.FormHead.{FormHead}
use Rattle.md_draft.specs.Head.{head_named}
use Rattle.md_draft.specs.Layout.{layout_of, part_at, is_whole}
use Rattle.md_draft.specs.OutputReasons.{OutputHasReason}
use Rattle.md_draft.specs.Draft as draft
use Rattle.md_draft.specs.Draft.{head_in}

-- the head of a tree, if it is one of those that are taken
abbrev pub head_of : Tree → Option FormHead
head_of t = option_and_then head_named (head_in (items_of t))

-- the reasons that a form with a head has; its parts are looked at where there are as many as the
-- head takes
pub data HasReason (constants : List Constant) (values : List (List ℕ)) (h : FormHead) (ts : List Tree) : Reason → Type 0 where
  count : is_whole (layout_of h) ts ≡ false → HasReason constants values h ts reason.Parts
  patterns : (r : Reason) → is_whole (layout_of h) ts ≡ true →
      draft.patterns_in constants h ts ≡ Err r → HasReason constants values h ts r
  condition : (r : Reason) → is_whole (layout_of h) ts ≡ true →
      draft.condition_in constants values h ts ≡ Err r → HasReason constants values h ts r
  split_condition : (r : Reason) → is_whole (layout_of h) ts ≡ true →
      draft.split_condition_in constants values h ts ≡ Err r → HasReason constants values h ts r
  sequence : (r : Reason) → is_whole (layout_of h) ts ≡ true →
      draft.sequence_in constants h ts ≡ Err r → HasReason constants values h ts r
  statements : (r : Reason) → is_whole (layout_of h) ts ≡ true →
      draft.statements_in constants h ts ≡ Err r → HasReason constants values h ts r
  output : (t : Tree) (r : Reason) → is_whole (layout_of h) ts ≡ true →
      part_at ts (layout_of h).output ≡ Some t → OutputHasReason t r →
      HasReason constants values h ts r
  attributes : (r : Reason) → is_whole (layout_of h) ts ≡ true → draft.attributes_in h ts ≡ Err r →
      HasReason constants values h ts r
  test : (r : Reason) → is_whole (layout_of h) ts ≡ true → draft.test_in constants h ts ≡ Err r →
      HasReason constants values h ts r
  class : (r : Reason) → is_whole (layout_of h) ts ≡ true → draft.class_in h ts ≡ Err r →
      HasReason constants values h ts r
  values_given : (r : Reason) → is_whole (layout_of h) ts ≡ true → draft.values_in h ts ≡ Err r →
      HasReason constants values h ts r
  default : (r : Reason) → is_whole (layout_of h) ts ≡ true → draft.default_in h ts ≡ Err r →
      HasReason constants values h ts r

-- the reasons that a tree has as a form, by its own text
pub data Applies (constants : List Constant) (values : List (List ℕ)) (t : Tree) : Reason → Type 0 where
  headless : head_of t ≡ None → Applies constants values t reason.Head
  of_head : (h : FormHead) (r : Reason) → head_of t ≡ Some h →
      HasReason constants values h (items_of t) r → Applies constants values t r
