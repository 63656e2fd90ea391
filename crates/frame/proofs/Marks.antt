-- The labels and barriers of a function stay when it gets its frame.
use Rattle.std.proofs.Common.{◌≡◌, ℕ, ◌+◌, Bool, true, false, List, [], ◌∷◌, ◌++◌, length, refl}
use Rattle.std.proofs.Common.{sym, ap, ◌∙◌}
use Rattle.std.specs.Prelude.{if◌then◌else◌}
use Rattle.std.proofs.lemmas.List.{append-nil}
use Rattle.std.proofs.lemmas.List.Elements.{filter-append}
use Rattle.rtx_tree.specs.declared.tree.Rtx.{Rtx}
use Rattle.rtx_tree.specs.declared.function.Insn.{Insn}
use Rattle.rtx_tree.specs.declared.function.Kind.{Kind}
use Rattle.rtx_tree.specs.declared.function.Kind.TheVariants.{Jump}
use Rattle.rtx_tree.specs.declared.function.Function.{Function}
use Rattle.rtl_step.specs.Step as step
use Rattle.rtl_chain.specs.End.{return_insn, IsFinished}
use Rattle.law_pass_needs.specs.Left.{is_mark, marks, SameMarks}
use Rattle.assign.specs.declared.places.Layout.{Layout}
use Rattle.law_frame.specs.Frame.{prologue, epilogue, plain_insns, return_with, leaving, left_uid}
use Rattle.law_frame.specs.Frame.{returns_by, returns, left_at_returns, next_uid, IsFramed}

pub both_marks : (xs ys : List Insn) → marks (xs ++ ys) ≡ marks xs ++ marks ys
both_marks xs ys = filter-append is_mark xs ys

no_marks : (uid : ℕ) (xs : List Rtx) → marks (plain_insns uid xs) ≡ []
no_marks uid [] = refl
no_marks uid (x ∷ xs) = no_marks (uid + 1) xs

leaving_marks : (layout : Layout) (uid : ℕ) → marks (leaving layout uid) ≡ []
leaving_marks layout uid =
    both_marks (plain_insns uid (epilogue layout))
    (return_with (uid + length (epilogue layout)) ∷ []) ∙
    ap (λ (front : List Insn). front ++ []) (no_marks uid (epilogue layout))

-- a return is a jump
kind_of : (kind : Kind) (i : Insn) → returns_by kind i ≡ true → step.is_mark kind ≡ false
kind_of Jump i is = refl
kind_of _ i is = absurd (let never : ⊥ = cc in never)

own_marks : (i : Insn) (insns : List Insn) → is_mark i ≡ false → marks (i ∷ insns) ≡ marks insns
own_marks i insns none = ap (λ b. if b then i ∷ marks insns else marks insns) none

by_first : (layout : Layout) (uid : ℕ) (i : Insn) (insns : List Insn) (b : Bool) → returns i ≡ b →
    ((uid : ℕ) → marks (left_at_returns layout uid insns) ≡ marks insns) →
    marks (left_at_returns layout uid (i ∷ insns)) ≡ marks (i ∷ insns)
by_first layout uid i insns b is later = by b is
  where
    behind : List Insn
    behind = left_at_returns layout (left_uid layout uid) insns

    gone : List Insn
    gone = leaving layout uid ++ behind

    stay : List Insn
    stay = left_at_returns layout uid insns

    by : (b : Bool) → returns i ≡ b →
        marks (if returns i then gone else i ∷ stay) ≡ marks (i ∷ insns)
    by true is =
        ap (λ b. marks (if b then gone else i ∷ stay)) is ∙ both_marks (leaving layout uid) behind ∙
        ap (λ (front : List Insn). front ++ marks behind) (leaving_marks layout uid) ∙
        later (left_uid layout uid) ∙ sym (own_marks i insns (kind_of i.kind i is))
    by false is =
        ap (λ b. marks (if b then gone else i ∷ stay)) is ∙ both_marks (i ∷ []) stay ∙
        ap (λ (back : List Insn). marks (i ∷ []) ++ back) (later uid) ∙
        sym (both_marks (i ∷ []) insns)

left_marks : (layout : Layout) (uid : ℕ) (insns : List Insn) →
    marks (left_at_returns layout uid insns) ≡ marks insns
left_marks layout uid [] = refl
left_marks layout uid (i ∷ insns) = by_first layout uid i insns (returns i) refl
    (λ uid. left_marks layout uid insns)

finished_marks : (insns chain : List Insn) → IsFinished insns chain → marks chain ≡ marks insns
finished_marks insns _ (IsFinished.returning reached) =
    both_marks insns (return_insn insns ∷ []) ∙ append-nil (marks insns)
finished_marks insns _ (IsFinished.staying never) = refl

-- labels and barriers stay, in their order
pub framed_marks : (layout : Layout) (f g : Function) → IsFramed layout f g → SameMarks f g
framed_marks layout f g framed =
    let first = next_uid f.insns in
    let body = first + length (prologue layout) in record {
      name_is = ap (λ (h : Function). h.name) framed.framed_is;
      marks_are = ap (λ (h : Function). marks h.insns) framed.framed_is ∙
          both_marks (plain_insns first (prologue layout))
          (left_at_returns layout body framed.chain) ∙
          ap (λ (front : List Insn). front ++ marks (left_at_returns layout body framed.chain))
          (no_marks first (prologue layout)) ∙
          left_marks layout body framed.chain ∙ finished_marks f.insns framed.chain framed.finished;
      locals_are = ap (λ (h : Function). h.locals) framed.framed_is;
      result_is = ap (λ (h : Function). h.result) framed.framed_is;
      result_reg_is = ap (λ (h : Function). h.result_reg) framed.framed_is;
    }
