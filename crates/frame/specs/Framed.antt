-- What a function comes to when it is given a frame, by a description: GCC Internals, "Function
-- Entry and Exit" (prologue and epilogue) and "Pattern Ordering". A frame has a greatest size, and
-- some form has to match each instruction that is new.
use Rattle.std.specs.Prelude.{◌≡◌, ℕ, ◌<◌, ◌≤◌, nat_le, Bool, true, List, ◌∷◌, ◌++◌, Result, Ok, Err}
use Rattle.std.specs.List.{All}
use Rattle.rtx_tree.specs.declared.function.Function.{Function}
use Rattle.rtx_tree.specs.declared.function.Insn.{Insn}
use Rattle.rtx_tree.specs.Limit.{most_frame}
use Rattle.rtx_tree.specs.declared.limit.Limit.TheVariants.{Frame}
use Rattle.md_match.specs.Pattern.{Ops}
use Rattle.md_forms.specs.declared.form.Entry.{Entry}
use Rattle.md_desc.specs.Recog.{MatchesAt, NoneMatches}
use Rattle.form_needs.specs.Needs.{output_facts}
use Rattle.assign.specs.declared.places.Layout.{Layout}
use Rattle.law_frame.specs.Frame.{next_uid, IsFramed}
use Rattle.pass_refusal.specs.Refused.{unmatched_insn}
use Rattle.pass_refusal.specs.declared.refusal.PassRefusal.{PassRefusal}
use Rattle.pass_refusal.specs.declared.refusal.PassRefusal.TheVariants as refusal

-- a function, or a refusal
abbrev pub Answer : Type 0
Answer = Result Function PassRefusal

-- ---- the size

-- the refusal of a frame that is larger
abbrev pub too_large : Layout → PassRefusal
too_large layout = refusal.Limit Frame layout.size

-- ---- the new instructions

-- new instructions have the uids from one on
abbrev pub is_new : ℕ → Insn → Bool
is_new first i = nat_le first i.uid

-- some form matches an instruction, now that registers have homes
pub record IsMatched (forms : List Entry) (i : Insn) : Type 0 where
  pub form : ℕ
  pub operands : Ops
  pub matches : MatchesAt forms output_facts i.pattern form operands

-- some form matches an instruction, if it is new
abbrev pub IsMatchedIfNew : List Entry → ℕ → Insn → Type 0
IsMatchedIfNew forms first i = is_new first i ≡ true → IsMatched forms i

-- some form matches each new one of a chain
abbrev pub AreMatched : List Entry → ℕ → List Insn → Type 0
AreMatched forms first insns = All (IsMatchedIfNew forms first) insns

-- the first new one of a chain that no form matches
pub record IsFirstUnmatched (forms : List Entry) (first : ℕ) (insns : List Insn) (i : Insn) : Type 0 where
  pub before : List Insn
  pub behind : List Insn
  pub insns_are : insns ≡ before ++ i ∷ behind
  pub matched : AreMatched forms first before
  pub new : is_new first i ≡ true
  pub unmatched : NoneMatches forms output_facts i.pattern

-- ---- the function

-- a function that has its frame, or is refused: for a frame that is too large, before all else, or
-- for the first new instruction that no form matches
pub data FrameComes (forms : List Entry) (f : Function) (layout : Layout) : Answer → Type 0 where
  large : most_frame < layout.size → FrameComes forms f layout (Err (too_large layout))
  unmatched : (g : Function) (i : Insn) → layout.size ≤ most_frame → IsFramed layout f g →
      IsFirstUnmatched forms (next_uid f.insns) g.insns i → FrameComes forms f layout (Err (unmatched_insn i))
  framed : (g : Function) → layout.size ≤ most_frame → IsFramed layout f g →
      AreMatched forms (next_uid f.insns) g.insns →
      FrameComes forms f layout (Ok g)
