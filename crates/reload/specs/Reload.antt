-- What a function comes to when its registers have homes, by a description: GCC Internals, "RTL
-- passes" (reload), "Pattern Ordering" and "Multiple Alternative Constraints". Each instruction is
-- matched anew with its references to the frame put in, while its registers are still those that
-- predicates know; then it has its homes, and moves before it and behind it.
use Rattle.std.specs.Prelude.{◌≡◌, ℕ, ◌+◌, true, false, if◌then◌else◌, List, [], ◌∷◌, ◌++◌, length, Result, Ok, Err, slice_get}
use Rattle.std.specs.Option.{option_map_or}
use Rattle.std.specs.List.{All}
use Rattle.rtx_tree.specs.declared.function.Function.{Function}
use Rattle.rtx_tree.specs.declared.function.Insn.{Insn}
use Rattle.rtx_tree.specs.declared.function.Kind.{Kind}
use Rattle.rtx_tree.specs.declared.tree.Rtx.{Rtx}
use Rattle.rtx_tree.specs.Patterns.{with_pattern}
use Rattle.rtl_step.specs.Step.{is_mark}
use Rattle.md_match.specs.Pattern.{Ops}
use Rattle.md_forms.specs.declared.form.Form.{Form}
use Rattle.md_forms.specs.declared.form.Entry.{Entry}
use Rattle.md_forms.specs.Forms.{names_of}
use Rattle.md_pattern.specs.declared.reason.Reason.{Reason}
use Rattle.md_desc.specs.Recog.{IsFirst}
use Rattle.form_needs.specs.Matched.{IsUnmatched}
pub use Rattle.form_needs.specs.Matched.{IsMatched}
use Rattle.form_needs.specs.Needs.{name_at, needs_form, lower_facts}
use Rattle.assign.specs.declared.home.HomeOf.{HomeOf}
use Rattle.assign.specs.declared.places.Layout.{Layout}
use Rattle.law_frame.specs.Frame.{plain_insns, with_insns, next_uid}
use Rattle.reload_homes.specs.FrameRefs.{framed}
use Rattle.reload_homes.specs.Homes.{homed}
use Rattle.reload_operands.specs.Operands.{operands_of}
use Rattle.reload_operands.specs.Changes.{whole_of}
use Rattle.reload_choice.specs.declared.given.Given.{Given}
use Rattle.reload_choice.specs.declared.given.Plan.{Plan}
use Rattle.reload_choice.specs.Insns.{between, insns_before, insns_after}
use Rattle.reload_choice.specs.Choice.{IsChosen, NoneReaches}
use Rattle.reload.specs.declared.refusal.ReloadRefusal.{ReloadRefusal}
use Rattle.reload.specs.declared.refusal.ReloadRefusal.TheVariants as refusal

-- ---- an instruction in a frame

-- with its references to the frame put in
abbrev pub placed : Layout → Insn → Rtx
placed layout i = framed layout.size i.pattern

-- the pattern of an instruction, with the homes of its registers and the frame put in
abbrev pub with_homes : List HomeOf → Layout → Insn → Rtx
with_homes homes layout i = homed homes layout (placed layout i)

-- a label and a barrier stay as they are; a use or a clobber alone has its homes put in
abbrev pub alone : List HomeOf → Layout → Insn → Rtx
alone homes layout i = if is_mark i.kind then i.pattern else with_homes homes layout i

-- ---- what is chosen from

-- a tree in a frame that a pattern matches with operands, as an instruction of a kind
abbrev pub given_of : List HomeOf → Layout → Kind → Rtx → Rtx → Ops → Given
given_of homes layout kind x pattern found = record {
  pattern = pattern;
  kind = kind;
  insn = homed homes layout x;
  operands = operands_of pattern found x (homed homes layout x) homes layout;
  whole = whole_of x (homed homes layout x);
}

abbrev pub patterns_by : Result Form Reason → List Rtx
patterns_by (Ok f) = f.patterns
patterns_by (Err r) = []

-- the patterns of a form; one that is set aside has none
abbrev pub patterns_in : Entry → List Rtx
patterns_in e = patterns_by e.form

abbrev pub patterns_at : List Entry → ℕ → List Rtx
patterns_at forms form = option_map_or patterns_in (slice_get forms form) []

-- an instruction is matched before its registers have homes: by the one pattern of the first form,
-- with operands
pub record IsMatch (forms : List Entry) (layout : Layout) (i : Insn) (form : ℕ) (pattern : Rtx) (found : Ops) : Type 0 where
  pub first :
      IsFirst forms lower_facts (placed layout i) 0 (record { form = form; operands = found })
  pub pattern_is : patterns_at forms form ≡ pattern ∷ []

-- what is chosen from then
abbrev pub given_by : List HomeOf → Layout → Insn → Rtx → Ops → Given
given_by homes layout i pattern found = given_of homes layout i.kind (placed layout i) pattern found

-- ---- its moves

-- in the order in which they are numbered
abbrev pub moves_of : Given → Plan → List Rtx
moves_of given plan =
    insns_before given.operands plan.parts ++ insns_after given.operands plan.parts

-- the first of some moves that no form matches, and those before it
pub record IsStuck (forms : List Entry) (moves before : List Rtx) (x : Rtx) : Type 0 where
  pub behind : List Rtx
  pub moves_are : moves ≡ before ++ x ∷ behind
  pub matched : All (IsMatched forms) before
  pub unmatched : IsUnmatched forms x

-- ---- its window

-- the instruction keeps its uid; the moves before it and behind it have those from one on
abbrev pub window_by : ℕ → Insn → List Rtx → Rtx → List Rtx → List Insn
window_by uid i before pattern after =
    plain_insns uid before ++ (with_pattern i pattern ∷ plain_insns (uid + length before) after)

abbrev pub window_of : ℕ → Insn → Given → Plan → List Insn
window_of uid i given plan =
    window_by uid i (insns_before given.operands plan.parts) (between given.pattern given.operands plan.parts given.insn)
    (insns_after given.operands plan.parts)

-- ---- an instruction reloaded, where uids are free from one on

abbrev pub InsnAnswer : Type 0
InsnAnswer = Result (List Insn) ReloadRefusal

-- one that a form matches, by what is chosen from
pub data MatchReloads (forms : List Entry) (form : ℕ) (given : Given) (uid : ℕ) (i : Insn) : InsnAnswer → Type 0 where
  -- no alternative of the form is reachable
  unsatisfied : NoneReaches forms form given → MatchReloads forms form given uid i
      (Err (refusal.Unsatisfied i.uid (name_at (names_of forms) form) given.insn))
  -- no form matches one of its moves
  stuck : (plan : Plan) (before : List Rtx) (x : Rtx) → IsChosen forms form given plan →
      IsStuck forms (moves_of given plan) before x →
      MatchReloads forms form given uid i (Err (refusal.Unmatched (uid + length before) x))
  -- the instruction stands between its moves
  made : (plan : Plan) → IsChosen forms form given plan →
      All (IsMatched forms) (moves_of given plan) →
      MatchReloads forms form given uid i (Ok (window_of uid i given plan))

pub data InsnReloads (forms : List Entry) (homes : List HomeOf) (layout : Layout) (uid : ℕ) (i : Insn) : InsnAnswer → Type 0 where
  -- what needs no form has no moves
  stays : needs_form i ≡ false →
      InsnReloads forms homes layout uid i (Ok (with_pattern i (alone homes layout i) ∷ []))
  -- no form matches it
  unmatched : needs_form i ≡ true → IsUnmatched forms (placed layout i) →
      InsnReloads forms homes layout uid i (Err (refusal.Unmatched i.uid (placed layout i)))
  -- a form matches it
  matched : (form : ℕ) (pattern : Rtx) (found : Ops) (answer : InsnAnswer) → needs_form i ≡ true →
      IsMatch forms layout i form pattern found →
      MatchReloads forms form (given_by homes layout i pattern found) uid i answer → InsnReloads forms homes layout uid i answer

-- ---- a chain, and a function

abbrev pub chain_behind : List Insn → InsnAnswer → InsnAnswer
chain_behind insns (Ok rest) = Ok (insns ++ rest)
chain_behind insns (Err e) = Err e

-- The instructions one behind the other, or the first refusal. A window takes one uid less of those
-- that are free than it has instructions.
pub data ChainReloads (forms : List Entry) (homes : List HomeOf) (layout : Layout) : ℕ → List Insn → InsnAnswer → Type 0 where
  none : (uid : ℕ) → ChainReloads forms homes layout uid [] (Ok [])
  refused : (uid : ℕ) (i : Insn) (insns : List Insn) (e : ReloadRefusal) →
      InsnReloads forms homes layout uid i (Err e) →
      ChainReloads forms homes layout uid (i ∷ insns) (Err e)
  goes_on : (uid next : ℕ) (i : Insn) (insns window : List Insn) (rest : InsnAnswer) →
      InsnReloads forms homes layout uid i (Ok window) →
      next + 1 ≡ uid + length window → ChainReloads forms homes layout next insns rest →
      ChainReloads forms homes layout uid (i ∷ insns) (chain_behind window rest)

-- a function, or a refusal
abbrev pub Answer : Type 0
Answer = Result Function ReloadRefusal

abbrev pub function_of : Function → InsnAnswer → Answer
function_of f (Ok insns) = Ok (with_insns f insns)
function_of f (Err e) = Err e

-- what a function comes to; new instructions take the uids after the greatest, in their order
pub data FunctionReloads (forms : List Entry) (homes : List HomeOf) (layout : Layout) (f : Function) : Answer → Type 0 where
  comes : (answer : InsnAnswer) →
      ChainReloads forms homes layout (next_uid f.insns) f.insns answer →
      FunctionReloads forms homes layout f (function_of f answer)
