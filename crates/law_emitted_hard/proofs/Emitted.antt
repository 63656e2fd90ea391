-- What a form of a description emits names registers of the machine alone, where no register may be made and its operands do so.
use Rattle.std.proofs.Common.{◌≡◌, ℕ, false, List, ◌++◌, Option, Some, subst}
use Rattle.rtx_tree.specs.declared.constants.Constant.{Constant}
use Rattle.rtx_tree.specs.declared.tree.Rtx.{Rtx}
use Rattle.c_eval.specs.declared.facts.Facts.{Facts}
use Rattle.md_match.specs.Pattern.{Ops, all_instantiated}
use Rattle.md_iter.specs.declared.substitution.Instance.{Instance}
use Rattle.md_recog.specs.Match.{Accepts}
use Rattle.md_draft.specs.declared.head.FormHead.{FormHead}
use Rattle.md_draft.specs.declared.head.FormHead.TheVariants as head
use Rattle.md_forms.specs.declared.form.Form.{Form}
use Rattle.md_forms.specs.Forms.{forms_of}
use Rattle.md_desc.specs.md_pred.Holds.{holds}
use Rattle.gen_emit.specs.declared.draft.Draft.{Draft}
use Rattle.gen_emit.specs.declared.draft.Ended.{Ended}
use Rattle.gen_emit.specs.declared.draft.Ended.TheVariants.{Through, Done}
use Rattle.gen_emit.specs.declared.emission.Emission.{Emission}
use Rattle.gen_emit.specs.Values.{draft}
use Rattle.gen_emit.specs.Statements.{meaning}
use Rattle.gen_emit.specs.Emission.{patterns_by, patterns_of, emission, through, finished, emitted}
use Rattle.md_emit.specs.Emitted.{says_at, emitted_by}
use Rattle.law_emitted_hard.specs.Hard.{AreHard, OperandsHard, OnSome}
use Rattle.law_emitted_hard.proofs.Trees.{all_hard}
use Rattle.law_emitted_hard.proofs.Instances.{instances_hard}
use Rattle.law_emitted_hard.proofs.Values.{on_map, on_then, from_at, DraftHard, EndedHard, statements_hard}
use Rattle.law_emitted_hard.proofs.Forms.{FormHard, forms_hard}

abbrev pub EmissionHard : Emission → Type 0
EmissionHard e = AreHard e.sequence

through_hard : (patterns : List Rtx) (d : Draft) → AreHard patterns → DraftHard d → OnSome EmissionHard (through patterns d)
through_hard patterns d hard is =
    on_map AreHard EmissionHard (λ insns. emission (d.moves ++ insns) d.next) (λ insns all. all_hard d.moves insns is.1 all)
    (all_instantiated patterns d.operands)
    (from_at AreHard (all_instantiated patterns d.operands) (λ xs at. instances_hard d.operands is.0 patterns xs hard at))

finished_hard : (patterns : List Rtx) (e : Ended) → AreHard patterns → EndedHard e → OnSome EmissionHard (finished patterns e)
finished_hard patterns (Through d) hard is = through_hard patterns d hard is
finished_hard patterns (Done d) hard is = is.1

by_head : (h : FormHead) (f : Form) → FormHard f → AreHard (patterns_by h f)
by_head head.Insn f is = is.0
by_head head.Expand f is = is.0
by_head _ f is = is.1

form_emits : (accepts : Accepts) (facts : Facts) (f : Form) (operands : Ops) (next : ℕ) → facts.new_pseudos ≡ false → FormHard f →
    OperandsHard operands → OnSome EmissionHard (emitted accepts facts f operands next)
form_emits accepts facts f operands next none is all =
    on_then EndedHard EmissionHard (finished (patterns_of f)) (λ e ended. finished_hard (patterns_of f) e (by_head f.head f is) ended)
    ((meaning facts accepts f.statements).run (draft operands next))
    (statements_hard facts accepts none f.statements (draft operands next) (all, tt)).1

some_hard : (o : Option Emission) (e : Emission) → OnSome EmissionHard o → o ≡ Some e → AreHard e.sequence
some_hard (Some x) e is at = let same : x ≡ e = cc in subst EmissionHard same is
some_hard _ e is at = absurd (let no : ⊥ = cc in no)

-- the sequence that the form with an index emits
pub emitted_hard : (constants : List Constant) (instances : List Instance) (facts : Facts) (form : ℕ) (operands : Ops) (next : ℕ) (e : Emission) →
    facts.new_pseudos ≡ false → OperandsHard operands →
    emitted_by (forms_of constants instances) facts form operands next ≡ Some e → AreHard e.sequence
emitted_hard constants instances facts form operands next e none all at =
    let forms = forms_of constants instances in
    some_hard (emitted_by forms facts form operands next) e
    (on_then FormHard EmissionHard (λ says. emitted (holds forms) facts says operands next)
    (λ f is. form_emits (holds forms) facts f operands next none is all) (says_at forms form) (forms_hard constants instances form)) at
