-- A function whose instructions are placed and name registers of the machine alone is one for which lines can be written.
use Rattle.std.proofs.Common.{◌≡◌, inl, inr, ℕ, ◌<◌, ◌^◌, ◌==◌, ◌&&◌, not, Bool, true, false, List}
use Rattle.std.proofs.Common.{[], ◌∷◌, Some, refl, sym, ap, ◌∙◌, arith}
use Rattle.std.specs.Int.{cast_unsigned, w64}
use Rattle.std.specs.List.{All, AllByRecursion, list_all}
use Rattle.std.specs.Prelude.{ℤ, pos, negsuc}
use Rattle.std.proofs.lemmas.Bool.{false≢true, true≢false, false_from_ne_true, and_parts, and_right, or_from}
use Rattle.std.proofs.lemmas.Bool.Decides.{Decides-int_eq, nat_tests}
use Rattle.std.proofs.lemmas.List.Elements.{All-nil, All-cons}
use Rattle.rtx_tree.specs.Tree.{head_of, kids_of, is_reg_numbered}
use Rattle.rtx_tree.specs.declared.code.Code.{Code}
use Rattle.rtx_tree.specs.declared.code.Code.TheVariants as code
use Rattle.rtx_tree.specs.declared.function.Function.{Function}
use Rattle.rtx_tree.specs.declared.function.Insn.{Insn}
use Rattle.rtx_tree.specs.declared.function.Kind.{Kind}
use Rattle.rtx_tree.specs.declared.function.Kind.TheVariants as kind
use Rattle.rtx_tree.specs.declared.tree.Rtx.{Rtx}
use Rattle.rtl_step.specs.Effect.{inner_number, register_by}
use Rattle.rtl_step.specs.Step.{is_mark}
use Rattle.reg_uses.specs.Effects.{effects_by, effects_of, is_register, pattern_uses, place_is_by}
use Rattle.reg_uses.specs.Uses.{has_argument, insn_uses, insn_defines}
use Rattle.sym_insns.specs.Shape.{is_natural, all_natural}
use Rattle.law_window_lines.specs.Items.{is_quiet}
use Rattle.law_window_lines.specs.Left.{IsNamed, IsSetNamed}
use Rattle.split.specs.form_needs.Needs.{is_kind, is_label, is_note, is_silent, names_homeless, needs_form}
use Rattle.law_reload.proofs.law_rules.Mentions.{used_stands}
use Rattle.law_reload.proofs.law_rules.Registers.{is_no_argument, stands_homeless}
use Rattle.law_reload.specs.law_rules.ForLines.{UsesHard, IsQuiet}
use Rattle.law_reload.proofs.law_window_replaced.Trees.{natural_here, natural_kids}
use Rattle.law_no_pseudos.specs.Hard.{IsHardInsn, AreHardInsns, IsHardFunction}
use Rattle.law_lines_ready.specs.Placed.{IsInsnPlaced, ArePlaced}
use Rattle.law_output.specs.Ready.{IsInsnWritable, AreWritable}
use Rattle.law_lines_ready.proofs.Notes.{form_unmarked}

-- ---- what gives nothing at output

quiet : (c : Code) → is_note c ≡ true → is_quiet c ≡ true
quiet code.Use is = refl
quiet code.Clobber is = refl
quiet _ is = absurd (false≢true is)

untold : (b : Bool) → not b ≡ false → b ≡ true
untold true is = refl
untold false is = absurd (true≢false is)

turned : (b : Bool) → not b ≡ true → b ≡ false
turned true is = absurd (false≢true is)
turned false is = refl

module _ (i : Insn) (is : IsInsnPlaced i) where
  noted : is_mark i.kind ≡ false → is_note (head_of i.pattern).code ≡ true → IsQuiet i
  noted none note = inr (is.plain none note, quiet (head_of i.pattern).code note)

  silent_by : (k : Kind) → i.kind ≡ k → is_label k ≡ false → (is_kind k && not (is_note (head_of i.pattern).code)) ≡ false → IsQuiet i
  silent_by kind.Label same other free = absurd (true≢false other)
  silent_by kind.Barrier same other free = inl same
  silent_by kind.Plain same other free = noted (ap is_mark same) (untold (is_note (head_of i.pattern).code) free)
  silent_by kind.Jump same other free = noted (ap is_mark same) (untold (is_note (head_of i.pattern).code) free)
  silent_by kind.Call same other free = noted (ap is_mark same) (untold (is_note (head_of i.pattern).code) free)

  silent : is_silent i ≡ true → IsQuiet i
  silent told =
      let both = and_parts (not (is_label i.kind)) (not (needs_form i)) told in
      silent_by i.kind refl (turned (is_label i.kind) both.0) (turned (needs_form i) both.1)

  -- ---- what needs a form

  used_none : (reg : ℕ) → 31 < reg → is_mark i.kind ≡ false → names_homeless i.pattern ≡ false → insn_uses i reg ≡ false
  used_none reg above none homes = or_from (pattern_uses reg i.pattern) (has_argument reg i.uses)
      (false_from_ne_true (pattern_uses reg i.pattern)
      (λ used. false≢true (sym homes ∙ stands_homeless reg above i.pattern (used_stands reg i.pattern used))))
      (false_from_ne_true (has_argument reg i.uses) (λ has. is_no_argument reg above (is.passed none reg has)))

  formed : needs_form i ≡ true → names_homeless i.pattern ≡ false → UsesHard i
  formed needs homes =
      let none : is_mark i.kind ≡ false = form_unmarked i needs in record {
        is_none = none;
        hard = λ reg above. or_from (insn_uses i reg) _ (used_none reg above none homes) (and_right (not (insn_defines i reg)) false refl);
      }

-- ---- what a `set` sets

numbered : (c : Code) (n : ℤ) (reg : ℕ) → is_natural c n ≡ true → inner_number c n ≡ Some reg → is_reg_numbered c n reg ≡ true
numbered code.Reg (pos k) reg natural is =
    let few : k < 2 ^ 63 = grind (arith, nat_tests, natural) in
    let same : cast_unsigned w64 (pos k) ≡ k = omega (arith, few) in
    let told : cast_unsigned w64 (pos k) ≡ reg = cc in
    (Decides-int_eq (pos k) (pos reg)).1 (ap pos (sym same ∙ told))
numbered code.Reg (negsuc k) reg natural is = absurd (false≢true natural)
numbered _ n reg natural is = absurd (let no : ⊥ = cc in no)

above_zero : (reg : ℕ) → 0 < reg → not (reg == 0) ≡ true
above_zero reg above = grind (arith, nat_tests, above)

registered : (x : Rtx) (reg : ℕ) → all_natural x ≡ true → inner_number (head_of x).code (head_of x).number ≡ Some reg → 0 < reg →
    is_register reg x ≡ true
registered x reg natural is above =
    ap (λ b. b && is_reg_numbered (head_of x).code (head_of x).number reg) (above_zero reg above) ∙
    numbered (head_of x).code (head_of x).number reg (natural_here x natural) is

place_by : (c : Code) (x : Rtx) (kids : List Rtx) (reg : ℕ) → (head_of x).code ≡ c → all_natural x ≡ true →
    list_all all_natural kids ≡ true →
    register_by c (head_of x).number kids ≡ Some reg → 0 < reg → place_is_by reg c kids x ≡ true
place_by code.Reg x kids reg code_is natural all is above =
    registered x reg natural (ap (λ c. inner_number c (head_of x).number) code_is ∙ is) above
place_by code.Subreg x (inner ∷ []) reg code_is natural all is above =
    registered inner reg (and_parts (all_natural inner) true all).0 is above
place_by code.Subreg x [] reg code_is natural all is above = absurd (let no : ⊥ = cc in no)
place_by code.Subreg x (a ∷ b ∷ kids) reg code_is natural all is above = absurd (let no : ⊥ = cc in no)
place_by _ x kids reg code_is natural all is above = absurd (let no : ⊥ = cc in no)

place_named : (x : Rtx) → all_natural x ≡ true → IsNamed x
place_named x natural reg is above = place_by (head_of x).code x (kids_of x) reg refl natural (natural_kids x natural) is above

set_named : (c : Code) (kids : List Rtx) → list_all all_natural kids ≡ true → IsSetNamed c kids
set_named code.Set [] all = tt
set_named code.Set (place ∷ parts) all = place_named place (and_parts (all_natural place) _ all).0
set_named _ kids all = tt

abbrev SetNamed : Rtx → Type 0
SetNamed x = IsSetNamed (head_of x).code (kids_of x)

all_named : (xs : List Rtx) → list_all all_natural xs ≡ true → All SetNamed xs
all_named [] all = All-nil SetNamed
all_named (x ∷ xs) all =
    let parts = and_parts (all_natural x) _ all in
    All-cons SetNamed x xs (set_named (head_of x).code (kids_of x) (natural_kids x parts.0)) (all_named xs parts.1)

alone : (b : Bool) → b ≡ true → b && true ≡ true
alone true is = refl
alone false is = is

effects_natural : (c : Code) (kids : List Rtx) (x : Rtx) → list_all all_natural kids ≡ true → all_natural x ≡ true →
    list_all all_natural (effects_by c kids x) ≡ true
effects_natural code.Parallel kids x all natural = all
effects_natural _ kids x all natural = alone (all_natural x) natural

named : (x : Rtx) → all_natural x ≡ true → All SetNamed (effects_of x)
named x natural = all_named (effects_of x) (effects_natural (head_of x).code (kids_of x) x (natural_kids x natural) natural)

-- ---- an instruction, and a function

insn_writable : (i : Insn) → IsInsnPlaced i → IsHardInsn i → IsInsnWritable i
insn_writable i is hard = record {
  marks = is.marks;
  label = is.label;
  silent = silent i is;
  formed = λ needs. formed i is needs hard;
  named = λ plain. named i.pattern is.natural;
}

each_writable : (insns : List Insn) → AllByRecursion IsInsnPlaced insns → AreHardInsns insns → AllByRecursion IsInsnWritable insns
each_writable [] placed hard = tt
each_writable (i ∷ insns) placed hard = (insn_writable i placed.0 hard.0, each_writable insns placed.1 hard.1)

pub placed_writable : (f : Function) → ArePlaced f → IsHardFunction f → AreWritable f
placed_writable f placed hard = each_writable f.insns placed hard
