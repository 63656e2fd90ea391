-- What a function comes to from a place on, lowered one instruction behind the other.
use Rattle.std.proofs.Common.{◌≡◌, ⊎_elim, ℕ, ◌+◌, ◌≤◌, ◌<◌, List, ◌++◌, length, take, drop, Option, Some, None, Result, Ok, Err, sym, ap, subst, ◌∙◌, arith}
use Rattle.std.specs.Prelude.{slice_get}
use Rattle.std.proofs.lemmas.List.{length-append, length-take-le, length-drop}
use Rattle.std.proofs.lemmas.Option.{slice_get_cases}
use Rattle.rtx_tree.specs.declared.tree.Rtx.{Rtx}
use Rattle.rtx_tree.specs.declared.function.Insn.{Insn}
use Rattle.rtx_tree.specs.declared.function.Function.{Function}
use Rattle.rtl_chain.specs.Counts.{greatest_uid, next_pseudo}
use Rattle.md_forms.specs.declared.form.Entry.{Entry}
use Rattle.insn_replace.specs.Replace.{made, ReplacedComes}
use Rattle.insn_replace.proofs.MadeLaws.{made_long}
use Rattle.pass_refusal.specs.Outcome.{RefusesWith}
use Rattle.pass_refusal.specs.declared.refusal.PassRefusal.{PassRefusal}
use Rattle.pass_refusal.specs.declared.refusal.PassRefusal.TheVariants as refusal
use Rattle.lower_insn.specs.declared.part.Lowered.{Lowered}
use Rattle.lower_insn.specs.Lowered.{InsnAnswer, InsnLowers}
use Rattle.lower.specs.Lower.{LowersIn, LowerFrom, LowerComes, rule_of}
use Rattle.lower.specs.machine.Steps.{Reaches, PlaceReaches}

-- a refusal of one is a refusal of the other
pub refuses_map : {A B : Type 0} (e : PassRefusal) (P : Result A PassRefusal → Type 0) (Q : Result B PassRefusal → Type 0) →
    ((d : PassRefusal) → P (Err d) → Q (Err d)) → RefusesWith e P → RefusesWith e Q
refuses_map refusal.Memory P Q on r = tt
refuses_map (refusal.Unmatched uid insn) P Q on r = on _ r
refuses_map (refusal.NotEquated uid rule item left right) P Q on r = on _ r
refuses_map (refusal.Limit which count) P Q on r = on _ r

-- as many stand behind the sequence as behind the instruction
replaced_behind : (f g : Function) (place : ℕ) (i : Insn) (rule : List ℕ) (s : List Rtx) → place < length f.insns → ReplacedComes f place i rule s (Ok g) →
    length g.insns + (place + 1) ≡ length f.insns + (place + length s)
replaced_behind f _ place i rule s within (ReplacedComes.replaced live after same short) =
    let whole = length-append (take place f.insns) (made f i s ++ drop (place + 1) f.insns) in
    let rest = length-append (made f i s) (drop (place + 1) f.insns) in
    let front = length-take-le place f.insns (omega (arith, within)) in
    let back = length-drop (place + 1) f.insns in
    let new = made_long i (greatest_uid f.insns + 1) s in
    omega (arith, within, whole, rest, front, back, new)

module _ (forms : List Entry) (f : Function) (place : ℕ) where
  -- ---- an instruction, lowered as the numbers of the function ask

  module _ (i : Insn) (at : slice_get f.insns place ≡ Some i) (greatest next : ℕ) (is_greatest : greatest ≡ greatest_uid f.insns) (is_next : next ≡ next_pseudo f.insns) where
    lowers_in : (answer : InsnAnswer) → InsnLowers forms i greatest next answer → LowersIn forms f i answer
    lowers_in answer is =
        subst (λ (n : ℕ). InsnLowers forms i (greatest_uid f.insns) n answer) is_next (subst (λ (n : ℕ). InsnLowers forms i n next answer) is_greatest is)

    pub stays : (g : Function) (end : ℕ) (l : Option Lowered) → l ≡ None → InsnLowers forms i greatest next (Ok l) → g ≡ f → end ≡ place + 1 → PlaceReaches forms f place g end
    stays g end l none is same behind = record {
      reaches = λ answer more. LowerFrom.stays f place i answer at (lowers_in (Ok None) (subst (λ (m : Option Lowered). InsnLowers forms i greatest next (Ok m)) none is))
          (subst (λ (h : Function). LowerFrom forms h (place + 1) answer) same (subst (λ (n : ℕ). LowerFrom forms g n answer) behind more));
      behind = ap (λ (h : Function). length h.insns + (place + 1)) same ∙ ap (λ (n : ℕ). length f.insns + n) (sym behind);
    }

    pub refuses : (e : PassRefusal) → RefusesWith e (InsnLowers forms i greatest next) → RefusesWith e (LowerFrom forms f place)
    refuses e r = refuses_map e (InsnLowers forms i greatest next) (LowerFrom forms f place) (λ d is. LowerFrom.unmatched f place i d at (lowers_in (Err d) is)) r

  -- ---- what stands in the place of an instruction

  replaces : (i : Insn) (l : Lowered) (g : Function) (end count : ℕ) → slice_get f.insns place ≡ Some i → place < length f.insns → LowersIn forms f i (Ok (Some l)) →
      ReplacedComes f place i (rule_of forms l) l.sequence (Ok g) → count ≡ length l.sequence → end ≡ place + count → PlaceReaches forms f place g end
  replaces i l g end count at within is comes long behind =
      let place_is : end ≡ place + length l.sequence = behind ∙ ap (λ (n : ℕ). place + n) long in record {
        reaches = λ answer more. LowerFrom.replaced f place i l g answer at is comes (subst (λ (n : ℕ). LowerFrom forms g n answer) place_is more);
        behind = replaced_behind f g place i (rule_of forms l) l.sequence within comes ∙ ap (λ (n : ℕ). length f.insns + n) (sym place_is);
      }

  -- an instruction stands at the place
  at_place : {P : Type 0} → place < length f.insns → ((i : Insn) → slice_get f.insns place ≡ Some i → P) → P
  at_place within on =
      ⊎_elim (λ there. on there.0 there.2) (λ past. absurd (let end = past.0 in let never : ⊥ = omega (arith, end, within) in never)) (slice_get_cases f.insns place).1

  module _ (l : Lowered) (within : place < length f.insns) (lowers : (i : Insn) → slice_get f.insns place ≡ Some i → LowersIn forms f i (Ok (Some l))) where
    pub is_put : (g : Function) (end count : ℕ) → ((i : Insn) → slice_get f.insns place ≡ Some i → ReplacedComes f place i (rule_of forms l) l.sequence (Ok g) × (count ≡ length l.sequence)) →
        end ≡ place + count → PlaceReaches forms f place g end
    is_put g end count comes behind = at_place within (λ i at. replaces i l g end count at within (lowers i at) (comes i at).0 (comes i at).1 behind)

    pub is_refused : (e : PassRefusal) → ((i : Insn) → slice_get f.insns place ≡ Some i → RefusesWith e (ReplacedComes f place i (rule_of forms l) l.sequence)) → RefusesWith e (LowerFrom forms f place)
    is_refused e r =
        at_place within
        (λ i at. refuses_map e (ReplacedComes f place i (rule_of forms l) l.sequence) (LowerFrom forms f place) (λ d comes. LowerFrom.differs f place i l d at (lowers i at) comes) (r i at))

-- ---- the whole function

module _ (forms : List Entry) (f : Function) where
  pub ends : (g : Function) (at : ℕ) → Reaches forms f 0 g at → length g.insns ≤ at → LowerComes forms f (Ok g)
  ends g at so_far past = so_far (Ok g) (LowerFrom.done g at past)
