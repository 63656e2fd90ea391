-- What a function comes to from a place on, gone through one place behind the other.
use Rattle.std.proofs.Common.{◌≡◌, ℕ, ◌+◌, ◌-◌, ◌≤◌, ◌<◌, List, ◌++◌, length, take, drop, Ok, Err, ap, subst, ◌∙◌, arith}
use Rattle.std.proofs.lemmas.List.{length-append, length-take-le, length-drop}
use Rattle.rtx_tree.specs.declared.tree.Rtx.{Rtx}
use Rattle.rtx_tree.specs.declared.function.Insn.{Insn}
use Rattle.rtx_tree.specs.declared.function.Function.{Function}
use Rattle.rtl_chain.specs.Counts.{greatest_uid}
use Rattle.insn_replace.specs.Replace.{made}
use Rattle.insn_replace.proofs.MadeLaws.{made_long}
use Rattle.md_forms.specs.declared.form.Entry.{Entry}
use Rattle.md_forms.specs.Forms.{names_of}
use Rattle.form_needs.specs.Needs.{name_at}
use Rattle.pass_refusal.specs.Outcome.{RefusesWith}
use Rattle.pass_refusal.specs.declared.refusal.PassRefusal.{PassRefusal}
use Rattle.pass_refusal.proofs.Refusing.{refuses_map}
use Rattle.window_comes.specs.Window.{WindowComes}
use Rattle.window_comes.specs.Done.{HasEnds}
use Rattle.peep2.specs.declared.form.Rewrite.{Rewrite}
use Rattle.peep2.specs.Rewrite.{IsLeft}
use Rattle.peep2.specs.Cover.{CoverFrom, CoverComes}
use Rattle.peep2.specs.machine.Steps.{IsFound, Reaches, PlaceReaches}
use Rattle.peep2.proofs.Lists.{there}

-- as many stand behind the sequence as behind the window
window_behind : (f g : Function) (first end : ℕ) (i last : Insn) (rule : List ℕ) (s : List Rtx) → first ≤ end → end ≤ length f.insns → WindowComes f first end i last rule s (Ok g) →
    length g.insns + end ≡ length f.insns + (first + length s)
window_behind f _ first end i last rule s order within (WindowComes.replaced put short) =
    let whole = length-append (take first f.insns) (made f last s ++ drop end f.insns) in
    let rest = length-append (made f last s) (drop end f.insns) in
    let front = length-take-le first f.insns (omega (arith, order, within)) in
    let back = length-drop end f.insns in
    let new = made_long last (greatest_uid f.insns + 1) s in
    omega (arith, order, within, whole, rest, front, back, new)

module _ (forms : List Entry) (f : Function) (place : ℕ) where
  -- ---- an instruction that stays

  pub stays : (g : Function) (end : ℕ) → place < length f.insns → IsLeft forms f place → g ≡ f → end ≡ place + 1 → PlaceReaches forms f place g end
  stays g end within left same behind = record {
    reaches = λ answer more. CoverFrom.stays f place answer within left
        (subst (λ (h : Function). CoverFrom forms h (place + 1) answer) same (subst (λ (n : ℕ). CoverFrom forms g n answer) behind more));
    nearer = let long = ap (λ (h : Function). length h.insns) same in omega (arith, within, long, behind);
  }

  -- ---- a window that is rewritten

  -- its first and its last instruction
  record Ends (count : ℕ) : Type 0 where
    first : Insn
    last : Insn
    are : HasEnds f place (place + count) first last

  ends_of : (count : ℕ) → 0 < count → place + count ≤ length f.insns → Ends count
  ends_of count some within =
      let one = there f.insns place (omega (arith, some, within)) in
      let other = there f.insns (place + count - 1) (omega (arith, some, within)) in
      record { first = one.0; last = other.0; are = record { at_first = one.1; at_last = other.1 } }

  module _ (r : Rewrite) (is : IsFound forms f place r) where
    abbrev rule : List ℕ
    rule = name_at (names_of forms) r.form

    ends : Ends r.count
    ends = let run = is.is.rewrites.run in ends_of r.count run.some run.within

    pub is_refused : (e : PassRefusal) → ((i last : Insn) → HasEnds f place r.end i last → RefusesWith e (WindowComes f place r.end i last rule r.sequence)) → RefusesWith e (CoverFrom forms f place)
    is_refused e told =
        let refused = subst (λ n. (i last : Insn) → HasEnds f place n i last → RefusesWith e (WindowComes f place n i last rule r.sequence)) is.end_is told in
        refuses_map e (WindowComes f place (place + r.count) ends.first ends.last rule r.sequence) (CoverFrom forms f place)
        (λ d comes. CoverFrom.refused f place r.count r.form ends.first ends.last r.sequence d ends.are.at_first ends.are.at_last is.is comes)
        (refused ends.first ends.last ends.are)

    pub is_put : (g : Function) (end count : ℕ) → ((i last : Insn) → HasEnds f place r.end i last → WindowComes f place r.end i last rule r.sequence (Ok g) × (count ≡ length r.sequence)) →
        end ≡ place + count → PlaceReaches forms f place g end
    is_put g end count told behind =
        let both = subst (λ n. (i last : Insn) → HasEnds f place n i last → WindowComes f place n i last rule r.sequence (Ok g) × (count ≡ length r.sequence)) is.end_is told ends.first ends.last ends.are in
        let comes = both.0 in
        let place_is : end ≡ place + length r.sequence = behind ∙ ap (λ (n : ℕ). place + n) both.1 in
        let some = is.is.rewrites.run.some in
        let within = is.is.rewrites.run.within in
        let long = window_behind f g place (place + r.count) ends.first ends.last rule r.sequence (omega arith) within comes in
        record {
          reaches = λ answer more.
              CoverFrom.goes f g place r.count r.form ends.first ends.last r.sequence answer ends.are.at_first ends.are.at_last is.is comes (subst (λ (n : ℕ). CoverFrom forms g n answer) place_is more);
          nearer = omega (arith, some, within, long, place_is);
        }

-- ---- the whole function

module _ (forms : List Entry) (f : Function) where
  pub ends_there : (g : Function) (at : ℕ) → Reaches forms f 0 g at → length g.insns ≤ at → CoverComes forms f (Ok g)
  ends_there g at so_far past = so_far (Ok g) (CoverFrom.done g at past)

  pub goes_on : (g h : Function) (at end : ℕ) → Reaches forms f 0 g at → PlaceReaches forms g at h end → Reaches forms f 0 h end
  goes_on g h at end so_far on answer more = so_far answer (on.reaches answer more)

  pub stops : (g : Function) (at : ℕ) (e : PassRefusal) → Reaches forms f 0 g at → RefusesWith e (CoverFrom forms g at) → RefusesWith e (CoverComes forms f)
  stops g at e so_far refused = refuses_map e (CoverFrom forms g at) (CoverComes forms f) (λ d comes. so_far (Err d) comes) refused
