-- How long a region is.
use Rattle.std.proofs.Common.{◌≡◌, ℕ, ◌+◌, ◌<◌, ◌≤◌, min, true, false, List, [], ◌∷◌, take, length, get_or, sym, ap, ◌∙◌, arith}
use Rattle.std.specs.List.{AllWithin}
use Rattle.std.proofs.lemmas.List.{get_or-take, length-take}
use Rattle.std.proofs.lemmas.List.Elements.{at_read, AllWithin-more, AllWithin-upto}
use Rattle.std.proofs.lemmas.List.Sums.{prefix_len_is}
use Rattle.rtx_tree.specs.Limit.{most_scheduled}
use Rattle.rtx_tree.specs.declared.function.Insn.{Insn}
use Rattle.region_jobs.specs.Region.{is_plain, region_length}

abbrev pub ArePlain : List Insn → ℕ → Type 0
ArePlain insns at = AllWithin (λ (i : Insn). is_plain i ≡ true) insns 0 at

pub goes_on : (insns : List Insn) (at : ℕ) (i : Insn) → at < length insns → i ≡ get_or insns at i → ArePlain insns at → is_plain i ≡ true → ArePlain insns (at + 1)
goes_on insns at i within is before plain = AllWithin-more (λ (i : Insn). is_plain i ≡ true) insns 0 at before (at_read insns (λ (i : Insn). is_plain i ≡ true) at i within is plain)

module _ (insns : List Insn) (at : ℕ) (d : Insn) (before : ArePlain insns at) (few : at ≤ most_scheduled) (within : at ≤ length insns) where
  long : length (take most_scheduled insns) ≡ min most_scheduled (length insns)
  long = length-take most_scheduled insns

  passes : (k : ℕ) → k < at → is_plain (get_or (take most_scheduled insns) k d) ≡ true
  passes k h = ap is_plain (get_or-take most_scheduled insns k d (omega arith)) ∙ before k d (omega arith) h

  pub ends_by : (at < length (take most_scheduled insns) → is_plain (get_or (take most_scheduled insns) at d) ≡ false) → at ≡ region_length insns
  ends_by stops = sym (prefix_len_is is_plain (take most_scheduled insns) at d (omega (arith, long)) passes stops)

-- at one that is not plain
pub ends_at : (insns : List Insn) (at : ℕ) (i : Insn) → ArePlain insns at → at < most_scheduled → at < length insns → i ≡ get_or insns at i → is_plain i ≡ false → at ≡ region_length insns
ends_at insns at i before few within is other =
    ends_by insns at i before (omega arith) (omega arith) (λ h. ap is_plain (get_or-take most_scheduled insns at i few ∙ sym is) ∙ other)

-- behind the last
last : (insns : List Insn) (at : ℕ) → ArePlain insns at → at ≡ min most_scheduled (length insns) → at ≡ region_length insns
last [] at before is = omega arith
last (i ∷ insns) at before is =
    ends_by (i ∷ insns) at i before (omega arith) (omega arith) (λ h. absurd (let l = length-take most_scheduled (i ∷ insns) in omega (arith, l)))

pub ends : (insns : List Insn) (at most : ℕ) → ArePlain insns at → most ≤ at → most ≡ min most_scheduled (length insns) → most ≡ region_length insns
ends insns at most before past is = last insns most (AllWithin-upto (λ (i : Insn). is_plain i ≡ true) insns 0 at most past before) is
