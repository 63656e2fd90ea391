-- Rows that load from a register and an offset, as many bits as are set or fewer.
use Rattle.std.proofs.Common.{◌≡◌, ℕ, suc, pos, true, [], ◌∷◌, ◌++◌, Some, refl, subst, ◌∙◌, ap}
use Rattle.std.specs.Prelude.{ℤ}
use Rattle.std.specs.Int.{cast_unsigned, w64}
use Rattle.bits64.specs.declared.Width.{Width}
use Rattle.bits64.specs.declared.Width.TheVariants.{W8, W16, W32, W64}
use Rattle.rtx_tree.specs.declared.code.Code.{Code}
use Rattle.rtx_tree.specs.declared.code.Code.TheVariants as code
use Rattle.rtx_tree.specs.declared.code.Mode.{Mode}
use Rattle.rtx_tree.specs.declared.code.Mode.TheVariants.{QI, HI, SI, DI}
use Rattle.rtl_step.specs.Value.{width_of}
use Rattle.term_tree.specs.declared.head.Head.TheVariants as heads
use Rattle.term_tree.specs.Tree as trees
use Rattle.term_tree.specs.Tree.{Tree}
use Rattle.term_mean.specs.Sums.{summed}
use Rattle.term_mean.specs.Compared.{low_bits}
use Rattle.sym_state.specs.State.{Register}
use Rattle.sym_state.specs.Makers.{one}
use Rattle.rtx_open.proofs.Expressions.{Written, node, none, with}
use Rattle.rv_text.specs.Lines.{action_of}
use Rattle.rv_text.specs.declared.line.Line.{Line}
use Rattle.rv_text.specs.declared.action.Action.TheVariants.{Load}
use Rattle.rv_text.specs.declared.action.Extension.{Extension}
use Rattle.rv_text.specs.declared.action.Extension.TheVariants.{Zero, Sign}
use Rattle.sym_state.specs.State.{State, Access, start, needs_at}
use Rattle.sym_state.specs.Registers.{read, read_needs, put}
use Rattle.sym_lines.specs.Run as lines
use Rattle.law_plain_terms.specs.Rows.{line_address, insn_address, loaded_at, loads, IsSmall, converted}
use Rattle.law_plain_terms.proofs.Memory as memory
use Rattle.law_plain_terms.proofs.Memory.{same_address}
use Rattle.law_plain_terms.proofs.SmallMemory as small_memory
use Rattle.law_plain_states.proofs.Effects.{register, made}
use Rattle.law_plain_states.proofs.Rows.{both, access_covered, line_sets}
use Rattle.law_plain_states.proofs.OneLine.{AreSmallNeeds, Row, LineSets}
use Rattle.law_plain_states.proofs.Computes.{is_set}
use Rattle.law_plain_rows.proofs.WithConstant.{With, number, word}

-- ---- the line

abbrev behind : Extension → Width → ℕ → ℕ → ℤ → State
behind e w d s k =
    let at = summed W64 (cast_unsigned w64 k) ((1, read [] s W64) ∷ []) in
    record start { regs = put [] d (Some (loads e w at)); needs = needs_at 0 (read_needs [] s W8 ++ Access at w ∷ []) }

-- the state by the address
abbrev set_from : Extension → Width → ℕ → ℕ → Tree → State
set_from e w n a at = record start { regs = put [] (suc n) (Some (loads e w at)); needs = needs_at 0 (is_set a ∷ Access at w ∷ []) }

-- the address of the instruction
abbrev pub address : With → Tree
address p = insn_address p.0 (word p)

pub line_loads : (e : Extension) (w : Width) (number : ℕ) (l : Line) (n : ℕ) (p : With) → action_of l ≡ Some (Load w e) → l.rd ≡ suc n → l.rs ≡ suc p.0 → l.imm ≡ p.1 →
    LineSets number l n (loads e w (address p)) (is_set p.0 ∷ Access (address p) w ∷ [])
line_loads e w number l n p does rd rs imm = record {
  fits = ap (λ o. lines.fits_action o []) does;
  state = line_sets number l (Load w e) does ∙ (ap (λ d. behind e w d l.rs l.imm) rd ∙ (ap (λ s. behind e w (suc n) s l.imm) rs ∙ (ap (λ k. behind e w (suc n) (suc p.0) k) imm ∙ ap (λ at. set_from e w n p.0 at) (same_address p.0 (word p)))));
}

-- ---- the rows, by what is particular to each: so many bits are loaded

-- (plus:DI REGISTER NUMBER)
abbrev pub address_of : With → Written
address_of p = node code.Plus DI (pos 0) [] (with (register DI p.0) (with (number p.1) none))

-- (mem:MODE (plus:DI REGISTER NUMBER))
abbrev pub memory_of : Mode → With → Written
memory_of m p = node code.Mem m (pos 0) [] (with (address_of p) none)

abbrev pub extends : Code → Mode → Mode → With → Written
extends c m o p = node c m (pos 0) [] (with (memory_of o p) none)

abbrev pub LoadRow : Mode → Width → (With → Written) → (With → Tree) → Extension → Width → Type 0
LoadRow m w x t e v = Row m w x t (λ p. loads e v (address p)) (λ p. Register (suc p.0) W64 ∷ Access (address p) v ∷ []) (λ p. is_set p.0 ∷ Access (address p) v ∷ [])

-- what holds of the line's address holds of the instruction's
pub at_address : (P : Tree → Type 0) (p : With) → P (line_address p.0 (word p)) → P (address p)
at_address P p h = subst P (same_address p.0 (word p)) h

small_access : (a : ℕ) (v w : Width) (at : Tree) → IsSmall at → AreSmallNeeds (Register a v ∷ Access at w ∷ [])
small_access a v w at small = both _ true small refl

row : (m : Mode) (w : Width) (x : With → Written) (t : With → Tree) (e : Extension) (v : Width) → width_of m ≡ Some w →
    ((p : With) → (made (x p) w).term ≡ t p) → ((p : With) → (made (x p) w).needs ≡ Register (suc p.0) W64 ∷ Access (address p) v ∷ []) →
    ((p : With) → IsSmall (t p)) → ((p : With) → trees.width_of (t p) ≡ w) → ((p : With) → trees.width_of (loads e v (address p)) ≡ W64) → ((p : With) → low_bits w (loads e v (address p)) ≡ t p) → LoadRow m w x t e v
row m w x t e v wide term needs insn_small insn_wide line_wide same = record {
  wide = wide;
  term = term;
  needs = needs;
  covered = λ p. access_covered (suc p.0) (address p) W64 v;
  small_needs = λ p. small_access (suc p.0) W64 v (address p) (at_address IsSmall p (small_memory.small_address p.0 (word p)));
  small_asked = λ p. small_access (suc p.0) W8 v (address p) (at_address IsSmall p (small_memory.small_address p.0 (word p)));
  insn_small = insn_small;
  line_small = λ p. at_address (λ at. IsSmall (loads e v at)) p (small_memory.line_loads e v p.0 (word p));
  insn_wide = insn_wide;
  line_wide = line_wide;
  same = same;
}

-- ---- as many bits as are set

pub load_qi : LoadRow QI W8 (memory_of QI) (λ p. loaded_at W8 (address p)) Zero W8
load_qi = row QI W8 (memory_of QI) (λ p. loaded_at W8 (address p)) Zero W8 refl (λ p. refl) (λ p. refl)
    (λ p. at_address (λ at. IsSmall (loaded_at W8 at)) p (small_memory.insn_reads W8 p.0 (word p))) (λ p. refl) (λ p. refl) (λ p. memory.load_8 (address p))

pub load_hi : LoadRow HI W16 (memory_of HI) (λ p. loaded_at W16 (address p)) Zero W16
load_hi = row HI W16 (memory_of HI) (λ p. loaded_at W16 (address p)) Zero W16 refl (λ p. refl) (λ p. refl)
    (λ p. at_address (λ at. IsSmall (loaded_at W16 at)) p (small_memory.insn_reads W16 p.0 (word p))) (λ p. refl) (λ p. refl) (λ p. memory.load_16 (address p))

pub load_si : LoadRow SI W32 (memory_of SI) (λ p. loaded_at W32 (address p)) Sign W32
load_si = row SI W32 (memory_of SI) (λ p. loaded_at W32 (address p)) Sign W32 refl (λ p. refl) (λ p. refl)
    (λ p. at_address (λ at. IsSmall (loaded_at W32 at)) p (small_memory.insn_reads W32 p.0 (word p))) (λ p. refl) (λ p. refl) (λ p. memory.load_32 (address p))

pub load_di : LoadRow DI W64 (memory_of DI) (λ p. loaded_at W64 (address p)) Sign W64
load_di = row DI W64 (memory_of DI) (λ p. loaded_at W64 (address p)) Sign W64 refl (λ p. refl) (λ p. refl)
    (λ p. at_address (λ at. IsSmall (loaded_at W64 at)) p (small_memory.insn_reads W64 p.0 (word p))) (λ p. refl) (λ p. refl) (λ p. memory.load_64 (address p))

-- ---- fewer, extended

pub sign_qi_si : LoadRow SI W32 (extends code.SignExtend SI QI) (λ p. converted code.SignExtend W32 (loaded_at W8 (address p))) Sign W8
sign_qi_si = row SI W32 (extends code.SignExtend SI QI) (λ p. converted code.SignExtend W32 (loaded_at W8 (address p))) Sign W8 refl (λ p. refl) (λ p. refl)
    (λ p. at_address (λ at. IsSmall (one [] heads.Sext W32 (loaded_at W8 at))) p (small_memory.insn_extends W8 p.0 (word p)).0) (λ p. refl) (λ p. refl) (λ p. memory.sign_8_32 (address p))

pub zero_qi_si : LoadRow SI W32 (extends code.ZeroExtend SI QI) (λ p. converted code.ZeroExtend W32 (loaded_at W8 (address p))) Zero W8
zero_qi_si = row SI W32 (extends code.ZeroExtend SI QI) (λ p. converted code.ZeroExtend W32 (loaded_at W8 (address p))) Zero W8 refl (λ p. refl) (λ p. refl)
    (λ p. at_address (λ at. IsSmall (one [] heads.Zext W32 (loaded_at W8 at))) p (small_memory.insn_extends W8 p.0 (word p)).1) (λ p. refl) (λ p. refl) (λ p. memory.zero_8_32 (address p))

pub sign_qi_di : LoadRow DI W64 (extends code.SignExtend DI QI) (λ p. converted code.SignExtend W64 (loaded_at W8 (address p))) Sign W8
sign_qi_di = row DI W64 (extends code.SignExtend DI QI) (λ p. converted code.SignExtend W64 (loaded_at W8 (address p))) Sign W8 refl (λ p. refl) (λ p. refl)
    (λ p. at_address (λ at. IsSmall (loads Sign W8 at)) p (small_memory.line_loads Sign W8 p.0 (word p))) (λ p. refl) (λ p. refl) (λ p. memory.sign_8_64 (address p))

pub zero_qi_di : LoadRow DI W64 (extends code.ZeroExtend DI QI) (λ p. converted code.ZeroExtend W64 (loaded_at W8 (address p))) Zero W8
zero_qi_di = row DI W64 (extends code.ZeroExtend DI QI) (λ p. converted code.ZeroExtend W64 (loaded_at W8 (address p))) Zero W8 refl (λ p. refl) (λ p. refl)
    (λ p. at_address (λ at. IsSmall (loads Zero W8 at)) p (small_memory.line_loads Zero W8 p.0 (word p))) (λ p. refl) (λ p. refl) (λ p. memory.zero_8_64 (address p))

pub sign_hi_si : LoadRow SI W32 (extends code.SignExtend SI HI) (λ p. converted code.SignExtend W32 (loaded_at W16 (address p))) Sign W16
sign_hi_si = row SI W32 (extends code.SignExtend SI HI) (λ p. converted code.SignExtend W32 (loaded_at W16 (address p))) Sign W16 refl (λ p. refl) (λ p. refl)
    (λ p. at_address (λ at. IsSmall (one [] heads.Sext W32 (loaded_at W16 at))) p (small_memory.insn_extends W16 p.0 (word p)).0) (λ p. refl) (λ p. refl) (λ p. memory.sign_16_32 (address p))

pub zero_hi_si : LoadRow SI W32 (extends code.ZeroExtend SI HI) (λ p. converted code.ZeroExtend W32 (loaded_at W16 (address p))) Zero W16
zero_hi_si = row SI W32 (extends code.ZeroExtend SI HI) (λ p. converted code.ZeroExtend W32 (loaded_at W16 (address p))) Zero W16 refl (λ p. refl) (λ p. refl)
    (λ p. at_address (λ at. IsSmall (one [] heads.Zext W32 (loaded_at W16 at))) p (small_memory.insn_extends W16 p.0 (word p)).1) (λ p. refl) (λ p. refl) (λ p. memory.zero_16_32 (address p))

pub sign_hi_di : LoadRow DI W64 (extends code.SignExtend DI HI) (λ p. converted code.SignExtend W64 (loaded_at W16 (address p))) Sign W16
sign_hi_di = row DI W64 (extends code.SignExtend DI HI) (λ p. converted code.SignExtend W64 (loaded_at W16 (address p))) Sign W16 refl (λ p. refl) (λ p. refl)
    (λ p. at_address (λ at. IsSmall (loads Sign W16 at)) p (small_memory.line_loads Sign W16 p.0 (word p))) (λ p. refl) (λ p. refl) (λ p. memory.sign_16_64 (address p))

pub zero_hi_di : LoadRow DI W64 (extends code.ZeroExtend DI HI) (λ p. converted code.ZeroExtend W64 (loaded_at W16 (address p))) Zero W16
zero_hi_di = row DI W64 (extends code.ZeroExtend DI HI) (λ p. converted code.ZeroExtend W64 (loaded_at W16 (address p))) Zero W16 refl (λ p. refl) (λ p. refl)
    (λ p. at_address (λ at. IsSmall (loads Zero W16 at)) p (small_memory.line_loads Zero W16 p.0 (word p))) (λ p. refl) (λ p. refl) (λ p. memory.zero_16_64 (address p))

pub sign_si_di : LoadRow DI W64 (extends code.SignExtend DI SI) (λ p. converted code.SignExtend W64 (loaded_at W32 (address p))) Sign W32
sign_si_di = row DI W64 (extends code.SignExtend DI SI) (λ p. converted code.SignExtend W64 (loaded_at W32 (address p))) Sign W32 refl (λ p. refl) (λ p. refl)
    (λ p. at_address (λ at. IsSmall (loads Sign W32 at)) p (small_memory.line_loads Sign W32 p.0 (word p))) (λ p. refl) (λ p. refl) (λ p. memory.sign_32_64 (address p))

pub zero_si_di : LoadRow DI W64 (extends code.ZeroExtend DI SI) (λ p. converted code.ZeroExtend W64 (loaded_at W32 (address p))) Zero W32
zero_si_di = row DI W64 (extends code.ZeroExtend DI SI) (λ p. converted code.ZeroExtend W64 (loaded_at W32 (address p))) Zero W32 refl (λ p. refl) (λ p. refl)
    (λ p. at_address (λ at. IsSmall (loads Zero W32 at)) p (small_memory.line_loads Zero W32 p.0 (word p))) (λ p. refl) (λ p. refl) (λ p. memory.zero_32_64 (address p))
