-- A line that has one word does what its word does.
use Rattle.std.proofs.Common.{◌≡◌, ℕ, ◌+◌, ◌-◌, ◌%◌, ◌^◌, ◌<◌, Bool, true, false, [], Option, Some, None, option_map, refl, sym, ◌∙◌, ap, arith}
use Rattle.std.specs.Prelude.{not}
use Rattle.std.proofs.Math.Nat.{mod-eq_of_lt}
use Rattle.bits64.specs.declared.Width.TheVariants.{W64}
use Rattle.bits64.specs.declared.operator.Operator.TheVariants.{Not, Xor}
use Rattle.bits64.specs.declared.operator.Relation.{Relation}
use Rattle.bits64.specs.declared.operator.Relation.TheVariants.{Eq, Ne, Lt, Ge, Ltu, Geu}
use Rattle.bits64.specs.Operators.{holds}
use Rattle.bits64.specs.Words.{sign_extended}
use Rattle.bits64.proofs.Operators.{complement_is}
use Rattle.rv_text.specs.Table.{row_of}
use Rattle.rv_text.specs.Lines.{is_of_row, same_line, has_all, bare}
use Rattle.rv_text.specs.declared.line.Line.{Line}
use Rattle.rv_text.specs.declared.mnemonic.Mnemonic.TheVariants as mnemonic
use Rattle.rv_text.proofs.Printing.{same_line_is}
use Rattle.rv_text.proofs.Numbers.{and_true}
use Rattle.rv_line.specs.Step.{register, with_register, of_both, computed, set_rd, branch_end, register_call_end, return_end}
use Rattle.rv_line.specs.declared.state.RvState.{RvState}
use Rattle.rv_line.specs.declared.state.LineEnd.{LineEnd}
use Rattle.rv_line.specs.declared.state.LineEnd.TheVariants.{Next}
use Rattle.rv_word.specs.Step.{OneWordDoes, turned, OppositeDoes}

-- a register that holds 64 bits, plus 0
plus_nothing : (value : Option ℕ) → ((number : ℕ) → value ≡ Some number → number < 2 ^ 64) → option_map (λ v. (v + 0) % 2 ^ 64) value ≡ value
plus_nothing None fits = refl
plus_nothing (Some v) fits =
    let less : v + 0 < 2 ^ 64 = omega (arith, fits v refl) in
    let same : (v + 0) % 2 ^ 64 ≡ v = mod-eq_of_lt less ∙ (omega arith) in
    ap Some same

-- a nop writes nothing
nothing_set : (line : Line) → is_of_row (row_of mnemonic.Nop) line ≡ true → line.rd ≡ 0
nothing_set line of_row =
    let same = same_line_is (bare line.name) line (and_true (has_all [] line) (same_line (bare line.name) line) of_row).1 in
    ap (λ (l : Line). l.rd) (sym same)

-- the complement is the exclusive or with -1
complement : (value : Option ℕ) → of_both (computed Xor W64) value (Some (2 ^ 64 - 1)) ≡ of_both (computed Not W64) value (Some 0)
complement None = refl
complement (Some a) = ap (λ n. Some (sign_extended W64 n)) (complement_is W64 a 0)

pub one_word_does : OneWordDoes
one_word_does world mnemonic.Add line state further of_row words = refl
one_word_does world mnemonic.Sub line state further of_row words = refl
one_word_does world mnemonic.And line state further of_row words = refl
one_word_does world mnemonic.Or line state further of_row words = refl
one_word_does world mnemonic.Xor line state further of_row words = refl
one_word_does world mnemonic.Sll line state further of_row words = refl
one_word_does world mnemonic.Srl line state further of_row words = refl
one_word_does world mnemonic.Sra line state further of_row words = refl
one_word_does world mnemonic.Slt line state further of_row words = refl
one_word_does world mnemonic.Sltu line state further of_row words = refl
one_word_does world mnemonic.Addw line state further of_row words = refl
one_word_does world mnemonic.Subw line state further of_row words = refl
one_word_does world mnemonic.Sllw line state further of_row words = refl
one_word_does world mnemonic.Srlw line state further of_row words = refl
one_word_does world mnemonic.Sraw line state further of_row words = refl
one_word_does world mnemonic.Mul line state further of_row words = refl
one_word_does world mnemonic.Mulh line state further of_row words = refl
one_word_does world mnemonic.Mulhsu line state further of_row words = refl
one_word_does world mnemonic.Mulhu line state further of_row words = refl
one_word_does world mnemonic.Div line state further of_row words = refl
one_word_does world mnemonic.Divu line state further of_row words = refl
one_word_does world mnemonic.Rem line state further of_row words = refl
one_word_does world mnemonic.Remu line state further of_row words = refl
one_word_does world mnemonic.Mulw line state further of_row words = refl
one_word_does world mnemonic.Divw line state further of_row words = refl
one_word_does world mnemonic.Divuw line state further of_row words = refl
one_word_does world mnemonic.Remw line state further of_row words = refl
one_word_does world mnemonic.Remuw line state further of_row words = refl
one_word_does world mnemonic.Addi line state further of_row words = refl
one_word_does world mnemonic.Andi line state further of_row words = refl
one_word_does world mnemonic.Ori line state further of_row words = refl
one_word_does world mnemonic.Xori line state further of_row words = refl
one_word_does world mnemonic.Slti line state further of_row words = refl
one_word_does world mnemonic.Sltiu line state further of_row words = refl
one_word_does world mnemonic.Addiw line state further of_row words = refl
one_word_does world mnemonic.Slli line state further of_row words = refl
one_word_does world mnemonic.Srli line state further of_row words = refl
one_word_does world mnemonic.Srai line state further of_row words = refl
one_word_does world mnemonic.Slliw line state further of_row words = refl
one_word_does world mnemonic.Srliw line state further of_row words = refl
one_word_does world mnemonic.Sraiw line state further of_row words = refl
one_word_does world mnemonic.Lui line state further of_row words = refl
one_word_does world mnemonic.Lb line state further of_row words = refl
one_word_does world mnemonic.Lbu line state further of_row words = refl
one_word_does world mnemonic.Lh line state further of_row words = refl
one_word_does world mnemonic.Lhu line state further of_row words = refl
one_word_does world mnemonic.Lw line state further of_row words = refl
one_word_does world mnemonic.Lwu line state further of_row words = refl
one_word_does world mnemonic.Ld line state further of_row words = refl
one_word_does world mnemonic.Sb line state further of_row words = refl
one_word_does world mnemonic.Sh line state further of_row words = refl
one_word_does world mnemonic.Sw line state further of_row words = refl
one_word_does world mnemonic.Sd line state further of_row words = refl
one_word_does world mnemonic.Beq line state further of_row words = refl
one_word_does world mnemonic.Bne line state further of_row words = refl
one_word_does world mnemonic.Blt line state further of_row words = refl
one_word_does world mnemonic.Bge line state further of_row words = refl
one_word_does world mnemonic.Bltu line state further of_row words = refl
one_word_does world mnemonic.Bgeu line state further of_row words = refl
one_word_does world mnemonic.Bgt line state further of_row words = refl
one_word_does world mnemonic.Ble line state further of_row words = refl
one_word_does world mnemonic.Bgtu line state further of_row words = refl
one_word_does world mnemonic.Bleu line state further of_row words = refl
one_word_does world mnemonic.Beqz line state further of_row words = refl
one_word_does world mnemonic.Bnez line state further of_row words = refl
one_word_does world mnemonic.Blez line state further of_row words = refl
one_word_does world mnemonic.Bgez line state further of_row words = refl
one_word_does world mnemonic.Bltz line state further of_row words = refl
one_word_does world mnemonic.Bgtz line state further of_row words = refl
one_word_does world mnemonic.Li line state further of_row words = tt
one_word_does world mnemonic.La line state further of_row words = tt
one_word_does world mnemonic.Mv line state further of_row words = refl
one_word_does world mnemonic.Not line state further of_row words = ap (set_rd state line) (complement (register state.regs line.rs))
one_word_does world mnemonic.Neg line state further of_row words = refl
one_word_does world mnemonic.Negw line state further of_row words = refl
one_word_does world mnemonic.SextW line state further of_row words = refl
one_word_does world mnemonic.Seqz line state further of_row words = refl
one_word_does world mnemonic.Snez line state further of_row words = refl
one_word_does world mnemonic.Sltz line state further of_row words = refl
one_word_does world mnemonic.Sgtz line state further of_row words = refl
one_word_does world mnemonic.J line state further of_row words = refl
one_word_does world mnemonic.Call line state further of_row words = tt
one_word_does world mnemonic.Jalr line state further of_row words = ap (λ target. (register_call_end target, state)) (plus_nothing (register state.regs line.rs) (λ n is. words line.rs n is))
one_word_does world mnemonic.Jr line state further of_row words = ap (λ target. (return_end state.entry_ra target, state)) (plus_nothing (register state.regs line.rs) (λ n is. words line.rs n is))
one_word_does world mnemonic.Ret line state further of_row words = ap (λ target. (return_end state.entry_ra target, state)) (plus_nothing (register state.regs 1) (λ n is. words 1 n is))
one_word_does world mnemonic.Nop line state further of_row words = ap (λ reg. (Next, record state { regs = with_register state.regs reg 0 })) (sym (nothing_set line of_row))

-- ---- branches and their opposites

branch_turned : (f g : ℕ → ℕ → Bool) → ((a b : ℕ) → g a b ≡ not (f a b)) → (left right : Option ℕ) → branch_end (of_both g left right) ≡ turned (branch_end (of_both f left right))
branch_turned f g is None right = refl
branch_turned f g is (Some a) None = refl
branch_turned f g is (Some a) (Some b) = ap (λ t. branch_end (Some t)) (is a b) ∙ by (f a b)
  where
    by : (t : Bool) → branch_end (Some (not t)) ≡ turned (branch_end (Some t))
    by true = refl
    by false = refl

negated : (t : Bool) → t ≡ not (not t)
negated true = refl
negated false = refl

module _ (state : RvState) (left right : Option ℕ) where
  to_other : (f g : Relation) → ((a b : ℕ) → holds g W64 a b ≡ not (holds f W64 a b)) →
      ◌≡◌ {A = LineEnd × RvState} (branch_end (of_both (holds g W64) left right), state) (turned (branch_end (of_both (holds f W64) left right)), state)
  to_other f g is = ap (λ e. (e, state)) (branch_turned (holds f W64) (holds g W64) is left right)

pub opposite_does : OppositeDoes
opposite_does world mnemonic.Add line state = tt
opposite_does world mnemonic.Sub line state = tt
opposite_does world mnemonic.And line state = tt
opposite_does world mnemonic.Or line state = tt
opposite_does world mnemonic.Xor line state = tt
opposite_does world mnemonic.Sll line state = tt
opposite_does world mnemonic.Srl line state = tt
opposite_does world mnemonic.Sra line state = tt
opposite_does world mnemonic.Slt line state = tt
opposite_does world mnemonic.Sltu line state = tt
opposite_does world mnemonic.Addw line state = tt
opposite_does world mnemonic.Subw line state = tt
opposite_does world mnemonic.Sllw line state = tt
opposite_does world mnemonic.Srlw line state = tt
opposite_does world mnemonic.Sraw line state = tt
opposite_does world mnemonic.Mul line state = tt
opposite_does world mnemonic.Mulh line state = tt
opposite_does world mnemonic.Mulhsu line state = tt
opposite_does world mnemonic.Mulhu line state = tt
opposite_does world mnemonic.Div line state = tt
opposite_does world mnemonic.Divu line state = tt
opposite_does world mnemonic.Rem line state = tt
opposite_does world mnemonic.Remu line state = tt
opposite_does world mnemonic.Mulw line state = tt
opposite_does world mnemonic.Divw line state = tt
opposite_does world mnemonic.Divuw line state = tt
opposite_does world mnemonic.Remw line state = tt
opposite_does world mnemonic.Remuw line state = tt
opposite_does world mnemonic.Addi line state = tt
opposite_does world mnemonic.Andi line state = tt
opposite_does world mnemonic.Ori line state = tt
opposite_does world mnemonic.Xori line state = tt
opposite_does world mnemonic.Slti line state = tt
opposite_does world mnemonic.Sltiu line state = tt
opposite_does world mnemonic.Addiw line state = tt
opposite_does world mnemonic.Slli line state = tt
opposite_does world mnemonic.Srli line state = tt
opposite_does world mnemonic.Srai line state = tt
opposite_does world mnemonic.Slliw line state = tt
opposite_does world mnemonic.Srliw line state = tt
opposite_does world mnemonic.Sraiw line state = tt
opposite_does world mnemonic.Lui line state = tt
opposite_does world mnemonic.Lb line state = tt
opposite_does world mnemonic.Lbu line state = tt
opposite_does world mnemonic.Lh line state = tt
opposite_does world mnemonic.Lhu line state = tt
opposite_does world mnemonic.Lw line state = tt
opposite_does world mnemonic.Lwu line state = tt
opposite_does world mnemonic.Ld line state = tt
opposite_does world mnemonic.Sb line state = tt
opposite_does world mnemonic.Sh line state = tt
opposite_does world mnemonic.Sw line state = tt
opposite_does world mnemonic.Sd line state = tt
opposite_does world mnemonic.Beq line state = λ further. to_other state (register state.regs line.rs) (register state.regs line.rt) Eq Ne (λ a b. refl)
opposite_does world mnemonic.Bne line state = λ further. to_other state (register state.regs line.rs) (register state.regs line.rt) Ne Eq (λ a b. negated (holds Eq W64 a b))
opposite_does world mnemonic.Blt line state = λ further. to_other state (register state.regs line.rs) (register state.regs line.rt) Lt Ge (λ a b. refl)
opposite_does world mnemonic.Bge line state = λ further. to_other state (register state.regs line.rs) (register state.regs line.rt) Ge Lt (λ a b. negated (holds Lt W64 a b))
opposite_does world mnemonic.Bltu line state = λ further. to_other state (register state.regs line.rs) (register state.regs line.rt) Ltu Geu (λ a b. refl)
opposite_does world mnemonic.Bgeu line state = λ further. to_other state (register state.regs line.rs) (register state.regs line.rt) Geu Ltu (λ a b. negated (holds Ltu W64 a b))
opposite_does world mnemonic.Bgt line state = λ further. to_other state (register state.regs line.rt) (register state.regs line.rs) Lt Ge (λ a b. refl)
opposite_does world mnemonic.Ble line state = λ further. to_other state (register state.regs line.rt) (register state.regs line.rs) Ge Lt (λ a b. negated (holds Lt W64 a b))
opposite_does world mnemonic.Bgtu line state = λ further. to_other state (register state.regs line.rt) (register state.regs line.rs) Ltu Geu (λ a b. refl)
opposite_does world mnemonic.Bleu line state = λ further. to_other state (register state.regs line.rt) (register state.regs line.rs) Geu Ltu (λ a b. negated (holds Ltu W64 a b))
opposite_does world mnemonic.Beqz line state = λ further. to_other state (register state.regs line.rs) (Some 0) Eq Ne (λ a b. refl)
opposite_does world mnemonic.Bnez line state = λ further. to_other state (register state.regs line.rs) (Some 0) Ne Eq (λ a b. negated (holds Eq W64 a b))
opposite_does world mnemonic.Blez line state = λ further. to_other state (Some 0) (register state.regs line.rs) Ge Lt (λ a b. negated (holds Lt W64 a b))
opposite_does world mnemonic.Bgez line state = λ further. to_other state (register state.regs line.rs) (Some 0) Ge Lt (λ a b. negated (holds Lt W64 a b))
opposite_does world mnemonic.Bltz line state = λ further. to_other state (register state.regs line.rs) (Some 0) Lt Ge (λ a b. refl)
opposite_does world mnemonic.Bgtz line state = λ further. to_other state (Some 0) (register state.regs line.rs) Lt Ge (λ a b. refl)
opposite_does world mnemonic.Li line state = tt
opposite_does world mnemonic.La line state = tt
opposite_does world mnemonic.Mv line state = tt
opposite_does world mnemonic.Not line state = tt
opposite_does world mnemonic.Neg line state = tt
opposite_does world mnemonic.Negw line state = tt
opposite_does world mnemonic.SextW line state = tt
opposite_does world mnemonic.Seqz line state = tt
opposite_does world mnemonic.Snez line state = tt
opposite_does world mnemonic.Sltz line state = tt
opposite_does world mnemonic.Sgtz line state = tt
opposite_does world mnemonic.J line state = tt
opposite_does world mnemonic.Call line state = tt
opposite_does world mnemonic.Jalr line state = tt
opposite_does world mnemonic.Jr line state = tt
opposite_does world mnemonic.Ret line state = tt
opposite_does world mnemonic.Nop line state = tt
