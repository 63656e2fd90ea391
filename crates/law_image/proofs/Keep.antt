-- Registers hold 64 bits after each line.
use Rattle.std.proofs.Common.{◌≡◌, ℕ, zero, suc, ℤ, pos, negsuc, ◌+◌, ◌^◌, ◌<◌, ◌==◌, Bool, true, false, if◌then◌else◌, List, [], ◌∷◌, length, Option, Some, None, option_map, refl, sym, ◌∙◌, ap, arith}
use Rattle.std.specs.Prelude.{slice_get, slice_set, option_and_then}
use Rattle.std.proofs.lemmas.Bool.Decides.{nat_tests}
use Rattle.bits64.specs.Words.{signed, wrapped}
use Rattle.bits64.specs.Operators.{number}
use Rattle.bits64.specs.declared.Width.{Width}
use Rattle.bits64.specs.declared.Width.TheVariants.{W8, W16, W32, W64}
use Rattle.rtx_tree.specs.Registers.{is_call_used}
use Rattle.rtx_tree.specs.declared.machine.Reply.{Reply}
use Rattle.rtx_tree.specs.declared.machine.World.{World}
use Rattle.run_memory.specs.Symbols.{symbol_address}
use Rattle.run_memory.specs.RunMemory.{load}
use Rattle.rv_text.specs.declared.line.Line.{Line}
use Rattle.rv_text.specs.declared.action.Action.{Action}
use Rattle.rv_text.specs.declared.action.Action.TheVariants.{Compute, Load, Store, SymbolAddress, Branch, Jump, Call, CallRegister, Return}
use Rattle.rv_text.specs.declared.action.Extension.{Extension}
use Rattle.rv_text.specs.declared.action.Extension.TheVariants.{Sign, Zero}
use Rattle.rtx_tree.specs.declared.memories.MemByte.{MemByte}
use Rattle.rv_line.specs.Step.{register, with_register, source_value, of_both, computed, extended, loaded, stored, place_of, set_rd, set_memory, act}
use Rattle.rv_line.specs.Run.{left_from, after_call}
use Rattle.rv_line.specs.declared.state.RvState.{RvState}
use Rattle.rv_word.specs.Step.{HoldsWords}

-- ---- registers as a list

abbrev pub Word : Option ℕ → Type 0
Word None = Unit {0}
Word (Some value) = value < 2 ^ 64

abbrev pub AreWords : List (Option ℕ) → Type 0
AreWords [] = Unit {0}
AreWords (value ∷ regs) = Word value × AreWords regs

-- 32 registers of 64 bits
pub record Holds (state : RvState) : Type 0 where
  pub count : length state.regs ≡ 32
  pub words : AreWords state.regs

not_zero : (r : ℕ) → (suc r == 0) ≡ false
not_zero r = grind (arith, nat_tests)

pub read : (regs : List (Option ℕ)) (r : ℕ) → register regs (suc r) ≡ option_and_then (λ value. value) (slice_get regs (suc r))
read regs r = ap (λ b. if b then Some 0 else option_and_then (λ value. value) (slice_get regs (suc r))) (not_zero r)

-- a number that a register reads as
word_at : (regs : List (Option ℕ)) (r number : ℕ) → AreWords regs → option_and_then (λ (value : Option ℕ). value) (slice_get regs r) ≡ Some number → number < 2 ^ 64
word_at [] r number words is = cc
word_at (None ∷ regs) zero number words is = cc
word_at (Some v ∷ regs) zero number words is = let same : v ≡ number = cc in omega (arith, same, words.0)
word_at (value ∷ regs) (suc r) number words is = word_at regs r number words.1 is

pub holds_words : (state : RvState) → Holds state → HoldsWords state
holds_words state holds zero number is = let same : 0 ≡ number = cc in omega (arith, same)
holds_words state holds (suc r) number is = word_at state.regs (suc r) number holds.words (sym (read state.regs r) ∙ is)

-- registers whose numbers all read as words
pub words_all : (regs : List (Option ℕ)) → ((r number : ℕ) → slice_get regs r ≡ Some (Some number) → number < 2 ^ 64) → AreWords regs
words_all [] all = tt
words_all (None ∷ regs) all = (tt, words_all regs (λ r number is. all (suc r) number is))
words_all (Some v ∷ regs) all = (all 0 v refl, words_all regs (λ r number is. all (suc r) number is))

-- ---- writes

length_set : (regs : List (Option ℕ)) (t : ℕ) (value : Option ℕ) → length (slice_set regs t value) ≡ length regs
length_set [] t value = refl
length_set (x ∷ regs) zero value = refl
length_set (x ∷ regs) (suc t) value = ap suc (length_set regs t value)

set_words : (regs : List (Option ℕ)) (t : ℕ) (value : Option ℕ) → AreWords regs → Word value → AreWords (slice_set regs t value)
set_words [] t value words word = tt
set_words (x ∷ regs) zero value words word = (word, words.1)
set_words (x ∷ regs) (suc t) value words word = (words.0, set_words regs t value words.1 word)

pub put_holds : (state : RvState) (reg value : ℕ) → Holds state → value < 2 ^ 64 → Holds (record state { regs = with_register state.regs reg value })
put_holds state reg value holds fits = by (reg == 0)
  where
    by : (b : Bool) → Holds (record state { regs = if b then state.regs else slice_set state.regs reg (Some value) })
    by true = record { count = holds.count; words = holds.words }
    by false = record { count = length_set state.regs reg (Some value) ∙ holds.count; words = set_words state.regs reg (Some value) holds.words fits }

left_words : (reg : ℕ) (regs : List (Option ℕ)) → AreWords regs → AreWords (left_from reg regs)
left_words reg [] words = tt
left_words reg (value ∷ regs) words = (by (is_call_used reg), left_words (reg + 1) regs words.1)
  where
    by : (b : Bool) → Word (if b then None else value)
    by true = tt
    by false = words.0

left_length : (reg : ℕ) (regs : List (Option ℕ)) → length (left_from reg regs) ≡ length regs
left_length reg [] = refl
left_length reg (value ∷ regs) = ap suc (left_length (reg + 1) regs)

pub reply_holds : (state : RvState) (reply : Reply) → Holds state → reply.value < 2 ^ 64 → Holds (after_call reply state)
reply_holds state reply holds fits =
    let left : Holds (record (after_call reply state) { regs = left_from 0 state.regs }) = record { count = left_length 0 state.regs ∙ holds.count; words = left_words 0 state.regs holds.words } in
    put_holds (record (after_call reply state) { regs = left_from 0 state.regs }) 10 reply.value left fits

-- ---- lines

wrapped_fits : (z : ℤ) → wrapped W64 z < 2 ^ 64
wrapped_fits (pos n) = omega arith
wrapped_fits (negsuc n) = omega arith

extended_fits : (extension : Extension) (w : Width) (a : ℕ) → extended extension w a < 2 ^ 64
extended_fits Sign w a = wrapped_fits (signed w a)
extended_fits Zero W8 a = omega arith
extended_fits Zero W16 a = omega arith
extended_fits Zero W32 a = omega arith
extended_fits Zero W64 a = omega arith

abbrev Fit : Option ℕ → Type 0
Fit o = (value : ℕ) → o ≡ Some value → value < 2 ^ 64

map_fits : (f : ℕ → ℕ) → ((a : ℕ) → f a < 2 ^ 64) → (o : Option ℕ) → Fit (option_map f o)
map_fits f fits None value is = cc
map_fits f fits (Some a) value is = let same : f a ≡ value = cc in omega (arith, same, fits a)

both_fit : (f : ℕ → ℕ → ℕ) → ((a b : ℕ) → f a b < 2 ^ 64) → (left right : Option ℕ) → Fit (of_both f left right)
both_fit f fits None right value is = cc
both_fit f fits (Some a) right value is = map_fits (f a) (fits a) right value is

and_then_fits : (f : ℕ → Option ℕ) → ((a : ℕ) → Fit (f a)) → (o : Option ℕ) → Fit (option_and_then f o)
and_then_fits f fits None value is = cc
and_then_fits f fits (Some a) value is = fits a value is

rd_holds : (state : RvState) (line : Line) (o : Option ℕ) → Holds state → Fit o → Holds (set_rd state line o).1
rd_holds state line None holds fits = holds
rd_holds state line (Some value) holds fits = put_holds state line.rd value holds (fits value refl)

memory_holds : (state : RvState) (o : Option (List MemByte)) → Holds state → Holds (set_memory state o).1
memory_holds state None holds = holds
memory_holds state (Some memory) holds = record { count = holds.count; words = holds.words }

pub act_holds : (action : Action) (world : World) (line : Line) (state : RvState) → Holds state → (action ≡ SymbolAddress → Fit (symbol_address world.symbols line.target)) → Holds (act action world line state).1
act_holds (Compute operation w left right) world line state holds known =
    rd_holds state line (of_both (computed operation w) (source_value state line left) (source_value state line right)) holds (both_fit (computed operation w) (λ a b. wrapped_fits (signed w (number operation w a b))) (source_value state line left) (source_value state line right))
act_holds (Load w extension) world line state holds known =
    rd_holds state line (loaded w extension state line) holds (and_then_fits (λ address. option_map (extended extension w) (load w state.memory address)) (λ address. map_fits (extended extension w) (extended_fits extension w) (load w state.memory address)) (place_of state line))
act_holds (Store w) world line state holds known = memory_holds state (stored w state line) holds
act_holds SymbolAddress world line state holds known = rd_holds state line (symbol_address world.symbols line.target) holds (known refl)
act_holds (Branch comparison left right) world line state holds known = holds
act_holds Jump world line state holds known = holds
act_holds Call world line state holds known = holds
act_holds CallRegister world line state holds known = holds
act_holds (Return through) world line state holds known = holds

-- ---- ra doesn't outlive a call

abbrev pub with_ra : RvState → ℕ → RvState
with_ra state value = record state { regs = with_register state.regs 1 value }

pub ra_left : (state : RvState) (value : ℕ) (reply : Reply) → after_call reply (with_ra state value) ≡ after_call reply state
ra_left state value reply = ap (λ regs. record (after_call reply state) { regs = with_register regs 10 reply.value }) (by state.regs)
  where
    by : (regs : List (Option ℕ)) → left_from 0 (with_register regs 1 value) ≡ left_from 0 regs
    by [] = refl
    by (a ∷ []) = refl
    by (a ∷ b ∷ regs) = refl
