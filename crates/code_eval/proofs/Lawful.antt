-- The start and the world are those of which same behaviour speaks.
use Rattle.std.proofs.Common.{◌≡◌, ◌≢◌, ◌≤◌, ◌<◌, ◌^◌, ◌+◌, ◌-◌, ℕ, zero, suc, Bool, true, false, ◌&&◌, ◌||◌, not, List, [], ◌∷◌, ◌++◌, replicate, Result, Ok, Err, refl, sym, ap, subst, ◌∙◌, arith}
use Rattle.std.specs.Prelude.{min, nat_eq, nat_le, nat_lt, slice_index, IsSome, IfOk}
use Rattle.std.specs.List.{All, filter}
use Rattle.std.proofs.lemmas.Bool.Decides.{nat_tests}
use Rattle.std.proofs.lemmas.List.Elements.{All-nil, All-cons, All-append, All-replicate, filter-append}
use Rattle.rtx_tree.specs.Memories.{byte_at}
use Rattle.rtx_tree.specs.declared.memories.MemByte.{MemByte}
use Rattle.rtx_tree.specs.declared.machine.Start.{Start}
use Rattle.rtx_tree.specs.declared.function.Function.{Function}
use Rattle.run_memory.specs.RunMemory.{is_visible}
use Rattle.func_run.specs.Run as rtl
use Rattle.func_run.specs.declared.outcome.Outcome.TheVariants as outcomes
use Rattle.rv_text.specs.declared.line.CodeItem.{CodeItem}
use Rattle.rv_line.specs.Run as code
use Rattle.same_behaviour.specs.Lawful.{IsWord, IsByte, IsMemory, locals_range, IsLawful, AreAddresses, IsLawfulReply, IsLawfulWorld, seen_by_rtl}
use Rattle.same_behaviour.specs.Same.{SameOutcome, SameFrom}
use Rattle.code_eval.specs.Start.{stack_room, caller_range, zeros, memory_with, start_with, code_start, rtl_start}
use Rattle.code_eval.specs.World.{zero_reply, symbols_of, world_of}
use Rattle.code_eval.specs.Eval.{lines_for, IsFair, AgreeAsSame}
use Rattle.code_eval.proofs.Zeros.{memory_ordered}

-- ---- bytes that are there

has_first : (first count address : ℕ) (b : Bool) → nat_eq first address ≡ b → (nat_eq first address ≡ false → IsSome (byte_at (zeros (first + 1) count) address)) → IsSome (byte_at (zeros first (suc count)) address)
unfolding zeros
has_first first count address true e more = rw e refl
has_first first count address false e more = rw e (more e)

zeros_have : (first count address : ℕ) → first ≤ address → address < first + count → IsSome (byte_at (zeros first count) address)
zeros_have first zero address low high = absurd (omega (arith, low, high))
zeros_have first (suc count) address low high =
    has_first first count address (nat_eq first address) refl (λ other. zeros_have (first + 1) count address (grind (arith, nat_tests, other, low)) (omega (arith, high)))

has_later : (b : MemByte) (bytes : List MemByte) (address : ℕ) (e : Bool) → nat_eq b.address address ≡ e → IsSome (byte_at bytes address) → IsSome (byte_at (b ∷ bytes) address)
has_later b bytes address true is h = rw is refl
has_later b bytes address false is h = rw is h

has_behind : (front bytes : List MemByte) (address : ℕ) → IsSome (byte_at bytes address) → IsSome (byte_at (front ++ bytes) address)
has_behind [] bytes address h = h
has_behind (b ∷ front) bytes address h = has_later b (front ++ bytes) address (nat_eq b.address address) refl (has_behind front bytes address h)

-- ---- they are bytes of a machine

zeros_are_bytes : (first count : ℕ) → first + count ≤ 2 ^ 64 → All IsByte (zeros first count)
unfolding zeros
zeros_are_bytes first zero fits = All-nil IsByte
zeros_are_bytes first (suc count) fits =
    All-cons IsByte (record { address = first; byte = 0 }) (zeros (first + 1) count) (record { address = omega (arith, fits); byte = omega arith })
    (zeros_are_bytes (first + 1) count (omega (arith, fits)))

memory_is : IsMemory (memory_with stack_room)
memory_is = record {
  ordered = memory_ordered stack_room (omega arith);
  bytes = All-append IsByte (zeros 65536 4096) (zeros 131072 1048576) (zeros_are_bytes 65536 4096 (omega arith)) (zeros_are_bytes 131072 1048576 (omega arith));
}

-- ---- the start is lawful

ranges_are : (args : List ℕ) (locals room : ℕ) → (start_with args locals room).visible ≡ (caller_range ∷ []) ++ locals_range (start_with args locals room) locals
ranges_are args zero room = refl
ranges_are args (suc n) room = refl

lawful : (f : Function) (args : List ℕ) → ((i : ℕ) → i < 8 → IsWord (slice_index args i)) → f.locals ≤ stack_room → IsLawful stack_room f.locals (code_start f args)
lawful f args words holds = record {
  words = record { args = words; saved = λ i less. no_word i; sp = omega arith; ra = omega arith };
  memory = memory_is;
  aligned = refl;
  holds = holds;
  above_zero = omega arith;
  present = λ address below. has_behind (zeros 65536 4096) (zeros 131072 1048576) address (zeros_have 131072 1048576 address (grind (arith, nat_tests, below)) (grind (arith, nat_tests, below)));
  ranges = caller_range ∷ [];
  visible_is = ranges_are args f.locals stack_room;
  apart = λ address below. grind (arith, nat_tests, below);
}
  where
    no_word : (i : ℕ) → slice_index (replicate 12 0) i < 2 ^ 64
    no_word i = subst (λ (n : ℕ). n < 2 ^ 64) (sym (all_zero 12 i)) (omega arith)
      where
        all_zero : (n i : ℕ) → slice_index (replicate n 0) i ≡ 0
        all_zero zero i = refl
        all_zero (suc n) zero = refl
        all_zero (suc n) (suc i) = all_zero n i

-- ---- and so is the world

lawful_world : (f : Function) (args : List ℕ) (count : ℕ) → AreAddresses (symbols_of f.insns) → IsLawfulWorld (code_start f args) (world_of f count)
lawful_world f args count addresses = record {
  symbols = addresses;
  replies = All-replicate (IsLawfulReply (code_start f args)) count zero_reply (record {
    value = omega arith;
    bytes = All-nil IsByte;
    visible = All-nil (λ write. is_visible (code_start f args).visible write.address ≡ true);
  });
}

-- ---- what the function sees

zeros_parted : (address n m : ℕ) → zeros address (n + m) ≡ zeros address n ++ zeros (address + n) m
unfolding zeros
zeros_parted address zero m = ap (λ (n : ℕ). zeros address n) (let same : 0 + m ≡ m = omega arith in same) ∙ ap (λ (a : ℕ). zeros a m) (let same : address ≡ address + 0 = omega arith in same)
zeros_parted address (suc n) m =
    ap (λ (k : ℕ). zeros address k) (let same : suc n + m ≡ suc (n + m) = omega arith in same) ∙
    ap (λ (bytes : List MemByte). record { address = address; byte = 0 } ∷ bytes) (zeros_parted (address + 1) n m ∙ ap (λ (a : ℕ). zeros (address + 1) n ++ zeros a m) (let same : address + 1 + n ≡ address + suc n = omega arith in same))

all_kept : (test : ℕ → Bool) (address count : ℕ) → ((a : ℕ) → address ≤ a → a < address + count → test a ≡ true) → filter (λ (b : MemByte). test b.address) (zeros address count) ≡ zeros address count
unfolding zeros
all_kept test address zero keeps = refl
all_kept test address (suc count) keeps =
    rw (keeps address (omega arith) (omega arith)) (ap (λ (bytes : List MemByte). record { address = address; byte = 0 } ∷ bytes) (all_kept test (address + 1) count (λ a low high. keeps a (omega (arith, low)) (omega (arith, high)))))

none_kept : (test : ℕ → Bool) (address count : ℕ) → ((a : ℕ) → address ≤ a → a < address + count → test a ≡ false) → filter (λ (b : MemByte). test b.address) (zeros address count) ≡ []
unfolding zeros
none_kept test address zero drops = refl
none_kept test address (suc count) drops = rw (drops address (omega arith) (omega arith)) (none_kept test (address + 1) count (λ a low high. drops a (omega (arith, low)) (omega (arith, high))))

-- whether a byte of the code's memory is seen
abbrev sees : ℕ → ℕ → Bool
sees locals a = not (nat_le 1179648 (a + 1048576) && nat_lt a 1179648) || (nat_le 1179648 (a + locals) && nat_lt a 1179648)

seen_room : (locals n m : ℕ) → n + m ≡ 1048576 → m ≡ min locals 1048576 → filter (λ (b : MemByte). sees locals b.address) (zeros 131072 1048576) ≡ zeros (1179648 - m) m
seen_room locals n m whole least =
    ap (λ (k : ℕ). filter (λ (b : MemByte). sees locals b.address) (zeros 131072 k)) (sym whole)
    ∙ ap (filter (λ (b : MemByte). sees locals b.address)) (zeros_parted 131072 n m)
    ∙ filter-append (λ (b : MemByte). sees locals b.address) (zeros 131072 n) (zeros (131072 + n) m)
    ∙ ap (λ (bytes : List MemByte). bytes ++ filter (λ (b : MemByte). sees locals b.address) (zeros (131072 + n) m)) (none_kept (sees locals) 131072 n (λ a low high. grind (arith, nat_tests, low, high, whole, least)))
    ∙ all_kept (sees locals) (131072 + n) m (λ a low high. grind (arith, nat_tests, low, high, whole, least))
    ∙ ap (λ (a : ℕ). zeros a m) (let same : 131072 + n ≡ 1179648 - m = omega (arith, whole) in same)

seen : (f : Function) (args : List ℕ) → rtl_start f args ≡ seen_by_rtl stack_room f.locals (code_start f args)
seen f args =
    ap (λ (memory : List MemByte). record (start_with args f.locals stack_room) { memory = memory })
    (sym (filter-append (λ (b : MemByte). sees f.locals b.address) (zeros 65536 4096) (zeros 131072 1048576)
    ∙ ap (λ (bytes : List MemByte). bytes ++ filter (λ (b : MemByte). sees f.locals b.address) (zeros 131072 1048576)) (all_kept (sees f.locals) 65536 4096 (λ a low high. grind (arith, nat_tests, low, high)))
    ∙ ap (λ (bytes : List MemByte). zeros 65536 4096 ++ bytes) (seen_room f.locals (1048576 - min f.locals 1048576) (min f.locals 1048576) (omega arith) refl)))

-- ---- all of it

pub eight_words : (args : List ℕ) → IsWord (slice_index args 0) → IsWord (slice_index args 1) → IsWord (slice_index args 2) → IsWord (slice_index args 3) →
    IsWord (slice_index args 4) → IsWord (slice_index args 5) → IsWord (slice_index args 6) → IsWord (slice_index args 7) →
    (i : ℕ) → i < 8 → IsWord (slice_index args i)
eight_words args a0 a1 a2 a3 a4 a5 a6 a7 zero less = a0
eight_words args a0 a1 a2 a3 a4 a5 a6 a7 (suc zero) less = a1
eight_words args a0 a1 a2 a3 a4 a5 a6 a7 (suc (suc zero)) less = a2
eight_words args a0 a1 a2 a3 a4 a5 a6 a7 (suc (suc (suc zero))) less = a3
eight_words args a0 a1 a2 a3 a4 a5 a6 a7 (suc (suc (suc (suc zero)))) less = a4
eight_words args a0 a1 a2 a3 a4 a5 a6 a7 (suc (suc (suc (suc (suc zero))))) less = a5
eight_words args a0 a1 a2 a3 a4 a5 a6 a7 (suc (suc (suc (suc (suc (suc zero)))))) less = a6
eight_words args a0 a1 a2 a3 a4 a5 a6 a7 (suc (suc (suc (suc (suc (suc (suc zero))))))) less = a7
eight_words args a0 a1 a2 a3 a4 a5 a6 a7 (suc (suc (suc (suc (suc (suc (suc (suc i)))))))) less = absurd (omega (arith, less))

pub fair : (f : Function) (steps : ℕ) (args : List ℕ) → ((i : ℕ) → i < 8 → IsWord (slice_index args i)) → AreAddresses (symbols_of f.insns) → IsFair f steps args
fair f steps args words addresses = record {
  start = λ holds. lawful f args words holds;
  world = lawful_world f args (lines_for steps) addresses;
  seen = seen f args;
}

pub agree : (f : Function) (items : List CodeItem) (steps : ℕ) (args : List ℕ) → IsFair f steps args → AgreeAsSame f items steps args
agree f items steps args is_fair = λ least same enough holds.
    let all : SameFrom stack_room f items (code_start f args) (world_of f (lines_for steps)) steps =
    same stack_room (code_start f args) (world_of f (lines_for steps)) steps enough (is_fair.start holds) is_fair.world in
    subst (Comes f items steps args) (sym is_fair.seen) all
  where
    Comes : Function → List CodeItem → ℕ → List ℕ → Start → Type 0
    Comes f items steps args start = rtl.run_of f start (world_of f (lines_for steps)) steps ≢ outcomes.Undefined →
        (k : ℕ) × (rtl.taken f start (world_of f (lines_for steps)) steps ≤ k) ×
        SameOutcome f.result (code_start f args) (rtl.run_of f start (world_of f (lines_for steps)) steps) (code.run items (code_start f args) (world_of f (lines_for steps)) k)

-- where an answer was given it was of a fair trial
pub all_fair : {X E : Type 0} (r : Result X E) (f : Function) (steps : ℕ) (args : List ℕ) → IsFair f steps args → IfOk r (λ x. IsFair f steps args)
all_fair (Ok x) f steps args is_fair = is_fair
all_fair (Err e) f steps args is_fair = tt

pub all_agree : {X E : Type 0} (r : Result X E) (f : Function) (items : List CodeItem) (steps : ℕ) (args : List ℕ) → IsFair f steps args → IfOk r (λ x. AgreeAsSame f items steps args)
all_agree (Ok x) f items steps args is_fair = agree f items steps args is_fair
all_agree (Err e) f items steps args is_fair = tt
