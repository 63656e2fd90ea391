-- What effects leave at one address of memory and in one register, by what was there.
use Rattle.std.proofs.Common.{◌≡◌, ℕ, zero, suc, ◌+◌, ◌/◌, ◌%◌, ◌==◌, eqb, if◌then◌else◌, true, List, [], ◌∷◌, map, Option, Some, None, refl, sym, ap, ◌∙◌, arith}
use Rattle.std.proofs.lemmas.Bool.Decides.{nat_tests}
use Rattle.std.specs.Cmp.{nat_cmp_total}
use Rattle.std.specs.FinMap.{get, get-insert, get-remove}
use Rattle.std.specs.Ordering.{nat_cmp, eq_by_cmp}
use Rattle.std.specs.Prelude.{is_some, option_map, unwrap_or}
use Rattle.bits64.specs.Words.{bytes_of}
use Rattle.bits64.specs.declared.Width.{Width}
use Rattle.rtx_tree.specs.Memories.{with_byte}
use Rattle.rtx_tree.specs.declared.memories.MemByte.{MemByte}
use Rattle.run_memory.specs.RunMemory.{load, store, with_number}
use Rattle.run_memory.proofs.Laws.{has-load_stored}
use Rattle.rtl_step.specs.Effect.{reg_after, regs_after, bytes_after, memory_after}
use Rattle.rtl_step.specs.Regs.{Regs}
use Rattle.rtl_step.specs.declared.effect.Effect.{Effect}
use Rattle.rtl_step.specs.declared.effect.Effect.TheVariants.{Nothing, Sets, Unsets, Stores}
use Rattle.rtl_step.specs.declared.regs.Known.{Known}

-- ---- some effects on one cell

abbrev pub all_of : {A : Type 0} → (Effect → A → A) → List Effect → A → A
all_of made [] x = x
all_of made (e ∷ es) x = all_of made es (made e x)

-- ---- one address

-- what so many bytes of a number from an address on leave at one address
abbrev pub number_made : ℕ → ℕ → ℕ → ℕ → ℕ → ℕ
number_made a address zero number old = old
number_made a address (suc count) number old = number_made a (address + 1) count (number / 256) (if a == address then number % 256 else old)

abbrev pub byte_made : ℕ → Effect → ℕ → ℕ
byte_made a (Stores w at value) old = number_made a at (bytes_of w) value old
byte_made a _ old = old

-- ---- one register

abbrev set_made : ℕ → ℕ → Known → Option Known → Option Known
set_made q zero k old = old
set_made q (suc r) k old = if eqb q (suc r) then Some k else old

abbrev pub known_made : ℕ → Effect → Option Known → Option Known
known_made q (Sets r k) old = set_made q r k old
known_made q (Unsets r) old = if eqb q r then None else old
known_made q _ old = old

pub eqb_cmp : (q k : ℕ) → eq_by_cmp nat_cmp q k ≡ eqb q k
eqb_cmp q k = grind (arith, nat_tests)

one_known : (e : Effect) (regs : Regs) (q : ℕ) → get (reg_after e regs) q ≡ known_made q e (get regs q)
one_known (Sets zero k) regs q = refl
one_known (Sets (suc r) k) regs q = get-insert nat_cmp_total regs (suc r) k q ∙ ap (λ b. if b then Some k else get regs q) (eqb_cmp q (suc r))
one_known (Unsets r) regs q = get-remove nat_cmp_total regs r q ∙ ap (λ b. if b then None else get regs q) (eqb_cmp q r)
one_known Nothing regs q = refl
one_known (Stores w at v) regs q = refl

-- what a look-up gives behind effects
pub known_is : (es : List Effect) (regs : Regs) (q : ℕ) → get (regs_after es regs) q ≡ all_of (known_made q) es (get regs q)
known_is [] regs q = refl
known_is (e ∷ es) regs q = known_is es (reg_after e regs) q ∙ ap (all_of (known_made q) es) (one_known e regs q)

-- ---- memory, byte by byte

abbrev remade : (ℕ → ℕ → ℕ) → MemByte → MemByte
remade new b = record { address = b.address; byte = new b.address b.byte }

map_twice : (f g : ℕ → ℕ → ℕ) (memory : List MemByte) →
    map (remade f) (map (remade g) memory) ≡ map (remade (λ a old. f a (g a old))) memory
map_twice f g [] = refl
map_twice f g (b ∷ memory) = ap (λ rest. remade (λ a old. f a (g a old)) b ∷ rest) (map_twice f g memory)

map_same : (memory : List MemByte) → memory ≡ map (remade (λ a old. old)) memory
map_same [] = refl
map_same (b ∷ memory) = ap (λ rest. b ∷ rest) (map_same memory)

number_is : (memory : List MemByte) (address count number : ℕ) →
    with_number memory address count number ≡ map (remade (λ a old. number_made a address count number old)) memory
number_is memory address zero number = map_same memory
number_is memory address (suc count) number =
    number_is (with_byte memory address (number % 256)) (address + 1) count (number / 256) ∙
    map_twice (λ a old. number_made a (address + 1) count (number / 256) old) (λ a old. if a == address then number % 256 else old) memory

-- the access of each store is there
abbrev pub IsThere : List MemByte → Effect → Type 0
IsThere memory (Stores w at value) = is_some (load w memory at) ≡ true
IsThere memory _ = Unit {0}

abbrev pub AreThere : List MemByte → List Effect → Type 0
AreThere memory [] = Unit {0}
AreThere memory (e ∷ es) = IsThere memory e × AreThere memory es

pub stored : (w : Width) (memory : List MemByte) (at v : ℕ) (o : Option ℕ) → load w memory at ≡ o → is_some o ≡ true →
    unwrap_or (store w memory at v) memory ≡ with_number memory at (bytes_of w) v
stored w memory at v None is there = absurd (let no : ⊥ = cc in no)
stored w memory at v (Some x) is there = ap (λ o. unwrap_or (option_map (λ _. with_number memory at (bytes_of w) v) o) memory) is

one_byte : (e : Effect) (memory : List MemByte) → IsThere memory e → bytes_after e memory ≡ map (remade (λ a old. byte_made a e old)) memory
one_byte (Stores w at v) memory there = stored w memory at v (load w memory at) refl there ∙ number_is memory at (bytes_of w) v
one_byte (Sets r k) memory there = map_same memory
one_byte (Unsets r) memory there = map_same memory
one_byte Nothing memory there = map_same memory

still_one : (w v : Width) (memory : List MemByte) (at value other : ℕ) → is_some (load w memory at) ≡ true → is_some (load v memory other) ≡ true →
    is_some (load v (unwrap_or (store w memory at value) memory) other) ≡ true
still_one w v memory at value other there is = ap (λ m. is_some (load v m other)) (stored w memory at value (load w memory at) refl there) ∙
    has-load_stored w v memory at value other ∙ is

pub still_there : (e : Effect) (es : List Effect) (memory : List MemByte) → IsThere memory e → AreThere memory es →
    AreThere (bytes_after e memory) es
still_there e [] memory there are = tt
still_there (Stores w at v) (Stores w' at' v' ∷ es) memory there are =
    (still_one w w' memory at v at' there are.0, still_there (Stores w at v) es memory there are.1)
still_there (Stores w at v) (Sets r k ∷ es) memory there are = (tt, still_there (Stores w at v) es memory there are.1)
still_there (Stores w at v) (Unsets r ∷ es) memory there are = (tt, still_there (Stores w at v) es memory there are.1)
still_there (Stores w at v) (Nothing ∷ es) memory there are = (tt, still_there (Stores w at v) es memory there are.1)
still_there (Sets r k) (x ∷ es) memory there are = are
still_there (Unsets r) (x ∷ es) memory there are = are
still_there Nothing (x ∷ es) memory there are = are

-- memory behind effects
pub memory_is : (es : List Effect) (memory : List MemByte) → AreThere memory es →
    memory_after es memory ≡ map (remade (λ a old. all_of (byte_made a) es old)) memory
memory_is [] memory are = map_same memory
memory_is (e ∷ es) memory are =
    memory_is es (bytes_after e memory) (still_there e es memory are.0 are.1) ∙
    ap (map (remade (λ a old. all_of (byte_made a) es old))) (one_byte e memory are.0) ∙
    map_twice (λ a old. all_of (byte_made a) es old) (λ a old. byte_made a e old) memory

map_alike : (f g : ℕ → ℕ → ℕ) (memory : List MemByte) → ((a old : ℕ) → f a old ≡ g a old) → map (remade f) memory ≡ map (remade g) memory
map_alike f g [] same = refl
map_alike f g (b ∷ memory) same =
    ap (λ byte. record { address = b.address; byte = byte } ∷ map (remade f) memory) (same b.address b.byte) ∙
    ap (λ rest. remade g b ∷ rest) (map_alike f g memory same)

-- effects that leave the same at each address leave the same memory
pub same_memory : (es others : List Effect) (memory : List MemByte) → AreThere memory es → AreThere memory others →
    ((a old : ℕ) → all_of (byte_made a) es old ≡ all_of (byte_made a) others old) → memory_after es memory ≡ memory_after others memory
same_memory es others memory are are' same =
    memory_is es memory are ∙
    map_alike (λ a old. all_of (byte_made a) es old) (λ a old. all_of (byte_made a) others old) memory same ∙
    sym (memory_is others memory are')
