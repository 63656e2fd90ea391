-- What is fetched: the base of an address out of its slot, and an operand, by itself or at an address in a register.
use Rattle.std.proofs.Common.{◌≡◌, ◌≢◌, ℕ, zero, suc, if◌then◌else◌, Bool, true, false, List, [], ◌∷◌, ◌++◌, Some, refl, ap, ◌∙◌, arith}
use Rattle.std.proofs.lemmas.Bool.Decides.{nat_tests}
use Rattle.std.specs.FinMap.{get}
use Rattle.std.specs.Int.{cast_unsigned, w64}
use Rattle.std.specs.Ordering.{int_eq}
use Rattle.std.specs.Prelude.{ℤ, pos, negsuc}
use Rattle.law_operands_replaced.specs.bits64.Words.{low, sum_of}
use Rattle.law_operands_replaced.specs.bits64.declared.Width.{Width}
use Rattle.law_operands_replaced.specs.bits64.declared.Width.TheVariants.{W64}
use Rattle.law_operands_replaced.specs.rtx_tree.Patterns.{set_rtx, sum_rtx}
use Rattle.law_operands_replaced.specs.rtx_tree.Tree.{head_of, tree_of, node_of, reg_of, const_of}
use Rattle.law_operands_replaced.specs.rtx_tree.declared.class.Class.TheVariants as class
use Rattle.law_operands_replaced.specs.rtx_tree.declared.code.Code.TheVariants.{Mem}
use Rattle.law_operands_replaced.specs.rtx_tree.declared.code.Mode.{Mode}
use Rattle.law_operands_replaced.specs.rtx_tree.declared.code.Mode.TheVariants.{DI}
use Rattle.law_operands_replaced.specs.rtx_tree.declared.machine.SymbolAt.{SymbolAt}
use Rattle.law_operands_replaced.specs.rtx_tree.declared.memories.MemByte.{MemByte}
use Rattle.law_operands_replaced.specs.rtx_tree.declared.tree.Rtx.{Rtx}
use Rattle.law_operands_replaced.specs.rtx_tree.Code.{class_of_code}
use Rattle.law_operands_replaced.proofs.rtx_tree.Trees.{head_of-tree, kids_of-tree}
use Rattle.law_operands_replaced.specs.run_memory.RunMemory.{load}
use Rattle.law_operands_replaced.specs.rtl_func.Shapes.{class_at}
use Rattle.law_operands_replaced.specs.rtl_step.Regs.{Regs, known_of, reg_value}
use Rattle.law_operands_replaced.specs.rtl_step.Value.{width_of, value_of, of_one}
use Rattle.law_operands_replaced.specs.sym_insns.Shape.{all_natural}
use Rattle.law_operands_replaced.specs.Spare.{is_spare, KeepsRest, NamesNoSpare}
use Rattle.law_operands_replaced.specs.Held.{Held, Holds}
use Rattle.law_operands_replaced.proofs.ReadTrees.{tree_too}
use Rattle.law_operands_replaced.proofs.Registers.{holds_low}
use Rattle.law_operands_replaced.proofs.Settings.{value_reg, value_const, value_mem, sum_is}
use Rattle.law_operands_fetched.proofs.NewOnes.{memory_value}
use Rattle.law_operands_replaced.proofs.Fetches.{Fetched, fetch_one, fetch_then, far_code, far_loaded, offset_by, keeps_knows, Fetches, nothing, fetch, IsFresh}

-- ---- addresses on a register

-- a register plus a number, or the register alone where the number is 0
abbrev pub address_on : ℕ → ℤ → Rtx
address_on reg n = if int_eq n (pos 0) then reg_of DI reg else sum_rtx (reg_of DI reg) (const_of n)

nothing_added : (b : ℕ) (n : ℤ) → low W64 b ≡ b → int_eq n (pos 0) ≡ true → b ≡ sum_of W64 b (low W64 (cast_unsigned w64 n))
nothing_added b (pos zero) small is = omega (arith, small)
nothing_added b (pos (suc k)) small is = absurd (let never : ⊥ = grind (arith, nat_tests, is) in never)
nothing_added b (negsuc k) small is = absurd (let never : ⊥ = grind (arith, nat_tests, is) in never)

module _ (symbols : List SymbolAt) (memory : List MemByte) where
  on_by : (none : Bool) (r : Regs) (reg b : ℕ) (n : ℤ) → int_eq n (pos 0) ≡ none → reg_value r reg W64 ≡ Some b → low W64 b ≡ b →
      value_of symbols r memory (if none then reg_of DI reg else sum_rtx (reg_of DI reg) (const_of n)) W64 ≡ Some (offset_by symbols memory b n)
  on_by true r reg b n is holds small = value_reg symbols r memory DI reg W64 ∙ holds ∙ ap Some (nothing_added b n small is)
  on_by false r reg b n is holds small =
      sum_is symbols r memory (reg_of DI reg) (const_of n) b (low W64 (cast_unsigned w64 n)) (value_reg symbols r memory DI reg W64 ∙ holds)
      (value_const symbols r memory n W64)

  -- its value
  pub on_value : (r : Regs) (reg b : ℕ) (n : ℤ) → reg_value r reg W64 ≡ Some b → low W64 b ≡ b →
      value_of symbols r memory (address_on reg n) W64 ≡ Some (offset_by symbols memory b n)
  on_value r reg b n holds small = on_by (int_eq n (pos 0)) r reg b n refl holds small

  -- ---- bases

  -- the base in a slot that is near
  pub base_near : (r : Regs) (into sp b : ℕ) (n : ℤ) → into ≢ 0 → reg_value r 2 W64 ≡ Some sp → low W64 sp ≡ sp →
      load W64 memory (offset_by symbols memory sp n) ≡ Some b →
      Fetched symbols memory (set_rtx (reg_of DI into) (node_of Mem DI (address_on 2 n ∷ [])) ∷ []) r into W64 b
  base_near r into sp b n some pointer small is =
      fetch_one symbols memory r DI W64 into b (node_of Mem DI (address_on 2 n ∷ [])) some refl
      (value_mem symbols r memory DI (address_on 2 n) W64 ∙ ap (of_one (load W64 memory)) (on_value r 2 sp n pointer small) ∙ is)

  -- the base in a slot that is far, through its own register
  pub base_far : (r : Regs) (into sp b : ℕ) (n : ℤ) → into ≢ 0 → 2 ≢ into → reg_value r 2 W64 ≡ Some sp →
      load W64 memory (offset_by symbols memory sp n) ≡ Some b →
      Fetched symbols memory (far_code symbols memory into n ++ set_rtx (reg_of DI into) (node_of Mem DI (reg_of DI into ∷ [])) ∷ []) r into W64 b
  base_far r into sp b n some other pointer is = far_loaded symbols memory r DI W64 into sp b n some other refl pointer is

  -- ---- operands

  -- by itself
  pub plain_in : (regs r : Regs) (mode : Mode) (w : Width) (into v : ℕ) (x : Rtx) → KeepsRest regs r → into ≢ 0 → width_of mode ≡ Some w →
      all_natural x ≡ true → NamesNoSpare x → value_of symbols regs memory x w ≡ Some v →
      Fetched symbols memory (set_rtx (reg_of mode into) x ∷ []) r into w v
  plain_in regs r mode w into v x keeps some wide natural quiet is =
      fetch_one symbols memory r mode w into v x some wide
      (tree_too symbols regs r memory (keeps_knows regs r keeps) x w natural quiet v is)

  -- memory with another address
  abbrev pub at_address : Rtx → Rtx → Rtx
  at_address address x = tree_of (head_of x) (address ∷ [])

  pub at_value : (r : Regs) (x address : Rtx) (at : ℕ) (w : Width) → class_at x ≡ class.Memory →
      value_of symbols r memory address W64 ≡ Some at → value_of symbols r memory (at_address address x) w ≡ load w memory at
  at_value r x address at w is value =
      memory_value symbols r memory (at_address address x) address w
      (ap (λ h. class_of_code h.code) (head_of-tree (head_of x) (address ∷ [])) ∙ is) (kids_of-tree (head_of x) (address ∷ [])) ∙
      ap (of_one (load w memory)) value

  -- memory at an address on a register that holds its base
  pub based_in : (r : Regs) (mode : Mode) (w : Width) (into base b v : ℕ) (n : ℤ) (x : Rtx) → into ≢ 0 → base ≢ 0 → width_of mode ≡ Some w →
      class_at x ≡ class.Memory → get r base ≡ Some (known_of W64 b) → low W64 b ≡ b → load w memory (offset_by symbols memory b n) ≡ Some v →
      Fetched symbols memory (set_rtx (reg_of mode into) (at_address (address_on base n) x) ∷ []) r into w v
  based_in r mode w into base b v n x some some' wide is holds small loaded =
      fetch_one symbols memory r mode w into v (at_address (address_on base n) x) some wide
      (at_value r x (address_on base n) (offset_by symbols memory b n) w is
      (on_value r base b n (holds_low r base b W64 some' holds ∙ ap Some small) small) ∙ loaded)

  -- the same through its own register, into which the base is fetched first
  pub based_through : (code : List Rtx) (r : Regs) (mode : Mode) (w : Width) (into b v : ℕ) (n : ℤ) (x : Rtx) →
      Fetched symbols memory code r into W64 b → into ≢ 0 → width_of mode ≡ Some w → class_at x ≡ class.Memory → low W64 b ≡ b →
      load w memory (offset_by symbols memory b n) ≡ Some v →
      Fetched symbols memory (code ++ set_rtx (reg_of mode into) (at_address (address_on into n) x) ∷ []) r into w v
  based_through code r mode w into b v n x f some wide is small loaded =
      fetch_then symbols memory code r into W64 b f mode w v (at_address (address_on into n) x) some wide
      (at_value f.after x (address_on into n) (offset_by symbols memory b n) w is
      (on_value f.after into b n (holds_low f.after into b W64 some f.holds ∙ ap Some small) small) ∙ loaded)

  -- an address operand, on a register that holds its base
  pub address_in : (r : Regs) (into base b : ℕ) (n : ℤ) → into ≢ 0 → base ≢ 0 → get r base ≡ Some (known_of W64 b) → low W64 b ≡ b →
      Fetched symbols memory (set_rtx (reg_of DI into) (address_on base n) ∷ []) r into W64 (offset_by symbols memory b n)
  address_in r into base b n some some' holds small =
      fetch_one symbols memory r DI W64 into (offset_by symbols memory b n) (address_on base n) some refl
      (on_value r base b n (holds_low r base b W64 some' holds ∙ ap Some small) small)

  -- ---- requests, one behind the other

  -- what is fetched into a register, and by which instructions
  pub record Request : Type 0 where
    pub held : Held
    pub code : List Rtx

  abbrev pub codes : List Request → List Rtx
  codes [] = []
  codes (q ∷ qs) = q.code ++ codes qs

  -- a register is asked for by none of some requests
  abbrev pub IsAskedByNone : ℕ → List Request → Type 0
  IsAskedByNone reg [] = Unit {0}
  IsAskedByNone reg (q ∷ qs) = (reg ≢ q.held.reg) × IsAskedByNone reg qs

  -- no register is fetched twice
  abbrev pub AreOnce : List Request → Type 0
  AreOnce [] = Unit {0}
  AreOnce (q ∷ qs) = IsAskedByNone q.held.reg qs × AreOnce qs

  abbrev pub AllFresh : List Held → List Request → Type 0
  AllFresh [] qs = Unit {0}
  AllFresh (h ∷ hs) qs = IsAskedByNone h.reg qs × AllFresh hs qs

  abbrev pub all_held : List Held → List Request → List Held
  all_held hs [] = hs
  all_held hs (q ∷ qs) = all_held (q.held ∷ hs) qs

  fresh_first : (hs : List Held) (q : Request) (qs : List Request) → AllFresh hs (q ∷ qs) → IsFresh symbols memory q.held.reg hs
  fresh_first [] q qs fresh = tt
  fresh_first (h ∷ hs) q qs fresh = (fresh.0.0, fresh_first hs q qs fresh.1)

  fresh_rest : (hs : List Held) (q : Request) (qs : List Request) → AllFresh hs (q ∷ qs) → AllFresh hs qs
  fresh_rest [] q qs fresh = tt
  fresh_rest (h ∷ hs) q qs fresh = (fresh.0.1, fresh_rest hs q qs fresh.1)

  module _ (regs : Regs) where
    -- each may be made once those before it are: it is one of t3 to t6, and its instructions fetch it
    pub data CanBeMade : List Held → List Request → Type 0 where
      none : (hs : List Held) → CanBeMade hs []
      next : (hs : List Held) (q : Request) (qs : List Request) → is_spare q.held.reg ≡ true →
          ((r : Regs) → KeepsRest regs r → Holds r hs → Fetched symbols memory q.code r q.held.reg q.held.width q.held.value) →
          CanBeMade (q.held ∷ hs) qs → CanBeMade hs (q ∷ qs)

    pub requests_fetch : (hs : List Held) (qs : List Request) → CanBeMade hs qs → AllFresh hs qs → AreOnce qs →
        Fetches symbols memory regs hs (codes qs) (all_held hs qs)
    requests_fetch _ _ (none hs) fresh once = nothing hs
    requests_fetch _ _ (next hs q qs is one more) fresh once =
        fetch hs q.code (codes qs) (all_held (q.held ∷ hs) qs) q.held.reg q.held.width q.held.value is (fresh_first hs q qs fresh) one
        (requests_fetch (q.held ∷ hs) qs more (once.0, fresh_rest hs q qs fresh) once.1)
