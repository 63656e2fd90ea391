-- What is fetched into registers, each by one or more settings of the register, one behind the other.
use Rattle.std.proofs.Common.{◌≡◌, ◌≢◌, ℕ, true, false, List, [], ◌∷◌, ◌++◌, Some, refl, sym, ap, ◌∙◌, arith}
use Rattle.std.specs.FinMap.{get}
use Rattle.std.specs.Int.{cast_unsigned, w64}
use Rattle.std.specs.Prelude.{ℤ}
use Rattle.bits64.specs.Words.{low, sum_of}
use Rattle.bits64.specs.declared.Width.{Width}
use Rattle.bits64.specs.declared.Width.TheVariants.{W64}
use Rattle.rtx_tree.specs.Patterns.{set_rtx, sum_rtx}
use Rattle.rtx_tree.specs.Tree.{node_of, reg_of, const_of}
use Rattle.rtx_tree.specs.declared.code.Code.TheVariants.{Mem}
use Rattle.rtx_tree.specs.declared.code.Mode.{Mode}
use Rattle.rtx_tree.specs.declared.code.Mode.TheVariants.{DI}
use Rattle.rtx_tree.specs.declared.machine.SymbolAt.{SymbolAt}
use Rattle.rtx_tree.specs.declared.memories.MemByte.{MemByte}
use Rattle.rtx_tree.specs.declared.tree.Rtx.{Rtx}
use Rattle.run_memory.specs.RunMemory.{load}
use Rattle.rtl_step.specs.Regs.{Regs, known_of, reg_value, with_reg}
use Rattle.rtl_step.specs.Value.{width_of, value_of, of_one}
use Rattle.rtl_step.specs.declared.effect.Effect.TheVariants.{Sets}
use Rattle.law_operands_replaced.specs.Spare.{is_spare, KnowsRest, KeepsRest}
use Rattle.law_operands_replaced.specs.Straight.{Straight, done, next}
use Rattle.law_operands_replaced.specs.Held.{Held, Holds}
use Rattle.law_operands_replaced.proofs.Registers.{set_is, set_other, value_alike, holds_low}
use Rattle.law_operands_replaced.proofs.StraightLaws.{straight_both, straight_told}
use Rattle.law_operands_replaced.proofs.Settings.{value_reg, value_const, value_mem, sum_is, set_does}

-- what has not changed is known
pub keeps_knows : (regs other : Regs) → KeepsRest regs other → KnowsRest regs other
keeps_knows regs other keeps reg rest w v is = value_alike regs other reg w (keeps reg rest) ∙ is

sum_turned : (a b : ℕ) → sum_of W64 (low W64 (low W64 a)) b ≡ sum_of W64 b (low W64 a)
sum_turned a b = omega arith

sum_low : (a b : ℕ) → low W64 (sum_of W64 a b) ≡ sum_of W64 a b
sum_low a b = omega arith

module _ (symbols : List SymbolAt) (memory : List MemByte) where
  -- memory is the same, and of registers one alone has changed
  abbrev pub Only : Regs → ℕ → Regs → List MemByte → Type 0
  Only r into r' m = (m ≡ memory) × ((q : ℕ) → q ≢ into → get r' q ≡ get r q)

  -- a register is fetched by some instructions
  pub record Fetched (code : List Rtx) (r : Regs) (into : ℕ) (w : Width) (v : ℕ) : Type 0 where
    pub after : Regs
    pub runs : Straight symbols (Only r into) code r memory after memory
    pub holds : get after into ≡ Some (known_of w v)
    pub others : (q : ℕ) → q ≢ into → get after q ≡ get r q

  pub fetch_one : (r : Regs) (mode : Mode) (w : Width) (into v : ℕ) (source : Rtx) → into ≢ 0 → width_of mode ≡ Some w →
      value_of symbols r memory source w ≡ Some v → Fetched (set_rtx (reg_of mode into) source ∷ []) r into w v
  fetch_one r mode w into v source some wide is =
      let r' : Regs = with_reg r into (known_of w v) in record {
        after = r';
        runs = next (set_rtx (reg_of mode into) source) [] r memory (Sets into (known_of w v) ∷ []) r' memory
            (set_does symbols r memory mode w into v source wide is) (refl, λ q other. set_other r into (known_of w v) q other) (done r' memory);
        holds = set_is r into (known_of w v) some;
        others = λ q other. set_other r into (known_of w v) q other;
      }

  -- and set once more
  pub fetch_then : (code : List Rtx) (r : Regs) (into : ℕ) (w : Width) (v : ℕ) (f : Fetched code r into w v) (mode : Mode) (w' : Width) (v' : ℕ)
      (source : Rtx) → into ≢ 0 → width_of mode ≡ Some w' → value_of symbols f.after memory source w' ≡ Some v' →
      Fetched (code ++ set_rtx (reg_of mode into) source ∷ []) r into w' v'
  fetch_then code r into w v f mode w' v' source some wide is =
      let last : Regs = with_reg f.after into (known_of w' v') in
      let others : (q : ℕ) → q ≢ into → get last q ≡ get r q = λ q other. set_other f.after into (known_of w' v') q other ∙ f.others q other in
      record {
        after = last;
        runs = straight_both symbols (Only r into) code (set_rtx (reg_of mode into) source ∷ []) r memory f.after memory last memory f.runs
            (next (set_rtx (reg_of mode into) source) [] f.after memory (Sets into (known_of w' v') ∷ []) last memory
            (set_does symbols f.after memory mode w' into v' source wide is) (refl, others) (done last memory));
        holds = set_is f.after into (known_of w' v') some;
        others = others;
      }

  -- ---- far bases

  -- a constant, and its sum with sp
  abbrev pub far_code : ℕ → ℤ → List Rtx
  far_code into n = set_rtx (reg_of DI into) (const_of n) ∷ set_rtx (reg_of DI into) (sum_rtx (reg_of DI into) (reg_of DI 2)) ∷ []

  -- sp and an offset
  abbrev pub offset_by : ℕ → ℤ → ℕ
  offset_by sp n = sum_of W64 sp (low W64 (cast_unsigned w64 n))

  pub far_fetched : (r : Regs) (into sp : ℕ) (n : ℤ) → into ≢ 0 → 2 ≢ into → reg_value r 2 W64 ≡ Some sp →
      Fetched (far_code into n) r into W64 (offset_by sp n)
  far_fetched r into sp n some other pointer =
      let c : ℕ = low W64 (cast_unsigned w64 n) in
      let f = fetch_one r DI W64 into c (const_of n) some refl (value_const symbols r memory n W64) in
      fetch_then (set_rtx (reg_of DI into) (const_of n) ∷ []) r into W64 c f DI W64 (offset_by sp n) (sum_rtx (reg_of DI into) (reg_of DI 2)) some refl
      (sum_is symbols f.after memory (reg_of DI into) (reg_of DI 2) (low W64 c) sp
      (value_reg symbols f.after memory DI into W64 ∙ holds_low f.after into c W64 some f.holds)
      (value_reg symbols f.after memory DI 2 W64 ∙ value_alike r f.after 2 W64 (f.others 2 other) ∙ pointer) ∙
      ap Some (sum_turned (cast_unsigned w64 n) sp))

  -- ---- memory at a register that was fetched

  -- what stands in memory at the address that a register holds
  pub mem_value : (r : Regs) (mode : Mode) (w : Width) (into at : ℕ) → into ≢ 0 → get r into ≡ Some (known_of W64 at) → low W64 at ≡ at →
      value_of symbols r memory (node_of Mem mode (reg_of DI into ∷ [])) w ≡ load w memory at
  mem_value r mode w into at some holds small =
      value_mem symbols r memory mode (reg_of DI into) w ∙
      ap (of_one (load w memory)) (value_reg symbols r memory DI into W64 ∙ holds_low r into at W64 some holds ∙ ap Some small)

  -- memory at a far address, by its own register
  pub far_loaded : (r : Regs) (mode : Mode) (w : Width) (into sp v : ℕ) (n : ℤ) → into ≢ 0 → 2 ≢ into → width_of mode ≡ Some w →
      reg_value r 2 W64 ≡ Some sp → load w memory (offset_by sp n) ≡ Some v →
      Fetched (far_code into n ++ set_rtx (reg_of mode into) (node_of Mem mode (reg_of DI into ∷ [])) ∷ []) r into w v
  far_loaded r mode w into sp v n some other wide pointer is =
      let f = far_fetched r into sp n some other pointer in
      fetch_then (far_code into n) r into W64 (offset_by sp n) f mode w v (node_of Mem mode (reg_of DI into ∷ [])) some wide
      (mem_value f.after mode w into (offset_by sp n) some f.holds (sum_low sp (low W64 (cast_unsigned w64 n))) ∙ is)

  -- ---- all fetches

  -- none of those registers
  abbrev pub IsFresh : ℕ → List Held → Type 0
  IsFresh into [] = Unit {0}
  IsFresh into (h ∷ hs) = (h.reg ≢ into) × IsFresh into hs

  abbrev pub held : ℕ → Width → ℕ → Held
  held into w v = record { reg = into; width = w; value = v }

  module _ (regs : Regs) where
    -- Instructions that fetch one register behind the other, each of t3 to t6 and none twice. A fetch may read what was fetched before it.
    pub data Fetches : List Held → List Rtx → List Held → Type 0 where
      nothing : (hs : List Held) → Fetches hs [] hs
      fetch : (hs : List Held) (code more : List Rtx) (hs' : List Held) (into : ℕ) (w : Width) (v : ℕ) → is_spare into ≡ true → IsFresh into hs →
          ((r : Regs) → KeepsRest regs r → Holds r hs → Fetched code r into w v) → Fetches (held into w v ∷ hs) more hs' →
          Fetches hs (code ++ more) hs'

    -- memory is the same, and of registers t3 to t6 alone have changed
    abbrev pub Rest : Regs → List MemByte → Type 0
    Rest r m = (m ≡ memory) × KeepsRest regs r

    -- what they come to
    pub record AllFetched (code : List Rtx) (r : Regs) (hs : List Held) : Type 0 where
      pub after : Regs
      pub runs : Straight symbols Rest code r memory after memory
      pub rest : KeepsRest regs after
      pub holds : Holds after hs

    spare_other : (q into : ℕ) → is_spare q ≡ false → is_spare into ≡ true → q ≢ into
    spare_other q into kept is same = let both : is_spare q ≡ true = ap is_spare same ∙ is in
        let e : true ≡ false = sym both ∙ kept in let never : ⊥ = cc in never

    still : (a b : Regs) (into : ℕ) (hs : List Held) → IsFresh into hs → ((q : ℕ) → q ≢ into → get b q ≡ get a q) → Holds a hs → Holds b hs
    still a b into [] fresh others holds = tt
    still a b into (h ∷ hs) fresh others holds = (others h.reg fresh.0 ∙ holds.0, still a b into hs fresh.1 others holds.1)

    pub fetches : (hs : List Held) (code : List Rtx) (hs' : List Held) → Fetches hs code hs' → (r : Regs) → KeepsRest regs r → Holds r hs →
        AllFetched code r hs'
    fetches _ _ _ (nothing hs) r rest holds = record { after = r; runs = done r memory; rest = rest; holds = holds }
    fetches _ _ _ (fetch hs code more hs' into w v is fresh one later) r rest holds =
        let f = one r rest holds in
        let rest' : KeepsRest regs f.after = λ q kept. f.others q (spare_other q into kept is) ∙ rest q kept in
        let all = fetches (held into w v ∷ hs) more hs' later f.after rest' (f.holds, still r f.after into hs fresh f.others holds) in record {
          after = all.after;
          runs = straight_both symbols Rest code more r memory f.after memory all.after memory
              (straight_told symbols (Only r into) Rest (λ r' m told. (told.0, λ q kept. told.1 q (spare_other q into kept is) ∙ rest q kept))
              code r memory f.after memory f.runs) all.runs;
          rest = all.rest;
          holds = all.holds;
        }
