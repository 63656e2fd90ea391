-- The moves before an instruction fetch, each into its register, what is to be fetched: in the turn of each operand, and the far bases.
use Rattle.std.proofs.Common.{◌≡◌, ◌≢◌, ℕ, ◌&&◌, ◌||◌, not, Bool, true, false, if◌then◌else◌, List, [], ◌∷◌, ◌++◌, Option, Some, None, refl, sym, ap, subst, ◌∙◌}
use Rattle.std.specs.Prelude.{ℤ, is_some}
use Rattle.std.proofs.lemmas.Bool.{and_parts}
use Rattle.std.proofs.lemmas.List.{append-nil}
use Rattle.std.proofs.lemmas.List.Concat.{flat_map-append}
use Rattle.law_operands_replaced.specs.bits64.declared.Width.TheVariants.{W64}
use Rattle.law_operands_replaced.specs.rtx_tree.declared.machine.SymbolAt.{SymbolAt}
use Rattle.law_operands_replaced.specs.rtx_tree.declared.memories.MemByte.{MemByte}
use Rattle.law_operands_replaced.specs.rtx_tree.declared.tree.Rtx.{Rtx}
use Rattle.law_operands_replaced.specs.rtl_step.Regs.{Regs}
use Rattle.law_operands_replaced.specs.reload_operands.declared.operand.Operand.{Operand}
use Rattle.reload_moves.specs.declared.ask.Ask.{Ask}
use Rattle.reload_moves.specs.declared.ask.What.TheVariants.{Own, StayingFar}
use Rattle.reload_moves.specs.declared.moves.Move.{Move}
use Rattle.reload_moves.specs.declared.part.Part.{Part}
use Rattle.reload_moves.specs.Moves.{any_in_front, comes_in, comes_in_first, stays_based, stays_based_first, stays_far_first, loads_base, far_to, turn_moves, far_moves}
use Rattle.reload_moves.specs.Registers.{ask, holds_base, base_ask, is_result, stays_far, asks_of}
use Rattle.reload_moves.proofs.AskLaws.{base_asked, far_asked}
use Rattle.reload_choice.specs.declared.given.Given.{Given}
use Rattle.reload_choice.specs.declared.given.Plan.{Plan}
use Rattle.reload_choice.specs.Insns.{in_insn, insns_of}
use Rattle.reload_choice.specs.Sound.{IsPart}
use Rattle.law_operands_fetched.proofs.AsksBefore.{if_asked, turn_asks, far_asks}
use Rattle.law_operands_replaced.proofs.Fetches.{offset_by}
use Rattle.law_operands_fetched.proofs.FetchOne.{far_part, far_base_fetched, itself_fetched, source_there, on_fetched, through_fetched}
use Rattle.law_operands_fetched.proofs.Fetching as fetching
use Rattle.law_operands_fetched.proofs.Fetching.{Fetching, Made, made_none, spare_some, spare_no_pointer}
use Rattle.law_operands_fetched.proofs.OnRegister.{far_new, far_mode}
use Rattle.law_operands_fetched.proofs.TurnParts as parts

or_last : (a b : Bool) → a || (b || true) ≡ true
or_last true b = refl
or_last false true = refl
or_last false false = refl

module _ (symbols : List SymbolAt) (regs : Regs) (memory : List MemByte) (sp : ℕ) (given : Given) (plan : Plan)
    (f : Fetching symbols regs memory sp given plan) where
  abbrev Makes : List Rtx → List Ask → Type 0
  Makes = Made symbols regs memory sp given plan

  abbrev at_ask : Ask → ℕ
  at_ask = parts.at_ask symbols regs memory sp given plan f

  abbrev code_of : List Move → List Rtx
  code_of = parts.code_of symbols regs memory sp given plan f

  abbrev ps : List Part
  ps = plan.parts

  -- ---- one operand

  module _ (i : ℕ) (p : Part) (x : Operand) (part : IsPart given plan i p x) where
    abbrev O : ℕ
    O = at_ask (ask Own p.holder)

    abbrev B : ℕ
    B = at_ask (base_ask p)

    abbrev load_in : ℕ → List Move
    load_in = parts.base_load_in symbols regs memory sp given plan f i p x part

    abbrev in_on : ℕ → ℕ → List Move
    in_on = parts.in_load_on symbols regs memory sp given plan f i p x part

    abbrev OwnValue : Type 0
    OwnValue = parts.OwnValue symbols regs memory sp given plan f i p x part

    abbrev BaseValue : Type 0
    BaseValue = parts.BaseValue symbols regs memory sp given plan f i p x part

    own_is : comes_in p ≡ true → (O ≢ 0) × (2 ≢ O)
    own_is comes = let s = parts.spare symbols regs memory sp given plan f (ask Own p.holder)
        (parts.is_own_asked symbols regs memory sp given plan f i p x part comes) in
        (spare_some O s, spare_no_pointer O s)

    base_is : holds_base p ≡ true → (B ≢ 0) × (2 ≢ B)
    base_is holds = let s = parts.spare symbols regs memory sp given plan f (base_ask p) (base_asked ps i p part.stands holds) in
        (spare_some B s, spare_no_pointer B s)

    -- an input alone, and without a base
    own_alone : (o : Option ℤ) (reg : ℕ) → p.needs.far ≡ o → p.needs.has_base ≡ false → comes_in p ≡ true →
        Makes (code_of (in_on O reg)) (ask Own p.holder ∷ [])
    own_alone None reg far has comes =
        let v = parts.own_value symbols regs memory sp given plan f i p x part comes in
        let code : code_of (in_on O reg) ≡ in_insn O None x ∷ [] = parts.in_code symbols regs memory sp given plan f i p x part O reg ∙
        ap (λ o. far_part O o ++ in_insn O (if is_some o then Some O else (if p.needs.has_base then Some reg else None)) x ∷ []) far ∙
        ap (λ c. in_insn O (if c then Some reg else None) x ∷ []) has in
        subst (λ (c : List Rtx). Makes c (ask Own p.holder ∷ [])) (sym code)
        (parts.one_made symbols regs memory sp given plan f (ask Own p.holder) (record { reg = O; width = v.width; value = v.value }) _
        (parts.is_own_asked symbols regs memory sp given plan f i p x part comes) refl
        (parts.own_says symbols regs memory sp given plan f i p x part comes v)
        (λ r keeps. itself_fetched symbols regs memory sp f.pointer f.small r keeps O (own_is comes).0 (own_is comes).1 x v.width v.value
        (f.operands p.place x part.of) v.wide v.value_is))
    own_alone (Some n) reg far has comes =
        let v = parts.own_value symbols regs memory sp given plan f i p x part comes in
        let is = f.operands p.place x part.of in
        let known = parts.far_known symbols regs memory sp given plan f i p x part n far in
        let code : code_of (in_on O reg) ≡ far_part O (Some n) ++ in_insn O (Some O) x ∷ [] = parts.in_code symbols
        regs memory sp given plan f i p x part O reg ∙
        ap (λ o. far_part O o ++ in_insn O (if is_some o then Some O else (if p.needs.has_base then Some reg else None)) x ∷ []) far in
        subst (λ (c : List Rtx). Makes c (ask Own p.holder ∷ [])) (sym code)
        (parts.one_made symbols regs memory sp given plan f (ask Own p.holder) (record { reg = O; width = v.width; value = v.value }) _
        (parts.is_own_asked symbols regs memory sp given plan f i p x part comes) refl
        (parts.own_says symbols regs memory sp given plan f i p x part comes v)
        (λ r keeps. let fetched = far_base_fetched symbols regs memory sp f.pointer f.small r keeps O (own_is comes).0
        (own_is comes).1 given.operands n in
        through_fetched symbols regs memory sp f.pointer f.small r keeps O (own_is comes).0 (own_is comes).1 (far_part O (Some n))
        (offset_by symbols memory sp n) fetched x v.width v.value is v.wide
        (source_there symbols regs memory sp f.pointer f.small r keeps O (own_is comes).0 (own_is comes).1 x v.width
        v.value O fetched.after is v.wide v.value_is
        (far_mode x n O is known) (far_new symbols regs fetched.after memory sp f.pointer f.small f.memory_is x n O is
        known (own_is comes).0 fetched.holds))))

    -- a base alone
    base_alone : p.needs.has_base ≡ true → holds_base p ≡ true → Makes (code_of (load_in B)) (base_ask p ∷ [])
    base_alone has holds =
        let b = parts.base_value symbols regs memory sp given plan f i p x part has in
        parts.one_made symbols regs memory sp given plan f (base_ask p) (record { reg = B; width = W64; value = b.value }) _
        (base_asked ps i p part.stands holds) refl (fetching.base i p x b.base b.value part holds b.base_is b.value_is)
        (λ r keeps. parts.base_gets symbols regs memory sp given plan f i p x part B b (base_is holds).0 (base_is holds).1 r keeps)

    -- a base, and the input by it
    base_then_own : p.needs.has_base ≡ true → holds_base p ≡ true → comes_in p ≡ true →
        Makes (code_of (load_in B) ++ code_of (in_on O B)) (base_ask p ∷ ask Own p.holder ∷ [])
    base_then_own has holds comes =
        let b = parts.base_value symbols regs memory sp given plan f i p x part has in
        let v = parts.own_value symbols regs memory sp given plan f i p x part comes in
        subst (λ (c : List Rtx). Makes (code_of (load_in B) ++ c) (base_ask p ∷ ask Own p.holder ∷ []))
        (sym (parts.based_code symbols regs memory sp given plan f i p x part O B b has))
        (parts.two_made symbols regs memory sp given plan f (base_ask p) (ask Own p.holder)
        (record { reg = B; width = W64; value = b.value })
        (record { reg = O; width = v.width; value = v.value }) _ _ (base_asked ps i p part.stands holds)
        (parts.is_own_asked symbols regs memory sp given plan f i p x part comes) refl refl
        (fetching.base i p x b.base b.value part holds b.base_is b.value_is)
        (parts.own_says symbols regs memory sp given plan f i p x part comes v)
        (λ r keeps. parts.base_gets symbols regs memory sp given plan f i p x part B b (base_is holds).0 (base_is holds).1 r keeps)
        (λ r keeps there. on_fetched symbols regs memory sp f.pointer f.small r keeps O (own_is comes).0
        (own_is comes).1 x v.width v.value B
        (f.operands p.place x part.of) v.wide
        (parts.based_source symbols regs memory sp given plan f i p x part b v B r (base_is holds).0 there r keeps O
        (own_is comes).0 (own_is comes).1)))

    -- an input through its own register, into which its base goes first
    base_through : p.needs.has_base ≡ true → comes_in p ≡ true → Makes (code_of (load_in O) ++ code_of (in_on O O)) (ask Own p.holder ∷ [])
    base_through has comes =
        let b = parts.base_value symbols regs memory sp given plan f i p x part has in
        let v = parts.own_value symbols regs memory sp given plan f i p x part comes in
        subst (λ (c : List Rtx). Makes (code_of (load_in O) ++ c) (ask Own p.holder ∷ []))
        (sym (parts.based_code symbols regs memory sp given plan f i p x part O O b has))
        (parts.one_made symbols regs memory sp given plan f (ask Own p.holder) (record { reg = O; width = v.width; value = v.value }) _
        (parts.is_own_asked symbols regs memory sp given plan f i p x part comes) refl
        (parts.own_says symbols regs memory sp given plan f i p x part comes v)
        (λ r keeps. let fetched = parts.base_gets symbols regs memory sp given plan f i p x part O b (own_is comes).0
        (own_is comes).1 r keeps in
        through_fetched symbols regs memory sp f.pointer f.small r keeps O (own_is comes).0 (own_is comes).1
        (code_of (load_in O)) b.value fetched x v.width v.value
        (f.operands p.place x part.of) v.wide
        (parts.based_source symbols regs memory sp given plan f i p x part b v O fetched.after (own_is comes).0
        fetched.holds r keeps O (own_is comes).0
        (own_is comes).1)))

    comes_of : comes_in_first ps p ≡ true → comes_in p ≡ true
    comes_of first = (and_parts (comes_in p) _ first).0

    unbased : loads_base ps p ≡ false → comes_in_first ps p ≡ true → p.needs.has_base ≡ false
    unbased loads first = by p.needs.has_base refl
      where
        by : (has : Bool) → p.needs.has_base ≡ has → has ≡ false
        by false is = refl
        by true is = let e : true ≡ false = sym (or_last (stays_based_first ps p) (is_result p)) ∙
            ap (λ c. stays_based_first ps p || (is_result p || c)) (sym first) ∙
            ap (λ c. c && (stays_based_first ps p || (is_result p || comes_in_first ps p))) (sym is) ∙ loads in
            absurd (let never : ⊥ = cc in never)

    -- of a base that is loaded into no register of its own
    through : (moved output first : Bool) → p.is_moved ≡ moved → p.needs.is_output ≡ output →
        comes_in_first ps p ≡ first → loads_base ps p ≡ true →
        holds_base p ≡ false → first ≡ true
    through moved output true m o c loads holds = refl
    through false output false m o c loads holds =
        let has : p.needs.has_base ≡ true = (and_parts p.needs.has_base _ loads).0 in
        let e : true ≡ false = sym (ap (λ b. b && (not p.is_moved || p.needs.is_output)) has ∙
        ap (λ b. not b || p.needs.is_output) m) ∙ holds in
        absurd (let never : ⊥ = cc in never)
    through true true false m o c loads holds =
        let has : p.needs.has_base ≡ true = (and_parts p.needs.has_base _ loads).0 in
        let e : true ≡ false = sym (ap (λ b. b && (not p.is_moved || p.needs.is_output)) has ∙
        ap (λ b. not b || p.needs.is_output) m ∙ o) ∙ holds in
        absurd (let never : ⊥ = cc in never)
    through true false false m o c loads holds =
        let rest : stays_based_first ps p || (is_result p || comes_in_first ps p) ≡ true = (and_parts p.needs.has_base _ loads).1 in
        let stays : stays_based_first ps p ≡ false = ap (λ b. (not b && p.needs.has_base) && not (any_in_front stays_based ps p)) m in
        let result : is_result p ≡ false = ap (λ b. b && p.needs.is_output) m ∙ o in
        let e : false ≡ true = sym (ap (λ b. b || (is_result p || comes_in_first ps p)) stays ∙
        ap (λ b. b || comes_in_first ps p) result ∙ c) ∙ rest in
        absurd (let never : ⊥ = cc in never)

    turn_by : (loads first holds : Bool) → loads_base ps p ≡ loads → comes_in_first ps p ≡ first → holds_base p ≡ holds →
        Makes (code_of ((if loads then load_in (if holds then B else O) else []) ++
        (if first then in_on O (if holds then B else O) else [])))
        (if_asked (loads && holds) (base_ask p) ++ if_asked first (ask Own p.holder))
    turn_by false false holds l c h = made_none symbols regs memory sp given plan
    turn_by false true holds l c h = own_alone p.needs.far (if holds then B else O) refl (unbased l c) (comes_of c)
    turn_by true false true l c h =
        subst (λ (m : List Move). Makes (code_of m) (base_ask p ∷ [])) (sym (append-nil (load_in B)))
        (base_alone (and_parts p.needs.has_base _ l).0 h)
    turn_by true false false l c h = absurd (let e : false ≡ true = through p.is_moved p.needs.is_output false refl
        refl c l h in let never : ⊥ = cc in never)
    turn_by true true true l c h =
        subst (λ (code : List Rtx). Makes code (base_ask p ∷ ask Own p.holder ∷ []))
        (sym (flat_map-append (insns_of given.operands) (load_in B) (in_on O B)))
        (base_then_own (and_parts p.needs.has_base _ l).0 h (comes_of c))
    turn_by true true false l c h =
        subst (λ (code : List Rtx). Makes code (ask Own p.holder ∷ []))
        (sym (flat_map-append (insns_of given.operands) (load_in O) (in_on O O)))
        (base_through (and_parts p.needs.has_base _ l).0 (comes_of c))

    pub turn_made : Makes (code_of (turn_moves (asks_of ps) ps p)) (turn_asks ps p)
    turn_made = turn_by (loads_base ps p) (comes_in_first ps p) (holds_base p) refl refl refl

    far_by : (first : Bool) (o : Option ℤ) → stays_far_first ps p ≡ first → p.needs.far ≡ o →
        Makes (code_of (if first then far_to (at_ask (ask StayingFar p.holder)) o else [])) (if_asked first (ask StayingFar p.holder))
    far_by false o is at = made_none symbols regs memory sp given plan
    far_by true None is at = let e : true ≡ false = sym (and_parts (not p.is_moved) _ (and_parts (stays_far p) _ is).0).1 ∙ ap is_some at in
        absurd (let never : ⊥ = cc in never)
    far_by true (Some n) is at =
        let a = ask StayingFar p.holder in
        let asked = far_asked ps i p part.stands (and_parts (stays_far p) _ is).0 in
        let s = parts.spare symbols regs memory sp given plan f a asked in
        parts.one_made symbols regs memory sp given plan f a (record {
          reg = at_ask a;
          width = W64;
          value = offset_by symbols memory sp n;
        }) _ asked refl
        (fetching.far i p x n part (and_parts (stays_far p) _ is).0 at)
        (λ r keeps. far_base_fetched symbols regs memory sp f.pointer f.small r keeps (at_ask a)
        (spare_some (at_ask a) s) (spare_no_pointer (at_ask a) s)
        given.operands n)

    pub far_made : Makes (code_of (far_moves (asks_of ps) ps p)) (far_asks ps p)
    far_made = far_by (stays_far_first ps p) p.needs.far refl refl
