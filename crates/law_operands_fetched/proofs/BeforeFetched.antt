-- The moves before an instruction fetch all that the instruction and the moves behind it need.
use Rattle.std.proofs.Common.{◌≡◌, ⊎_elim, ℕ, ◌<◌, ◌≤◌, ◌+◌, List, [], ◌∷◌, length, slice_get, Some, None, refl, sym, ap, subst, ◌∙◌, arith}
use Rattle.std.proofs.lemmas.List.Concat.{flat_map-append}
use Rattle.std.proofs.lemmas.Option.{slice_get_within, slice_get_cases}
use Rattle.std.specs.List.{flat_map}
use Rattle.law_operands_replaced.specs.rtx_tree.declared.machine.SymbolAt.{SymbolAt}
use Rattle.law_operands_replaced.specs.rtx_tree.declared.memories.MemByte.{MemByte}
use Rattle.law_operands_replaced.specs.rtx_tree.declared.tree.Rtx.{Rtx}
use Rattle.law_operands_replaced.specs.rtl_step.Regs.{Regs}
use Rattle.law_operands_replaced.specs.reload_operands.declared.operand.Operand.{Operand}
use Rattle.reload_moves.specs.declared.ask.Ask.{Ask}
use Rattle.reload_moves.specs.declared.moves.Move.{Move}
use Rattle.reload_moves.specs.declared.part.Part.{Part}
use Rattle.reload_moves.specs.Moves.{turn_moves, far_moves}
use Rattle.reload_moves.specs.Registers.{asks_of}
use Rattle.reload_choice.specs.declared.given.Given.{Given}
use Rattle.reload_choice.specs.declared.given.Plan.{Plan}
use Rattle.reload_choice.specs.Insns.{insns_of, all_insns, insns_before}
use Rattle.reload_choice.specs.Sound.{IsPart, IsSoundPlan}
use Rattle.law_operands_replaced.specs.Held.{Held, Holds}
use Rattle.law_operands_fetched.proofs.AsksBefore.{turn_asks, far_asks, asks_before, From, all_from, asks_once, asks_asked}
use Rattle.law_operands_fetched.proofs.Contents.{Contents, contents}
use Rattle.law_operands_replaced.proofs.Fetches.{AllFetched, fetches}
use Rattle.law_operands_fetched.proofs.Fetching.{Fetching, Made, made_none, made_both, once, each_told}
use Rattle.law_operands_fetched.proofs.Loads.{codes, all_held, requests_fetch}
use Rattle.law_operands_fetched.proofs.Turns.{turn_made, far_made}

-- each operand has its part, and each part its operand
pub operand_there : (given : Given) (plan : Plan) → IsSoundPlan given plan → (i : ℕ) (p : Part) → slice_get plan.parts i ≡ Some p →
    (x : Operand) × IsPart given plan i p x
operand_there given plan sound i p at =
    let less : i < length given.operands = omega (arith, slice_get_within plan.parts i p at, sound.covers) in
    let x : (x : Operand) × (slice_get given.operands i ≡ Some x) = ⊎_elim
    (λ (k : (x : Operand) × (i < length given.operands) × (slice_get given.operands i ≡ Some x) × (_ ≡ x)). (k.0, k.2))
    (λ (k : (length given.operands ≤ i) × (slice_get given.operands i ≡ None)). absurd (omega (arith, less, k.0)))
    (slice_get_cases given.operands i).1 in
    (x.0, record { stands = at; of = ap (slice_get given.operands) (sound.in_order i p at) ∙ x.1 })

module _ (symbols : List SymbolAt) (regs : Regs) (memory : List MemByte) (sp : ℕ) (given : Given) (plan : Plan) where
  -- All the instructions of the moves before it are made, and lead to registers that hold what they are to hold.
  pub record BeforeFetched : Type 0 where
    pub held : List Held
    pub fetched : AllFetched symbols memory regs (insns_before given.operands plan.parts) regs held
    pub contents : (other : Regs) → Holds other held → Contents symbols regs memory sp given plan other

  module _ (f : Fetching symbols regs memory sp given plan) where
    abbrev Makes : List Rtx → List Ask → Type 0
    Makes = Made symbols regs memory sp given plan

    abbrev code_of : List Move → List Rtx
    code_of moves = all_insns given.operands moves

    all_turns : (n : ℕ) (ps : List Part) → From plan.parts f.sound.in_order n ps →
        Makes (code_of (flat_map (turn_moves (asks_of plan.parts) plan.parts) ps)) (flat_map (turn_asks plan.parts) ps)
    all_turns n [] from = made_none symbols regs memory sp given plan
    all_turns n (p ∷ ps) from =
        let part = operand_there given plan f.sound p.place p from.1 in
        let turn = turn_moves (asks_of plan.parts) plan.parts in
        subst (λ (c : List Rtx). Makes c (flat_map (turn_asks plan.parts) (p ∷ ps)))
        (sym (flat_map-append (insns_of given.operands) (turn p) (flat_map turn ps)))
        (made_both symbols regs memory sp given plan (code_of (turn p)) (code_of (flat_map turn ps))
        (turn_asks plan.parts p) (flat_map (turn_asks plan.parts) ps)
        (turn_made symbols regs memory sp given plan f p.place p part.0 part.1) (all_turns (p.place + 1) ps from.2))

    all_fars : (n : ℕ) (ps : List Part) → From plan.parts f.sound.in_order n ps →
        Makes (code_of (flat_map (far_moves (asks_of plan.parts) plan.parts) ps)) (flat_map (far_asks plan.parts) ps)
    all_fars n [] from = made_none symbols regs memory sp given plan
    all_fars n (p ∷ ps) from =
        let part = operand_there given plan f.sound p.place p from.1 in
        let far = far_moves (asks_of plan.parts) plan.parts in
        subst (λ (c : List Rtx). Makes c (flat_map (far_asks plan.parts) (p ∷ ps)))
        (sym (flat_map-append (insns_of given.operands) (far p) (flat_map far ps)))
        (made_both symbols regs memory sp given plan (code_of (far p)) (code_of (flat_map far ps))
        (far_asks plan.parts p) (flat_map (far_asks plan.parts) ps)
        (far_made symbols regs memory sp given plan f p.place p part.0 part.1) (all_fars (p.place + 1) ps from.2))

    all_made : Makes (insns_before given.operands plan.parts) (asks_before plan.parts)
    all_made =
        let turns = flat_map (turn_moves (asks_of plan.parts) plan.parts) plan.parts in
        let fars = flat_map (far_moves (asks_of plan.parts) plan.parts) plan.parts in
        subst (λ (c : List Rtx). Makes c (asks_before plan.parts)) (sym (flat_map-append (insns_of given.operands) turns fars))
        (made_both symbols regs memory sp given plan (code_of turns) (code_of fars)
        (flat_map (turn_asks plan.parts) plan.parts) (flat_map (far_asks plan.parts) plan.parts)
        (all_turns 0 plan.parts (all_from plan.parts f.sound.in_order)) (all_fars 0 plan.parts (all_from plan.parts f.sound.in_order)))

    pub before_fetched : BeforeFetched
    before_fetched =
        let made = all_made in
        let apart = once symbols regs memory sp given plan f.sound (asks_before plan.parts) made.requests
        (asks_asked plan.parts f.sound.in_order)
        (asks_once plan.parts f.sound.in_order) made.say in
        let hs = all_held symbols memory [] made.requests in
        let all = fetches symbols memory regs [] (codes symbols memory made.requests) hs
        (requests_fetch symbols memory regs [] made.requests (made.able []) tt apart) regs (λ q kept. refl) tt in record {
          held = hs;
          fetched = subst (λ (c : List Rtx). AllFetched symbols memory regs c regs hs) made.codes_are all;
          contents = λ other holds. contents symbols regs memory sp given plan f other
              (each_told symbols regs memory sp given plan [] (asks_before plan.parts) made.requests other made.say holds);
        }
