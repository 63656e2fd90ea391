-- Along a run of instructions needs and stores are only added, behind those that there are.
use Rattle.std.proofs.lemmas.List.{append_assoc, append-nil}
use Rattle.std.proofs.Common.{◌≡◌, ℕ, ◌+◌, ◌&&◌, Bool, true, false, List, [], ◌∷◌, ◌++◌, Some, None, refl, sym, ◌∙◌, ap, subst}
use Rattle.std.specs.Prelude.{if◌then◌else◌}
use Rattle.std.proofs.lemmas.List.Folds.{list_all-append}
use Rattle.rtx_tree.specs.declared.code.Code.{Code}
use Rattle.rtx_tree.specs.declared.code.Code.TheVariants as code
use Rattle.rtx_tree.specs.declared.function.Insn.{Insn}
use Rattle.rtx_tree.specs.declared.function.Kind.{Kind}
use Rattle.rtx_tree.specs.declared.function.Kind.TheVariants as kind
use Rattle.rtx_tree.specs.declared.tree.Rtx.{Rtx, out-Rtx}
use Rattle.bits64.specs.declared.Width.TheVariants.{W8}
use Rattle.rtl_step.specs.Call.{target_of, call_part}
use Rattle.term_mean.specs.Meaning.{Valuation}
use Rattle.term_mean.specs.Stores.{Store}
use Rattle.sym_insns.specs.sym_state.State.{State, Need, NeedAt, needs_at, is_within}
use Rattle.sym_insns.specs.Value.{Made, made_of}
use Rattle.sym_insns.specs.Effects as spec
use Rattle.sym_insns.specs.Run.{after, after_kind, run_from}
use Rattle.law_insn_terms.specs.Needs.{First, is_met, are_met}
use Rattle.law_insn_terms.specs.Means.{all_met}
use Rattle.law_insn_terms.proofs.Plain.{all_needs}
use Rattle.law_insn_terms.proofs.Bools.{both_of}

-- a state has the needs and the stores of another, and then more
pub record Grows (s t : State) : Type 0 where
  pub more_needs : List NeedAt
  pub needs_are : t.needs ≡ s.needs ++ more_needs
  pub more_stores : List Store
  pub stores_are : t.stores ≡ s.stores ++ more_stores

grows_not : (s : State) → Grows s s
grows_not s = record { more_needs = []; needs_are = sym (append-nil s.needs); more_stores = []; stores_are = sym (append-nil s.stores) }

grows_on : (s t u : State) → Grows s t → Grows t u → Grows s u
grows_on s t u first later = record {
  more_needs = first.more_needs ++ later.more_needs;
  needs_are = later.needs_are ∙ (ap (λ ns. ns ++ later.more_needs) first.needs_are ∙ append_assoc s.needs first.more_needs later.more_needs);
  more_stores = first.more_stores ++ later.more_stores;
  stores_are = later.stores_are ∙ (ap (λ ss. ss ++ later.more_stores) first.stores_are ∙ append_assoc s.stores first.more_stores later.more_stores);
}

-- ---- a plain instruction

abbrev pub new_store : spec.Effect → List Store
new_store (spec.Stores address value) = (address, value) ∷ []
new_store _ = []

-- the stores of effects, in their order
abbrev pub new_stores : List spec.Effected → List Store
new_stores [] = []
new_stores (e ∷ es) = new_store e.effect ++ new_stores es

store_added : (e : spec.Effect) (stores : List Store) → spec.store_after e stores ≡ stores ++ new_store e
store_added spec.Nothing stores = sym (append-nil stores)
store_added (spec.Sets reg t) stores = sym (append-nil stores)
store_added (spec.Unsets reg) stores = sym (append-nil stores)
store_added (spec.Stores address value) stores = refl

needs_at-append : (index : ℕ) (xs ys : List Need) → needs_at index (xs ++ ys) ≡ needs_at index xs ++ needs_at index ys
needs_at-append index [] ys = refl
needs_at-append index (x ∷ xs) ys = ap (λ rest. record { index = index; what = x } ∷ rest) (needs_at-append index xs ys)

pub made_needs : (index : ℕ) (es : List spec.Effected) (s : State) → (spec.make_all index es s).needs ≡ s.needs ++ needs_at index (all_needs es)
made_needs index [] s = sym (append-nil s.needs)
made_needs index (e ∷ es) s =
    made_needs index es (spec.make index e s)
    ∙ (append_assoc s.needs (needs_at index e.needs) (needs_at index (all_needs es))
    ∙ ap (λ rest. s.needs ++ rest) (sym (needs_at-append index e.needs (all_needs es))))

pub made_stores : (index : ℕ) (es : List spec.Effected) (s : State) → (spec.make_all index es s).stores ≡ s.stores ++ new_stores es
made_stores index [] s = sym (append-nil s.stores)
made_stores index (e ∷ es) s =
    made_stores index es (spec.make index e s)
    ∙ (ap (λ stores. stores ++ new_stores es) (store_added e.effect s.stores)
    ∙ append_assoc s.stores (new_store e.effect) (new_stores es))

-- where it leads, and what it calls, stay as they are
pub made_jump : (index : ℕ) (es : List spec.Effected) (s : State) → (spec.make_all index es s).jump ≡ s.jump
made_jump index [] s = refl
made_jump index (e ∷ es) s = made_jump index es (spec.make index e s)

pub made_call : (index : ℕ) (es : List spec.Effected) (s : State) → (spec.make_all index es s).call ≡ s.call
made_call index [] s = refl
made_call index (e ∷ es) s = made_call index es (spec.make index e s)

plain_grows : (index : ℕ) (x : Rtx) (s : State) → Grows s (spec.after_plain index x s)
plain_grows index x s = record {
  more_needs = needs_at index (all_needs (spec.effects_of s.regs s.stores x));
  needs_are = made_needs index (spec.effects_of s.regs s.stores x) s;
  more_stores = new_stores (spec.effects_of s.regs s.stores x);
  stores_are = made_stores index (spec.effects_of s.regs s.stores x) s;
}

-- ---- a jump

-- what a jump tests
abbrev pub jump_test_by : Code → List Rtx → State → Made
jump_test_by code.IfThenElse (test ∷ label ∷ other ∷ []) s = made_of s.regs s.stores test W8
jump_test_by _ parts s = spec.always

abbrev pub jump_test : Rtx → State → Made
jump_test source s = jump_test_by (out-Rtx source).code (out-Rtx source).kids s

jump_by_is : (c : Code) (parts : List Rtx) (source : Rtx) (index : ℕ) (s : State) → spec.jump_by c parts source index s ≡ spec.jumps index (jump_test_by c parts s) (spec.label_by c parts source) s
jump_by_is code.IfThenElse (test ∷ label ∷ other ∷ []) source index s = refl
jump_by_is c parts source index s = refl

-- a jump's state, by its test and its label
pub jump_is : (index : ℕ) (x : Rtx) (s : State) →
    spec.after_jump index x s ≡ spec.jumps index (jump_test (spec.jump_source (out-Rtx x).kids x) s) (spec.jump_label (spec.jump_source (out-Rtx x).kids x)) s
jump_is index x s =
    let source = spec.jump_source (out-Rtx x).kids x in
    jump_by_is (out-Rtx source).code (out-Rtx source).kids source index s

jumps_grow : (index : ℕ) (test : Made) (label : Rtx) (s : State) → Grows s (spec.jumps index test label s)
jumps_grow index test label s = record { more_needs = needs_at index test.needs; needs_are = refl; more_stores = []; stores_are = sym (append-nil s.stores) }

jump_grows : (index : ℕ) (x : Rtx) (s : State) → Grows s (spec.after_jump index x s)
jump_grows index x s =
    let source = spec.jump_source (out-Rtx x).kids x in
    subst (λ t. Grows s t) (sym (jump_is index x s)) (jumps_grow index (jump_test source s) (spec.jump_label source) s)

-- ---- a run

call_grows : (index : ℕ) (i : Insn) (s : State) → Grows s (spec.after_call index i.pattern i.uses s)
call_grows index i s = record {
  more_needs = needs_at index ((spec.made_target s.regs s.stores (target_of (call_part i.pattern))).needs ++ spec.args_needs s.regs i.uses);
  needs_are = refl;
  more_stores = [];
  stores_are = sym (append-nil s.stores);
}

pub kind_grows : (k : Kind) (index : ℕ) (i : Insn) (s : State) → Grows s (after_kind k index i s)
kind_grows kind.Plain index i s = plain_grows index i.pattern s
kind_grows kind.Jump index i s = jump_grows index i.pattern s
kind_grows kind.Call index i s = call_grows index i s
kind_grows kind.Label index i s = grows_not s
kind_grows kind.Barrier index i s = grows_not s

-- a run goes on from the state after its first instruction
pub goes_from : (insns : List Insn) (index : ℕ) (i : Insn) (s t : State) → run_from index (i ∷ insns) s ≡ Some t → run_from (index + 1) insns (after index i s) ≡ Some t
goes_from insns index i s t is = by (is_within (after index i s)) is
  where
    by : (b : Bool) → (if b then run_from (index + 1) insns (after index i s) else None) ≡ Some t → run_from (index + 1) insns (after index i s) ≡ Some t
    by true there = there
    by false there = absurd (let no : ⊥ = cc in no)

pub run_grows : (insns : List Insn) (index : ℕ) (s t : State) → run_from index insns s ≡ Some t → Grows s t
run_grows [] index s t is = let same : s ≡ t = cc in subst (λ t. Grows s t) same (grows_not s)
run_grows (i ∷ insns) index s t is =
    grows_on s (after index i s) t (kind_grows i.kind index i s) (run_grows insns (index + 1) (after index i s) t (goes_from insns index i s t is))

-- ---- needs that are met

-- of a state that has more, the needs that there were are met
pub met_before : (v : Valuation) (f : First) (s t : State) → Grows s t → all_met v f t.needs ≡ true → all_met v f s.needs ≡ true
met_before v f s t grows met =
    (both_of _ _ (sym (list_all-append (λ (n : NeedAt). is_met v f n.what) s.needs grows.more_needs) ∙ (ap (all_met v f) (sym grows.needs_are) ∙ met))).0

-- the needs at a place are met where they are
pub met_at : (v : Valuation) (f : First) (index : ℕ) (needs : List Need) → all_met v f (needs_at index needs) ≡ are_met v f needs
met_at v f index [] = refl
met_at v f index (need ∷ needs) = ap (λ b. is_met v f need && b) (met_at v f index needs)

-- those that there were are met, and those of the instruction
pub met_both : (v : Valuation) (f : First) (before : List NeedAt) (index : ℕ) (needs : List Need) → all_met v f (before ++ needs_at index needs) ≡ (all_met v f before && are_met v f needs)
met_both v f before index needs =
    list_all-append (λ (n : NeedAt). is_met v f n.what) before (needs_at index needs) ∙ ap (λ b. all_met v f before && b) (met_at v f index needs)

pub met_new : (v : Valuation) (f : First) (before : List NeedAt) (index : ℕ) (needs : List Need) → all_met v f (before ++ needs_at index needs) ≡ true → are_met v f needs ≡ true
met_new v f before index needs met = (both_of _ _ (sym (met_both v f before index needs) ∙ met)).1

pub met_then : (v : Valuation) (f : First) (before : List NeedAt) (index : ℕ) (needs : List Need) → all_met v f before ≡ true → are_met v f needs ≡ true → all_met v f (before ++ needs_at index needs) ≡ true
met_then v f before index needs old new = met_both v f before index needs ∙ (ap (λ b. b && are_met v f needs) old ∙ new)
