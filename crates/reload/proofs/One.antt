-- What a function comes to is one answer.
use Rattle.std.proofs.Common.{◌≡◌, ℕ, ◌+◌, Bool, true, false, List, [], ◌∷◌, ◌++◌, length, Ok, Err, refl, sym, ap, subst, ◌∙◌, arith}
use Rattle.std.specs.List.{All}
use Rattle.std.proofs.lemmas.List.Elements.{All-head, All-tail}
use Rattle.rtx_tree.specs.declared.function.Function.{Function}
use Rattle.rtx_tree.specs.declared.function.Insn.{Insn}
use Rattle.rtx_tree.specs.declared.tree.Rtx.{Rtx}
use Rattle.md_match.specs.Pattern.{Ops}
use Rattle.md_forms.specs.declared.form.Entry.{Entry}
use Rattle.md_desc.specs.Recog.{NoneMatches}
use Rattle.form_needs.specs.Needs.{needs_form, lower_facts}
use Rattle.assign.specs.declared.home.HomeOf.{HomeOf}
use Rattle.assign.specs.declared.places.Layout.{Layout}
use Rattle.law_frame.specs.Frame.{next_uid}
use Rattle.reload_choice.specs.declared.given.Given.{Given}
use Rattle.reload_choice.specs.declared.given.Plan.{Plan}
use Rattle.reload.specs.declared.refusal.ReloadRefusal.{ReloadRefusal}
use Rattle.reload.specs.declared.refusal.ReloadRefusal.TheVariants as refusal
use Rattle.reload.specs.Reload.{placed, given_by, moves_of, window_of, IsMatch, IsMatched, IsStuck, InsnAnswer}
use Rattle.reload.specs.Reload.{MatchReloads, InsnReloads, chain_behind, ChainReloads, Answer, function_of}
use Rattle.reload.specs.Reload.{FunctionReloads}
use Rattle.reload.proofs.Matching.{first_not, same_form, same_operands, same_pattern}
use Rattle.reload.proofs.Choosing.{chosen_one, chosen_not}

-- ---- the first move that no form matches

module _ (forms : List Entry) where
  clash : {P : Type 0} (x : Rtx) → IsMatched forms x → NoneMatches forms lower_facts x → P
  clash x m none = absurd (none m.form m.operands m.matches)

  all_clash : {P : Type 0} (before behind : List Rtx) (x : Rtx) → All (IsMatched forms) (before ++ x ∷ behind) →
      NoneMatches forms lower_facts x → P
  all_clash [] behind x matched none = clash x (All-head (IsMatched forms) x behind matched) none
  all_clash (y ∷ before) behind x matched none =
      all_clash before behind x (All-tail (IsMatched forms) y (before ++ x ∷ behind) matched) none

  -- one is stuck, or all are matched
  stuck_not : {P : Type 0} (moves before : List Rtx) (x : Rtx) → IsStuck forms moves before x → All (IsMatched forms) moves → P
  stuck_not moves before x a matched = all_clash before a.behind x (subst (All (IsMatched forms)) a.moves_are matched) a.unmatched

  abbrev refusal_of : ℕ → List Rtx → Rtx → ReloadRefusal
  refusal_of uid before x = refusal.Unmatched (uid + length before) x

  first_by : (uid : ℕ) (before before' behind behind' : List Rtx) (x y : Rtx) → before ++ x ∷ behind ≡ before' ++ y ∷ behind' →
      All (IsMatched forms) before → All (IsMatched forms) before' → NoneMatches forms lower_facts x →
      NoneMatches forms lower_facts y → refusal_of uid before x ≡ refusal_of uid before' y
  first_by uid [] [] behind behind' x y same m m' none none' = let here : x ≡ y = cc in ap (refusal_of uid []) here
  first_by uid [] (z ∷ before') behind behind' x y same m m' none none' =
      let here : z ≡ x = cc in clash x (subst (IsMatched forms) here (All-head (IsMatched forms) z before' m')) none
  first_by uid (z ∷ before) [] behind behind' x y same m m' none none' =
      let here : z ≡ y = cc in clash y (subst (IsMatched forms) here (All-head (IsMatched forms) z before m)) none'
  first_by uid (z ∷ before) (w ∷ before') behind behind' x y same m m' none none' =
      let later : before ++ x ∷ behind ≡ before' ++ y ∷ behind' = cc in
      shifted before x ∙ (first_by (uid + 1) before before' behind behind' x y later (All-tail (IsMatched forms) z before m)
      (All-tail (IsMatched forms) w before' m') none none' ∙ sym (shifted_other before' y))
    where
      shifted : (us : List Rtx) (v : Rtx) → refusal_of uid (z ∷ us) v ≡ refusal_of (uid + 1) us v
      shifted us v = ap (λ (n : ℕ). refusal.Unmatched n v) (omega arith)

      shifted_other : (us : List Rtx) (v : Rtx) → refusal_of uid (w ∷ us) v ≡ refusal_of (uid + 1) us v
      shifted_other us v = ap (λ (n : ℕ). refusal.Unmatched n v) (omega arith)

  stuck_one : (uid : ℕ) (moves before before' : List Rtx) (x y : Rtx) → IsStuck forms moves before x →
      IsStuck forms moves before' y → refusal_of uid before x ≡ refusal_of uid before' y
  stuck_one uid moves before before' x y a b = first_by uid before before' a.behind b.behind x y (sym a.moves_are ∙ b.moves_are)
      a.matched b.matched a.unmatched b.unmatched

-- ---- an instruction

module _ (forms : List Entry) (form : ℕ) (given : Given) (uid : ℕ) (i : Insn) where
  match_one : (a b : InsnAnswer) → MatchReloads forms form given uid i a → MatchReloads forms form given uid i b → a ≡ b
  match_one _ _ (MatchReloads.unsatisfied none) (MatchReloads.unsatisfied none') = refl
  match_one _ _ (MatchReloads.unsatisfied none) (MatchReloads.stuck plan before x is stuck) = chosen_not forms form given plan is none
  match_one _ _ (MatchReloads.unsatisfied none) (MatchReloads.made plan is matched) = chosen_not forms form given plan is none
  match_one _ _ (MatchReloads.stuck plan before x is stuck) (MatchReloads.unsatisfied none) = chosen_not forms form given plan is none
  match_one _ _ (MatchReloads.stuck plan before x is stuck) (MatchReloads.stuck other before' y will stuck') =
      ap Err (stuck_one forms uid (moves_of given other) before before' x y
      (subst (λ (p : Plan). IsStuck forms (moves_of given p) before x) (chosen_one forms form given plan other is will) stuck) stuck')
  match_one _ _ (MatchReloads.stuck plan before x is stuck) (MatchReloads.made other will matched) =
      stuck_not forms (moves_of given other) before x
      (subst (λ (p : Plan). IsStuck forms (moves_of given p) before x) (chosen_one forms form given plan other is will) stuck) matched
  match_one _ _ (MatchReloads.made plan is matched) (MatchReloads.unsatisfied none) = chosen_not forms form given plan is none
  match_one _ _ (MatchReloads.made plan is matched) (MatchReloads.stuck other before y will stuck) =
      stuck_not forms (moves_of given plan) before y
      (subst (λ (p : Plan). IsStuck forms (moves_of given p) before y) (chosen_one forms form given other plan will is) stuck) matched
  match_one _ _ (MatchReloads.made plan is matched) (MatchReloads.made other will matched') =
      ap (λ (p : Plan). Ok (window_of uid i given p)) (chosen_one forms form given plan other is will)

both : {P : Type 0} (b : Bool) → b ≡ true → b ≡ false → P
both b t f = absurd (let none : true ≡ false = sym t ∙ f in let never : ⊥ = cc in never)

module _ (forms : List Entry) (homes : List HomeOf) (layout : Layout) (uid : ℕ) (i : Insn) where
  matched_one : (form other : ℕ) (p q : Rtx) (o r : Ops) (a b : InsnAnswer) → IsMatch forms layout i form p o →
      IsMatch forms layout i other q r →
      MatchReloads forms form (given_by homes layout i p o) uid i a → MatchReloads forms other (given_by homes layout i q r) uid i b → a ≡ b
  matched_one form other p q o r a b m n x y =
      match_one forms other (given_by homes layout i q r) uid i a b
      (subst (λ (k : ℕ). MatchReloads forms k (given_by homes layout i q r) uid i a) (same_form forms layout i form other p q o r m n)
      (subst (λ (z : Rtx). MatchReloads forms form (given_by homes layout i z r) uid i a)
      (same_pattern forms layout i form other p q o r m n)
      (subst (λ (s : Ops). MatchReloads forms form (given_by homes layout i p s) uid i a)
      (same_operands forms layout i form other p q o r m n) x))) y

  insn_one : (a b : InsnAnswer) → InsnReloads forms homes layout uid i a → InsnReloads forms homes layout uid i b → a ≡ b
  insn_one _ _ (InsnReloads.stays free) (InsnReloads.stays free') = refl
  insn_one _ _ (InsnReloads.stays free) (InsnReloads.unmatched needs none) = both (needs_form i) needs free
  insn_one _ _ (InsnReloads.stays free) (InsnReloads.matched form p o b needs m y) = both (needs_form i) needs free
  insn_one _ _ (InsnReloads.unmatched needs none) (InsnReloads.stays free) = both (needs_form i) needs free
  insn_one _ _ (InsnReloads.unmatched needs none) (InsnReloads.unmatched needs' none') = refl
  insn_one _ _ (InsnReloads.unmatched needs none) (InsnReloads.matched form p o b needs' m y) =
      first_not forms lower_facts (placed layout i) (record { form = form; operands = o }) m.first none
  insn_one _ _ (InsnReloads.matched form p o a needs m x) (InsnReloads.stays free) = both (needs_form i) needs free
  insn_one _ _ (InsnReloads.matched form p o a needs m x) (InsnReloads.unmatched needs' none) =
      first_not forms lower_facts (placed layout i) (record { form = form; operands = o }) m.first none
  insn_one _ _ (InsnReloads.matched form p o a needs m x) (InsnReloads.matched other q r b needs' n y) =
      matched_one form other p q o r a b m n x y

-- ---- a chain, and a function

apart : {P : Type 0} (e : ReloadRefusal) (insns : List Insn) → ◌≡◌ {A = InsnAnswer} (Err e) (Ok insns) → P
apart e insns is = absurd (let never : ⊥ = cc in never)

same_window : (xs ys : List Insn) → ◌≡◌ {A = InsnAnswer} (Ok xs) (Ok ys) → xs ≡ ys
same_window xs ys is = cc

same_next : (uid next other : ℕ) (xs ys : List Insn) → xs ≡ ys → next + 1 ≡ uid + length xs → other + 1 ≡ uid + length ys → next ≡ other
same_next uid next other xs ys same here there = let long : length xs ≡ length ys = ap length same in omega (arith, long, here, there)

module _ (forms : List Entry) (homes : List HomeOf) (layout : Layout) where
  chain_one : (uid : ℕ) (insns : List Insn) (a b : InsnAnswer) → ChainReloads forms homes layout uid insns a →
      ChainReloads forms homes layout uid insns b → a ≡ b
  chain_one _ _ _ _ (ChainReloads.none uid) (ChainReloads.none _) = refl
  chain_one _ _ _ _ (ChainReloads.refused uid i insns d x) (ChainReloads.refused _ _ _ e y) =
      insn_one forms homes layout uid i (Err d) (Err e) x y
  chain_one _ _ _ _ (ChainReloads.refused uid i insns d x) (ChainReloads.goes_on _ next _ _ window rest y free more) =
      apart d window (insn_one forms homes layout uid i (Err d) (Ok window) x y)
  chain_one _ _ _ _ (ChainReloads.goes_on uid next i insns window rest x free more) (ChainReloads.refused _ _ _ e y) =
      apart e window (insn_one forms homes layout uid i (Err e) (Ok window) y x)
  chain_one _ _ _ _ (ChainReloads.goes_on uid next i insns window rest x free more)
      (ChainReloads.goes_on _ other _ _ window' rest' y free' more') =
      let windows : window ≡ window' = same_window window window' (insn_one forms homes layout uid i (Ok window) (Ok window') x y) in
      let nexts : next ≡ other = same_next uid next other window window' windows free free' in
      let rests : rest ≡ rest' = chain_one other insns rest rest'
      (subst (λ (n : ℕ). ChainReloads forms homes layout n insns rest) nexts more) more' in
      ap (λ (w : List Insn). chain_behind w rest) windows ∙ ap (chain_behind window') rests

-- a function comes to one
pub reload_one : (forms : List Entry) (homes : List HomeOf) (layout : Layout) (f : Function) (a b : Answer) →
    FunctionReloads forms homes layout f a → FunctionReloads forms homes layout f b → a ≡ b
reload_one forms homes layout f _ _ (FunctionReloads.comes a x) (FunctionReloads.comes b y) =
    ap (function_of f) (chain_one forms homes layout (next_uid f.insns) f.insns a b x y)
