-- Results that are moved behind an instruction, each where the effects before it have been made: as `Ends`, by the registers and the memory there.
use Rattle.std.proofs.Common.{◌≡◌, ◌≢◌, ℕ, true, false, List, [], ◌∷◌, ◌++◌, Some, refl, sym, ap, subst, ◌∙◌}
use Rattle.std.specs.FinMap.{get}
use Rattle.law_operands_replaced.specs.rtx_tree.declared.machine.SymbolAt.{SymbolAt}
use Rattle.law_operands_replaced.specs.rtx_tree.declared.memories.MemByte.{MemByte}
use Rattle.law_operands_replaced.specs.rtx_tree.declared.tree.Rtx.{Rtx}
use Rattle.law_operands_replaced.specs.rtl_step.Effect.{effects_of, reg_after, regs_after, bytes_after, memory_after}
use Rattle.law_operands_replaced.specs.rtl_step.Regs.{Regs}
use Rattle.law_operands_replaced.specs.rtl_step.declared.effect.Effect.{Effect}
use Rattle.law_operands_replaced.specs.Held.{Held, Holds}
use Rattle.law_operands_replaced.specs.Spare.{is_spare, KnowsRest, KeepsRest}
use Rattle.law_operands_replaced.specs.Straight.{Straight, done, next}
use Rattle.law_operands_replaced.proofs.Cells.{AreThere}
use Rattle.law_operands_replaced.proofs.Delays.{Delays, delayed_memory, delayed_regs}
use Rattle.law_operands_replaced.proofs.Ends.{IsOnRest, AreSpare, apart_of, after_alike, still_holds, Ended, fresh_holds}
use Rattle.law_operands_replaced.proofs.Fetches.{IsFresh, AllFetched, Rest, keeps_knows}
use Rattle.law_operands_replaced.proofs.Instead.{Instead, instead_memory, instead_known, one_too}
use Rattle.law_operands_replaced.proofs.StraightLaws.{straight_both, straight_told}
use Rattle.law_operands_fetched.proofs.Window.{AllStay, Leads, memory_both, regs_both, all_too, alike_knows, knows_alike, told_instead}

all_alike : (hs : List Held) (a b : Regs) → ((q : ℕ) → get b q ≡ get a q) → Holds a hs → Holds b hs
all_alike [] a b same holds = tt
all_alike (h ∷ hs) a b same holds = (same h.reg ∙ holds.0, all_alike hs a b same holds.1)

module _ (symbols : List SymbolAt) (Told : Regs → List MemByte → Type 0)
    (spared : (r r' : Regs) (m : List MemByte) → KeepsRest r r' → Told r m → Told r' m) where
  -- instructions that have one effect, and change no other register
  pub record EndedNear (code : List Rtx) (r : Regs) (m : List MemByte) (o : Effect) : Type 0 where
    pub after : Regs
    pub runs : Straight symbols Told code r m after (bytes_after o m)
    pub told : Told after (bytes_after o m)
    pub others : (q : ℕ) → get after q ≡ get (reg_after o r) q

  -- Each of some effects, one behind the other, where registers and memory are known: of registers outside t3 to t6 at least these.
  pub data EndsFrom (hs : List Held) : Regs → List MemByte → List Effect → List Rtx → Type 0 where
    nothing : (r : Regs) (m : List MemByte) → EndsFrom hs r m [] []
    ends : (r0 : Regs) (m : List MemByte) (o : Effect) (os : List Effect) (code more : List Rtx) (far : ℕ) → is_spare far ≡ true → IsFresh symbols [] far hs → IsOnRest o →
        ((r : Regs) → KnowsRest r0 r → Told r m → Holds r hs → Ended symbols Told spared code r m o far) →
        EndsFrom hs (reg_after o r0) (bytes_after o m) os more → EndsFrom hs r0 m (o ∷ os) (code ++ more)
    near : (r0 : Regs) (m : List MemByte) (o : Effect) (os : List Effect) (code more : List Rtx) → IsOnRest o →
        ((r : Regs) → KnowsRest r0 r → Told r m → Holds r hs → EndedNear code r m o) →
        EndsFrom hs (reg_after o r0) (bytes_after o m) os more → EndsFrom hs r0 m (o ∷ os) (code ++ more)

  -- what they come to
  pub record AllEndedFrom (code : List Rtx) (r : Regs) (m : List MemByte) (os : List Effect) : Type 0 where
    pub after : Regs
    pub runs : Straight symbols Told code r m after (memory_after os m)
    pub others : (q : ℕ) → is_spare q ≡ false → get after q ≡ get (regs_after os r) q

  pub all_end_from : (hs : List Held) (r0 : Regs) (m : List MemByte) (os : List Effect) (code : List Rtx) → EndsFrom hs r0 m os code → AreSpare hs → (r : Regs) → KnowsRest r0 r →
      Told r m → Holds r hs → AllEndedFrom code r m os
  all_end_from hs _ _ _ _ (nothing r0 m) are r knows told holds = record { after = r; runs = done r m; others = λ q kept. refl }
  all_end_from hs _ _ _ _ (ends r0 m o os code more far is fresh on one later) are r knows told holds =
      let e = one r knows told holds in
      let knows' : KnowsRest (reg_after o r0) e.after = alike_knows (reg_after o r0) (reg_after o r) e.after
      (λ q kept. e.others q (λ same. apart_of far q is kept (sym same))) (λ reg kept. one_too o r0 r reg (knows reg kept)) in
      let all = all_end_from hs (reg_after o r0) (bytes_after o m) os more later are e.after knows' e.told
      (fresh_holds symbols Told spared hs far (reg_after o r) e.after fresh e.others (still_holds hs o r are on holds)) in record {
        after = all.after;
        runs = straight_both symbols Told code more r m e.after (bytes_after o m) all.after (memory_after os (bytes_after o m)) e.runs all.runs;
        others = λ q kept. all.others q kept ∙
            after_alike os e.after (reg_after o r) q (e.others q (λ same. apart_of far q is kept (sym same)));
      }
  all_end_from hs _ _ _ _ (near r0 m o os code more on one later) are r knows told holds =
      let e = one r knows told holds in
      let knows' : KnowsRest (reg_after o r0) e.after = alike_knows (reg_after o r0) (reg_after o r) e.after
      (λ q kept. e.others q) (λ reg kept. one_too o r0 r reg (knows reg kept)) in
      let all = all_end_from hs (reg_after o r0) (bytes_after o m) os more later are e.after knows' e.told
      (all_alike hs (reg_after o r) e.after e.others (still_holds hs o r are on holds)) in record {
        after = all.after;
        runs = straight_both symbols Told code more r m e.after (bytes_after o m) all.after (memory_after os (bytes_after o m)) e.runs all.runs;
        others = λ q kept. all.others q kept ∙ after_alike os e.after (reg_after o r) q (e.others q);
      }

  -- The instruction has its effects, of which some are kept and the others are made behind it; and the moves before it and behind it are made.
  pub record IsAroundFrom (regs : Regs) (memory : List MemByte) (es : List Effect) (before : List Rtx) (y : Rtx) (behind : List Rtx) : Type 0 where
    pub held : List Held
    pub fetched : AllFetched symbols memory regs before regs held
    pub done_there : List Effect
    pub does : effects_of symbols fetched.after memory y ≡ Some done_there
    pub kept : List Effect
    pub out : List Effect
    pub delayed : Delays es kept out
    pub replaced : Instead kept done_there
    pub there : AreThere memory es
    pub stay : AllStay symbols Told spared kept
    pub through : List Held
    pub spare : AreSpare through
    pub holds : Holds (regs_after done_there fetched.after) through
    pub ends_are : EndsFrom through (regs_after kept regs) (memory_after kept memory) out behind

  pub around_from_leads : (regs : Regs) (memory : List MemByte) (es : List Effect) (before : List Rtx) (y : Rtx) (behind : List Rtx) → Told regs memory →
      IsAroundFrom regs memory es before y behind → Leads symbols Told spared regs memory es (before ++ y ∷ behind)
  around_from_leads regs memory es before y behind told a =
      let u : Regs = a.fetched.after in
      let r : Regs = regs_after a.done_there u in
      let m : List MemByte = memory_after a.done_there memory in
      let told_u : Told u memory = spared regs u memory a.fetched.rest told in
      let told_r : Told r m = told_instead symbols Told spared a.kept a.done_there a.replaced a.stay u memory told_u in
      let known_r : KnowsRest (regs_after a.kept regs) r =
      instead_known a.kept a.done_there a.replaced regs u (keeps_knows regs u a.fetched.rest) in
      let here : m ≡ memory_after a.kept memory = instead_memory a.kept a.done_there a.replaced memory in
      let end = all_end_from a.through (regs_after a.kept regs) m a.out behind
      (subst (λ m. EndsFrom a.through (regs_after a.kept regs) m a.out behind) (sym here) a.ends_are) a.spare r known_r told_r a.holds in
      let memory_is : memory_after a.out m ≡ memory_after es memory =
      ap (memory_after a.out) here ∙ sym (memory_both a.kept a.out memory) ∙ sym (delayed_memory memory es a.kept a.out a.delayed a.there) in
      let known_all : KnowsRest (regs_after (a.kept ++ a.out) regs) (regs_after a.out r) =
      subst (λ x. KnowsRest x (regs_after a.out r)) (sym (regs_both a.kept a.out regs))
      (all_too a.out (regs_after a.kept regs) r known_r) in record {
        after = end.after;
        runs = subst (λ n. Straight symbols Told (before ++ y ∷ behind) regs memory end.after n) memory_is
            (straight_both symbols Told before (y ∷ behind) regs memory u memory end.after (memory_after a.out m)
            (straight_told symbols (Rest symbols memory regs) Told
            (λ r' m' rest. subst (Told r') (sym rest.0) (spared regs r' memory rest.1 told)) before regs memory u memory a.fetched.runs)
            (next y behind u memory a.done_there end.after (memory_after a.out m) a.does told_r end.runs));
        known = alike_knows (regs_after es regs) (regs_after a.out r) end.after end.others
            (knows_alike (regs_after es regs) (regs_after (a.kept ++ a.out) regs) (regs_after a.out r)
            (delayed_regs regs es a.kept a.out a.delayed) known_all);
      }
