-- The memories behind what a run of instructions writes: from them a valuation is made in which the run's stores are those that it has.
use Rattle.std.proofs.lemmas.List.{append_assoc}
use Rattle.std.proofs.Common.{◌≡◌, ℕ, zero, suc, ◌+◌, ◌<◌, ◌^◌, List, [], ◌∷◌, ◌++◌, length, Option, Some, None, refl, sym, ◌∙◌, ap, subst, arith}
use Rattle.bits64.specs.declared.Width.{Width}
use Rattle.bits64.specs.Words.{bytes_of}
use Rattle.rtx_tree.specs.declared.function.Insn.{Insn}
use Rattle.rtx_tree.specs.declared.function.Kind.{Kind}
use Rattle.rtx_tree.specs.declared.function.Kind.TheVariants as kind
use Rattle.rtx_tree.specs.declared.machine.SymbolAt.{SymbolAt}
use Rattle.rtx_tree.specs.declared.memories.MemByte.{MemByte}
use Rattle.rtl_step.specs.Regs.{Regs}
use Rattle.rtl_step.specs.Effect.{effects_of, regs_after, memory_after}
use Rattle.rtl_step.specs.declared.effect.Effect.{Effect}
use Rattle.rtl_step.specs.declared.effect.Effect.TheVariants as rtl
use Rattle.term_mean.specs.Meaning.{Valuation}
use Rattle.term_mean.specs.Stores.{Store, written, Follow}
use Rattle.sym_insns.specs.Effects as spec
use Rattle.law_insn_terms.specs.Needs.{First}
use Rattle.law_insn_terms.specs.Meant.{meant}
use Rattle.law_insn_terms.proofs.Growth.{new_store, new_stores}
use Rattle.law_insn_terms.proofs.Plain.{all_meant, AllLeadOn}
use Rattle.law_insn_terms.proofs.Memories.{one_more}

-- a number that is written in a width at an address
pub record Write : Type 0 where
  pub width : Width
  pub address : ℕ
  pub number : ℕ

abbrev pub write_of : Effect → List Write
write_of (rtl.Stores w address number) = record { width = w; address = address; number = number } ∷ []
write_of _ = []

-- what effects write, in their order
abbrev pub writes_of : List Effect → List Write
writes_of [] = []
writes_of (e ∷ es) = write_of e ++ writes_of es

-- ---- what a run writes

abbrev pub writes_on : Option (List Effect) → Regs → List MemByte → (Regs → List MemByte → List Write) → List Write
writes_on None regs memory rest = []
writes_on (Some es) regs memory rest = writes_of es ++ rest (regs_after es regs) (memory_after es memory)

abbrev pub writes_by : Kind → List SymbolAt → Insn → Regs → List MemByte → (Regs → List MemByte → List Write) → List Write
writes_by kind.Plain symbols i regs memory rest = writes_on (effects_of symbols regs memory i.pattern) regs memory rest
writes_by kind.Barrier symbols i regs memory rest = rest regs memory
writes_by _ symbols i regs memory rest = []

abbrev pub run_writes : List SymbolAt → List Insn → Regs → List MemByte → List Write
run_writes symbols [] regs memory = []
run_writes symbols (i ∷ insns) regs memory = writes_by i.kind symbols i regs memory (run_writes symbols insns)

-- ---- the memories behind writes

-- each memory after number n is the one before it with its number written
abbrev pub FollowWrites : (ℕ → ℕ → ℕ) → ℕ → List Write → Type 0
FollowWrites m n [] = Unit {0}
FollowWrites m n (w ∷ ws) = ((c : ℕ) → c < 2 ^ 64 → m (suc n) c ≡ written (m n) (bytes_of w.width) w.address w.number c) × FollowWrites m (suc n) ws

abbrev pub memories : (ℕ → ℕ) → List Write → ℕ → ℕ → ℕ
memories first [] n = first
memories first (w ∷ ws) zero = first
memories first (w ∷ ws) (suc n) = memories (written first (bytes_of w.width) w.address w.number) ws n

pub no_memory : (first : ℕ → ℕ) (ws : List Write) → memories first ws 0 ≡ first
no_memory first [] = refl
no_memory first (w ∷ ws) = refl

memories_from : (ws : List Write) (first : ℕ → ℕ) (m : ℕ → ℕ → ℕ) (n : ℕ) → ((k : ℕ) → m (n + k) ≡ memories first ws k) → FollowWrites m n ws
memories_from [] first m n are = tt
memories_from (w ∷ ws) first m n are =
    let after : ℕ → ℕ = written first (bytes_of w.width) w.address w.number in
    let zeroth : n + 0 ≡ n = omega arith in
    let oneth : n + suc 0 ≡ suc n = omega arith in
    let here : m n ≡ first = ap m (sym zeroth) ∙ are 0 in
    let next : m (suc n) ≡ after = ap m (sym oneth) ∙ (are (suc 0) ∙ no_memory after ws) in (
      (λ c word. ap (λ g. g c) next ∙ ap (λ g. written g (bytes_of w.width) w.address w.number c) (sym here)),
      memories_from ws after m (suc n) (λ k. ap m (moved n k) ∙ are (suc k)),
    )
  where
    moved : (n k : ℕ) → suc n + k ≡ n + suc k
    moved n k = omega arith

-- they are there
pub memories_follow : (first : ℕ → ℕ) (ws : List Write) → FollowWrites (memories first ws) 0 ws
memories_follow first ws = memories_from ws first (memories first ws) 0 (λ k. ap (memories first ws) (plus k))
  where
    plus : (k : ℕ) → 0 + k ≡ k
    plus k = omega arith

-- ---- what effects write and what their terms store

module _ (v : Valuation) (f : First) where
  -- the stores of effects lead on where a valuation follows them
  pub leads_by : (es : List spec.Effected) (stores more : List Store) → Follow v (length stores) (new_stores es ++ more) → AllLeadOn v f stores es
  leads_by [] stores more follows = tt
  leads_by (e ∷ es) stores more follows = by e.effect (λ stores. leads_by es stores more) (subst (λ ss. Follow v (length stores) ss) (append_assoc (new_store e.effect) (new_stores es) more) follows)
    where
      by : (x : spec.Effect) → ((stores : List Store) → Follow v (length stores) (new_stores es ++ more) → AllLeadOn v f stores es) →
          Follow v (length stores) (new_store x ++ (new_stores es ++ more)) → AllLeadOn v f stores (record e { effect = x } ∷ es)
      by spec.Nothing on there = (tt, on stores there)
      by (spec.Sets reg t) on there = (tt, on stores there)
      by (spec.Unsets reg) on there = (tt, on stores there)
      by (spec.Stores address value) on there =
          (there.0, on (stores ++ (address, value) ∷ []) (subst (λ n. Follow v n (new_stores es ++ more)) (sym (one_more stores (address, value))) there.1))

  -- what the effects write, and then more, is followed as their stores are
  pub record Followed (n : ℕ) (es : List spec.Effected) (more : List Write) : Type 0 where
    pub stores : Follow v n (new_stores es)
    pub rest : FollowWrites v.memory (n + length (new_stores es)) more

  pub followed : (es : List spec.Effected) (n : ℕ) (more : List Write) → FollowWrites v.memory n (writes_of (all_meant v es) ++ more) → Followed n es more
  followed [] n more follows = record { stores = tt; rest = subst (λ k. FollowWrites v.memory k more) (plus n) follows }
    where
      plus : (k : ℕ) → k ≡ k + 0
      plus k = omega arith
  followed (e ∷ es) n more follows = by e.effect (λ n. followed es n more) (subst (λ ws. FollowWrites v.memory n ws) (append_assoc (write_of (meant v e.effect)) (writes_of (all_meant v es)) more) follows)
    where
      by : (x : spec.Effect) → ((n : ℕ) → FollowWrites v.memory n (writes_of (all_meant v es) ++ more) → Followed n es more) →
          FollowWrites v.memory n (write_of (meant v x) ++ (writes_of (all_meant v es) ++ more)) → Followed n (record e { effect = x } ∷ es) more
      by spec.Nothing on there = let rest = on n there in record { stores = rest.stores; rest = rest.rest }
      by (spec.Sets reg t) on there = let rest = on n there in record { stores = rest.stores; rest = rest.rest }
      by (spec.Unsets reg) on there = let rest = on n there in record { stores = rest.stores; rest = rest.rest }
      by (spec.Stores address value) on there =
          let rest = on (suc n) there.1 in
          let moved : suc n + length (new_stores es) ≡ n + suc (length (new_stores es)) = omega arith in
          record { stores = (there.0, rest.stores); rest = subst (λ k. FollowWrites v.memory k more) moved rest.rest }
