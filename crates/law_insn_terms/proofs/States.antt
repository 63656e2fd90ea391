-- A symbolic state shows the state of a run after an effect is made on both.
use Rattle.std.proofs.lemmas.Cmp.{nat_cmp_total}
use Rattle.std.proofs.Common.{◌≡◌, ◌≢◌, ℕ, zero, suc, ◌==◌, Bool, true, false, cond, List, length, Option, Some, None, refl, sym, ◌∙◌, ap, subst, rules, arith}
use Rattle.std.specs.Prelude.{if◌then◌else◌, option_and_then, option_map, is_some, unwrap_or}
use Rattle.std.specs.FinMap.{get, insert, remove, get-insert, get-remove, gets}
use Rattle.std.specs.Ordering.{nat_cmp, eq_by_cmp}
use Rattle.bits64.specs.declared.Width.{Width}
use Rattle.bits64.specs.Words.{bytes_of}
use Rattle.rtx_tree.specs.declared.memories.MemByte.{MemByte}
use Rattle.run_memory.specs.RunMemory.{number_at, is_aligned, load, store, with_number}
use Rattle.rtl_step.specs.Regs.{Regs, known_in, known_of, with_reg, without_reg}
use Rattle.rtl_step.specs.Effect as effect
use Rattle.rtl_step.specs.declared.regs.Known.{Known}
use Rattle.term_tree.specs.Tree.{Tree, width_of}
use Rattle.term_mean.specs.Meaning.{Valuation, mean}
use Rattle.term_mean.specs.Stores.{Store}
use Rattle.sym_insns.specs.sym_state.State.{State, Changed}
use Rattle.sym_insns.specs.sym_state.Registers.{held, placed, put}
use Rattle.sym_insns.specs.Effects as spec
use Rattle.law_insn_terms.specs.Needs.{First}
use Rattle.law_insn_terms.specs.Meant.{meant}
use Rattle.law_insn_terms.specs.Shows.{ShowsRegister, ShowsMemory, Shows}
use Rattle.law_insn_terms.proofs.Changes.{same_number, held_placed, held_kept}
use Rattle.law_insn_terms.proofs.Memories.{IsNext, stored_more, shows_stored}
use Rattle.law_insn_terms.proofs.Parts.{has_load}
use Rattle.law_insn_terms.proofs.Memories.{one_more}

is_here : (t : ℕ) → eq_by_cmp nat_cmp t t ≡ true
is_here t = search (rules, nat_cmp_total, gets)

is_other : (r t : ℕ) → t ≢ r → eq_by_cmp nat_cmp r t ≡ false
is_other r t other = search (rules, nat_cmp_total, gets)

differs : (a b : ℕ) → (a == b) ≡ false → a ≢ b
differs a b is same = let yes : (a == b) ≡ true = grind (arith, same) in absurd (let no : ⊥ = cc in no)

-- ---- registers

module _ (v : Valuation) (f : First) where
  -- what is shown of a register goes by what is known of it
  pub shows_get : (regs regs' : Regs) (q : ℕ) (left : Option (Option Tree)) → get regs' (suc q) ≡ get regs (suc q) → ShowsRegister v f regs left (suc q) → ShowsRegister v f regs' left (suc q)
  shows_get regs regs' q None same shows = λ w. ap (λ o. option_and_then (known_in w) o) same ∙ shows w
  shows_get regs regs' q (Some None) same shows = same ∙ shows
  shows_get regs regs' q (Some (Some t)) same shows = same ∙ shows

  abbrev ShowsAll : List Changed → Regs → Type 0
  ShowsAll changes regs = (q : ℕ) → ShowsRegister v f regs (held changes (suc q)) (suc q)

  set_by : (changes : List Changed) (regs : Regs) (r : ℕ) (t : Tree) (q : ℕ) (same : Bool) → (suc r == suc q) ≡ same → ShowsAll changes regs →
      ShowsRegister v f (insert regs (suc r) (known_of (width_of t) (mean v t))) (held (placed changes (suc r) (Some t)) (suc q)) (suc q)
  set_by changes regs r t q true is shows =
      let e : suc r ≡ suc q = same_number (suc r) (suc q) is in
      let k : Known = known_of (width_of t) (mean v t) in
      let known : get (insert regs (suc r) k) (suc r) ≡ Some k = get-insert nat_cmp_total regs (suc r) k (suc r) ∙ ap (λ b. cond b (Some k) (get regs (suc r))) (is_here (suc r)) in
      subst (λ q. ShowsRegister v f (insert regs (suc r) k) (held (placed changes (suc r) (Some t)) q) q) e
      (subst (λ left. ShowsRegister v f (insert regs (suc r) k) left (suc r)) (sym (held_placed changes (suc r) (Some t))) known)
  set_by changes regs r t q false is shows =
      let other : suc r ≢ suc q = differs (suc r) (suc q) is in
      let k : Known = known_of (width_of t) (mean v t) in
      let kept : get (insert regs (suc r) k) (suc q) ≡ get regs (suc q) = get-insert nat_cmp_total regs (suc r) k (suc q) ∙ ap (λ b. cond b (Some k) (get regs (suc q))) (is_other (suc q) (suc r) other) in
      subst (λ left. ShowsRegister v f (insert regs (suc r) k) left (suc q)) (sym (held_kept changes (suc r) (suc q) (Some t) other))
      (shows_get regs (insert regs (suc r) k) q (held changes (suc q)) kept (shows q))

  set_shows : (changes : List Changed) (regs : Regs) (reg : ℕ) (t : Tree) → ShowsAll changes regs →
      ShowsAll (put changes reg (Some t)) (with_reg regs reg (known_of (width_of t) (mean v t)))
  set_shows changes regs zero t shows = shows
  set_shows changes regs (suc r) t shows = λ q. set_by changes regs r t q (suc r == suc q) refl shows

  unset_by : (changes : List Changed) (regs : Regs) (r q : ℕ) (same : Bool) → (suc r == suc q) ≡ same → ShowsAll changes regs →
      ShowsRegister v f (remove regs (suc r)) (held (placed changes (suc r) None) (suc q)) (suc q)
  unset_by changes regs r q true is shows =
      let e : suc r ≡ suc q = same_number (suc r) (suc q) is in
      let gone : get (remove regs (suc r)) (suc r) ≡ None = get-remove nat_cmp_total regs (suc r) (suc r) ∙ ap (λ b. cond b None (get regs (suc r))) (is_here (suc r)) in
      subst (λ q. ShowsRegister v f (remove regs (suc r)) (held (placed changes (suc r) None) q) q) e
      (subst (λ left. ShowsRegister v f (remove regs (suc r)) left (suc r)) (sym (held_placed changes (suc r) None)) gone)
  unset_by changes regs r q false is shows =
      let other : suc r ≢ suc q = differs (suc r) (suc q) is in
      let kept : get (remove regs (suc r)) (suc q) ≡ get regs (suc q) = get-remove nat_cmp_total regs (suc r) (suc q) ∙ ap (λ b. cond b None (get regs (suc q))) (is_other (suc q) (suc r) other) in
      subst (λ left. ShowsRegister v f (remove regs (suc r)) left (suc q)) (sym (held_kept changes (suc r) (suc q) None other))
      (shows_get regs (remove regs (suc r)) q (held changes (suc q)) kept (shows q))

  unset_shows : (changes : List Changed) (regs : Regs) (reg : ℕ) → ShowsAll changes regs → ShowsAll (put changes reg None) (without_reg regs reg)
  unset_shows changes regs zero shows = λ q.
      shows_get regs (remove regs 0) q (held changes (suc q))
      (get-remove nat_cmp_total regs 0 (suc q) ∙ ap (λ b. cond b None (get regs (suc q))) (is_other (suc q) 0 (λ same. let no : ⊥ = omega (arith, same) in no))) (shows q)
  unset_shows changes regs (suc r) shows = λ q. unset_by changes regs r q (suc r == suc q) refl shows

  -- ---- effects

  -- what an effect asks: of a store, that memory is there at first, and that the valuation's next memory is the one behind it
  abbrev pub HasAccess : spec.Effect → Type 0
  HasAccess (spec.Stores address value) = is_some (load (width_of value) f.memory (mean v address)) ≡ true
  HasAccess _ = Unit {0}

  abbrev pub LeadsOn : List Store → spec.Effect → Type 0
  LeadsOn stores (spec.Stores address value) = IsNext v (length stores) (address, value)
  LeadsOn stores _ = Unit {0}

  pub has_number : (w : Width) (memory : List MemByte) (address : ℕ) → is_some (load w memory address) ≡ true → is_some (number_at memory address (bytes_of w)) ≡ true
  has_number w memory address is = by (is_aligned w address) is
    where
      by : (b : Bool) → is_some (if b then number_at memory address (bytes_of w) else None) ≡ true → is_some (number_at memory address (bytes_of w)) ≡ true
      by true there = there
      by false there = absurd (let no : ⊥ = cc in no)

  store_is : (w : Width) (memory : List MemByte) (address value : ℕ) (o : Option ℕ) → load w memory address ≡ o → is_some o ≡ true →
      unwrap_or (store w memory address value) memory ≡ with_number memory address (bytes_of w) value
  store_is w memory address value None there is = absurd (let no : ⊥ = cc in no)
  store_is w memory address value (Some old) there is = ap (λ (o : Option ℕ). unwrap_or (option_map (λ _. with_number memory address (bytes_of w) value) o) memory) there

  pub made_shows : (index : ℕ) (e : spec.Effected) (s : State) (regs : Regs) (memory : List MemByte) → Shows v f s regs memory → HasAccess e.effect → LeadsOn s.stores e.effect →
      Shows v f (spec.make index e s) (effect.reg_after (meant v e.effect) regs) (effect.bytes_after (meant v e.effect) memory)
  made_shows index e s regs memory shows has leads = by e.effect has leads
    where
      by : (x : spec.Effect) → HasAccess x → LeadsOn s.stores x →
          Shows v f (spec.make index (record e { effect = x }) s) (effect.reg_after (meant v x) regs) (effect.bytes_after (meant v x) memory)
      by spec.Nothing has leads = record { registers = shows.registers; memory_is = shows.memory_is; stored = shows.stored }
      by (spec.Sets reg t) has leads = record { registers = set_shows s.regs regs reg t shows.registers; memory_is = shows.memory_is; stored = shows.stored }
      by (spec.Unsets reg) has leads = record { registers = unset_shows s.regs regs reg shows.registers; memory_is = shows.memory_is; stored = shows.stored }
      by (spec.Stores address value) has leads =
          let w : Width = width_of value in
          let at : ℕ = mean v address in
          let here : is_some (load w memory at) ≡ true = has_load w memory f.memory at shows.memory_is.addresses ∙ has in
          let after : unwrap_or (store w memory at (mean v value)) memory ≡ with_number memory at (bytes_of w) (mean v value) = store_is w memory at (mean v value) (load w memory at) refl here in
          record {
            registers = shows.registers;
            memory_is = subst (λ n. ShowsMemory v f (unwrap_or (store w memory at (mean v value)) memory) n) (sym (one_more s.stores (address, value)))
                (subst (λ m. ShowsMemory v f m (suc (length s.stores))) (sym after)
                (shows_stored v f memory (length s.stores) shows.memory_is w at (mean v value) (has_number w memory at here) leads));
            stored = stored_more v s.stores (address, value) shows.stored leads;
          }
