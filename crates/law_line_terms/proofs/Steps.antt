-- The step of a line, action by action: where its needs are met it goes on, and the symbolic state after it shows the machine after it;
-- where they are not it is stuck.
use Rattle.std.proofs.Common.{◌≡◌, ℕ, suc, ◌<◌, ◌^◌, Bool, true, false, List, [], ◌∷◌, ◌++◌, length, Option, Some, None, refl, sym, ◌∙◌, ap, subst}
use Rattle.std.specs.Prelude.{if◌then◌else◌, is_some}
use Rattle.bits64.specs.declared.operator.Operator.{Operator}
use Rattle.bits64.specs.declared.Width.{Width}
use Rattle.bits64.specs.declared.Width.TheVariants.{W64}
use Rattle.bits64.specs.Words.{bytes_of}
use Rattle.rtx_tree.specs.declared.machine.World.{World}
use Rattle.rtx_tree.specs.declared.memories.MemByte.{MemByte}
use Rattle.run_memory.specs.RunMemory.{number_at, with_number}
use Rattle.rv_text.specs.declared.line.Line.{Line}
use Rattle.rv_text.specs.declared.action.Action.TheVariants as action
use Rattle.rv_text.specs.declared.action.Extension.{Extension}
use Rattle.rv_text.specs.declared.action.Extension.TheVariants.{Sign, Zero}
use Rattle.rv_text.specs.declared.action.Source.{Source}
use Rattle.rv_line.specs.Step as line
use Rattle.rv_line.specs.declared.state.RvState.{RvState}
use Rattle.rv_line.specs.declared.state.LineEnd.{LineEnd}
use Rattle.rv_line.specs.declared.state.LineEnd.TheVariants as ends
use Rattle.term_tree.specs.declared.head.Head.TheVariants as heads
use Rattle.term_tree.specs.Tree.{Tree, width_of}
use Rattle.term_tree.specs.Form.{same_width}
use Rattle.term_mean.specs.Meaning.{Valuation, mean}
use Rattle.term_mean.specs.Stores.{written}
use Rattle.term_mean.specs.Compared.{low_bits}
use Rattle.term_mean.proofs.NormalWidths.{width-built}
use Rattle.term_mean.proofs.ComparedLaws.{width-low_bits}
use Rattle.sym_lines.specs.sym_state.State.{State, Need, Access, needs_at}
use Rattle.sym_lines.specs.sym_state.Makers.{term_of}
use Rattle.sym_lines.specs.Compute as compute
use Rattle.sym_lines.specs.Step as spec
use Rattle.law_insn_terms.specs.Needs as needs
use Rattle.law_insn_terms.specs.Needs.{are_met}
use Rattle.law_insn_terms.specs.Shows.{ShowsMemory}
use Rattle.law_insn_terms.proofs.Operations.{made}
use Rattle.law_insn_terms.proofs.Memories.{IsNext, stored_more, shows_stored}
use Rattle.law_line_terms.specs.ShowsLine.{IsFirst, ShowsLine}
use Rattle.law_line_terms.proofs.Reading.{had}
use Rattle.law_line_terms.proofs.Computing.{is_64}
use Rattle.law_line_terms.proofs.Lines.{computed_had}
use Rattle.law_line_terms.proofs.Accesses.{loaded_had, stored_had}
use Rattle.law_line_terms.proofs.Setting.{rd_shows}

-- ---- what is set has 64 bits

either_width : (b : Bool) (t u : Tree) (w : Width) → (b ≡ true → width_of t ≡ w) → (b ≡ false → width_of u ≡ w) → width_of (if b then t else u) ≡ w
either_width true t u w p q = p refl
either_width false t u w p q = q refl

computed_width : (v : Valuation) (o : Operator) (w : Width) (a b : Tree) → width_of (compute.computed o w a b) ≡ W64
computed_width v o w a b =
    either_width (same_width w W64) _ _ W64
    (λ whole. (made v [] o w (low_bits w a) (low_bits w b) tt).width_is ∙ is_64 w whole)
    (λ part. width-built [] heads.Sext W64 0 [] (term_of [] o w (low_bits w a) (low_bits w b) ∷ []))

extended_width : (e : Extension) (w : Width) (t : Tree) → width_of t ≡ w → width_of (spec.extended e w t) ≡ W64
extended_width Sign w t is = either_width (same_width w W64) t _ W64 (λ whole. is ∙ is_64 w whole) (λ part. width-built [] heads.Sext W64 0 [] (t ∷ []))
extended_width Zero w t is = either_width (same_width w W64) t _ W64 (λ whole. is ∙ is_64 w whole) (λ part. width-built [] heads.Zext W64 0 [] (t ∷ []))

module _ (v : Valuation) (f : needs.First) (first : List (Option ℕ)) (is_first : IsFirst v f first) (s : State) (m : RvState) (shows : ShowsLine v f first s m) where
  -- what a line that sets rd comes to
  abbrev pub sets_to : Line → List Need → Tree → LineEnd × RvState
  sets_to l ns t = if are_met v f ns then (ends.Next, record m { regs = line.with_register m.regs l.rd (mean v t) }) else (ends.Stuck, m)

  pub set_had : (l : Line) (ns : List Need) (t : Tree) → line.set_rd m l (had v f first is_first ns t) ≡ sets_to l ns t
  set_had l ns t = by (are_met v f ns)
    where
      by : (b : Bool) → line.set_rd m l (if b then Some (mean v t) else None) ≡ (if b then (ends.Next, record m { regs = line.with_register m.regs l.rd (mean v t) }) else (ends.Stuck, m))
      by true = refl
      by false = refl

  -- ---- a line that computes

  abbrev pub compute_needs : Line → Source → Source → List Need
  compute_needs l x y = spec.source_needs s.regs l x ++ spec.source_needs s.regs l y

  abbrev pub compute_term : Line → Operator → Width → Source → Source → Tree
  compute_term l o w x y = compute.computed o w (spec.source s.regs l x) (spec.source s.regs l y)

  pub compute_goes : (world : World) (l : Line) (o : Operator) (w : Width) (x y : Source) → line.act (action.Compute o w x y) world l m ≡ sets_to l (compute_needs l x y) (compute_term l o w x y)
  compute_goes world l o w x y = ap (line.set_rd m l) (computed_had v f first is_first s m shows l o w x y) ∙ set_had l (compute_needs l x y) (compute_term l o w x y)

  pub compute_shows : (index : ℕ) (uid : Option ℕ) (l : Line) (o : Operator) (w : Width) (x y : Source) → l.rd < 32 →
      ShowsLine v f first (spec.act (action.Compute o w x y) index uid l s) (record m { regs = line.with_register m.regs l.rd (mean v (compute_term l o w x y)) })
  compute_shows index uid l o w x y within =
      rd_shows v f first s m l.rd (mean v (compute_term l o w x y)) (compute_term l o w x y) (s.needs ++ needs_at index (compute_needs l x y)) shows within
      (computed_width v o w (spec.source s.regs l x) (spec.source s.regs l y)) refl

  -- ---- a load

  abbrev pub load_needs : Line → Width → List Need
  load_needs l w = spec.register_needs s.regs l.rs ++ Access (spec.address s.regs l) w ∷ []

  abbrev pub load_term : Line → Width → Extension → Tree
  load_term l w e = spec.extended e w (spec.loaded s.stores w (spec.address s.regs l))

  pub load_goes : (world : World) (l : Line) (w : Width) (e : Extension) → line.act (action.Load w e) world l m ≡ sets_to l (load_needs l w) (load_term l w e)
  load_goes world l w e = ap (line.set_rd m l) (loaded_had v f first is_first s m shows l w e) ∙ set_had l (load_needs l w) (load_term l w e)

  pub load_shows : (index : ℕ) (uid : Option ℕ) (l : Line) (w : Width) (e : Extension) → l.rd < 32 →
      ShowsLine v f first (spec.act (action.Load w e) index uid l s) (record m { regs = line.with_register m.regs l.rd (mean v (load_term l w e)) })
  load_shows index uid l w e within =
      rd_shows v f first s m l.rd (mean v (load_term l w e)) (load_term l w e) (s.needs ++ needs_at index (load_needs l w)) shows within
      (extended_width e w (spec.loaded s.stores w (spec.address s.regs l)) (width-built s.stores heads.Load w (length s.stores) [] (spec.address s.regs l ∷ []))) refl

  -- ---- a store

  abbrev pub store_needs : Line → Width → List Need
  store_needs l w = spec.register_needs s.regs l.rt ++ (spec.register_needs s.regs l.rs ++ Access (spec.address s.regs l) w ∷ [])

  abbrev pub store_value : Line → Width → Tree
  store_value l w = low_bits w (spec.register s.regs l.rt)

  abbrev pub memory_behind : Line → Width → List MemByte
  memory_behind l w = with_number m.memory (mean v (spec.address s.regs l)) (bytes_of w) (mean v (store_value l w))

  pub store_goes : (world : World) (l : Line) (w : Width) → line.act (action.Store w) world l m
      ≡ (if are_met v f (store_needs l w) then (ends.Next, record m { memory = memory_behind l w }) else (ends.Stuck, m))
  store_goes world l w = ap (line.set_memory m) (stored_had v f first is_first s m shows l w) ∙ by (are_met v f (store_needs l w))
    where
      by : (b : Bool) → line.set_memory m (if b then Some (memory_behind l w) else None) ≡ (if b then (ends.Next, record m { memory = memory_behind l w }) else (ends.Stuck, m))
      by true = refl
      by false = refl

  one_more : (stores : List (Tree × Tree)) (x : Tree × Tree) → length (stores ++ x ∷ []) ≡ suc (length stores)
  one_more [] x = refl
  one_more (t ∷ stores) x = ap suc (one_more stores x)

  pub store_shows : (index : ℕ) (uid : Option ℕ) (l : Line) (w : Width) → is_some (number_at m.memory (mean v (spec.address s.regs l)) (bytes_of w)) ≡ true →
      IsNext v (length s.stores) (spec.address s.regs l, store_value l w) → ShowsLine v f first (spec.act (action.Store w) index uid l s) (record m { memory = memory_behind l w })
  store_shows index uid l w there next =
      let value_width : width_of (store_value l w) ≡ w = width-low_bits w (spec.register s.regs l.rt) in
      record {
        registers = shows.registers;
        long = shows.long;
        memory_is = subst (λ n. ShowsMemory v f (memory_behind l w) n) (sym (one_more s.stores (spec.address s.regs l, store_value l w)))
            (shows_stored v f m.memory (length s.stores) shows.memory_is w (mean v (spec.address s.regs l)) (mean v (store_value l w)) there
            (subst (λ u. (c : ℕ) → c < 2 ^ 64 → v.memory (suc (length s.stores)) c ≡ written (v.memory (length s.stores)) (bytes_of u) (mean v (spec.address s.regs l)) (mean v (store_value l w)) c) value_width next));
        stored = stored_more v s.stores (spec.address s.regs l, store_value l w) shows.stored next;
      }
