-- What is found of one pair.
use Rattle.std.proofs.Common.{◌≡◌, ⊎_elim, ℕ, ◌+◌, ◌-◌, ◌<◌, ◌≤◌, true, false, List, [], ◌∷◌, length, Option, Some, None, sym, ap, subst, ◌∙◌, arith}
use Rattle.std.specs.Prelude.{slice_get, IsSome, IfSome, IfOk, Result, Ok, Err, nat_le}
use Rattle.std.proofs.lemmas.Bool.{true≢false, cases_lt}
use Rattle.std.proofs.lemmas.Bool.Decides.{nat_tests}
use Rattle.rtx_tree.specs.declared.tree.Rtx.{Rtx}
use Rattle.rtx_tree.specs.declared.function.Insn.{Insn}
use Rattle.rtx_tree.specs.declared.function.Function.{Function}
use Rattle.rtx_tree.specs.Tree.{kids_of, part_at}
use Rattle.live.specs.Live.{AreLiveAfter}
use Rattle.live.proofs.LiveLists.{live_one}
use Rattle.new_insns.specs.Replaced.{window}
use Rattle.equate.specs.Side.{Insns}
use Rattle.equate.specs.Equated.{Equated}
use Rattle.form_needs.specs.Needs.{is_kind, lower_facts}
use Rattle.reg_uses.specs.Uses.{insn_uses}
use Rattle.insn_fuse.specs.Fused.{set_of, reads_at, fused}
use Rattle.insn_fuse.proofs.Standing.{stands}
use Rattle.md_forms.specs.declared.form.Entry.{Entry}
use Rattle.md_desc.specs.Recog.{NoneMatches}
use Rattle.law_window_put.specs.Put.{IsPut}
use Rattle.rtx_tree.specs.Limit.{most_apart, most_combined}
use Rattle.combine.specs.Combine.{fused_window, levels, passes, PassesBetween, Links, IsDeadBehind, IsFormed, Makes, Combines}
use Rattle.combine.specs.machine.Found.{Linked, Made, Compared, PutBetween, Tried}
use Rattle.combine.proofs.One.{some_one, register_one, path_one, made_one}
use Rattle.combine.proofs.Unused.{no_reads}

-- ---- what stands between

pub pass_more : (f : Function) (first place reg : ℕ) (i : Insn) → slice_get f.insns place ≡ Some i → passes reg i ≡ true → PassesBetween f first place reg → PassesBetween f first (place + 1) reg
pass_more f first place reg i at pass all p j after before there = ⊎_elim
    (λ (below : p < place). all p j after below there)
    (λ (from : place ≤ p).
    let same : place ≡ p = omega (arith, from, before) in
    let is : i ≡ j = some_one (slice_get f.insns p) i j (ap (slice_get f.insns) (sym same) ∙ at) there in
    ap (passes reg) (sym is) ∙ pass)
    (cases_lt p place)

pub pass_upto : (f : Function) (first place second reg : ℕ) → second ≤ place → PassesBetween f first place reg → PassesBetween f first second reg
pass_upto f first place second reg upto all p j after before there = all p j after (omega (arith, before, upto)) there

-- ---- a link

pub path_of : (P : List ℕ → Type 0) (o : Option (List ℕ)) (path : List ℕ) → o ≡ Some path → IfSome o P → P path
path_of P (Some other) path is holds = let same : other ≡ path = cc in subst P same holds
path_of P None path is holds = cc

module _ (f : Function) (first second : ℕ) (one : Insn) (at_first : slice_get f.insns first ≡ Some one) where
  pub no_set : set_of one ≡ None → Linked f first second None
  no_set none register path links =
      let same = some_one (slice_get f.insns first) links.one one links.at_first at_first in
      let is : set_of one ≡ Some register = ap set_of (sym same) ∙ links.sets in
      cc

  module _ (other : Insn) (at_second : slice_get f.insns second ≡ Some other) where
    pub no_insn : is_kind other.kind ≡ false → Linked f first second None
    no_insn not register path links =
        let same = some_one (slice_get f.insns second) links.other other links.at_second at_second in
        true≢false (sym links.kind_is ∙ (ap (λ (i : Insn). is_kind i.kind) same ∙ not))

    module _ (register : ℕ) (sets : set_of one ≡ Some register) where
      register_is : (r : ℕ) (path : List ℕ) → Links f first second r path → r ≡ register
      register_is r path links =
          let same = some_one (slice_get f.insns first) links.one one links.at_first at_first in
          some_one (set_of one) r register (ap set_of (sym same) ∙ links.sets) sets

      pub no_use : ((path : List ℕ) → reads_at register other.pattern ≡ path ∷ [] → ⊥) → Linked f first second None
      no_use none r path links =
          let same = some_one (slice_get f.insns second) links.other other links.at_second at_second in
          none path (ap (λ n. reads_at n other.pattern) (sym (register_is r path links)) ∙ (ap (λ (i : Insn). reads_at r i.pattern) (sym same) ∙ links.once))

      -- it does not use the register
      pub no_reader : insn_uses other register ≡ false → Linked f first second None
      no_reader unused = no_use (λ path once. let none : path ∷ [] ≡ [] = sym once ∙ no_reads one other register sets unused in cc)

      pub no_pass : (PassesBetween f first second register → ⊥) → Linked f first second None
      no_pass none r path links = none (subst (PassesBetween f first second) (register_is r path links) links.between)

-- its path exists
pub link_there : (f : Function) (first second register : ℕ) (path : List ℕ) → Links f first second register path → (i : Insn) → slice_get f.insns second ≡ Some i → IsSome (part_at i.pattern path)
link_there f first second register path links i at =
    let same = some_one (slice_get f.insns second) links.other i links.at_second at in
    subst (λ (i : Insn). IsSome (part_at i.pattern path)) same (stands register links.other.pattern path links.once)

-- ---- a pattern

pub too_deep : (forms : List Entry) (x : Rtx) → nat_le (levels x) most_combined ≡ false → IsFormed forms x → ⊥
too_deep forms x deep formed = let low = formed.shallow in grind (arith, nat_tests, deep, low)

pub low_enough : (x : Rtx) → nat_le (levels x) most_combined ≡ true → levels x ≤ most_combined
low_enough x low = grind (arith, nat_tests, low)

pub none_formed : (forms : List Entry) (x : Rtx) → NoneMatches forms lower_facts x → IsFormed forms x → ⊥
none_formed forms x none formed = none formed.form formed.operands formed.matches

module _ (forms : List Entry) (f : Function) (first second : ℕ) (path : List ℕ) (one other : Insn) (at_first : slice_get f.insns first ≡ Some one) (at_second : slice_get f.insns second ≡ Some other) where
  pub no_source : slice_get (kids_of one.pattern) 1 ≡ None → Made forms f first second path None
  no_source none x makes =
      let same = some_one (slice_get f.insns first) makes.one one makes.at_first at_first in
      let is : slice_get (kids_of one.pattern) 1 ≡ Some makes.source = ap (λ (i : Insn). slice_get (kids_of i.pattern) 1) (sym same) ∙ makes.source_is in
      cc

  module _ (source x : Rtx) (source_is : slice_get (kids_of one.pattern) 1 ≡ Some source) (made : x ≡ fused other.pattern path source) where
    pub is_made : IsFormed forms x → Made forms f first second path (Some x)
    is_made formed = record { one = one; other = other; at_first = at_first; at_second = at_second; source = source; source_is = source_is; made = made; formed = formed }

    pub not_made : (IsFormed forms x → ⊥) → Made forms f first second path None
    not_made none y makes =
        let same = some_one (slice_get f.insns first) makes.one one makes.at_first at_first in
        let same_too = some_one (slice_get f.insns second) makes.other other makes.at_second at_second in
        let sources = some_one (slice_get (kids_of one.pattern) 1) makes.source source (ap (λ (i : Insn). slice_get (kids_of i.pattern) 1) (sym same) ∙ makes.source_is) source_is in
        let patterns = makes.made ∙ (ap (λ (i : Insn). fused i.pattern path makes.source) same_too ∙ (ap (fused other.pattern path) sources ∙ sym made)) in
        none (subst (IsFormed forms) patterns makes.formed)

-- ---- a window

pub put_compared : (f : Function) (first end : ℕ) (x : Rtx) (live : List ℕ) (old : List Insn) (o : Option (List Insn)) → first < end → end ≤ length f.insns → AreLiveAfter f (end - 1) live → old ≡ window f first end →
    Compared old x live o → PutBetween f first end x o
put_compared f first end x live old None order within are is none = λ put.
    let lives = live_one f (end - 1) put.live live put.are are in
    none (subst (λ w. Equated w (Insns (fused_window x w)) live) (sym is) (subst (λ l. Equated (window f first end) (Insns (fused_window x (window f first end))) l) lives put.equated))
put_compared f first end x live old (Some new) order within are is both = (
  record { order = order; within = within; live = live; are = are; equated = subst (λ w. Equated w (Insns (fused_window x w)) live) is both.0 },
  both.1 ∙ ap (fused_window x) is,
)

-- ---- a pair

module _ (forms : List Entry) (f : Function) (first second : ℕ) where
  pub no_link : Linked f first second None → Tried forms f first second None
  no_link none x c = none c.register c.path c.links

  module _ (register : ℕ) (path : List ℕ) (links : Links f first second register path) where
    pub not_dead : (IsDeadBehind f register second → ⊥) → Tried forms f first second None
    not_dead none x c = none (subst (λ r. IsDeadBehind f r second) (register_one f first second c.register register c.path path c.links links) c.dead)

    makes_too : (x : Rtx) → (c : Combines forms f first second x) → Makes forms f first second path x
    makes_too x c = subst (λ p. Makes forms f first second p x) (path_one f first second c.register register c.path path c.links links) c.makes

    pub none_made : Made forms f first second path None → Tried forms f first second None
    none_made none x c = none x (makes_too x c)

    pub put_tried : (x : Rtx) (end : ℕ) (o : Option (List Insn)) → first < second → second ≤ first + most_apart → IsDeadBehind f register second → Makes forms f first second path x → end ≡ second + 1 → PutBetween f first end x o → Tried forms f first second o
    put_tried x end None before near dead makes is none = λ y c.
        let same = made_one forms f first second path y x (makes_too y c) makes in
        none (subst (λ n. IsPut f first n (fused_window x (window f first n))) (sym is) (subst (λ z. IsPut f first (second + 1) (fused_window z (window f first (second + 1)))) same c.put))
    put_tried x end (Some new) before near dead makes is both = record {
      pattern = x;
      combines = record {
        before = before;
        near = near;
        register = register;
        path = path;
        links = links;
        dead = dead;
        makes = makes;
        put = subst (λ n. IsPut f first n (fused_window x (window f first n))) is both.0;
      };
      new_is = both.1 ∙ ap (λ n. fused_window x (window f first n)) is;
    }

-- ---- where a call made it

ok_map : {A E : Type 0} (r : Result A E) (P Q : A → Type 0) → ((a : A) → P a → Q a) → IfOk r P → IfOk r Q
ok_map (Ok a) P Q step is = step a is
ok_map (Err e) P Q step is = tt

-- the chain is as it was
pub put_made : {E : Type 0} (f g h : Function) (first end : ℕ) (x : Rtx) (live : List ℕ) (old : List Insn) (r : Result (Option (List Insn)) E) → g ≡ f → h ≡ g → first < end → end ≤ length f.insns → AreLiveAfter f (end - 1) live →
    old ≡ window h first end → IfOk r (Compared old x live) → IfOk r (PutBetween f first end x)
put_made f g h first end x live old r same too order within are is =
    ok_map r (Compared old x live) (PutBetween f first end x)
    (λ o. put_compared f first end x live old o order within are (is ∙ ap (λ k. window k first end) (too ∙ same)))

pub tried_made : {E : Type 0} (forms : List Entry) (f g : Function) (first second register : ℕ) (path : List ℕ) (x : Rtx) (end : ℕ) (r : Result (Option (List Insn)) E) → g ≡ f → Links f first second register path → first < second → second ≤ first + most_apart →
    IsDeadBehind f register second → Makes forms g first second path x → end ≡ second + 1 → IfOk r (PutBetween g first end x) → IfOk r (Tried forms f first second)
tried_made forms f g first second register path x end r same links before near dead makes is =
    ok_map r (PutBetween g first end x) (Tried forms f first second)
    (λ o put. put_tried forms f first second register path links x end o before near dead (subst (λ k. Makes forms k first second path x) same makes) is (subst (λ k. PutBetween k first end x o) same put))
