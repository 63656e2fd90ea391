-- Uids that differ still do when a function's registers get homes: moves have those behind the
-- greatest.
use Rattle.std.proofs.Common.{◌≡◌, ℕ, ◌+◌, ◌≤◌, ◌<◌, Bool, true, false, List, [], ◌∷◌, ◌++◌, length}
use Rattle.std.proofs.Common.{Ok, refl, sym, ap, subst, ◌∙◌, append_assoc, arith}
use Rattle.std.specs.Prelude.{◌==◌}
use Rattle.std.specs.List.{IsDistinct}
use Rattle.rtx_tree.specs.declared.tree.Rtx.{Rtx}
use Rattle.rtx_tree.specs.declared.function.Insn.{Insn}
use Rattle.rtx_tree.specs.declared.function.Function.{Function}
use Rattle.rtx_tree.specs.Patterns.{with_pattern}
use Rattle.rtl_func.specs.Uids.{is_ruled_kind, uids_of}
use Rattle.md_forms.specs.declared.form.Entry.{Entry}
use Rattle.law_pass_needs.specs.Reloadable.{UidsDiffer}
use Rattle.assign.specs.declared.home.HomeOf.{HomeOf}
use Rattle.assign.specs.declared.places.Layout.{Layout}
use Rattle.law_frame.specs.Frame.{plain_insns, next_uid}
use Rattle.law_frame.proofs.PlainUids.{Apart, Below, all_both, all_split, below_apart, below_more}
use Rattle.law_frame.proofs.PlainUids.{distinct_back, uids_both, own_of, own_differs, own_apart}
use Rattle.law_frame.proofs.PlainUids.{own_below, low_uids, plain_uids, plain_apart, plain_differ}
use Rattle.reload.specs.Reload.{window_by, FunctionReloads}
use Rattle.reload.specs.Windows.{AreWindows}
use Rattle.reload.proofs.Running.{window_long}
use Rattle.reload.proofs.WindowLaws.{reload_windows, IsAmong, among}

-- ---- the uids of a chain

own_by : (b : Bool) (i : Insn) (x : Rtx) → own_of b (with_pattern i x) ≡ own_of b i
own_by true i x = refl
own_by false i x = refl

own_uids : (i : Insn) (x : Rtx) → uids_of (with_pattern i x ∷ []) ≡ uids_of (i ∷ [])
own_uids i x = own_by (is_ruled_kind i.kind) i x

-- those of a window and of what stands behind it
window_uids : (uid : ℕ) (i : Insn) (before : List Rtx) (x : Rtx) (after : List Rtx)
    (rest : List Insn) →
    uids_of (window_by uid i before x after ++ rest) ≡
    plain_uids uid before ++
    (uids_of (i ∷ []) ++ (plain_uids (uid + length before) after ++ uids_of rest))
window_uids uid i before x after rest =
    let front = plain_insns uid before in
    let back = plain_insns (uid + length before) after in
    ap uids_of (append_assoc front (with_pattern i x ∷ back) rest) ∙
    (uids_both front (with_pattern i x ∷ back ++ rest) ∙
    ap (λ (us : List ℕ). uids_of front ++ us)
    (uids_both (with_pattern i x ∷ []) (back ++ rest) ∙
    (ap (λ (us : List ℕ). us ++ uids_of (back ++ rest)) (own_uids i x) ∙
    ap (λ (us : List ℕ). uids_of (i ∷ []) ++ us) (uids_both back rest))))

-- ---- windows

-- uids are free from the first of a window on, and then from a later one on
window_ends : (uid next : ℕ) (i : Insn) (window : List Insn) (a : IsAmong uid i window) →
    next + 1 ≡ uid + length window →
    next ≡ uid + (length a.before + length a.after)
window_ends uid next i window a free =
    let long = ap length a.window_is ∙ window_long uid i a.before a.pattern a.after in
    omega (arith, free, long)

among_uids : (uid : ℕ) (i : Insn) (window rest : List Insn) (a : IsAmong uid i window) →
    uids_of (window ++ rest) ≡
    plain_uids uid a.before ++
    (uids_of (i ∷ []) ++ (plain_uids (uid + length a.before) a.after ++ uids_of rest))
among_uids uid i window rest a =
    ap (λ (w : List Insn). uids_of (w ++ rest)) a.window_is ∙
    window_uids uid i a.before a.pattern a.after rest

module _ (forms : List Entry) (homes : List HomeOf) (layout : Layout) where
  chain_apart : (x uid : ℕ) (insns new : List Insn) → AreWindows forms homes layout uid insns new →
      x < uid → Apart x (uids_of insns) → Apart x (uids_of new)
  chain_apart x _ _ _ (AreWindows.none uid) less far = tt
  chain_apart x _ _ _ (AreWindows.one_more uid next i insns window rest is free more) less far =
      let a = among forms homes layout uid i window is in
      let P : ℕ → Type 0 = λ y. (x == y) ≡ false in
      let ends = window_ends uid next i window a free in
      let parts = all_split P (uids_of (i ∷ [])) (uids_of insns)
      (subst (Apart x) (uids_both (i ∷ []) insns) far) in
      let later = plain_uids (uid + length a.before) a.after in
      let behind = chain_apart x next insns rest more (omega (arith, less, ends)) parts.1 in
      let after = all_both P later (uids_of rest)
      (plain_apart x (uid + length a.before) a.after (omega (arith, less))) behind in
      let own = all_both P (uids_of (i ∷ [])) (later ++ uids_of rest) parts.0 after in
      subst (Apart x) (sym (among_uids uid i window rest a))
      (all_both P (plain_uids uid a.before) (uids_of (i ∷ []) ++ (later ++ uids_of rest))
      (plain_apart x uid a.before less) own)

  -- where those of a window are below the free ones
  window_differs : (uid next : ℕ) (i : Insn) (insns window rest : List Insn)
      (a : IsAmong uid i window) →
      next + 1 ≡ uid + length window → AreWindows forms homes layout next insns rest →
      Below uid (uids_of (i ∷ [])) → Below uid (uids_of insns) →
      (is_ruled_kind i.kind ≡ true → Apart i.uid (uids_of insns)) → IsDistinct ◌==◌ (uids_of rest) →
      IsDistinct ◌==◌ (uids_of (window ++ rest))
  window_differs uid next i insns window rest a free more low lows far differ =
      let ends = window_ends uid next i window a free in
      let middle = uid + length a.before in
      let later = plain_uids middle a.after in
      let own = uids_of (i ∷ []) in
      let free_behind : (x : ℕ) → uid ≤ x → x < next → Apart x (uids_of rest) =
      λ x above below. chain_apart x next insns rest more below
      (below_apart x uid (uids_of insns) above lows) in
      let after : IsDistinct ◌==◌ (later ++ uids_of rest) =
      plain_differ middle a.after (uids_of rest) differ
      (λ x above below. free_behind x (omega (arith, above)) (omega (arith, below, ends))) in
      let own_far : is_ruled_kind i.kind ≡ true → Apart i.uid (later ++ uids_of rest) = λ ruled.
      let here : i.uid < uid = own_below (is_ruled_kind i.kind) uid i ruled low in
      all_both (λ y. (i.uid == y) ≡ false) later (uids_of rest)
      (plain_apart i.uid middle a.after (omega (arith, here)))
      (chain_apart i.uid next insns rest more (omega (arith, here, ends)) (far ruled)) in
      subst (IsDistinct ◌==◌) (sym (among_uids uid i window rest a))
      (plain_differ uid a.before (own ++ (later ++ uids_of rest))
      (own_differs (is_ruled_kind i.kind) i (later ++ uids_of rest) after own_far)
      (λ x above below.
      all_both (λ y. (x == y) ≡ false) own (later ++ uids_of rest) (below_apart x uid own above low)
      (all_both (λ y. (x == y) ≡ false) later (uids_of rest) (plain_apart x middle a.after below)
      (free_behind x above (omega (arith, below, ends))))))

  chain_differs : (uid : ℕ) (insns new : List Insn) → AreWindows forms homes layout uid insns new →
      Below uid (uids_of insns) →
      IsDistinct ◌==◌ (uids_of insns) → IsDistinct ◌==◌ (uids_of new)
  chain_differs _ _ _ (AreWindows.none uid) low differ = differ
  chain_differs _ _ _ (AreWindows.one_more uid next i insns window rest is free more) low differ =
      let a = among forms homes layout uid i window is in
      let ends = window_ends uid next i window a free in
      let own = uids_of (i ∷ []) in
      let lows = all_split (λ u. u < uid) own (uids_of insns)
      (subst (Below uid) (uids_both (i ∷ []) insns) low) in
      let whole : IsDistinct ◌==◌ (own ++ uids_of insns) =
      subst (IsDistinct ◌==◌) (uids_both (i ∷ []) insns) differ in
      let behind = chain_differs next insns rest more
      (below_more uid next (uids_of insns) (omega (arith, ends)) lows.1)
      (distinct_back own (uids_of insns) whole) in
      window_differs uid next i insns window rest a free more lows.0 lows.1
      (λ ruled. own_apart (is_ruled_kind i.kind) i (uids_of insns) ruled whole)
      behind

-- ---- a function

-- uids that differ still do
pub reload_uids : (forms : List Entry) (homes : List HomeOf) (layout : Layout) (f g : Function) →
    UidsDiffer f → FunctionReloads forms homes layout f (Ok g) → UidsDiffer g
reload_uids forms homes layout f g differ is =
    chain_differs forms homes layout (next_uid f.insns) f.insns g.insns
    (reload_windows forms homes layout f g is).windows
    (low_uids f.insns) differ
