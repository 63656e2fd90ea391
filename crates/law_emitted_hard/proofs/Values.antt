-- What preparation statements make of operands that name registers of the machine alone, where no register may be made.
use Rattle.std.proofs.Common.{◌≡◌, ℕ, if◌then◌else◌, Bool, true, false, List, [], ◌∷◌, map, Option, Some, None, refl, sym, ap, subst, ◌∙◌}
use Rattle.std.proofs.lemmas.Bool.{false≢true, true≢false}
use Rattle.std.specs.List.{AllByRecursion}
use Rattle.std.specs.Prelude.{ℤ, pos, nat_lt, ◌==◌, int_lt, option_map, option_and_then}
use Rattle.rtx_tree.specs.Code.{mode_bits}
use Rattle.rtx_tree.specs.Operands.{operand_at}
use Rattle.rtx_tree.specs.Registers.{pseudo}
use Rattle.rtx_tree.specs.Tree.{head_of, leaf_of, node_of, const_of}
use Rattle.rtx_tree.specs.declared.code.Code.{Code}
use Rattle.rtx_tree.specs.declared.code.Code.TheVariants as code
use Rattle.rtx_tree.specs.declared.code.Mode.{Mode}
use Rattle.rtx_tree.specs.declared.tree.Rtx.{Rtx}
use Rattle.form_needs.specs.Needs.{is_homeless}
use Rattle.c_words.specs.declared.head.Call.{Call}
use Rattle.c_words.specs.declared.head.Call.TheVariants as call
use Rattle.c_words.specs.declared.head.CondHead.{CondHead}
use Rattle.c_words.specs.declared.head.CondHead.TheVariants as head
use Rattle.c_cond.specs.declared.tree.Tree.{Tree}
use Rattle.c_eval.specs.Numbers.{is_zero}
use Rattle.c_eval.specs.declared.facts.Facts.{Facts}
use Rattle.md_recog.specs.Match.{Accepts}
use Rattle.gen_emit.specs.declared.draft.Draft.{Draft}
use Rattle.gen_emit.specs.declared.draft.Ended.{Ended}
use Rattle.gen_emit.specs.declared.draft.Ended.TheVariants.{Through, Done}
use Rattle.gen_emit.specs.Values.{Made, made, moved, assigned, extended, fresh, is_register_code, is_register, kept, forced, pseudo_part, register_part, low_part, lowered}
use Rattle.gen_emit.specs.Statements.{Meaning, meaning, number_in, mode_of, constant_in, made_in, value_of_call, value_by, and_then, chosen, emitted_move, run_by}
use Rattle.gen_emit.proofs.Meanings.{induction, meaning_node}
use Rattle.law_emitted_hard.specs.Hard.{IsHard, AreHard, OperandsHard, OnSome}
use Rattle.law_emitted_hard.proofs.Trees.{all_hard, hard_tree, hard_here, const_hard, node_hard, set_hard}
use Rattle.law_emitted_hard.proofs.Operands.{put_hard, at_hard}

-- ---- what is there

pub on_map : {A B : Type 0} (P : A → Type 0) (Q : B → Type 0) (f : A → B) → ((x : A) → P x → Q (f x)) → (o : Option A) → OnSome P o → OnSome Q (option_map f o)
on_map P Q f step None is = tt
on_map P Q f step (Some x) is = step x is

pub on_then : {A B : Type 0} (P : A → Type 0) (Q : B → Type 0) (f : A → Option B) → ((x : A) → P x → OnSome Q (f x)) → (o : Option A) → OnSome P o →
    OnSome Q (option_and_then f o)
on_then P Q f step None is = tt
on_then P Q f step (Some x) is = step x is

-- whatever it is
map_any : {A B : Type 0} (Q : B → Type 0) (f : A → B) → ((x : A) → Q (f x)) → (o : Option A) → OnSome Q (option_map f o)
map_any Q f step None = tt
map_any Q f step (Some x) = step x

then_any : {A B : Type 0} (Q : B → Type 0) (f : A → Option B) → ((x : A) → OnSome Q (f x)) → (o : Option A) → OnSome Q (option_and_then f o)
then_any Q f step None = tt
then_any Q f step (Some x) = step x

on_if : {A : Type 0} (Q : A → Type 0) (b : Bool) (x y : Option A) → OnSome Q x → OnSome Q y → OnSome Q (if b then x else y)
on_if Q true x y is more = is
on_if Q false x y is more = more

pub from_at : {A : Type 0} (P : A → Type 0) (o : Option A) → ((x : A) → o ≡ Some x → P x) → OnSome P o
from_at P None each = tt
from_at P (Some x) each = each x refl

-- ---- drafts

abbrev pub DraftHard : Draft → Type 0
DraftHard d = OperandsHard d.operands × AreHard d.moves

abbrev MadeHard : Made → Type 0
MadeHard y = IsHard y.value × DraftHard y.draft

abbrev pub EndedHard : Ended → Type 0
EndedHard (Through d) = DraftHard d
EndedHard (Done d) = DraftHard d

moved_hard : (a b : Rtx) (d : Draft) → IsHard a → IsHard b → DraftHard d → DraftHard (moved a b d)
moved_hard a b d is more all = (all.0, all_hard d.moves _ all.1 (set_hard a b is more, tt))

assigned_hard : (k : ℕ) (x : Rtx) (d : Draft) → IsHard x → DraftHard d → DraftHard (assigned k x d)
assigned_hard k x d is all = (put_hard d.operands k x all.0 is, all.1)

-- ---- registers

none_fresh : (may : Bool) (m : Mode) (d : Draft) → may ≡ false → OnSome MadeHard (fresh may m d)
none_fresh true m d none = absurd (true≢false none)
none_fresh false m d none = tt

none_kept : (may : Bool) (m : Mode) (y : Made) → may ≡ false → OnSome MadeHard (option_map (kept y.value) (fresh may m y.draft))
none_kept true m y none = absurd (true≢false none)
none_kept false m y none = tt

forced_hard : (may : Bool) (m : Mode) (y : Made) → may ≡ false → MadeHard y → OnSome MadeHard (forced may m y)
forced_hard may m y none is = on_if MadeHard (is_register y.value) (Some y) (option_map (kept y.value) (fresh may m y.draft)) is (none_kept may m y none)

register_code : (c : Code) → is_register_code c ≡ true → c ≡ code.Reg
register_code code.Reg is = refl
register_code _ is = absurd (false≢true is)

pseudo_hard : (m : Mode) (x : Rtx) → IsHard x → OnSome IsHard (pseudo_part m x)
pseudo_hard m x is = on_if IsHard (mode_bits m == mode_bits (head_of x).mode) (Some x) _ is
    (on_if IsHard (nat_lt (mode_bits m) (mode_bits (head_of x).mode)) (Some (node_of code.Subreg m (x ∷ []))) None (node_hard code.Subreg m (x ∷ []) (is, tt)) tt)

leaf_hard : (m : Mode) (x : Rtx) → is_register x ≡ true → IsHard x → IsHard (leaf_of code.Reg m (head_of x).number)
leaf_hard m x register is =
    hard_tree (record { code = code.Reg; mode = m; number = (head_of x).number; name = [] }) []
    (ap (λ c. is_homeless c (head_of x).number) (sym (register_code (head_of x).code register)) ∙ hard_here x is) tt

register_hard : (m : Mode) (x : Rtx) → is_register x ≡ true → IsHard x → OnSome IsHard (register_part m x)
register_hard m x register is =
    on_if IsHard (int_lt (head_of x).number (pos (pseudo 0))) (Some (leaf_of code.Reg m (head_of x).number)) (pseudo_part m x)
    (leaf_hard m x register is) (pseudo_hard m x is)

part_hard : (m : Mode) (x : Rtx) → IsHard x → OnSome IsHard (low_part m x)
part_hard m x is = by (is_register x) refl
  where
    by : (b : Bool) → is_register x ≡ b → OnSome IsHard (if b then register_part m x else None)
    by true register = register_hard m x register is
    by false other = tt

lowered_hard : (m : Mode) (y : Made) → MadeHard y → OnSome MadeHard (lowered m y)
lowered_hard m y is = on_map IsHard MadeHard (λ x. made x y.draft) (λ x hard. (hard, is.1)) (low_part m y.value) (part_hard m y.value is.0)

module _ (facts : Facts) (accepts : Accepts) (none : facts.new_pseudos ≡ false) where
  -- what a tree makes and what it does
  abbrev KeepsHard : Meaning → Type 0
  KeepsHard m = (d : Draft) → DraftHard d → OnSome MadeHard (m.value d) × OnSome EndedHard (m.run d)

  abbrev AllKeep : List Meaning → Type 0
  AllKeep ms = AllByRecursion KeepsHard ms

  -- ---- values

  constant_hard : (m : Option Mode) (n : Option ℤ) (d : Draft) → DraftHard d → OnSome MadeHard (constant_in m n d)
  constant_hard m n d is = then_any MadeHard (λ mode. option_map (λ k. made (const_of (extended mode k)) d) n)
      (λ mode. map_any MadeHard (λ k. made (const_of (extended mode k)) d) (λ k. (const_hard (extended mode k), is)) n) m

  made_hard : (maker : Mode → Made → Option Made) (m : Option Mode) (x : Option Made) → ((mode : Mode) (y : Made) → MadeHard y → OnSome MadeHard (maker mode y)) →
      OnSome MadeHard x → OnSome MadeHard (made_in maker m x)
  made_hard maker m x each is = then_any MadeHard (λ mode. option_and_then (maker mode) x)
      (λ mode. on_then MadeHard MadeHard (maker mode) (each mode) x is) m

  call_hard : (c : Call) (ms : List Meaning) (d : Draft) → AllKeep ms → DraftHard d → OnSome MadeHard (value_of_call facts accepts c ms d)
  call_hard call.GenInt (e ∷ []) d all is =
      map_any MadeHard (λ n. made (const_of n) d) (λ n. (const_hard n, is)) (number_in facts accepts e.tree d)
  call_hard call.GenIntMode (e ∷ m ∷ []) d all is = constant_hard (mode_of m.tree) (number_in facts accepts e.tree d) d is
  call_hard call.GenReg (m ∷ []) d all is =
      then_any MadeHard (λ mode. fresh facts.new_pseudos mode d) (λ mode. none_fresh facts.new_pseudos mode d none) (mode_of m.tree)
  call_hard call.ForceReg (m ∷ x ∷ []) d all is =
      made_hard (forced facts.new_pseudos) (mode_of m.tree) (x.value d) (λ mode y. forced_hard facts.new_pseudos mode y none) (all.1.0 d is).0
  call_hard call.GenLowpart (m ∷ x ∷ []) d all is = made_hard lowered (mode_of m.tree) (x.value d) lowered_hard (all.1.0 d is).0
  call_hard c ms d all is = tt

  value_hard : (h : CondHead) (ms : List Meaning) (d : Draft) → AllKeep ms → DraftHard d → OnSome MadeHard (value_by facts accepts h ms d)
  value_hard (head.Operand k) [] d all is =
      on_map IsHard MadeHard (λ x. made x d) (λ x hard. (hard, is)) (operand_at d.operands k)
      (from_at IsHard (operand_at d.operands k) (λ x at. at_hard d.operands k x is.0 at))
  value_hard (head.Call c) ms d all is = call_hard c ms d all is
  value_hard h ms d all is = tt

  -- ---- statements

  chosen_hard : (first second : Draft → Option Ended) (d : Draft) (n : Option ℤ) → OnSome EndedHard (first d) → OnSome EndedHard (second d) →
      OnSome EndedHard (chosen first second d n)
  chosen_hard first second d n is more = then_any EndedHard (λ n. if is_zero n then second d else first d)
      (λ n. on_if EndedHard (is_zero n) (second d) (first d) more is) n

  move_hard : (x y : Meaning) (d : Draft) → KeepsHard x → KeepsHard y → DraftHard d → OnSome EndedHard (emitted_move x y d)
  move_hard x y d one two is = on_then MadeHard EndedHard
      (λ (u : Made). option_map (λ (v : Made). Through (moved u.value v.value v.draft)) (y.value u.draft))
      (λ u left. on_map MadeHard EndedHard (λ (v : Made). Through (moved u.value v.value v.draft))
      (λ v right. moved_hard u.value v.value v.draft left.0 right.0 right.1) (y.value u.draft) (two u.draft left.1).0)
      (x.value d) (one d is).0

  then_hard : (t : Meaning) (e : Ended) → KeepsHard t → EndedHard e → OnSome EndedHard (and_then t.run e)
  then_hard t (Through d) keeps is = (keeps d is).1
  then_hard t (Done d) keeps is = is

  run_hard : (h : CondHead) (ms : List Meaning) (d : Draft) → AllKeep ms → DraftHard d → OnSome EndedHard (run_by facts accepts h ms d)
  run_hard (head.Assign k) (x ∷ []) d all is =
      on_map MadeHard EndedHard (λ (y : Made). Through (assigned k y.value y.draft)) (λ y made'. assigned_hard k y.value y.draft made'.0 made'.1)
      (x.value d) (all.0 d is).0
  run_hard (head.Call call.EmitMove) (x ∷ y ∷ []) d all is = move_hard x y d all.0 all.1.0 is
  run_hard head.Done [] d all is = is
  run_hard head.Nothing [] d all is = is
  run_hard head.If (e ∷ s ∷ []) d all is =
      chosen_hard s.run (λ same. Some (Through same)) d (number_in facts accepts e.tree d) (all.1.0 d is).1 is
  run_hard head.IfElse (e ∷ s ∷ t ∷ []) d all is =
      chosen_hard s.run t.run d (number_in facts accepts e.tree d) (all.1.0 d is).1 (all.1.1.0 d is).1
  run_hard head.Then (s ∷ t ∷ []) d all is =
      on_then EndedHard EndedHard (and_then t.run) (λ e ended. then_hard t e all.1.0 ended) (s.run d) (all.0 d is).1
  run_hard h ms d all is = tt

  -- ---- trees

  abbrev TreeKeeps : Tree → Type 0
  TreeKeeps t = KeepsHard (meaning facts accepts t)

  each_keeps : (ts : List Tree) → AllByRecursion TreeKeeps ts → AllKeep (map (meaning facts accepts) ts)
  each_keeps [] all = tt
  each_keeps (t ∷ ts) all = (all.0, each_keeps ts all.1)

  tree_keeps : (h : CondHead) (parts : List Tree) → AllByRecursion TreeKeeps parts → (d : Draft) → DraftHard d →
      OnSome MadeHard (value_by facts accepts h (map (meaning facts accepts) parts) d) × OnSome EndedHard (run_by facts accepts h (map (meaning facts accepts) parts) d)
  tree_keeps h parts all d is =
      let each = each_keeps parts all in
      let ms = map (meaning facts accepts) parts in
      (value_hard h ms d each is, run_hard h ms d each is)

  pub statements_hard : (t : Tree) → TreeKeeps t
  statements_hard = induction TreeKeeps (λ h parts all. subst KeepsHard (sym (meaning_node facts accepts h parts)) (tree_keeps h parts all))
