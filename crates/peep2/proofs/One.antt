-- What a function comes to is one thing.
use Rattle.std.proofs.Common.{◌≡◌, ℕ, ◌+◌, ◌-◌, ◌≤◌, ◌<◌, List, length, Some, Ok, Err, refl, sym, ap, subst, ◌∙◌, arith}
use Rattle.std.specs.Prelude.{slice_get}
use Rattle.rtx_tree.specs.declared.tree.Rtx.{Rtx}
use Rattle.rtx_tree.specs.declared.function.Insn.{Insn}
use Rattle.rtx_tree.specs.declared.function.Function.{Function}
use Rattle.md_forms.specs.declared.form.Entry.{Entry}
use Rattle.md_forms.specs.Forms.{names_of}
use Rattle.form_needs.specs.Needs.{name_at}
use Rattle.pass_refusal.specs.declared.refusal.PassRefusal.{PassRefusal}
use Rattle.window_comes.specs.Window.{WindowComes}
use Rattle.window_comes.proofs.OneComes.{one_comes}
use Rattle.peep2.specs.Rewrite.{IsRewrite, IsLeft}
use Rattle.peep2.specs.Cover.{Answer, CoverFrom, CoverComes}
use Rattle.peep2.proofs.Forms.{AreSame, rewrite_one}

same_insn : (i j : Insn) → Some i ≡ Some j → i ≡ j
same_insn i j is = cc

ok_err : {P : Type 0} (g : Function) (e : PassRefusal) → ◌≡◌ {A = Answer} (Ok g) (Err e) → P
ok_err g e is = absurd (let none : ⊥ = cc in none)

same_ok : (g h : Function) → ◌≡◌ {A = Answer} (Ok g) (Ok h) → g ≡ h
same_ok g h is = cc

module _ (forms : List Entry) where
  past : {P : Type 0} (f : Function) (place : ℕ) → place < length f.insns → length f.insns ≤ place → P
  past f place within end = absurd (omega (arith, within, end))

  within_by : (f : Function) (place count form : ℕ) (s : List Rtx) → IsRewrite forms f place count form s → place < length f.insns
  within_by f place count form s is = let some = is.rewrites.run.some in let within = is.rewrites.run.within in omega (arith, some, within)

  left_not : {P : Type 0} (f : Function) (place count form : ℕ) (s : List Rtx) → IsLeft forms f place → IsRewrite forms f place count form s → P
  left_not f place count form s left is = absurd (left count form s is.rewrites)

  -- a window that is rewritten comes to one thing
  same_comes : (f : Function) (place count many form other : ℕ) (i j last final : Insn) (s t : List Rtx) (a b : Answer) →
      slice_get f.insns place ≡ Some i → slice_get f.insns place ≡ Some j → slice_get f.insns (place + count - 1) ≡ Some last → slice_get f.insns (place + many - 1) ≡ Some final →
      AreSame forms f place count many form other s t →
      WindowComes f place (place + count) i last (name_at (names_of forms) form) s a → WindowComes f place (place + many) j final (name_at (names_of forms) other) t b → a ≡ b
  same_comes f place count many form other i j last final s t a b at_i at_j at_last at_final same x y =
      let firsts : i ≡ j = same_insn i j (sym at_i ∙ at_j) in
      let lasts : last ≡ final = same_insn last final (sym at_last ∙ (ap (λ n. slice_get f.insns (place + n - 1)) same.counts ∙ at_final)) in
      let one = subst (λ n. WindowComes f place (place + n) i last (name_at (names_of forms) form) s a) same.counts x in
      let two = subst (λ (k : Insn). WindowComes f place (place + many) k last (name_at (names_of forms) form) s a) firsts one in
      let three = subst (λ (k : Insn). WindowComes f place (place + many) j k (name_at (names_of forms) form) s a) lasts two in
      let four = subst (λ n. WindowComes f place (place + many) j final (name_at (names_of forms) n) s a) same.forms_are three in
      let five = subst (λ (u : List Rtx). WindowComes f place (place + many) j final (name_at (names_of forms) other) u a) same.sequences four in
      one_comes f place (place + many) j final (name_at (names_of forms) other) t a b five y

  one_from : (f : Function) (place : ℕ) (a b : Answer) → CoverFrom forms f place a → CoverFrom forms f place b → a ≡ b
  one_from _ _ _ _ (CoverFrom.done f place end) (CoverFrom.done _ _ end') = refl
  one_from _ _ _ _ (CoverFrom.done f place end) (CoverFrom.stays _ _ b within left rest) = past f place within end
  one_from _ _ _ _ (CoverFrom.done f place end) (CoverFrom.refused _ _ count form j final t e at_j at_final is comes) = past f place (within_by f place count form t is) end
  one_from _ _ _ _ (CoverFrom.done f place end) (CoverFrom.goes _ h _ count form j final t b at_j at_final is comes rest) = past f place (within_by f place count form t is) end
  one_from _ _ _ _ (CoverFrom.stays f place a within left more) (CoverFrom.done _ _ end) = past f place within end
  one_from _ _ _ _ (CoverFrom.stays f place a within left more) (CoverFrom.stays _ _ b within' left' rest) = one_from f (place + 1) a b more rest
  one_from _ _ _ _ (CoverFrom.stays f place a within left more) (CoverFrom.refused _ _ count form j final t e at_j at_final is comes) = left_not f place count form t left is
  one_from _ _ _ _ (CoverFrom.stays f place a within left more) (CoverFrom.goes _ h _ count form j final t b at_j at_final is comes rest) = left_not f place count form t left is
  one_from _ _ _ _ (CoverFrom.refused f place count form i last s d at_i at_last is comes) (CoverFrom.done _ _ end) = past f place (within_by f place count form s is) end
  one_from _ _ _ _ (CoverFrom.refused f place count form i last s d at_i at_last is comes) (CoverFrom.stays _ _ b within left rest) = left_not f place count form s left is
  one_from _ _ _ _ (CoverFrom.refused f place count form i last s d at_i at_last is comes) (CoverFrom.refused _ _ many other j final t e at_j at_final is' comes') =
      same_comes f place count many form other i j last final s t (Err d) (Err e) at_i at_j at_last at_final (rewrite_one forms f place count many form other s t is is') comes comes'
  one_from _ _ _ _ (CoverFrom.refused f place count form i last s d at_i at_last is comes) (CoverFrom.goes _ h _ many other j final t b at_j at_final is' comes' rest) =
      ok_err h d (sym (same_comes f place count many form other i j last final s t (Err d) (Ok h) at_i at_j at_last at_final (rewrite_one forms f place count many form other s t is is') comes comes'))
  one_from _ _ _ _ (CoverFrom.goes f g place count form i last s a at_i at_last is comes more) (CoverFrom.done _ _ end) = past f place (within_by f place count form s is) end
  one_from _ _ _ _ (CoverFrom.goes f g place count form i last s a at_i at_last is comes more) (CoverFrom.stays _ _ b within left rest) = left_not f place count form s left is
  one_from _ _ _ _ (CoverFrom.goes f g place count form i last s a at_i at_last is comes more) (CoverFrom.refused _ _ many other j final t e at_j at_final is' comes') =
      ok_err g e (same_comes f place count many form other i j last final s t (Ok g) (Err e) at_i at_j at_last at_final (rewrite_one forms f place count many form other s t is is') comes comes')
  one_from _ _ _ _ (CoverFrom.goes f g place count form i last s a at_i at_last is comes more) (CoverFrom.goes _ h _ many other j final t b at_j at_final is' comes' rest) =
      let same = rewrite_one forms f place count many form other s t is is' in
      let functions : g ≡ h = same_ok g h (same_comes f place count many form other i j last final s t (Ok g) (Ok h) at_i at_j at_last at_final same comes comes') in
      let back : CoverFrom forms g (place + length s) b =
      subst (λ (k : Function). CoverFrom forms k (place + length s) b) (sym functions) (subst (λ (u : List Rtx). CoverFrom forms h (place + length u) b) (sym same.sequences) rest) in
      one_from g (place + length s) a b more back

pub cover_one : (forms : List Entry) (f : Function) (a b : Answer) → CoverComes forms f a → CoverComes forms f b → a ≡ b
cover_one forms f a b x y = one_from forms f 0 a b x y
