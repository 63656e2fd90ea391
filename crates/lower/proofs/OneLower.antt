-- What a function comes to is one answer.
use Rattle.std.proofs.Common.{◌≡◌, ℕ, ◌+◌, ◌≤◌, List, length, Some, None, Ok, Err, refl, sym, subst, ◌∙◌, arith}
use Rattle.std.specs.Prelude.{slice_get}
use Rattle.std.proofs.lemmas.Option.{slice_get_within}
use Rattle.rtx_tree.specs.declared.function.Insn.{Insn}
use Rattle.rtx_tree.specs.declared.function.Function.{Function}
use Rattle.rtl_chain.specs.Counts.{greatest_uid, next_pseudo}
use Rattle.md_forms.specs.declared.form.Entry.{Entry}
use Rattle.insn_replace.specs.Replace.{ReplacedComes}
use Rattle.insn_replace.proofs.OneReplaced.{one_replaced}
use Rattle.pass_refusal.specs.declared.refusal.PassRefusal.{PassRefusal}
use Rattle.lower_insn.specs.declared.part.Lowered.{Lowered}
use Rattle.lower_insn.specs.Lowered.{InsnAnswer}
use Rattle.lower_insn.proofs.One.{insn_one}
use Rattle.lower.specs.Lower.{Answer, LowersIn, LowerFrom, LowerComes, rule_of}

same_at : (insns : List Insn) (place : ℕ) (i j : Insn) → slice_get insns place ≡ Some i → slice_get insns place ≡ Some j → i ≡ j
same_at insns place i j at there = let both : Some i ≡ Some j = sym at ∙ there in let same : i ≡ j = cc in same

same_lowered : (l m : Lowered) → ◌≡◌ {A = InsnAnswer} (Ok (Some l)) (Ok (Some m)) → l ≡ m
same_lowered l m is = cc

same_refusal : (d e : PassRefusal) → ◌≡◌ {A = InsnAnswer} (Err d) (Err e) → ◌≡◌ {A = Answer} (Err d) (Err e)
same_refusal d e is = cc

same_function : (g h : Function) → ◌≡◌ {A = Answer} (Ok g) (Ok h) → g ≡ h
same_function g h is = cc

stays_or_refuses : {P : Type 0} (e : PassRefusal) → ◌≡◌ {A = InsnAnswer} (Ok None) (Err e) → P
stays_or_refuses e is = absurd (let never : ⊥ = cc in never)

stays_or_lowers : {P : Type 0} (l : Lowered) → ◌≡◌ {A = InsnAnswer} (Ok None) (Ok (Some l)) → P
stays_or_lowers l is = absurd (let never : ⊥ = cc in never)

refuses_or_lowers : {P : Type 0} (e : PassRefusal) (l : Lowered) → ◌≡◌ {A = InsnAnswer} (Err e) (Ok (Some l)) → P
refuses_or_lowers e l is = absurd (let never : ⊥ = cc in never)

apart : {P : Type 0} (e : PassRefusal) (g : Function) → ◌≡◌ {A = Answer} (Err e) (Ok g) → P
apart e g is = absurd (let never : ⊥ = cc in never)

-- no instruction stands behind the last
past : {P : Type 0} (insns : List Insn) (place : ℕ) (i : Insn) → length insns ≤ place → slice_get insns place ≡ Some i → P
past insns place i end at = absurd (let within = slice_get_within insns place i at in let never : ⊥ = omega (arith, end, within) in never)

module _ (forms : List Entry) (f : Function) (place : ℕ) (i j : Insn) (at : slice_get f.insns place ≡ Some i) (there : slice_get f.insns place ≡ Some j) where
  same_answer : (a b : InsnAnswer) → LowersIn forms f i a → LowersIn forms f j b → a ≡ b
  same_answer a b x y =
      insn_one forms j (greatest_uid f.insns) (next_pseudo f.insns) a b (subst (λ (k : Insn). LowersIn forms f k a) (same_at f.insns place i j at there) x) y

  same_comes : (l m : Lowered) (a b : Answer) → LowersIn forms f i (Ok (Some l)) → LowersIn forms f j (Ok (Some m)) →
      ReplacedComes f place i (rule_of forms l) l.sequence a → ReplacedComes f place j (rule_of forms m) m.sequence b → a ≡ b
  same_comes l m a b is will x y =
      let same : l ≡ m = same_lowered l m (same_answer (Ok (Some l)) (Ok (Some m)) is will) in
      let moved : ReplacedComes f place j (rule_of forms l) l.sequence a = subst (λ (k : Insn). ReplacedComes f place k (rule_of forms l) l.sequence a) (same_at f.insns place i j at there) x in
      one_replaced f place j (rule_of forms m) m.sequence a b (subst (λ (k : Lowered). ReplacedComes f place j (rule_of forms k) k.sequence a) same moved) y

module _ (forms : List Entry) where
  one_from : (f : Function) (place : ℕ) (a b : Answer) → LowerFrom forms f place a → LowerFrom forms f place b → a ≡ b
  one_from _ _ _ _ (LowerFrom.done f place end) (LowerFrom.done _ _ _) = refl
  one_from _ _ _ _ (LowerFrom.done f place end) (LowerFrom.stays _ _ j b there never rest) = past f.insns place j end there
  one_from _ _ _ _ (LowerFrom.done f place end) (LowerFrom.unmatched _ _ j e there never) = past f.insns place j end there
  one_from _ _ _ _ (LowerFrom.done f place end) (LowerFrom.differs _ _ j m e there never comes) = past f.insns place j end there
  one_from _ _ _ _ (LowerFrom.done f place end) (LowerFrom.replaced _ _ j m h b there never comes rest) = past f.insns place j end there
  one_from _ _ _ _ (LowerFrom.stays f place i a at is more) (LowerFrom.done _ _ end) = past f.insns place i end at
  one_from _ _ _ _ (LowerFrom.stays f place i a at is more) (LowerFrom.stays _ _ j b there will rest) = one_from f (place + 1) a b more rest
  one_from _ _ _ _ (LowerFrom.stays f place i a at is more) (LowerFrom.unmatched _ _ j e there will) = stays_or_refuses e (same_answer forms f place i j at there (Ok None) (Err e) is will)
  one_from _ _ _ _ (LowerFrom.stays f place i a at is more) (LowerFrom.differs _ _ j m e there will comes) = stays_or_lowers m (same_answer forms f place i j at there (Ok None) (Ok (Some m)) is will)
  one_from _ _ _ _ (LowerFrom.stays f place i a at is more) (LowerFrom.replaced _ _ j m h b there will comes rest) = stays_or_lowers m (same_answer forms f place i j at there (Ok None) (Ok (Some m)) is will)
  one_from _ _ _ _ (LowerFrom.unmatched f place i d at is) (LowerFrom.done _ _ end) = past f.insns place i end at
  one_from _ _ _ _ (LowerFrom.unmatched f place i d at is) (LowerFrom.stays _ _ j b there will rest) = stays_or_refuses d (same_answer forms f place j i there at (Ok None) (Err d) will is)
  one_from _ _ _ _ (LowerFrom.unmatched f place i d at is) (LowerFrom.unmatched _ _ j e there will) = same_refusal d e (same_answer forms f place i j at there (Err d) (Err e) is will)
  one_from _ _ _ _ (LowerFrom.unmatched f place i d at is) (LowerFrom.differs _ _ j m e there will comes) = refuses_or_lowers d m (same_answer forms f place i j at there (Err d) (Ok (Some m)) is will)
  one_from _ _ _ _ (LowerFrom.unmatched f place i d at is) (LowerFrom.replaced _ _ j m h b there will comes rest) = refuses_or_lowers d m (same_answer forms f place i j at there (Err d) (Ok (Some m)) is will)
  one_from _ _ _ _ (LowerFrom.differs f place i l d at is comes) (LowerFrom.done _ _ end) = past f.insns place i end at
  one_from _ _ _ _ (LowerFrom.differs f place i l d at is comes) (LowerFrom.stays _ _ j b there will rest) = stays_or_lowers l (same_answer forms f place j i there at (Ok None) (Ok (Some l)) will is)
  one_from _ _ _ _ (LowerFrom.differs f place i l d at is comes) (LowerFrom.unmatched _ _ j e there will) = refuses_or_lowers e l (same_answer forms f place j i there at (Err e) (Ok (Some l)) will is)
  one_from _ _ _ _ (LowerFrom.differs f place i l d at is comes) (LowerFrom.differs _ _ j m e there will comes') = same_comes forms f place i j at there l m (Err d) (Err e) is will comes comes'
  one_from _ _ _ _ (LowerFrom.differs f place i l d at is comes) (LowerFrom.replaced _ _ j m h b there will comes' rest) =
      apart d h (same_comes forms f place i j at there l m (Err d) (Ok h) is will comes comes')
  one_from _ _ _ _ (LowerFrom.replaced f place i l g a at is comes more) (LowerFrom.done _ _ end) = past f.insns place i end at
  one_from _ _ _ _ (LowerFrom.replaced f place i l g a at is comes more) (LowerFrom.stays _ _ j b there will rest) = stays_or_lowers l (same_answer forms f place j i there at (Ok None) (Ok (Some l)) will is)
  one_from _ _ _ _ (LowerFrom.replaced f place i l g a at is comes more) (LowerFrom.unmatched _ _ j e there will) = refuses_or_lowers e l (same_answer forms f place j i there at (Err e) (Ok (Some l)) will is)
  one_from _ _ _ _ (LowerFrom.replaced f place i l g a at is comes more) (LowerFrom.differs _ _ j m e there will comes') =
      apart e g (same_comes forms f place j i there at m l (Err e) (Ok g) will is comes' comes)
  one_from _ _ _ _ (LowerFrom.replaced f place i l g a at is comes more) (LowerFrom.replaced _ _ j m h b there will comes' rest) =
      let functions : g ≡ h = same_function g h (same_comes forms f place i j at there l m (Ok g) (Ok h) is will comes comes') in
      let lowereds : l ≡ m = same_lowered l m (same_answer forms f place i j at there (Ok (Some l)) (Ok (Some m)) is will) in
      let back : LowerFrom forms g (place + length l.sequence) b =
      subst (λ (k : Function). LowerFrom forms k (place + length l.sequence) b) (sym functions)
      (subst (λ (k : Lowered). LowerFrom forms h (place + length k.sequence) b) (sym lowereds) rest) in
      one_from g (place + length l.sequence) a b more back

pub lower_one : (forms : List Entry) (f : Function) (a b : Answer) → LowerComes forms f a → LowerComes forms f b → a ≡ b
lower_one forms f a b x y = one_from forms f 0 a b x y
