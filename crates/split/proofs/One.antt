-- What a function comes to is one answer.
use Rattle.std.proofs.Common.{◌≡◌, ℕ, ◌+◌, ◌≤◌, ◌<◌, List, ◌++◌, length, Some, Ok, Err, refl, sym, subst, ◌∙◌, arith}
use Rattle.std.specs.Prelude.{replicate, slice_get}
use Rattle.rtx_tree.specs.declared.tree.Rtx.{Rtx}
use Rattle.rtx_tree.specs.declared.function.Insn.{Insn}
use Rattle.rtx_tree.specs.declared.function.Function.{Function}
use Rattle.rtl_chain.specs.Counts.{next_pseudo}
use Rattle.md_forms.specs.declared.form.Entry.{Entry}
use Rattle.md_forms.specs.Forms.{names_of}
use Rattle.form_needs.specs.Needs.{name_at}
use Rattle.law_insn_replaced.specs.insn_replace.Replace.{ReplacedComes}
use Rattle.law_insn_replaced.proofs.insn_replace.OneReplaced.{one_replaced}
use Rattle.law_insn_replaced.specs.pass_refusal.declared.refusal.PassRefusal.{PassRefusal}
use Rattle.pass_name.specs.declared.pass.Pass.{Pass}
use Rattle.split.specs.Split.{Answer, IsSplit, IsUnsplit, SplitFrom, SplitComes}
use Rattle.rtx_tree.specs.Limit.{most_splits}
use Rattle.split.proofs.Forms.{split_one, split_not}

pub same_at : (insns : List Insn) (place : ℕ) (i j : Insn) → slice_get insns place ≡ Some i → slice_get insns place ≡ Some j → i ≡ j
same_at insns place i j at there = let both : Some i ≡ Some j = sym at ∙ there in let same : i ≡ j = cc in same

not_both : {P : Type 0} (depth : ℕ) → depth < most_splits → most_splits ≤ depth → P
not_both depth shallow deep = absurd (let never : ⊥ = omega (arith, shallow, deep) in never)

module _ (forms : List Entry) (pass : Pass) (f : Function) (place : ℕ) (i j : Insn) (at : slice_get f.insns place ≡ Some i) (there : slice_get f.insns place ≡ Some j) where
  -- it is split, or it is not
  clash : {P : Type 0} (form : ℕ) (s : List Rtx) → IsUnsplit forms pass (next_pseudo f.insns) i → IsSplit forms pass (next_pseudo f.insns) j form s → P
  clash form s none is = split_not forms pass (next_pseudo f.insns) j form s is (subst (IsUnsplit forms pass (next_pseudo f.insns)) (same_at f.insns place i j at there) none)

  same_split : (form other : ℕ) (s t : List Rtx) → IsSplit forms pass (next_pseudo f.insns) i form s → IsSplit forms pass (next_pseudo f.insns) j other t → (form ≡ other) × (s ≡ t)
  same_split form other s t is will =
      split_one forms pass (next_pseudo f.insns) j form other s t (subst (λ (k : Insn). IsSplit forms pass (next_pseudo f.insns) k form s) (same_at f.insns place i j at there) is) will

  same_comes : (form other : ℕ) (s t : List Rtx) (a b : Answer) → IsSplit forms pass (next_pseudo f.insns) i form s → IsSplit forms pass (next_pseudo f.insns) j other t →
      ReplacedComes f place i (name_at (names_of forms) form) s a → ReplacedComes f place j (name_at (names_of forms) other) t b → a ≡ b
  same_comes form other s t a b is will x y =
      let same = same_split form other s t is will in
      let moved : ReplacedComes f place j (name_at (names_of forms) form) s a = subst (λ (k : Insn). ReplacedComes f place k (name_at (names_of forms) form) s a) (same_at f.insns place i j at there) x in
      let named : ReplacedComes f place j (name_at (names_of forms) other) s a = subst (λ (k : ℕ). ReplacedComes f place j (name_at (names_of forms) k) s a) same.0 moved in
      one_replaced f place j (name_at (names_of forms) other) t a b (subst (λ (u : List Rtx). ReplacedComes f place j (name_at (names_of forms) other) u a) same.1 named) y

apart : {P : Type 0} (e : PassRefusal) (g : Function) → ◌≡◌ {A = Answer} (Err e) (Ok g) → P
apart e g is = absurd (let never : ⊥ = cc in never)

same_function : (g h : Function) → ◌≡◌ {A = Answer} (Ok g) (Ok h) → g ≡ h
same_function g h is = cc

module _ (forms : List Entry) (pass : Pass) where
  pub one_from : (depths : List ℕ) (f : Function) (place : ℕ) (a b : Answer) → SplitFrom forms pass depths f place a → SplitFrom forms pass depths f place b → a ≡ b
  one_from _ _ _ _ _ (SplitFrom.done f place) (SplitFrom.done _ _) = refl
  one_from _ _ _ _ _ (SplitFrom.stays depth depths f place i a at none more) (SplitFrom.stays _ _ _ _ j b there never rest) = one_from depths f (place + 1) a b more rest
  one_from _ _ _ _ _ (SplitFrom.stays depth depths f place i a at none more) (SplitFrom.deep _ _ _ _ j form s there is deep) = clash forms pass f place i j at there form s none is
  one_from _ _ _ _ _ (SplitFrom.stays depth depths f place i a at none more) (SplitFrom.refused _ _ _ _ j form s e there is shallow comes) = clash forms pass f place i j at there form s none is
  one_from _ _ _ _ _ (SplitFrom.stays depth depths f place i a at none more) (SplitFrom.split _ _ _ h _ j form s b there is shallow comes rest) = clash forms pass f place i j at there form s none is
  one_from _ _ _ _ _ (SplitFrom.deep depth depths f place i form s at is deep) (SplitFrom.stays _ _ _ _ j b there none rest) = clash forms pass f place j i there at form s none is
  one_from _ _ _ _ _ (SplitFrom.deep depth depths f place i form s at is deep) (SplitFrom.deep _ _ _ _ j other t there will deeper) = refl
  one_from _ _ _ _ _ (SplitFrom.deep depth depths f place i form s at is deep) (SplitFrom.refused _ _ _ _ j other t e there will shallow comes) = not_both depth shallow deep
  one_from _ _ _ _ _ (SplitFrom.deep depth depths f place i form s at is deep) (SplitFrom.split _ _ _ h _ j other t b there will shallow comes rest) = not_both depth shallow deep
  one_from _ _ _ _ _ (SplitFrom.refused depth depths f place i form s e at is shallow comes) (SplitFrom.stays _ _ _ _ j b there none rest) = clash forms pass f place j i there at form s none is
  one_from _ _ _ _ _ (SplitFrom.refused depth depths f place i form s e at is shallow comes) (SplitFrom.deep _ _ _ _ j other t there will deep) = not_both depth shallow deep
  one_from _ _ _ _ _ (SplitFrom.refused depth depths f place i form s e at is shallow comes) (SplitFrom.refused _ _ _ _ j other t d there will shallow' comes') =
      same_comes forms pass f place i j at there form other s t (Err e) (Err d) is will comes comes'
  one_from _ _ _ _ _ (SplitFrom.refused depth depths f place i form s e at is shallow comes) (SplitFrom.split _ _ _ h _ j other t b there will shallow' comes' rest) =
      apart e h (same_comes forms pass f place i j at there form other s t (Err e) (Ok h) is will comes comes')
  one_from _ _ _ _ _ (SplitFrom.split depth depths f g place i form s a at is shallow comes more) (SplitFrom.stays _ _ _ _ j b there none rest) = clash forms pass f place j i there at form s none is
  one_from _ _ _ _ _ (SplitFrom.split depth depths f g place i form s a at is shallow comes more) (SplitFrom.deep _ _ _ _ j other t there will deep) = not_both depth shallow deep
  one_from _ _ _ _ _ (SplitFrom.split depth depths f g place i form s a at is shallow comes more) (SplitFrom.refused _ _ _ _ j other t e there will shallow' comes') =
      apart e g (same_comes forms pass f place j i there at other form t s (Err e) (Ok g) will is comes' comes)
  one_from _ _ _ _ _ (SplitFrom.split depth depths f g place i form s a at is shallow comes more) (SplitFrom.split _ _ _ h _ j other t b there will shallow' comes' rest) =
      let functions : g ≡ h = same_function g h (same_comes forms pass f place i j at there form other s t (Ok g) (Ok h) is will comes comes') in
      let sequences : s ≡ t = (same_split forms pass f place i j at there form other s t is will).1 in
      let moved : SplitFrom forms pass (replicate (length t) (depth + 1) ++ depths) h place b = rest in
      let back : SplitFrom forms pass (replicate (length s) (depth + 1) ++ depths) g place b =
      subst (λ (k : Function). SplitFrom forms pass (replicate (length s) (depth + 1) ++ depths) k place b) (sym functions)
      (subst (λ (u : List Rtx). SplitFrom forms pass (replicate (length u) (depth + 1) ++ depths) h place b) (sym sequences) moved) in
      one_from (replicate (length s) (depth + 1) ++ depths) g place a b more back

  pub one_split : (f : Function) (a b : Answer) → SplitComes forms pass f a → SplitComes forms pass f b → a ≡ b
  one_split f a b x y = one_from (replicate (length f.insns) 0) f 0 a b x y
