-- What the description of a name comes to, by what its files come to.
use Rattle.std.proofs.Common.{◌≡◌, ℕ, List, Result, Ok, Err, refl, sym, ap, subst}
use Rattle.rtx_tree.specs.declared.limit.Limit.{Limit}
use Rattle.rtx_tree.specs.declared.limit.Limit.TheVariants as limit
use Rattle.lisp_read.specs.declared.tree.Tree.{Tree}
use Rattle.md_source.specs.declared.refusal.SourceRefusal.{SourceRefusal}
use Rattle.md_source.specs.declared.refusal.SourceRefusal.TheVariants as source_refusal
use Rattle.md_source.specs.Source.{Source, DescriptionComes}
use Rattle.md_source.specs.Asked.{IsKnown}
use Rattle.md_source.specs.Answers.{Refuses}
use Rattle.md_source.proofs.One.{one_description, ok_is, err_is, ok_no_err}
use Rattle.md_forms.specs.declared.form.Entry.{Entry}
use Rattle.tree_forms.specs.Trees.{forms_of}
use Rattle.tree_forms.proofs.TooMany.{many_or_few}
use Rattle.run_refusal.specs.declared.refusal.Refusal.{Refusal}
use Rattle.run_refusal.specs.declared.refusal.Refusal.TheVariants as refusal
use Rattle.md_named.specs.Named.{source_refused, FormsCome}
use Rattle.md_named.specs.Answers.{RefusesForms, Gives}
use Rattle.md_named.specs.machine.Steps.{DescribesRun}

-- the trees of a description were described
pub of_trees : (source : Source) (name : List ℕ) (trees : List Tree) (r : Result (List Entry) Refusal) → DescriptionComes source name (Ok trees) → DescribesRun trees r → Gives r (FormsCome source name)
of_trees source name trees (Ok d) come is = subst (λ (t : List Entry). FormsCome source name (Ok t)) (sym is.0) (FormsCome.described trees come is.1)
of_trees source name trees (Err refusal.Memory) come free = tt
of_trees source name trees (Err (refusal.Limit which count)) come is =
    subst (λ (w : Limit). FormsCome source name (Err (refusal.Limit w count))) (sym is.0) (subst (λ (n : ℕ). FormsCome source name (Err (refusal.Limit limit.Forms n))) (sym is.1) (FormsCome.too_many trees come is.2))
of_trees source name trees (Err refusal.Usage) come none = absurd none
of_trees source name trees (Err refusal.ReadFault) come none = absurd none
of_trees source name trees (Err refusal.WriteFault) come none = absurd none
of_trees source name trees (Err (refusal.Syntax file place)) come none = absurd none
of_trees source name trees (Err (refusal.Construct place what)) come none = absurd none
of_trees source name trees (Err (refusal.IllFormed function uid rule)) come none = absurd none
of_trees source name trees (Err (refusal.Unmatched function uid stage insn)) come none = absurd none
of_trees source name trees (Err (refusal.Unsatisfied function uid form insn)) come none = absurd none
of_trees source name trees (Err (refusal.NotEquated function uid rule item left right)) come none = absurd none

-- its files were refused
pub of_refusal : (source : Source) (name : List ℕ) (e : SourceRefusal) (r : Refusal) → r ≡ source_refused e → Refuses e (DescriptionComes source name) → Gives (Err r) (FormsCome source name)
of_refusal source name e r is come = subst (λ (r : Refusal). RefusesForms r (FormsCome source name)) (sym is) (go e come)
  where
    go : (e : SourceRefusal) → Refuses e (DescriptionComes source name) → RefusesForms (source_refused e) (FormsCome source name)
    go source_refusal.ReadFault come = tt
    go source_refusal.Memory come = tt
    go source_refusal.Depth come = FormsCome.refused source_refusal.Depth come
    go source_refusal.Text come = FormsCome.refused source_refusal.Text come
    go source_refusal.Include come = FormsCome.refused source_refusal.Include come
    go (source_refusal.Syntax file place) come = FormsCome.refused (source_refusal.Syntax file place) come

-- trees that were described are no fault of the files
pub no_fault : (trees : List Tree) (r : Result (List Entry) Refusal) → DescribesRun trees r → r ≡ Err refusal.ReadFault → ⊥
no_fault trees r is same = subst (λ (x : Result (List Entry) Refusal). DescribesRun trees x) same is

-- a fault is told where the files failed
pub is_fault : (e : SourceRefusal) (r : Refusal) → r ≡ source_refused e → ◌≡◌ {A = Result (List Entry) Refusal} (Err r) (Err refusal.ReadFault) → e ≡ source_refusal.ReadFault
is_fault source_refusal.ReadFault r is same = refl
is_fault source_refusal.Memory r is same = cc
is_fault source_refusal.Depth r is same = cc
is_fault source_refusal.Text r is same = cc
is_fault source_refusal.Include r is same = cc
is_fault (source_refusal.Syntax file place) r is same = cc

-- ---- one answer

pub one_answer : (source : Source) (name : List ℕ) (a b : Result (List Entry) Refusal) → IsKnown source name → FormsCome source name a → FormsCome source name b → a ≡ b
one_answer source name _ _ known (FormsCome.refused e p) (FormsCome.refused f q) = ap (λ (r : SourceRefusal). Err (source_refused r)) (err_is e f (one_description source name (Err e) (Err f) known p q))
one_answer source name _ _ known (FormsCome.refused e p) (FormsCome.too_many us q many) = absurd (ok_no_err us e (one_description source name (Ok us) (Err e) known q p))
one_answer source name _ _ known (FormsCome.refused e p) (FormsCome.described us q few) = absurd (ok_no_err us e (one_description source name (Ok us) (Err e) known q p))
one_answer source name _ _ known (FormsCome.too_many ts p many) (FormsCome.refused f q) = absurd (ok_no_err ts f (one_description source name (Ok ts) (Err f) known p q))
one_answer source name _ _ known (FormsCome.too_many ts p many) (FormsCome.too_many us q more) = refl
one_answer source name _ _ known (FormsCome.too_many ts p many) (FormsCome.described us q few) = absurd (many_or_few ts us (ok_is ts us (one_description source name (Ok ts) (Ok us) known p q)) many few)
one_answer source name _ _ known (FormsCome.described ts p few) (FormsCome.refused f q) = absurd (ok_no_err ts f (one_description source name (Ok ts) (Err f) known p q))
one_answer source name _ _ known (FormsCome.described ts p few) (FormsCome.too_many us q many) = absurd (many_or_few us ts (ok_is us ts (one_description source name (Ok us) (Ok ts) known q p)) many few)
one_answer source name _ _ known (FormsCome.described ts p few) (FormsCome.described us q less) = ap (λ (l : List Tree). Ok (forms_of l)) (ok_is ts us (one_description source name (Ok ts) (Ok us) known p q))
