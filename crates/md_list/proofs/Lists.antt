-- What the list of a description comes to, by what its files come to.
use Rattle.std.proofs.Common.{◌≡◌, ℕ, List, Result, Ok, Err, Vec, refl, sym, ap, subst}
use Rattle.std.specs.declared.alloc.Global.{Global}
use Rattle.lisp_read.specs.declared.tree.Tree.{Tree}
use Rattle.md_source.specs.declared.refusal.SourceRefusal.{SourceRefusal}
use Rattle.md_source.specs.declared.refusal.SourceRefusal.TheVariants as source_refusal
use Rattle.md_source.specs.Source.{Source, DescriptionComes}
use Rattle.md_source.specs.Asked.{IsKnown}
use Rattle.md_source.specs.Answers.{Refuses}
use Rattle.md_source.proofs.One.{one_description, ok_is, err_is, ok_no_err}
use Rattle.tree_forms.proofs.TooMany.{many_or_few}
use Rattle.md_list.specs.declared.refusal.ListRefusal.{ListRefusal}
use Rattle.md_list.specs.declared.refusal.ListRefusal.TheVariants as refusal
use Rattle.md_list.specs.Listing.{ListComes, list_of_trees}
use Rattle.md_list.specs.Answers.{Gives}
use Rattle.md_list.specs.machine.Steps.{GivesTrees}

-- the trees of a description were listed
pub of_trees : (source : Source) (name : List ℕ) (trees : List Tree) (r : Result (Vec ℕ Global) ListRefusal) → DescriptionComes source name (Ok trees) → GivesTrees trees r → Gives (ListComes source name) r
of_trees source name trees (Ok text) come listed = subst (λ (t : List ℕ). ListComes source name (Ok t)) (sym listed.0) (ListComes.listed trees come listed.1)
of_trees source name trees (Err refusal.Forms) come many = ListComes.too_many trees come many
of_trees source name trees (Err refusal.Memory) come free = tt
of_trees source name trees (Err (refusal.Source e)) come none = absurd none

-- its files were refused
pub of_refusal : (source : Source) (name : List ℕ) (e : SourceRefusal) → Refuses e (DescriptionComes source name) → Gives (ListComes source name) (Err (refusal.Source e))
of_refusal source name source_refusal.ReadFault come = tt
of_refusal source name source_refusal.Memory come = tt
of_refusal source name source_refusal.Depth come = ListComes.refused source_refusal.Depth come
of_refusal source name source_refusal.Text come = ListComes.refused source_refusal.Text come
of_refusal source name source_refusal.Include come = ListComes.refused source_refusal.Include come
of_refusal source name (source_refusal.Syntax file place) come = ListComes.refused (source_refusal.Syntax file place) come

-- trees that were listed are no refusal of files
pub no_fault : (trees : List Tree) (r : Result (Vec ℕ Global) ListRefusal) (e : SourceRefusal) → GivesTrees trees r → r ≡ Err (refusal.Source e) → ⊥
no_fault trees r e listed is = subst (λ (x : Result (Vec ℕ Global) ListRefusal). GivesTrees trees x) is listed

-- ---- one answer

pub one_list : (source : Source) (name : List ℕ) (a b : Result (List ℕ) ListRefusal) → IsKnown source name → ListComes source name a → ListComes source name b → a ≡ b
one_list source name _ _ known (ListComes.refused e p) (ListComes.refused f q) =
    ap (λ (r : SourceRefusal). Err (refusal.Source r)) (err_is e f (one_description source name (Err e) (Err f) known p q))
one_list source name _ _ known (ListComes.refused e p) (ListComes.too_many us q many) = absurd (ok_no_err us e (one_description source name (Ok us) (Err e) known q p))
one_list source name _ _ known (ListComes.refused e p) (ListComes.listed us q few) = absurd (ok_no_err us e (one_description source name (Ok us) (Err e) known q p))
one_list source name _ _ known (ListComes.too_many ts p many) (ListComes.refused f q) = absurd (ok_no_err ts f (one_description source name (Ok ts) (Err f) known p q))
one_list source name _ _ known (ListComes.too_many ts p many) (ListComes.too_many us q more) = refl
one_list source name _ _ known (ListComes.too_many ts p many) (ListComes.listed us q few) = absurd (many_or_few ts us (ok_is ts us (one_description source name (Ok ts) (Ok us) known p q)) many few)
one_list source name _ _ known (ListComes.listed ts p few) (ListComes.refused f q) = absurd (ok_no_err ts f (one_description source name (Ok ts) (Err f) known p q))
one_list source name _ _ known (ListComes.listed ts p few) (ListComes.too_many us q many) = absurd (many_or_few us ts (ok_is us ts (one_description source name (Ok us) (Ok ts) known q p)) many few)
one_list source name _ _ known (ListComes.listed ts p few) (ListComes.listed us q less) = ap (λ (l : List Tree). Ok (list_of_trees l)) (ok_is ts us (one_description source name (Ok ts) (Ok us) known p q))
