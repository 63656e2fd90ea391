-- Trees and their parts: numbers of registers, and which registers stand in them.
use Rattle.std.proofs.lemmas.Bool.Decides.{nat_tests}
use Rattle.std.proofs.Common.{◌≡◌, ℕ, suc, ◌==◌, ◌&&◌, not, Bool, true, false, List, [], ◌∷◌, map, refl, sym, ◌∙◌, ap, arith}
use Rattle.std.specs.List.{list_all, list_any}
use Rattle.rtx_tree.specs.Tree.{kids_of, is_reg_numbered, mentions_reg}
use Rattle.rtx_tree.specs.declared.code.Code.{Code}
use Rattle.rtx_tree.specs.declared.tree.Rtx.{Rtx, out-Rtx}
use Rattle.rtx_tree.specs.declared.tree.Rtx.TheFolds.{fold_out-Rtx}
use Rattle.rtx_tree.proofs.Trees.{mentions_out}
use Rattle.reg_uses.specs.Effects.{is_register, reads}
use Rattle.sym_insns.specs.Shape.{is_natural, natural_step, all_natural}
use Rattle.law_window_replaced.proofs.Known.{both_of, or_later}

-- ---- numbers

all_of_map : {A : Type 0} (f : A → Bool) (xs : List A) → list_all (λ here. here) (map f xs) ≡ list_all f xs
all_of_map f [] = refl
all_of_map f (x ∷ xs) = ap (λ rest. f x && rest) (all_of_map f xs)

natural_out : (x : Rtx) → all_natural x ≡ (is_natural (out-Rtx x).code (out-Rtx x).number && list_all all_natural (kids_of x))
natural_out x = fold_out-Rtx Bool natural_step x ∙
    ap (λ rest. is_natural (out-Rtx x).code (out-Rtx x).number && rest) (all_of_map all_natural (kids_of x))

pub natural_here : (x : Rtx) → all_natural x ≡ true → is_natural (out-Rtx x).code (out-Rtx x).number ≡ true
natural_here x natural = (both_of (is_natural (out-Rtx x).code (out-Rtx x).number) _ (sym (natural_out x) ∙ natural)).0

pub natural_kids : (x : Rtx) → all_natural x ≡ true → list_all all_natural (kids_of x) ≡ true
natural_kids x natural = (both_of (is_natural (out-Rtx x).code (out-Rtx x).number) _ (sym (natural_out x) ∙ natural)).1

-- ---- registers

pub positive : (q : ℕ) → (suc q == 0) ≡ false
positive q = grind (arith, nat_tests)

-- a register other than zero that stands in a tree is read
pub reads_it : (q : ℕ) (x : Rtx) → mentions_reg (suc q) x ≡ true → reads (suc q) x ≡ true
reads_it q x is = ap (λ b. not b && mentions_reg (suc q) x) (positive q) ∙ is

pub mentions_kid : (x : Rtx) (q : ℕ) → list_any (mentions_reg q) (kids_of x) ≡ true → mentions_reg q x ≡ true
mentions_kid x q is = mentions_out q x ∙ or_later (is_reg_numbered (out-Rtx x).code (out-Rtx x).number q) _ is

pub is_it : (q : ℕ) (code : Code) (x : Rtx) → (out-Rtx x).code ≡ code → is_register (suc q) x ≡ true →
    is_reg_numbered code (out-Rtx x).number (suc q) ≡ true
is_it q code x is same = ap (λ c. is_reg_numbered c (out-Rtx x).number (suc q)) (sym is) ∙
    (both_of (not (suc q == 0)) (is_reg_numbered (out-Rtx x).code (out-Rtx x).number (suc q)) same).1
