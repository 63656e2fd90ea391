-- What is made of an expression is the same by registers that hold the same, as far as it names them.
use Rattle.std.proofs.Common.{◌≡◌, ℕ, zero, suc, Bool, true, false, ◌&&◌, ◌||◌, List, [], ◌∷◌, map, Option, refl, sym, ap, subst, ◌∙◌}
use Rattle.std.specs.Prelude.{ℤ}
use Rattle.std.specs.Int.{cast_unsigned, w64}
use Rattle.std.specs.List.{list_all, list_any}
use Rattle.bits64.specs.declared.Width.{Width}
use Rattle.rtx_tree.specs.Code.{class_of_code}
use Rattle.rtx_tree.specs.Tree.{is_reg_numbered, mentions_step, mentions_reg}
use Rattle.rtx_tree.specs.declared.class.Class.{Class}
use Rattle.rtx_tree.specs.declared.class.Class.TheVariants as class
use Rattle.rtx_tree.specs.declared.code.Code.{Code}
use Rattle.rtx_tree.specs.declared.code.Code.TheVariants as code
use Rattle.rtx_tree.specs.declared.code.Mode.{Mode}
use Rattle.rtx_tree.specs.declared.tree.Rtx.{Rtx, roll-Rtx}
use Rattle.rtx_tree.specs.declared.tree.Rtx.TheFolds.{fold-roll-Rtx, ind-Rtx, map-Rtx}
use Rattle.rtx_tree.specs.declared.tree.Rtx.TheOpen.{Rtx-F}
use Rattle.rtl_step.specs.Value.{width_of}
use Rattle.term_tree.specs.Tree.{Tree}
use Rattle.term_mean.specs.Stores.{Store}
use Rattle.sym_insns.specs.Shape.{is_natural, natural_step, all_natural}
use Rattle.sym_insns.specs.Value.{Made, Reading, of_register, made_of_none, made_by, reading_step, reading_of, made_of}
use Rattle.sym_insns.specs.sym_state.State.{Changed}
use Rattle.sym_insns.specs.sym_state.Registers.{held, term_held, need_of}
use Rattle.law_window_replaced.proofs.Known.{both_of, or_first, or_later, numbered}
use Rattle.law_fresh_registers.specs.Fresh.{HoldTheSame, MadeTheSame}

register_code : (c : Code) → class_of_code c ≡ class.Register → c ≡ code.Reg
register_code code.Reg is = refl
register_code _ is = absurd (let no : ⊥ = cc in no)

module _ (regs other : List Changed) (stores : List Store) where
  -- ---- a register

  abbrev by_held : ℕ → Option (Option Tree) → Width → Made
  by_held q h w = record { term = term_held h (suc q) w; needs = need_of h (suc q) w }

  register_same : (reg : ℕ) → ((q : ℕ) → reg ≡ suc q → held regs (suc q) ≡ held other (suc q)) → of_register regs reg ≡ of_register other reg
  register_same zero same = refl
  register_same (suc q) same = ap (by_held q) (same q refl)

  -- ---- an expression, by its parts

  abbrev Own : Code → ℤ → Type 0
  Own c n = (q : ℕ) → is_reg_numbered c n (suc q) ≡ true → held regs (suc q) ≡ held other (suc q)

  none_same : (k : Class) (c : Code) (n : ℤ) (name : List ℕ) → class_of_code c ≡ k → is_natural c n ≡ true → Own c n → made_of_none regs k n name ≡ made_of_none other k n name
  none_same class.Register c n name is natural own =
      let here : c ≡ code.Reg = register_code c is in
      register_same (cast_unsigned w64 n) (λ q same. own q (ap (λ c. is_reg_numbered c n (suc q)) here ∙ numbered n (suc q) (ap (λ c. is_natural c n) (sym here) ∙ natural) same))
  none_same _ c n name is natural own = refl

  by_same : (c : Code) (n : ℤ) (name : List ℕ) (kids : List Reading) → is_natural c n ≡ true → Own c n → made_by regs stores (class_of_code c) c n name kids ≡ made_by other stores (class_of_code c) c n name kids
  by_same c n name [] natural own = none_same (class_of_code c) c n name refl natural own
  by_same c n name (a ∷ []) natural own = refl
  by_same c n name (a ∷ b ∷ kids) natural own = refl

  -- ---- each expression

  abbrev one : Rtx → Reading
  one = reading_of regs stores

  abbrev two : Rtx → Reading
  two = reading_of other stores

  abbrev P : Rtx → Type 0
  P x = all_natural x ≡ true → HoldTheSame regs other x → one x ≡ two x

  abbrev Kid : Type 0
  Kid = (x : Rtx) × P x

  abbrev tree : Kid → Rtx
  tree y = y.0

  abbrev reading : Mode → (Width → Made) → Reading
  reading m f = record { width = width_of m; made = f }

  kids_same : (ys : List Kid) → list_all (λ here. here) (map all_natural (map tree ys)) ≡ true →
      ((q : ℕ) → list_any (λ here. here) (map (mentions_reg (suc q)) (map tree ys)) ≡ true → held regs (suc q) ≡ held other (suc q)) → map one (map tree ys) ≡ map two (map tree ys)
  kids_same [] natural had = refl
  kids_same (y ∷ ys) natural had =
      let both = both_of (all_natural y.0) _ natural in
      ap (λ (r : Reading). r ∷ map one (map tree ys)) (y.1 both.0 (λ q is. had q (or_first (mentions_reg (suc q) y.0) _ is))) ∙
      ap (λ (rs : List Reading). two (tree y) ∷ rs) (kids_same ys both.1 (λ q is. had q (or_later (mentions_reg (suc q) y.0) _ is)))

  layer : (y : Rtx-F Kid) → P (roll-Rtx (map-Rtx Kid Rtx tree y))
  layer y natural had =
      let z : Rtx-F Rtx = map-Rtx Kid Rtx tree y in
      let numbers = both_of (is_natural z.code z.number) _ (sym (fold-roll-Rtx Bool natural_step z) ∙ natural) in
      fold-roll-Rtx Reading (reading_step regs stores) z ∙
      (ap (λ (ks : List Reading). reading z.mode (made_by regs stores (class_of_code z.code) z.code z.number z.name ks))
      (kids_same y.kids numbers.1 (λ q is. had q (fold-roll-Rtx Bool (mentions_step (suc q)) z ∙ or_later (is_reg_numbered z.code z.number (suc q)) _ is))) ∙
      (ap (reading z.mode)
      (by_same z.code z.number z.name (map two z.kids) numbers.0 (λ q is. had q (fold-roll-Rtx Bool (mentions_step (suc q)) z ∙ or_first (is_reg_numbered z.code z.number (suc q)) _ is))) ∙
      sym (fold-roll-Rtx Reading (reading_step other stores) z)))

  all_same : (x : Rtx) → P x
  all_same = ind-Rtx P (λ x y e. subst (λ (z : Rtx-F Rtx). P (roll-Rtx z)) e (layer y))

pub made_same : MadeTheSame
made_same regs other stores x w natural had = ap (λ (r : Reading). r.made w) (all_same regs other stores x natural had)
