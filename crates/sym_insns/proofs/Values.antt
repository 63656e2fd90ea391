-- What is made of an expression, by its outside.
use Rattle.std.proofs.Common.{◌≡◌, ◌≤◌, ℕ, List, [], ◌∷◌, length, map, sym, ap, ◌∙◌, refl, arith}
use Rattle.std.specs.Prelude.{ℤ}
use Rattle.rtx_tree.specs.declared.code.Code.{Code}
use Rattle.rtx_tree.specs.declared.class.Class.{Class}
use Rattle.rtx_tree.specs.Code.{class_of_code}
use Rattle.rtx_tree.specs.declared.tree.Rtx.{Rtx, out-Rtx}
use Rattle.rtx_tree.specs.declared.tree.Rtx.TheFolds.{fold_out-Rtx}
use Rattle.bits64.specs.declared.Width.{Width}
use Rattle.rtl_step.specs.Value.{width_of}
use Rattle.term_mean.specs.Stores.{Store}
use Rattle.sym_state.specs.State.{Changed}
use Rattle.sym_insns.specs.Value.{Reading, made_by, made_of_parts, reading_step, reading_of, made_of}
use Rattle.sym_insns.specs.machine.Making.{reading_by_mode}

module _ (regs : List Changed) (stores : List Store) where
  reading_out : (x : Rtx) →
      reading_of regs stores x
      ≡ record {
        width = width_of (out-Rtx x).mode;
        made = made_by regs stores (class_of_code (out-Rtx x).code) (out-Rtx x).code (out-Rtx x).number
            (out-Rtx x).name (map (reading_of regs stores) (out-Rtx x).kids);
      }
  reading_out = fold_out-Rtx Reading (reading_step regs stores)

  made_in : (x : Rtx) (w : Width) →
      made_of regs stores x w
      ≡ made_by regs stores (class_of_code (out-Rtx x).code) (out-Rtx x).code (out-Rtx x).number
      (out-Rtx x).name
      (map (reading_of regs stores) (out-Rtx x).kids) w
  made_in x w = ap (λ (r : Reading). r.made w) (reading_out x)

  -- an expression as its outside reads it, by its own mode and what is made of it
  reading_is : (x : Rtx) → reading_of regs stores x ≡ reading_by_mode regs stores x
  reading_is x i =
      record { width = (reading_out x i).width; made = (reading_of regs stores x).made }

  -- what is made of an expression, each part as its outside is read
  pub made_read : (x : Rtx) (w : Width) →
      made_of regs stores x w
      ≡ made_by regs stores (class_of_code (out-Rtx x).code) (out-Rtx x).code (out-Rtx x).number
      (out-Rtx x).name
      (map (reading_by_mode regs stores) (out-Rtx x).kids) w
  made_read x w =
      made_in x w
      ∙ ap (λ (f : Rtx → Reading). made_by regs stores (class_of_code (out-Rtx x).code)
      (out-Rtx x).code (out-Rtx x).number (out-Rtx x).name (map f (out-Rtx x).kids) w)
      (λ i kid. reading_is kid i)

  more_parts : (class : Class) (code : Code) (number : ℤ) (name : List ℕ) (w : Width)
      (kids : List Rtx) → 2 ≤ length kids →
      made_of_parts stores class code (map (reading_by_mode regs stores) kids) w
      ≡ made_by regs stores class code number name (map (reading_by_mode regs stores) kids) w
  more_parts class code number name w [] more = absurd (omega (arith, more))
  more_parts class code number name w (a ∷ []) more = absurd (omega (arith, more))
  more_parts class code number name w (a ∷ b ∷ kids) more = refl

  -- what is made of an expression of two parts or more
  pub made_of_more : (x : Rtx) (w : Width) (kids : List Rtx) → kids ≡ (out-Rtx x).kids →
      2 ≤ length kids →
      made_of_parts stores (class_of_code (out-Rtx x).code) (out-Rtx x).code
      (map (reading_by_mode regs stores) kids) w
      ≡ made_of regs stores x w
  made_of_more x w kids are more =
      more_parts (class_of_code (out-Rtx x).code) (out-Rtx x).code (out-Rtx x).number
      (out-Rtx x).name w kids more
      ∙ ap (λ (ks : List Rtx). made_by regs stores (class_of_code (out-Rtx x).code) (out-Rtx x).code
      (out-Rtx x).number (out-Rtx x).name (map (reading_by_mode regs stores) ks) w) are
      ∙ sym (made_read x w)
