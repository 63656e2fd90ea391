-- The head of an expression is read back from its text.
use Rattle.std.proofs.Common.{◌≡◌, Some, refl}
use Rattle.rtx_tree.specs.declared.code.Code.{Code}
use Rattle.rtx_tree.specs.declared.code.Code.TheVariants as code
use Rattle.rtx_tree.specs.declared.code.Mode.{Mode}
use Rattle.rtx_tree.specs.declared.code.Mode.TheVariants as mode
use Rattle.lisp_read.specs.declared.head.Opening.{Opening}
use Rattle.lisp_read.specs.Head.{head_in}
use Rattle.rtl_print.specs.Print.{head_text}
use Rattle.rtx_tree.specs.Code.{code_named, mode_named}

abbrev pub head_with : Code → Mode → Opening
head_with c m = record { code = c; mode = m }

by_mode : (m : Mode) (c : Code) → head_in (head_text c m) ≡ Some (head_with c m)
unfolding code_named mode_named
by_mode mode.Void code.Reg = refl
by_mode mode.QI code.Reg = refl
by_mode mode.HI code.Reg = refl
by_mode mode.SI code.Reg = refl
by_mode mode.DI code.Reg = refl
by_mode _ _ = refl

pub head_again : (c : Code) (m : Mode) → head_in (head_text c m) ≡ Some (head_with c m)
head_again c m = by_mode m c
