-- What the passes make of a function leads to lines with its behaviour: GCC Internals, "Passes
-- and Files of the Compiler".
use Rattle.std.specs.Prelude.{◌≡◌, ◌≤◌, List}
use Rattle.rtx_tree.specs.Limit.{most_frame}
use Rattle.rtx_tree.specs.declared.constants.Constant.{Constant}
use Rattle.rtx_tree.specs.declared.function.Function.{Function}
use Rattle.rv_text.specs.declared.line.CodeItem.{CodeItem}
use Rattle.md_iter.specs.declared.substitution.Instance.{Instance}
use Rattle.md_forms.specs.declared.form.Entry.{Entry}
use Rattle.md_forms.specs.Forms.{forms_of}
use Rattle.same_behaviour.specs.Same.{Same}
use Rattle.law_window_lines.specs.Left.{SameWhereLeft}
use Rattle.law_peepholes.specs.law_lines_ready.law_output.Ready.{AreWritable}
use Rattle.func_after.specs.declared.compilation.Compilation.{Compilation}

-- the forms are those of a description
abbrev pub IsDescribed : List Entry → Type 0
IsDescribed forms =
    (constants : List Constant) × (instances : List Instance) ×
    (forms ≡ forms_of constants instances)

-- Lines can stand for what was made; its frame holds the locals, and is no larger than a frame may
-- be; and lines that do what it does, where it leaves all as it found it, have the behaviour of the
-- function.
pub record LeadsToLines (f : Function) (m : Compilation) : Type 0 where
  pub writable : AreWritable m.function
  pub holds : f.locals ≤ m.layout.size
  pub small : m.layout.size ≤ most_frame
  pub same : (items : List CodeItem) → SameWhereLeft m.function items → Same m.layout.size f items
