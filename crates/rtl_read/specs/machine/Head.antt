-- For the contracts of private functions alone: heads by the codes that they name.
use Rattle.std.specs.Prelude.{ℕ, Bool, true, false, ◌&&◌, is_none, List, Option, Some, None}
use Rattle.rtx_tree.specs.declared.code.Code.{Code}
use Rattle.lisp_read.specs.declared.tree.Tree.{Tree}
use Rattle.rtx_tree.specs.Code.{class_of_code, is_effect_class, code_in}
use Rattle.lisp_read.specs.Head.{cut, are_flags}
use Rattle.rtl_read.specs.Word.{named_code}
use Rattle.rtl_read.specs.Call.{is_class_parallel}

abbrev pub is_pattern_code : Option Code → Bool
is_pattern_code None = false
is_pattern_code (Some c) = is_effect_class (class_of_code c)

abbrev pub names_pattern : Tree → Bool
names_pattern t = is_pattern_code (named_code t)

-- a `parallel` with no mode, and with flags that pass

abbrev pub flags_pass : Option (List ℕ) → Bool
flags_pass None = true
flags_pass (Some flags) = are_flags true flags

abbrev pub is_parallel_code : Option Code → Bool
is_parallel_code None = false
is_parallel_code (Some c) = is_class_parallel (class_of_code c)

abbrev pub is_parallel_head : List ℕ → Bool
is_parallel_head text =
    let parts = cut 58 text in let words = cut 47 parts.0 in is_parallel_code (code_in words.0) &&
    (is_none parts.1 && flags_pass words.1)

abbrev pub is_parallel_text : Option (List ℕ) → Bool
is_parallel_text None = false
is_parallel_text (Some text) = is_parallel_head text
