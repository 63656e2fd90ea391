-- What a tree is read as, by its heads.
use Rattle.std.specs.Prelude.{List}
use Rattle.c_cond.specs.c_words.declared.head.CondHead.{CondHead}
use Rattle.c_cond.specs.declared.tree.Tree.{Tree}
use Rattle.c_cond.specs.declared.tree.Tree.TheOpen.{Tree-F}
use Rattle.c_cond.specs.declared.tree.Tree.TheFolds.{fold-Tree}
use Rattle.c_eval.specs.declared.reading.Reading.{Reading}

abbrev pub fold_step : (CondHead → List Reading → Reading) → Tree-F Reading → Reading
fold_step read x = read x.head x.parts

-- what a tree is read as, where a head is read with what its parts are read as
abbrev pub fold_by : (CondHead → List Reading → Reading) → Tree → Reading
fold_by read = fold-Tree Reading (fold_step read)
