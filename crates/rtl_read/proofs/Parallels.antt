-- A tree begins as a `parallel` does where the atom at its head is that of one.
use Rattle.std.proofs.Common.{◌≡◌, ℕ, true, false, Bool, ◌&&◌, is_none, List, [], ◌∷◌, Option, Some, None, refl, ap, ◌∙◌, arith}
use Rattle.std.specs.Prelude.{if◌then◌else◌, option_map, option_and_then, cond}
use Rattle.std.specs.Str.{bytes_eq}
use Rattle.rtx_tree.specs.Code.{mode_name}
use Rattle.rtx_tree.specs.declared.code.Code.{Code}
use Rattle.rtx_tree.specs.declared.code.Code.TheVariants.{Parallel}
use Rattle.rtx_tree.specs.declared.code.Mode.{Mode}
use Rattle.rtx_tree.specs.declared.code.Mode.TheVariants.{QI, HI, SI, DI}
use Rattle.lisp_read.specs.declared.tree.Tree.{Tree}
use Rattle.lisp_read.specs.declared.head.Opening.{Opening}
use Rattle.lisp_read.specs.declared.position.Position.TheVariants.{Pattern}
use Rattle.lisp_read.specs.Shape.{atom_of, items_of}
use Rattle.rtx_tree.specs.Code.{class_of_code}
use Rattle.lisp_read.specs.Positions.{unwanted, admits, mode_at}
use Rattle.lisp_read.specs.Head as head
use Rattle.rtx_tree.specs.Code as code
use Rattle.lisp_read.specs.Expression.{head_is, placed, head_of_items}
use Rattle.rtl_read.specs.Word.{head_of_list}
use Rattle.rtl_read.specs.Call.{is_class_parallel, is_parallel}
use Rattle.rtl_read.specs.machine.Head.{flags_pass, is_parallel_code, is_parallel_text}

abbrev with_mode : Code → Mode → Opening
with_mode c m = record { code = c; mode = m }

-- no name is that of no mode
unwanted_named : (name : List ℕ) → option_and_then unwanted (code.mode_named name) ≡ None
unfolding code.mode_named
unwanted_named name = by (bytes_eq (mode_name QI) name) (bytes_eq (mode_name HI) name) (bytes_eq (mode_name SI) name) (bytes_eq (mode_name DI) name)
  where
    by : (a b c d : Bool) → option_and_then unwanted (cond a (Some QI) (cond b (Some HI) (cond c (Some SI) (cond d (Some DI) None)))) ≡ None
    by true b c d = refl
    by false true c d = refl
    by false false true d = refl
    by false false false true = refl
    by false false false false = refl

-- the head with a mode of no other code is that of a `parallel`
other : (c : Code) (m : Option Mode) (b : Bool) → is_class_parallel (class_of_code c) ≡ false →
    head_is is_class_parallel (option_and_then (placed Pattern) (option_and_then (head.head_with m) (if b then Some c else None))) ≡ false
other c m false e = refl
other c None true e = refl
other c (Some m) true e = placed_by (admits Pattern (class_of_code c)) (mode_at Pattern (class_of_code c) m)
  where
    placed_by : (a : Bool) (o : Option Mode) → head_is is_class_parallel (if a then option_map (with_mode c) o else None) ≡ false
    placed_by false o = refl
    placed_by true None = refl
    placed_by true (Some m) = e

moded : (o : Option Mode) → option_and_then unwanted o ≡ None → head_is is_class_parallel (option_and_then (placed Pattern) (option_map (with_mode Parallel) o)) ≡ false
moded None e = refl
moded (Some m) e = rw e refl

flagged_by : (b : Bool) (mode : Option (List ℕ)) →
    head_is is_class_parallel (option_and_then (placed Pattern) (option_and_then (head.head_with (head.mode_in mode)) (if b then Some Parallel else None))) ≡ (is_none mode && b)
flagged_by false None = refl
flagged_by false (Some name) = refl
flagged_by true None = refl
flagged_by true (Some name) = moded (code.mode_named name) (unwanted_named name)

flags_same : (flags : Option (List ℕ)) → head.flags_pass Parallel flags ≡ flags_pass flags
flags_same None = refl
flags_same (Some flags) = by (head.are_flags true flags)
  where
    by : (b : Bool) → (b && true) ≡ b
    by true = refl
    by false = refl

parallel_is : (c : Code) → is_class_parallel (class_of_code c) ≡ true → c ≡ Parallel
parallel_is Parallel e = refl
parallel_is _ e = absurd (grind arith)

by_code : (b : Bool) (c : Code) (mode flags : Option (List ℕ)) → is_class_parallel (class_of_code c) ≡ b →
    head_is is_class_parallel (option_and_then (placed Pattern) (option_and_then (head.head_with (head.mode_in mode)) (head.flagged flags c))) ≡ (b && (is_none mode && flags_pass flags))
by_code false c mode flags e = other c (head.mode_in mode) (head.flags_pass c flags) e
by_code true c mode flags e =
    let is : c ≡ Parallel = parallel_is c e in
    ap (λ (k : Code). head_is is_class_parallel (option_and_then (placed Pattern) (option_and_then (head.head_with (head.mode_in mode)) (head.flagged flags k)))) is
    ∙ (flagged_by (head.flags_pass Parallel flags) mode ∙ ap (λ (b : Bool). is_none mode && b) (flags_same flags))

by_name : (c : Option Code) (mode flags : Option (List ℕ)) →
    head_is is_class_parallel (option_and_then (placed Pattern) (option_and_then (head.head_with (head.mode_in mode)) (option_and_then (head.flagged flags) c))) ≡ (is_parallel_code c && (is_none mode && flags_pass flags))
by_name None mode flags = refl
by_name (Some c) mode flags = by_code (is_class_parallel (class_of_code c)) c mode flags refl

by_atom : (a : Option (List ℕ)) → head_is is_class_parallel (option_and_then (placed Pattern) (option_and_then head.head_in a)) ≡ is_parallel_text a
by_atom None = refl
by_atom (Some text) = by_name (code.code_in (head.cut 47 (head.cut 58 text).0).0) (head.cut 58 text).1 (head.cut 47 (head.cut 58 text).0).1

by_items : (items : List Tree) → head_is is_class_parallel (option_and_then (placed Pattern) (head_of_items items)) ≡ is_parallel_text (head_of_list items)
by_items [] = refl
by_items (h ∷ rest) = by_atom (atom_of h)

pub parallel_out : (t : Tree) → is_parallel t ≡ is_parallel_text (head_of_list (items_of t))
parallel_out t = by_items (items_of t)
