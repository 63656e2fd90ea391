-- The modes of pseudos, by the parts of a tree.
use Rattle.std.proofs.Common.{◌≡◌, ℕ, Bool, true, false, ◌==◌, ◌&&◌, not, cond, filter, List, [], ◌∷◌, ◌++◌, Option, Some, None, option_map, refl, sym, ap, ◌∙◌}
use Rattle.std.specs.List.{filter_map, flat_map, cons_option, find}
use Rattle.std.specs.Option.{option_or}
use Rattle.rtx_tree.specs.declared.code.Mode.{Mode}
use Rattle.rtx_tree.specs.declared.function.Insn.{Insn}
use Rattle.rtx_tree.specs.declared.tree.Rtx.{Rtx}
use Rattle.rtx_tree.specs.Tree.{kids_of}
use Rattle.rtl_func.specs.Nodes.{nodes_of}
use Rattle.rtl_func.specs.Calls.{are_distinct}
use Rattle.rtl_func.specs.Paths.{has_place}
use Rattle.rtl_func.specs.machine.Changes.{is_known}
use Rattle.rtl_func.specs.Modes.{Mention, mention_of, mentions_in, first_mode, mode_in, mentions}
use Rattle.rtl_func.specs.Uids.{is_ruled}
use Rattle.rtl_func.proofs.NodeLaws.{nodes_out}

cons_append : {A : Type 0} (o : Option A) (xs ys : List A) → cons_option o xs ++ ys ≡ cons_option o (xs ++ ys)
cons_append None xs ys = refl
cons_append (Some x) xs ys = refl

filter_map-append : {A B : Type 0} (f : A → Option B) (xs ys : List A) → filter_map f (xs ++ ys) ≡ filter_map f xs ++ filter_map f ys
filter_map-append f [] ys = refl
filter_map-append f (x ∷ xs) ys = ap (cons_option (f x)) (filter_map-append f xs ys) ∙ sym (cons_append (f x) (filter_map f xs) (filter_map f ys))

mentions_kids : (kids : List Rtx) → filter_map mention_of (flat_map nodes_of kids) ≡ flat_map mentions_in kids
mentions_kids [] = refl
mentions_kids (k ∷ kids) = filter_map-append mention_of (nodes_of k) (flat_map nodes_of kids) ∙ ap (λ rest. mentions_in k ++ rest) (mentions_kids kids)

mentions_out : (x : Rtx) → mentions_in x ≡ cons_option (mention_of x) (flat_map mentions_in (kids_of x))
mentions_out x = ap (filter_map mention_of) (nodes_out x) ∙ ap (cons_option (mention_of x)) (mentions_kids (kids_of x))

or_found : (b : Bool) (mode : Mode) (reg : ℕ) (m : Mention) (all : List Mention) → option_map (λ (m : Mention). m.mode) (cond b (Some m) (find (λ m. m.reg == reg) all)) ≡ option_or (cond b (Some m.mode) None) (first_mode all reg)
or_found true mode reg m all = refl
or_found false mode reg m all = refl

first_cons : (o : Option Mention) (all : List Mention) (reg : ℕ) → first_mode (cons_option o all) reg ≡ option_or (mode_in o reg) (first_mode all reg)
first_cons None all reg = refl
first_cons (Some m) all reg = or_found (m.reg == reg) m.mode reg m all

pub or_assoc : {A : Type 0} (a b c : Option A) → option_or (option_or a b) c ≡ option_or a (option_or b c)
or_assoc None b c = refl
or_assoc (Some x) b c = refl

pub or_none : {A : Type 0} (a : Option A) → option_or a None ≡ a
or_none None = refl
or_none (Some x) = refl

pub first_append : (xs ys : List Mention) (reg : ℕ) → first_mode (xs ++ ys) reg ≡ option_or (first_mode xs reg) (first_mode ys reg)
first_append [] ys reg = refl
first_append (m ∷ xs) ys reg =
    first_cons (Some m) (xs ++ ys) reg
    ∙ (ap (option_or (mode_in (Some m) reg)) (first_append xs ys reg)
    ∙ (sym (or_assoc (mode_in (Some m) reg) (first_mode xs reg) (first_mode ys reg))
    ∙ ap (λ o. option_or o (first_mode ys reg)) (sym (first_cons (Some m) xs reg))))

-- the first mention in a tree is the tree itself, or in one of its kids
pub modes_out : (x : Rtx) (reg : ℕ) → first_mode (mentions_in x) reg ≡ option_or (mode_in (mention_of x) reg) (first_mode (flat_map mentions_in (kids_of x)) reg)
modes_out x reg = ap (λ all. first_mode all reg) (mentions_out x) ∙ first_cons (mention_of x) (flat_map mentions_in (kids_of x)) reg

-- when modes were put, what is left is looked up behind them
pub put_more : (before after : Option Mode) (xs ys : List Mention) (reg : ℕ) → after ≡ option_or before (first_mode xs reg) → option_or after (first_mode ys reg) ≡ option_or before (first_mode (xs ++ ys) reg)
put_more before after xs ys reg is =
    ap (λ o. option_or o (first_mode ys reg)) is
    ∙ (or_assoc before (first_mode xs reg) (first_mode ys reg)
    ∙ ap (option_or before) (sym (first_append xs ys reg)))

pub put_first : (before after : Option Mode) (x : Rtx) (reg : ℕ) → after ≡ option_or before (mode_in (mention_of x) reg) → option_or after (first_mode (flat_map mentions_in (kids_of x)) reg) ≡ option_or before (first_mode (mentions_in x) reg)
put_first before after x reg is =
    ap (λ o. option_or o (first_mode (flat_map mentions_in (kids_of x)) reg)) is
    ∙ (or_assoc before (mode_in (mention_of x) reg) _
    ∙ ap (option_or before) (sym (modes_out x reg)))

pub mentions_ruled : (i : Insn) (rest : List Insn) → is_ruled i ≡ true → mentions (i ∷ rest) ≡ mentions_in i.pattern ++ mentions rest
mentions_ruled i rest is = ap (λ b. flat_map (λ (i : Insn). mentions_in i.pattern) (cond b (i ∷ filter is_ruled rest) (filter is_ruled rest))) is

pub mentions_other : (i : Insn) (rest : List Insn) → is_ruled i ≡ false → mentions (i ∷ rest) ≡ mentions rest
mentions_other i rest is = ap (λ b. flat_map (λ (i : Insn). mentions_in i.pattern) (cond b (i ∷ filter is_ruled rest) (filter is_ruled rest))) is

-- a register that may be there stands in no place behind
pub distinct_cons : (o : Option ℕ) (rest : List ℕ) → are_distinct (cons_option o rest) ≡ (not (is_known (has_place rest) o) && are_distinct rest)
distinct_cons None rest = refl
distinct_cons (Some reg) rest = refl
