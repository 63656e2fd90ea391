-- The jump and the call: they agree where nothing is found in them, and only there.
use Rattle.std.proofs.Common.{◌≡◌, ℕ, ◌==◌, ◌||◌, Bool, true, false, List, [], ◌∷◌, Option, Some, None, refl, sym, ◌∙◌, ap, subst, cond}
use Rattle.bits64.specs.declared.Width.TheVariants.{W64}
use Rattle.rtx_tree.specs.RegSet.{has_reg}
use Rattle.term_tree.specs.Tree.{Tree}
use Rattle.term_mean.specs.Sums.{constant}
use Rattle.term_text.specs.declared.item.Item.TheVariants as item
use Rattle.sym_term.proofs.Steps.{same-is}
use Rattle.sym_state.specs.State.{Jump, Arg, Call, nothing}
use Rattle.sym_diff.specs.Difference.{Difference, Differ, shown, or_else}
use Rattle.sym_diff.specs.Compared.{compared_terms, compared_jump, compared_calls, compared_arg, compared_args, compared_numbers, compared_results, target_term, arg_at, arg_beside, same_value, args_in, result_bits}
use Rattle.sym_diff.specs.Agree.{JumpsAgree, SameCall, CallsAgree}
use Rattle.sym_diff.proofs.AgreeLaws.{or_none, none_or, terms_none, none_terms}
use Rattle.sym_diff.proofs.NumberLaws.{same_number, itself, or_left, or_right, args_from, args_keep, args_have}
use Rattle.sym_diff.proofs.Items.{InItem, some_item, none_item, or_item, terms_item}

-- ---- the jump

pub jump_item : (a b : Jump) → InItem item.Jump (compared_jump a b)
jump_item a b = or_item item.Jump _ _ (terms_item item.Jump a.condition b.condition) (terms_item item.Jump (target_term a.target) (target_term b.target))

pub jump_none : (a b : Jump) → compared_jump a b ≡ None → JumpsAgree a b
jump_none a b h =
    let two = or_none (compared_terms item.Jump a.condition b.condition) (compared_terms item.Jump (target_term a.target) (target_term b.target)) h in
    (terms_none item.Jump a.condition b.condition two.0, terms_none item.Jump (target_term a.target) (target_term b.target) two.1)

pub none_jump : (a b : Jump) → JumpsAgree a b → compared_jump a b ≡ None
none_jump a b h =
    none_or (compared_terms item.Jump a.condition b.condition) (compared_terms item.Jump (target_term a.target) (target_term b.target))
    (none_terms item.Jump a.condition b.condition h.0) (none_terms item.Jump (target_term a.target) (target_term b.target) h.1)

-- ---- the call

-- what an argument is found to be
abbrev found_arg : Bool → List Arg → List Arg → ℕ → Option Difference
found_arg of_lines a b reg = compared_arg of_lines (arg_at a reg) (arg_at b reg)

arg_item : (of_lines : Bool) (x y : Option Tree) → InItem item.Call (compared_arg of_lines x y)
arg_item of_lines x y = go (same_value x (arg_beside of_lines x y))
  where
    go : (s : Bool) → InItem item.Call (cond s None (Some (Differ item.Call (shown x) (shown (arg_beside of_lines x y)))))
    go true = none_item item.Call
    go false = some_item item.Call (shown x) (shown (arg_beside of_lines x y))

args_item : (of_lines : Bool) (a b : List Arg) (regs : List ℕ) → InItem item.Call (compared_args of_lines a b regs)
args_item of_lines a b [] = none_item item.Call
args_item of_lines a b (reg ∷ regs) =
    or_item item.Call (found_arg of_lines a b reg) (compared_args of_lines a b regs) (arg_item of_lines (arg_at a reg) (arg_at b reg)) (args_item of_lines a b regs)

args_none : (of_lines : Bool) (a b : List Arg) (regs : List ℕ) → compared_args of_lines a b regs ≡ None → (reg : ℕ) → has_reg regs reg ≡ true → found_arg of_lines a b reg ≡ None
args_none of_lines a b [] h reg has = cc
args_none of_lines a b (r ∷ regs) h reg has =
    let two = or_none (found_arg of_lines a b r) (compared_args of_lines a b regs) h in
    go (r == reg) refl has two.0 (args_none of_lines a b regs two.1 reg)
  where
    go : (here : Bool) → (r == reg) ≡ here → (here || has_reg regs reg) ≡ true → found_arg of_lines a b r ≡ None → (has_reg regs reg ≡ true → found_arg of_lines a b reg ≡ None) →
        found_arg of_lines a b reg ≡ None
    go true is has first ih = subst (λ n. found_arg of_lines a b n ≡ None) (same_number r reg is) first
    go false is has first ih = ih has

none_args : (of_lines : Bool) (a b : List Arg) (regs : List ℕ) → ((reg : ℕ) → has_reg regs reg ≡ true → found_arg of_lines a b reg ≡ None) → compared_args of_lines a b regs ≡ None
none_args of_lines a b [] h = refl
none_args of_lines a b (r ∷ regs) h =
    none_or (found_arg of_lines a b r) (compared_args of_lines a b regs) (h r (or_left (r == r) (has_reg regs r) (itself r)))
    (none_args of_lines a b regs (λ reg has. h reg (or_right (r == reg) (has_reg regs reg) has)))

results_item : (of_lines : Bool) (a b : Call) → InItem item.Call (compared_results of_lines a b)
results_item true a b = none_item item.Call
results_item false a b = terms_item item.Call (constant W64 (result_bits a.result)) (constant W64 (result_bits b.result))

results_none : (of_lines : Bool) (a b : Call) → compared_results of_lines a b ≡ None → of_lines ≡ false → constant W64 (result_bits a.result) ≡ constant W64 (result_bits b.result)
results_none true a b h is = cc
results_none false a b h is = terms_none item.Call (constant W64 (result_bits a.result)) (constant W64 (result_bits b.result)) h

none_results : (of_lines : Bool) (a b : Call) → (of_lines ≡ false → constant W64 (result_bits a.result) ≡ constant W64 (result_bits b.result)) → compared_results of_lines a b ≡ None
none_results true a b h = refl
none_results false a b h = none_terms item.Call (constant W64 (result_bits a.result)) (constant W64 (result_bits b.result)) (h refl)

-- the arguments that are looked at
first_args : (of_lines : Bool) (a b : List Arg) (reg : ℕ) (t : Tree) → arg_at a reg ≡ Some t → has_reg (compared_numbers of_lines a b) reg ≡ true
first_args true a b reg t is = args_have a [] reg t is
first_args false a b reg t is = args_keep b (args_in a []) reg (args_have a [] reg t is)

second_args : (of_lines : Bool) (a b : List Arg) (reg : ℕ) (u : Tree) → of_lines ≡ false → arg_at b reg ≡ Some u → has_reg (compared_numbers of_lines a b) reg ≡ true
second_args true a b reg u of_insns is = cc
second_args false a b reg u of_insns is = args_have b (args_in a []) reg u is

-- of lines the first hands over each of them
lines_args : (a b : List Arg) (reg : ℕ) → arg_at a reg ≡ None → has_reg (compared_numbers true a b) reg ≡ true → ⊥
lines_args a b reg none has = let h = args_from a [] reg none has in cc

value_same : (x y : Option Tree) → same_value x y ≡ true → x ≡ y
value_same None None h = refl
value_same None (Some u) h = cc
value_same (Some t) None h = cc
value_same (Some t) (Some u) h = ap (λ t. Some t) ((same-is t u).0 h)

same_is : (x y : Option Tree) → x ≡ y → same_value x y ≡ true
same_is None None h = refl
same_is None (Some u) h = cc
same_is (Some t) None h = cc
same_is (Some t) (Some u) h = (same-is t u).1 (some h)
  where
    some : Some t ≡ Some u → t ≡ u
    some h = cc

arg_none : (of_lines : Bool) (x y : Option Tree) → compared_arg of_lines x y ≡ None → x ≡ arg_beside of_lines x y
arg_none of_lines x y h = go (same_value x (arg_beside of_lines x y)) refl h
  where
    go : (s : Bool) → same_value x (arg_beside of_lines x y) ≡ s → cond s None (Some (Differ item.Call (shown x) (shown (arg_beside of_lines x y)))) ≡ None → x ≡ arg_beside of_lines x y
    go true is h = value_same x (arg_beside of_lines x y) is
    go false is h = cc

none_arg : (of_lines : Bool) (x y : Option Tree) → x ≡ arg_beside of_lines x y → compared_arg of_lines x y ≡ None
none_arg of_lines x y h = ap (λ s. cond s None (Some (Differ item.Call (shown x) (shown (arg_beside of_lines x y))))) (same_is x (arg_beside of_lines x y) h)

abbrev calls_found : Bool → Call → Call → Option Difference
calls_found of_lines a b = compared_args of_lines a.args b.args (compared_numbers of_lines a.args b.args)

both_none : (of_lines : Bool) (a b : Call) → compared_calls of_lines (Some a) (Some b) ≡ None → SameCall of_lines a b
both_none of_lines a b h =
    let two = or_none (compared_terms item.Call a.target b.target) (or_else (calls_found of_lines a b) (compared_results of_lines a b)) h in
    let more = or_none (calls_found of_lines a b) (compared_results of_lines a b) two.1 in
    let each = args_none of_lines a.args b.args (compared_numbers of_lines a.args b.args) more.0 in
    record {
      target = terms_none item.Call a.target b.target two.0;
      args = λ reg t is. first_shown reg t is (arg_none of_lines (arg_at a.args reg) (arg_at b.args reg) (each reg (first_args of_lines a.args b.args reg t is)));
      more = λ of_insns reg u is. second_shown reg u of_insns is (arg_none of_lines (arg_at a.args reg) (arg_at b.args reg) (each reg (second_args of_lines a.args b.args reg u of_insns is)));
      result = results_none of_lines a b more.1;
    }
  where
    first_shown : (reg : ℕ) (t : Tree) → arg_at a.args reg ≡ Some t → arg_at a.args reg ≡ arg_beside of_lines (arg_at a.args reg) (arg_at b.args reg) →
        arg_beside of_lines (Some t) (arg_at b.args reg) ≡ Some t
    first_shown reg t is h = subst (λ x. arg_beside of_lines x (arg_at b.args reg) ≡ x) is (sym h)

    second_shown : (reg : ℕ) (u : Tree) → of_lines ≡ false → arg_at b.args reg ≡ Some u → arg_at a.args reg ≡ arg_beside of_lines (arg_at a.args reg) (arg_at b.args reg) →
        arg_at a.args reg ≡ Some u
    second_shown reg u of_insns is h = subst (λ l. arg_at a.args reg ≡ arg_beside l (arg_at a.args reg) (arg_at b.args reg)) of_insns h ∙ is

-- an argument that is looked at is the same
arg_same : (of_lines : Bool) (a b : Call) → SameCall of_lines a b → (reg : ℕ) → has_reg (compared_numbers of_lines a.args b.args) reg ≡ true → (x y : Option Tree) → arg_at a.args reg ≡ x → arg_at b.args reg ≡ y →
    x ≡ arg_beside of_lines x y
arg_same of_lines a b s reg has (Some t) y is is_y = sym (subst (λ y. arg_beside of_lines (Some t) y ≡ Some t) is_y (s.args reg t is))
arg_same true a b s reg has None y is is_y = absurd (lines_args a.args b.args reg is has)
arg_same false a b s reg has None None is is_y = refl
arg_same false a b s reg has None (Some u) is is_y = subst (λ x. x ≡ Some u) is (s.more refl reg u is_y)

none_both : (of_lines : Bool) (a b : Call) → SameCall of_lines a b → compared_calls of_lines (Some a) (Some b) ≡ None
none_both of_lines a b s =
    none_or (compared_terms item.Call a.target b.target) (or_else (calls_found of_lines a b) (compared_results of_lines a b))
    (none_terms item.Call a.target b.target s.target)
    (none_or (calls_found of_lines a b) (compared_results of_lines a b)
    (none_args of_lines a.args b.args (compared_numbers of_lines a.args b.args)
    (λ reg has. none_arg of_lines (arg_at a.args reg) (arg_at b.args reg) (arg_same of_lines a b s reg has (arg_at a.args reg) (arg_at b.args reg) refl refl)))
    (none_results of_lines a b s.result))

pub calls_item : (of_lines : Bool) (a b : Option Call) → InItem item.Call (compared_calls of_lines a b)
calls_item of_lines None None = none_item item.Call
calls_item of_lines (Some a) None = some_item item.Call a.target nothing
calls_item of_lines None (Some b) = some_item item.Call nothing b.target
calls_item of_lines (Some a) (Some b) =
    or_item item.Call _ _ (terms_item item.Call a.target b.target)
    (or_item item.Call _ _ (args_item of_lines a.args b.args (compared_numbers of_lines a.args b.args)) (results_item of_lines a b))

pub calls_none : (of_lines : Bool) (a b : Option Call) → compared_calls of_lines a b ≡ None → CallsAgree of_lines a b
calls_none of_lines None None h = tt
calls_none of_lines (Some a) None h = absurd (never h)
  where
    never : Some (Differ item.Call a.target nothing) ≡ None → ⊥
    never h = cc
calls_none of_lines None (Some b) h = absurd (never h)
  where
    never : Some (Differ item.Call nothing b.target) ≡ None → ⊥
    never h = cc
calls_none of_lines (Some a) (Some b) h = both_none of_lines a b h

pub none_calls : (of_lines : Bool) (a b : Option Call) → CallsAgree of_lines a b → compared_calls of_lines a b ≡ None
none_calls of_lines None None h = refl
none_calls of_lines (Some a) None h = absurd h
none_calls of_lines None (Some b) h = absurd h
none_calls of_lines (Some a) (Some b) h = none_both of_lines a b h
