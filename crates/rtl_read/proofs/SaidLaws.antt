-- What the items of a function say, one after the other.
use Rattle.std.proofs.Common.{◌≡◌, ℕ, ◌+◌, ◌<◌, List, [], ◌∷◌, ◌++◌, Option, Some, None, length, drop, get_or, refl, sym, ap, subst, ◌∙◌, append_assoc}
use Rattle.std.proofs.lemmas.List.{append-nil}
use Rattle.std.specs.Option.{option_or}
use Rattle.rtx_tree.specs.declared.place.Place.{Place}
use Rattle.rtx_tree.specs.declared.function.Insn.{Insn}
use Rattle.lisp_read.specs.declared.tree.Tree.{Tree}
use Rattle.lisp_read.specs.Parsed.{Parsed, stands, construct, parsed_map, parsed_then}
use Rattle.rtl_read.specs.declared.parts.Returned.{Returned}
use Rattle.rtl_read.specs.declared.parts.Said.{Said}
use Rattle.rtl_read.specs.Function.{said_too, says_nothing, said_by, all_said}
use Rattle.rtl_read.specs.machine.Adding.{said_behind}
use Rattle.rtl_read.proofs.Joined.{first_left}

or_assoc : {A : Type 0} (a b c : Option A) → option_or c (option_or b a) ≡ option_or (option_or c b) a
or_assoc a b None = refl
or_assoc a b (Some x) = refl

said_of : List Insn → Option ℕ → Option Returned → Said
said_of insns locals result = record { insns = insns; locals = locals; result = result }

said_assoc : (a b c : Said) → said_too a (said_too b c) ≡ said_too (said_too a b) c
unfolding said_of
said_assoc a b c =
    ap (λ (insns : List Insn). said_of insns (option_or (option_or c.locals b.locals) a.locals) (option_or (option_or c.result b.result) a.result)) (sym (append_assoc a.insns b.insns c.insns))
    ∙ (ap (λ (locals : Option ℕ). said_of ((a.insns ++ b.insns) ++ c.insns) locals (option_or (option_or c.result b.result) a.result)) (sym (or_assoc a.locals b.locals c.locals))
    ∙ ap (λ (result : Option Returned). said_of ((a.insns ++ b.insns) ++ c.insns) (option_or c.locals (option_or b.locals a.locals)) result) (sym (or_assoc a.result b.result c.result)))

no_more : (a : Said) → said_too a says_nothing ≡ a
unfolding said_of
no_more a = ap (λ (insns : List Insn). said_of insns a.locals a.result) (append-nil a.insns)

or_none : {A : Type 0} (a : Option A) → option_or a None ≡ a
or_none None = refl
or_none (Some x) = refl

none_before : (a : Said) → said_too says_nothing a ≡ a
unfolding said_of
none_before a =
    ap (λ (locals : Option ℕ). said_of a.insns locals (option_or a.result None)) (or_none a.locals)
    ∙ ap (λ (result : Option Returned). said_of a.insns a.locals result) (or_none a.result)

pub said_nothing : (p : Parsed Said) → said_behind says_nothing p ≡ p
said_nothing (stands said) = ap (λ (s : Said). stands s) (none_before said)
said_nothing (construct place name) = refl

behind-map : (before said : Said) (p : Parsed Said) → said_behind before (parsed_map (said_too said) p) ≡ said_behind (said_too before said) p
behind-map before said (stands more) = ap (λ (s : Said). stands s) (said_assoc before said more)
behind-map before said (construct place name) = refl

said_or : Said → Parsed Said → Said
said_or other (stands said) = said
said_or other (construct place name) = other

is_stood : Parsed Said → Type 0
is_stood (stands x) = Unit {0}
is_stood (construct place name) = ⊥

then_said : (before after : Said) (p rest : Parsed Said) → said_behind before p ≡ stands after → said_behind before (parsed_then p (λ first. parsed_map (said_too first) rest)) ≡ said_behind after rest
unfolding said_or is_stood
then_said before after (stands said) rest e = behind-map before said rest ∙ ap (λ front. said_behind front rest) (ap (said_or before) e)
then_said before after (construct place name) rest e = absurd (subst is_stood (sym e) tt)

-- one item more was read
pub said_next : (before after : Said) (trees : List Tree) (i : ℕ) (t : Tree) (whole : Parsed Said) →
    i < length trees → t ≡ get_or trees i t → said_behind before (said_by t) ≡ stands after → said_behind before (all_said (drop i trees)) ≡ whole → said_behind after (all_said (drop (i + 1) trees)) ≡ whole
said_next before after trees i t whole within is e h =
    sym (then_said before after (said_by t) (all_said (drop (i + 1) trees)) e) ∙ subst (λ (ts : List Tree). said_behind before (all_said ts) ≡ whole) (first_left trees i t within is) h

stop : (before : Said) (t : Tree) (rest : List Tree) (place : Place) (name : List ℕ) → said_by t ≡ construct place name → said_behind before (all_said (t ∷ rest)) ≡ construct place name
stop before t rest place name e = rw e refl

-- an item was outside
pub said_stops : (before : Said) (trees : List Tree) (i : ℕ) (t : Tree) (place : Place) (name : List ℕ) (whole : Parsed Said) →
    i < length trees → t ≡ get_or trees i t → said_by t ≡ construct place name → said_behind before (all_said (drop i trees)) ≡ whole → whole ≡ construct place name
said_stops before trees i t place name whole within is e h =
    sym h ∙ subst (λ (ts : List Tree). said_behind before (all_said ts) ≡ construct place name) (sym (first_left trees i t within is)) (stop before t (drop (i + 1) trees) place name e)

-- all were read
pub said_ends : (after : Said) (whole : Parsed Said) → said_behind after (all_said []) ≡ whole → whole ≡ stands after
said_ends after whole h = sym h ∙ ap (λ (s : Said). stands s) (no_more after)
