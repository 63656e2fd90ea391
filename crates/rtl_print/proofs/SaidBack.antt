-- What the items of a function say is read back.
use Rattle.std.proofs.Common.{◌≡◌, ◌≤◌, ◌<◌, ◌-◌, ℕ, List, [], ◌∷◌, Bool, true, false, Option, Some, None, cond, codes, subst, arith}
use Rattle.std.specs.Option.{option_or}
use Rattle.lisp_read.specs.declared.tree.Tree.{Tree}
use Rattle.lisp_read.specs.Leaf.{uid_in}
use Rattle.lisp_read.specs.Parsed.{Parsed, stands, outside, parsed_map}
use Rattle.lisp_read.specs.Shape.{atom_of, items_of, is_vector, is_word}
use Rattle.rtl_read.specs.declared.parts.Returned.{Returned}
use Rattle.rtl_read.specs.declared.parts.Said.{Said}
use Rattle.rtl_read.specs.Chain.{chain_of}
use Rattle.rtl_read.specs.Function.{number_behind, locals_of, crtl_of, says_nothing, says_chain, says_locals, says_result, said_by, said_too, all_said}
use Rattle.rtl_read.specs.Word.{number_of, is_headed}
use Rattle.tree_print.specs.Print.{depth_of}
use Rattle.rtl_print.proofs.ChainBack.{both, chain_lines}
use Rattle.rtl_print.proofs.EntriesRead.{AllBack, all_more}
use Rattle.rtl_print.proofs.FunctionTree.{result_tree}
use Rattle.rtl_print.proofs.Good.{fits_more, first_deep, rest_deep}
use Rattle.rtl_print.proofs.Numbers.{then_some, uid_less}
use Rattle.rtl_print.proofs.Parsing.{map_stands, or_stands, pair_stands}
use Rattle.rtl_print.proofs.ResultBack.{IfReturned, crtl_back}
use Rattle.rtl_print.proofs.Shallow.{deepest}

pub record SaidBack (most : ℕ) (s : Said) : Type 0 where
  pub lines : AllBack (most - 1) s.insns
  pub locals : (n : ℕ) → s.locals ≡ Some n → n < 4294967296
  pub result : IfReturned most s.result

returned_more : (a b : ℕ) (o : Option Returned) → a ≤ b → IfReturned a o → IfReturned b o
returned_more a b None le h = tt
returned_more a b (Some r) le h = record { back = h.back; fits = fits_more a b (result_tree r.mode r.reg) le h.fits }

said_more : (a b : ℕ) (s : Said) → a ≤ b → SaidBack a s → SaidBack b s
said_more a b s le h = record { lines = all_more (a - 1) (b - 1) s.insns (omega (arith, le)) h.lines; locals = h.locals; result = returned_more a b s.result le h.result }

nothing_said : (most : ℕ) → SaidBack most says_nothing
nothing_said most = record { lines = tt; locals = λ n e. cc; result = tt }

or_less : (a b : Option ℕ) → ((n : ℕ) → a ≡ Some n → n < 4294967296) → ((n : ℕ) → b ≡ Some n → n < 4294967296) → (n : ℕ) → option_or b a ≡ Some n → n < 4294967296
or_less a None first second n e = first n e
or_less a (Some m) first second n e = second n e

or_returned : (most : ℕ) (a b : Option Returned) → IfReturned most a → IfReturned most b → IfReturned most (option_or b a)
or_returned most a None first second = first
or_returned most a (Some r) first second = second

two_said : (most : ℕ) (a b : Said) → SaidBack most a → SaidBack most b → SaidBack most (said_too a b)
two_said most a b first second = record {
  lines = both (most - 1) a.insns b.insns first.lines second.lines;
  locals = or_less a.locals b.locals first.locals second.locals;
  result = or_returned most a.result b.result first.result second.result;
}

-- ---- one item

number_behind_less : (word : List ℕ) (items : List Tree) (n : ℕ) → number_behind word items ≡ Some n → n < 4294967296
number_behind_less word [] n e = cc
number_behind_less word (h ∷ []) n e = cc
number_behind_less word (h ∷ u ∷ v ∷ more) n e = cc
number_behind_less word (h ∷ u ∷ []) n e = by_test (is_word word h) e
  where
    by_test : (b : Bool) → cond b (number_of u) None ≡ Some n → n < 4294967296
    by_test true h = let text = then_some (atom_of u) uid_in n h in uid_less text.0 n text.2
    by_test false h = cc

chain_said : (t : Tree) (s : Said) → parsed_map says_chain (chain_of t) ≡ stands s → SaidBack (depth_of t) s
chain_said t s e =
    let k = map_stands says_chain (chain_of t) s e in
    subst (SaidBack (depth_of t)) k.2 (record { lines = chain_lines t k.0 k.1; locals = λ n h. cc; result = tt })

locals_said : (t : Tree) (s : Said) → parsed_map says_locals (locals_of t) ≡ stands s → SaidBack (depth_of t) s
locals_said t s e =
    let k = map_stands says_locals (locals_of t) s e in
    let less : k.0 < 4294967296 = number_behind_less (codes "locals") (items_of t) k.0 (or_stands t (number_behind (codes "locals") (items_of t)) k.0 k.1) in
    subst (SaidBack (depth_of t)) k.2 (record { lines = tt; locals = λ n h. at k.0 n less h; result = tt })
  where
    at : (k n : ℕ) → k < 4294967296 → Some k ≡ Some n → n < 4294967296
    at k n less e = let same : k ≡ n = cc in subst (λ (m : ℕ). m < 4294967296) same less

result_said : (t : Tree) (s : Said) → parsed_map says_result (crtl_of t) ≡ stands s → SaidBack (depth_of t) s
result_said t s e =
    let k = map_stands says_result (crtl_of t) s e in
    subst (SaidBack (depth_of t)) k.2 (record { lines = tt; locals = λ n h. cc; result = crtl_back t k.0 k.1 })

none_said : (t : Tree) (s : Said) → stands says_nothing ≡ stands s → SaidBack (depth_of t) s
none_said t s e = let same : says_nothing ≡ s = cc in subst (SaidBack (depth_of t)) same (nothing_said (depth_of t))

choose : (t : Tree) (b : Bool) (p q : Parsed Said) → ((s : Said) → p ≡ stands s → SaidBack (depth_of t) s) → ((s : Said) → q ≡ stands s → SaidBack (depth_of t) s) → (s : Said) → cond b p q ≡ stands s → SaidBack (depth_of t) s
choose t true p q first second = first
choose t false p q first second = second

item_said : (t : Tree) (s : Said) → said_by t ≡ stands s → SaidBack (depth_of t) s
item_said t =
    choose t (is_vector t) (outside t) _ (λ s e. absurd (let none : ⊥ = cc in none))
    (choose t (is_headed (codes "insn-chain") t) (parsed_map says_chain (chain_of t)) _ (chain_said t)
    (choose t (is_headed (codes "locals") t) (parsed_map says_locals (locals_of t)) _ (locals_said t)
    (choose t (is_headed (codes "crtl") t) (parsed_map says_result (crtl_of t)) _ (result_said t) (none_said t))))

pub all_said_back : (most : ℕ) (ts : List Tree) (s : Said) → deepest ts ≤ most → all_said ts ≡ stands s → SaidBack most s
all_said_back most [] s le e = let same : says_nothing ≡ s = cc in subst (SaidBack most) same (nothing_said most)
all_said_back most (t ∷ ts) s le e =
    let k = pair_stands (said_by t) (all_said ts) (λ (a b : Said). said_too a b) s e in
    subst (SaidBack most) k.4
    (two_said most k.0 k.1 (said_more (depth_of t) most k.0 (omega (arith, le, first_deep t ts)) (item_said t k.0 k.2)) (all_said_back most ts k.1 (omega (arith, le, rest_deep t ts)) k.3))
