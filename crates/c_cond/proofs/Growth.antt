-- The grammar of trees and the grammar of their heads are one.
use Rattle.std.proofs.Common.{◌≡◌, ℕ, ◌+◌, Bool, true, false, List, [], ◌∷◌, ◌++◌, take, drop, Option, Some, None, refl, sym, ap, ◌∙◌, append_assoc, cond}
use Rattle.std.specs.Prelude.{pos, reverse}
use Rattle.std.specs.List.{flat_map}
use Rattle.std.proofs.lemmas.List.{append-nil}
use Rattle.std.proofs.lemmas.List.Folds.{flat_map-map}
use Rattle.bits64.specs.Words.{signed}
use Rattle.bits64.specs.declared.Width.TheVariants.{W64}
use Rattle.rtx_tree.specs.declared.constants.Constant.{Constant}
use Rattle.rtx_tree.specs.declared.code.Mode.{Mode}
use Rattle.c_words.specs.declared.head.Call.{Call}
use Rattle.c_words.specs.declared.head.Call.TheVariants as call
use Rattle.c_words.specs.declared.head.CondHead.{CondHead}
use Rattle.c_words.specs.declared.head.CondHead.TheVariants as head
use Rattle.c_words.specs.declared.keyword.Keyword.{Keyword}
use Rattle.c_words.specs.declared.keyword.Keyword.TheVariants as keyword
use Rattle.c_words.specs.declared.atom.Dialect.{Dialect}
use Rattle.c_words.specs.declared.atom.Dialect.TheVariants as dialect
use Rattle.c_words.specs.declared.atom.Property.{Property}
use Rattle.c_words.specs.declared.token.Token.{Token}
use Rattle.c_cond.specs.declared.part.Part.TheVariants as part
use Rattle.c_words.specs.Words.{keyword_named, mode_named}
use Rattle.c_cond.specs.declared.part.Signature.{Signature}
use Rattle.c_cond.specs.declared.part.Signature.TheVariants as signature
use Rattle.c_cond.specs.declared.tree.Tree.{Tree}
use Rattle.c_cond.specs.declared.tree.Tree.TheFolds.{fold-roll-Tree}
use Rattle.c_cond.specs.Tree.{node, leaf, heads_step, heads_of, size_of, grown, first_or_nothing, tree_of}
use Rattle.rtx_tree.specs.declared.code.Code.{Code}
use Rattle.std.specs.Prelude.{ℤ, option_map}
use Rattle.c_words.specs.declared.atom.Atom.{Atom}
use Rattle.c_words.specs.declared.atom.Atom.TheVariants as atom
use Rattle.c_words.specs.declared.atom.Property.TheVariants as property
use Rattle.name_places.specs.Names.{constant_named}
use Rattle.c_words.specs.Words.{code_in_capitals, is_target}
use Rattle.c_words.specs.Atoms.{is_question, atom_of, atom_by, atom_of_keyword, atom_of_name, or_constant, is_own_predicate, predicate_or_nothing, target_number}
use Rattle.c_cond.specs.Grammar as grammar
use Rattle.c_cond.specs.Grammar.{Sort, One, Parts, Statement, Statements, Condition, signature_of, predicate_parts, comparison_with}

-- ---- the heads of trees

abbrev pub heads_of_all : List Tree → List CondHead
heads_of_all trees = flat_map heads_of trees

pub heads_of-node : (h : CondHead) (parts : List Tree) → heads_of (node h parts) ≡ heads_of_all parts ++ h ∷ []
heads_of-node h parts =
    fold-roll-Tree (List CondHead) heads_step (record { head = h; parts = parts })
    ∙ ap (λ (x : List CondHead). x ++ h ∷ []) (flat_map-map (λ (hs : List CondHead). hs) heads_of parts)

pub one_head : (h : CondHead) → heads_of (leaf h) ≡ h ∷ []
one_head h = heads_of-node h []

pub heads_1 : (h : CondHead) (a : Tree) → heads_of (node h (a ∷ [])) ≡ heads_of a ++ h ∷ []
heads_1 h a = heads_of-node h (a ∷ []) ∙ ap (λ (x : List CondHead). x ++ h ∷ []) (append-nil (heads_of a))

pub heads_2 : (h : CondHead) (a b : Tree) → heads_of (node h (a ∷ b ∷ [])) ≡ heads_of a ++ (heads_of b ++ h ∷ [])
heads_2 h a b =
    heads_of-node h (a ∷ b ∷ []) ∙ ap (λ (x : List CondHead). (heads_of a ++ x) ++ h ∷ []) (append-nil (heads_of b)) ∙ append_assoc (heads_of a) (heads_of b) (h ∷ [])

pub heads_3 : (h : CondHead) (a b c : Tree) → heads_of (node h (a ∷ b ∷ c ∷ [])) ≡ heads_of a ++ (heads_of b ++ (heads_of c ++ h ∷ []))
heads_3 h a b c =
    heads_of-node h (a ∷ b ∷ c ∷ []) ∙ ap (λ (x : List CondHead). (heads_of a ++ (heads_of b ++ x)) ++ h ∷ []) (append-nil (heads_of c))
    ∙ append_assoc (heads_of a) (heads_of b ++ heads_of c) (h ∷ []) ∙ ap (λ (x : List CondHead). heads_of a ++ x) (append_assoc (heads_of b) (heads_of c) (h ∷ []))

pub all_1 : (a : Tree) → heads_of_all (a ∷ []) ≡ heads_of a
all_1 a = append-nil (heads_of a)

-- ---- what grows from heads

-- from the heads of these trees grow these trees
abbrev pub Grows : List Tree → Type 0
Grows trees = (before : List Tree) (hs : List CondHead) → grown before (heads_of_all trees ++ hs) ≡ grown (reverse trees ++ before) hs

-- a tree grows from its heads
abbrev pub GrowsOne : Tree → Type 0
GrowsOne t = (before : List Tree) (hs : List CondHead) → grown before (heads_of t ++ hs) ≡ grown (t ∷ before) hs

step : (h : CondHead) (n : ℕ) (before : List Tree) (hs : List CondHead) → size_of h ≡ n → grown before (h ∷ hs) ≡ grown (node h (reverse (take n before)) ∷ drop n before) hs
step h n before hs e = ap (λ (k : ℕ). grown (node h (reverse (take k before)) ∷ drop k before) hs) e

pub grows_one : (t : Tree) → Grows (t ∷ []) → GrowsOne t
grows_one t g before hs = ap (λ (x : List CondHead). grown before (x ++ hs)) (sym (all_1 t)) ∙ g before hs

one_grows : (t : Tree) → GrowsOne t → Grows (t ∷ [])
one_grows t g before hs = ap (λ (x : List CondHead). grown before (x ++ hs)) (all_1 t) ∙ g before hs

grows_0 : (h : CondHead) → size_of h ≡ 0 → Grows (leaf h ∷ [])
grows_0 h e = one_grows (leaf h) (λ before hs. ap (λ (x : List CondHead). grown before (x ++ hs)) (one_head h) ∙ step h 0 before hs e)

grows_1 : (h : CondHead) (a : Tree) → size_of h ≡ 1 → Grows (a ∷ []) → Grows (node h (a ∷ []) ∷ [])
grows_1 h a e g = one_grows (node h (a ∷ [])) (λ before hs.
    ap (λ (x : List CondHead). grown before (x ++ hs)) (heads_1 h a) ∙ ap (grown before) (append_assoc (heads_of a) (h ∷ []) hs) ∙ grows_one a g before (h ∷ hs) ∙ step h 1 (a ∷ before) hs e)

grows_2 : (h : CondHead) (a b : Tree) → size_of h ≡ 2 → Grows (a ∷ []) → Grows (b ∷ []) → Grows (node h (a ∷ b ∷ []) ∷ [])
grows_2 h a b e f g = one_grows (node h (a ∷ b ∷ [])) (λ before hs.
    ap (λ (x : List CondHead). grown before (x ++ hs)) (heads_2 h a b)
    ∙ ap (grown before) (append_assoc (heads_of a) (heads_of b ++ h ∷ []) hs ∙ ap (λ (x : List CondHead). heads_of a ++ x) (append_assoc (heads_of b) (h ∷ []) hs))
    ∙ grows_one a f before (heads_of b ++ h ∷ hs) ∙ grows_one b g (a ∷ before) (h ∷ hs) ∙ step h 2 (b ∷ a ∷ before) hs e)

grows_3 : (h : CondHead) (a b c : Tree) → size_of h ≡ 3 → Grows (a ∷ []) → Grows (b ∷ []) → Grows (c ∷ []) → Grows (node h (a ∷ b ∷ c ∷ []) ∷ [])
grows_3 h a b c e f g k = one_grows (node h (a ∷ b ∷ c ∷ [])) (λ before hs.
    ap (λ (x : List CondHead). grown before (x ++ hs)) (heads_3 h a b c)
    ∙ ap (grown before) (append_assoc (heads_of a) (heads_of b ++ (heads_of c ++ h ∷ [])) hs ∙ ap (λ (x : List CondHead). heads_of a ++ x) (append_assoc (heads_of b) (heads_of c ++ h ∷ []) hs ∙ ap (λ (x : List CondHead). heads_of b ++ x) (append_assoc (heads_of c) (h ∷ []) hs)))
    ∙ grows_one a f before (heads_of b ++ (heads_of c ++ h ∷ hs)) ∙ grows_one b g (a ∷ before) (heads_of c ++ h ∷ hs) ∙ grows_one c k (b ∷ a ∷ before) (h ∷ hs) ∙ step h 3 (c ∷ b ∷ a ∷ before) hs e)

-- how many parts there are
abbrev pub count : Signature → ℕ
count signature.None = 0
count (signature.One x) = 1
count (signature.Two x y) = 2
count (signature.Three x y z) = 3

call_size_is : (c : Call) → size_of (head.Call c) ≡ count (signature_of c)
call_size_is call.CanCreatePseudo = refl
call_size_is call.Intval = refl
call_size_is call.Regno = refl
call_size_is call.RegP = refl
call_size_is call.MemP = refl
call_size_is call.ConstIntP = refl
call_size_is call.SymbolRefP = refl
call_size_is call.RtxEqual = refl
call_size_is call.InRange = refl
call_size_is call.SmallOperand = refl
call_size_is call.RegDead = refl
call_size_is call.GenInt = refl
call_size_is call.GenIntMode = refl
call_size_is call.GenReg = refl
call_size_is call.ForceReg = refl
call_size_is call.GenLowpart = refl
call_size_is call.EmitMove = refl

compared_size : (kind : Property) (equal : Bool) (name : List ℕ) (h : CondHead) → comparison_with kind equal name ≡ Some h → size_of h ≡ 1
compared_size kind equal name h e = ap size_by (sym e) ∙ one_anyway kind
  where
    size_by : Option CondHead → ℕ
    size_by (Some x) = size_of x
    size_by None = 1

    one_anyway : (kind : Property) → size_by (comparison_with kind equal name) ≡ 1
    one_anyway property.Code = by_code (code_in_capitals name)
      where
        by_code : (o : Option Code) → size_by (option_map (λ c. head.CodeIs c equal) o) ≡ 1
        by_code None = refl
        by_code (Some c) = refl
    one_anyway property.Mode = by_mode (mode_named name)
      where
        by_mode : (o : Option Mode) → size_by (option_map (λ m. head.ModeIs m equal) o) ≡ 1
        by_mode None = refl
        by_mode (Some m) = refl

-- a fact is a head without parts
abbrev atom_size : Atom → ℕ
atom_size (atom.Leaf h) = size_of h
atom_size _ = 0

keyword_size : (d : Dialect) (k : Keyword) → atom_size (atom_of_keyword d k) ≡ 0
keyword_size d (keyword.Call c) = by_test (is_question c)
  where
    by_test : (t : Bool) → atom_size (cond t (atom.Call c) atom.Nothing) ≡ 0
    by_test true = refl
    by_test false = refl
keyword_size dialect.Condition keyword.Ival = refl
keyword_size dialect.Test keyword.Ival = refl
keyword_size d _ = refl

name_size : (d : Dialect) (word : List ℕ) (n : Option ℤ) → atom_size (atom_of_name d word n) ≡ 0
name_size d word (Some n) = own_size (is_own_predicate d word)
  where
    own_size : (own : Bool) → atom_size (cond own atom.Predicate (atom.Leaf (head.Number n))) ≡ 0
    own_size true = refl
    own_size false = refl
name_size d word None = nothing_size d (code_in_capitals word) (mode_named word)
  where
    nothing_size : (d : Dialect) (c : Option Code) (m : Option Mode) → atom_size (predicate_or_nothing d c m) ≡ 0
    nothing_size dialect.Condition None None = refl
    nothing_size _ _ _ = refl

any_size : (d : Dialect) (cs : List Constant) (word : List ℕ) (k : Option Keyword) → atom_size (atom_by d cs word k) ≡ 0
any_size d cs word (Some k) = by_meaning (constant_named cs word) (atom_of_keyword d k) (keyword_size d k)
  where
    by_meaning : (n : Option ℤ) (a : Atom) → atom_size a ≡ 0 → atom_size (or_constant n a) ≡ 0
    by_meaning None a e = e
    by_meaning (Some n) atom.Nothing e = refl
    by_meaning (Some n) (atom.Leaf h) e = e
    by_meaning (Some n) (atom.Call c) e = e
    by_meaning (Some n) (atom.Compare property) e = e
    by_meaning (Some n) atom.Predicate e = e
any_size d cs word None = by_test (is_target word)
  where
    by_test : (t : Bool) → atom_size (cond t (atom.Leaf (head.Number (target_number word))) (atom_of_name d word (constant_named cs word))) ≡ 0
    by_test true = refl
    by_test false = name_size d word (constant_named cs word)

fact_size : (d : Dialect) (cs : List Constant) (word : List ℕ) (h : CondHead) → atom_of d cs word ≡ atom.Leaf h → size_of h ≡ 0
fact_size d cs word h e = sym (ap atom_size e) ∙ any_size d cs word (keyword_named word)

-- parts that a signature has: so many, each of which grows
abbrev PartsGrow : Signature → List Tree → Type 0
PartsGrow parts trees = (h : CondHead) → size_of h ≡ count parts → Grows (node h trees ∷ [])

-- what is proved of trees of a sort
abbrev Good : Sort → List Tree → Type 0
Good (Parts parts) trees = PartsGrow parts trees
Good _ trees = Grows trees

pub good : (d : Dialect) (cs : List Constant) (sort : Sort) (trees : List Tree) (ts : List Token) → grammar.Is d cs sort trees ts → Good sort trees
good d cs _ _ _ (grammar.Is.number p n) = grows_0 (head.Number (signed W64 n)) refl
good d cs _ _ _ (grammar.Is.fact p word h e) = grows_0 h (fact_size d cs word h e)
good d cs _ _ _ (grammar.Is.asked p word c parts ts e i) = good d cs (Parts (signature_of c)) parts ts i (head.Call c) (call_size_is c)
good d cs _ _ _ (grammar.Is.predicate p word parts ts e i) = good d cs (Parts predicate_parts) parts ts i (head.Predicate word) refl
good d cs _ _ _ (grammar.Is.compare p word name property sign equal h a ts q e i f g) = grows_1 h a (compared_size property equal name h g) (good d cs (One part.Operand) (a ∷ []) ts i)
good d cs _ _ _ (grammar.Is.parens p a ts i) = good d cs (One grammar.expression) (a ∷ []) ts i
good d cs _ _ _ (grammar.Is.before p sign u a ts e i) = grows_1 (head.Unary u) a refl (good d cs (One (part.Expression grammar.unary_level)) (a ∷ []) ts i)
good d cs _ _ _ (grammar.Is.between p op a b ts us le i j) = grows_2 (head.Binary op) a b refl (good d cs (One (part.Expression (grammar.level op))) (a ∷ []) ts i) (good d cs (One (part.Expression (grammar.level op + 1))) (b ∷ []) us j)
good d cs _ _ _ (grammar.Is.choice a b c ts us vs i j k) =
    grows_3 head.Choose a b c refl (good d cs (One (part.Expression 1)) (a ∷ []) ts i) (good d cs (One grammar.expression) (b ∷ []) us j) (good d cs (One grammar.expression) (c ∷ []) vs k)
good d cs _ _ _ (grammar.Is.operand word k e f small) = grows_0 (head.Operand k) refl
good d cs _ _ _ (grammar.Is.tested word e f) = grows_0 (head.Operand 0) refl
good d cs _ _ _ (grammar.Is.window n) = grows_0 (head.Window n) refl
good d cs _ _ _ (grammar.Is.any_mode word m e) = grows_0 (head.Mode m) refl
good d cs _ _ _ (grammar.Is.value_mode word m e) = grows_0 (head.Mode m) refl
good d cs _ _ _ (grammar.Is.value_operand a ts i) = good d cs (One part.Operand) (a ∷ []) ts i
good d cs _ _ _ (grammar.Is.made word c parts ts e f i) = good d cs (Parts (signature_of c)) parts ts i (head.Call c) (call_size_is c)
good d cs _ _ _ grammar.Is.none = λ h e. grows_0 h e
good d cs _ _ _ (grammar.Is.one x a ts i) = λ h e. grows_1 h a e (good d cs (One x) (a ∷ []) ts i)
good d cs _ _ _ (grammar.Is.two x y a b ts us i j) = λ h e. grows_2 h a b e (good d cs (One x) (a ∷ []) ts i) (good d cs (One y) (b ∷ []) us j)
good d cs _ _ _ (grammar.Is.three x y z a b c ts us vs i j k) = λ h e. grows_3 h a b c e (good d cs (One x) (a ∷ []) ts i) (good d cs (One y) (b ∷ []) us j) (good d cs (One z) (c ∷ []) vs k)
good d cs _ _ _ (grammar.Is.assign z word k a ts e small i) = grows_1 (head.Assign k) a refl (good d cs (One part.Value) (a ∷ []) ts i)
good d cs _ _ _ (grammar.Is.move z word parts ts e i) = good d cs (Parts (signature_of call.EmitMove)) parts ts i (head.Call call.EmitMove) refl
good d cs _ _ _ (grammar.Is.done z word e) = grows_0 head.Done refl
good d cs _ _ _ (grammar.Is.fail z word e) = grows_0 head.Fail refl
good d cs _ _ _ (grammar.Is.block z a ts i) = good d cs Statements (a ∷ []) ts i
good d cs _ _ _ (grammar.Is.when word a b ts us e i j) = grows_2 head.If a b refl (good d cs (One grammar.expression) (a ∷ []) ts i) (good d cs (Statement false) (b ∷ []) us j)
good d cs _ _ _ (grammar.Is.when_else z word other a b c ts us vs e f i j k) =
    grows_3 head.IfElse a b c refl (good d cs (One grammar.expression) (a ∷ []) ts i) (good d cs (Statement true) (b ∷ []) us j) (good d cs (Statement z) (c ∷ []) vs k)
good d cs _ _ _ grammar.Is.nothing = grows_0 head.Nothing refl
good d cs _ _ _ (grammar.Is.then a b ts us i j) = grows_2 head.Then a b refl (good d cs (Statement false) (a ∷ []) ts i) (good d cs Statements (b ∷ []) us j)
good d cs _ _ _ grammar.Is.empty = grows_0 (head.Number (pos 1)) refl
good d cs _ _ _ (grammar.Is.whole a ts i) = good d cs (One grammar.expression) (a ∷ []) ts i

-- a tree is what grows from its heads
pub regrown : (t : Tree) → Grows (t ∷ []) → tree_of (heads_of t) ≡ t
regrown t g = ap first_or_nothing (ap (grown []) (sym (append-nil (heads_of t))) ∙ grows_one t g [] [])
