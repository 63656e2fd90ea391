-- From trees of the grammar to their heads, and back.
use Rattle.std.proofs.Common.{◌≡◌, ◌+◌, true, false, List, [], ◌∷◌, ◌++◌, refl, sym, ap, subst, ◌∙◌}
use Rattle.std.specs.Prelude.{pos}
use Rattle.std.proofs.lemmas.List.{append-nil}
use Rattle.bits64.specs.Words.{signed}
use Rattle.bits64.specs.declared.Width.TheVariants.{W64}
use Rattle.rtx_tree.specs.declared.constants.Constant.{Constant}
use Rattle.c_words.specs.declared.head.Call.TheVariants as call
use Rattle.c_words.specs.declared.head.CondHead.{CondHead}
use Rattle.c_words.specs.declared.head.CondHead.TheVariants as head
use Rattle.c_words.specs.declared.atom.Dialect.{Dialect}
use Rattle.c_words.specs.declared.token.Token.{Token}
use Rattle.c_cond.specs.declared.part.Part.TheVariants as part
use Rattle.c_cond.specs.declared.tree.Tree.{Tree}
use Rattle.c_cond.specs.Tree.{node, leaf, heads_of}
use Rattle.c_cond.specs.Grammar as grammar
use Rattle.c_cond.specs.Grammar.{Sort, One, Parts, Statement, Statements, signature_of, predicate_parts, expression, unary_level, level}
use Rattle.c_cond.specs.machine.Flat as flat
use Rattle.c_cond.proofs.Growth.{heads_of_all, heads_of-node, one_head, heads_1, heads_2, heads_3, all_1}

-- ---- from trees to heads

reheaded : (d : Dialect) (cs : List Constant) (sort : Sort) (a b : List CondHead) (ts : List Token) → a ≡ b → flat.Is d cs sort a ts → flat.Is d cs sort b ts
reheaded d cs sort a b ts e i = subst (λ (x : List CondHead). flat.Is d cs sort x ts) e i

-- what one tree is, its heads are
single : (d : Dialect) (cs : List Constant) (sort : Sort) (t : Tree) (ts : List Token) → flat.Is d cs sort (heads_of_all (t ∷ [])) ts → flat.Is d cs sort (heads_of t) ts
single d cs sort t ts i = reheaded d cs sort _ _ ts (all_1 t) i

-- heads that are those of one tree
as_tree : (d : Dialect) (cs : List Constant) (sort : Sort) (t : Tree) (c : List CondHead) (ts : List Token) → heads_of t ≡ c → flat.Is d cs sort c ts → flat.Is d cs sort (heads_of_all (t ∷ [])) ts
as_tree d cs sort t c ts e i = reheaded d cs sort _ _ ts (sym e ∙ sym (all_1 t)) i

all_2 : (a b : Tree) → heads_of a ++ heads_of b ≡ heads_of_all (a ∷ b ∷ [])
all_2 a b = ap (λ (x : List CondHead). heads_of a ++ x) (sym (append-nil (heads_of b)))

all_3 : (a b c : Tree) → heads_of a ++ (heads_of b ++ heads_of c) ≡ heads_of_all (a ∷ b ∷ c ∷ [])
all_3 a b c = ap (λ (x : List CondHead). heads_of a ++ (heads_of b ++ x)) (sym (append-nil (heads_of c)))

pub flattened : (d : Dialect) (cs : List Constant) (sort : Sort) (trees : List Tree) (ts : List Token) → grammar.Is d cs sort trees ts → flat.Is d cs sort (heads_of_all trees) ts
flattened d cs _ _ _ (grammar.Is.number p n) = as_tree d cs _ _ _ _ (one_head (head.Number (signed W64 n))) (flat.Is.number p n)
flattened d cs _ _ _ (grammar.Is.fact p word h e) = as_tree d cs _ _ _ _ (one_head h) (flat.Is.leaf p word h e)
flattened d cs _ _ _ (grammar.Is.asked p word c parts ts e i) = as_tree d cs _ _ _ _ (heads_of-node (head.Call c) parts) (flat.Is.asked p word c (heads_of_all parts) ts e (flattened d cs (Parts (signature_of c)) parts ts i))
flattened d cs _ _ _ (grammar.Is.predicate p word parts ts e i) = as_tree d cs _ _ _ _ (heads_of-node (head.Predicate word) parts) (flat.Is.predicate p word (heads_of_all parts) ts e (flattened d cs (Parts predicate_parts) parts ts i))
flattened d cs _ _ _ (grammar.Is.compare p word name property sign equal h a ts le e i f g) =
    as_tree d cs _ _ _ _ (heads_1 h a) (flat.Is.compare p word name property sign equal h (heads_of a) ts le e (single d cs _ a ts (flattened d cs (One part.Operand) (a ∷ []) ts i)) f g)
flattened d cs _ _ _ (grammar.Is.parens p a ts i) = as_tree d cs _ a _ _ refl (flat.Is.parens p (heads_of a) ts (single d cs _ a ts (flattened d cs (One expression) (a ∷ []) ts i)))
flattened d cs _ _ _ (grammar.Is.before p sign u a ts e i) = as_tree d cs _ _ _ _ (heads_1 (head.Unary u) a) (flat.Is.before p sign u (heads_of a) ts e (single d cs _ a ts (flattened d cs (One (part.Expression unary_level)) (a ∷ []) ts i)))
flattened d cs _ _ _ (grammar.Is.between p op a b ts us le i j) =
    as_tree d cs _ _ _ _ (heads_2 (head.Binary op) a b) (flat.Is.between p op (heads_of a) (heads_of b) ts us le (single d cs _ a ts (flattened d cs (One (part.Expression (level op))) (a ∷ []) ts i)) (single d cs _ b us (flattened d cs (One (part.Expression (level op + 1))) (b ∷ []) us j)))
flattened d cs _ _ _ (grammar.Is.choice a b c ts us vs i j k) =
    as_tree d cs _ _ _ _ (heads_3 head.Choose a b c) (flat.Is.choice (heads_of a) (heads_of b) (heads_of c) ts us vs (single d cs _ a ts (flattened d cs (One (part.Expression 1)) (a ∷ []) ts i)) (single d cs _ b us (flattened d cs (One expression) (b ∷ []) us j)) (single d cs _ c vs (flattened d cs (One expression) (c ∷ []) vs k)))
flattened d cs _ _ _ (grammar.Is.operand word k e f small) = as_tree d cs _ _ _ _ (one_head (head.Operand k)) (flat.Is.operand word k e f small)
flattened d cs _ _ _ (grammar.Is.tested word e f) = as_tree d cs _ _ _ _ (one_head (head.Operand 0)) (flat.Is.tested word e f)
flattened d cs _ _ _ (grammar.Is.window n) = as_tree d cs _ _ _ _ (one_head (head.Window n)) (flat.Is.window n)
flattened d cs _ _ _ (grammar.Is.any_mode word m e) = as_tree d cs _ _ _ _ (one_head (head.Mode m)) (flat.Is.any_mode word m e)
flattened d cs _ _ _ (grammar.Is.value_mode word m e) = as_tree d cs _ _ _ _ (one_head (head.Mode m)) (flat.Is.value_mode word m e)
flattened d cs _ _ _ (grammar.Is.value_operand a ts i) = flat.Is.value_operand _ ts (flattened d cs (One part.Operand) (a ∷ []) ts i)
flattened d cs _ _ _ (grammar.Is.made word c parts ts e f i) = as_tree d cs _ _ _ _ (heads_of-node (head.Call c) parts) (flat.Is.made word c (heads_of_all parts) ts e f (flattened d cs (Parts (signature_of c)) parts ts i))
flattened d cs _ _ _ grammar.Is.none = flat.Is.none
flattened d cs _ _ _ (grammar.Is.one x a ts i) = flat.Is.one x _ ts (flattened d cs (One x) (a ∷ []) ts i)
flattened d cs _ _ _ (grammar.Is.two x y a b ts us i j) =
    reheaded d cs _ _ _ _ (all_2 a b) (flat.Is.two x y (heads_of a) (heads_of b) ts us (single d cs _ a ts (flattened d cs (One x) (a ∷ []) ts i)) (single d cs _ b us (flattened d cs (One y) (b ∷ []) us j)))
flattened d cs _ _ _ (grammar.Is.three x y z a b c ts us vs i j k) =
    reheaded d cs _ _ _ _ (all_3 a b c) (flat.Is.three x y z (heads_of a) (heads_of b) (heads_of c) ts us vs (single d cs _ a ts (flattened d cs (One x) (a ∷ []) ts i)) (single d cs _ b us (flattened d cs (One y) (b ∷ []) us j)) (single d cs _ c vs (flattened d cs (One z) (c ∷ []) vs k)))
flattened d cs _ _ _ (grammar.Is.assign z word k a ts e small i) = as_tree d cs _ _ _ _ (heads_1 (head.Assign k) a) (flat.Is.assign z word k (heads_of a) ts e small (single d cs _ a ts (flattened d cs (One part.Value) (a ∷ []) ts i)))
flattened d cs _ _ _ (grammar.Is.move z word parts ts e i) = as_tree d cs _ _ _ _ (heads_of-node (head.Call call.EmitMove) parts) (flat.Is.move z word (heads_of_all parts) ts e (flattened d cs (Parts (signature_of call.EmitMove)) parts ts i))
flattened d cs _ _ _ (grammar.Is.done z word e) = as_tree d cs _ _ _ _ (one_head head.Done) (flat.Is.done z word e)
flattened d cs _ _ _ (grammar.Is.fail z word e) = as_tree d cs _ _ _ _ (one_head head.Fail) (flat.Is.fail z word e)
flattened d cs _ _ _ (grammar.Is.block z a ts i) = flat.Is.block z _ ts (flattened d cs Statements (a ∷ []) ts i)
flattened d cs _ _ _ (grammar.Is.when word a b ts us e i j) =
    as_tree d cs _ _ _ _ (heads_2 head.If a b) (flat.Is.when word (heads_of a) (heads_of b) ts us e (single d cs _ a ts (flattened d cs (One expression) (a ∷ []) ts i)) (single d cs _ b us (flattened d cs (Statement false) (b ∷ []) us j)))
flattened d cs _ _ _ (grammar.Is.when_else z word other a b c ts us vs e f i j k) =
    as_tree d cs _ _ _ _ (heads_3 head.IfElse a b c) (flat.Is.when_else z word other (heads_of a) (heads_of b) (heads_of c) ts us vs e f (single d cs _ a ts (flattened d cs (One expression) (a ∷ []) ts i)) (single d cs _ b us (flattened d cs (Statement true) (b ∷ []) us j)) (single d cs _ c vs (flattened d cs (Statement z) (c ∷ []) vs k)))
flattened d cs _ _ _ grammar.Is.nothing = as_tree d cs _ _ _ _ (one_head head.Nothing) flat.Is.nothing
flattened d cs _ _ _ (grammar.Is.then a b ts us i j) =
    as_tree d cs _ _ _ _ (heads_2 head.Then a b) (flat.Is.then (heads_of a) (heads_of b) ts us (single d cs _ a ts (flattened d cs (Statement false) (a ∷ []) ts i)) (single d cs _ b us (flattened d cs Statements (b ∷ []) us j)))
flattened d cs _ _ _ grammar.Is.empty = as_tree d cs _ _ _ _ (one_head (head.Number (pos 1))) flat.Is.empty
flattened d cs _ _ _ (grammar.Is.whole a ts i) = flat.Is.whole _ ts (flattened d cs (One expression) (a ∷ []) ts i)

-- ---- from heads to trees

-- a tree with these heads
abbrev GrownOne : Dialect → List Constant → Sort → List CondHead → List Token → Type 0
GrownOne d cs sort c ts = (t : Tree) × (heads_of t ≡ c) × grammar.Is d cs sort (t ∷ []) ts

abbrev Grown : Dialect → List Constant → Sort → List CondHead → List Token → Type 0
Grown d cs (Parts parts) c ts = (trees : List Tree) × (heads_of_all trees ≡ c) × grammar.Is d cs (Parts parts) trees ts
Grown d cs sort c ts = GrownOne d cs sort c ts

plus_head : (a b : List CondHead) (h : CondHead) → a ≡ b → a ++ h ∷ [] ≡ b ++ h ∷ []
plus_head a b h e = ap (λ (x : List CondHead). x ++ h ∷ []) e

plus_two : (a b c e : List CondHead) (h : CondHead) → a ≡ c → b ≡ e → a ++ (b ++ h ∷ []) ≡ c ++ (e ++ h ∷ [])
plus_two a b c e h p q = rw (p, q) refl

plus_three : (a b c x y z : List CondHead) (h : CondHead) → a ≡ x → b ≡ y → c ≡ z → a ++ (b ++ (c ++ h ∷ [])) ≡ x ++ (y ++ (z ++ h ∷ []))
plus_three a b c x y z h p q r = rw (p, q, r) refl

both_same : (a b c e : List CondHead) → a ≡ c → b ≡ e → a ++ b ≡ c ++ e
both_same a b c e p q = rw (p, q) refl

three_same : (a b c x y z : List CondHead) → a ≡ x → b ≡ y → c ≡ z → a ++ (b ++ c) ≡ x ++ (y ++ z)
three_same a b c x y z p q r = rw (p, q, r) refl

pub grow : (d : Dialect) (cs : List Constant) (sort : Sort) (c : List CondHead) (ts : List Token) → flat.Is d cs sort c ts → Grown d cs sort c ts
grow d cs _ _ _ (flat.Is.number p n) = (leaf (head.Number (signed W64 n)), one_head (head.Number (signed W64 n)), grammar.Is.number p n)
grow d cs _ _ _ (flat.Is.leaf p word h e) = (leaf h, one_head h, grammar.Is.fact p word h e)
grow d cs _ _ _ (flat.Is.asked p word c parts ts e i) =
    let g : Grown d cs (Parts (signature_of c)) parts ts = grow d cs (Parts (signature_of c)) parts ts i in
    (node (head.Call c) g.0, heads_of-node (head.Call c) g.0 ∙ plus_head _ _ (head.Call c) g.1, grammar.Is.asked p word c g.0 ts e g.2)
grow d cs _ _ _ (flat.Is.predicate p word parts ts e i) =
    let g : Grown d cs (Parts predicate_parts) parts ts = grow d cs (Parts predicate_parts) parts ts i in
    (node (head.Predicate word) g.0, heads_of-node (head.Predicate word) g.0 ∙ plus_head _ _ (head.Predicate word) g.1, grammar.Is.predicate p word g.0 ts e g.2)
grow d cs _ _ _ (flat.Is.compare p word name property sign equal h a ts le e i f k) =
    let g : GrownOne d cs (One part.Operand) a ts = grow d cs (One part.Operand) a ts i in
    (node h (g.0 ∷ []), heads_1 h g.0 ∙ plus_head _ _ h g.1, grammar.Is.compare p word name property sign equal h g.0 ts le e g.2 f k)
grow d cs _ _ _ (flat.Is.parens p a ts i) = let g : GrownOne d cs (One expression) a ts = grow d cs (One expression) a ts i in (g.0, g.1, grammar.Is.parens p g.0 ts g.2)
grow d cs _ _ _ (flat.Is.before p sign u a ts e i) =
    let g : GrownOne d cs (One (part.Expression unary_level)) a ts = grow d cs (One (part.Expression unary_level)) a ts i in
    (node (head.Unary u) (g.0 ∷ []), heads_1 (head.Unary u) g.0 ∙ plus_head _ _ (head.Unary u) g.1, grammar.Is.before p sign u g.0 ts e g.2)
grow d cs _ _ _ (flat.Is.between p op a b ts us le i j) =
    let g : GrownOne d cs (One (part.Expression (level op))) a ts = grow d cs (One (part.Expression (level op))) a ts i in
    let k : GrownOne d cs (One (part.Expression (level op + 1))) b us = grow d cs (One (part.Expression (level op + 1))) b us j in
    (node (head.Binary op) (g.0 ∷ k.0 ∷ []), heads_2 (head.Binary op) g.0 k.0 ∙ plus_two _ _ _ _ (head.Binary op) g.1 k.1, grammar.Is.between p op g.0 k.0 ts us le g.2 k.2)
grow d cs _ _ _ (flat.Is.choice a b c ts us vs i j l) =
    let g : GrownOne d cs (One (part.Expression 1)) a ts = grow d cs (One (part.Expression 1)) a ts i in
    let k : GrownOne d cs (One expression) b us = grow d cs (One expression) b us j in
    let m : GrownOne d cs (One expression) c vs = grow d cs (One expression) c vs l in
    (node head.Choose (g.0 ∷ k.0 ∷ m.0 ∷ []), heads_3 head.Choose g.0 k.0 m.0 ∙ plus_three _ _ _ _ _ _ head.Choose g.1 k.1 m.1, grammar.Is.choice g.0 k.0 m.0 ts us vs g.2 k.2 m.2)
grow d cs _ _ _ (flat.Is.operand word k e f small) = (leaf (head.Operand k), one_head (head.Operand k), grammar.Is.operand word k e f small)
grow d cs _ _ _ (flat.Is.tested word e f) = (leaf (head.Operand 0), one_head (head.Operand 0), grammar.Is.tested word e f)
grow d cs _ _ _ (flat.Is.window n) = (leaf (head.Window n), one_head (head.Window n), grammar.Is.window n)
grow d cs _ _ _ (flat.Is.any_mode word m e) = (leaf (head.Mode m), one_head (head.Mode m), grammar.Is.any_mode word m e)
grow d cs _ _ _ (flat.Is.value_mode word m e) = (leaf (head.Mode m), one_head (head.Mode m), grammar.Is.value_mode word m e)
grow d cs _ _ _ (flat.Is.value_operand a ts i) = let g : GrownOne d cs (One part.Operand) a ts = grow d cs (One part.Operand) a ts i in (g.0, g.1, grammar.Is.value_operand g.0 ts g.2)
grow d cs _ _ _ (flat.Is.made word c parts ts e f i) =
    let g : Grown d cs (Parts (signature_of c)) parts ts = grow d cs (Parts (signature_of c)) parts ts i in
    (node (head.Call c) g.0, heads_of-node (head.Call c) g.0 ∙ plus_head _ _ (head.Call c) g.1, grammar.Is.made word c g.0 ts e f g.2)
grow d cs _ _ _ flat.Is.none = ([], refl, grammar.Is.none)
grow d cs _ _ _ (flat.Is.one x a ts i) = let g : GrownOne d cs (One x) a ts = grow d cs (One x) a ts i in (g.0 ∷ [], all_1 g.0 ∙ g.1, grammar.Is.one x g.0 ts g.2)
grow d cs _ _ _ (flat.Is.two x y a b ts us i j) =
    let g : GrownOne d cs (One x) a ts = grow d cs (One x) a ts i in
    let k : GrownOne d cs (One y) b us = grow d cs (One y) b us j in
    (g.0 ∷ k.0 ∷ [], sym (all_2 g.0 k.0) ∙ both_same _ _ _ _ g.1 k.1, grammar.Is.two x y g.0 k.0 ts us g.2 k.2)
grow d cs _ _ _ (flat.Is.three x y z a b c ts us vs i j l) =
    let g : GrownOne d cs (One x) a ts = grow d cs (One x) a ts i in
    let k : GrownOne d cs (One y) b us = grow d cs (One y) b us j in
    let m : GrownOne d cs (One z) c vs = grow d cs (One z) c vs l in
    (g.0 ∷ k.0 ∷ m.0 ∷ [], sym (all_3 g.0 k.0 m.0) ∙ three_same _ _ _ _ _ _ g.1 k.1 m.1, grammar.Is.three x y z g.0 k.0 m.0 ts us vs g.2 k.2 m.2)
grow d cs _ _ _ (flat.Is.assign z word k a ts e small i) =
    let g : GrownOne d cs (One part.Value) a ts = grow d cs (One part.Value) a ts i in
    (node (head.Assign k) (g.0 ∷ []), heads_1 (head.Assign k) g.0 ∙ plus_head _ _ (head.Assign k) g.1, grammar.Is.assign z word k g.0 ts e small g.2)
grow d cs _ _ _ (flat.Is.move z word parts ts e i) =
    let g : Grown d cs (Parts (signature_of call.EmitMove)) parts ts = grow d cs (Parts (signature_of call.EmitMove)) parts ts i in
    (node (head.Call call.EmitMove) g.0, heads_of-node (head.Call call.EmitMove) g.0 ∙ plus_head _ _ (head.Call call.EmitMove) g.1, grammar.Is.move z word g.0 ts e g.2)
grow d cs _ _ _ (flat.Is.done z word e) = (leaf head.Done, one_head head.Done, grammar.Is.done z word e)
grow d cs _ _ _ (flat.Is.fail z word e) = (leaf head.Fail, one_head head.Fail, grammar.Is.fail z word e)
grow d cs _ _ _ (flat.Is.block z a ts i) = let g : GrownOne d cs Statements a ts = grow d cs Statements a ts i in (g.0, g.1, grammar.Is.block z g.0 ts g.2)
grow d cs _ _ _ (flat.Is.when word a b ts us e i j) =
    let g : GrownOne d cs (One expression) a ts = grow d cs (One expression) a ts i in
    let k : GrownOne d cs (Statement false) b us = grow d cs (Statement false) b us j in
    (node head.If (g.0 ∷ k.0 ∷ []), heads_2 head.If g.0 k.0 ∙ plus_two _ _ _ _ head.If g.1 k.1, grammar.Is.when word g.0 k.0 ts us e g.2 k.2)
grow d cs _ _ _ (flat.Is.when_else z word other a b c ts us vs e f i j l) =
    let g : GrownOne d cs (One expression) a ts = grow d cs (One expression) a ts i in
    let k : GrownOne d cs (Statement true) b us = grow d cs (Statement true) b us j in
    let m : GrownOne d cs (Statement z) c vs = grow d cs (Statement z) c vs l in
    (node head.IfElse (g.0 ∷ k.0 ∷ m.0 ∷ []), heads_3 head.IfElse g.0 k.0 m.0 ∙ plus_three _ _ _ _ _ _ head.IfElse g.1 k.1 m.1, grammar.Is.when_else z word other g.0 k.0 m.0 ts us vs e f g.2 k.2 m.2)
grow d cs _ _ _ flat.Is.nothing = (leaf head.Nothing, one_head head.Nothing, grammar.Is.nothing)
grow d cs _ _ _ (flat.Is.then a b ts us i j) =
    let g : GrownOne d cs (Statement false) a ts = grow d cs (Statement false) a ts i in
    let k : GrownOne d cs Statements b us = grow d cs Statements b us j in
    (node head.Then (g.0 ∷ k.0 ∷ []), heads_2 head.Then g.0 k.0 ∙ plus_two _ _ _ _ head.Then g.1 k.1, grammar.Is.then g.0 k.0 ts us g.2 k.2)
grow d cs _ _ _ flat.Is.empty = (leaf (head.Number (pos 1)), one_head (head.Number (pos 1)), grammar.Is.empty)
grow d cs _ _ _ (flat.Is.whole a ts i) = let g : GrownOne d cs (One expression) a ts = grow d cs (One expression) a ts i in (g.0, g.1, grammar.Is.whole g.0 ts g.2)
