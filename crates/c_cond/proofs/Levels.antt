-- What binds more tightly may stand where less is wanted, and a statement may be any where it need not be closed.
use Rattle.std.proofs.Common.{◌≡◌, ℕ, ◌≤◌, Bool, false, List, subst, arith}
use Rattle.rtx_tree.specs.declared.constants.Constant.{Constant}
use Rattle.c_words.specs.declared.head.CondHead.{CondHead}
use Rattle.c_words.specs.declared.atom.Dialect.{Dialect}
use Rattle.c_words.specs.declared.token.Token.{Token}
use Rattle.c_cond.specs.declared.part.Part.TheVariants as part
use Rattle.c_cond.specs.Grammar.{One, Statement}
use Rattle.c_cond.specs.machine.Flat.{Is}

at_zero : (d : Dialect) (cs : List Constant) (p : ℕ) (c : List CondHead) (ts : List Token) → p ≤ 0 → Is d cs (One (part.Expression 0)) c ts → Is d cs (One (part.Expression p)) c ts
at_zero d cs p c ts le i =
    let none : 0 ≡ p = omega arith in
    subst (λ (k : ℕ). Is d cs (One (part.Expression k)) c ts) none i

pub looser : (d : Dialect) (cs : List Constant) (p m : ℕ) (c : List CondHead) (ts : List Token) → p ≤ m → Is d cs (One (part.Expression m)) c ts → Is d cs (One (part.Expression p)) c ts
looser d cs p _ _ _ le (Is.number m n) = Is.number p n
looser d cs p _ _ _ le (Is.leaf m word h e) = Is.leaf p word h e
looser d cs p _ _ _ le (Is.asked m word c parts ts e i) = Is.asked p word c parts ts e i
looser d cs p _ _ _ le (Is.predicate m word parts ts e i) = Is.predicate p word parts ts e i
looser d cs p _ _ _ le (Is.compare m word name property sign equal h operand ts q e i f g) = Is.compare p word name property sign equal h operand ts (omega arith) e i f g
looser d cs p _ _ _ le (Is.parens m a ts i) = Is.parens p a ts i
looser d cs p _ _ _ le (Is.before m sign u a ts e i) = Is.before p sign u a ts e i
looser d cs p _ _ _ le (Is.between m op a b ts us q i j) = Is.between p op a b ts us (omega arith) i j
looser d cs p _ _ _ le (Is.choice a b c ts us vs i j k) = at_zero d cs p _ _ le (Is.choice a b c ts us vs i j k)

pub any_statement : (d : Dialect) (cs : List Constant) (z : Bool) (c : List CondHead) (ts : List Token) → Is d cs (Statement z) c ts → Is d cs (Statement false) c ts
any_statement d cs _ _ _ (Is.assign z word k a ts e q i) = Is.assign false word k a ts e q i
any_statement d cs _ _ _ (Is.move z word parts ts e i) = Is.move false word parts ts e i
any_statement d cs _ _ _ (Is.done z word e) = Is.done false word e
any_statement d cs _ _ _ (Is.fail z word e) = Is.fail false word e
any_statement d cs _ _ _ (Is.block z a ts i) = Is.block false a ts i
any_statement d cs _ _ _ (Is.when word a b ts us e i j) = Is.when word a b ts us e i j
any_statement d cs _ _ _ (Is.when_else z word other a b c ts us vs e f i j k) = Is.when_else false word other a b c ts us vs e f i j (any_statement d cs z c vs k)
