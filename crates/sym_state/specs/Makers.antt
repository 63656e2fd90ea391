-- What is made of terms in normal form by one step of the rules, by instructions and by lines.
use Rattle.std.specs.Prelude.{ℕ, ◌-◌, ◌^◌, if◌then◌else◌, List, [], ◌∷◌}
use Rattle.bits64.specs.declared.Width.{Width}
use Rattle.bits64.specs.declared.Width.TheVariants.{W8}
use Rattle.bits64.specs.Words.{bits_of}
use Rattle.bits64.specs.declared.operator.Opaque.{Opaque}
use Rattle.bits64.specs.declared.operator.Operator.{Operator}
use Rattle.bits64.specs.declared.operator.Operator.TheVariants as op
use Rattle.bits64.specs.declared.operator.Relation.{Relation}
use Rattle.bits64.specs.declared.operator.Taking.{Taking}
use Rattle.bits64.specs.declared.operator.Taking.TheVariants.{Alone, Pair, Counted}
use Rattle.bits64.specs.Operators.{opaque_taking}
use Rattle.term_tree.specs.declared.head.Head.{Head}
use Rattle.term_tree.specs.declared.head.Head.TheVariants as heads
use Rattle.term_tree.specs.Tree.{Tree}
use Rattle.term_tree.specs.Form.{same_width}
use Rattle.sym_term.specs.term_mean.Stores.{Store}
use Rattle.sym_term.specs.term_mean.Sums.{summed}
use Rattle.sym_term.specs.term_mean.Normal.{built}
use Rattle.sym_term.specs.term_mean.Compared.{compared}

-- the bits of a width, all of them ones: as a coefficient -1
abbrev pub minus_one : Width → ℕ
minus_one w = 2 ^ bits_of w - 1

-- an operator of one part, and of two
abbrev pub one : List Store → Head → Width → Tree → Tree
one stores h w a = built stores h w 0 [] (a ∷ [])

abbrev pub two : List Store → Head → Width → Tree → Tree → Tree
two stores h w a b = built stores h w 0 [] (a ∷ b ∷ [])

-- a truth has 8 bits; in a wider mode it is extended by zeros
abbrev pub truth_in : List Store → Width → Tree → Tree
truth_in stores w t = if same_width w W8 then t else one stores heads.Zext w t

-- the truth of a comparison of two terms of so many bits, in a width
abbrev pub related : List Store → Relation → Width → Width → Tree → Tree → Tree
related stores r own w a b = truth_in stores w (compared r own a b)

-- an operator of which nothing else is known, over one term or two
abbrev pub opaque_term : Taking → List Store → Opaque → Width → Tree → Tree → Tree
opaque_term Alone stores o w a b = one stores (heads.Opaque o) w a
opaque_term Pair stores o w a b = two stores (heads.Opaque o) w a b
opaque_term Counted stores o w a b = two stores (heads.Opaque o) w a b

-- what an operator makes of two terms; where it takes one number, the second counts for nothing
abbrev pub term_of : List Store → Operator → Width → Tree → Tree → Tree
term_of stores op.Add w a b = summed w 0 ((1, a) ∷ (1, b) ∷ [])
term_of stores op.Sub w a b = summed w 0 ((1, a) ∷ (minus_one w, b) ∷ [])
term_of stores op.Neg w a b = summed w 0 ((minus_one w, a) ∷ [])
-- -1 - a
term_of stores op.Not w a b = summed w (minus_one w) ((minus_one w, a) ∷ [])
term_of stores op.Mul w a b = two stores heads.Mul w a b
term_of stores op.And w a b = two stores heads.And w a b
term_of stores op.Ior w a b = two stores heads.Ior w a b
term_of stores op.Xor w a b = two stores heads.Xor w a b
term_of stores op.Shl w a b = two stores heads.Shl w a b
term_of stores op.Shr w a b = two stores heads.Shr w a b
term_of stores op.Sar w a b = two stores heads.Sar w a b
term_of stores (op.Test r) w a b = related stores r w w a b
term_of stores (op.Opaque o) w a b = opaque_term (opaque_taking o) stores o w a b
