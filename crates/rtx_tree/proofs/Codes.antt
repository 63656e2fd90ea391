-- Each code stands in the list of all, and is found by its name.
use Rattle.std.proofs.Common.{◌≡◌, ℕ, Some, refl}
use Rattle.std.specs.Prelude.{slice_get}
use Rattle.rtx_tree.specs.Code.{code_name, code_named, all_codes, HasEvery}
use Rattle.rtx_tree.specs.declared.code.Code.{Code}
use Rattle.rtx_tree.specs.declared.code.Code.TheVariants as code

abbrev place_of : Code → ℕ
place_of code.Reg = 0
place_of code.ConstInt = 1
place_of code.SymbolRef = 2
place_of code.Mem = 3
place_of code.Subreg = 4
place_of code.Plus = 5
place_of code.Minus = 6
place_of code.Mult = 7
place_of code.Div = 8
place_of code.Udiv = 9
place_of code.Mod = 10
place_of code.Umod = 11
place_of code.And = 12
place_of code.Ior = 13
place_of code.Xor = 14
place_of code.Neg = 15
place_of code.Not = 16
place_of code.Ashift = 17
place_of code.Ashiftrt = 18
place_of code.Lshiftrt = 19
place_of code.SignExtend = 20
place_of code.ZeroExtend = 21
place_of code.Truncate = 22
place_of code.Eq = 23
place_of code.Ne = 24
place_of code.Lt = 25
place_of code.Le = 26
place_of code.Gt = 27
place_of code.Ge = 28
place_of code.Ltu = 29
place_of code.Leu = 30
place_of code.Gtu = 31
place_of code.Geu = 32
place_of code.Set = 33
place_of code.Use = 34
place_of code.Clobber = 35
place_of code.Parallel = 36
place_of code.Call = 37
place_of code.Return = 38
place_of code.Pc = 39
place_of code.LabelRef = 40
place_of code.IfThenElse = 41
place_of code.Scratch = 42
place_of code.MatchOperand = 43
place_of code.MatchDup = 44
place_of code.MatchScratch = 45
place_of code.MatchOperator = 46
place_of code.MatchOpDup = 47

-- each code stands in the list
stands : (c : Code) → slice_get all_codes (place_of c) ≡ Some c
stands code.Reg = refl
stands code.ConstInt = refl
stands code.SymbolRef = refl
stands code.Mem = refl
stands code.Subreg = refl
stands code.Plus = refl
stands code.Minus = refl
stands code.Mult = refl
stands code.Div = refl
stands code.Udiv = refl
stands code.Mod = refl
stands code.Umod = refl
stands code.And = refl
stands code.Ior = refl
stands code.Xor = refl
stands code.Neg = refl
stands code.Not = refl
stands code.Ashift = refl
stands code.Ashiftrt = refl
stands code.Lshiftrt = refl
stands code.SignExtend = refl
stands code.ZeroExtend = refl
stands code.Truncate = refl
stands code.Eq = refl
stands code.Ne = refl
stands code.Lt = refl
stands code.Le = refl
stands code.Gt = refl
stands code.Ge = refl
stands code.Ltu = refl
stands code.Leu = refl
stands code.Gtu = refl
stands code.Geu = refl
stands code.Set = refl
stands code.Use = refl
stands code.Clobber = refl
stands code.Parallel = refl
stands code.Call = refl
stands code.Return = refl
stands code.Pc = refl
stands code.LabelRef = refl
stands code.IfThenElse = refl
stands code.Scratch = refl
stands code.MatchOperand = refl
stands code.MatchDup = refl
stands code.MatchScratch = refl
stands code.MatchOperator = refl
stands code.MatchOpDup = refl

pub has_every : HasEvery
has_every c = (place_of c, stands c)

pub named_again : (c : Code) → code_named (code_name c) ≡ Some c
unfolding code_named
named_again code.Reg = refl
named_again _ = refl
