-- Which heads join parts that are cut or extended, and what becomes of another operator over one
-- part.
use Rattle.std.specs.Prelude.{Option, Some, None}
use Rattle.bits64.specs.declared.Width.{Width}
use Rattle.term_tree.specs.declared.head.Extension.{Extension}
use Rattle.term_tree.specs.declared.head.Head.{Head}
use Rattle.term_tree.specs.declared.head.Head.TheVariants as heads
use Rattle.term_tree.specs.declared.head.Joint.{Joint}
use Rattle.term_tree.specs.declared.head.Joint.TheVariants.{Mul, And, Ior, Xor}
use Rattle.term_tree.specs.Tree.{Tree}
use Rattle.term_mean.specs.Cuts.{one_part, extension_cut}
use Rattle.term_mean.specs.Extensions.{extension, of_sign, of_zeros}

-- the operator whose parts are cut, of a head that is one
abbrev pub joint_in : Head → Option Joint
joint_in heads.Mul = Some Mul
joint_in heads.And = Some And
joint_in heads.Ior = Some Ior
joint_in heads.Xor = Some Xor
joint_in h = None

-- what another operator t over one part p is cut to, where q is p cut
abbrev pub part_cut : Head → Width → Tree → Tree → Tree → Tree
part_cut heads.Trunc m t p q = q
part_cut heads.Zext m t p q = extension_cut heads.Zext m p q
part_cut heads.Sext m t p q = extension_cut heads.Sext m p q
part_cut h m t p q = one_part heads.Trunc m t

-- the operator on bits whose parts are extended, of a head that is one
abbrev pub bits_joint_in : Head → Option Joint
bits_joint_in heads.And = Some And
bits_joint_in heads.Ior = Some Ior
bits_joint_in heads.Xor = Some Xor
bits_joint_in h = None

-- the extension of kind e of another operator t of v bits over one part p
abbrev pub part_extended : Extension → Head → Width → Width → Tree → Tree → Tree
part_extended e heads.Zext m v t p = of_zeros e m v t p
part_extended e heads.Sext m v t p = of_sign e m v t p
part_extended e h m v t p = extension e m t
