-- The passes over a function, by their names: GCC Internals, "Passes and Files of the Compiler" ("RTL
-- passes"). The names are this project's own.
use Rattle.std.specs.Prelude.{ℕ, List, codes, Option, Some, None, if◌then◌else◌}
use Rattle.std.specs.Str.{bytes_eq}
use Rattle.pass_name.specs.declared.pass.Pass.{Pass}
use Rattle.pass_name.specs.declared.pass.Pass.TheVariants.{Read, Lower, Reuse, Combine, Split1, Reload, Frame, Split2, Peephole2, Schedule, Output}

abbrev pub pass_name : Pass → List ℕ
pass_name Read = codes "read"
pass_name Lower = codes "lower"
pass_name Reuse = codes "reuse"
pass_name Combine = codes "combine"
pass_name Split1 = codes "split1"
pass_name Reload = codes "reload"
pass_name Frame = codes "frame"
pass_name Split2 = codes "split2"
pass_name Peephole2 = codes "peephole2"
pass_name Schedule = codes "schedule"
pass_name Output = codes "output"

-- the pass of the usual road with a name behind which a function can be shown
abbrev pub pass_named : List ℕ → Option Pass
pass_named name =
    if bytes_eq name (pass_name Read) then Some Read else (
    if bytes_eq name (pass_name Lower) then Some Lower else (
    if bytes_eq name (pass_name Combine) then Some Combine else (
    if bytes_eq name (pass_name Split1) then Some Split1 else (
    if bytes_eq name (pass_name Reload) then Some Reload else (
    if bytes_eq name (pass_name Frame) then Some Frame else (
    if bytes_eq name (pass_name Split2) then Some Split2 else (
    if bytes_eq name (pass_name Peephole2) then Some Peephole2 else None)))))))
