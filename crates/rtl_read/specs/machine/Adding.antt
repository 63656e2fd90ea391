-- For the contracts of private functions alone: what a call puts behind what was there.
use Rattle.std.specs.Prelude.{◌≡◌, ◌++◌, List, Result, Ok, Err}
use Rattle.lisp_read.specs.declared.refusal.RtlRefusal.{RtlRefusal}
use Rattle.lisp_read.specs.Parsed.{Parsed, stands, construct, Refuses}
use Rattle.rtl_read.specs.declared.parts.Said.{Said}
use Rattle.rtl_read.specs.Function.{said_too}

-- what is read behind these
abbrev pub behind : {A : Type 0} → List A → Parsed (List A) → Parsed (List A)
behind before (stands xs) = stands (before ++ xs)
behind before (construct place name) = construct place name

abbrev pub Adds : {A : Type 0} → Result (Unit {0}) RtlRefusal → List A → List A → Parsed (List A) →
    Type 0
Adds (Ok done) before after p = behind before p ≡ stands after
Adds (Err e) before after p = Refuses e p

abbrev pub said_behind : Said → Parsed Said → Parsed Said
said_behind before (stands said) = stands (said_too before said)
said_behind before (construct place name) = construct place name

abbrev pub AddsSaid : Result (Unit {0}) RtlRefusal → Said → Said → Parsed Said → Type 0
AddsSaid (Ok done) before after p = said_behind before p ≡ stands after
AddsSaid (Err e) before after p = Refuses e p
