-- A text with its `<..>` replaced: GCC Internals, "Iterators", "Substitutions".
use Rattle.std.specs.Prelude.{ℕ, ◌==◌, List, [], ◌∷◌, ◌++◌, Option, Some, None, if◌then◌else◌}
use Rattle.std.specs.Option.{unwrap_or}

-- <name>, replaced where something stands for it
abbrev pub closed : (List ℕ → Option (List ℕ)) → List ℕ → List ℕ
closed filling name = unwrap_or (filling name) (60 ∷ (name ++ 62 ∷ []))

-- one byte more: what is written at it, and the name that is begun behind it, which is what stands
-- behind the last < that no > closed
abbrev pub next : (List ℕ → Option (List ℕ)) → Option (List ℕ) → ℕ → List ℕ × Option (List ℕ)
next filling None byte = if byte == 60 then ([], Some []) else (byte ∷ [], None)
next filling (Some name) byte = if byte == 62 then (closed filling name, None)
    else if byte == 60 then (60 ∷ name, Some [])
    else ([], Some (name ++ byte ∷ []))

-- a name that nothing closed
abbrev pub unclosed : Option (List ℕ) → List ℕ
unclosed None = []
unclosed (Some name) = 60 ∷ name

abbrev pub filled_from : (List ℕ → Option (List ℕ)) → Option (List ℕ) → List ℕ → List ℕ
filled_from filling name [] = unclosed name
filled_from filling name (byte ∷ rest) =
    (next filling name byte).0 ++ filled_from filling (next filling name byte).1 rest

abbrev pub filled : (List ℕ → Option (List ℕ)) → List ℕ → List ℕ
filled filling text = filled_from filling None text
