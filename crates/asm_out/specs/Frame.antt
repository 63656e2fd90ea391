-- The lines round those of a function's instructions: "Using as", the directives .text, .align,
-- .globl, .type and .size, and "Labels".
use Rattle.std.specs.Prelude.{ℕ, List, [], ◌∷◌, ◌++◌, codes}
use Rattle.rv_text.specs.Body.{label_text}

abbrev pub section_lines : List ℕ
section_lines = codes "\t.text\n\t.align\t2\n"

abbrev pub global_line : List ℕ → List ℕ
global_line name = codes "\t.globl\t" ++ (name ++ codes "\n")

abbrev pub type_line : List ℕ → List ℕ
type_line name = codes "\t.type\t" ++ (name ++ codes ", @function\n")

abbrev pub name_line : List ℕ → List ℕ
name_line name = name ++ codes ":\n"

abbrev pub name_lines : List ℕ → List ℕ
name_lines name = global_line name ++ (type_line name ++ name_line name)

-- the lines before the instructions of a function
abbrev pub opening_lines : List ℕ → List ℕ
opening_lines name = section_lines ++ name_lines name

-- the line behind them
abbrev pub closing_line : List ℕ → List ℕ
closing_line name = codes "\t.size\t" ++ (name ++ (codes ", .-" ++ (name ++ codes "\n")))

abbrev pub framed : List ℕ → List ℕ → List ℕ
framed name body = opening_lines name ++ (body ++ closing_line name)

-- the line of a label of a function
abbrev pub label_line : ℕ → ℕ → List ℕ
label_line function uid = label_text function uid ++ (58 ∷ 10 ∷ [])
