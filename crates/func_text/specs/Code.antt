-- A function of an input with its code: the lines and labels that its part of the input's assembly
-- spells.
use Rattle.std.specs.Prelude.{◌≡◌, ℕ, Bool, false, List, Option, Some, None, is_some, slice_get, Result, Ok, Err}
use Rattle.std.specs.List.{position_from}
use Rattle.std.specs.Str.{bytes_eq}
use Rattle.rtx_tree.specs.declared.function.Function.{Function}
use Rattle.run_refusal.specs.declared.refusal.Refusal.{Refusal}
use Rattle.run_refusal.specs.declared.refusal.Refusal.TheVariants as refusal
use Rattle.pass_name.specs.declared.road.Road.TheVariants.{Usual}
use Rattle.md_forms.specs.declared.form.Entry.{Entry}
use Rattle.func_input.specs.Input.{IsRead, IsInput}
use Rattle.func_text.specs.declared.assembly.Assembly.{Assembly}
use Rattle.func_text.specs.declared.code.Coded.{Coded}
use Rattle.func_text.specs.Compile.{FunctionsCome, InputComes}
use Rattle.func_text.specs.Lines.{IsAssembly}
use Rattle.func_text.specs.Same.{AreParts}

abbrev pub is_named : List ℕ → Function → Bool
is_named name f = bytes_eq f.name name

-- the place of the first function with a name, counted from 0
abbrev pub place_named : List Function → List ℕ → Option ℕ
place_named functions name = position_from (is_named name) 0 functions

-- one of some functions has a name
abbrev pub has_named : List Function → List ℕ → Bool
has_named functions name = is_some (place_named functions name)

-- the function at a place, with what stands there among the parts of an assembly
pub record IsCodedAt (functions : List Function) (a : Assembly) (place : ℕ) (c : Coded) : Type 0 where
  pub function : slice_get functions place ≡ Some c.function
  pub items : slice_get a.parts place ≡ Some c.items

-- a function with its code, or a refusal
abbrev pub Answer : Type 0
Answer = Result Coded Refusal

-- what is told is given; a refusal is the one that is told; want of memory is free,
-- and no fault is told
abbrev pub Gives : Answer → (Answer → Type 0) → Type 0
Gives (Err refusal.Memory) P = Unit {0}
Gives (Err refusal.ReadFault) P = ⊥
Gives (Err refusal.WriteFault) P = ⊥
Gives answer P = P answer

-- What a name among functions comes to. What refuses the functions refuses it, but whether one of
-- them has the name is looked at first.
pub data NameComes (forms : List Entry) (functions : List Function) (name : List ℕ) : Answer → Type 0 where
  unnamed : place_named functions name ≡ None → NameComes forms functions name (Err refusal.Usage)
  refused : (place : ℕ) (e : Refusal) → place_named functions name ≡ Some place →
      FunctionsCome forms Usual functions (Err e) → NameComes forms functions name (Err e)
  coded : (place : ℕ) (a : Assembly) (c : Coded) → place_named functions name ≡ Some place →
      FunctionsCome forms Usual functions (Ok a) → IsCodedAt functions a place c →
      NameComes forms functions name (Ok c)

-- What a name comes to in the bytes of an input. Bytes that are not read as functions are refused
-- as their assembly is.
pub data CodeComes (forms : List Entry) (bytes name : List ℕ) : Answer → Type 0 where
  unread : (e : Refusal) → ((functions : List Function) → ¬ IsRead bytes functions) →
      InputComes forms Usual bytes (Err e) → CodeComes forms bytes name (Err e)
  read : (functions : List Function) (answer : Answer) → IsRead bytes functions →
      NameComes forms functions name answer → CodeComes forms bytes name answer

-- no function of the input has the name
abbrev pub IsUnnamed : List ℕ → List ℕ → Type 0
IsUnnamed bytes name =
    (functions : List Function) × IsRead bytes functions × (has_named functions name ≡ false)

-- A function of the input with a name, with its code: the input has an assembly, and the function
-- is the first with the name, with what its part of that text spells.
pub record IsCoded (forms : List Entry) (bytes name : List ℕ) (c : Coded) : Type 0 where
  pub functions : List Function
  pub input : IsInput bytes functions
  pub assembly : Assembly
  pub is_assembly : IsAssembly forms Usual 0 functions assembly
  pub are : AreParts functions assembly.text assembly.parts
  pub place : ℕ
  pub named : place_named functions name ≡ Some place
  pub coded : IsCodedAt functions assembly place c
