-- What the functions of an input come to as an image: they are compiled as for an assembly, and their
-- lines are assembled. What is written is the text of the image.
use Rattle.std.specs.Prelude.{◌≡◌, ℕ, List, [], ◌∷◌, Ok, Err}
use Rattle.rtx_tree.specs.declared.function.Function.{Function}
use Rattle.rtx_tree.specs.declared.limit.Limit.TheVariants as limit
use Rattle.rv_text.specs.declared.line.CodeItem.{CodeItem}
use Rattle.rv_image.specs.Image.{IsImage, IsTooLong}
use Rattle.rv_image.specs.declared.image.CodeUnit.{CodeUnit}
use Rattle.rv_image.specs.declared.image.Image.{Image}
use Rattle.image_text.specs.Text.{image_text}
use Rattle.run_refusal.specs.declared.refusal.Refusal.{Refusal}
use Rattle.run_refusal.specs.declared.refusal.Refusal.TheVariants as refusal
use Rattle.pass_name.specs.declared.road.Road.TheVariants.{Usual}
use Rattle.md_forms.specs.declared.form.Entry.{Entry}
use Rattle.func_input.specs.Input.{IsInput, InputComesTo}
use Rattle.func_input.specs.Outcome.{Outcome}
use Rattle.law_assembly.specs.func_text.declared.assembly.Assembly.{Assembly}
use Rattle.law_assembly.specs.func_text.Assembly.{AssemblyComes}
use Rattle.law_assembly.specs.func_text.Lines.{IsAssembly}

-- functions with their lines and labels
abbrev pub units_of : List Function → List (List CodeItem) → List CodeUnit
units_of [] parts = []
units_of (f ∷ functions) [] = []
units_of (f ∷ functions) (items ∷ parts) =
    record { name = f.name; items = items } ∷ units_of functions parts

-- what they come to: the text of their image, or the number of its bytes where these are too many
pub data UnitsCome (units : List CodeUnit) : Outcome → Type 0 where
  written : (image : Image) → IsImage units image → UnitsCome units (Ok (image_text image))
  too_long : (size : ℕ) → IsTooLong units size →
      UnitsCome units (Err (refusal.Limit limit.Image size))

-- what some functions come to: what refuses their assembly, or what its lines come to
pub data WordsCome (forms : List Entry) (functions : List Function) : Outcome → Type 0 where
  refused : (e : Refusal) → AssemblyComes forms Usual functions (Err e) →
      WordsCome forms functions (Err e)
  assembled : (a : Assembly) (outcome : Outcome) → AssemblyComes forms Usual functions (Ok a) →
      UnitsCome (units_of functions a.parts) outcome → WordsCome forms functions outcome

-- what the bytes of an input come to
abbrev pub ImageComes : List Entry → List ℕ → Outcome → Type 0
ImageComes forms = InputComesTo (WordsCome forms)

-- a text is that of the image of the lines of an assembly of the functions of an input
pub record TellsImage (forms : List Entry) (bytes text : List ℕ) : Type 0 where
  pub functions : List Function
  pub input : IsInput bytes functions
  pub assembly : Assembly
  pub is_assembly : IsAssembly forms Usual 0 functions assembly
  pub image : Image
  pub is_image : IsImage (units_of functions assembly.parts) image
  pub text_is : text ≡ image_text image

-- some functions have an assembly, and its lines an image
pub record HaveImage (forms : List Entry) (functions : List Function) : Type 0 where
  pub assembly : Assembly
  pub comes : AssemblyComes forms Usual functions (Ok assembly)
  pub image : Image
  pub is_image : IsImage (units_of functions assembly.parts) image
