-- When the words of an image do what the functions of an input do.
use Rattle.std.specs.Prelude.{◌≡◌, ℕ, ◌≤◌, List, Some, slice_get}
use Rattle.rtx_tree.specs.Limit.{most_frame}
use Rattle.rtx_tree.specs.declared.function.Function.{Function}
use Rattle.rv_text.specs.declared.line.CodeItem.{CodeItem}
use Rattle.rv_image.specs.Image.{IsImage}
use Rattle.rv_image.specs.declared.image.Image.{Image}
use Rattle.image_text.specs.Text.{image_text}
use Rattle.law_image.specs.SameWords.{SameWords}
use Rattle.func_image.specs.Image.{units_of}

-- A function has its entry at a place among those of an image, and the words there have its
-- behaviour, for some size that a frame may have. Its lines are those at this place; the worlds are
-- those that have the image's address for each symbol that they name.
pub record HasWords (f : Function) (parts : List (List CodeItem)) (image : Image) (at : ℕ) : Type 0 where
  pub items : List CodeItem
  pub items_are : slice_get parts at ≡ Some items
  pub address : ℕ
  pub entry : slice_get image.entries at ≡ Some (record { name = f.name; address = address })
  pub size : ℕ
  pub small : size ≤ most_frame
  pub same : SameWords size f items image address

-- a text is that of an image of lines of some functions, and each function has its words there
pub record DoesInWords (functions : List Function) (text : List ℕ) : Type 0 where
  pub parts : List (List CodeItem)
  pub image : Image
  pub is_image : IsImage (units_of functions parts) image
  pub text_is : text ≡ image_text image
  pub does : (at : ℕ) (f : Function) → slice_get functions at ≡ Some f → HasWords f parts image at
