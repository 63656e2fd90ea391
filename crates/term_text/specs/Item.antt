-- The text of an item in which two sides of a comparison differ.
use Rattle.std.specs.Prelude.{ℕ, List, ◌++◌, codes}
use Rattle.std.specs.Fmt.{decimal}
use Rattle.rtx_tree.specs.Registers.{register_text}
use Rattle.term_text.specs.declared.item.Item.{Item}
use Rattle.term_text.specs.declared.item.Item.TheVariants.{Register, Store, Jump, Call, Need, Shape}

abbrev pub item_text : Item → List ℕ
item_text (Register reg) = codes "register " ++ register_text reg
item_text (Store index) = codes "store " ++ decimal index
item_text Jump = codes "jump"
item_text Call = codes "call"
item_text Need = codes "need"
item_text (Shape index) = codes "shape " ++ decimal index
