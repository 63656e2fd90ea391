-- How a list of a type is made of values of that type, so that a type may hold a list of itself.
use mathlib.Core.Path.{◌≡◌, refl, sym}
use mathlib.Core.List.{List, []}
use mathlib.Core.Former.{Former, this, list, via, children}
use base.Stored.{code_map}
use denote.RattleType.{RattleType}
use denote.HoleLaws.{Alike}
use denote.HolePlaces.{Recodes, struct_places, laid}
use denote.Hole.Carrier.{listed, list-listed}
use denote.Hole.Fix.{over}
use denote.Param.Weighed.{Weighed, w_list}
use denote.Model.Placed.{view_places}
use Rattle.std.specs.formers.vec.Vec as vec
use Rattle.std.specs.declared.alloc.Global.{Global}
use Rattle.std.specs.contracts.alloc.Global as global
use Rattle.std.specs.contracts.impls.GlobalAllocator.TheImpl.{ghosts}
use Rattle.plain_data.specs.declared.items.Items.TheInside.{Inside}
use Rattle.plain_data.specs.declared.items.Items.TheView.{view, invariant}
use Rattle.plain_data.specs.contracts.items.Items as contract
use Rattle.plain_data.specs.contracts.items.Items.TheInside as inside

-- the value is a list, so the former is the list's own
abbrev pub the_former : Former {0} → Former {0}
the_former element = list element

abbrev pub the_weighed : {element : Former {0}} → Weighed element → Weighed (the_former element)
the_weighed weighed = w_list weighed

-- the list of no element, which needs no element to be made
pub the_empty : List ⊥
the_empty = []

abbrev pub the_items : (X : Type 0) → List X → List X
the_items X xs = xs

pub the_items_listed : (X : Type 0) (xs : List X) →
    listed _ (children (the_former this) X xs) ≡ the_items X xs
the_items_listed X xs = list-listed X xs

-- the fields behind the list: one vector
abbrev fields : Former {0}
fields = via (vec.the_former this Global) Inside (λ X inner. inner.vec) (λ X v. record { vec = v }) (λ X inner. refl) (λ X v. refl)

module _ (From To : RattleType) (h : From.Denot → To.Denot) where
  -- the list owns and lends what the vector does
  pub the_places : Alike From To h → Alike (contract.the_row From) (contract.the_row To) ((the_former this).map From.Denot To.Denot h)
  the_places alike =
      view_places fields (list this) view (λ X Y k u. refl) (λ X u. refl) From.Denot To.Denot h (contract.the_row From).coded (contract.the_row To).coded
      (invariant From.Denot) (invariant To.Denot) (λ u p q. refl) (λ u p q. refl) (λ u e. tt) (λ u e. tt)
      (over (inside.the_row From)) (over (inside.the_row To))
      (struct_places (inside.the_type From) (inside.the_type To) (vec.mapped h, tt) _ (λ d. refl) refl (laid _ _ _ (vec.the_places global.the_row ghosts From To h alike), tt))

  pub the_codes_placed : Recodes From To h → Recodes (contract.the_row From) (contract.the_row To) ((the_former this).map From.Denot To.Denot h)
  the_codes_placed same xs = sym (code_map From.coded.code To.coded.code h (λ x. sym (same x)) xs)
