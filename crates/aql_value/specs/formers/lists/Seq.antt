-- How a `Seq` stores its items, so that a type may hold itself in one.
use mathlib.Core.Former.{Former, this, list, via, children}
use mathlib.Core.List.{List, []}
use mathlib.Core.Path.{◌≡◌, refl, sym}
use base.Stored.{code_map}
use denote.RattleType.{RattleType}
use denote.Hole.Carrier.{listed, list-listed}
use denote.Hole.Fix.{over}
use denote.HoleLaws.{Alike}
use denote.HolePlaces.{Recodes, struct_places, laid}
use denote.Model.Placed.{view_places}
use denote.Param.Weighed.{Weighed, w_list}
use Rattle.std.specs.declared.alloc.Global.{Global}
use Rattle.std.specs.contracts.alloc.Global as global
use Rattle.std.specs.contracts.impls.GlobalAllocator.TheImpl.{ghosts}
use Rattle.std.specs.formers.vec.Vec as vec
use Rattle.aql_value.specs.contracts.lists.Seq as seq
use Rattle.aql_value.specs.contracts.lists.Seq.TheInside as inside
use Rattle.aql_value.specs.declared.lists.Seq.TheInside.{Inside}
use Rattle.aql_value.specs.declared.lists.Seq.TheView.{view, invariant}

abbrev pub the_former : Former {0} → Former {0}
the_former item = list item

abbrev pub the_weighed : {item : Former {0}} → Weighed item → Weighed (the_former item)
the_weighed weighed = w_list weighed

pub the_empty : List ⊥
the_empty = []

abbrev pub the_items : (T : Type 0) → List T → List T
the_items T items = items

pub the_items_listed : (T : Type 0) (items : List T)
    → listed _ (children (the_former this) T items) ≡ the_items T items
the_items_listed T items = list-listed T items

-- the struct's own field, a `Vec` of items
abbrev own : Former {0}
own = via (vec.the_former this Global) Inside (λ T s. s.items) (λ T items. record { items = items })
    (λ T s. refl) (λ T items. refl)

module _ (from to : RattleType) (h : from.Denot → to.Denot) where
  pub the_places : Alike from to h
      → Alike (seq.the_row from) (seq.the_row to) ((the_former this).map from.Denot to.Denot h)
  the_places alike = view_places own (list this) view (λ X Y f s. refl) (λ X s. refl) from.Denot to.Denot h
      (seq.the_row from).coded (seq.the_row to).coded
      (invariant from.Denot) (invariant to.Denot) (λ s p q. refl) (λ s p q. refl) (λ s e. tt) (λ s e. tt)
      (over (inside.the_row from)) (over (inside.the_row to))
      (struct_places (inside.the_type from) (inside.the_type to) (vec.mapped h, tt) _ (λ s. refl) refl
      (laid _ _ _ (vec.the_places global.the_row ghosts from to h alike), tt))

  pub the_codes_placed : Recodes from to h
      → Recodes (seq.the_row from) (seq.the_row to) ((the_former this).map from.Denot to.Denot h)
  the_codes_placed same items = sym (code_map from.coded.code to.coded.code h (λ t. sym (same t)) items)
