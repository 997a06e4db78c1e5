-- What stands at places as it is declared, and what a store and locals have to be.
use Rattle.std.proofs.Common.{◌≡◌, ℕ, true, false, Some, slice_get}
use Rattle.tsa_tree.specs.declared.kind.Kind.TheVariants as type
use Rattle.tsa_tree.specs.declared.kind.ThingType.{ThingType}
use Rattle.tsa_tree.specs.types.Scopes.{Scope}
use Rattle.tsa_place_model.specs.declared.place.Placed.{Placed}
use Rattle.tsa_place_model.specs.Layouts.{Part, structure_at}
use Rattle.tsa_place_model.specs.Calls.{Layout, global_place, member_place, element_place, kind_at, is_structure}
use Rattle.tsa_place_model.specs.Stores.{Store}
use Rattle.tsa_core.specs.Kinds.{Setting}
use Rattle.tsa_path.specs.ArgumentLaws.{Serves}
use Rattle.tsa_path.specs.Laws.{Locals}

-- what stands at a place has the kind of a thing, and a cell is const where the thing is declared so
pub record Bears (l : Layout) (place : ℕ) (t : ThingType) : Type 0 where
  pub placed : Placed
  pub there : slice_get l.places place ≡ Some placed
  pub kind : placed.kind ≡ t.kind
  pub constant : is_structure t.kind ≡ false → t.is_const ≡ true → placed.is_const ≡ true

-- globals, members and elements stand where the layout says, each as it is declared
pub record StandsDeclared (l : Layout) : Type 0 where
  pub globals : (n place : ℕ) (part : Part) → slice_get l.globals n ≡ Some part → global_place l n ≡ Some place → Bears l place part.thing
  pub members : (owner struct k place : ℕ) (part : Part) → kind_at l owner ≡ Some (type.Structure struct)
      → slice_get (structure_at l.structs struct).members k ≡ Some part → member_place l owner k ≡ Some place → Bears l place part.thing
  pub elements : (first i place : ℕ) (t : ThingType) → Bears l first t → element_place l first i ≡ Some place → Bears l place t

pub record Meets (here : Scope) (k : Setting) (store : Store) (locals : Locals) : Type 0 where
  pub declared : StandsDeclared k.layout
  pub serves : Serves here k store locals
