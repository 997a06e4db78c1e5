-- The functions of a unit keep their rows, and set apart what their paths mention.
use Rattle.std.proofs.Common.{◌≡◌, ◌∙◌, ℕ, List, length, Option, Some, None, IsSome, option_map, slice_get, refl, sym, ap, subst}
use Rattle.tsa_tree.specs.types.FirstFailing.{first_failing}
use Rattle.tsa_tree.specs.types.Units.{outset}
use Rattle.tsa_tree.specs.units.Syntax.{UnitItem}
use Rattle.tsa_core.specs.Bodies.{known_in_body}
use Rattle.tsa_place_model.specs.Calls.{Layout}
use Rattle.tsa_place_model.specs.Leading.{HasPlaces}
use Rattle.tsa_core.specs.Programs.{Bodied, Declared, Function, Program, bodied_function, declared_functions, function_in, function_of}
use Rattle.tsa_core.specs.Programs.{program_of}
use Rattle.tsa_core.proofs.MappedLists.{map_at, map_length}
use Rattle.tsa_core.proofs.ProgramKinds.{program_layout}
use Rattle.tsa_rules.specs.Points.{function_at, or_no_function, points_of}
use Rattle.tsa_profile.specs.Units.{refusal_of_profile}
use Rattle.tsa_profile.specs.Paths.{paths_of}
use Rattle.tsa_profile.proofs.FunctionPaths.{functions_are}
use Rattle.tsa_sound_accepted.specs.kept.Laws.{LocalsAreSetApart, SetsApart, UnitsKeepTheirRows}
use Rattle.tsa_sound_accepted.proofs.kept.NamedPaths.{paths_are_named_once}
use Rattle.tsa_sound_accepted.proofs.kept.SetsApart.{sets_apart}
use Rattle.tsa_sound_accepted.proofs.kept.RowsOfWalks.{rows_are_kept, rows_are_possible}

-- A function of a program, with its declaration.
record Made (items : List UnitItem) (n : ℕ) (f : Function) : Type 0 where
  declared : Declared
  there : slice_get (declared_functions (outset items) items) n ≡ Some declared
  made : function_in (program_of items).layout items declared ≡ f

mapped : {A : Type 0} (make : Declared → A) (o : Option Declared) (x : A) → option_map make o ≡ Some x → (d : Declared) × ((o ≡ Some d) × (make d ≡ x))
mapped make None x e = absurd cc
mapped make (Some d) x e = let same : make d ≡ x = cc in (d, (refl, same))

made_of : (items : List UnitItem) (n : ℕ) (f : Function) → slice_get (program_of items).functions n ≡ Some f → Made items n f
made_of items n f at =
    let make = function_in (program_of items).layout items in
    let ds = declared_functions (outset items) items in
    let one = mapped make (slice_get ds n) f (sym (map_at make ds n) ∙ sym (ap (λ fs. slice_get fs n) (functions_are items)) ∙ at) in
    record { declared = one.0; there = one.1.0; made = one.1.1 }

-- what is used stands beside the points
beside_in : (l : Layout) (d : Declared) (o : Option Bodied) → length (function_of l d o).uses ≡ length (points_of (function_of l d o))
beside_in l d None = refl
beside_in l d (Some b) = map_length _ (known_in_body b.here b.body) ∙ sym (map_length _ (known_in_body b.here b.body))

beside : (items : List UnitItem) (n : ℕ) (f : Function) → slice_get (program_of items).functions n ≡ Some f → length f.uses ≡ length (points_of f)
beside items n f at =
    let m = made_of items n f at in
    subst (λ g. length g.uses ≡ length (points_of g)) m.made (beside_in (program_of items).layout m.declared (bodied_function m.declared.head.name.text (outset items) items))

-- a function with a body is there
is_there : (o : Option Function) → IsSome (or_no_function o).body → o ≡ Some (or_no_function o)
is_there None h = absurd cc
is_there (Some f) h = refl

uses_beside : (items : List UnitItem) (u : Program) → program_of items ≡ u → (n : ℕ) (f : Function) → slice_get u.functions n ≡ Some f
    → length f.uses ≡ length (points_of f)
uses_beside items u same n f at = beside items n f (ap (λ v. slice_get v.functions n) same ∙ at)

pub units_keep_their_rows : UnitsKeepTheirRows
units_keep_their_rows items u same quiet n body =
    let f = function_at u n in
    let at : slice_get u.functions n ≡ Some f = is_there (slice_get u.functions n) body in
    record {
      kept = rows_are_kept u quiet n f at (paths_of u f);
      possible = rows_are_possible u quiet n f at (paths_of u f);
      once = paths_are_named_once.once u f;
      own = paths_are_named_once.own u f;
      called = paths_are_named_once.called u f (uses_beside items u same n f at);
    }

-- with its body
bodied_one : (l : Layout) (d : Declared) (o : Option Bodied) (f : Function) → function_of l d o ≡ f → IsSome f.body → (b : Bodied) × (o ≡ Some b)
bodied_one l d None f same h = let none : IsSome (function_of l d None).body = subst (λ g. IsSome g.body) (sym same) h in absurd cc
bodied_one l d (Some b) f same h = (b, refl)

set_apart : (items : List UnitItem) (l : Layout) → first_failing items ≡ None → HasPlaces items l → refusal_of_profile items ≡ None
    → (n : ℕ) (f : Function) → slice_get (program_of items).functions n ≡ Some f → IsSome f.body → (p : ℕ)
    → SetsApart (program_of items) (paths_of (program_of items) f) f p
set_apart items l typed placed fits n f at body p =
    let m = made_of items n f at in
    let d = m.declared in
    let o = bodied_function d.head.name.text (outset items) items in
    let b = bodied_one (program_of items).layout d o f m.made body in
    let same : function_of l d (Some b.0) ≡ f = sym (ap (λ k. function_of k d (Some b.0)) (program_layout items l placed)) ∙ sym (ap (function_of (program_of items).layout d) b.1) ∙ m.made in
    subst (λ g. SetsApart (program_of items) (paths_of (program_of items) g) g p) same (sets_apart items l typed placed fits n d b.0 m.there b.1 p)

pub locals_are_set_apart : LocalsAreSetApart
locals_are_set_apart items l typed placed fits u same n body p =
    subst (λ v. IsSome (function_at v n).body → SetsApart v (paths_of v (function_at v n)) (function_at v n) p) same
    (λ h. set_apart items l typed placed fits n (function_at (program_of items) n) (is_there (slice_get (program_of items).functions n) h) h p) body
