-- Lists by the names of functions, as they are kept and as contracts see them.
use Rattle.std.proofs.Common.{◌≡◌, ℕ, Bool, true, false, List, [], ◌∷◌, map, Option, Some, None, is_some, option_map, if◌then◌else◌, refl}
use Rattle.std.proofs.lemmas.List.{map-append}
use Rattle.std.specs.Borrow.{Bor}
use Rattle.std.specs.Map.{lookup}
use Rattle.std.specs.Option.{option_copied}
use Rattle.tsa_types_scope.proofs.NameLists.{or_further}
use Rattle.tsa_core_environment.specs.Bodies.{Table, unless_known}

-- what is found is something where what is told of it is
pub some_mapped : {A B : Type 0} (f : A → B) (o : Option A) → is_some (option_map f o) ≡ is_some o
some_mapped f None = refl
some_mapped f (Some x) = refl

-- seen by a reference
pub seen_items : {V : Type 0} (f : V → List Bool) (r : Option (Bor V)) → option_map (λ v. f v.now) r ≡ option_map f (option_copied r)
seen_items f None = refl
seen_items f (Some v) = refl

module _ {K X : Type 0} (seen : K → List ℕ) (shown : X → List Bool) where
  abbrev pub table_of : List (K × X) → Table
  table_of es = map (λ e. (seen e.0, shown e.1)) es

  first_shown : (b : Bool) (x : X) (v : Option X) (w : Option (List Bool)) → option_map shown v ≡ w → option_map shown (if b then Some x else v) ≡ (if b then Some (shown x) else w)
  first_shown true x v w h = refl
  first_shown false x v w h = h

  -- what is found
  pub lookup-shown : (test : List ℕ → Bool) (es : List (K × X)) → option_map shown (lookup (λ k. test (seen k)) es) ≡ lookup test (table_of es)
  lookup-shown test [] = refl
  lookup-shown test (e ∷ es) = first_shown (test (seen e.0)) e.1 (lookup (λ k. test (seen k)) es) (lookup test (table_of es)) (lookup-shown test es)

  -- one more, or none
  pub further_shown : (known : Bool) (es : List (K × X)) (key : K) (value : X) → table_of (or_further known es (key, value)) ≡ unless_known known (seen key) (shown value) (table_of es)
  further_shown true es key value = refl
  further_shown false es key value = map-append (λ e. (seen e.0, shown e.1)) es ((key, value) ∷ [])
