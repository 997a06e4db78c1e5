-- What is known and found behind a function.
use Rattle.std.proofs.Common.{◌≡◌, ◌∙◌, ℕ, Bool, true, false, not, List, [], ◌∷◌, ◌++◌, filter, length, map, nat_lt, slice_set, Option}
use Rattle.std.proofs.Common.{Some, None, is_some, is_none, refl, sym, ap}
use Rattle.std.proofs.lemmas.List.{append-nil}
use Rattle.tsa_base.specs.declared.token.Span.{Span}
use Rattle.tsa_tree.specs.declarations.Syntax.{Head}
use Rattle.tsa_tree.specs.statements.Syntax.{Statements}
use Rattle.tsa_tree.specs.types.Heads.{inside, behind_head}
use Rattle.tsa_tree.specs.declared.decl.Decl.{Decl}
use Rattle.tsa_tree.specs.declared.item.AliasDef.{AliasDef}
use Rattle.tsa_tree.specs.declared.item.EnumDef.{EnumDef}
use Rattle.tsa_tree.specs.declared.item.StructDef.{StructDef}
use Rattle.tsa_tree.specs.declared.item.Item.TheVariants.{Structure, Alias, Enumeration, Global}
use Rattle.tsa_tree.specs.types.Scopes.{Scope, found, further, with_locals}
use Rattle.tsa_tree.specs.types.Symbols.{number_of}
use Rattle.tsa_tree.specs.types.Targets.{declared_in_all}
use Rattle.tsa_tree.specs.types.Units.{behind_item}
use Rattle.tsa_tree.specs.units.Shapes.{item_shape}
use Rattle.tsa_tree.specs.units.Syntax.{function_item, body_item}
use Rattle.tsa_place_model.specs.LockPaths.{stable_in}
use Rattle.tsa_core.specs.Programs.{Attr, Declared, attrs_of, unless_known}
use Rattle.tsa_core_points.specs.Points.{PlacedPoint, placed_all}
use Rattle.tsa_profile_accesses.specs.declared.premise.Failure.{Failure}
use Rattle.tsa_profile_accesses.specs.Locks.{tries}
use Rattle.tsa_profile_accesses.specs.declared.premise.ProfileCode.TheVariants.{LM4, LM7}
use Rattle.tsa_profile_accesses.specs.Premises.{first, or_else, premise}
use Rattle.tsa_profile_accesses.specs.Expressions.{attributes_at}
use Rattle.tsa_core_environment.specs.Functions.{IsInside}
use Rattle.tsa_profile_context.specs.Bodies.{Around, is_try_variable, points_premises}
use Rattle.tsa_profile_context.specs.Ways.{function_paths}
use Rattle.tsa_profile_context.specs.declared.context.Ground.{Ground}
use Rattle.tsa_profile_context.specs.Judging.{Knowledge, around_at, behind, declared_attributes, entered, unit_at, with_body, with_function}
use Rattle.tsa_profile_context.specs.Judging.{with_scope, without_body}
use Rattle.tsa_profile_context.specs.Units.{Unit, around, attributes_by, is_alone, points_in, stable_of}
use Rattle.tsa_profile_context.proofs.Sequences.{or_else_none}

-- ITS HEAD

nothing_more : (here : Scope) (k : Knowledge)
    → with_scope here k ≡ record { here = here; attributes = k.attributes ++ []; tables = k.tables ++ []; tries = k.tries; paths = k.paths }
nothing_more here k i = record {
  here = here;
  attributes = sym (append-nil k.attributes) i;
  tables = sym (append-nil k.tables) i;
  tries = k.tries;
  paths = k.paths;
}

module _ (u : Unit) (k : Knowledge) (head : Head) (with_a_body : Bool) where
  abbrev itself : Declared
  itself = record { here = k.here; head = head; with_body = with_a_body }

  abbrev entered_where : Bool → Knowledge
  entered_where is_known = record {
    here = inside k.here head with_a_body;
    attributes = k.attributes ++ map (attributes_by u) (unless_known is_known itself);
    tables = k.tables ++ map (λ d. None) (unless_known is_known itself);
    tries = k.tries;
    paths = k.paths;
  }

  -- a function names its locks where it is declared for the first time ..
  pub declared_now : (s : ℕ → Bool) → is_some (found k.here.names head.name.text) ≡ false → s ≡ stable_of u head
      → with_function (attrs_of s (inside k.here head with_a_body) head.attrs) (with_scope (inside k.here head with_a_body) k) ≡ entered u k head with_a_body
  declared_now s new is =
      ap (λ t. with_function (attrs_of t (inside k.here head with_a_body) head.attrs) (with_scope (inside k.here head with_a_body) k)) is
      ∙ sym (ap entered_where new)

  -- .. and never again
  pub declared_before : is_some (found k.here.names head.name.text) ≡ true → with_scope (inside k.here head with_a_body) k ≡ entered u k head with_a_body
  declared_before known = nothing_more (inside k.here head with_a_body) k ∙ sym (ap entered_where known)

-- ITS BODY

module _ (g : Ground) (k : Knowledge) (head : Head) (n : ℕ) (s : List Bool) (number : n ≡ number_of k.here head) (stable : stable_in s ≡ stable_of (unit_at g) head) where
  abbrev in_it : Bool → Knowledge
  in_it with_a_body = entered (unit_at g) k head with_a_body

  -- what is around a body, by the number of its function and by which of its locals never change
  abbrev around_with : List (List Attr) → ℕ → (ℕ → Bool) → Around
  around_with known m st = record {
    layout = (unit_at g).program.layout;
    attributes = known;
    tries = tries (attributes_at known m);
    stable = st;
  }

  module _ (body : Statements) (e : Knowledge) (is : e ≡ in_it true) where
    abbrev premises_with : Knowledge → ℕ → (ℕ → Bool) → Option Failure
    premises_with x m st = first (points_premises (around_with x.attributes m st) (placed_all x.here body))

    pub premises_are : first (points_premises (around_at g e n s) (placed_all e.here body))
        ≡ first (points_premises (around (unit_at g) (declared_attributes (unit_at g) k head true) k.here head) (points_in k.here head body))
    premises_are =
        ap (λ x. premises_with x n (stable_in s)) is
        ∙ ap (λ m. premises_with (in_it true) m (stable_in s)) number
        ∙ ap (premises_with (in_it true) (number_of k.here head)) stable

    abbrev found_with : Knowledge → ℕ → (ℕ → Bool) → Knowledge
    found_with x m st =
        with_scope (behind_head k.here head true)
        (with_body x m head.name.span (around_with x.attributes m st) (further (declared_in_all body) x.here) (placed_all x.here body))

    -- what is found of it is what is known behind its function
    pub body_found : (close : Span) (found after : Knowledge)
        → found ≡ with_body e n head.name.span (around_at g e n s) (further (declared_in_all body) e.here) (placed_all e.here body)
        → after ≡ with_scope (behind_head k.here head true) found → after ≡ behind (unit_at g) k (body_item head body close)
    body_found close found after told left =
        left
        ∙ ap (with_scope (behind_head k.here head true)) told
        ∙ ap (λ x. found_with x n (stable_in s)) is
        ∙ ap (λ m. found_with (in_it true) m (stable_in s)) number
        ∙ ap (found_with (in_it true) (number_of k.here head)) stable

    -- the function is left as one that is entered
    pub inside_still : (found : Knowledge)
        → found ≡ with_body e n head.name.span (around_at g e n s) (further (declared_in_all body) e.here) (placed_all e.here body)
        → IsInside k.here head true found.here
    inside_still found told =
        ap (λ x. with_locals 0 x.here) told ∙ ap (λ x. with_locals 0 x.here) is

  -- of a function without a body its own attributes alone are counted
  module _ (e : Knowledge) (is : e ≡ in_it false) where
    abbrev alone_with : Knowledge → ℕ → (ℕ → Bool) → Knowledge
    alone_with x m st =
        with_scope (behind_head k.here head false)
        (without_body x m head.name.span (around_with x.attributes m st) (is_alone (unit_at g) k.here head))

    tries_none : alone_with (in_it false) (number_of k.here head) (stable_of (unit_at g) head) ≡ behind (unit_at g) k (function_item head)
    unfolding first
    tries_none i = record {
      here = behind_head k.here head false;
      attributes = (in_it false).attributes;
      tables = (in_it false).tables;
      tries = sym (or_else_none k.tries) i;
      paths = (alone_with (in_it false) (number_of k.here head) (stable_of (unit_at g) head)).paths;
    }

    pub alone_found : (found after : Knowledge)
        → found ≡ without_body e n head.name.span (around_at g e n s) (is_alone (unit_at g) k.here head)
        → after ≡ with_scope (behind_head k.here head false) found → after ≡ behind (unit_at g) k (function_item head)
    alone_found found after told left =
        left
        ∙ ap (with_scope (behind_head k.here head false)) told
        ∙ ap (λ x. alone_with x n (stable_in s)) is
        ∙ ap (λ m. alone_with (in_it false) m (stable_in s)) number
        ∙ ap (alone_with (in_it false) (number_of k.here head)) stable
        ∙ tries_none

    pub inside_alone : (found : Knowledge)
        → found ≡ without_body e n head.name.span (around_at g e n s) (is_alone (unit_at g) k.here head)
        → IsInside k.here head false found.here
    inside_alone found told = ap (λ x. with_locals 0 x.here) told ∙ ap (λ x. with_locals 0 x.here) is

-- one that isn't alone tells nothing
pub not_alone : (k : Knowledge) (n : ℕ) (name : Span) (a : Around) → k ≡ without_body k n name a false
unfolding first
not_alone k n name a i = record {
  here = k.here;
  attributes = k.attributes;
  tables = k.tables;
  tries = k.tries;
  paths = sym (or_else_none k.paths) i;
}

-- there is none where there isn't some
pub none_told : {A : Type 0} (o : Option A) (b : Bool) → is_some o ≡ not b → b ≡ is_none o
none_told None true h = refl
none_told None false h = absurd cc
none_told (Some x) true h = absurd cc
none_told (Some x) false h = refl

-- all that is found of a body
pub all_found : (k : Knowledge) (n : ℕ) (name : Span) (a : Around) (there : Scope) (points : List PlacedPoint) (after : Knowledge) → after.here ≡ there
    → after.attributes ≡ k.attributes → after.tables ≡ slice_set k.tables n (function_paths a (attributes_at k.attributes n) points)
    → after.tries ≡ or_else k.tries (first (premise LM7 name (nat_lt 48 (length (filter (is_try_variable a) points))) ∷ []))
    → after.paths ≡ or_else k.paths (first (premise LM4 name (is_none (function_paths a (attributes_at k.attributes n) points)) ∷ []))
    → after ≡ with_body k n name a there points
all_found k n name a there points after here attributes tables tries paths i = record {
  here = here i;
  attributes = attributes i;
  tables = tables i;
  tries = tries i;
  paths = paths i;
}

-- OTHER ITEMS

nothing_found : (there : Scope) (k : Knowledge)
    → with_scope there k ≡ record { here = there; attributes = k.attributes ++ []; tables = k.tables ++ []; tries = or_else k.tries (first []); paths = or_else k.paths (first []) }
unfolding first
nothing_found there k i = record {
  here = there;
  attributes = sym (append-nil k.attributes) i;
  tables = sym (append-nil k.tables) i;
  tries = sym (or_else_none k.tries) i;
  paths = sym (or_else_none k.paths) i;
}

-- what isn't a function has no attributes and no paths
module _ (u : Unit) (k : Knowledge) where
  pub struct_behind : (s : StructDef) → with_scope (behind_item k.here (item_shape (Structure s))) k ≡ behind u k (item_shape (Structure s))
  struct_behind s = nothing_found (behind_item k.here (item_shape (Structure s))) k

  pub alias_behind : (a : AliasDef) → with_scope (behind_item k.here (item_shape (Alias a))) k ≡ behind u k (item_shape (Alias a))
  alias_behind a = nothing_found (behind_item k.here (item_shape (Alias a))) k

  pub enum_behind : (e : EnumDef) → with_scope (behind_item k.here (item_shape (Enumeration e))) k ≡ behind u k (item_shape (Enumeration e))
  enum_behind e = nothing_found (behind_item k.here (item_shape (Enumeration e))) k

  pub global_behind : (d : Decl) → with_scope (behind_item k.here (item_shape (Global d))) k ≡ behind u k (item_shape (Global d))
  global_behind d = nothing_found (behind_item k.here (item_shape (Global d))) k
