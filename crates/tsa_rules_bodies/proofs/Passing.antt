-- What is known behind an item, and inside a function.
use Rattle.std.proofs.Common.{◌≡◌, ◌∙◌, ℕ, Bool, true, false, List, [], ◌++◌, map, Option, Some, None, is_some, option_map, refl, sym, ap}
use Rattle.std.proofs.Common.{ap₂}
use Rattle.std.proofs.lemmas.List.{append-nil}
use Rattle.std.specs.Borrow.{Bor}
use Rattle.tsa_base.specs.declared.token.Span.{Span}
use Rattle.tsa_tree.specs.declarations.Shapes.{head_shape}
use Rattle.tsa_tree.specs.declarations.Syntax.{Head}
use Rattle.tsa_tree.specs.declared.item.FnTree.{FnTree}
use Rattle.tsa_tree.specs.declared.item.Item.{Item}
use Rattle.tsa_tree.specs.declared.item.Item.TheVariants.{Structure, Alias, Enumeration, Global, Function}
use Rattle.tsa_tree.specs.declared.stmt.Stmt.{Stmt}
use Rattle.tsa_tree.specs.statements.Syntax.{Statements}
use Rattle.tsa_tree.specs.types.Heads.{behind_head, inside}
use Rattle.tsa_tree.specs.types.Scopes.{Scope, found}
use Rattle.tsa_tree.specs.types.Units.{behind_item}
use Rattle.tsa_tree.specs.units.Shapes.{function_shape, item_shape, shape_with}
use Rattle.tsa_tree.specs.units.Syntax.{body_item}
use Rattle.tsa_core.specs.Programs.{Declared, attrs_of, unless_known}
use Rattle.tsa_profile.specs.Units.{Unit, attributes_by, stable_of}
use Rattle.tsa_rules_bodies.specs.Knowing.{Knowledge, behind, entered, with_function, with_scope}

nothing_more : (here : Scope) (k : Knowledge) → with_scope here k ≡ record { here = here; attributes = k.attributes ++ [] }
nothing_more here k = ap (λ known. record { here = here; attributes = known }) (sym (append-nil k.attributes))

module _ (u : Unit) (k : Knowledge) (head : Head) (with_body : Bool) where
  abbrev itself : Declared
  itself = record { here = k.here; head = head; with_body = with_body }

  abbrev entered_where : Bool → Knowledge
  entered_where is_known = record { here = inside k.here head with_body; attributes = k.attributes ++ map (attributes_by u) (unless_known is_known itself) }

  -- a function names its locks where it is declared for the first time ..
  pub declared_now : (s : ℕ → Bool) → is_some (found k.here.names head.name.text) ≡ false → s ≡ stable_of u head
      → with_function (attrs_of s (inside k.here head with_body) head.attrs) (with_scope (inside k.here head with_body) k) ≡ entered u k head with_body
  declared_now s new is =
      ap (λ t. with_function (attrs_of t (inside k.here head with_body) head.attrs) (with_scope (inside k.here head with_body) k)) is ∙ sym (ap entered_where new)

  -- .. and never again
  pub declared_before : is_some (found k.here.names head.name.text) ≡ true → with_scope (inside k.here head with_body) k ≡ entered u k head with_body
  declared_before known = nothing_more (inside k.here head with_body) k ∙ sym (ap entered_where known)

-- a function that is left is passed
pub function_behind : (u : Unit) (k : Knowledge) (f : FnTree)
    → with_scope (behind_head k.here (head_shape f) (is_some f.body)) (entered u k (head_shape f) (is_some f.body)) ≡ behind u k (function_shape f)
function_behind u k f = by f.body
  where
    by : (b : Option (Bor (List Stmt)))
        → with_scope (behind_head k.here (head_shape f) (is_some b)) (entered u k (head_shape f) (is_some b)) ≡ behind u k (shape_with f (option_map (λ x. x.now) b))
    by None = refl
    by (Some b) = refl

-- so is a body, whatever locals were counted in it
pub body_behind : (u : Unit) (k there : Knowledge) (head : Head) (body : Statements) (close : Span) (after : Scope) → after ≡ behind_head k.here head true
    → there.attributes ≡ (entered u k head true).attributes → with_scope after there ≡ behind u k (body_item head body close)
body_behind u k there head body close after here attributes = ap₂ (λ h a. record { here = h; attributes = a }) here attributes

-- other items declare no functions
pub data_behind : (u : Unit) (k : Knowledge) (x : Item) → ((f : FnTree) → x ≡ Function f → ⊥) → with_scope (behind_item k.here (item_shape x)) k ≡ behind u k (item_shape x)
data_behind u k (Structure s) other = nothing_more (behind_item k.here (item_shape (Structure s))) k
data_behind u k (Alias a) other = nothing_more (behind_item k.here (item_shape (Alias a))) k
data_behind u k (Enumeration e) other = nothing_more (behind_item k.here (item_shape (Enumeration e))) k
data_behind u k (Global d) other = nothing_more (behind_item k.here (item_shape (Global d))) k
data_behind u k (Function f) other = absurd (other f refl)
