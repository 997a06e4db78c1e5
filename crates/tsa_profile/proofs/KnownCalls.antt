-- What a point of a body calls is a function that is declared before its body ends.
use Rattle.std.proofs.Common.{◌≡◌, ℕ, List, All, Option, Some, None, slice_get, slice_index_or, refl}
use Rattle.std.proofs.lemmas.List.Elements.{All-map}
use Rattle.tsa_tree.specs.declarations.Syntax.{Initialiser, value, list}
use Rattle.tsa_tree.specs.declared.expr.BinaryOp.TheVariants.{Or, And, BitOr, BitXor, BitAnd, Equal, Unequal, Less, More, LessEqual}
use Rattle.tsa_tree.specs.declared.expr.BinaryOp.TheVariants.{MoreEqual, Plus, Minus, Times, Divide, Remainder}
use Rattle.tsa_tree.specs.declared.expr.UnaryOp.TheVariants as prefix
use Rattle.tsa_tree.specs.declared.kind.Kind.{Kind}
use Rattle.tsa_tree.specs.declared.kind.ThingType.{ThingType}
use Rattle.tsa_tree.specs.declared.meaning.Entry.{Entry}
use Rattle.tsa_tree.specs.declared.meaning.Meaning.{Meaning}
use Rattle.tsa_tree.specs.declared.meaning.Meaning.TheVariants as meant
use Rattle.tsa_tree.specs.expressions.Syntax.{Expression, Arguments, number, null, named, call, unary, binary, field, index}
use Rattle.tsa_tree.specs.points.Syntax.{Deed, declares, evaluates, assigns, tests, switches, jumps, idles, returns, ends}
use Rattle.tsa_tree.specs.statements.Syntax.{Statements}
use Rattle.tsa_tree.specs.types.DeclaredTypes.{thing_type}
use Rattle.tsa_tree.specs.types.Scopes.{Scope, found, known_in}
use Rattle.tsa_core.specs.Bodies.{known_in_body, declared, point_of, body_of}
use Rattle.tsa_core.specs.Meanings.{Call, call_by, call_of, or_call, call_in}
use Rattle.tsa_core.specs.Programs.{Declared}
use Rattle.tsa_core.proofs.EachScope.{each_point}
use Rattle.tsa_profile.proofs.AddedNames.{adds_local}
use Rattle.tsa_profile.proofs.FunctionScopes.{KnowsFunctions, knows_data}

module _ (ds : List Declared) where
  -- what is called is one of some functions
  abbrev pub Reaches : Option Call → Type 0
  Reaches None = Unit {0}
  Reaches (Some c) = (d : Declared) × (slice_get ds c.function ≡ Some d)

  either_reaches : (a b : Option Call) → Reaches a → Reaches b → Reaches (or_call a b)
  either_reaches None b h g = g
  either_reaches (Some c) b h g = h

  module _ (here : Scope) (h : KnowsFunctions ds here) where
    -- a name that is called is that of a function, and no member's
    meaning_reaches : (name : List ℕ) (args : Arguments) (e : Entry) → found here.names name ≡ Some e → (m : Meaning) → e.meaning ≡ m → Reaches (call_by here args m)
    meaning_reaches name args e is (meant.Function n) means = let x = h name e n is means in (x.0, x.1.0)
    meaning_reaches name args e is (meant.Global n) means = tt
    meaning_reaches name args e is (meant.Local n) means = tt
    meaning_reaches name args e is meant.Owned means = tt
    meaning_reaches name args e is (meant.Constant z) means = tt
    meaning_reaches name args e is meant.TypeName means = tt

    entry_reaches : (name : List ℕ) (args : Arguments) (o : Option Entry) → found here.names name ≡ o → Reaches (call_of here args o)
    entry_reaches name args None is = tt
    entry_reaches name args (Some e) is = meaning_reaches name args e is e.meaning refl

    name_reaches : (name : List ℕ) (args : Arguments) → Reaches (call_of here args (known_in here name))
    name_reaches name args = by (found here.owned name) refl
      where
        by : (o : Option ThingType) → found here.owned name ≡ o → Reaches (call_of here args (known_in here name))
        by None own = rw own (entry_reaches name args (found here.names name) refl)
        by (Some t) own = rw own tt

    call_reaches : (e : Expression) → Reaches (call_in here e)
    unfolding call_in
    call_reaches (number v u span) = tt
    call_reaches (null span) = tt
    call_reaches (named name span) = tt
    call_reaches (call callee args span) = name_reaches callee.text args
    call_reaches (unary prefix.Not inner span) = call_reaches inner
    call_reaches (unary prefix.Minus inner span) = tt
    call_reaches (unary prefix.Flip inner span) = tt
    call_reaches (unary prefix.Address inner span) = tt
    call_reaches (unary prefix.Follow inner span) = tt
    call_reaches (binary Equal left right span) = either_reaches (call_in here left) (call_in here right) (call_reaches left) (call_reaches right)
    call_reaches (binary Unequal left right span) = either_reaches (call_in here left) (call_in here right) (call_reaches left) (call_reaches right)
    call_reaches (binary Or left right span) = tt
    call_reaches (binary And left right span) = tt
    call_reaches (binary BitOr left right span) = tt
    call_reaches (binary BitXor left right span) = tt
    call_reaches (binary BitAnd left right span) = tt
    call_reaches (binary Less left right span) = tt
    call_reaches (binary More left right span) = tt
    call_reaches (binary LessEqual left right span) = tt
    call_reaches (binary MoreEqual left right span) = tt
    call_reaches (binary Plus left right span) = tt
    call_reaches (binary Minus left right span) = tt
    call_reaches (binary Times left right span) = tt
    call_reaches (binary Divide left right span) = tt
    call_reaches (binary Remainder left right span) = tt
    call_reaches (field base name arrow span) = tt
    call_reaches (index base at span) = tt

    init_reaches : (kind : Kind) (i : Option Initialiser) → Reaches (declared here kind i).call
    init_reaches kind None = tt
    init_reaches kind (Some (value e)) = call_reaches e
    init_reaches kind (Some (list items span)) = tt

    deed_reaches : (result : Kind) (d : Deed) → Reaches (point_of result (record { here = here; deed = d })).call
    deed_reaches result (declares d) = init_reaches (thing_type here d.ctype).kind d.init
    deed_reaches result (evaluates e) = call_reaches e
    deed_reaches result (assigns left o right) = call_reaches right
    deed_reaches result (tests None) = tt
    deed_reaches result (tests (Some e)) = call_reaches e
    deed_reaches result (switches e) = tt
    deed_reaches result jumps = tt
    deed_reaches result idles = tt
    deed_reaches result (returns None) = tt
    deed_reaches result (returns (Some e)) = call_reaches e
    deed_reaches result ends = tt

  -- all points of a body, by what is known where it begins
  pub points_reach : (here : Scope) (result : Kind) (body : Statements) → KnowsFunctions ds here → All (λ p. Reaches p.call) (body_of here result body).points
  points_reach here result body h =
      let everywhere = each_point (KnowsFunctions ds) (λ at n k. k) (λ at d k. knows_data ds at _ (adds_local at d) k) here body h in
      All-map (λ p. Reaches p.call) (point_of result) (known_in_body here body)
      (λ n k less. deed_reaches (slice_index_or (known_in_body here body) n k).here (everywhere n k less) result (slice_index_or (known_in_body here body) n k).deed)
