-- The body of a function by its number is among those of a unit.
use Rattle.std.proofs.Common.{◌≡◌, ℕ, zero, suc, arith, Bool, true, false, List, [], ◌∷◌, ◌++◌, Contains, Option, Some, None, nat_eq}
use Rattle.std.proofs.Common.{if◌then◌else◌, refl, eqb-true}
use Rattle.tsa_tree.specs.types.Scopes.{Scope}
use Rattle.tsa_tree.specs.types.Symbols.{number_of}
use Rattle.tsa_tree.specs.types.Units.{behind_item}
use Rattle.tsa_tree.specs.units.Syntax.{UnitItem, structure_item, alias_item, enumeration_item, global_item, function_item, body_item}
use Rattle.tsa_core.specs.Programs.{Attr}
use Rattle.tsa_warn_bodies.specs.Units.{Unit, attributes_behind}
use Rattle.tsa_warn_bodies.specs.Sites.{Site, or_later, site_among, site_at}
use Rattle.tsa_warn_bodies.specs.Bodies.{BodyText, bodies_from, body_by, body_text}

-- a body of a number among some
pub record HasBody (bodies : List BodyText) (n : ℕ) : Type 0 where
  pub body : BodyText
  pub is_one : Contains bodies body
  pub number : body.number ≡ n

later_one : (b : BodyText) (bodies : List BodyText) (n : ℕ) → HasBody bodies n → HasBody (b ∷ bodies) n
later_one b bodies n h =
    let k = h.is_one.0 in
    record { body = h.body; is_one = (suc k, omega (arith, h.is_one.1), h.is_one.2); number = h.number }

-- the first body has the number, or one behind it
by_hit : (n : ℕ) (b : BodyText) (bodies : List BodyText) (site : Site) (later : Option Site) (s : Site) → (later ≡ Some s → HasBody bodies n) → (hit : Bool)
    → nat_eq b.number n ≡ hit → or_later (if hit then Some site else None) later ≡ Some s → HasBody (b ∷ bodies) n
by_hit n b bodies site later s go true hit found = record { body = b; is_one = (zero, omega arith, refl); number = eqb-true b.number n hit }
by_hit n b bodies site later s go false other found = later_one b bodies n (go found)

module _ (u : Unit) (n : ℕ) where
  by_item : (known : List (List Attr)) (here : Scope) (item : UnitItem) (rest : List UnitItem) (s : Site)
      → (site_among u (attributes_behind u known here item) (behind_item here item) rest n ≡ Some s → HasBody (bodies_from (behind_item here item) rest) n)
      → or_later (site_at u known here item n) (site_among u (attributes_behind u known here item) (behind_item here item) rest n) ≡ Some s
      → HasBody (body_by here item ++ bodies_from (behind_item here item) rest) n
  by_item known here (body_item head body close) rest s go is =
      by_hit n (body_text here head body close) (bodies_from (behind_item here (body_item head body close)) rest) _ _ s go (nat_eq (number_of here head) n) refl is
  by_item known here (structure_item tag alias attrs members span) rest s go is = go is
  by_item known here (alias_item text ctype span) rest s go is = go is
  by_item known here (enumeration_item tag alias values span) rest s go is = go is
  by_item known here (global_item d) rest s go is = go is
  by_item known here (function_item head) rest s go is = go is

  pub has_body : (known : List (List Attr)) (here : Scope) (rest : List UnitItem) (s : Site) → site_among u known here rest n ≡ Some s → HasBody (bodies_from here rest) n
  unfolding site_among bodies_from
  has_body known here [] s is = absurd cc
  has_body known here (item ∷ rest) s is =
      by_item known here item rest s (λ found. has_body (attributes_behind u known here item) (behind_item here item) rest s found) is
