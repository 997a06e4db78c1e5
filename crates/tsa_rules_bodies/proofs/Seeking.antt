-- Items one by one, up to the body that is asked for.
use Rattle.std.proofs.Common.{◌≡◌, ◌∙◌, ℕ, ◌+◌, suc, nat_eq, Bool, true, false, List, [], ◌∷◌, drop, Option, Some, None, if◌then◌else◌}
use Rattle.std.proofs.Common.{refl, sym, ap, ap₂, subst, eq-eqb, eqb-true}
use Rattle.tsa_base.specs.declared.token.Span.{Span}
use Rattle.tsa_base.proofs.Numbers.{plus_one}
use Rattle.tsa_tree.specs.declarations.Shapes.{head_shape}
use Rattle.tsa_tree.specs.declarations.Syntax.{Head}
use Rattle.tsa_tree.specs.declared.item.Item.{Item}
use Rattle.tsa_tree.specs.statements.Shapes.{stmt_shapes}
use Rattle.tsa_tree.specs.statements.Syntax.{Statements}
use Rattle.tsa_tree.specs.types.Scopes.{Scope}
use Rattle.tsa_tree.specs.types.Symbols.{number_of}
use Rattle.tsa_tree.specs.types.Units.{behind_item}
use Rattle.tsa_tree.specs.units.Shapes.{item_shape, item_shapes}
use Rattle.tsa_tree.specs.units.Syntax.{UnitItem, structure_item, alias_item, enumeration_item, global_item, function_item, body_item}
use Rattle.tsa_core.specs.Programs.{Attr}
use Rattle.tsa_core_environment.specs.Functions.{outside_of}
use Rattle.tsa_profile.specs.Units.{Unit, attributes_behind, unit_of}
use Rattle.tsa_rules_bodies.specs.Entering.{IsEntered, Enters, IsAt, Seeks}
use Rattle.tsa_rules_bodies.specs.Finding.{IsFound}
use Rattle.tsa_rules_bodies.specs.Knowing.{Knowledge, IsWithin, behind, entered}
use Rattle.tsa_rules_bodies.specs.Sites.{Site, or_later, site_at, site_among}
use Rattle.tsa_rules_bodies.specs.declared.inside.Inside.{Inside}

-- which bodies are said to stand elsewhere makes no difference
same_item : (outside : List ℕ) (all : List UnitItem) (known : List (List Attr)) (here : Scope) (item : UnitItem) (n : ℕ)
    → site_at (unit_of outside all) known here item n ≡ site_at (unit_of [] all) known here item n
same_item outside all known here (body_item head body close) n = refl
same_item outside all known here (structure_item tag alias attrs members span) n = refl
same_item outside all known here (alias_item text ctype span) n = refl
same_item outside all known here (enumeration_item tag alias values span) n = refl
same_item outside all known here (global_item d) n = refl
same_item outside all known here (function_item head) n = refl

pub same_sites : (outside : List ℕ) (all : List UnitItem) (known : List (List Attr)) (here : Scope) (items : List UnitItem) (n : ℕ)
    → site_among (unit_of outside all) known here items n ≡ site_among (unit_of [] all) known here items n
unfolding site_among
same_sites outside all known here [] n = refl
same_sites outside all known here (item ∷ rest) n =
    ap₂ or_later (same_item outside all known here item n) (same_sites outside all (attributes_behind (unit_of [] all) known here item) (behind_item here item) rest n)

-- ONE ITEM

module _ (u : Unit) (function : ℕ) (k : Knowledge) where
  -- a body of another number is passed
  pub other_number : (head : Head) (body : Statements) (close : Span) → nat_eq (number_of k.here head) function ≡ false → site_at u k.attributes k.here (body_item head body close) function ≡ None
  other_number head body close other =
      ap (λ hit. if hit then Some (record { here = k.here; attributes = attributes_behind u k.attributes k.here (body_item head body close); head = head; body = body }) else None) other

  pub passed : (item : UnitItem) (there : Knowledge) → Enters u k item there None → Seeks u function k item there None
  passed (body_item head body close) there h = absurd h
  passed (structure_item tag alias attrs members span) there h = (refl, h)
  passed (alias_item text ctype span) there h = (refl, h)
  passed (enumeration_item tag alias values span) there h = (refl, h)
  passed (global_item d) there h = (refl, h)
  passed (function_item head) there h = (refl, h)

  module _ (there : Knowledge) (i : Inside) where
    sought_body : (head : Head) (body : Statements) (close : Span) (hit : Bool) → nat_eq (number_of k.here head) function ≡ hit → IsEntered u k head body there i → i.number ≡ function
        → IsAt u function (if hit then Some (record { here = k.here; attributes = attributes_behind u k.attributes k.here (body_item head body close); head = head; body = body }) else None) there (Some i)
    sought_body head body close true is h same = record {
      here = ap (λ m. m.here) h.known;
      attributes = ap (λ m. m.attributes) h.known;
      number = same;
      head_is = h.head_is;
      body_is = h.body_is;
      stable = h.stable;
      outside = h.outside;
    }
    sought_body head body close false is h same =
        let it_is : nat_eq (number_of k.here head) function ≡ true = eq-eqb (number_of k.here head) function (sym h.number ∙ same) in
        let no_way : true ≡ false = sym it_is ∙ is in
        absurd cc

    pub sought : (item : UnitItem) → Enters u k item there (Some i) → i.number ≡ function → Seeks u function k item there (Some i)
    sought (body_item head body close) h same = sought_body head body close (nat_eq (number_of k.here head) function) refl h same
    sought (structure_item tag alias attrs members span) h same = absurd h
    sought (alias_item text ctype span) h same = absurd h
    sought (enumeration_item tag alias values span) h same = absurd h
    sought (global_item d) h same = absurd h
    sought (function_item head) h same = absurd h

    abbrev own_head : Head
    own_head = head_shape i.head.now

    abbrev own_body : Statements
    own_body = stmt_shapes i.body.now

    -- what is left is passed
    pub left : (after : Knowledge) (item : UnitItem) → Enters u k item there (Some i) → (i.number ≡ function → ⊥)
        → ((close : Span) → i.outside ≡ outside_of k.here own_head true → IsWithin u k own_head there → after ≡ behind u k (body_item own_head own_body close))
        → Seeks u function k item after None
    left after (body_item head body close) h other leaves = (
      other_number head body close (by (nat_eq (number_of k.here head) function) refl),
      leaves close (h.outside ∙ ap (λ x. outside_of k.here x true) (sym h.head_is))
          (subst (λ x. IsWithin u k x there) (sym h.head_is) (within_it head h.known))
          ∙ ap₂ (λ x b. behind u k (body_item x b close)) h.head_is h.body_is,
    )
      where
        within_it : (x : Head) → there ≡ entered u k x true → IsWithin u k x there
        within_it x is = subst (IsWithin u k x) (sym is) (refl, refl)

        by : (hit : Bool) → nat_eq (number_of k.here head) function ≡ hit → nat_eq (number_of k.here head) function ≡ false
        by false is = is
        by true is = absurd (other (h.number ∙ eqb-true (number_of k.here head) function is))
    left after (structure_item tag alias attrs members span) h other leaves = absurd h
    left after (alias_item text ctype span) h other leaves = absurd h
    left after (enumeration_item tag alias values span) h other leaves = absurd h
    left after (global_item d) h other leaves = absurd h
    left after (function_item head) h other leaves = absurd h

  -- what isn't told of a body is told of none
  pub none_sought : (item : UnitItem) (there : Knowledge) (o : Option Inside) → ((i : Inside) → o ≡ Some i → ⊥) → Seeks u function k item there o → Seeks u function k item there None
  none_sought item there None other h = h
  none_sought item there (Some i) other h = absurd (other i refl)

-- ALL ITEMS

-- what is told where there is a body, and where there is none
pub is_found : (u : Unit) (function : ℕ) (o : Option Site) (there : Knowledge) (i : Inside) → IsAt u function o there (Some i)
    → IsFound u function o (Some (record { known = there; inside = i }))
is_found u function (Some s) there i h = h
is_found u function None there i h = absurd h

pub none_found : (u : Unit) (function : ℕ) (o : Option Site) (there : Knowledge) → IsAt u function o there None → IsFound u function o None
none_found u function None there h = h
none_found u function (Some s) there h = absurd h

pub nowhere : (u : Unit) (function : ℕ) (o : Option Site) (there : Knowledge) → o ≡ None → IsAt u function o there None
nowhere u function None there h = tt
nowhere u function (Some s) there h = absurd cc

pub at_later : (u : Unit) (function : ℕ) (o later : Option Site) (there : Knowledge) (i : Inside) → IsAt u function o there (Some i) → IsAt u function (or_later o later) there (Some i)
at_later u function (Some s) later there i h = h
at_later u function None later there i h = absurd h

module _ (u : Unit) (function : ℕ) (items : List Item) (i : ℕ) (k : Knowledge) where
  abbrev from : Knowledge → ℕ → Option Site
  from m j = site_among u m.attributes m.here (item_shapes (drop j items)) function

  pub none_left : drop i items ≡ [] → from k i ≡ None
  unfolding site_among
  none_left e = ap (λ xs. site_among u k.attributes k.here (item_shapes xs) function) e

  module _ (x : Item) (at_i : drop i items ≡ x ∷ drop (suc i) items) where
    abbrev here_at : Option Site
    here_at = site_at u k.attributes k.here (item_shape x) function

    abbrev after : Knowledge
    after = behind u k (item_shape x)

    one_more : from k i ≡ or_later here_at (from after (suc i))
    unfolding site_among
    one_more = ap (λ xs. site_among u k.attributes k.here (item_shapes xs) function) at_i

    pub passed_on : (m : Knowledge) → Seeks u function k (item_shape x) m None → from m (i + 1) ≡ from k i
    passed_on m h =
        ap (λ y. from y (i + 1)) h.1 ∙ ap (from after) (sym (plus_one i))
        ∙ sym (one_more ∙ ap (λ o. or_later o (from after (suc i))) h.0)

    pub found_there : (m : Knowledge) (inside : Inside) → Seeks u function k (item_shape x) m (Some inside) → IsAt u function (from k i) m (Some inside)
    found_there m inside h = subst (λ o. IsAt u function o m (Some inside)) (sym one_more) (at_later u function here_at (from after (suc i)) m inside h)
