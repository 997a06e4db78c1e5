-- The nodes of a unit stand in the order of the text, and so do the attributes of each struct.
use Rattle.std.proofs.Common.{ℕ, ◌+◌, ◌<◌, ◌≤◌, ◌≡◌, ◌∙◌, ap, sym, refl, subst, List, [], ◌∷◌, ◌++◌, length, map, Bool, append_assoc, arith}
use Rattle.tsa_base.specs.Tokens.{Lexeme}
use Rattle.tsa_tree.specs.attributes.Syntax.{Attribute}
use Rattle.tsa_tree.specs.declarations.Syntax.{Declaration, StructBody}
use Rattle.tsa_tree.specs.declarations.ItemSpelling.{IsStructBody, of_struct_body, IsItem, of_structure, of_tag_alone, of_structure_alias}
use Rattle.tsa_tree.specs.declarations.ItemSpelling.{of_enumeration, of_enumeration_alias, of_alias_item, of_globals, of_function}
use Rattle.tsa_tree.specs.declarations.ItemSpelling.{of_body_item}
use Rattle.tsa_tree.specs.tokens.Signs.{Aliases, span_over}
use Rattle.tsa_tree.specs.units.Order.{places_in_attributes, places_in_declaration, places_in_declarations, places_in_item, places_of_unit}
use Rattle.tsa_tree.specs.units.Order.{RiseInStructures, NodesRise}
use Rattle.tsa_tree.specs.units.Spelling.{IsItems, no_items, of_items}
use Rattle.tsa_tree.specs.units.Syntax.{UnitItem, global_item}
use Rattle.tsa_tree.proofs.attributes.TokenCounts.{ahead-attributes}
use Rattle.tsa_tree.proofs.attributes.NodesClimb.{joined, climbs-attributes}
use Rattle.tsa_tree.proofs.declarations.TokenCounts.{ahead-storage, ahead-specifier, ahead-declarator}
use Rattle.tsa_tree.proofs.declarations.HeadsCover.{cover-tag}
use Rattle.tsa_tree.proofs.declarations.NodesClimb.{climbs-declared, climbs-members, climbs-head, climbs-enum-body}
use Rattle.tsa_tree.proofs.statements.NodesClimb.{climb-statements}
use Rattle.tsa_tree.proofs.tokens.Climbing.{Climbs, no_place, place_at, climbs-ends, climbs-within, climbs-then, climbs-last, climbs-over}
use Rattle.tsa_tree.proofs.tokens.Climbing.{climbs-alone, climbs-rise}
use Rattle.tsa_tree.proofs.tokens.Covering.{cover-ends}
use Rattle.tsa_tree.proofs.tokens.Places.{AreInOrder, in_order}

places-items : (xs ys : List UnitItem) → places_of_unit (xs ++ ys) ≡ places_of_unit xs ++ places_of_unit ys
places-items [] ys = refl
places-items (x ∷ xs) ys =
    ap (λ zs. places_in_item x ++ zs) (places-items xs ys) ∙ sym (append_assoc (places_in_item x) (places_of_unit xs) (places_of_unit ys))

places-globals : (xs : List Declaration) → places_of_unit (map global_item xs) ≡ places_in_declarations xs
places-globals [] = refl
places-globals (x ∷ xs) = ap (λ zs. places_in_declaration x ++ zs) (places-globals xs)

structures-rise : (xs ys : List UnitItem) → RiseInStructures xs → RiseInStructures ys → RiseInStructures (xs ++ ys)
structures-rise [] ys g h = h
structures-rise (x ∷ xs) ys g h = (g.0, structures-rise xs ys g.1 h)

globals-rise : (xs : List Declaration) → RiseInStructures (map global_item xs)
globals-rise [] = tt
globals-rise (x ∷ xs) = (tt, globals-rise xs)

-- an item with a span of its own
whole : {tokens : List Lexeme} {a m n b : ℕ} {xs : List ℕ} → Climbs tokens m n xs → a < m → n ≤ b
    → Climbs tokens a b (((span_over tokens a b).from ∷ xs) ++ [])
whole {a = a} {b = b} r lt le =
    let end = climbs-ends r in
    climbs-last (climbs-over a b r (omega arith) (omega arith) (omega arith) le)

module _ {tokens : List Lexeme} {aliases : Aliases} {fits : ℕ → Bool} where
  climbs-body : {body : StructBody} {a b : ℕ} → IsStructBody tokens aliases fits body a b → Climbs tokens a b (places_in_declarations body.members)
  climbs-body (of_struct_body brace f members close behind) =
      let le = ahead-attributes behind in
      climbs-within (climbs-members members) (omega arith) (omega arith)

  -- the attributes of a struct, those before its tag and those after its brace
  climbs-both : (xs : List Attribute) {body : StructBody} {a m n b : ℕ} → Climbs tokens a m (places_in_attributes xs) → m ≤ n
      → IsStructBody tokens aliases fits body n b → Climbs tokens a b (places_in_attributes (xs ++ body.attrs))
  climbs-both xs before le (of_struct_body {xs = ys} brace f members close behind) =
      let le' = climbs-ends (climbs-members members) in
      joined xs ys (climbs-then before (omega arith) (climbs-attributes behind))

module _ {text : List ℕ} {tokens : List Lexeme} (order : AreInOrder text tokens) where
  module _ {aliases : Aliases} {fits : ℕ → Bool} where
    climbs-item : {w : Bool} {xs : List UnitItem} {a b : ℕ} → b ≤ length tokens → IsItem tokens aliases fits w xs a b → Climbs tokens a b (places_of_unit xs)
    climbs-item there (of_structure s xs t body e) =
        let le = ahead-attributes xs in
        whole (climbs-body body) (omega arith) (omega arith)
    climbs-item there (of_tag_alone s t e) = no_place (omega arith)
    climbs-item there (of_structure_alias s s' xs t body q q') =
        let le = ahead-attributes xs in
        let le' = cover-ends (cover-tag t) in
        whole (climbs-body body) (omega arith) (omega arith)
    climbs-item there (of_enumeration s t body e) =
        let le = cover-ends (cover-tag t) in
        whole (climbs-enum-body body) (omega arith) (omega arith)
    climbs-item there (of_enumeration_alias s s' t body e e') =
        let le = cover-ends (cover-tag t) in
        whole (climbs-enum-body body) (omega arith) (omega arith)
    climbs-item there (of_alias_item {m = m} {n = n} s t c e) =
        let lt = ahead-specifier t in
        let lt' = ahead-declarator c in
        climbs-last (climbs-alone m n (omega arith) (omega arith))
    climbs-item there (of_globals {xs = xs} {a = a} {b = b} w t cs e) =
        subst (Climbs tokens a (b + 1)) (sym (places-globals xs)) (climbs-within (climbs-declared t cs) (ahead-storage w) (omega arith))
    climbs-item there (of_function h e) = climbs-last (climbs-within (climbs-head h) (omega arith) (omega arith))
    climbs-item there (of_body_item {b = b} w h o f xs c) =
        climbs-last (climbs-then (climbs-head h) (omega arith)
        (climbs-then (climb-statements order xs (omega arith)) (omega arith) (place_at {a = b} b (omega arith) (omega arith) (no_place (omega arith)))))

    rise-in-item : {w : Bool} {xs : List UnitItem} {a b : ℕ} → b ≤ length tokens → IsItem tokens aliases fits w xs a b → RiseInStructures xs
    rise-in-item there (of_structure {xs = xs} s ys t body e) =
        (climbs-rise order (omega arith) (climbs-both xs (climbs-attributes ys) (omega arith) body), tt)
    rise-in-item there (of_tag_alone s t e) = tt
    rise-in-item there (of_structure_alias {xs = xs} s s' ys t body q q') =
        (climbs-rise order (omega arith) (climbs-both xs (climbs-attributes ys) (cover-ends (cover-tag t)) body), tt)
    rise-in-item there (of_enumeration s t body e) = (tt, tt)
    rise-in-item there (of_enumeration_alias s s' t body e e') = (tt, tt)
    rise-in-item there (of_alias_item s t c e) = (tt, tt)
    rise-in-item there (of_globals {xs = xs} w t cs e) = globals-rise xs
    rise-in-item there (of_function h e) = (tt, tt)
    rise-in-item there (of_body_item w h o f xs c) = (tt, tt)

  climbs-items : {fits : ℕ → Bool} {aliases : Aliases} {xs : List UnitItem} {a b : ℕ} → b ≤ length tokens → IsItems tokens fits aliases xs a b
      → Climbs tokens a b (places_of_unit xs)
  climbs-items there no_items = no_place (omega arith)
  climbs-items there (of_items {xs = xs} {ys = ys} {a = a} {b = b} x rest) =
      let r = climbs-items there rest in
      let end = climbs-ends r in
      subst (Climbs tokens a b) (sym (places-items xs ys)) (climbs-then (climbs-item (omega arith) x) (omega arith) r)

  rise-in-items : {fits : ℕ → Bool} {aliases : Aliases} {xs : List UnitItem} {a b : ℕ} → b ≤ length tokens → IsItems tokens fits aliases xs a b
      → RiseInStructures xs
  rise-in-items there no_items = tt
  rise-in-items there (of_items {xs = xs} {ys = ys} x rest) =
      let end = climbs-ends (climbs-items there rest) in
      structures-rise xs ys (rise-in-item (omega arith) x) (rise-in-items there rest)

pub nodes_rise : NodesRise
nodes_rise items read =
    let order = in_order read.of_text.text read.tokens read.of_text.lexed in
    (climbs-rise order (omega arith) (climbs-items order (omega arith) read.spelled), rise-in-items order (omega arith) read.spelled)
