-- The names in the items of a unit stand at different places.
use Rattle.std.proofs.Common.{ℕ, ◌≤◌, ◌≡◌, ◌∙◌, ap, sym, refl, subst, List, [], ◌∷◌, ◌++◌, map, length, Bool, Option, None, append_assoc}
use Rattle.std.proofs.Common.{arith}
use Rattle.tsa_base.specs.Tokens.{Lexeme}
use Rattle.tsa_tree.specs.attributes.Syntax.{Attribute}
use Rattle.tsa_tree.specs.declarations.Syntax.{Declaration, StructBody}
use Rattle.tsa_tree.specs.declarations.ItemSpelling.{IsStructBody, of_struct_body, IsItem, of_structure, of_tag_alone, of_structure_alias}
use Rattle.tsa_tree.specs.declarations.ItemSpelling.{of_enumeration, of_enumeration_alias, of_alias_item, of_globals, of_function}
use Rattle.tsa_tree.specs.declarations.ItemSpelling.{of_body_item}
use Rattle.tsa_tree.specs.expressions.Syntax.{Identifier}
use Rattle.tsa_tree.specs.tokens.Signs.{Aliases}
use Rattle.tsa_tree.specs.units.Names.{names_in_attributes, base_in, names_in_declaration, names_in_declarations, names_in_items}
use Rattle.tsa_tree.specs.units.Names.{NamesStandApart}
use Rattle.tsa_tree.specs.units.Spelling.{IsItems, no_items, of_items}
use Rattle.tsa_tree.specs.units.Syntax.{UnitItem, global_item}
use Rattle.tsa_tree.proofs.attributes.NamesRise.{rises-attributes, names-attributes}
use Rattle.tsa_tree.proofs.declarations.TokenCounts.{ahead-storage}
use Rattle.tsa_tree.proofs.declarations.HeadsRise.{rises-tag, rises-head, rises-enum-body}
use Rattle.tsa_tree.proofs.declarations.NamesRise.{last_base, rises-specifier, declared, rises-declared, rises-members}
use Rattle.tsa_tree.proofs.statements.NamesRise.{rises-statements}
use Rattle.tsa_tree.proofs.tokens.Places.{AreInOrder, in_order}
use Rattle.tsa_tree.proofs.tokens.Rising.{Rises, no_name, rises-ends, rises-then, rises-here, rises-last}
use Rattle.tsa_tree.proofs.tokens.Standing.{Stand, stand-ends, stand-rises, stand-then, stand-before, stand-next, stand-within, stand-apart}

names-globals : (before : Option Identifier) (xs : List Declaration) (ys : List UnitItem)
    → names_in_items before (map global_item xs ++ ys) ≡ names_in_declarations before xs ++ names_in_items (last_base before xs) ys
names-globals before [] ys = refl
names-globals before (x ∷ xs) ys =
    ap (λ zs. names_in_declaration before x ++ zs) (names-globals (base_in x) xs ys)
    ∙ sym (append_assoc (names_in_declaration before x) (names_in_declarations (base_in x) xs) (names_in_items (last_base (base_in x) xs) ys))

-- the attributes before a tag beside those after the brace
beside : (t ms : List Identifier) (xs ys : List Attribute) (o : List Identifier)
    → ((t ++ ms) ++ names_in_attributes xs) ++ (names_in_attributes ys ++ o) ≡ t ++ (ms ++ (names_in_attributes (xs ++ ys) ++ o))
beside t ms xs ys o =
    let e : names_in_attributes (xs ++ ys) ++ o ≡ names_in_attributes xs ++ (names_in_attributes ys ++ o) =
    ap (λ zs. zs ++ o) (names-attributes xs ys) ∙ append_assoc (names_in_attributes xs) (names_in_attributes ys) o in
    append_assoc (t ++ ms) (names_in_attributes xs) (names_in_attributes ys ++ o)
    ∙ (append_assoc t ms (names_in_attributes xs ++ (names_in_attributes ys ++ o))
    ∙ ap (λ zs. t ++ (ms ++ zs)) (sym e))

module _ {text : List ℕ} {tokens : List Lexeme} (order : AreInOrder text tokens) where
  -- a struct: attributes, a tag, members, attributes and a name of a type
  stand-structure : (xs : List Attribute) {aliases : Aliases} {fits : ℕ → Bool} {a m n e b : ℕ} {t o : List Identifier} {body : StructBody} → b ≤ length tokens
      → Rises tokens a m (names_in_attributes xs) → Rises tokens m n t → IsStructBody tokens aliases fits body n e → Rises tokens e b o
      → Stand tokens a b (t ++ (names_in_declarations None body.members ++ (names_in_attributes (xs ++ body.attrs) ++ o)))
  stand-structure xs {a = a} {m = m} {e = e} {b = b} {t = t} {o = o} le before r (of_struct_body {ms = ms} {xs = ys} {m = q} brace f members close behind) s =
      let le' = rises-ends s in
      let le'' = rises-ends (rises-attributes behind) in
      subst (Stand tokens a b) (beside t (names_in_declarations None ms) xs ys o)
      (stand-then order le
      (stand-before order (omega arith) (stand-rises order (omega arith) (rises-then r (omega arith) (rises-members members None))) (omega arith)
      (stand-rises order (let hi = rises-ends r in let hi' = rises-ends (rises-members members None) in omega arith) before))
      (omega arith) (stand-rises order le (rises-then (rises-attributes behind) (omega arith) s)))

  module _ {aliases : Aliases} {fits : ℕ → Bool} where
    -- an item, and those after it
    stand-item : {w : Bool} {xs : List UnitItem} (ys : List UnitItem) {a m b : ℕ} → b ≤ length tokens → IsItem tokens aliases fits w xs a m
        → ((before : Option Identifier) → Stand tokens m b (names_in_items before ys))
        → (before : Option Identifier) → Stand tokens a b (names_in_items before (xs ++ ys))
    stand-item ys le (of_structure {xs = zs} {m = t} {n = n} s xs e body e') k before =
        let end = stand-ends (k None) in
        stand-next order le (omega arith)
        (stand-structure zs (omega arith) (rises-attributes xs) (rises-here t) body (no_name {b = n} (omega arith)))
        (omega arith) (k None)
    stand-item ys le (of_tag_alone s e e') k before = stand-within (omega arith) (k before)
    stand-item ys le (of_structure_alias {xs = zs} {e = n} s s' xs t body e e') k before =
        let end = stand-ends (k None) in
        stand-next order le (omega arith)
        (stand-structure zs (omega arith) (rises-attributes xs) (rises-tag t) body (rises-here n))
        (omega arith) (k None)
    stand-item ys le (of_enumeration s t body e) k before =
        let end = stand-ends (k None) in
        stand-next order le (omega arith)
        (stand-rises order (omega arith) (rises-then (rises-tag t) (omega arith) (rises-last (rises-enum-body body))))
        (omega arith) (k None)
    stand-item ys le (of_enumeration_alias {n = n} s s' t body e e') k before =
        let end = stand-ends (k None) in
        stand-next order le (omega arith)
        (stand-rises order (omega arith) (rises-then (rises-tag t) (omega arith) (rises-then (rises-enum-body body) (omega arith) (rises-here n))))
        (omega arith) (k None)
    stand-item ys le (of_alias_item {n = n} s t c e) k before =
        let end = stand-ends (k None) in
        stand-next order le (omega arith)
        (stand-rises order (omega arith) (rises-then (rises-specifier t) (omega arith) (declared c (no_name {b = n} (omega arith)))))
        (omega arith) (k None)
    stand-item ys {a = a} {b = b} le (of_globals {xs = xs} w t cs e) k before =
        let end = stand-ends (k None) in
        subst (Stand tokens a b) (sym (names-globals before xs ys))
        (stand-next order le (ahead-storage w) (stand-rises order (omega arith) (rises-declared t cs before))
        (omega arith) (k (last_base before xs)))
    stand-item ys le (of_function h e) k before =
        let end = stand-ends (k None) in
        stand-then order le (stand-rises order (omega arith) (rises-head h)) (omega arith) (k None)
    stand-item ys le (of_body_item w h o f xs c) k before =
        let end = stand-ends (k None) in
        stand-then order le
        (stand-rises order (omega arith) (rises-then (rises-head h) (omega arith) (rises-statements xs None)))
        (omega arith) (k None)

  stand-items : {fits : ℕ → Bool} {aliases : Aliases} {xs : List UnitItem} {a b : ℕ} → IsItems tokens fits aliases xs a b → b ≤ length tokens
      → (before : Option Identifier) → Stand tokens a b (names_in_items before xs)
  stand-items no_items le before = stand-rises order le (no_name (omega arith))
  stand-items (of_items {ys = ys} x rest) le before = stand-item ys le x (λ before. stand-items rest le before) before

pub names_stand_apart : NamesStandApart
names_stand_apart items read =
    stand-apart (stand-items (in_order read.of_text.text read.tokens read.of_text.lexed) read.spelled (omega arith) None)
