-- The spans in the items of a unit are those of its tokens, and lie in its text.
use Rattle.std.proofs.Common.{ℕ, ◌+◌, ◌≤◌, ◌≡◌, ◌∙◌, ap, sym, refl, subst, List, [], ◌∷◌, ◌++◌, map, Bool, append_assoc, arith}
use Rattle.tsa_base.specs.declared.token.Span.{Span}
use Rattle.tsa_base.specs.Tokens.{Lexeme}
use Rattle.tsa_tree.specs.attributes.Syntax.{Attribute}
use Rattle.tsa_tree.specs.declarations.Syntax.{Declaration, StructBody}
use Rattle.tsa_tree.specs.declarations.ItemSpelling.{IsStructBody, of_struct_body, IsItem, of_structure, of_tag_alone, of_structure_alias}
use Rattle.tsa_tree.specs.declarations.ItemSpelling.{of_enumeration, of_enumeration_alias, of_alias_item, of_globals, of_function}
use Rattle.tsa_tree.specs.declarations.ItemSpelling.{of_body_item}
use Rattle.tsa_tree.specs.tokens.Signs.{Aliases, span_over}
use Rattle.tsa_tree.specs.units.Spans.{spans_in_attributes, spans_in_declaration, spans_in_declarations, spans_in_item, spans_of_unit}
use Rattle.tsa_tree.specs.units.Spans.{SpansLieInText}
use Rattle.tsa_tree.specs.units.Spelling.{IsItems, no_items, of_items}
use Rattle.tsa_tree.specs.units.Syntax.{UnitItem, global_item}
use Rattle.tsa_tree.proofs.attributes.SpansCover.{joined, cover-attributes}
use Rattle.tsa_tree.proofs.declarations.TokenCounts.{ahead-storage, ahead-specifier, ahead-declarator}
use Rattle.tsa_tree.proofs.declarations.HeadsCover.{cover-tag, cover-head, cover-enum-body}
use Rattle.tsa_tree.proofs.declarations.SpansCover.{cover-specifier, cover-declarator, cover-declared, cover-members}
use Rattle.tsa_tree.proofs.statements.SpansCover.{cover-statements}
use Rattle.tsa_tree.proofs.tokens.Covering.{Cover, no_span, over, token_at, cover-ends, cover-none, cover-name, cover-within, cover-both}
use Rattle.tsa_tree.proofs.tokens.Covering.{cover-then, cover-last, cover-lies}
use Rattle.tsa_tree.proofs.tokens.Places.{in_order}

spans-items : (xs ys : List UnitItem) → spans_of_unit (xs ++ ys) ≡ spans_of_unit xs ++ spans_of_unit ys
spans-items [] ys = refl
spans-items (x ∷ xs) ys =
    ap (λ zs. spans_in_item x ++ zs) (spans-items xs ys) ∙ sym (append_assoc (spans_in_item x) (spans_of_unit xs) (spans_of_unit ys))

spans-globals : (xs : List Declaration) → spans_of_unit (map global_item xs) ≡ spans_in_declarations xs
spans-globals [] = refl
spans-globals (x ∷ xs) = ap (λ zs. spans_in_declaration x ++ zs) (spans-globals xs)

-- an item with a span of its own
whole : {tokens : List Lexeme} {a m n b : ℕ} {ss : List Span} → Cover tokens m n ss → a + 1 ≤ m → n ≤ b → Cover tokens a b ((span_over tokens a b ∷ ss) ++ [])
whole {a = a} {b = b} r le le' =
    let mid = cover-ends r in
    cover-last (over a b (omega arith) (omega arith) (omega arith) (cover-within r (omega arith) le'))

module _ {tokens : List Lexeme} {aliases : Aliases} {fits : ℕ → Bool} where
  -- members and attributes, those before the tag beside those after the brace
  cover-structure : (xs : List Attribute) {body : StructBody} {a m n b : ℕ} {t o : List Span} → Cover tokens a m (spans_in_attributes xs)
      → Cover tokens m n t → IsStructBody tokens aliases fits body n b → {e : ℕ} → Cover tokens b e o
      → Cover tokens a e (t ++ (spans_in_declarations body.members ++ (spans_in_attributes (xs ++ body.attrs) ++ o)))
  cover-structure xs {b = b} before r (of_struct_body {ms = ms} {xs = ys} {a = q} {m = p} brace f members close behind) s =
      let le = cover-ends before in
      let le' = cover-ends r in
      let middle = cover-members members in
      let le'' = cover-ends middle in
      let last = cover-attributes behind in
      let le3 = cover-ends last in
      let le4 = cover-ends s in
      cover-both (cover-within r (omega arith) (omega arith))
      (cover-both (cover-within middle (omega arith) (omega arith))
      (cover-both (joined xs ys (cover-both (cover-within before (omega arith) (omega arith)) (cover-within last (omega arith) (omega arith))))
      (cover-within s (omega arith) (omega arith))))

  cover-item : {w : Bool} {xs : List UnitItem} {a b : ℕ} → IsItem tokens aliases fits w xs a b → Cover tokens a b (spans_of_unit xs)
  cover-item (of_structure {xs = ys} {m = m} {n = n} s xs t body e) =
      whole (cover-structure ys (cover-attributes xs) (cover-name m) body (cover-none n))
      (omega arith) (omega arith)
  cover-item (of_tag_alone s t e) = no_span (omega arith)
  cover-item (of_structure_alias {xs = ys} {e = e} s s' xs t body q q') =
      whole (cover-structure ys (cover-attributes xs) (cover-tag t) body (cover-name e))
      (omega arith) (omega arith)
  cover-item (of_enumeration s t body e) = whole (cover-then (cover-tag t) (omega arith) (cover-last (cover-enum-body body))) (omega arith) (omega arith)
  cover-item (of_enumeration_alias {n = n} s s' t body e e') =
      whole (cover-then (cover-tag t) (omega arith)
      (cover-then (cover-enum-body body) (omega arith) (cover-name n))) (omega arith) (omega arith)
  cover-item (of_alias_item {a = a} {m = m} {n = n} s t c e) =
      let lt = ahead-specifier t in
      let lt' = ahead-declarator c in
      cover-last (over m n (omega arith) (omega arith) (omega arith)
      (cover-within (cover-then (cover-specifier t) (omega arith) (cover-declarator c (cover-none n))) (omega arith) (omega arith)))
  cover-item (of_globals {xs = xs} {a = a} {b = b} w t cs e) =
      subst (Cover tokens a (b + 1)) (sym (spans-globals xs)) (cover-within (cover-declared t cs) (ahead-storage w) (omega arith))
  cover-item (of_function h e) = cover-last (cover-within (cover-head h) (omega arith) (omega arith))
  cover-item (of_body_item {b = b} w h o f xs c) =
      let r = cover-then (cover-head h) (omega arith) (cover-statements xs) in
      let le = cover-ends r in
      cover-last (token_at b (omega arith) (omega arith) (cover-within r (omega arith) (omega arith)))

cover-items : {tokens : List Lexeme} {fits : ℕ → Bool} {aliases : Aliases} {xs : List UnitItem} {a b : ℕ} → IsItems tokens fits aliases xs a b
    → Cover tokens a b (spans_of_unit xs)
cover-items no_items = no_span (omega arith)
cover-items {tokens = tokens} (of_items {xs = xs} {ys = ys} {a = a} {b = b} x rest) =
    subst (Cover tokens a b) (sym (spans-items xs ys)) (cover-then (cover-item x) (omega arith) (cover-items rest))

pub spans_lie_in_text : SpansLieInText
spans_lie_in_text items read = cover-lies (in_order read.of_text.text read.tokens read.of_text.lexed) (omega arith) (cover-items read.spelled)
