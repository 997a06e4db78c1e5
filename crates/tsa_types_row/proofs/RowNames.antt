-- What the names of a row mean: a node behind others.
use Rattle.std.proofs.Common.{◌≡◌, ◌∙◌, ℕ, ◌+◌, suc, Bool, true, false, nat_eq, if◌then◌else◌, List, [], ◌∷◌, ◌++◌, drop}
use Rattle.std.proofs.Common.{Option, Some, None, refl, sym, ap}
use Rattle.std.proofs.lemmas.Bool.{eqb-true, eq-eqb}
use Rattle.tsa_base.specs.declared.token.Span.{Span}
use Rattle.tsa_base.proofs.Numbers.{plus_one}
use Rattle.tsa_tree.specs.declared.meaning.Symbol.{Symbol}
use Rattle.tsa_tree.specs.types.Symbols.{symbol_in, name_at}
use Rattle.tsa_types_row.specs.Rows.{names_read, op_symbol}
use Rattle.tsa_types_row.specs.declared.node.Node.{Node}

-- numbers that differ
other : (a b : ℕ) → (a ≡ b → ⊥) → nat_eq a b ≡ false
other a b apart = by_test (nat_eq a b) refl
  where
    by_test : (t : Bool) → nat_eq a b ≡ t → t ≡ false
    by_test true e = absurd (apart (eqb-true a b e))
    by_test false e = refl

module _ (span : Span) where
  -- what the span means in a row
  abbrev pub said : List Node → Option Symbol
  said row = symbol_in (names_read row) span

  -- where the first node's name stands
  abbrev pub ends : Span → Symbol → Option Symbol
  ends at symbol = if nat_eq at.to span.to then Some symbol else None

  silent : (x : Node) (xs : List Node) → op_symbol x.op ≡ None → said (x ∷ xs) ≡ said xs
  silent x xs is = ap (λ o. symbol_in (name_at x.span o ++ names_read xs) span) is

  past : (x : Node) (xs : List Node) (symbol : Symbol) → op_symbol x.op ≡ Some symbol → (x.span.from ≡ span.from → ⊥) → said (x ∷ xs) ≡ said xs
  past x xs symbol is apart =
      ap (λ o. symbol_in (name_at x.span o ++ names_read xs) span) is
      ∙ ap (λ b. if b then ends x.span symbol else said xs) (other span.from x.span.from (λ e. apart (sym e)))

  here : (x : Node) (xs : List Node) (symbol : Symbol) → op_symbol x.op ≡ Some symbol → x.span.from ≡ span.from → said (x ∷ xs) ≡ ends x.span symbol
  here x xs symbol is at =
      ap (λ o. symbol_in (name_at x.span o ++ names_read xs) span) is
      ∙ ap (λ b. if b then ends x.span symbol else said xs) (eq-eqb span.from x.span.from (sym at))

  module _ (xs : List Node) (i : ℕ) where
    pub none_left : drop i xs ≡ [] → said (drop i xs) ≡ None
    none_left e = ap said e

    module _ (x : Node) (at_i : drop i xs ≡ x ∷ drop (suc i) xs) where
      pub no_name : op_symbol x.op ≡ None → said (drop (i + 1) xs) ≡ said (drop i xs)
      no_name is = ap (λ j. said (drop j xs)) (sym (plus_one i)) ∙ sym (ap said at_i ∙ silent x (drop (suc i) xs) is)

      pub other_name : (symbol : Symbol) → op_symbol x.op ≡ Some symbol → (x.span.from ≡ span.from → ⊥) → said (drop (i + 1) xs) ≡ said (drop i xs)
      other_name symbol is apart = ap (λ j. said (drop j xs)) (sym (plus_one i)) ∙ sym (ap said at_i ∙ past x (drop (suc i) xs) symbol is apart)

      pub found_name : (symbol : Symbol) → op_symbol x.op ≡ Some symbol → x.span.from ≡ span.from → said (drop i xs) ≡ ends x.span symbol
      found_name symbol is at = ap said at_i ∙ here x (drop (suc i) xs) symbol is at

-- what going through a row node by node needs
pub ruleset reading = (none_left, no_name, other_name, found_name)
