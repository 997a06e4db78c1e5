-- Laws of the grammar of declarations and items.
use Rattle.std.proofs.Common.{ℕ, ◌+◌, ◌≤◌, ◌≡◌, ◌∙◌, ap, sym, refl, List, [], ◌∷◌, Bool, true, false, Option, Some, None, Ok, Err, length}
use Rattle.std.proofs.Common.{arith, inl, inr, nat_eq}
use Rattle.tsa_base.specs.Tokens.{Lexeme}
use Rattle.tsa_tree.specs.expressions.Answers.{an_expression, below_limit}
use Rattle.tsa_tree.specs.attributes.Refusals.{left_out}
use Rattle.tsa_tree.specs.declarations.Answers.{Part, an_item, a_head_alone, some_locals, sort_of, call_of, Spells, RowsSpell, Begins}
use Rattle.tsa_tree.specs.declarations.Answers.{Refuses, IsAnswer, SpellTheSame, TypesSpellTheSame, OneSpelled, OneItem, PiecesBegin}
use Rattle.tsa_tree.specs.declarations.Answers.{AnAnswer, OneAnswer}
use Rattle.tsa_tree.specs.declarations.Syntax.{Declaration, Initialiser, value, list}
use Rattle.tsa_tree.specs.expressions.Syntax.{Expression}
use Rattle.tsa_tree.specs.Reads.{read}
use Rattle.tsa_tree.specs.Rows.{Node, some_items, item, mark, is_attribute_sign, sees, rule}
use Rattle.tsa_tree.specs.tokens.Signs.{Aliases}
use Rattle.tsa_tree.proofs.declarations.ToRows.{specifier_rows, locals_rows}
use Rattle.tsa_tree.proofs.declarations.Refusals.{ends_or_on}
use Rattle.tsa_tree.proofs.declarations.HeadsToRows.{head_rows}
use Rattle.tsa_tree.proofs.declarations.ItemsToRows.{items_rows}
use Rattle.tsa_tree.proofs.expressions.OneTree.{ends_there, at_the_end}
use Rattle.tsa_tree.proofs.RowFacts.{Ends, EndsLocal, EndsVariables}
use Rattle.tsa_tree.proofs.RowsRead.{reading, reading_exact, one_reading, piece_begins, whole_begins, completed, broken_free, one_bar}
use Rattle.tsa_tree.proofs.RowsFree.{free_spelled, free_begun, begun_to_bar}
use Rattle.tsa_tree.proofs.OneAnswer as verdicts
use Rattle.tsa_tree.proofs.declarations.RowsToProductions.{declaration_of}
use Rattle.tsa_grammar.specs.Exact as forms
use Rattle.tsa_grammar.specs.Reading.{Code, syntax, deep, barred, Refusal, refuse, Outcome, all}

module _ (tokens : List Lexeme) (aliases : Aliases) (fits : ℕ → Bool) where
  to_rows : (p : Part) (x : Node (sort_of p)) (a b : ℕ) → Spells tokens aliases fits p x a b → RowsSpell tokens aliases fits p x a b
  to_rows an_item xs a b h = items_rows tokens aliases fits false h
  to_rows a_head_alone x a b h = head_rows tokens aliases fits h
  to_rows (some_locals single d) xs a b h = locals_rows tokens aliases fits h

  from_rows : (p : Part) (x : Node (sort_of p)) (a b : ℕ) → RowsSpell tokens aliases fits p x a b → Spells tokens aliases fits p x a b
  from_rows an_item xs a b sp = declaration_of tokens fits sp
  from_rows a_head_alone x a b sp = declaration_of tokens fits sp
  from_rows (some_locals single d) xs a b sp = declaration_of tokens fits sp

pub spell_the_same : SpellTheSame
spell_the_same tokens aliases fits p x a b = (to_rows tokens aliases fits p x a b, from_rows tokens aliases fits p x a b)

pub types_spell_the_same : TypesSpellTheSame
types_spell_the_same tokens aliases fits t a b = ((λ h. specifier_rows tokens aliases fits h), (λ sp. declaration_of tokens fits sp))

-- one reading -----------------------------------------------------------------------

module _ (tokens : List Lexeme) (aliases : Aliases) where
  local_ends : (l : Option Expression) (x : Option Initialiser) → EndsLocal tokens aliases l x (length tokens)
  local_ends None None =
      let e = ends_there tokens aliases (length tokens) (omega arith) in (ap (λ s. nat_eq (mark s) 24) e, ap (λ s. nat_eq (mark s) 8) e)
  local_ends (Some l) None = ap (λ s. nat_eq (mark s) 24) (ends_there tokens aliases (length tokens) (omega arith))
  local_ends l (Some (value x)) = at_the_end tokens aliases an_expression 0 x (length tokens) (omega arith)
  local_ends l (Some (list xs span)) = tt

  variables_end : (x : Declaration) (xs : List Declaration) → EndsVariables tokens aliases x xs (length tokens)
  variables_end x [] =
      (local_ends x.ctype.length x.init, ap (λ s. nat_eq (mark s) 10) (ends_there tokens aliases (length tokens) (omega arith)))
  variables_end x (y ∷ ys) = variables_end y ys

  -- Nothing goes on after the last token.
  ends : (p : Part) (x : Node (sort_of p)) → Ends tokens (sort_of p) (call_of p aliases) x (length tokens)
  ends an_item xs = tt
  ends a_head_alone x = ap is_attribute_sign (ends_there tokens aliases (length tokens) (omega arith))
  ends (some_locals single d) [] = tt
  ends (some_locals false d) (x ∷ xs) = variables_end x xs
  ends (some_locals true d) (x ∷ xs) = local_ends x.ctype.length x.init

pub one_spelled : OneSpelled
one_spelled tokens aliases p x y a h k =
    one_reading tokens (sort_of p) (call_of p aliases) x y a (length tokens)
    (to_rows tokens aliases all p x a (length tokens) h) (to_rows tokens aliases all p y a (length tokens) k)
    (ends tokens aliases p x) (ends tokens aliases p y)

pub one_item : OneItem
one_item tokens aliases xs ys a b h k =
    one_reading tokens some_items (item aliases false) xs ys a b (items_rows tokens aliases all false h) (items_rows tokens aliases all false k) tt tt

pub pieces_begin : PiecesBegin
pieces_begin tokens aliases fits p x a b i le le' h =
    piece_begins tokens fits (sort_of p) (call_of p aliases) x a b i le le' (to_rows tokens aliases fits p x a b h)

-- answers ---------------------------------------------------------------------------

module _ (tokens : List Lexeme) (aliases : Aliases) (p : Part) (a : ℕ) where
  abbrev within : (ℕ → Bool) → Outcome (Node (sort_of p))
  within fits = reading tokens fits (sort_of p) (call_of p aliases) a

  abbrev Exact : Outcome (Node (sort_of p)) → Type 0
  Exact r = forms.Exact (rule tokens) (sees tokens) below_limit (sort_of p) (call_of p aliases) a r

  clash : (x : Node (sort_of p) × ℕ) (y : Refusal) (r : Outcome (Node (sort_of p))) → r ≡ Ok x → r ≡ Err y → ⊥
  clash x y r e q = let never : Ok x ≡ Err y = sym e ∙ q in cc

  -- What is spelled up to where the longest beginning ends is as long as it can be.
  whole_ends : (x : Node (sort_of p)) (i : ℕ) → Spells tokens aliases all p x a i → ((b : ℕ) → Begins tokens aliases all p a b → b ≤ i)
      → ((j q : ℕ) → Refuses tokens aliases all p a j q → ⊥) → Ends tokens (sort_of p) (call_of p aliases) x i
  whole_ends x i sp longest free =
      elim (ends_or_on tokens aliases p x a i sp) [
        | inl en ↦ en
        | inr more ↦ elim more [
          | inl on ↦ (let le = longest (i + 1) on in absurd (omega arith))
          | inr out ↦ absurd (free i left_out out)
        ]
      ]

  -- A reader without limits would have found what is spelled up to where the longest beginning ends.
  no_tree : (i : ℕ) → within below_limit ≡ Err (refuse syntax i) → ((b : ℕ) → Begins tokens aliases all p a b → b ≤ i)
      → ((j q : ℕ) → Refuses tokens aliases all p a j q → ⊥) → (x : Node (sort_of p)) → Spells tokens aliases all p x a i → ⊥
  no_tree i h longest free x sp =
      clash _ _ _
      (completed tokens (sort_of p) (call_of p aliases) x a i (to_rows tokens aliases all p x a i sp) (whole_ends x i sp longest free))
      (broken_free tokens below_limit (sort_of p) (call_of p aliases) a i h)

  refused : (code : Code) (i : ℕ) → within below_limit ≡ Err (refuse code i) → Exact (Err (refuse code i))
      → IsAnswer tokens aliases p a (Err (refuse code i))
  refused syntax i h x = record {
    begins = x.begins;
    longest = x.longest;
    no_tree = no_tree i h x.longest x.no_bar;
    none_refused = x.no_bar;
  }
  refused deep i h x = record { begins = x.begins; first = x.within; goes_on = x.goes_on; none_refused = x.no_bar }
  refused (barred q) i h x = record { begins = x.begins; first = x.first }

  answered : (r : Outcome (Node (sort_of p))) → within below_limit ≡ r → Exact r → IsAnswer tokens aliases p a r
  answered (Ok found) h x = record {
    spelled = from_rows tokens aliases below_limit p found.0 a found.1 x.spelled;
    longest = x.longest;
    none_refused = x.no_bar;
  }
  answered (Err e) h x = refused e.code e.token h x

pub an_answer : AnAnswer
unfolding read
an_answer tokens aliases p a =
    answered tokens aliases p a (reading tokens below_limit (sort_of p) (call_of p aliases) a) refl
    (reading_exact tokens below_limit (sort_of p) (call_of p aliases) a)

pub one_answer : OneAnswer
one_answer tokens aliases p a other h =
    verdicts.one_answer (λ fits x e. Spells tokens aliases fits p x a e) (λ fits i. Begins tokens aliases fits p a i)
    (λ fits i q. Refuses tokens aliases fits p a i q)
    (λ x e sp. from_rows tokens aliases all p x a e (free_spelled tokens below_limit (to_rows tokens aliases below_limit p x a e sp)))
    (λ i g. free_begun tokens below_limit g)
    (λ i q g. free_begun tokens below_limit g)
    (λ x e sp. whole_begins tokens below_limit (sort_of p) (call_of p aliases) x a e (to_rows tokens aliases below_limit p x a e sp))
    (λ i q g. begun_to_bar tokens below_limit g)
    (λ x y e sp sq w. one_reading tokens (sort_of p) (call_of p aliases) x y a e
    (to_rows tokens aliases all p x a e sp) (to_rows tokens aliases all p y a e sq)
    (whole_ends tokens aliases p a x e sp w.0 w.1) (whole_ends tokens aliases p a y e sq w.0 w.1))
    (λ i q r g k first. one_bar tokens (sort_of p) (call_of p aliases) a i q r g k first)
    other (read tokens (sort_of p) (call_of p aliases) a) h (an_answer tokens aliases p a)
