-- What a reader of an item, a function's head or locals has to answer. What is spelled goes by the productions, and what begins
-- a part or is refused in it by the rows.
use Rattle.std.specs.Prelude.{ℕ, ◌≡◌, ◌≤◌, List, Bool, false, Some, None, length}
use Rattle.tsa_base.specs.Tokens.{Lexeme}
use Rattle.tsa_tree.specs.declarations.Syntax.{Specified}
use Rattle.tsa_tree.specs.units.Syntax.{UnitItem}
use Rattle.tsa_tree.specs.declarations.Spelling.{IsSpecifier, IsLocals}
use Rattle.tsa_tree.specs.declarations.ItemSpelling.{IsHead, IsItem}
use Rattle.tsa_tree.specs.Rows.{Sort, a_specifier, some_declarations, a_head, some_items, Node, Call, specifier, locals, head, item, sees}
use Rattle.tsa_tree.specs.Rows.{rule}
use Rattle.tsa_tree.specs.Reads.{read}
use Rattle.tsa_tree.specs.tokens.Signs.{Aliases}
use Rattle.tsa_tree.specs.Verdicts as verdicts
use Rattle.tsa_grammar.specs.Spelling as forms
use Rattle.tsa_grammar.specs.Reading.{Outcome, all}

-- What can be asked of a declaration's reader, and what each part is.
pub data Part : Type 0 where
  an_item : Part
  a_head_alone : Part
  some_locals : (single : Bool) (depth : ℕ) → Part

abbrev pub sort_of : Part → Sort
sort_of an_item = some_items
sort_of a_head_alone = a_head
sort_of (some_locals single depth) = some_declarations

abbrev pub call_of : (p : Part) → Aliases → Call (sort_of p)
call_of an_item aliases = item aliases false
call_of a_head_alone aliases = head aliases
call_of (some_locals single depth) aliases = locals aliases single depth

-- the tokens from a on up to before b spell it
abbrev pub Spells : List Lexeme → Aliases → (ℕ → Bool) → (p : Part) → Node (sort_of p) → (a b : ℕ) → Type 0
Spells tokens aliases fits an_item xs a b = IsItem tokens aliases fits false xs a b
Spells tokens aliases fits a_head_alone h a b = IsHead tokens aliases fits h a b
Spells tokens aliases fits (some_locals single depth) xs a b = IsLocals tokens aliases fits single depth xs a b

abbrev pub RowsSpell : List Lexeme → Aliases → (ℕ → Bool) → (p : Part) → Node (sort_of p) → (a b : ℕ) → Type 0
RowsSpell tokens aliases fits p x a b = forms.Spells (rule tokens) (sees tokens) fits (sort_of p) (call_of p aliases) x a b

-- the tokens from a on up to before b begin it
abbrev pub Begins : List Lexeme → Aliases → (ℕ → Bool) → Part → (a b : ℕ) → Type 0
Begins tokens aliases fits p a b = forms.Begins (rule tokens) (sees tokens) fits (sort_of p) (call_of p aliases) a b None

-- they do, and the token at b is refused for the reason q
abbrev pub Refuses : List Lexeme → Aliases → (ℕ → Bool) → Part → (a b q : ℕ) → Type 0
Refuses tokens aliases fits p a b q = forms.Begins (rule tokens) (sees tokens) fits (sort_of p) (call_of p aliases) a b (Some q)

module _ (tokens : List Lexeme) (aliases : Aliases) (p : Part) (a : ℕ) where
  abbrev pub IsLongest : Node (sort_of p) → ℕ → Type 0
  IsLongest x e =
      verdicts.IsLongest (λ fits x e. Spells tokens aliases fits p x a e) (λ fits i. Begins tokens aliases fits p a i)
      (λ fits i q. Refuses tokens aliases fits p a i q) x e

  abbrev pub IsBroken : ℕ → Type 0
  IsBroken i =
      verdicts.IsBroken (λ fits x e. Spells tokens aliases fits p x a e) (λ fits i. Begins tokens aliases fits p a i)
      (λ fits i q. Refuses tokens aliases fits p a i q) i

  abbrev pub IsRefused : (q i : ℕ) → Type 0
  IsRefused q i =
      verdicts.IsRefused (λ fits x e. Spells tokens aliases fits p x a e) (λ fits i. Begins tokens aliases fits p a i)
      (λ fits i q. Refuses tokens aliases fits p a i q) q i

  abbrev pub IsTooDeep : ℕ → Type 0
  IsTooDeep i =
      verdicts.IsTooDeep (λ fits x e. Spells tokens aliases fits p x a e) (λ fits i. Begins tokens aliases fits p a i)
      (λ fits i q. Refuses tokens aliases fits p a i q) i

  abbrev pub IsAnswer : Outcome (Node (sort_of p)) → Type 0
  IsAnswer answer =
      verdicts.IsAnswer (λ fits x e. Spells tokens aliases fits p x a e) (λ fits i. Begins tokens aliases fits p a i)
      (λ fits i q. Refuses tokens aliases fits p a i q) answer

-- the rows spell what the productions spell, and nothing else
abbrev pub SpellTheSame : Type 0
SpellTheSame = (tokens : List Lexeme) (aliases : Aliases) (fits : ℕ → Bool) (p : Part) (x : Node (sort_of p)) (a b : ℕ) →
    (Spells tokens aliases fits p x a b → RowsSpell tokens aliases fits p x a b)
    × (RowsSpell tokens aliases fits p x a b → Spells tokens aliases fits p x a b)

abbrev pub TypesSpellTheSame : Type 0
TypesSpellTheSame = (tokens : List Lexeme) (aliases : Aliases) (fits : ℕ → Bool) (t : Specified) (a b : ℕ) →
    (IsSpecifier tokens aliases t a b → forms.Spells (rule tokens) (sees tokens) fits a_specifier (specifier aliases) t a b)
    × (forms.Spells (rule tokens) (sees tokens) fits a_specifier (specifier aliases) t a b → IsSpecifier tokens aliases t a b)

-- two that the same tokens spell, to the last one, are equal
abbrev pub OneSpelled : Type 0
OneSpelled = (tokens : List Lexeme) (aliases : Aliases) (p : Part) (x y : Node (sort_of p)) (a : ℕ) →
    Spells tokens aliases all p x a (length tokens) → Spells tokens aliases all p y a (length tokens) → x ≡ y

-- an item ends with its `;`: two lists of items that the same tokens spell are equal, whatever follows
abbrev pub OneItem : Type 0
OneItem = (tokens : List Lexeme) (aliases : Aliases) (xs ys : List UnitItem) (a b : ℕ) →
    IsItem tokens aliases all false xs a b → IsItem tokens aliases all false ys a b → xs ≡ ys

-- every first piece of what is spelled begins it
abbrev pub PiecesBegin : Type 0
PiecesBegin = (tokens : List Lexeme) (aliases : Aliases) (fits : ℕ → Bool) (p : Part) (x : Node (sort_of p)) (a b i : ℕ) →
    a ≤ i → i ≤ b → Spells tokens aliases fits p x a b → Begins tokens aliases fits p a i

-- there is a right answer for every list and place: what reading by the rows gives
abbrev pub AnAnswer : Type 0
AnAnswer = (tokens : List Lexeme) (aliases : Aliases) (p : Part) (a : ℕ) →
    IsAnswer tokens aliases p a (read tokens (sort_of p) (call_of p aliases) a)

-- and there is no other
abbrev pub OneAnswer : Type 0
OneAnswer = (tokens : List Lexeme) (aliases : Aliases) (p : Part) (a : ℕ) (other : Outcome (Node (sort_of p))) →
    IsAnswer tokens aliases p a other → other ≡ read tokens (sort_of p) (call_of p aliases) a
