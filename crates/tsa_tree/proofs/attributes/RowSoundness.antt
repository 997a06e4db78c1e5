-- The rows of attributes spell attributes by the productions only.
use Rattle.std.proofs.Common.{ℕ, ◌+◌, ◌≡◌, sym, subst, refl, List, [], ◌∷◌, Bool, true, ◌&&◌, Some, None}
use Rattle.std.specs.declared.option.Option.{Option}
use Rattle.tsa_base.specs.Tokens.{Lexeme}
use Rattle.tsa_base.proofs.Truths.{never_true as never}
use Rattle.tsa_tree.specs.declared.attr.AttrKind.{AttrKind}
use Rattle.tsa_tree.specs.declared.sign.Sign.{Sign}
use Rattle.tsa_tree.specs.declared.sign.Sign.TheVariants as sign
use Rattle.tsa_tree.specs.declared.sign.Meaning.{Meaning}
use Rattle.tsa_tree.specs.declared.sign.Meaning.TheVariants as mean
use Rattle.tsa_tree.specs.attributes.Syntax as takes
use Rattle.tsa_tree.specs.attributes.Syntax.{Attribute, Taking, taking, try_value}
use Rattle.tsa_tree.specs.expressions.Syntax.{Arguments}
use Rattle.tsa_tree.specs.tokens.Signs.{Aliases, sign_at, identifier_at, is_word_at, entry_meaning}
use Rattle.tsa_tree.specs.attributes.Spelling.{attribute, attribute_of, IsAttribute, of_text, of_one, of_expressions, of_try, IsBalanced}
use Rattle.tsa_tree.specs.attributes.Spelling.{of_nothing, of_token, of_parentheses, of_brackets, of_braces, IsEntry, of_known, of_ignored}
use Rattle.tsa_tree.specs.attributes.Spelling.{of_ignored_list, of_entry, of_entries, IsGroup, of_macro, of_no_entries, of_list}
use Rattle.tsa_tree.specs.attributes.Spelling.{IsAttributes, of_no_group, of_group}
use Rattle.tsa_tree.specs.attributes.Beginnings.{Opened}
use Rattle.tsa_tree.specs.Rows.{some_attributes, a_skip, attributes, group, entries, balanced, Closer, closing_parenthesis, closing_bracket}
use Rattle.tsa_tree.specs.Rows.{closing_brace, Kind, kind, a_word, is_given, sees, Row, lacks, arguments_row, attribute_row, group_row}
use Rattle.tsa_tree.specs.Rows.{entries_end, entry_row, balanced_row, rule}
use Rattle.tsa_tree.proofs.tokens.ProductionSigns.{shows_open, shows_close, shows_close_bracket, shows_comma, shows_text, shows_close_brace}
use Rattle.tsa_tree.proofs.attributes.Meanings.{Keeps, Closed, ClosedEntries, ClosedBalanced}

-- what is given is a value
pub given : (v : Option Bool) → is_given v ≡ true → (b : Bool) × (v ≡ Some b)
given None e = never e
given (Some b) e = (b, refl)

-- Balanced tokens after balanced tokens are balanced.
pub and_balanced : {tokens : List Lexeme} {aliases : Aliases} {fits : ℕ → Bool} {d a m b : ℕ}
    → IsBalanced tokens aliases fits d a m → IsBalanced tokens aliases fits d m b → IsBalanced tokens aliases fits d a b
and_balanced of_nothing j = j
and_balanced (of_token q i) j = of_token q (and_balanced i j)
and_balanced (of_parentheses q fit i close r) j = of_parentheses q fit i close (and_balanced r j)
and_balanced (of_brackets q fit i close r) j = of_brackets q fit i close (and_balanced r j)
and_balanced (of_braces q fit i close r) j = of_braces q fit i close (and_balanced r j)

module _ (tokens : List Lexeme) (aliases : Aliases) (fits : ℕ → Bool) where
  -- Expressions and the parenthesis that closes them make an attribute whole.
  pub closed_expressions : {d : ℕ} {k : AttrKind} {m : ℕ} → taking k ≡ takes.expressions → sign_at tokens aliases (m + 1) ≡ sign.Open
      → fits d ≡ true → (xs : Arguments) (n : ℕ) → Closed tokens fits aliases (d + 1) xs (m + 1 + 1) n
      → IsAttribute tokens aliases fits d k (attribute_of tokens k xs m n) m n
  closed_expressions {d = d} {k = k} {m = m} t open_ fit xs n closed =
      subst (λ n. IsAttribute tokens aliases fits d k (attribute_of tokens k xs m n) m n) (sym closed.3)
      (of_expressions t open_ fit closed.1 closed.2)

  -- And so after the result of a try.
  pub closed_try : {d : ℕ} {k : AttrKind} {m : ℕ} → taking k ≡ takes.a_try → sign_at tokens aliases (m + 1) ≡ sign.Open → fits d ≡ true
      → (v : Bool) → try_value (identifier_at tokens (m + 1 + 1)).text ≡ Some v → sign_at tokens aliases (m + 1 + 1 + 1) ≡ sign.Comma
      → (xs : Arguments) (n : ℕ) → Closed tokens fits aliases (d + 1) xs (m + 1 + 1 + 1 + 1) n
      → IsAttribute tokens aliases fits d k (attribute tokens k None (try_value (identifier_at tokens (m + 1 + 1)).text) xs m n) m n
  closed_try {d = d} {k = k} {m = m} t open_ fit v e comma xs n closed =
      subst (λ w. IsAttribute tokens aliases fits d k (attribute tokens k None w xs m n) m n) (sym e)
      (subst (λ n. IsAttribute tokens aliases fits d k (attribute tokens k None (Some v) xs m n) m n) (sym closed.3)
      (of_try t open_ fit e comma closed.1 closed.2))

  -- Entries and their parenthesis, and one parenthesis more, make a group whole.
  pub closed_list : {d m : ℕ} → Opened tokens aliases fits d m → (xs : List Attribute) (n : ℕ)
      → ClosedEntries tokens fits aliases (d + 1 + 1) xs (m + 1 + 1 + 1) n → sign_at tokens aliases n ≡ sign.Close
      → IsGroup tokens aliases fits d xs m (n + 1)
  closed_list {d = d} {m = m} o xs n closed close =
      subst (λ n. IsGroup tokens aliases fits d xs m (n + 1)) (sym closed.3)
      (of_list o.0 o.1 o.2 o.3 o.4 closed.1 closed.2 (subst (λ n. sign_at tokens aliases n ≡ sign.Close) closed.3 close))

  -- A name that says nothing of threads, with its closed parentheses, is an entry.
  pub closed_entry : {d m : ℕ} → is_word_at tokens m ≡ true → entry_meaning tokens aliases m ≡ mean.Ignored
      → sign_at tokens aliases (m + 1) ≡ sign.Open → fits d ≡ true → (n : ℕ)
      → ClosedBalanced tokens fits aliases (d + 1) closing_parenthesis (m + 1 + 1) n → IsEntry tokens aliases fits d [] m n
  closed_entry {d = d} {m = m} word q open_ fit n closed =
      subst (λ n. IsEntry tokens aliases fits d [] m n) (sym closed.3)
      (of_ignored_list word q open_ fit closed.1 (shows_close tokens aliases closed.0 closed.2))

  -- Closed parentheses, brackets and braces are balanced.
  pub closed_parentheses : {d m : ℕ} → sign_at tokens aliases m ≡ sign.Open → fits d ≡ true → (n : ℕ)
      → ClosedBalanced tokens fits aliases (d + 1) closing_parenthesis (m + 1) n → IsBalanced tokens aliases fits d m n
  closed_parentheses {d = d} {m = m} q fit n closed =
      subst (λ n. IsBalanced tokens aliases fits d m n) (sym closed.3)
      (of_parentheses q fit closed.1 (shows_close tokens aliases closed.0 closed.2) of_nothing)

  pub closed_brackets : {d m : ℕ} → sign_at tokens aliases m ≡ sign.OpenBracket → fits d ≡ true → (n : ℕ)
      → ClosedBalanced tokens fits aliases (d + 1) closing_bracket (m + 1) n → IsBalanced tokens aliases fits d m n
  closed_brackets {d = d} {m = m} q fit n closed =
      subst (λ n. IsBalanced tokens aliases fits d m n) (sym closed.3)
      (of_brackets q fit closed.1 (shows_close_bracket tokens aliases closed.0 closed.2) of_nothing)

  pub closed_braces : {d m : ℕ} → sign_at tokens aliases m ≡ sign.OpenBrace → fits d ≡ true → (n : ℕ)
      → ClosedBalanced tokens fits aliases (d + 1) closing_brace (m + 1) n → IsBalanced tokens aliases fits d m n
  closed_braces {d = d} {m = m} q fit n closed =
      subst (λ n. IsBalanced tokens aliases fits d m n) (sym closed.3)
      (of_braces q fit closed.1 (shows_close_brace tokens aliases closed.0 closed.2) of_nothing)

  -- What an attribute takes keeps to it.
  keeps_arguments : (d : ℕ) (k : AttrKind) (m : ℕ) (P : List Attribute → ℕ → Type 0) (end : Attribute → ℕ → Row some_attributes)
      → sign_at tokens aliases (m + 1) ≡ sign.Open → fits d ≡ true
      → ((x : Attribute) (e : ℕ) → IsAttribute tokens aliases fits d k x m e → Keeps tokens fits some_attributes P (end x e) e)
      → (t : Taking) → taking k ≡ t
      → Keeps tokens fits some_attributes P (arguments_row tokens aliases (d + 1) k m t end) (m + 1 + 1)
  keeps_arguments d k m P end open_ fit go takes.a_text t =
      λ text close. go _ _ (of_text t open_ fit (shows_text tokens aliases (m + 1 + 1) text) (shows_close tokens aliases (m + 1 + 1 + 1) close))
  keeps_arguments d k m P end open_ fit go takes.one_expression t =
      (tt, λ x n i close. go _ _ (of_one t open_ fit i (shows_close tokens aliases n close)))
  keeps_arguments d k m P end open_ fit go takes.expressions t =
      (tt, λ xs n closed. go _ n (closed_expressions t open_ fit xs n closed))
  keeps_arguments d k m P end open_ fit go takes.a_try t =
      λ result comma. (
        tt,
        λ xs n closed.
            let g = given (try_value (identifier_at tokens (m + 1 + 1)).text) result in
            go _ n (closed_try t open_ fit g.0 g.1 (shows_comma tokens aliases (m + 1 + 1 + 1) comma) xs n closed),
      )

  -- An attribute keeps to its production where what comes after it does.
  keeps_attribute : (d : ℕ) (k : AttrKind) (m : ℕ) (refused : Bool) (spelled : Kind) (P : List Attribute → ℕ → Type 0)
      (end : Attribute → ℕ → Row some_attributes)
      → (sees tokens spelled m ≡ true → (x : Attribute) (e : ℕ) → IsAttribute tokens aliases fits d k x m e
      → Keeps tokens fits some_attributes P (end x e) e)
      → Keeps tokens fits some_attributes P (attribute_row tokens aliases d k m refused spelled end) m
  keeps_attribute d k m refused spelled P end go =
      λ seen. (
        (λ fit open_. keeps_arguments d k m P end (shows_open tokens aliases (m + 1) open_) fit (go seen) (taking k) refl),
        never,
      )

  keeps_group : (d m : ℕ) (s : Sign) → sign_at tokens aliases m ≡ s
      → Keeps tokens fits some_attributes (λ xs b. IsGroup tokens aliases fits d xs m b) (group_row tokens aliases d m s) m
  keeps_group d m (sign.Macro k) q =
      keeps_attribute d k m (lacks tokens aliases k m) (kind aliases 22) (λ xs b. IsGroup tokens aliases fits d xs m b) (λ x e. _)
      (λ seen x e i. of_macro q i)
  keeps_group d m sign.LeftOutMacro q = never
  keeps_group d m sign.Attribute q =
      λ seen. (
        (λ fit open_. (
          (λ fit' open'.
              let o = shows_open tokens aliases (m + 1) open_ in
              let o' = shows_open tokens aliases (m + 1 + 1) open' in (
                (λ close close'. of_no_entries q o fit o' fit' (shows_close tokens aliases (m + 1 + 1 + 1) close)
                    (shows_close tokens aliases (m + 1 + 1 + 1 + 1) close')),
                (tt, λ xs n closed close. closed_list (q, o, fit, o', fit') xs n closed (shows_close tokens aliases n close)),
              )),
          never,
        )),
        never,
      )
  keeps_group d m _ q = never

  -- Behind an entry, the list goes on or is closed.
  keeps_entries_end : (d a : ℕ) (xs : List Attribute) (e : ℕ) → IsEntry tokens aliases fits d xs a e
      → Keeps tokens fits some_attributes (λ ys b. ClosedEntries tokens fits aliases d ys a b) (entries_end tokens aliases d xs e) e
  keeps_entries_end d a xs e i = (
    (λ comma. (tt, λ ys n closed. (closed.0, of_entries i (shows_comma tokens aliases e comma) closed.1, closed.2, closed.3))),
    (λ close. (e, of_entry i, shows_close tokens aliases e close, refl)),
  )

  keeps_entry : (d m : ℕ) (w : Meaning) → entry_meaning tokens aliases m ≡ w
      → Keeps tokens fits some_attributes (λ xs b. ClosedEntries tokens fits aliases d xs m b) (entry_row tokens aliases d m w) m
  keeps_entry d m (mean.Known k) q =
      keeps_attribute d k m (is_word_at tokens m && lacks tokens aliases k m) a_word
      (λ xs b. ClosedEntries tokens fits aliases d xs m b) (λ x e. entries_end tokens aliases d (x ∷ []) e)
      (λ word x e i. keeps_entries_end d m (x ∷ []) e (of_known word q i))
  keeps_entry d m mean.LeftOut q = never
  keeps_entry d m mean.Ignored q =
      λ word. (
        (λ fit seen. (
          tt,
          λ u e closed.
              keeps_entries_end d m [] e (closed_entry word q (shows_open tokens aliases (m + 1) seen) fit e closed),
        )),
        keeps_entries_end d m [] (m + 1) (of_ignored word q),
      )

  keeps_balanced : (d : ℕ) (closer : Closer) (m : ℕ) (s : Sign) → sign_at tokens aliases m ≡ s
      → Keeps tokens fits a_skip (λ u b. ClosedBalanced tokens fits aliases d closer m b) (balanced_row tokens aliases d closer m s) m
  keeps_balanced d closer m sign.Open q = λ fit seen. (
    tt,
    λ u n inner. (
      tt,
      λ u' e outer.
          (outer.0, and_balanced (closed_parentheses q fit n inner) outer.1, outer.2, outer.3),
    ),
  )
  keeps_balanced d closer m sign.OpenBracket q = λ fit seen. (
    tt,
    λ u n inner. (
      tt,
      λ u' e outer.
          (outer.0, and_balanced (closed_brackets q fit n inner) outer.1, outer.2, outer.3),
    ),
  )
  keeps_balanced d closer m sign.OpenBrace q = λ fit seen. (
    tt,
    λ u n inner. (
      tt,
      λ u' e outer.
          (outer.0, and_balanced (closed_braces q fit n inner) outer.1, outer.2, outer.3),
    ),
  )
  keeps_balanced d closer m _ q = λ plain. (tt, λ u e outer. (outer.0, of_token plain outer.1, outer.2, outer.3))

  -- Every row of attributes keeps to its production.
  pub keeps_attributes : (d m : ℕ)
      → Keeps tokens fits some_attributes (λ xs b. IsAttributes tokens aliases fits d xs m b)
      (rule tokens some_attributes (attributes aliases d) m) m
  keeps_attributes d m = (tt, λ xs n g. ((tt, λ ys e rest. of_group g rest), of_group g of_no_group))

  pub keeps_one_group : (d m : ℕ)
      → Keeps tokens fits some_attributes (λ xs b. IsGroup tokens aliases fits d xs m b)
      (rule tokens some_attributes (group aliases d) m) m
  keeps_one_group d m = keeps_group d m (sign_at tokens aliases m) refl

  pub keeps_entries : (d m : ℕ)
      → Keeps tokens fits some_attributes (λ xs b. ClosedEntries tokens fits aliases d xs m b)
      (rule tokens some_attributes (entries aliases d) m) m
  keeps_entries d m = keeps_entry d m (entry_meaning tokens aliases m) refl

  pub keeps_skip : (d : ℕ) (closer : Closer) (m : ℕ)
      → Keeps tokens fits a_skip (λ u b. ClosedBalanced tokens fits aliases d closer m b)
      (rule tokens a_skip (balanced aliases d closer) m) m
  keeps_skip d closer m = ((λ seen. (m, of_nothing, seen, refl)), keeps_balanced d closer m (sign_at tokens aliases m) refl)
