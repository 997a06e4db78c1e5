-- A run of the pieces of an initialiser spells it up to spans.
use Rattle.std.proofs.Common.{ℕ, ◌+◌, ◌≡◌, ap, subst, refl, List, [], ◌∷◌, ◌++◌, Some, None, option_map}
use Rattle.std.specs.declared.option.Option.{Option}
use Rattle.tsa_base.specs.Tokens.{Lexeme}
use Rattle.tsa_base.specs.declared.token.Span.{Span}
use Rattle.tsa_tree.specs.declared.sign.Sign.TheVariants as sign
use Rattle.tsa_tree.specs.declarations.Syntax.{Initialiser, value, list, Initialisers, no_more, one_more}
use Rattle.tsa_tree.specs.declarations.Spelling.{Role, a_member, a_global, IsInitialiser, of_value, of_no_values, of_values, IsInitialisers}
use Rattle.tsa_tree.specs.declarations.Spelling.{of_last_value, of_further_value, IsInit, no_init, of_init}
use Rattle.tsa_tree.specs.declarations.Plain.{plain_initialiser, plain_initialisers}
use Rattle.tsa_tree.specs.tokens.Signs.{Aliases, punctuator_signs, punctuator_sign, sign_at, span_over}
use Rattle.tsa_tree.specs.expressions.Sound.{words_beside}
use Rattle.tsa_tree.specs.declarations.Sound.{SoundInitialiser, SoundInitialisers, SoundInit}
use Rattle.tsa_grammar.specs.Reading.{all}
use Rattle.tsa_print.specs.declared.mark.Mark.TheVariants as marks
use Rattle.tsa_print.specs.Canonical.{assigned, mark}
use Rattle.tsa_print.specs.DeclarationPieces.{initialiser_pieces, further_pieces, init_pieces}
use Rattle.tsa_print.proofs.PieceSigns.{Looks, seen}
use Rattle.tsa_print.proofs.Runs.{Run, run_split}
use Rattle.tsa_print.proofs.SpelledOperands.{expression_spelled}

module _ (aliases : Aliases) (ts : List Lexeme) where
  pub equals_seen : (i : ℕ) → Looks ts i (assigned None) → sign_at ts aliases i ≡ sign.Equals
  unfolding punctuator_sign punctuator_signs
  equals_seen i h = seen aliases ts i (assigned None) h

  abbrev Initial : (d : ℕ) → Initialiser → (a b : ℕ) → Type 0
  Initial d x a b = (u : Initialiser) × IsInitialiser ts aliases all d u a b × (plain_initialiser u ≡ plain_initialiser x)

  -- a first initialiser that is read, and others
  abbrev Initials : (d : ℕ) → Initialiser → Initialisers → (a b : ℕ) → Type 0
  Initials d u xs a b =
      (us : Initialisers) × IsInitialisers ts aliases all d (one_more u us) a b × (plain_initialisers us ≡ plain_initialisers xs)

  abbrev pub Init : Role → (d : ℕ) → Option Initialiser → (a b : ℕ) → Type 0
  Init r d x a b = (u : Option Initialiser) × IsInit ts aliases all r d u a b × (option_map plain_initialiser u ≡ option_map plain_initialiser x)

  list_step : (x : Initialiser) (xs : Initialisers) (s : Span) (d a m : ℕ) (u : Initialiser) → plain_initialiser u ≡ plain_initialiser x
      → sign_at ts aliases a ≡ sign.OpenBrace → Initials (d + 1) u xs (a + 1) m → sign_at ts aliases m ≡ sign.CloseBrace
      → Initial d (list (one_more x xs) s) a (m + 1)
  list_step x xs s d a m u e opens us closes =
      (list (one_more u us.0) (span_over ts a (m + 1)), of_values opens refl us.1 closes, rw (e, us.2) refl)

  further_step : (x : Initialiser) (xs : Initialisers) (d a m b : ℕ) (u v : Initialiser) → IsInitialiser ts aliases all d u a m
      → sign_at ts aliases m ≡ sign.Comma → plain_initialiser v ≡ plain_initialiser x → Initials d v xs (m + 1) b → Initials d u (one_more x xs) a b
  further_step x xs d a m b u v is comma e us = (one_more v us.0, of_further_value is comma us.1, rw (e, us.2) refl)

  mutual
    initialiser_spelled : (x : Initialiser) (d a b : ℕ) → SoundInitialiser (words_beside aliases) x → Run ts a (initialiser_pieces x) b → Initial d x a b
    initialiser_spelled (value x) d a b ok h =
        let u = expression_spelled aliases ts x d a b ok h in
        (value u.0, of_value u.1, ap value u.2)
    initialiser_spelled (list no_more s) d a b ok h = subst (Initial d (list no_more s) a) h.1.1 (
      list no_more (span_over ts a (a + 1 + 1)),
      of_no_values (seen aliases ts a (mark marks.OpenBrace) h.0) refl (seen aliases ts (a + 1) (mark marks.CloseBrace) h.1.0),
      refl,
    )
    initialiser_spelled (list (one_more x xs) s) d a b ok h =
        let whole = run_split ts (a + 1) b (initialiser_pieces x ++ further_pieces xs) (mark marks.CloseBrace ∷ []) h.1 in
        let two = run_split ts (a + 1) whole.0 (initialiser_pieces x) (further_pieces xs) whole.1 in
        let u = initialiser_spelled x (d + 1) (a + 1) two.0 ok.0 two.1 in
        let us = further_spelled xs (d + 1) (a + 1) two.0 whole.0 u.0 ok.1 u.1 two.2 in
        let opens = seen aliases ts a (mark marks.OpenBrace) h.0 in
        let closes = seen aliases ts whole.0 (mark marks.CloseBrace) whole.2.0 in
        subst (Initial d (list (one_more x xs) s) a) whole.2.1 (list_step x xs s d a whole.0 u.0 u.2 opens us closes)

    further_spelled : (xs : Initialisers) (d a m b : ℕ) (u : Initialiser) → SoundInitialisers (words_beside aliases) xs → IsInitialiser ts aliases all d u a m
        → Run ts m (further_pieces xs) b → Initials d u xs a b
    further_spelled no_more d a m b u ok e h = subst (Initials d u no_more a) h (no_more, of_last_value e, refl)
    further_spelled (one_more x xs) d a m b u ok e h =
        let two = run_split ts (m + 1) b (initialiser_pieces x) (further_pieces xs) h.1 in
        let v = initialiser_spelled x d (m + 1) two.0 ok.0 two.1 in
        let us = further_spelled xs d (m + 1) two.0 b v.0 ok.1 v.1 two.2 in (
          one_more v.0 us.0,
          of_further_value e (seen aliases ts m (mark marks.Comma) h.0) us.1,
          rw (v.2, us.2) refl,
        )

  -- what a global is initialised with
  pub init_spelled : (x : Option Initialiser) (d a b : ℕ) → SoundInit (words_beside aliases) x → Run ts a (init_pieces x) b → Init a_global d x a b
  init_spelled None d a b ok h = subst (Init a_global d None a) h (None, no_init, refl)
  init_spelled (Some x) d a b ok h =
      let u = initialiser_spelled x d (a + 1) b ok h.1 in
      (Some u.0, of_init (equals_seen a h.0) u.1, ap Some u.2)

  -- a member is not initialised
  pub no_init_spelled : (x : Option Initialiser) (d a b : ℕ) → x ≡ None → Run ts a (init_pieces x) b → Init a_member d x a b
  no_init_spelled None d a b e h = subst (Init a_member d None a) h (None, no_init, refl)
  no_init_spelled (Some x) d a b e h = cc
