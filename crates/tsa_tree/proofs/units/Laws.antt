-- The laws of the grammar of whole units.
use Rattle.std.proofs.Common.{ℕ, ◌<◌, ◌≤◌, ◌≡◌, ◌∙◌, sym, subst, refl, List, [], ◌++◌, Bool, true, false, Option, Some, None, Ok, Err}
use Rattle.std.proofs.Common.{length, arith, ◌⊎◌, inl, inr}
use Rattle.std.proofs.lemmas.Bool.{leb-true, le-leb, cases_lt}
use Rattle.tsa_base.specs.Tokens.{Lexeme}
use Rattle.tsa_tree.specs.expressions.Answers.{below_limit}
use Rattle.tsa_tree.specs.Rows.{Sort, some_items, Node, Call, items, is_past, sees, Row, rule}
use Rattle.tsa_tree.specs.Reads.{read}
use Rattle.tsa_tree.specs.tokens.Signs.{Aliases}
use Rattle.tsa_tree.specs.units.Answers.{Spells, Spelled, Begun, Refused, IsAnswer, read_unit, SpellTheSame, OneUnit, PiecesBegin, IsNoUnit}
use Rattle.tsa_tree.specs.units.Answers.{RefusedIsNoUnit, AnAnswer, OneAnswer}
use Rattle.tsa_tree.specs.units.Syntax.{UnitItem, names_of}
use Rattle.tsa_tree.specs.units.Spelling.{IsItems, no_items, of_items}
use Rattle.tsa_tree.proofs.declarations.ItemsToRows.{items_rows}
use Rattle.tsa_tree.proofs.RowFacts.{First, Start, inside}
use Rattle.tsa_tree.proofs.RowsBegin.{firsts}
use Rattle.tsa_tree.proofs.RowsRead.{reading, reading_exact, one_reading, piece_begins, completed, broken_free, first_there, one_bar}
pub use Rattle.tsa_tree.proofs.RowsFree.{free_spelled}
use Rattle.tsa_tree.proofs.RowsFree.{free_begun, begun_to_bar}
use Rattle.tsa_tree.proofs.OneAnswer as verdicts
use Rattle.tsa_tree.proofs.declarations.RowsToProductions.{declaration_of}
use Rattle.tsa_tree.proofs.units.Meet.{begun_inside}
use Rattle.tsa_grammar.proofs.Cases.{on_choose}
use Rattle.tsa_grammar.specs.Exact as exact
use Rattle.tsa_grammar.specs.Spelling as forms
use Rattle.tsa_grammar.specs.Spelling.{by_rule, goes_done, goes_token, goes_part, goes_bar, goes_limit, goes_only, goes_left, goes_right}
use Rattle.tsa_grammar.specs.Spelling.{begins_rule, starts_here, starts_barred, starts_bar, starts_token, starts_in, starts_over}
use Rattle.tsa_grammar.specs.Spelling.{starts_limit, starts_only, starts_left, starts_right}
use Rattle.tsa_grammar.specs.Reading.{Code, syntax, deep, barred, Refusal, refuse, Outcome, all}

module _ (tokens : List Lexeme) (fits : ℕ → Bool) where
  -- What begins a part with a token, or is refused in it, stands at a place where the part may begin.
  mutual
    begins_first : {s : Sort} {c : Call s} {a b : ℕ} {w : Option ℕ} (q : ℕ) → forms.Begins (rule tokens) (sees tokens) fits s c a b w
        → (w ≡ Some q) ⊎ (a < b) → First tokens s c a
    begins_first {s = s} {c = c} {a = a} q (begins_rule g) h = firsts tokens s c a (starts_next q g h)

    starts_next : {s : Sort} {f : Row s} {a b : ℕ} {w : Option ℕ} (q : ℕ) → forms.Starts (rule tokens) (sees tokens) fits s f a b w
        → (w ≡ Some q) ⊎ (a < b) → Start tokens s f a
    starts_next q starts_here (inl e) = cc
    starts_next q starts_here (inr lt) = absurd (omega arith)
    starts_next q (starts_barred p) h = inl p
    starts_next q (starts_bar g) h = inr (starts_next q g h)
    starts_next q (starts_token e g) h = e
    starts_next q (starts_in g) h = begins_first q g h
    starts_next q (starts_over sp g) h = first_there tokens fits sp
    starts_next q (starts_limit e g) h = starts_next q g h
    starts_next q (starts_only e g) h = (e, starts_next q g h)
    starts_next q (starts_left g) h = inl (starts_next q g h)
    starts_next q (starts_right g) h = inr (starts_next q g h)

  abbrev Past : ℕ → Type 0
  Past n = is_past tokens n ≡ true

  past_not : {A : Type 0} (n : ℕ) → Past n → is_past tokens n ≡ false → A
  past_not n h e = let never : true ≡ false = sym h ∙ e in absurd cc

  -- What is spelled ends inside the tokens.
  mutual
    spelled_inside : {s : Sort} {c : Call s} {x : Node s} {a b : ℕ} → forms.Spells (rule tokens) (sees tokens) fits s c x a b
        → a ≤ length tokens → b ≤ length tokens
    spelled_inside (by_rule g) le = goes_inside g le

    goes_inside : {s : Sort} {f : Row s} {x : Node s} {a b : ℕ} → forms.Goes (rule tokens) (sees tokens) fits s f x a b
        → a ≤ length tokens → b ≤ length tokens
    goes_inside goes_done le = le
    goes_inside {a = a} (goes_token {t = t} e g) le = goes_inside g (let lt = inside tokens t a e in omega arith)
    goes_inside (goes_part sp g) le = goes_inside g (spelled_inside sp le)
    goes_inside (goes_bar g) le = goes_inside g le
    goes_inside (goes_limit e g) le = goes_inside g le
    goes_inside (goes_only e g) le = goes_inside g le
    goes_inside (goes_left g) le = goes_inside g le
    goes_inside (goes_right g) le = goes_inside g le

  -- Past the last token there are no items.
  none_past : {aliases : Aliases} {xs : List UnitItem} {a b : ℕ} → IsItems tokens fits aliases xs a b → Past a → (xs ≡ []) × (b ≡ a)
  none_past no_items h = (refl, refl)
  none_past {aliases = aliases} {a = a} (of_items i rest) h =
      past_not a h (begun_inside tokens aliases a (first_there tokens fits (items_rows tokens aliases fits true i)))

  -- The rows spell items up to the last token.
  units_rows : {aliases : Aliases} {xs : List UnitItem} {a b : ℕ} → IsItems tokens fits aliases xs a b → Past b → is_past tokens a ≡ false
      → forms.Spells (rule tokens) (sees tokens) fits some_items (items aliases) xs a b
  units_rows {a = a} no_items h e = past_not a h e
  units_rows {aliases = aliases} {a = a} {b = b} (of_items {xs = xs} {ys = ys} {m = m} i rest) h e =
      go (is_past tokens m) refl (λ q. units_rows rest h q)
    where
      go : (p : Bool) → is_past tokens m ≡ p
          → (is_past tokens m ≡ false → forms.Spells (rule tokens) (sees tokens) fits some_items (items (aliases ++ names_of xs)) ys m b)
          → forms.Spells (rule tokens) (sees tokens) fits some_items (items aliases) (xs ++ ys) a b
      go true q k =
          let over = none_past rest q in
          subst (λ ys. forms.Spells (rule tokens) (sees tokens) fits some_items (items aliases) (xs ++ ys) a b) (sym over.0)
          (subst (λ b. forms.Spells (rule tokens) (sees tokens) fits some_items (items aliases) (xs ++ []) a b) (sym over.1)
          (by_rule (goes_part (items_rows tokens aliases fits true i) (goes_left (goes_only q goes_done)))))
      go false q k = by_rule (goes_part (items_rows tokens aliases fits true i) (goes_right (goes_part (k q) goes_done)))

last_past : (tokens : List Lexeme) → is_past tokens (length tokens) ≡ true
last_past tokens = le-leb (length tokens) (length tokens) (omega arith)

pub spell_the_same : SpellTheSame
spell_the_same tokens fits xs = ((λ e i. units_rows tokens fits i (last_past tokens) e), (λ sp. (declaration_of tokens fits sp).0))

pub one_unit : OneUnit
one_unit tokens xs ys i j = go (is_past tokens 0) refl
  where
    go : (p : Bool) → is_past tokens 0 ≡ p → xs ≡ ys
    go true q = (none_past tokens all i q).0 ∙ sym (none_past tokens all j q).0
    go false q =
        one_reading tokens some_items (items []) xs ys 0 (length tokens)
        (units_rows tokens all i (last_past tokens) q) (units_rows tokens all j (last_past tokens) q) (last_past tokens) (last_past tokens)

pub pieces_begin : PiecesBegin
pieces_begin tokens fits xs i le h = go (is_past tokens 0) refl
  where
    go : (p : Bool) → is_past tokens 0 ≡ p → forms.Begins (rule tokens) (sees tokens) fits some_items (items []) 0 i None
    go true q =
        let short : length tokens ≤ 0 = leb-true (length tokens) 0 q in
        let e : 0 ≡ i = omega arith in
        subst (λ i. forms.Begins (rule tokens) (sees tokens) fits some_items (items []) 0 i None) e (begins_rule starts_here)
    go false q = piece_begins tokens fits some_items (items []) xs 0 (length tokens) i (omega arith) le (units_rows tokens fits h (last_past tokens) q)

module _ (tokens : List Lexeme) (fits : ℕ → Bool) where
  -- What begins a part ends inside the tokens.
  mutual
    begun_ends : {s : Sort} {c : Call s} {a b : ℕ} {w : Option ℕ} → forms.Begins (rule tokens) (sees tokens) fits s c a b w
        → a ≤ length tokens → b ≤ length tokens
    begun_ends (begins_rule g) le = starts_end g le

    starts_end : {s : Sort} {f : Row s} {a b : ℕ} {w : Option ℕ} → forms.Starts (rule tokens) (sees tokens) fits s f a b w
        → a ≤ length tokens → b ≤ length tokens
    starts_end starts_here le = le
    starts_end (starts_barred p) le = le
    starts_end (starts_bar g) le = starts_end g le
    starts_end {a = a} (starts_token {t = t} e g) le = starts_end g (let lt = inside tokens t a e in omega arith)
    starts_end (starts_in g) le = begun_ends g le
    starts_end (starts_over sp g) le = starts_end g (spelled_inside tokens fits sp le)
    starts_end (starts_limit e g) le = starts_end g le
    starts_end (starts_only e g) le = starts_end g le
    starts_end (starts_left g) le = starts_end g le
    starts_end (starts_right g) le = starts_end g le

module _ (tokens : List Lexeme) where
  -- a unit that breaks off is none: it would have to end there
  broken_is_none : (i : ℕ) → IsAnswer tokens (Err (refuse syntax i)) → IsNoUnit tokens
  broken_is_none i h xs sp =
      let on = h.longest (length tokens) (pieces_begin tokens all xs (length tokens) (omega arith) sp) in
      let back = begun_ends tokens below_limit h.begins (omega arith) in
      let e : i ≡ length tokens = omega arith in
      h.no_tree xs (sp, e)

  free_of_bars : (xs : List UnitItem) (r : Outcome (List UnitItem)) → reading tokens all some_items (items []) 0 ≡ r → r ≡ Ok (xs, length tokens)
      → exact.Exact (rule tokens) (sees tokens) all some_items (items []) 0 r
      → (i q : ℕ) → forms.Begins (rule tokens) (sees tokens) all some_items (items []) 0 i (Some q) → ⊥
  free_of_bars xs (Ok p) h e x i q g = x.no_bar i q g
  free_of_bars xs (Err y) h e x i q g = absurd cc

  -- nor is one in which a token is refused
  barred_is_none : (i q : ℕ) → IsAnswer tokens (Err (refuse (barred q) i)) → IsNoUnit tokens
  barred_is_none i q h xs sp = go (is_past tokens 0) refl
    where
      go : (p : Bool) → is_past tokens 0 ≡ p → ⊥
      go true e = past_not tokens all 0 e (begins_first tokens below_limit q h.begins (inl refl))
      go false e =
          free_of_bars xs _ refl
          (completed tokens some_items (items []) xs 0 (length tokens) (units_rows tokens all sp (last_past tokens) e) (last_past tokens))
          (reading_exact tokens all some_items (items []) 0) i q (free_begun tokens below_limit h.begins)

pub refused_is_no_unit : RefusedIsNoUnit
refused_is_no_unit tokens i = (broken_is_none tokens i, λ q. barred_is_none tokens i q)

module _ (tokens : List Lexeme) where
  abbrev bounded : Outcome (List UnitItem)
  bounded = reading tokens below_limit some_items (items []) 0

  -- where a unit is broken off, its tokens aren't one
  no_unit : (i : ℕ) → is_past tokens 0 ≡ false → bounded ≡ Err (refuse syntax i) → (xs : List UnitItem) → Spelled tokens all xs i → ⊥
  no_unit i e h xs sp =
      clash _ _ _
      (completed tokens some_items (items []) xs 0 (length tokens) (units_rows tokens all sp.0 (last_past tokens) e) (last_past tokens))
      (broken_free tokens below_limit some_items (items []) 0 i h)
    where
      clash : (x : List UnitItem × ℕ) (y : Refusal) (r : Outcome (List UnitItem)) → r ≡ Ok x → r ≡ Err y → ⊥
      clash x y r e q = let never : Ok x ≡ Err y = sym e ∙ q in cc

  refused : is_past tokens 0 ≡ false → (code : Code) (i : ℕ) → bounded ≡ Err (refuse code i)
      → exact.ExactAt (rule tokens) (sees tokens) below_limit some_items (items []) 0 code i → IsAnswer tokens (Err (refuse code i))
  refused e syntax i h x = record {
    begins = x.begins;
    longest = x.longest;
    no_tree = λ xs sp. no_unit i e h xs sp;
    none_refused = x.no_bar;
  }
  refused e deep i h x = record { begins = x.begins; first = x.within; goes_on = x.goes_on; none_refused = x.no_bar }
  refused e (barred q) i h x = record { begins = x.begins; first = x.first }

  at_the_end : (xs : List UnitItem) (n : ℕ) → IsItems tokens below_limit [] xs 0 n × (is_past tokens n ≡ true) → n ≤ length tokens
      → Spelled tokens below_limit xs n
  at_the_end xs n h le =
      let ge : length tokens ≤ n = leb-true (length tokens) n h.1 in
      let e : n ≡ length tokens = omega arith in
      (subst (IsItems tokens below_limit [] xs 0) e h.0, e)

  none_begins : is_past tokens 0 ≡ true → {fits : ℕ → Bool} {b : ℕ} {w : Option ℕ} (q : ℕ)
      → forms.Begins (rule tokens) (sees tokens) fits some_items (items []) 0 b w → (w ≡ Some q) ⊎ (0 < b) → ⊥
  none_begins h {fits = fits} q g k = past_not tokens fits 0 h (begins_first tokens fits q g k)

  answered : is_past tokens 0 ≡ false → (r : Outcome (List UnitItem)) → bounded ≡ r
      → exact.Exact (rule tokens) (sees tokens) below_limit some_items (items []) 0 r → IsAnswer tokens r
  answered e (Ok found) h x = record {
    spelled = at_the_end found.0 found.1 (declaration_of tokens below_limit x.spelled) (spelled_inside tokens below_limit x.spelled (omega arith));
    longest = x.longest;
    none_refused = x.no_bar;
  }
  answered e (Err r) h x = refused e r.code r.token h x

  none_there : is_past tokens 0 ≡ true → IsAnswer tokens (Ok ([], 0))
  none_there h =
      let le : length tokens ≤ 0 = leb-true (length tokens) 0 h in
      let e : 0 ≡ length tokens = omega arith in
      record {
        spelled = (subst (IsItems tokens below_limit [] [] 0) e no_items, e);
        longest = λ b g. elim (cases_lt 0 b) [ inl lt ↦ absurd (none_begins h 0 g (inr lt)) | inr le ↦ le ];
        none_refused = λ b q g. none_begins h q g (inl refl);
      }

pub an_answer : AnAnswer
unfolding read_unit read
an_answer tokens =
    on_choose (IsAnswer tokens) (is_past tokens 0) _ _ (none_there tokens)
    (λ e. answered tokens e (bounded tokens) refl (reading_exact tokens below_limit some_items (items []) 0))

-- one answer ------------------------------------------------------------------------

module _ (tokens : List Lexeme) where
  -- A unit that is spelled within limits is spelled without them.
  free_unit : (fits : ℕ → Bool) (xs : List UnitItem) → Spells tokens fits xs → Spells tokens all xs
  free_unit fits xs h = go (is_past tokens 0) refl
    where
      go : (p : Bool) → is_past tokens 0 ≡ p → Spells tokens all xs
      go true e =
          let none = none_past tokens fits h e in
          subst (λ xs. Spells tokens all xs) (sym none.0) (subst (IsItems tokens all [] [] 0) (sym none.1) no_items)
      go false e = (declaration_of tokens all (free_spelled tokens fits (units_rows tokens fits h (last_past tokens) e))).0

  unit_begun : (fits : ℕ → Bool) (xs : List UnitItem) (e : ℕ) → Spelled tokens fits xs e → Begun tokens fits e
  unit_begun fits xs e h = pieces_begin tokens fits xs e (let same = h.1 in omega arith) h.0

pub one_answer : OneAnswer
one_answer tokens other h =
    verdicts.one_answer (Spelled tokens) (Begun tokens) (Refused tokens)
    (λ xs e sp. (free_unit tokens below_limit xs sp.0, sp.1))
    (λ i g. free_begun tokens below_limit g)
    (λ i q g. free_begun tokens below_limit g)
    (unit_begun tokens below_limit)
    (λ i q g. begun_to_bar tokens below_limit g)
    (λ xs ys e i j w. one_unit tokens xs ys i.0 j.0)
    (λ i q p g k first. one_bar tokens some_items (items []) 0 i q p g k first)
    other (read_unit tokens) h (an_answer tokens)
