-- The rows spell, begin and refuse one attribute, one entry and balanced tokens wherever the productions do.
use Rattle.std.proofs.Common.{ℕ, ◌+◌, ◌≡◌, ap, sym, subst, refl, List, Bool, true, false, ◌&&◌, ◌||◌, Option, None, arith}
use Rattle.tsa_base.specs.Tokens.{Lexeme}
use Rattle.tsa_base.proofs.Truths.{never_true as never}
use Rattle.tsa_tree.specs.declared.attr.AttrKind.{AttrKind}
use Rattle.tsa_tree.specs.declared.sign.Sign.{Sign}
use Rattle.tsa_tree.specs.declared.sign.Sign.TheVariants as sign
use Rattle.tsa_tree.specs.attributes.Syntax as takes
use Rattle.tsa_tree.specs.attributes.Syntax.{Attribute, Taking, taking}
use Rattle.tsa_tree.specs.tokens.Signs.{Aliases, sign_at}
use Rattle.tsa_tree.specs.attributes.Spelling.{attribute, IsAttribute, of_text, of_one, of_expressions, of_try}
use Rattle.tsa_tree.specs.attributes.Beginnings.{BeginsAttribute, begins_no_name, begins_name, begins_open, begins_text, begins_one}
use Rattle.tsa_tree.specs.attributes.Beginnings.{begins_expressions, begins_try, begins_tried, begins_whole}
use Rattle.tsa_tree.specs.attributes.Refusals.{Lacks, no_parenthesis, nothing_inside, result_alone}
use Rattle.tsa_tree.specs.Rows.{some_attributes, Kind, kind, a_result, is_given, sees, Row, takes_result, lacking_at, lacks, arguments_row}
use Rattle.tsa_tree.specs.Rows.{attribute_row, rule}
use Rattle.tsa_tree.proofs.tokens.ProductionSigns.{seen}
use Rattle.tsa_tree.proofs.expressions.ToRows.{expression_rows, series_rows}
use Rattle.tsa_tree.proofs.expressions.BeginningsToRows.{expression_begins, series_begins}
use Rattle.tsa_grammar.specs.Spelling as forms
use Rattle.tsa_grammar.specs.Spelling.{goes_token, goes_part, goes_bar, goes_limit, goes_left, starts_here, starts_bar, starts_token}
use Rattle.tsa_grammar.specs.Spelling.{starts_in, starts_over, starts_limit, starts_left}

-- one of two tests holds where either does
pub or_left : (p q : Bool) → p ≡ true → (p || q) ≡ true
or_left true q e = refl
or_left false q e = never e

pub or_right : (p q : Bool) → q ≡ true → (p || q) ≡ true
or_right true q e = refl
or_right false q e = e

pub and_both : (p q : Bool) → p ≡ true → q ≡ true → (p && q) ≡ true
and_both true q e f = f
and_both false q e f = never e

module _ (tokens : List Lexeme) (aliases : Aliases) (fits : ℕ → Bool) where
  abbrev Goes : Row some_attributes → List Attribute → (a b : ℕ) → Type 0
  Goes f x a b = forms.Goes (rule tokens) (sees tokens) fits some_attributes f x a b

  abbrev Starts : Row some_attributes → (a b : ℕ) → Option ℕ → Type 0
  Starts f a b w = forms.Starts (rule tokens) (sees tokens) fits some_attributes f a b w

  -- The test of the rows holds of every attribute that has no argument.
  pub lacks_true : (k : AttrKind) (m : ℕ) → Lacks tokens aliases fits k m → lacks tokens aliases k m ≡ true
  lacks_true k m (no_parenthesis e o) = go (sign_at tokens aliases (m + 1)) refl
    where
      go : (s : Sign) → sign_at tokens aliases (m + 1) ≡ s → lacking_at tokens aliases k m s ≡ true
      go sign.End q = absurd (e q)
      go sign.Open q = absurd (o q)
      go _ q = refl
  lacks_true k m (nothing_inside o close) =
      subst (λ s. lacking_at tokens aliases k m s ≡ true) (sym o)
      (or_left (sees tokens (kind aliases 6) (m + 1 + 1)) _ (seen tokens aliases 6 (m + 1 + 1) sign.Close close refl))
  lacks_true k m (result_alone {v = v} t o e close) =
      subst (λ s. lacking_at tokens aliases k m s ≡ true) (sym o)
      (or_right (sees tokens (kind aliases 6) (m + 1 + 1)) _
      (and_both (takes_result (taking k)) _ (ap takes_result t)
      (and_both (sees tokens a_result (m + 1 + 1)) (sees tokens (kind aliases 6) (m + 1 + 1 + 1)) (ap is_given e)
      (seen tokens aliases 6 (m + 1 + 1 + 1) sign.Close close refl))))

  -- An attribute goes on where what it takes does.
  goes_arguments : (d : ℕ) (k : AttrKind) (a : ℕ) (refused : Bool) (spelled : Kind) (end : Attribute → ℕ → Row some_attributes)
      (t : Taking) (y : List Attribute) (e : ℕ) → sees tokens spelled a ≡ true → taking k ≡ t
      → sign_at tokens aliases (a + 1) ≡ sign.Open → fits d ≡ true → Goes (arguments_row tokens aliases (d + 1) k a t end) y (a + 1 + 1) e
      → Goes (attribute_row tokens aliases d k a refused spelled end) y a e
  goes_arguments d k a refused spelled end t y e s q o fit g =
      goes_bar (goes_token s (goes_left (goes_limit fit (goes_token (seen tokens aliases 5 (a + 1) sign.Open o refl)
      (subst (λ t. Goes (arguments_row tokens aliases (d + 1) k a t end) y (a + 1 + 1) e) (sym q) g)))))

  starts_arguments : (d : ℕ) (k : AttrKind) (a : ℕ) (refused : Bool) (spelled : Kind) (end : Attribute → ℕ → Row some_attributes)
      (t : Taking) (e : ℕ) (w : Option ℕ) → sees tokens spelled a ≡ true → taking k ≡ t
      → sign_at tokens aliases (a + 1) ≡ sign.Open → fits d ≡ true → Starts (arguments_row tokens aliases (d + 1) k a t end) (a + 1 + 1) e w
      → Starts (attribute_row tokens aliases d k a refused spelled end) a e w
  starts_arguments d k a refused spelled end t e w s q o fit g =
      starts_bar (starts_token s (starts_left (starts_limit fit (starts_token (seen tokens aliases 5 (a + 1) sign.Open o refl)
      (subst (λ t. Starts (arguments_row tokens aliases (d + 1) k a t end) (a + 1 + 1) e w) (sym q) g)))))

  -- Where the rows go on after an attribute, its row goes on to the same.
  pub attribute_goes : {d : ℕ} {k : AttrKind} {x : Attribute} {a b : ℕ} → IsAttribute tokens aliases fits d k x a b
      → (refused : Bool) (spelled : Kind) (end : Attribute → ℕ → Row some_attributes) (y : List Attribute) (e : ℕ)
      → sees tokens spelled a ≡ true → Goes (end x b) y b e → Goes (attribute_row tokens aliases d k a refused spelled end) y a e
  attribute_goes {d = d} {k = k} {a = a} (of_text t o fit text close) refused spelled end y e s g =
      goes_arguments d k a refused spelled end takes.a_text y e s t o fit
      (goes_token (seen tokens aliases 15 (a + 1 + 1) sign.Text text refl)
      (goes_token (seen tokens aliases 6 (a + 1 + 1 + 1) sign.Close close refl) g))
  attribute_goes {d = d} {k = k} {a = a} (of_one {b = b} t o fit i close) refused spelled end y e s g =
      goes_arguments d k a refused spelled end takes.one_expression y e s t o fit
      (goes_part (expression_rows tokens aliases fits i (omega arith)) (goes_token (seen tokens aliases 6 b sign.Close close refl) g))
  attribute_goes {d = d} {k = k} {a = a} (of_expressions t o fit i close) refused spelled end y e s g =
      goes_arguments d k a refused spelled end takes.expressions y e s t o fit (goes_part (series_rows tokens aliases fits i close) g)
  attribute_goes {d = d} {k = k} {a = a} (of_try {v = v} {xs = xs} {b = b} t o fit q comma i close) refused spelled end y e s g =
      goes_arguments d k a refused spelled end takes.a_try y e s t o fit
      (goes_token (ap is_given q) (goes_token (seen tokens aliases 9 (a + 1 + 1 + 1) sign.Comma comma refl)
      (goes_part (series_rows tokens aliases fits i close)
      (subst (λ v. Goes (end (attribute tokens k None v xs a (b + 1)) (b + 1)) y (b + 1) e) (sym q) g))))

  pub attribute_starts : {d : ℕ} {k : AttrKind} {x : Attribute} {a b : ℕ} → IsAttribute tokens aliases fits d k x a b
      → (refused : Bool) (spelled : Kind) (end : Attribute → ℕ → Row some_attributes) (e : ℕ) (w : Option ℕ)
      → sees tokens spelled a ≡ true → Starts (end x b) b e w → Starts (attribute_row tokens aliases d k a refused spelled end) a e w
  attribute_starts {d = d} {k = k} {a = a} (of_text t o fit text close) refused spelled end e w s g =
      starts_arguments d k a refused spelled end takes.a_text e w s t o fit
      (starts_token (seen tokens aliases 15 (a + 1 + 1) sign.Text text refl)
      (starts_token (seen tokens aliases 6 (a + 1 + 1 + 1) sign.Close close refl) g))
  attribute_starts {d = d} {k = k} {a = a} (of_one {b = b} t o fit i close) refused spelled end e w s g =
      starts_arguments d k a refused spelled end takes.one_expression e w s t o fit
      (starts_over (expression_rows tokens aliases fits i (omega arith)) (starts_token (seen tokens aliases 6 b sign.Close close refl) g))
  attribute_starts {d = d} {k = k} {a = a} (of_expressions t o fit i close) refused spelled end e w s g =
      starts_arguments d k a refused spelled end takes.expressions e w s t o fit (starts_over (series_rows tokens aliases fits i close) g)
  attribute_starts {d = d} {k = k} {a = a} (of_try {v = v} {xs = xs} {b = b} t o fit q comma i close) refused spelled end e w s g =
      starts_arguments d k a refused spelled end takes.a_try e w s t o fit
      (starts_token (ap is_given q) (starts_token (seen tokens aliases 9 (a + 1 + 1 + 1) sign.Comma comma refl)
      (starts_over (series_rows tokens aliases fits i close)
      (subst (λ v. Starts (end (attribute tokens k None v xs a (b + 1)) (b + 1)) (b + 1) e w) (sym q) g))))

  -- What begins an attribute begins its row.
  pub attribute_begins : {d : ℕ} {k : AttrKind} {a b : ℕ} → BeginsAttribute tokens aliases fits d k a b
      → (refused : Bool) (spelled : Kind) (end : Attribute → ℕ → Row some_attributes) → sees tokens spelled a ≡ true
      → Starts (attribute_row tokens aliases d k a refused spelled end) a b None
  attribute_begins begins_no_name refused spelled end s = starts_here
  attribute_begins begins_name refused spelled end s = starts_bar (starts_token s starts_here)
  attribute_begins {a = a} (begins_open o fit) refused spelled end s =
      starts_bar (starts_token s (starts_left (starts_limit fit (starts_token (seen tokens aliases 5 (a + 1) sign.Open o refl) starts_here))))
  attribute_begins {d = d} {k = k} {a = a} {b = b} (begins_text t o fit text) refused spelled end s =
      starts_arguments d k a refused spelled end takes.a_text b None s t o fit
      (starts_token (seen tokens aliases 15 (a + 1 + 1) sign.Text text refl) starts_here)
  attribute_begins {d = d} {k = k} {a = a} {b = b} (begins_one t o fit h) refused spelled end s =
      starts_arguments d k a refused spelled end takes.one_expression b None s t o fit
      (starts_in (expression_begins tokens aliases fits h (omega arith)))
  attribute_begins {d = d} {k = k} {a = a} {b = b} (begins_expressions t o fit h) refused spelled end s =
      starts_arguments d k a refused spelled end takes.expressions b None s t o fit (starts_in (series_begins tokens aliases fits h))
  attribute_begins {d = d} {k = k} {a = a} {b = b} (begins_try t o fit q) refused spelled end s =
      starts_arguments d k a refused spelled end takes.a_try b None s t o fit (starts_token (ap is_given q) starts_here)
  attribute_begins {d = d} {k = k} {a = a} {b = b} (begins_tried t o fit q comma h) refused spelled end s =
      starts_arguments d k a refused spelled end takes.a_try b None s t o fit
      (starts_token (ap is_given q) (starts_token (seen tokens aliases 9 (a + 1 + 1 + 1) sign.Comma comma refl)
      (starts_in (series_begins tokens aliases fits h))))
  attribute_begins {b = b} (begins_whole i) refused spelled end s = attribute_starts i refused spelled end b None s starts_here
