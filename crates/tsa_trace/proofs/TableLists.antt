-- Lists by the names of functions, as they are kept and as contracts see them.
use Rattle.std.proofs.Common.{◌≡◌, ◌∙◌, ℕ, Bool, true, false, List, [], ◌∷◌, ◌++◌, map, Option, Some, None, is_some, option_map, if◌then◌else◌}
use Rattle.std.proofs.Common.{refl, sym, ap, ap₂}
use Rattle.std.proofs.lemmas.List.{append-nil, append_assoc, map-append}
use Rattle.std.specs.Borrow.{Bor}
use Rattle.std.specs.Map.{lookup}
use Rattle.tsa_base.specs.declared.token.Span.{Span}
use Rattle.tsa_types_scope.proofs.NameLists.{or_further}
use Rattle.tsa_tree.specs.declared.stmt.Point.{Point}
use Rattle.tsa_trace.specs.FunctionTexts.{FunctionText, points_or_none}
use Rattle.tsa_trace.specs.Views.{spans_of, text_of}
use Rattle.tsa_trace.specs.Tables.{Table, text_by, texts_by, unless_known}
use Rattle.tsa_trace.specs.declared.table.Function.{Function}
use Rattle.tsa_tree.specs.types.Scopes.{found}

-- what is found is something where what is told of it is
pub some_mapped : {A B : Type 0} (f : A → B) (o : Option A) → is_some (option_map f o) ≡ is_some o
some_mapped f None = refl
some_mapped f (Some x) = refl

module _ {K X : Type 0} (seen : K → List ℕ) (shown : X → List Span) where
  abbrev pub table_of : List (K × X) → Table
  table_of es = map (λ e. (seen e.0, shown e.1)) es

  first_shown : (b : Bool) (x : X) (v : Option X) (w : Option (List Span)) → option_map shown v ≡ w → option_map shown (if b then Some x else v) ≡ (if b then Some (shown x) else w)
  first_shown true x v w h = refl
  first_shown false x v w h = h

  -- what is found
  pub lookup-shown : (test : List ℕ → Bool) (es : List (K × X)) → option_map shown (lookup (λ k. test (seen k)) es) ≡ lookup test (table_of es)
  lookup-shown test [] = refl
  lookup-shown test (e ∷ es) = first_shown (test (seen e.0)) e.1 (lookup (λ k. test (seen k)) es) (lookup test (table_of es)) (lookup-shown test es)

  -- one more, or none
  pub further_shown : (known : Bool) (es : List (K × X)) (key : K) (value : X) → table_of (or_further known es (key, value)) ≡ unless_known known (seen key) (shown value) (table_of es)
  further_shown true es key value = refl
  further_shown false es key value = map-append (λ e. (seen e.0, shown e.1)) es ((key, value) ∷ [])

-- The functions that are left, one by one.
abbrev pub Entry : Type 0
Entry = Bor (List ℕ) × Bor (List Point)

abbrev pub shown_all : List Entry → Table
shown_all es = table_of (λ k. k.now) (λ v. spans_of v.now) es

module _ (bodies : Table) (goal : List FunctionText) (made : List Function) where
  pub texts_next : (left rest : List Entry) (e : Entry) (f : Function) (longer : List Function) → left ≡ e ∷ rest → f.name ≡ e.0
      → option_map (λ points. spans_of points.now) f.points ≡ found bodies e.0.now → longer ≡ made ++ f ∷ []
      → map text_of made ++ texts_by (shown_all left) bodies ≡ goal → map text_of longer ++ texts_by (shown_all rest) bodies ≡ goal
  texts_next left rest e f longer is name points more told =
      let same : text_of f ≡ text_by bodies (e.0.now, spans_of e.1.now) = ap₂ (λ n o. record { name = n.now; points = points_or_none o }) name points in
      ap (λ xs. map text_of xs ++ texts_by (shown_all rest) bodies) more
      ∙ ap (λ xs. xs ++ texts_by (shown_all rest) bodies) (map-append text_of made (f ∷ []))
      ∙ append_assoc (map text_of made) (text_of f ∷ []) (texts_by (shown_all rest) bodies)
      ∙ ap (λ t. map text_of made ++ t ∷ texts_by (shown_all rest) bodies) same
      ∙ ap (λ xs. map text_of made ++ texts_by (shown_all xs) bodies) (sym is)
      ∙ told

  pub texts_end : (left : List Entry) → left ≡ [] → map text_of made ++ texts_by (shown_all left) bodies ≡ goal → map text_of made ≡ goal
  texts_end left is told = sym (append-nil (map text_of made)) ∙ ap (λ xs. map text_of made ++ texts_by (shown_all xs) bodies) (sym is) ∙ told
