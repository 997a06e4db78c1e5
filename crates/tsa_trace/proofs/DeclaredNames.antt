-- Functions by the names that are known and by their texts alone: in a typed unit they are the same.
use Rattle.std.proofs.Common.{◌≡◌, ◌∙◌, ℕ, ℤ, pos, ◌+ℤ◌, Bool, true, false, List, [], ◌∷◌, ◌++◌, map, Option, Some, None, is_some}
use Rattle.std.proofs.Common.{if◌then◌else◌, append_assoc, length, slice_get, refl, sym, ap, ap₂, subst}
use Rattle.std.proofs.lemmas.List.{append-nil, map-append}
use Rattle.std.proofs.lemmas.Slice.Eq.{bytes_eq-Decides}
use Rattle.std.specs.Str.{bytes_eq}
use Rattle.tsa_base.proofs.Truths.{never}
use Rattle.tsa_base.specs.declared.token.Span.{Span}
use Rattle.tsa_tree.specs.declarations.Syntax.{EnumConstant, Head}
use Rattle.tsa_tree.specs.declared.kind.Kind.TheVariants as type
use Rattle.tsa_tree.specs.declared.kind.Declaring.TheVariants as declaring
use Rattle.tsa_tree.specs.declared.kind.ThingType.{ThingType}
use Rattle.tsa_tree.specs.declared.meaning.Entry.{Entry}
use Rattle.tsa_tree.specs.declared.meaning.Meaning.{Meaning}
use Rattle.tsa_tree.specs.declared.meaning.Meaning.TheVariants as meant
use Rattle.tsa_tree.specs.expressions.Syntax.{Identifier}
use Rattle.tsa_tree.specs.types.DeclaredTypes.{declared_premises, thing_type}
use Rattle.tsa_tree.specs.types.Enums.{behind_enumerators, enumerator_entry, enumerator_value}
use Rattle.tsa_tree.specs.types.Expressions.{is_function}
use Rattle.tsa_tree.specs.types.Globals.{global_entry}
use Rattle.tsa_tree.specs.types.Heads.{again, behind_known, bodied, by_meaning, function_entry, head_premises, inside, is_another}
use Rattle.tsa_tree.specs.types.Premises.{first}
use Rattle.tsa_tree.specs.types.Scopes.{FunctionEntry, Scope, a_type_name, found, with_name, with_named, with_struct}
use Rattle.tsa_tree.specs.types.Statements.{statements_premises}
use Rattle.tsa_tree.specs.types.Structs.{members_behind}
use Rattle.tsa_tree.specs.types.Types.{single}
use Rattle.tsa_tree.specs.types.Units.{around_body, outset, behind_item, body_premises, item_premises, items_premises}
use Rattle.tsa_tree.specs.units.Syntax.{UnitItem, structure_item, alias_item, enumeration_item, global_item, function_item, body_item}
use Rattle.tsa_core.specs.Programs.{Declared, declared_by, declared_functions}
use Rattle.tsa_core.specs.Programs as program
use Rattle.tsa_core.proofs.NoFailure.{none_of_both}
use Rattle.tsa_core.proofs.UnitScopes.{declared_told, found_append, or_other}
use Rattle.tsa_tree.specs.types.FirstFailing.{first_failing}
use Rattle.tsa_tree.proofs.types.UnitNodes.{premises_tell_it}
use Rattle.tsa_trace.specs.FunctionTexts.{FunctionText, function_text, function_texts, or_later, point_spans, points_named, points_or_none}
use Rattle.tsa_trace.specs.Tables.{Table, bodies_behind, functions_behind, texts_by, unless_known, with_first, with_function}

-- What is known of a name beside whether it is in the table: nothing and it isn't, or something that is in it where it is a function.
abbrev Beside : Option Entry → Bool → Type 0
Beside None kept = kept ≡ false
Beside (Some e) kept = is_function e ≡ true → kept ≡ true

abbrev Agree : Scope → Table → Type 0
Agree here table = (name : List ℕ) → Beside (found here.names name) (is_some (found table name))

-- a further name that is no function
beside_other : (o : Option Entry) (hit kept : Bool) (e : Entry) → is_function e ≡ false → Beside o kept → Beside (or_other o (if hit then Some e else None)) kept
beside_other (Some x) hit kept e plain h = h
beside_other None false kept e plain h = h
beside_other None true kept e plain h = λ is. never (sym is ∙ plain)

agree_name : (here : Scope) (table : Table) (name : List ℕ) (e : Entry) → is_function e ≡ false → Agree here table → Agree (with_name name e here) table
agree_name here table name e plain h other =
    subst (λ o. Beside o (is_some (found table other))) (sym (found_append here.names ((name, e) ∷ []) other))
    (beside_other (found here.names other) (bytes_eq other name) (is_some (found table other)) e plain (h other))

agree_named : (here : Scope) (table : Table) (name : Option Identifier) (t : ThingType) → Agree here table → Agree (with_named name (a_type_name t) here) table
agree_named here table None t h = h
agree_named here table (Some name) t h = agree_name here table name.text (a_type_name t) refl h

agree_enumerators : (here : Scope) (table : Table) (next : ℤ) (values : List EnumConstant) → Agree here table → Agree (behind_enumerators here next values) table
unfolding behind_enumerators
agree_enumerators here table next [] h = h
agree_enumerators here table next (e ∷ rest) h =
    agree_enumerators (with_name e.name.text (enumerator_entry (enumerator_value here e next)) here) table (enumerator_value here e next +ℤ pos 1) rest
    (agree_name here table e.name.text (enumerator_entry (enumerator_value here e next)) refl h)

-- a function that is declared for the first time is in both
beside_first : {A : Type 0} (o : Option Entry) (hit : Bool) (t : Option A) (e : Entry) (x : A) → Beside o (is_some t)
    → Beside (or_other o (if hit then Some e else None)) (is_some (or_other t (if hit then Some x else None)))
beside_first (Some f) hit (Some y) e x h = λ is. refl
beside_first (Some f) hit None e x h = λ is. never (sym (h is))
beside_first None hit (Some y) e x h = never h
beside_first None true None e x h = λ is. refl
beside_first None false None e x h = refl

abbrev names_of : Table → List (List ℕ)
names_of table = map (λ e. e.0) table

abbrev name_of : Declared → List ℕ
name_of d = d.head.name.text

-- The head of a function that is typed.
module _ (here : Scope) (table : Table) (head : Head) (with_body : Bool) (points : List Span) (agreed : Agree here table) where
  abbrev own : Declared
  own = record { here = here; head = head; with_body = with_body }

  abbrev name : List ℕ
  name = head.name.text

  abbrev Behind : Option Entry → Table → Type 0
  Behind o after = Agree (behind_known here head with_body o) after × (names_of after ≡ names_of table ++ map name_of (program.unless_known (is_some o) own))

  first_told : is_some (found table name) ≡ false → Behind None (table ++ (name, points) ∷ [])
  first_told fresh = (
    λ other.
        let e = function_entry here head (length here.functions) in
        subst (λ o. Beside o (is_some (found (table ++ (name, points) ∷ []) other))) (sym (found_append here.names ((name, e) ∷ []) other))
        (subst (λ t. Beside (or_other (found here.names other) (if bytes_eq other name then Some e else None)) (is_some t)) (sym (found_append table ((name, points) ∷ []) other))
        (beside_first (found here.names other) (bytes_eq other name) (found table other) e points (agreed other))),
    map-append (λ e. e.0) table ((name, points) ∷ []),
  )

  bodied_names : (n : ℕ) (f : Option FunctionEntry) → (bodied here with_body n f).names ≡ here.names
  bodied_names n None = refl
  bodied_names n (Some f) = refl

  again_names : (m : Meaning) → (again here head with_body m).names ≡ here.names
  again_names (meant.Function n) = bodied_names n (slice_get here.functions n)
  again_names (meant.Global n) = refl
  again_names (meant.Local n) = refl
  again_names meant.Owned = refl
  again_names (meant.Constant z) = refl
  again_names meant.TypeName = refl

  is_kept : (m : Meaning) (t : ThingType) (kept : Bool) → Beside (Some (record { meaning = m; thing = t })) kept → by_meaning here head with_body m ≡ false → kept ≡ true
  is_kept (meant.Function n) t kept h e = h refl
  is_kept (meant.Global n) t kept h e = never e
  is_kept (meant.Local n) t kept h e = never e
  is_kept meant.Owned t kept h e = never e
  is_kept (meant.Constant z) t kept h e = never e
  is_kept meant.TypeName t kept h e = never e

  again_told : (e : Entry) → Behind (Some e) table
  again_told e = (λ other. subst (λ names. Beside (found names other) (is_some (found table other))) (sym (again_names e.meaning)) (agreed other), sym (append-nil (names_of table)))

  known_told : (o : Option Entry) → Beside o (is_some (found table name)) → is_another here head with_body o ≡ false → Behind o (with_first name points table)
  known_told None h e = subst (λ known. Behind None (unless_known known name points table)) (sym h) (first_told h)
  known_told (Some x) h e = subst (λ known. Behind (Some x) (unless_known known name points table)) (sym (is_kept x.meaning x.thing (is_some (found table name)) h e)) (again_told x)

  head_told : first (head_premises here head with_body) ≡ None → Behind (found here.names name) (with_first name points table)
  unfolding head_premises
  head_told typed =
      known_told (found here.names name) (agreed name)
      (declared_told here declaring.Result (is_another here head with_body (found here.names name)) head.name.span head.result
      (none_of_both (declared_premises here declaring.Result (is_another here head with_body (found here.names name)) head.name.span head.result) _ typed).0).0

-- Items one by one.
abbrev Step : Scope → Table → UnitItem → Type 0
Step here table item = Agree (behind_item here item) (with_function item table) × (names_of (with_function item table) ≡ names_of table ++ map name_of (declared_by here item))

step_told : (here : Scope) (table : Table) (item : UnitItem) → Agree here table → first (item_premises here item) ≡ None → Step here table item
unfolding body_premises
step_told here table (structure_item tag alias attrs members span) h typed =
    let t = single (type.Structure (length here.structs)) false in
    (agree_named (with_struct (members_behind here [] members) here) table alias t h, sym (append-nil (names_of table)))
step_told here table (alias_item name ctype span) h typed = (agree_name here table name.text (a_type_name (thing_type here ctype)) refl h, sym (append-nil (names_of table)))
step_told here table (enumeration_item tag alias values span) h typed =
    (agree_named (behind_enumerators here (pos 0) values) table alias (single type.Int false) (agree_enumerators here table (pos 0) values h), sym (append-nil (names_of table)))
step_told here table (global_item d) h typed = (agree_name here table d.name.text (global_entry here d) refl h, sym (append-nil (names_of table)))
step_told here table (function_item head) h typed = head_told here table head false [] h typed
step_told here table (body_item head body close) h typed =
    head_told here table head true (point_spans body close) h (none_of_both (head_premises here head true) (statements_premises (around_body here head body) (inside here head true) body) typed).0

names_same : (items : List UnitItem) (here : Scope) (table : Table) → Agree here table → first (items_premises here items) ≡ None
    → names_of (functions_behind items table) ≡ names_of table ++ map name_of (declared_functions here items)
unfolding functions_behind items_premises declared_functions
names_same [] here table h typed = sym (append-nil (names_of table))
names_same (item ∷ rest) here table h typed =
    let both = none_of_both (item_premises here item) (items_premises (behind_item here item) rest) typed in
    let step = step_told here table item h both.0 in
    let there = behind_item here item in
    names_same rest there (with_function item table) step.0 both.1 ∙ ap (λ xs. xs ++ map name_of (declared_functions there rest)) step.1
    ∙ append_assoc (names_of table) (map name_of (declared_by here item)) (map name_of (declared_functions there rest))
    ∙ ap (λ xs. names_of table ++ xs) (sym (map-append name_of (declared_by here item) (declared_functions there rest)))

-- The points of the first body of a name.
abbrev kept_or : Option (List Span) → List Span → List Span
kept_or (Some points) later = points
kept_or None later = later

known_already : (o : Option (List Span)) (hit : Bool) (points : List Span) → (hit ≡ true → is_some o ≡ true) → o ≡ or_other o (if hit then Some points else None)
known_already (Some x) hit points h = refl
known_already None true points h = never (sym (h refl))
known_already None false points h = refl

found_first : (table : Table) (name : List ℕ) (points : List Span) (other : List ℕ)
    → found (with_first name points table) other ≡ or_other (found table other) (if bytes_eq other name then Some points else None)
found_first table name points other = by (is_some (found table name)) refl
  where
    by : (known : Bool) → is_some (found table name) ≡ known
        → found (unless_known known name points table) other ≡ or_other (found table other) (if bytes_eq other name then Some points else None)
    by true is = known_already (found table other) (bytes_eq other name) points (λ e. ap (λ text. is_some (found table text)) ((bytes_eq-Decides other name).0 e) ∙ is)
    by false is = found_append table ((name, points) ∷ []) other

behind_kept : (kept : Option (List Span)) (hit : Bool) (points later : List Span) → kept_or (or_other kept (if hit then Some points else None)) later ≡ kept_or kept (or_later hit points later)
behind_kept (Some x) hit points later = refl
behind_kept None true points later = refl
behind_kept None false points later = refl

or_none_kept : (o : Option (List Span)) → points_or_none o ≡ kept_or o []
or_none_kept None = refl
or_none_kept (Some x) = refl

points_same : (items : List UnitItem) (table : Table) (name : List ℕ) → points_or_none (found (bodies_behind items table) name) ≡ kept_or (found table name) (points_named name items)
unfolding bodies_behind points_named
points_same [] table name = or_none_kept (found table name)
points_same (body_item head body close ∷ rest) table name =
    points_same rest (with_first head.name.text (point_spans body close) table) name
    ∙ ap (λ o. kept_or o (points_named name rest)) (found_first table head.name.text (point_spans body close) name)
    ∙ behind_kept (found table name) (bytes_eq name head.name.text) (point_spans body close) (points_named name rest)
points_same (structure_item tag alias attrs members span ∷ rest) table name = points_same rest table name
points_same (alias_item text ctype span ∷ rest) table name = points_same rest table name
points_same (enumeration_item tag alias values span ∷ rest) table name = points_same rest table name
points_same (global_item d ∷ rest) table name = points_same rest table name
points_same (function_item head ∷ rest) table name = points_same rest table name

-- The texts of a typed unit's functions.
module _ (items : List UnitItem) where
  text_by_name : List ℕ → FunctionText
  text_by_name name = record { name = name; points = points_named name items }

  by_names : (functions : Table) → texts_by functions (bodies_behind items []) ≡ map text_by_name (names_of functions)
  unfolding text_by_name
  by_names [] = refl
  by_names (e ∷ es) = ap₂ (λ points texts. record { name = e.0; points = points } ∷ texts) (points_same items [] e.0) (by_names es)

  by_declared : (ds : List Declared) → map text_by_name (map name_of ds) ≡ map (function_text items) ds
  unfolding text_by_name
  by_declared [] = refl
  by_declared (d ∷ ds) = ap (λ texts. function_text items d ∷ texts) (by_declared ds)

  pub texts_same : first_failing items ≡ None → texts_by (functions_behind items []) (bodies_behind items []) ≡ function_texts items
  texts_same typed =
      by_names (functions_behind items []) ∙ ap (map text_by_name) (names_same items (outset items) [] (λ name. refl) (sym (premises_tell_it items) ∙ typed))
      ∙ by_declared (declared_functions (outset items) items)
