-- The cases of a switch in a typed body have values of their own.
use Rattle.std.proofs.Common.{◌≡◌, ◌∙◌, ℕ, ℤ, suc, ◌+◌, Bool, true, false, not, ◌&&◌, List, [], ◌∷◌, ◌++◌, map, Option, Some, None, is_some}
use Rattle.std.proofs.Common.{if◌then◌else◌, refl, sym, ap, ap₂, subst, eq-eqb, append_assoc}
use Rattle.std.specs.Str.{bytes_eq}
use Rattle.tsa_base.specs.declared.token.Span.{Span}
use Rattle.tsa_base.proofs.Truths.{never}
use Rattle.tsa_tree.specs.declarations.Syntax.{Declaration}
use Rattle.tsa_tree.specs.declared.kind.ExpressionType.{ExpressionType}
use Rattle.tsa_tree.specs.declared.kind.ThingType.{ThingType}
use Rattle.tsa_tree.specs.declared.meaning.Entry.{Entry}
use Rattle.tsa_tree.specs.declared.number.Number.{Number}
use Rattle.tsa_tree.specs.declared.premise.TypeCode.TheVariants.{TY2, TY3, TY7, TY9}
use Rattle.tsa_tree.specs.expressions.Syntax.{Expression}
use Rattle.tsa_tree.specs.points.Syntax.{expression_span}
use Rattle.tsa_tree.specs.statements.Sound.{SoundStatement, SoundStatements}
use Rattle.tsa_tree.specs.expressions.Sound.{Words, SoundExpression}
use Rattle.tsa_tree.specs.statements.Syntax.{Statement, block, empty, local, simple, if_alone, if_else, while_loop, do_loop, for_loop}
use Rattle.tsa_tree.specs.statements.Syntax.{switch, case, otherwise, label, break, continue, goto, return, Statements, none, more}
use Rattle.tsa_tree.specs.types.Arithmetic.{unsigned_of, int_of}
use Rattle.tsa_tree.specs.types.Constants.{enumerator, is_known_enumerator, constant_of}
use Rattle.tsa_tree.specs.types.DeclaredTypes.{typed_value, value_in, constant_premises}
use Rattle.tsa_tree.specs.types.Expressions.{type_of, premises_of, known_and}
use Rattle.tsa_tree.specs.types.Known.{Context}
use Rattle.tsa_tree.specs.types.Locals.{local_entry, unless_taken, behind_local}
use Rattle.tsa_tree.specs.types.Operands.{is_scalar, lacks}
use Rattle.tsa_tree.specs.types.Premises.{premise, first}
use Rattle.tsa_tree.specs.types.Scopes.{Scope, found, context_of, known_in, further, is_taken, with_name}
use Rattle.tsa_tree.specs.types.Simple.{tested_premises}
use Rattle.tsa_tree.specs.types.Statements.{Around, in_a_loop, is_elsewhere, is_case_again, for_premises, case_premises, default_premises}
use Rattle.tsa_tree.specs.types.Statements.{label_premises, statement_premises, statements_premises, behind, behind_init}
use Rattle.tsa_tree.specs.types.Targets.{Cases, case_at, cases_behind, cases_behind_all, declared_in}
use Rattle.tsa_core.proofs.CaseLists.{Every, every_both, InRange, with_cases, with_append, IsFirst, IsOther, Apart, all_apart}
use Rattle.tsa_core.proofs.CaseNumbers.{value_fits, same_int}
use Rattle.tsa_core.proofs.EachScope.{statement_past, init_past}
use Rattle.tsa_core.proofs.NoFailure.{none_of_both, none_of_first, keeps_typed}
use Rattle.tsa_core.proofs.SameConstants.{SameConstants, same_value}
use Rattle.tsa_core.proofs.UnitScopes.{or_other, found_append}
use Rattle.tsa_core.specs.CaseLaws.{Case, cases_in, cases_in_all, Differ}
use Rattle.tsa_core.specs.Control.{count, first_all, inner_at, again_at, a_case, cases, cases_all}
use Rattle.tsa_core.specs.Control as control

-- Typing gathers the cases of a switch in their order.
module _ (worth : Expression → Option Number) where
  mutual
    unfolding cases_behind cases_behind_all

    pub gathered : (known : Cases) (s : Statement) → cases_behind worth known s ≡ with_cases worth known (cases_in s)
    gathered known (block items span) = all_gathered known items
    gathered known (if_alone test arm span) = gathered known arm
    gathered known (if_else test arm other span) =
        ap (λ k. cases_behind worth k other) (gathered known arm) ∙ gathered (with_cases worth known (cases_in arm)) other
        ∙ sym (with_append worth known (cases_in arm) (cases_in other))
    gathered known (while_loop test body span) = gathered known body
    gathered known (do_loop body test span) = gathered known body
    gathered known (for_loop init test step body span) = gathered known body
    gathered known (case key body span) = gathered _ body
    gathered known (otherwise body span) = gathered known body
    gathered known (label name body span) = gathered known body
    gathered known (switch key body span) = refl
    gathered known (empty span) = refl
    gathered known (local d) = refl
    gathered known (simple s) = refl
    gathered known (break span) = refl
    gathered known (continue span) = refl
    gathered known (goto name span) = refl
    gathered known (return given span) = refl

    all_gathered : (known : Cases) (ss : Statements) → cases_behind_all worth known ss ≡ with_cases worth known (cases_in_all ss)
    all_gathered known none = refl
    all_gathered known (more s rest) =
        ap (λ k. cases_behind_all worth k rest) (gathered known s) ∙ all_gathered (with_cases worth known (cases_in s)) rest
        ∙ sym (with_append worth known (cases_in s) (cases_in_all rest))

-- The values of some cases, and those in control.
abbrev value_part : Option Number → List ℤ
value_part None = []
value_part (Some n) = int_of n ∷ []

abbrev pub values_of : (Expression → Option Number) → List Case → List ℤ
values_of worth [] = []
values_of worth (x ∷ xs) = value_part (worth x.0) ++ values_of worth xs

abbrev choice_part : Option ℤ → List ℤ
choice_part None = []
choice_part (Some z) = z ∷ []

abbrev pub choices : control.Cases → List ℤ
choices [] = []
choices (x ∷ xs) = choice_part x.0 ++ choices xs

values_both : (worth : Expression → Option Number) (xs ys : List Case) → values_of worth (xs ++ ys) ≡ values_of worth xs ++ values_of worth ys
values_both worth [] ys = refl
values_both worth (x ∷ xs) ys =
    ap (λ zs. value_part (worth x.0) ++ zs) (values_both worth xs ys) ∙ sym (append_assoc (value_part (worth x.0)) (values_of worth xs) (values_of worth ys))

choices_both : (xs ys : control.Cases) → choices (xs ++ ys) ≡ choices xs ++ choices ys
choices_both [] ys = refl
choices_both (x ∷ xs) ys = ap (λ zs. choice_part x.0 ++ zs) (choices_both xs ys) ∙ sym (append_assoc (choice_part x.0) (choices xs) (choices ys))

one_choice : (o : Option Number) (at : ℕ) → choices (a_case o at) ≡ value_part o
one_choice None at = refl
one_choice (Some n) at = refl

module _ (here : Scope) where
  abbrev worth : Expression → Option Number
  worth = value_in (context_of here)

  joined : (cs ds : control.Cases) (xs ys : List Case) → choices cs ≡ values_of worth xs → choices ds ≡ values_of worth ys → choices (cs ++ ds) ≡ values_of worth (xs ++ ys)
  joined cs ds xs ys h g = choices_both cs ds ∙ ap₂ (λ a b. a ++ b) h g ∙ sym (values_both worth xs ys)

  mutual
    unfolding cases cases_all

    pub chosen : (s : Statement) (at follow : ℕ) → choices (cases here s at follow) ≡ values_of worth (cases_in s)
    chosen (block items span) at follow = all_chosen items at follow
    chosen (if_alone test arm span) at follow = chosen arm (suc at) follow
    chosen (if_else test arm other span) at follow =
        joined (cases here arm (suc at) follow) (cases here other (suc at + count arm) follow) (cases_in arm) (cases_in other)
        (chosen arm (suc at) follow) (chosen other (suc at + count arm) follow)
    chosen (while_loop test body span) at follow = chosen body (suc at) at
    chosen (do_loop body test span) at follow = chosen body at (at + count body)
    chosen (for_loop init test step body span) at follow = chosen body (inner_at init step at) (again_at init step at)
    chosen (case key body span) at follow =
        choices_both (a_case (worth key) (control.first body at follow)) (cases here body at follow)
        ∙ ap₂ (λ a b. a ++ b) (one_choice (worth key) (control.first body at follow)) (chosen body at follow)
    chosen (otherwise body span) at follow = chosen body at follow
    chosen (label name body span) at follow = chosen body at follow
    chosen (switch key body span) at follow = refl
    chosen (empty span) at follow = refl
    chosen (local d) at follow = refl
    chosen (simple s) at follow = refl
    chosen (break span) at follow = refl
    chosen (continue span) at follow = refl
    chosen (goto name span) at follow = refl
    chosen (return given span) at follow = refl

    all_chosen : (ss : Statements) (at follow : ℕ) → choices (cases_all here ss at follow) ≡ values_of worth (cases_in_all ss)
    all_chosen none at follow = refl
    all_chosen (more s ss) at follow =
        joined (cases here s at (first_all ss (at + count s) follow)) (cases_all here ss (at + count s) follow) (cases_in s) (cases_in_all ss)
        (chosen s at (first_all ss (at + count s) follow)) (all_chosen ss (at + count s) follow)

-- numbers of which no two are the same
abbrev pub AllApart : List ℤ → Type 0
AllApart [] = Unit {0}
AllApart (z ∷ zs) = Every (λ w. z ≡ w → ⊥) zs × AllApart zs

module _ (worth : Expression → Option Number) (all : Cases) where
  abbrev First : Case → Type 0
  First = IsFirst worth all

  other_values : (x : Case) (n : Number) → worth x.0 ≡ Some n → InRange n → (xs : List Case) → Every First xs → Every (IsOther worth x) xs
      → Every (λ w. int_of n ≡ w → ⊥) (values_of worth xs)
  other_values x n is small [] each other = tt
  other_values x n is small (y ∷ ys) each other =
      subst (λ o. Every (λ w. int_of n ≡ w → ⊥) (value_part o ++ values_of worth ys)) (sym each.0.is) (
        λ same. let e = same_int n each.0.n small each.0.small same in
            never (sym (eq-eqb (unsigned_of each.0.n) (unsigned_of n) (sym e)) ∙ other.0 n each.0.n is each.0.is),
        other_values x n is small ys each.1 other.1,
      )

  values_apart : (xs : List Case) → Every First xs → Apart worth xs → AllApart (values_of worth xs)
  values_apart [] each apart = tt
  values_apart (x ∷ xs) each apart =
      subst (λ o. AllApart (value_part o ++ values_of worth xs)) (sym each.0.is)
      (other_values x each.0.n each.0.is each.0.small xs each.1 apart.0, values_apart xs each.1 apart.1)

-- Where more locals are known, constants are the same.
last_local : (o : Option Entry) (b : Bool) (e : Entry) → enumerator (Some e) ≡ None
    → (enumerator (or_other o (if b then Some e else None)) ≡ enumerator o) × (is_known_enumerator (enumerator o) ≡ true → or_other o (if b then Some e else None) ≡ o)
last_local (Some x) b e plain = (refl, λ made. refl)
last_local None true e plain = (plain, λ made. never (sym made))
last_local None false e plain = (refl, λ made. never (sym made))

module _ (s : Scope) (name : List ℕ) (e : Entry) (plain : enumerator (Some e) ≡ None) where
  abbrev pub there : Scope
  there = with_name name e s

  abbrev SameAt : List ℕ → Type 0
  SameAt text = (enumerator (known_in there text) ≡ enumerator (known_in s text)) × (is_known_enumerator (enumerator (known_in s text)) ≡ true → known_in there text ≡ known_in s text)

  same_at : (text : List ℕ) → SameAt text
  same_at text = by (found s.owned text) refl
    where
      named : (enumerator (found there.names text) ≡ enumerator (found s.names text)) × (is_known_enumerator (enumerator (found s.names text)) ≡ true → found there.names text ≡ found s.names text)
      named = rw (found_append s.names ((name, e) ∷ []) text) (last_local (found s.names text) (bytes_eq text name) e plain)

      by : (o : Option ThingType) → found s.owned text ≡ o → SameAt text
      by None is = rw is named
      by (Some t) is = rw is (refl, λ made. refl)

  pub same_with : SameConstants (context_of s) (context_of there)
  same_with = record { values = λ text. (same_at text).0; entries = λ text. (same_at text).1 }

pub same_through : (b c d : Context) → SameConstants b c → SameConstants c d → SameConstants b d
same_through b c d h g = record {
  values = λ name. g.values name ∙ h.values name;
  entries = λ name made. g.entries name (ap is_known_enumerator (h.values name) ∙ made) ∙ h.entries name made;
}

module _ (here : Scope) where
  abbrev pub Kept : Scope → Type 0
  Kept s = SameConstants (context_of here) (context_of s)

  kept_further : (s : Scope) (n : ℕ) → Kept s → Kept (further n s)
  kept_further s n h = record { values = h.values; entries = h.entries }

  kept_local : (s : Scope) (d : Declaration) → Kept s → Kept (behind_local s d)
  kept_local s d h = kept_further (unless_taken (is_taken d.name.text s) d.name.text (local_entry s d) s) 1 (by (is_taken d.name.text s))
    where
      by : (taken : Bool) → Kept (unless_taken taken d.name.text (local_entry s d) s)
      by true = h
      by false = same_through (context_of here) (context_of s) (context_of (with_name d.name.text (local_entry s d) s)) h (same_with s d.name.text (local_entry s d) refl)

  pub kept_same : Kept here
  kept_same = record { values = λ name. refl; entries = λ name made. refl }

  -- The cases of a typed statement in a switch are each the first one with their value.
  module _ (words : Words) (all : Cases) where
    abbrev Firsts : List Case → Type 0
    Firsts xs = Every (IsFirst (value_in (context_of here)) all) xs

    constant_there : (c : Context) (key : Expression) → first (constant_premises c is_some key) ≡ None → (n : Number) × (value_in c key ≡ Some n)
    constant_there c key h =
        let fails = known_and (λ t. not (is_some (constant_of c key))) (type_of c key) in
        let told = none_of_both (premises_of c key) (premise TY9 (expression_span key) fails ∷ []) h in
        let typed = keeps_typed c key told.0 in
        by (type_of c key) (constant_of c key) typed.0 typed.1 (none_of_first TY9 (expression_span key) fails [] told.1).0
      where
        by : (o : Option ExpressionType) (v : Option Number) (t : ExpressionType) → o ≡ Some t → known_and (λ t. not (is_some v)) o ≡ false → (n : Number) × (typed_value o v ≡ Some n)
        by None v t e f = cc
        by (Some x) None t e f = never f
        by (Some x) (Some n) t e f = (n, refl)

    case_first : (a : Around) (s : Scope) (key : Expression) (span : Span) (n : Number) → a.in_switch ≡ true → a.cases ≡ all → value_in (context_of s) key ≡ Some n
        → (a.in_switch && is_case_again a.cases span.from (value_in (context_of s) key)) ≡ false → is_elsewhere span.from (case_at all (unsigned_of n)) ≡ false
    case_first a s key span n inside gathered is h =
        sym (ap₂ (λ b o. b && is_case_again a.cases span.from o) inside is ∙ ap (λ k. is_case_again k span.from (Some n)) gathered) ∙ h

    case_is : (a : Around) (s : Scope) (key : Expression) (span : Span) → a.in_switch ≡ true → a.cases ≡ all → Kept s → SoundExpression words key
        → first (case_premises a (context_of s) key span) ≡ None → IsFirst (value_in (context_of here)) all (key, span)
    unfolding case_premises
    case_is a s key span inside gathered kept sound h =
        let c = context_of s in
        let again = a.in_switch && is_case_again a.cases span.from (value_in c key) in
        let one = none_of_first TY2 span again (premise TY7 span (not a.in_switch) ∷ constant_premises c is_some key) h in
        let two = none_of_first TY7 span (not a.in_switch) (constant_premises c is_some key) one.1 in
        let v = constant_there c key two.1 in
        record {
          n = v.0;
          is = sym (same_value (context_of here) c kept key) ∙ v.1;
          first = case_first a s key span v.0 inside gathered v.1 one.0;
          small = value_fits c words key v.0 sound v.1;
        }

    mutual
      unfolding statement_premises statements_premises

      pub firsts : (a : Around) (b : Bool) (s : Scope) (x : Statement) → a.in_switch ≡ true → a.cases ≡ all → Kept s → SoundStatement words b x
          → first (statement_premises a s x) ≡ None → Firsts (cases_in x)
      firsts a b s (block items span) inside gathered kept sound h = all_firsts a s items inside gathered kept sound h
      firsts a b s (if_alone test arm span) inside gathered kept sound h =
          firsts a false s arm inside gathered kept sound.1 (none_of_both (tested_premises (context_of s) is_scalar span test) (statement_premises a s arm) h).1
      firsts a b s (if_else test arm other span) inside gathered kept sound h =
          let there = further (declared_in arm) s in
          let p = none_of_both (tested_premises (context_of s) is_scalar span test) (statement_premises a s arm ++ statement_premises a there other) h in
          let q = none_of_both (statement_premises a s arm) (statement_premises a there other) p.1 in
          every_both (IsFirst (value_in (context_of here)) all) (cases_in arm) (cases_in other) (firsts a false s arm inside gathered kept sound.1 q.0)
          (firsts a false there other inside gathered (kept_further s (declared_in arm) kept) sound.3 q.1)
      firsts a b s (while_loop test body span) inside gathered kept sound h =
          firsts (in_a_loop a) false s body inside gathered kept sound.1
          (none_of_both (tested_premises (context_of s) is_scalar span test) (statement_premises (in_a_loop a) s body) h).1
      firsts a b s (do_loop body test span) inside gathered kept sound h =
          let c = context_of s in
          let p = none_of_first TY3 span (lacks is_scalar (type_of c test)) (statement_premises (in_a_loop a) s body ++ premises_of c test) h in
          firsts (in_a_loop a) false s body inside gathered kept sound.0 (none_of_both (statement_premises (in_a_loop a) s body) (premises_of c test) p.1).0
      firsts a b s (for_loop init test step body span) inside gathered kept sound h =
          let there = behind_init s init in
          firsts (in_a_loop a) false there body inside gathered (init_past Kept kept_further kept_local s init kept) sound.3
          (none_of_both (for_premises s init test step span) (statement_premises (in_a_loop a) there body) h).1
      firsts a b s (case key body span) inside gathered kept sound h =
          let p = none_of_both (case_premises a (context_of s) key span) (statement_premises a s body) h in
          (case_is a s key span inside gathered kept sound.0 p.0, firsts a false s body inside gathered kept sound.1 p.1)
      firsts a b s (otherwise body span) inside gathered kept sound h =
          firsts a false s body inside gathered kept sound (none_of_both (default_premises a span) (statement_premises a s body) h).1
      firsts a b s (label name body span) inside gathered kept sound h =
          firsts a false s body inside gathered kept sound.1 (none_of_both (label_premises a name span) (statement_premises a s body) h).1
      firsts a b s (switch key body span) inside gathered kept sound h = tt
      firsts a b s (empty span) inside gathered kept sound h = tt
      firsts a b s (local d) inside gathered kept sound h = tt
      firsts a b s (simple x) inside gathered kept sound h = tt
      firsts a b s (break span) inside gathered kept sound h = tt
      firsts a b s (continue span) inside gathered kept sound h = tt
      firsts a b s (goto name span) inside gathered kept sound h = tt
      firsts a b s (return given span) inside gathered kept sound h = tt

      all_firsts : (a : Around) (s : Scope) (xs : Statements) → a.in_switch ≡ true → a.cases ≡ all → Kept s → SoundStatements words xs
          → first (statements_premises a s xs) ≡ None → Firsts (cases_in_all xs)
      all_firsts a s none inside gathered kept sound h = tt
      all_firsts a s (more x xs) inside gathered kept sound h =
          let p = none_of_both (statement_premises a s x) (statements_premises a (behind s x) xs) h in
          every_both (IsFirst (value_in (context_of here)) all) (cases_in x) (cases_in_all xs) (firsts a true s x inside gathered kept sound.0 p.0)
          (all_firsts a (behind s x) xs inside gathered (statement_past Kept kept_further kept_local s x kept) sound.1 p.1)

  -- the values of a typed switch's cases
  pub switch_apart : (words : Words) (a : Around) (b : Bool) (body : Statement) (at follow : ℕ) → a.in_switch ≡ true
      → a.cases ≡ cases_behind (value_in (context_of here)) [] body → SoundStatement words b body → first (statement_premises a here body) ≡ None
      → Differ (map (λ x. x.1.from) (cases_in body)) → AllApart (choices (cases here body at follow))
  switch_apart words a b body at follow inside is sound h differ =
      let w = value_in (context_of here) in
      let each = firsts words (with_cases w [] (cases_in body)) a b here body inside (is ∙ gathered w [] body) kept_same sound h in
      subst AllApart (sym (chosen here body at follow)) (values_apart w (with_cases w [] (cases_in body)) (cases_in body) each (all_apart w (cases_in body) each differ))
