-- Functions are known by their names, with their numbers, and with whether their bodies came.
use Rattle.std.proofs.Common.{◌≡◌, ◌∙◌, ℕ, zero, suc, ◌+◌, arith, Bool, true, false, ◌&&◌, List, [], ◌∷◌, ◌++◌, length, Option, Some, None}
use Rattle.std.proofs.Common.{is_some, slice_get, slice_set, if◌then◌else◌, refl, sym, ap, subst}
use Rattle.std.proofs.lemmas.List.{append-nil, length-append, length-set}
use Rattle.std.proofs.lemmas.Slice.Eq.{bytes_eq-Decides}
use Rattle.std.specs.Str.{bytes_eq}
use Rattle.tsa_tree.specs.declarations.Syntax.{Head}
use Rattle.tsa_tree.specs.declared.meaning.Entry.{Entry}
use Rattle.tsa_tree.specs.declared.meaning.Meaning.{Meaning}
use Rattle.tsa_tree.specs.declared.meaning.Meaning.TheVariants as meant
use Rattle.tsa_tree.specs.types.Heads.{is_another, by_meaning, differs, declares_function, function_entry, or_body, bodied, again}
use Rattle.tsa_tree.specs.types.Heads.{behind_known, behind_head}
use Rattle.tsa_tree.specs.types.Scopes.{Scope, FunctionEntry, found}
use Rattle.tsa_tree.specs.types.Symbols.{function_or_next, meant_function, number_of}
use Rattle.tsa_place_model.proofs.GlobalsInRow.{front_at, last_at, by_last}
use Rattle.tsa_core.specs.Programs.{Bodied, Declared, unless_known, first_head}
use Rattle.tsa_core.proofs.KindTests.{neither, or_left}
use Rattle.tsa_core.proofs.TypedTerms.{some_same}
use Rattle.tsa_core.proofs.UnitScopes.{or_other, found_append}
use Rattle.tsa_core.proofs.BodiesAgree.{AreMeant, Means, means_kept}
use Rattle.tsa_profile.proofs.AddedNames.{kept_name, AddsData}
use Rattle.tsa_base.proofs.Truths.{never, or_right}

-- the function of a number has a name
abbrev pub IsNamed : List Declared → ℕ → List ℕ → Type 0
IsNamed ds n name = (d : Declared) × ((slice_get ds n ≡ Some d) × (d.head.name.text ≡ name))

abbrev pub KnowsFunctions : List Declared → Scope → Type 0
KnowsFunctions ds here = (name : List ℕ) (e : Entry) (n : ℕ) → found here.names name ≡ Some e → e.meaning ≡ meant.Function n → IsNamed ds n name

-- the function of a number has its body
abbrev pub HasBody : List FunctionEntry → ℕ → Type 0
HasBody functions n = (f : FunctionEntry) × ((slice_get functions n ≡ Some f) × (f.has_body ≡ true))

abbrev pub IsMarked : Scope → List ℕ → Type 0
IsMarked here name = (n : ℕ) × (Means here name n × HasBody here.functions n)

-- the bodies that came, by the names of their functions
abbrev pub Bodies : Type 0
Bodies = List ℕ → Option Bodied

-- Behind the functions that are declared and the bodies that came, what is known.
pub record Stands (ds : List Declared) (bodies : Bodies) (here : Scope) : Type 0 where
  pub count : length here.functions ≡ length ds
  pub named : KnowsFunctions ds here
  pub meant_by : AreMeant ds here
  pub marked : (name : List ℕ) (b : Bodied) → bodies name ≡ Some b → IsMarked here name

number_same : (n m : ℕ) → meant.Function n ≡ meant.Function m → n ≡ m
number_same n m e = cc

pub one_meant : (here : Scope) (name : List ℕ) (n m : ℕ) → Means here name n → Means here name m → n ≡ m
one_meant here name n m h g = number_same n m (sym h.1.1 ∙ ap (λ e. e.meaning) (some_same (sym h.1.0 ∙ g.1.0)) ∙ g.1.1)

-- data change nothing of this
pub knows_data : (ds : List Declared) (here there : Scope) → AddsData here there → KnowsFunctions ds here → KnowsFunctions ds there
knows_data ds here there plain h name e n is means = h name e n (plain.only name e n is means) means

pub stands_data : (ds : List Declared) (bodies : Bodies) (here there : Scope) → AddsData here there → Stands ds bodies here → Stands (ds ++ []) bodies there
stands_data ds bodies here there plain h =
    subst (λ xs. Stands xs bodies there) (sym (append-nil ds)) (record {
      count = ap length plain.functions ∙ h.count;
      named = knows_data ds here there plain h.named;
      meant_by = λ n d at. means_kept here there d.head.name.text n plain.kept (h.meant_by n d at);
      marked = λ name b is.
          let m = h.marked name b is in
          (m.0, (means_kept here there name m.0 plain.kept m.1.0, subst (λ fs. HasBody fs m.0) (sym plain.functions) m.1.1));
    })

-- a list that is as long has a part of that number too
beside : {A B : Type 0} (xs : List A) (ys : List B) (n : ℕ) (x : A) → length xs ≡ length ys → slice_get xs n ≡ Some x → (y : B) × (slice_get ys n ≡ Some y)
beside [] ys zero x same at = absurd cc
beside [] ys (suc n) x same at = absurd cc
beside (z ∷ xs) [] n x same at = absurd (omega (arith, same))
beside (z ∷ xs) (y ∷ ys) zero x same at = (y, refl)
beside (z ∷ xs) (y ∷ ys) (suc n) x same at = beside xs ys n x (omega (arith, same)) at

-- a function that is declared again keeps its mark, and one with its body is marked
mark_kept : (fs : List FunctionEntry) (k n : ℕ) (f x : FunctionEntry) (with_body : Bool) → slice_get fs k ≡ Some f → slice_get fs n ≡ Some x → x.has_body ≡ true
    → HasBody (slice_set fs k (or_body with_body f)) n
mark_kept [] zero n f x w is at h = absurd cc
mark_kept [] (suc k) n f x w is at h = absurd cc
mark_kept (y ∷ fs) zero zero f x w is at h = (or_body w f, (refl, or_left f.has_body w (ap (λ o. o.has_body) (some_same (sym is ∙ at)) ∙ h)))
mark_kept (y ∷ fs) zero (suc n) f x w is at h = (x, (at, h))
mark_kept (y ∷ fs) (suc k) zero f x w is at h = (x, (at, h))
mark_kept (y ∷ fs) (suc k) (suc n) f x w is at h = mark_kept fs k n f x w is at h

mark_set : (fs : List FunctionEntry) (k : ℕ) (f : FunctionEntry) → slice_get fs k ≡ Some f → HasBody (slice_set fs k (or_body true f)) k
mark_set [] zero f is = absurd cc
mark_set [] (suc k) f is = absurd cc
mark_set (y ∷ fs) zero f is = (or_body true f, (refl, or_right f.has_body true refl))
mark_set (y ∷ fs) (suc k) f is = mark_set fs k f is

no_body : (b : Bool) → (b && true) ≡ false → b ≡ false
no_body true e = e
no_body false e = e

-- A function that is declared for the first time.
module _ (ds : List Declared) (bodies : Bodies) (here : Scope) (head : Head) (with_body : Bool) (h : Stands ds bodies here) (fresh : found here.names head.name.text ≡ None) where
  abbrev own : Declared
  own = record { here = here; head = head; with_body = with_body }

  abbrev entry : Entry
  entry = function_entry here head (length here.functions)

  abbrev there : Scope
  there = behind_known here head with_body None

  first_means : Means there head.name.text (length here.functions)
  first_means = (
    entry,
    (
      found_append here.names ((head.name.text, entry) ∷ []) head.name.text ∙ ap (λ o. or_other o (found ((head.name.text, entry) ∷ []) head.name.text)) fresh
          ∙ ap (λ b. if b then Some entry else None) ((bytes_eq-Decides head.name.text head.name.text).1 refl),
      refl,
    ),
  )

  longer : (n : ℕ) (name : List ℕ) → IsNamed ds n name → IsNamed (ds ++ own ∷ []) n name
  longer n name x = (x.0, (front_at ds (own ∷ []) n x.0 x.1.0, x.1.1))

  named_there : KnowsFunctions (ds ++ own ∷ []) there
  named_there name e n is means = by (found here.names name) refl (bytes_eq name head.name.text) refl (sym (found_append here.names ((head.name.text, entry) ∷ []) name) ∙ is)
    where
      by : (o : Option Entry) → found here.names name ≡ o → (hit : Bool) → bytes_eq name head.name.text ≡ hit → or_other o (if hit then Some entry else None) ≡ Some e → IsNamed (ds ++ own ∷ []) n name
      by (Some x) old hit same got = longer n name (h.named name e n (old ∙ got) means)
      by None old true same got =
          let number = number_same (length here.functions) n (ap (λ x. x.meaning) (some_same got) ∙ means) in
          (own, (ap (slice_get (ds ++ own ∷ [])) (sym (sym h.count ∙ number)) ∙ last_at ds own, sym ((bytes_eq-Decides name head.name.text).0 same)))
      by None old false same got = absurd cc

  first_stands : Stands (ds ++ own ∷ []) bodies there
  first_stands = record {
    count =
        let one : length (here.functions ++ declares_function here head with_body ∷ []) ≡ length here.functions + 1 = length-append here.functions (declares_function here head with_body ∷ []) in
        let two : length (ds ++ own ∷ []) ≡ length ds + 1 = length-append ds (own ∷ []) in
        omega (arith, one, two, h.count);
    named = named_there;
    meant_by = λ n d at.
        by_last ds own n d at
        (λ front. means_kept here there d.head.name.text n (kept_name here head.name.text entry) (h.meant_by n d front))
        (λ number same. subst (λ x. Means there x.head.name.text n) same (subst (Means there head.name.text) (h.count ∙ sym number) first_means));
    marked = λ name b is.
        let m = h.marked name b is in (
          m.0,
          (
            means_kept here there name m.0 (kept_name here head.name.text entry) m.1.0,
            (m.1.1.0, (front_at here.functions (declares_function here head with_body ∷ []) m.0 m.1.1.0 m.1.1.1.0, m.1.1.1.1)),
          ),
        );
  }

-- A function that is declared again.
module _ (ds : List Declared) (bodies : Bodies) (here : Scope) (h : Stands ds bodies here) where
  bodied_stands : (with_body : Bool) (k : ℕ) (o : Option FunctionEntry) → slice_get here.functions k ≡ o → Stands ds bodies (bodied here with_body k o)
  bodied_stands with_body k None is = h
  bodied_stands with_body k (Some f) is = record {
    count = length-set here.functions k (or_body with_body f) ∙ h.count;
    named = h.named;
    meant_by = h.meant_by;
    marked = λ name b came.
        let m = h.marked name b came in
        (m.0, (m.1.0, mark_kept here.functions k m.0 f m.1.1.0 with_body is m.1.1.1.0 m.1.1.1.1));
  }

  again_stands : (head : Head) (with_body : Bool) (m : Meaning) → Stands ds bodies (again here head with_body m)
  again_stands head with_body (meant.Function k) = bodied_stands with_body k (slice_get here.functions k) refl
  again_stands head with_body (meant.Global k) = h
  again_stands head with_body (meant.Local k) = h
  again_stands head with_body meant.Owned = h
  again_stands head with_body (meant.Constant z) = h
  again_stands head with_body meant.TypeName = h

  known_stands : (head : Head) (with_body : Bool) (o : Option Entry) → found here.names head.name.text ≡ o
      → Stands (ds ++ unless_known (is_some o) (record { here = here; head = head; with_body = with_body })) bodies (behind_known here head with_body o)
  known_stands head with_body None is = first_stands ds bodies here head with_body h is
  known_stands head with_body (Some e) is = subst (λ xs. Stands xs bodies (again here head with_body e.meaning)) (sym (append-nil ds)) (again_stands head with_body e.meaning)

  pub head_stands : (head : Head) (with_body : Bool) → Stands (ds ++ first_head here head with_body) bodies (behind_head here head with_body)
  head_stands head with_body = known_stands head with_body (found here.names head.name.text) refl

  -- no body came of a name that isn't known
  pub none_came : (name : List ℕ) → found here.names name ≡ None → bodies name ≡ None
  none_came name fresh = by (bodies name) refl
    where
      by : (o : Option Bodied) → bodies name ≡ o → o ≡ None
      by None is = refl
      by (Some b) is = let m = h.marked name b is in let no : Some m.1.0.0 ≡ None = sym m.1.0.1.0 ∙ fresh in absurd cc

  -- What a typed head of a function with a body tells: it is of the function of its number, which has its body there and had none before.
  module _ (head : Head) where
    pub record TellsBody : Type 0 where
      pub means : Means (behind_head here head true) head.name.text (number_of here head)
      pub marked : HasBody (behind_head here head true).functions (number_of here head)
      pub unknown : bodies head.name.text ≡ None

    abbrev Told : Option Entry → Type 0
    Told o = Means (behind_known here head true o) head.name.text (function_or_next here o) × (HasBody (behind_known here head true o).functions (function_or_next here o) × (bodies head.name.text ≡ None))

    function_told : (k : ℕ) (e : Entry) → found here.names head.name.text ≡ Some e → e.meaning ≡ meant.Function k → (o : Option FunctionEntry) → slice_get here.functions k ≡ o → differs here head true o ≡ false
        → Means (bodied here true k o) head.name.text k × (HasBody (bodied here true k o).functions k × (bodies head.name.text ≡ None))
    function_told k e is means None at typed =
        let x = h.named head.name.text e k is means in
        let y = beside ds here.functions k x.0 (sym h.count) x.1.0 in
        let no : Some y.0 ≡ None = sym y.1 ∙ at in
        absurd cc
    function_told k e is means (Some f) at typed = ((e, (is, means)), (mark_set here.functions k f at, by (bodies head.name.text) refl))
      where
        by : (o : Option Bodied) → bodies head.name.text ≡ o → o ≡ None
        by None came = refl
        by (Some b) came =
            let m = h.marked head.name.text b came in
            let same : m.0 ≡ k = one_meant here head.name.text m.0 k m.1.0 (e, (is, means)) in
            let entry_is : m.1.1.0 ≡ f = some_same (sym m.1.1.1.0 ∙ ap (slice_get here.functions) same ∙ at) in
            never (sym m.1.1.1.1 ∙ ap (λ x. x.has_body) entry_is ∙ no_body f.has_body (neither (f.has_body && true) _ typed).0)

    meaning_told : (e : Entry) → found here.names head.name.text ≡ Some e → (m : Meaning) → e.meaning ≡ m → by_meaning here head true m ≡ false
        → Means (again here head true m) head.name.text (function_or_next here (Some e)) × (HasBody (again here head true m).functions (function_or_next here (Some e)) × (bodies head.name.text ≡ None))
    meaning_told e is (meant.Function k) means typed =
        let told = function_told k e is means (slice_get here.functions k) refl typed in
        subst (λ n. Means (bodied here true k (slice_get here.functions k)) head.name.text n × (HasBody (bodied here true k (slice_get here.functions k)).functions n × (bodies head.name.text ≡ None)))
        (sym (ap meant_function means)) told
    meaning_told e is (meant.Global k) means typed = never typed
    meaning_told e is (meant.Local k) means typed = never typed
    meaning_told e is meant.Owned means typed = never typed
    meaning_told e is (meant.Constant z) means typed = never typed
    meaning_told e is meant.TypeName means typed = never typed

    known_told : (o : Option Entry) → found here.names head.name.text ≡ o → is_another here head true o ≡ false → Told o
    known_told None is typed = (
      first_means ds bodies here head true h is,
      ((declares_function here head true, (last_at here.functions (declares_function here head true), refl)), none_came head.name.text is),
    )
    known_told (Some e) is typed = meaning_told e is e.meaning refl typed

    pub body_told : is_another here head true (found here.names head.name.text) ≡ false → TellsBody
    body_told typed =
        let told = known_told (found here.names head.name.text) refl typed in
        record { means = told.0; marked = told.1.0; unknown = told.1.1 }
