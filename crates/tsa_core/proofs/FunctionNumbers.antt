-- A name that means a function is the name of the function that has the number.
use Rattle.std.proofs.Common.{◌≡◌, ◌∙◌, ℕ, ℤ, zero, suc, ◌+◌, ◌+ℤ◌, pos, arith, Bool, true, false, List, [], ◌∷◌, ◌++◌, All, length}
use Rattle.std.proofs.Common.{slice_get, slice_index_or, Option, Some, None, is_some, append_assoc, append-nil, if◌then◌else◌, refl, sym}
use Rattle.std.proofs.Common.{subst}
use Rattle.std.proofs.lemmas.List.{length-append, length-map, length-set}
use Rattle.std.proofs.lemmas.List.Elements.{All-append, All-cons, All-head, All-nil, All-tail}
use Rattle.std.proofs.lemmas.Slice.Eq.{bytes_eq-Decides}
use Rattle.std.specs.Str.{bytes_eq}
use Rattle.tsa_tree.specs.declarations.Syntax.{Declaration, EnumConstant, Parameter, Head}
use Rattle.tsa_tree.specs.declared.kind.Kind.TheVariants as type
use Rattle.tsa_tree.specs.declared.kind.ThingType.{ThingType}
use Rattle.tsa_tree.specs.declared.meaning.Entry.{Entry}
use Rattle.tsa_tree.specs.declared.meaning.Meaning.{Meaning}
use Rattle.tsa_tree.specs.declared.meaning.Meaning.TheVariants as meant
use Rattle.tsa_tree.specs.expressions.Syntax.{Identifier}
use Rattle.tsa_tree.specs.types.DeclaredTypes.{thing_type}
use Rattle.tsa_tree.specs.types.Enums.{enumerator_entry, enumerator_value, behind_enumerators}
use Rattle.tsa_tree.specs.types.Globals.{global_entry}
use Rattle.tsa_tree.specs.types.Heads.{declares_function, function_entry, or_body, bodied, again, behind_known, behind_head, local_entry}
use Rattle.tsa_tree.specs.types.Heads.{with_param, inside_params, inside}
use Rattle.tsa_tree.specs.types.Scopes.{Scope, FunctionEntry, found, further, is_taken, with_name, with_named, with_struct, a_type_name}
use Rattle.tsa_tree.specs.types.Locals as locals
use Rattle.tsa_tree.specs.types.Locals.{unless_taken}
use Rattle.tsa_tree.specs.types.Structs.{members_behind}
use Rattle.tsa_tree.specs.types.Types.{single}
use Rattle.tsa_tree.specs.types.Units.{outset, behind_item}
use Rattle.tsa_tree.specs.units.Syntax.{UnitItem, structure_item, alias_item, enumeration_item, global_item, function_item, body_item}
use Rattle.tsa_place_model.specs.LockPaths.{stable_in}
use Rattle.tsa_core.specs.Bodies.{Known, known_in_body, point_of}
use Rattle.tsa_core.specs.Laws.{HasName, KnowsNumbers, FunctionsAreNumbered, UsesStandBesidePoints}
use Rattle.tsa_core.specs.Uses.{uses_of}
use Rattle.tsa_core.proofs.EachScope.{each_point}
use Rattle.tsa_core.specs.Programs.{Declared, unless_known, first_head, declared_by, declared_functions, Bodied, body_in, bodied_by}
use Rattle.tsa_core.specs.Programs.{bodied_function}
use Rattle.tsa_core.specs.Programs as program
use Rattle.tsa_core.proofs.TypedTerms.{some_same}

-- Lists of declared functions that grow.
longer : (ds more : List Declared) (n : ℕ) (name : List ℕ) → HasName ds n name → HasName (ds ++ more) n name
longer [] more n name h = cc
longer (d ∷ ds) more zero name h = h
longer (d ∷ ds) more (suc n) name h = longer ds more n name h

last_name : (ds : List Declared) (d : Declared) → HasName (ds ++ d ∷ []) (length ds) d.head.name.text
last_name [] d = refl
last_name (x ∷ ds) d = last_name ds d

-- a name, where it means a function, has the number of one
abbrev Named : List Declared → List ℕ × Entry → Type 0
Named ds x = (n : ℕ) → x.1.meaning ≡ meant.Function n → HasName ds n x.0

abbrev AreNamed : List Declared → Scope → Type 0
AreNamed ds here = All (Named ds) here.names

-- and there are as many functions as were declared
abbrev Agree : List Declared → Scope → Type 0
Agree ds here = (length here.functions ≡ length ds) × AreNamed ds here

named_longer : (ds more : List Declared) (here : Scope) → AreNamed ds here → AreNamed (ds ++ more) here
named_longer ds more here h k d less n is = longer ds more n (slice_index_or here.names k d).0 (h k d less n is)

further_name : (ds : List Declared) (here : Scope) (name : List ℕ) (e : Entry) → Named ds (name, e) → AreNamed ds here → AreNamed ds (with_name name e here)
further_name ds here name e own h = All-append (Named ds) here.names ((name, e) ∷ []) h (All-cons (Named ds) (name, e) [] own (All-nil (Named ds)))

further_named : (ds : List Declared) (here : Scope) (name : Option Identifier) (e : Entry) → ((text : List ℕ) → Named ds (text, e)) → AreNamed ds here → AreNamed ds (with_named name e here)
further_named ds here None e own h = h
further_named ds here (Some name) e own h = further_name ds here name.text e (own name.text) h

module _ (ds : List Declared) where
  enumerators_named : (here : Scope) (next : ℤ) (values : List EnumConstant) → AreNamed ds here → AreNamed ds (behind_enumerators here next values)
  unfolding behind_enumerators
  enumerators_named here next [] h = h
  enumerators_named here next (e ∷ rest) h =
      enumerators_named (with_name e.name.text (enumerator_entry (enumerator_value here e next)) here) (enumerator_value here e next +ℤ pos 1) rest
      (further_name ds here e.name.text (enumerator_entry (enumerator_value here e next)) (λ n is. cc) h)

  enumerators_count : (here : Scope) (next : ℤ) (values : List EnumConstant) → length (behind_enumerators here next values).functions ≡ length here.functions
  unfolding behind_enumerators
  enumerators_count here next [] = refl
  enumerators_count here next (e ∷ rest) = enumerators_count (with_name e.name.text (enumerator_entry (enumerator_value here e next)) here) (enumerator_value here e next +ℤ pos 1) rest

  alias_count : (here : Scope) (alias : Option Identifier) (t : ThingType) → length (with_named alias (a_type_name t) here).functions ≡ length here.functions
  alias_count here None t = refl
  alias_count here (Some name) t = refl

  bodied_agree : (here : Scope) (with_body : Bool) (k : ℕ) (o : Option FunctionEntry) → Agree ds here → Agree ds (bodied here with_body k o)
  bodied_agree here with_body k None h = h
  bodied_agree here with_body k (Some f) h = (length-set here.functions k (or_body with_body f) ∙ h.0, h.1)

  again_agree : (here : Scope) (head : Head) (with_body : Bool) (m : Meaning) → Agree ds here → Agree ds (again here head with_body m)
  again_agree here head with_body (meant.Function k) h = bodied_agree here with_body k (slice_get here.functions k) h
  again_agree here head with_body (meant.Global k) h = h
  again_agree here head with_body (meant.Local k) h = h
  again_agree here head with_body meant.Owned h = h
  again_agree here head with_body (meant.Constant z) h = h
  again_agree here head with_body meant.TypeName h = h

  first_named : (here : Scope) (head : Head) (with_body : Bool) → length here.functions ≡ length ds
      → Named (ds ++ record { here = here; head = head; with_body = with_body } ∷ []) (head.name.text, function_entry here head (length here.functions))
  first_named here head with_body same n is =
      let number : length here.functions ≡ n = cc in
      subst (λ m. HasName (ds ++ record { here = here; head = head; with_body = with_body } ∷ []) m head.name.text) (sym same ∙ number) (last_name ds (record { here = here; head = head; with_body = with_body }))

  known_agree : (here : Scope) (head : Head) (with_body : Bool) (o : Option Entry) → Agree ds here
      → Agree (ds ++ unless_known (is_some o) (record { here = here; head = head; with_body = with_body })) (behind_known here head with_body o)
  known_agree here head with_body None h =
      let one : length (here.functions ++ declares_function here head with_body ∷ []) ≡ length here.functions + 1 = length-append here.functions (declares_function here head with_body ∷ []) in
      let two : length (ds ++ record { here = here; head = head; with_body = with_body } ∷ []) ≡ length ds + 1 = length-append ds (record { here = here; head = head; with_body = with_body } ∷ []) in
      let same : length here.functions ≡ length ds = h.0 in (
        omega (arith, one, two, same),
        further_name (ds ++ record { here = here; head = head; with_body = with_body } ∷ []) here head.name.text (function_entry here head (length here.functions)) (first_named here head with_body same)
            (named_longer ds (record { here = here; head = head; with_body = with_body } ∷ []) here h.1),
      )
  known_agree here head with_body (Some e) h = subst (λ xs. Agree xs (again here head with_body e.meaning)) (sym (append-nil ds)) (again_agree here head with_body e.meaning h)

  head_agree : (here : Scope) (head : Head) (with_body : Bool) → Agree ds here → Agree (ds ++ first_head here head with_body) (behind_head here head with_body)
  head_agree here head with_body h = known_agree here head with_body (found here.names head.name.text) h

  data_agree : (here : Scope) → Agree ds here → Agree (ds ++ []) here
  data_agree here h = subst (λ xs. Agree xs here) (sym (append-nil ds)) h

  item_agree : (here : Scope) (item : UnitItem) → Agree ds here → Agree (ds ++ declared_by here item) (behind_item here item)
  item_agree here (structure_item tag alias attrs members span) h =
      let t = single (type.Structure (length here.structs)) false in
      let there = with_struct (members_behind here [] members) here in
      data_agree (with_named alias (a_type_name t) there) (alias_count there alias t ∙ h.0, further_named ds there alias (a_type_name t) (λ text n is. cc) h.1)
  item_agree here (alias_item name ctype span) h =
      data_agree (with_name name.text (a_type_name (thing_type here ctype)) here) (h.0, further_name ds here name.text (a_type_name (thing_type here ctype)) (λ n is. cc) h.1)
  item_agree here (enumeration_item tag alias values span) h =
      let t = single type.Int false in
      let there = behind_enumerators here (pos 0) values in
      data_agree (with_named alias (a_type_name t) there) (
        alias_count there alias t ∙ (enumerators_count here (pos 0) values ∙ h.0),
        further_named ds there alias (a_type_name t) (λ text n is. cc) (enumerators_named here (pos 0) values h.1),
      )
  item_agree here (global_item d) h =
      data_agree (behind_item here (global_item d)) (h.0, further_name ds here d.name.text (global_entry here d) (λ n is. cc) h.1)
  item_agree here (function_item head) h = head_agree here head false h
  item_agree here (body_item head body close) h = head_agree here head true h

  params_named : (here : Scope) (n : ℕ) (params : List Parameter) → AreNamed ds here → AreNamed ds (inside_params here n params)
  unfolding inside_params
  params_named here n [] h = h
  params_named here n (p ∷ rest) h = params_named (with_param n p here) (suc n) rest (further_named ds here p.name (local_entry here n p.ctype) (λ text m is. cc) h)

-- Where a body begins, all functions that are known have their numbers among those of the unit.
or_begins : (b : Bodied) (all : List Declared) (hit : Bool) (x : Bodied) (other : Option Bodied) → AreNamed all x.here
    → (other ≡ Some b → AreNamed all b.here) → program.or_body hit x other ≡ Some b → AreNamed all b.here
or_begins b all true x other begins later is = subst (λ y. AreNamed all y.here) (some_same is) begins
or_begins b all false x other begins later is = later is

module _ (name : List ℕ) (b : Bodied) where
  by_item : (ds rest : List Declared) (here : Scope) (item : UnitItem) (other : Option Bodied) → Agree ds here
      → (other ≡ Some b → AreNamed (ds ++ (declared_by here item ++ rest)) b.here) → bodied_by name here item other ≡ Some b
      → AreNamed (ds ++ (declared_by here item ++ rest)) b.here
  by_item ds rest here (body_item head body close) other h later is =
      let all = ds ++ (first_head here head true ++ rest) in
      let known : AreNamed ((ds ++ first_head here head true) ++ rest) (behind_head here head true) =
      named_longer (ds ++ first_head here head true) rest (behind_head here head true) (head_agree ds here head true h).1
      in
      or_begins b all (bytes_eq name head.name.text) (record { here = inside here head true; head = head; body = body }) other
      (params_named all (behind_head here head true) 0 head.params
      (subst (λ xs. AreNamed xs (behind_head here head true)) (append_assoc ds (first_head here head true) rest) known))
      later is
  by_item ds rest here (structure_item tag alias attrs members span) other h later is = later is
  by_item ds rest here (alias_item text ctype span) other h later is = later is
  by_item ds rest here (enumeration_item tag alias values span) other h later is = later is
  by_item ds rest here (global_item d) other h later is = later is
  by_item ds rest here (function_item head) other h later is = later is

  body_named : (ds : List Declared) (here : Scope) (items : List UnitItem) → Agree ds here → bodied_function name here items ≡ Some b
      → AreNamed (ds ++ declared_functions here items) b.here
  unfolding bodied_function declared_functions
  body_named ds here [] h is = cc
  body_named ds here (item ∷ rest) h is =
      let there = behind_item here item in
      by_item ds (declared_functions there rest) here item (bodied_function name there rest) h
      (λ later. subst (λ xs. AreNamed xs b.here) (append_assoc ds (declared_by here item) (declared_functions there rest))
      (body_named (ds ++ declared_by here item) there rest (item_agree ds here item h) later))
      is

-- A name that is found is one of the names.
found_step : (callee : List ℕ) (P : List ℕ × Entry → Type 0) (hit : Bool) (key : List ℕ) (x e : Entry) (rest : Option Entry) → bytes_eq callee key ≡ hit
    → P (key, x) → (rest ≡ Some e → P (callee, e)) → (if hit then Some x else rest) ≡ Some e → P (callee, e)
found_step callee P true key x e rest same own later is =
    subst (λ y. P (callee, y)) (some_same is) (subst (λ text. P (text, x)) (sym ((bytes_eq-Decides callee key).0 same)) own)
found_step callee P false key x e rest same own later is = later is

found_named : (callee : List ℕ) (P : List ℕ × Entry → Type 0) (names : List (List ℕ × Entry)) (e : Entry) → All P names → found names callee ≡ Some e → P (callee, e)
found_named callee P [] e h is = cc
found_named callee P ((key, x) ∷ rest) e h is =
    found_step callee P (bytes_eq callee key) key x e (found rest callee) refl (All-head P (key, x) rest h) (found_named callee P rest e (All-tail P (key, x) rest h)) is

-- Locals are no functions: what is known where a body begins is known at each of its points.
module _ (ds : List Declared) where
  local_named : (here : Scope) (d : Declaration) (taken : Bool) → AreNamed ds here → AreNamed ds (further 1 (unless_taken taken d.name.text (locals.local_entry here d) here))
  local_named here d true h = h
  local_named here d false h = further_name ds here d.name.text (locals.local_entry here d) (λ n is. cc) h

  known_number : (k : Known) → AreNamed ds k.here → KnowsNumbers ds k
  known_number k h callee e n known means = by (found k.here.owned callee) refl
    where
      by : (o : Option ThingType) → found k.here.owned callee ≡ o → HasName ds n callee
      by None own = let there : found k.here.names callee ≡ Some e = rw own at known in found_named callee (Named ds) k.here.names e h there n means
      by (Some t) own = let there : Some (record { meaning = meant.Owned; thing = t }) ≡ Some e = rw own at known in cc

pub functions_are_numbered : FunctionsAreNumbered
functions_are_numbered items name b is k d less =
    let ds = declared_functions (outset items) items in
    known_number ds (slice_index_or (known_in_body b.here b.body) k d)
    (each_point (AreNamed ds) (λ here n h. h) (λ here x. local_named ds here x (is_taken x.name.text here)) b.here b.body
    (body_named name b [] (outset items) items (refl, All-nil (Named [])) is) k d less)

pub uses_stand_beside : UsesStandBesidePoints
uses_stand_beside l b =
    length-map (known_in_body b.here b.body) (uses_of l (stable_in (body_in b).stable))
    ∙ sym (length-map (known_in_body b.here b.body) (point_of (thing_type b.here b.head.result).kind))
