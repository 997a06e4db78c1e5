-- Behind each item of a typed unit the cells so far hold values of their kinds at the start.
use Rattle.std.proofs.Common.{◌≡◌, ◌∙◌, ℕ, zero, suc, ◌<◌, arith, nat_eq, Bool, true, false, not, All, IfSome, List, [], ◌∷◌, ◌++◌, length}
use Rattle.std.proofs.Common.{slice_index_or, Option, Some, None, is_some, option_map, slice_get, refl, sym, ap, subst}
use Rattle.std.proofs.Common.{if◌then◌else◌}
use Rattle.std.proofs.lemmas.List.Elements.{All-append, All-cons, All-nil}
use Rattle.std.proofs.lemmas.Map.Entries.{All-lookup}
use Rattle.std.specs.Str.{bytes_eq}
use Rattle.tsa_base.proofs.Truths.{never}
use Rattle.tsa_tree.specs.declarations.Syntax.{Declaration, DeclaredType, Initialiser}
use Rattle.tsa_tree.specs.declared.kind.Declaring.TheVariants as declaring
use Rattle.tsa_tree.specs.declared.kind.Kind.{Kind}
use Rattle.tsa_tree.specs.declared.kind.Kind.TheVariants as type
use Rattle.tsa_tree.specs.declared.kind.Resolved.{Resolved}
use Rattle.tsa_tree.specs.declared.kind.Resolved.TheVariants as written
use Rattle.tsa_tree.specs.declared.kind.ThingType.{ThingType}
use Rattle.tsa_tree.specs.declared.meaning.Entry.{Entry}
use Rattle.tsa_tree.specs.declared.meaning.Meaning.{Meaning}
use Rattle.tsa_tree.specs.declared.meaning.Meaning.TheVariants as meant
use Rattle.tsa_tree.specs.declared.premise.Bearer.TheVariants as on
use Rattle.tsa_tree.specs.expressions.Sound.{all_words}
use Rattle.tsa_tree.specs.types.Attributes.{attributes_premises}
use Rattle.tsa_tree.specs.types.DeclaredTypes.{is_whole, is_nothing, may_be, is_refused, resolve, length_of, length_premises}
use Rattle.tsa_tree.specs.types.DeclaredTypes.{typed_premises, declared_premises, with_length, thing_type}
use Rattle.tsa_tree.specs.types.Globals.{global_entry, global_init, global_premises, inside_global, with_global, bearer_of}
use Rattle.tsa_tree.specs.types.Premises.{first}
use Rattle.tsa_tree.specs.types.Scopes.{Scope, Members, found, context_of, known_in, with_name, with_owned, is_taken}
use Rattle.tsa_tree.specs.types.Structs.{with_member, member_premises, members_premises}
use Rattle.tsa_tree.specs.types.Units.{item_premises, items_premises, behind_item}
use Rattle.tsa_tree.specs.units.Sound.{SpellableItem, SpellableItems}
use Rattle.tsa_tree.specs.units.Syntax.{UnitItem, structure_item, alias_item, enumeration_item, global_item, function_item}
use Rattle.tsa_tree.specs.units.Syntax.{body_item}
use Rattle.tsa_place_model.specs.declared.place.Placed.{Placed}
use Rattle.tsa_place_model.specs.Calls.{Layout}
use Rattle.tsa_place_model.specs.Layouts.{Part, Structure, Structures, structure_at}
use Rattle.tsa_place_model.specs.Parts.{member_behind, parts_behind, part_in, structure_in, unless}
use Rattle.tsa_place_model.specs.Places.{item_of, places_of}
use Rattle.tsa_place_model.proofs.Below.{part_within}
use Rattle.tsa_place_model.proofs.Standing.{earlier_structure}
use Rattle.tsa_place_model.specs.Items.{known_global, global_part, behind_data}
use Rattle.tsa_place_model.specs.GlobalPlaces.{values_in, given_by}
use Rattle.tsa_place_model.specs.Units.{data_placed, laid_behind}
use Rattle.tsa_place_model.proofs.GlobalsInRow as laid
use Rattle.tsa_place_model.proofs.GlobalsInRow.{IsLaid, front_at}
use Rattle.tsa_place_model.proofs.Pieces.{some_at}
use Rattle.tsa_core.specs.Kinds.{Setting, Belongs}
use Rattle.tsa_core.proofs.KindTests.{both_true, not_false, not_true}
use Rattle.tsa_core.proofs.KindsOfTerms.{part_at}
use Rattle.tsa_core.proofs.LaidScopes as scopes
use Rattle.tsa_core.proofs.LaidScopes.{FitsBy, NamesFit, IsLaidOut, is_written_kind, kind_written}
use Rattle.tsa_core.proofs.MappedLists.{map_at}
use Rattle.tsa_core.proofs.NoFailure.{none_of_both}
use Rattle.tsa_core.proofs.ScopesAlike.{Alike, known_found}
use Rattle.tsa_core.proofs.TypedTerms.{some_same}
use Rattle.tsa_core.proofs.UnitScopes.{part_same, declared_told, struct_told, global_told, item_alike}
use Rattle.tsa_path.proofs.StandDeclared.{Heads, item_heads}
use Rattle.tsa_profile.proofs.CellsFit.{Allows, init_good}
use Rattle.tsa_profile.proofs.ConstantPlaces.{Around, Extends, has_member}
use Rattle.tsa_profile.proofs.EndingScopes.{data_behind}
use Rattle.tsa_profile.specs.Arguments.{behind_items}
use Rattle.tsa_profile.proofs.EachPlace.{Every, Serves, every_append, every_more, places_every}
use Rattle.tsa_profile.proofs.GoodValues.{is_data, GoodCell, good_more}
use Rattle.tsa_profile.proofs.InitialisersFit.{AllowedInit, Fit, element_fits, member_fits}
use Rattle.tsa_profile.proofs.SmallNames.{Plain, item_plain, taken_plain}

-- what is declared is a number, a pointer, or a struct object
data_by : (kind : Kind) → is_written_kind kind ≡ true → is_nothing kind ≡ false → is_data kind ≡ true
data_by type.Int e f = refl
data_by type.Unsigned e f = refl
data_by (type.Pointer n c) e f = refl
data_by (type.Structure n) e f = refl
data_by type.Void e f = never f
data_by type.Null e f = never (sym e)
data_by type.Function e f = never (sym e)

something : (here : Scope) (n : Option ℕ) (r : Resolved) → is_refused here declaring.Thing r ≡ false → is_nothing (with_length n r).kind ≡ false
something here n (written.Type t) e = not_true (is_nothing t.kind) (both_true (not (is_nothing t.kind)) (is_whole here t.kind) (not_false (may_be here declaring.Thing t.kind) e)).0
something here n (written.Unknown span) e = refl
something here n written.Refused e = never e

abbrev no_kinds : ℕ → Option Kind
no_kinds n = None

thing_data : (here : Scope) (l : Layout) (t : DeclaredType) → NamesFit l no_kinds here → is_refused here declaring.Thing (resolve here t) ≡ false → is_data (thing_type here t).kind ≡ true
thing_data here l t names e = data_by (thing_type here t).kind (kind_written l no_kinds here names t) (something here (length_of (context_of here) t.length) (resolve here t) e)

abbrev AllData : List Part → Type 0
AllData ms = (k : ℕ) (m : Part) → slice_get ms k ≡ Some m → is_data m.thing.kind ≡ true

-- the members of structs are such
abbrev DataStructs : Structures → Type 0
DataStructs structs = (n : ℕ) → AllData (structure_at structs n).members

no_data : AllData []
no_data zero m e = absurd cc
no_data (suc k) m e = absurd cc

one_data : (x : Part) (ms : List Part) → is_data x.thing.kind ≡ true → AllData ms → AllData (x ∷ ms)
one_data x ms is h zero m e = ap (λ y. is_data y.thing.kind) (sym (some_same e)) ∙ is
one_data x ms is h (suc k) m e = h k m e

module _ (here there : Scope) (l : Layout) (alike : Alike here there) (names : NamesFit l no_kinds here) where
  parts_data : (before known : Members) (decls : List Declaration) → first (members_premises here before decls) ≡ None → AllData (parts_behind there known decls)
  unfolding members_premises parts_behind
  parts_data before known [] h = no_data
  parts_data before known (d ∷ rest) h =
      let both = none_of_both (member_premises here before d) (members_premises here (with_member here before d) rest) h in
      let told =
      declared_told here declaring.Thing (is_some (found before d.name.text)) d.span d.ctype
      (none_of_both (declared_premises here declaring.Thing (is_some (found before d.name.text)) d.span d.ctype) (attributes_premises (with_owned before here) on.Member d.attrs) both.0).0 in
      one_data (part_in there (with_owned known there) d) (parts_behind there (member_behind there known d) rest)
      (ap (λ t. is_data t.kind) (part_same here there alike d.ctype told.1) ∙ thing_data here l d.ctype names told.1)
      (parts_data (with_member here before d) (member_behind there known d) rest both.1)

structs_data : (s : Structure) (earlier : Structures) → AllData s.members → DataStructs earlier → DataStructs (s ∷ earlier)
unfolding structure_at
structs_data s earlier own h n = by (nat_eq n (length earlier))
  where
    by : (b : Bool) → AllData (if b then s else structure_at earlier n).members
    by true = own
    by false = h n

pub no_structs_data : DataStructs []
unfolding structure_at
no_structs_data n = no_data

-- a unit goes on with what is declared so far
pub extends_same : (l : Layout) → Extends l l
extends_same l = record { globals = λ n part e. e; longer = omega arith; structs = λ n h. refl }

extends_more : (l m o : Layout) → Extends l m → Extends m o → Extends l o
extends_more l m o a b = record {
  globals = λ n part e. b.globals n part (a.globals n part e);
  longer = let x = a.longer in let y = b.longer in omega (arith, x, y);
  structs = λ n h. b.structs n (let x = a.longer in omega (arith, x, h)) ∙ a.structs n h;
}

item_extends : (there : Scope) (l : Layout) (item : UnitItem) → Extends l (data_placed there l item)
item_extends there l (structure_item tag alias attrs members span) =
    record { globals = λ n part e. e; longer = omega arith; structs = λ n h. earlier_structure (structure_in there members) l.structs n h }
item_extends there l (alias_item name ctype span) = extends_same l
item_extends there l (enumeration_item tag alias values span) = extends_same l
item_extends there l (global_item d) = record {
  globals = λ n part e. front_at l.globals (global_part there d ∷ []) n part e;
  longer = omega arith;
  structs = λ n h. refl;
}
item_extends there l (function_item head) = extends_same l
item_extends there l (body_item head body close) = extends_same l

items_extend : (items : List UnitItem) (there : Scope) (l whole : Layout) → laid_behind there l items ≡ whole → Extends l whole
unfolding laid_behind
items_extend [] there l whole e = subst (Extends l) e (extends_same l)
items_extend (item ∷ rest) there l whole e =
    extends_more l (data_placed there l item) whole (item_extends there l item) (items_extend rest (behind_data there item) (data_placed there l item) whole e)

module _ (free : Placed → Bool) (whole : Layout) where
  -- what is asked of the initialisers of a unit
  abbrev pub AllowedItem : Scope → UnitItem → Type 0
  AllowedItem here (global_item d) = AllowedInit (Allows free whole (with_global here d)) d.init
  AllowedItem here item = Unit {0}

  abbrev pub AllowedAll : Scope → List UnitItem → Type 0
  AllowedAll here [] = Unit {0}
  AllowedAll here (item ∷ rest) = AllowedItem here item × AllowedAll (behind_item here item) rest

  -- what holds behind items
  pub record State (here there : Scope) (l : Layout) : Type 0 where
    pub alike : Alike here there
    pub out : IsLaidOut here l
    pub laid : IsLaid l
    pub heads : Heads l
    pub plain : Plain there
    pub members : DataStructs l.structs
    pub good : Every (GoodCell free l.places) l.places

  module _ (here there : Scope) (l : Layout) (s : State here there l) where
    -- the names before a global
    abbrev IsEarlier : Entry → Type 0
    IsEarlier e = (n : ℕ) → e.meaning ≡ meant.Global n → n < here.globals → option_map (λ part. part.thing) (slice_get l.globals n) ≡ Some e.thing

    is_earlier_by : (m : Meaning) (t : ThingType) → FitsBy l no_kinds m t → IsEarlier (record { meaning = m; thing = t })
    is_earlier_by m t h n is less = subst (λ x. FitsBy l no_kinds x t) is h

    names_earlier : All (λ x. IsEarlier x.1) here.names
    names_earlier k d less = let x = slice_index_or here.names k d in is_earlier_by x.1.meaning x.1.thing (s.out.names no_kinds k d less)

    number_of : (n m : ℕ) → meant.Global n ≡ meant.Global m → n ≡ m
    number_of n m e = cc

    found_fits : (name : List ℕ) (e : Entry) → known_in here name ≡ Some e → FitsBy l no_kinds e.meaning e.thing
    found_fits name e is =
        by (found here.names name) (sym (known_found here name s.alike.owned) ∙ is) (All-lookup (λ x. FitsBy l no_kinds x.meaning x.thing) (bytes_eq name) here.names (s.out.names no_kinds))
      where
        by : (o : Option Entry) → o ≡ Some e → IfSome o (λ x. FitsBy l no_kinds x.meaning x.thing) → FitsBy l no_kinds e.meaning e.thing
        by None is fits = absurd cc
        by (Some x) is fits = subst (λ y. FitsBy l no_kinds y.meaning y.thing) (some_same is) fits

    abbrev setting : Setting
    setting = record { layout = l; locals = no_kinds; answer = None }

    belongs : Belongs here setting
    belongs = record {
      global_is = λ name e n is means. subst (λ m. FitsBy l no_kinds m e.thing) means (found_fits name e is);
      local_is = λ name e n is means. subst (λ m. FitsBy l no_kinds m e.thing) means (found_fits name e is);
      members_are = s.out.members;
      none_owned = λ name e is means. subst (λ m. FitsBy l no_kinds m e.thing) means (found_fits name e is);
    }

    -- what an expression behind it sees
    pub ending : Extends l whole → Around here there l whole here.globals
    ending extends = record {
      alike = s.alike;
      globals = λ name n t is less. found_fits name (record { meaning = meant.Global n; thing = t }) is;
      members = λ struct name j t e. part_at here setting belongs struct name j t e;
      laid = s.laid;
      heads = s.heads;
      extends = extends;
    }

    own_earlier : (d : Declaration) → IsEarlier (global_entry here d)
    own_earlier d n is less = let same = number_of here.globals n is in absurd (omega (arith, same, less))

    module _ (d : Declaration) (h : first (global_premises here d) ≡ None) where
      abbrev inner : Scope
      inner = with_global here d

      abbrev outer : Scope
      outer = known_global there d

      abbrev part : Part
      part = global_part there d

      inner_alike : Alike inner outer
      inner_alike =
          let x = item_alike here there (global_item d) s.alike h in
          record { tags = x.tags; structs = x.structs; owned = x.owned; no_owned = x.no_owned; globals = alike_globals; names = x.names }
        where
          kept : (b : Bool) → (unless b there (with_name d.name.text (global_entry there d) there)).globals ≡ there.globals
          kept true = refl
          kept false = refl

          alike_globals : outer.globals ≡ inner.globals
          alike_globals = kept (is_taken d.name.text there) ∙ s.alike.globals

      part_is : part.thing ≡ thing_type here d.ctype
      part_is = part_same here there s.alike d.ctype (global_told here d h).1

      -- a name that is known there is that of an earlier global, or the global's own
      found_earlier : (name : List ℕ) (n : ℕ) (t : ThingType) → known_in inner name ≡ Some (record { meaning = meant.Global n; thing = t }) → n < here.globals
          → option_map (λ part. part.thing) (slice_get l.globals n) ≡ Some t
      found_earlier name n t is less =
          by (found inner.names name) (sym (known_found inner name inner_alike.owned) ∙ is)
          (All-lookup IsEarlier (bytes_eq name) inner.names
          (All-append (λ x. IsEarlier x.1) here.names ((d.name.text, global_entry here d) ∷ []) names_earlier
          (All-cons (λ x. IsEarlier x.1) (d.name.text, global_entry here d) [] (own_earlier d) (All-nil (λ x. IsEarlier x.1)))))
        where
          by : (o : Option Entry) → o ≡ Some (record { meaning = meant.Global n; thing = t }) → IfSome o IsEarlier → option_map (λ part. part.thing) (slice_get l.globals n) ≡ Some t
          by None e fits = absurd cc
          by (Some x) e fits =
              let same = some_same e in
              fits n (ap (λ y. y.meaning) same) less ∙ ap (λ y. Some y.thing) same

      around : Extends l whole → Around inner outer l whole here.globals
      around extends = record {
        alike = inner_alike;
        globals = found_earlier;
        members = λ struct name j t e. part_at here setting belongs struct name j t e;
        laid = s.laid;
        heads = s.heads;
        extends = extends;
      }

      init_told : first (global_init inner here.globals (thing_type here d.ctype) d.init) ≡ None
      unfolding inside_global
      init_told =
          let t = thing_type here d.ctype in
          let both = none_of_both (typed_premises here declaring.Thing (is_taken d.name.text here) d.span d.ctype) (inside_global inner here.globals t d) h in
          let rest = none_of_both (length_premises (context_of inner) d.ctype.length) (attributes_premises inner (bearer_of inner t) d.attrs ++ global_init inner here.globals t d.init) both.1 in
          (none_of_both (attributes_premises inner (bearer_of inner t) d.attrs) (global_init inner here.globals t d.init) rest.1).1

      module _ (sound : SpellableItem (global_item d)) (allowed : AllowedItem here (global_item d)) (extends : Extends l whole) where
        abbrev F : ThingType → Option Initialiser → Type 0
        F t init = Fit inner here.globals all_words (Allows free whole inner) t init

        own_fits : F part.thing d.init
        own_fits =
            subst (λ t. F t d.init) (sym part_is)
            (record { declared = thing_data here l d.ctype (s.out.names no_kinds) (global_told here d h).1; premises = init_told; sound = sound.2; allowed = allowed })

        serves_member : (t : ThingType) (n k : ℕ) (m : Part) (init : Option Initialiser) → t.length ≡ None → t.kind ≡ type.Structure n
            → slice_get (structure_at l.structs n).members k ≡ Some m → F t init → F m.thing (item_of init k)
        serves_member t n k m init one kind at fit =
            let less = has_member l.structs n k m at in
            let long = s.out.long in
            let ms = some_at here.structs n (omega (arith, less, long)) in
            member_fits inner here.globals all_words (Allows free whole inner) t n k m.thing ms.0 init one kind ms.1
            (sym (ap (λ xs. slice_get xs k) (s.out.members n ms.0 ms.1)) ∙ map_at (λ m. m.thing) (structure_at l.structs n).members k ∙ ap (option_map (λ m. m.thing)) at)
            (s.members n k m at) fit

        serves : Serves l.structs (values_in outer l) (GoodCell free l.places) F
        serves = record {
          piece = λ g index t one fit plain.
              init_good inner outer l whole here.globals (around extends) (taken_plain there d.name.text (global_entry there d) tt s.plain) all_words free t g.init one plain fit;
          element = λ t n k init long less fit. element_fits inner here.globals all_words (Allows free whole inner) t n k init long less fit;
          member = serves_member;
        }

        abbrev new : List Placed
        new = places_of l.structs (values_in outer l) (given_by part (length l.globals) d.init) (length l.places) part.thing

        new_good : Every (GoodCell free l.places) new
        new_good =
            places_every l.structs s.laid.ordered (values_in outer l) (GoodCell free l.places) F serves (given_by part (length l.globals) d.init) (length l.places) part.thing
            (part_within there outer d (length l.structs) part long refl).0 own_fits
          where
            long : length there.structs ≡ length l.structs
            long = ap length s.alike.structs ∙ s.out.long

        all_good : Every (GoodCell free (l.places ++ new)) (l.places ++ new)
        all_good =
            let more : (p : Placed) → GoodCell free l.places p → GoodCell free (l.places ++ new) p = λ p cell plain. good_more free l.places new p.kind p.initial (cell plain) in
            every_append (GoodCell free (l.places ++ new)) l.places new (every_more (GoodCell free l.places) (GoodCell free (l.places ++ new)) l.places more s.good)
            (every_more (GoodCell free l.places) (GoodCell free (l.places ++ new)) new more new_good)

    item_data : (item : UnitItem) → first (item_premises here item) ≡ None → DataStructs (data_placed there l item).structs
    item_data (structure_item tag alias attrs members span) h =
        structs_data (structure_in there members) l.structs
        (parts_data here there l s.alike (s.out.names no_kinds) [] [] members (struct_told here tag alias attrs members span h).1) s.members
    item_data (alias_item name ctype span) h = s.members
    item_data (enumeration_item tag alias values span) h = s.members
    item_data (global_item d) h = s.members
    item_data (function_item head) h = s.members
    item_data (body_item head body close) h = s.members

    item_good : (item : UnitItem) → first (item_premises here item) ≡ None → SpellableItem item → AllowedItem here item → Extends l whole
        → Every (GoodCell free (data_placed there l item).places) (data_placed there l item).places
    item_good (structure_item tag alias attrs members span) h sound allowed extends = s.good
    item_good (alias_item name ctype span) h sound allowed extends = s.good
    item_good (enumeration_item tag alias values span) h sound allowed extends = s.good
    item_good (global_item d) h sound allowed extends = all_good d h sound allowed extends
    item_good (function_item head) h sound allowed extends = s.good
    item_good (body_item head body close) h sound allowed extends = s.good

    goes_on : (item : UnitItem) → first (item_premises here item) ≡ None → SpellableItem item → AllowedItem here item → Extends l whole
        → State (behind_item here item) (behind_data there item) (data_placed there l item)
    goes_on item h sound allowed extends = record {
      alike = item_alike here there item s.alike h;
      out = scopes.item_laid l here there item s.alike h s.out;
      laid = laid.item_laid there l item (ap length s.alike.structs ∙ s.out.long) s.laid;
      heads = item_heads there l item s.heads;
      plain = item_plain there item s.plain;
      members = item_data item h;
      good = item_good item h sound allowed extends;
    }

  pub last_state : (items : List UnitItem) (here there : Scope) (l : Layout) → State here there l → first (items_premises here items) ≡ None → SpellableItems items
      → AllowedAll here items → laid_behind there l items ≡ whole → State (behind_items here items) (data_behind there items) whole
  unfolding items_premises laid_behind behind_items
  last_state [] here there l s h sound allowed e = subst (λ m. State here there m) e s
  last_state (item ∷ rest) here there l s h sound allowed e =
      let both = none_of_both (item_premises here item) (items_premises (behind_item here item) rest) h in
      last_state rest (behind_item here item) (behind_data there item) (data_placed there l item)
      (goes_on here there l s item both.0 sound.0 allowed.0
      (extends_more l (data_placed there l item) whole (item_extends there l item) (items_extend rest (behind_data there item) (data_placed there l item) whole e)))
      both.1 sound.1 allowed.1 e

  pub all_cells : (items : List UnitItem) (here there : Scope) (l : Layout) → State here there l → first (items_premises here items) ≡ None → SpellableItems items
      → AllowedAll here items → laid_behind there l items ≡ whole → Every (GoodCell free whole.places) whole.places
  all_cells items here there l s h sound allowed e = (last_state items here there l s h sound allowed e).good
