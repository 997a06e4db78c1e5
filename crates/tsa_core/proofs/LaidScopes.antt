-- What is known behind each item of a typed unit belongs to the layout so far.
use Rattle.std.proofs.Common.{◌≡◌, ◌∙◌, ℕ, ℤ, zero, suc, ◌<◌, ◌≤◌, arith, pos, ◌+ℤ◌, Bool, true, false, List, [], ◌∷◌, ◌++◌, All}
use Rattle.std.proofs.Common.{slice_index_or, length, map, Option, Some, None, option_map, slice_get, if◌then◌else◌, refl, ap, eq-eqb}
use Rattle.std.proofs.Common.{IfSome}
use Rattle.std.proofs.lemmas.List.{length-append}
use Rattle.std.proofs.lemmas.List.Elements.{All-append, All-cons, All-nil}
use Rattle.std.proofs.lemmas.Map.Entries.{All-lookup}
use Rattle.std.specs.Str.{bytes_eq}
use Rattle.tsa_base.specs.declared.token.Span.{Span}
use Rattle.tsa_tree.specs.declared.meaning.Tag.{Tag}
use Rattle.tsa_tree.specs.declared.meaning.Tag.TheVariants as kept
use Rattle.tsa_tree.specs.declared.kind.Resolved.TheVariants as written
use Rattle.tsa_tree.specs.declarations.Syntax as declared
use Rattle.tsa_tree.specs.declared.kind.Resolved.{Resolved}
use Rattle.tsa_tree.specs.declarations.Syntax.{Declaration, EnumConstant, Head, Initialiser, Base, DeclaredType}
use Rattle.tsa_tree.specs.declared.kind.Declaring.TheVariants as declaring
use Rattle.tsa_tree.specs.declared.kind.Kind.{Kind}
use Rattle.tsa_tree.specs.declared.kind.Kind.TheVariants as type
use Rattle.tsa_tree.specs.declared.kind.ThingType.{ThingType}
use Rattle.tsa_tree.specs.declared.meaning.Entry.{Entry}
use Rattle.tsa_tree.specs.declared.meaning.Meaning.{Meaning}
use Rattle.tsa_tree.specs.declared.meaning.Meaning.TheVariants as meant
use Rattle.tsa_tree.specs.expressions.Syntax.{Identifier}
use Rattle.tsa_tree.specs.types.DeclaredTypes.{is_refused, resolve, thing_type, of_struct, of_enum, of_alias, base_of, qualified}
use Rattle.tsa_tree.specs.types.DeclaredTypes.{declared_as, length_of, with_length}
use Rattle.tsa_tree.specs.types.Enums.{enumerator_entry, enumerator_value, behind_enumerators}
use Rattle.tsa_tree.specs.types.Globals.{global_entry}
use Rattle.tsa_tree.specs.types.Heads.{function_entry, bodied, again, behind_known, behind_head}
use Rattle.tsa_tree.specs.types.Premises.{first}
use Rattle.tsa_tree.specs.types.Runnable.{is_small}
use Rattle.tsa_tree.specs.types.Scopes.{Scope, FunctionEntry, Members, found, with_name, with_named, with_struct, a_type_name, context_of}
use Rattle.tsa_tree.specs.types.Structs.{members_behind}
use Rattle.tsa_tree.specs.types.Types.{single}
use Rattle.tsa_tree.specs.types.Units.{behind_item, item_premises}
use Rattle.tsa_tree.specs.units.Syntax.{UnitItem, structure_item, alias_item, enumeration_item, global_item, function_item, body_item}
use Rattle.tsa_place_model.specs.Calls.{Layout}
use Rattle.tsa_place_model.specs.Layouts.{Part, Structure, Structures, structure_at}
use Rattle.tsa_place_model.specs.Parts.{whole, structure_in}
use Rattle.tsa_place_model.proofs.Standing.{earlier_structure}
use Rattle.tsa_place_model.specs.Items.{known_global, global_part}
use Rattle.tsa_place_model.specs.GlobalPlaces.{with_structure, with_part}
use Rattle.tsa_place_model.specs.Units.{data_placed}
use Rattle.tsa_place_model.proofs.GlobalsInRow.{front_at, last_at, by_last}
use Rattle.tsa_core.proofs.ScopesAlike.{Alike}
use Rattle.tsa_core.proofs.UnitScopes.{part_same, parts_same, struct_told, global_told}

-- the kinds of types that are written
abbrev pub is_written_kind : Kind → Bool
is_written_kind type.Null = false
is_written_kind type.Function = false
is_written_kind _ = true

-- Names that belong to a layout, and to some kinds of locals.
abbrev pub FitsBy : Layout → (ℕ → Option Kind) → Meaning → ThingType → Type 0
FitsBy l locals (meant.Global n) t = option_map (λ part. part.thing) (slice_get l.globals n) ≡ Some t
FitsBy l locals (meant.Local n) t = (locals n ≡ Some t.kind) × (is_small t ≡ true)
FitsBy l locals meant.Owned t = ⊥
FitsBy l locals meant.TypeName t = is_written_kind t.kind ≡ true
FitsBy l locals _ t = Unit {0}

abbrev pub Fits : Layout → (ℕ → Option Kind) → List ℕ × Entry → Type 0
Fits l locals x = FitsBy l locals x.1.meaning x.1.thing

abbrev pub NamesFit : Layout → (ℕ → Option Kind) → Scope → Type 0
NamesFit l locals here = All (Fits l locals) here.names

-- what is written is of such a kind, where names of types are
module _ (l : Layout) (locals : ℕ → Option Kind) (here : Scope) (h : NamesFit l locals here) where
  abbrev IsWritten : Resolved → Type 0
  IsWritten (written.Type t) = is_written_kind t.kind ≡ true
  IsWritten _ = Unit {0}

  alias_written : (span : Span) (o : Option Entry) → IfSome o (λ e. FitsBy l locals e.meaning e.thing) → IsWritten (of_alias span o)
  alias_written span None fits = tt
  alias_written span (Some e) fits = by e.meaning e.thing fits
    where
      by : (m : Meaning) (t : ThingType) → FitsBy l locals m t → IsWritten (of_alias span (Some (record { meaning = m; thing = t })))
      by (meant.Global n) t fits = tt
      by (meant.Local n) t fits = tt
      by (meant.Function n) t fits = tt
      by meant.Owned t fits = tt
      by (meant.Constant z) t fits = tt
      by meant.TypeName t fits = fits

  struct_written : (span : Span) (o : Option Tag) → IsWritten (of_struct span o) × IsWritten (of_enum span o)
  struct_written span None = (tt, tt)
  struct_written span (Some (kept.Structure n)) = (refl, tt)
  struct_written span (Some (kept.Enumeration at)) = (tt, refl)

  base_written : (b : Base) → IsWritten (base_of here b)
  base_written declared.int = refl
  base_written declared.unsigned = refl
  base_written declared.void = refl
  base_written (declared.structure tag) = (struct_written tag.span (found here.tags tag.text)).0
  base_written (declared.enumerated tag) = (struct_written tag.span (found here.tags tag.text)).1
  base_written (declared.alias name) = alias_written name.span (found here.names name.text) (All-lookup (λ e. FitsBy l locals e.meaning e.thing) (bytes_eq name.text) here.names h)

  pointer_written : (c d : Bool) (t : ThingType) → IsWritten (declared_as true c (qualified d (written.Type t)))
  pointer_written c d t = by t.kind t.length t.is_const
    where
      by : (kind : Kind) (length : Option ℕ) (is_const : Bool) → IsWritten (declared_as true c (qualified d (written.Type (record { kind = kind; length = length; is_const = is_const }))))
      by (type.Structure n) length is_const = refl
      by type.Int length is_const = tt
      by type.Unsigned length is_const = tt
      by type.Void length is_const = tt
      by (type.Pointer n e) length is_const = tt
      by type.Null length is_const = tt
      by type.Function length is_const = tt

  whole_written : (pointer c d : Bool) (r : Resolved) → IsWritten r → IsWritten (declared_as pointer c (qualified d r))
  whole_written true c d (written.Type t) is = pointer_written c d t
  whole_written false c d (written.Type t) is = is
  whole_written true c d (written.Unknown span) is = tt
  whole_written false c d (written.Unknown span) is = tt
  whole_written true c d written.Refused is = tt
  whole_written false c d written.Refused is = tt

  with_written : (n : Option ℕ) (r : Resolved) → IsWritten r → is_written_kind (with_length n r).kind ≡ true
  with_written n (written.Type t) is = is
  with_written n (written.Unknown span) is = refl
  with_written n written.Refused is = refl

  pub kind_written : (t : DeclaredType) → is_written_kind (thing_type here t).kind ≡ true
  kind_written t = with_written (length_of (context_of here) t.length) (resolve here t) (whole_written t.pointer t.pointer_const t.base_const (base_of here t.base) (base_written t.base))

-- structs that are defined have the types of their members in order
abbrev pub MembersFit : Layout → Scope → Type 0
MembersFit l here = (n : ℕ) (ms : Members) → slice_get here.structs n ≡ Some ms → map (λ m. m.thing) (structure_at l.structs n).members ≡ map (λ m. m.1) ms

pub record IsLaidOut (here : Scope) (l : Layout) : Type 0 where
  pub long : length here.structs ≡ length l.structs
  pub count : here.globals ≡ length l.globals
  pub members : MembersFit l here
  pub names : (locals : ℕ → Option Kind) → NamesFit l locals here

pub name_fits : (l : Layout) (locals : ℕ → Option Kind) (here : Scope) (name : List ℕ) (e : Entry) → FitsBy l locals e.meaning e.thing → NamesFit l locals here
    → NamesFit l locals (with_name name e here)
name_fits l locals here name e is h = All-append (Fits l locals) here.names ((name, e) ∷ []) h (All-cons (Fits l locals) (name, e) [] is (All-nil (Fits l locals)))

pub named_fits : (l : Layout) (locals : ℕ → Option Kind) (here : Scope) (name : Option Identifier) (e : Entry) → FitsBy l locals e.meaning e.thing → NamesFit l locals here
    → NamesFit l locals (with_named name e here)
named_fits l locals here None e is h = h
named_fits l locals here (Some name) e is h = name_fits l locals here name.text e is h

-- a layout with more parts
pub record Grows (l m : Layout) : Type 0 where
  pub globals : (n : ℕ) (t : ThingType) → option_map (λ part. part.thing) (slice_get l.globals n) ≡ Some t → option_map (λ part. part.thing) (slice_get m.globals n) ≡ Some t
  pub longer : length l.structs ≤ length m.structs
  pub structs : (n : ℕ) → n < length l.structs → structure_at m.structs n ≡ structure_at l.structs n

pub grows_same : (l : Layout) → Grows l l
grows_same l = record { globals = λ n t e. e; longer = omega arith; structs = λ n h. refl }

pub grows_more : (l m o : Layout) → Grows l m → Grows m o → Grows l o
grows_more l m o a b = record {
  globals = λ n t e. b.globals n t (a.globals n t e);
  longer = let x = a.longer in let y = b.longer in omega (arith, x, y);
  structs = λ n h. b.structs n (let x = a.longer in omega (arith, x, h)) ∙ a.structs n h;
}

struct_grows : (s : Structure) (l : Layout) → Grows l (with_structure s l)
struct_grows s l = record { globals = λ n t e. e; longer = omega arith; structs = λ n h. earlier_structure s l.structs n h }

part_grows : (there : Scope) (part : Part) (init : Option Initialiser) (l : Layout) → Grows l (with_part there part init l)
part_grows there part init l = record {
  globals = λ n t e. front n t (slice_get l.globals n) refl e;
  longer = omega arith;
  structs = λ n h. refl;
}
  where
    front : (n : ℕ) (t : ThingType) (o : Option Part) → slice_get l.globals n ≡ o → option_map (λ part. part.thing) o ≡ Some t
        → option_map (λ part. part.thing) (slice_get (l.globals ++ part ∷ []) n) ≡ Some t
    front n t None is e = absurd cc
    front n t (Some p) is e = ap (option_map (λ part. part.thing)) (front_at l.globals (part ∷ []) n p is) ∙ e

pub item_grows : (there : Scope) (l : Layout) (item : UnitItem) → Grows l (data_placed there l item)
item_grows there l (structure_item tag alias attrs members span) = struct_grows (structure_in there members) l
item_grows there l (alias_item name ctype span) = grows_same l
item_grows there l (enumeration_item tag alias values span) = grows_same l
item_grows there l (global_item d) = part_grows (known_global there d) (global_part there d) d.init l
item_grows there l (function_item head) = grows_same l
item_grows there l (body_item head body close) = grows_same l

fits_more : (l m : Layout) (locals : ℕ → Option Kind) → Grows l m → (x : Meaning) (t : ThingType) → FitsBy l locals x t → FitsBy m locals x t
fits_more l m locals g (meant.Global n) t h = g.globals n t h
fits_more l m locals g (meant.Local n) t h = h
fits_more l m locals g (meant.Function n) t h = tt
fits_more l m locals g meant.Owned t h = h
fits_more l m locals g (meant.Constant z) t h = tt
fits_more l m locals g meant.TypeName t h = h

pub names_more : (l m : Layout) (locals : ℕ → Option Kind) (here : Scope) → Grows l m → NamesFit l locals here → NamesFit m locals here
names_more l m locals here g h k d less = fits_more l m locals g (slice_index_or here.names k d).1.meaning (slice_index_or here.names k d).1.thing (h k d less)

within_list : {A : Type 0} (xs : List A) (n : ℕ) (x : A) → slice_get xs n ≡ Some x → n < length xs
within_list [] zero x e = absurd cc
within_list [] (suc n) x e = absurd cc
within_list (y ∷ xs) zero x e = omega arith
within_list (y ∷ xs) (suc n) x e = let h = within_list xs n x e in omega (arith, h)

pub members_more : (l m : Layout) (here : Scope) → length here.structs ≡ length l.structs → Grows l m → MembersFit l here → MembersFit m here
members_more l m here long g h n ms e =
    ap (λ s. map (λ p. p.thing) s.members) (g.structs n (let x = within_list here.structs n ms e in omega (arith, x, long))) ∙ h n ms e

last_structure : (s : Structure) (earlier : Structures) (n : ℕ) → n ≡ length earlier → structure_at (s ∷ earlier) n ≡ s
unfolding structure_at
last_structure s earlier n e = ap (λ b. if b then s else structure_at earlier n) (eq-eqb n (length earlier) e)

-- Behind each item.
module _ (l : Layout) where
  laid_name : (here : Scope) (name : List ℕ) (e : Entry) → ((locals : ℕ → Option Kind) → FitsBy l locals e.meaning e.thing) → IsLaidOut here l → IsLaidOut (with_name name e here) l
  laid_name here name e is h = record { long = h.long; count = h.count; members = h.members; names = λ locals. name_fits l locals here name e (is locals) (h.names locals) }

  laid_named : (here : Scope) (name : Option Identifier) (e : Entry) → ((locals : ℕ → Option Kind) → FitsBy l locals e.meaning e.thing) → IsLaidOut here l → IsLaidOut (with_named name e here) l
  laid_named here None e is h = h
  laid_named here (Some name) e is h = laid_name here name.text e is h

  laid_enumerators : (here : Scope) (next : ℤ) (values : List EnumConstant) → IsLaidOut here l → IsLaidOut (behind_enumerators here next values) l
  unfolding behind_enumerators
  laid_enumerators here next [] h = h
  laid_enumerators here next (e ∷ rest) h =
      let z = enumerator_value here e next in
      laid_enumerators (with_name e.name.text (enumerator_entry z) here) (z +ℤ pos 1) rest (laid_name here e.name.text (enumerator_entry z) (λ locals. tt) h)

  laid_bodied : (here : Scope) (with_body : Bool) (n : ℕ) (f : Option FunctionEntry) → IsLaidOut here l → IsLaidOut (bodied here with_body n f) l
  laid_bodied here with_body n None h = h
  laid_bodied here with_body n (Some f) h = record { long = h.long; count = h.count; members = h.members; names = h.names }

  laid_again : (here : Scope) (head : Head) (with_body : Bool) (m : Meaning) → IsLaidOut here l → IsLaidOut (again here head with_body m) l
  laid_again here head with_body (meant.Function n) h = laid_bodied here with_body n (slice_get here.functions n) h
  laid_again here head with_body (meant.Global n) h = h
  laid_again here head with_body (meant.Local n) h = h
  laid_again here head with_body meant.Owned h = h
  laid_again here head with_body (meant.Constant z) h = h
  laid_again here head with_body meant.TypeName h = h

  laid_known : (here : Scope) (head : Head) (with_body : Bool) (o : Option Entry) → IsLaidOut here l → IsLaidOut (behind_known here head with_body o) l
  laid_known here head with_body (Some e) h = laid_again here head with_body e.meaning h
  laid_known here head with_body None h = record {
    long = h.long;
    count = h.count;
    members = h.members;
    names = λ locals. name_fits l locals here head.name.text (function_entry here head (length here.functions)) tt (h.names locals);
  }

  pub laid_head : (here : Scope) (head : Head) (with_body : Bool) → IsLaidOut here l → IsLaidOut (behind_head here head with_body) l
  laid_head here head with_body h = laid_known here head with_body (found here.names head.name.text) h

  laid_struct : (here : Scope) (ms : Members) (s : Structure) → map (λ m. m.thing) s.members ≡ map (λ m. m.1) ms → IsLaidOut here l → IsLaidOut (with_struct ms here) (with_structure s l)
  laid_struct here ms s same h = record {
    long = let one = length-append here.structs (ms ∷ []) in let long = h.long in omega (arith, one, long);
    count = h.count;
    members = λ n other e.
        by_last here.structs ms n other e
        (λ front. members_more l (with_structure s l) here h.long (struct_grows s l) h.members n other front)
        (λ number is. ap (λ x. map (λ m. m.thing) x.members) (last_structure s l.structs n (number ∙ h.long)) ∙ same ∙ ap (map (λ m. m.1)) is);
    names = λ locals. h.names locals;
  }

  laid_global : (here there : Scope) (d : Declaration) → Alike here there → is_refused here declaring.Thing (resolve here d.ctype) ≡ false → IsLaidOut here l
      → IsLaidOut (behind_item here (global_item d)) (data_placed there l (global_item d))
  laid_global here there d alike whole h =
      let part = global_part there d in
      let m = with_part (known_global there d) part d.init l in
      let thing : part.thing ≡ thing_type here d.ctype = part_same here there alike d.ctype whole in
      record {
        long = h.long;
        count = let one = length-append l.globals (part ∷ []) in let count = h.count in omega (arith, one, count);
        members = h.members;
        names = λ locals.
            name_fits m locals here d.name.text (global_entry here d)
            (ap (λ n. option_map (λ p. p.thing) (slice_get (l.globals ++ part ∷ []) n)) h.count ∙ ap (option_map (λ p. p.thing)) (last_at l.globals part) ∙ ap (λ t. Some t) thing)
            (names_more l m locals here (part_grows (known_global there d) part d.init l) (h.names locals));
      }

  pub item_laid : (here there : Scope) (item : UnitItem) → Alike here there → first (item_premises here item) ≡ None → IsLaidOut here l → IsLaidOut (behind_item here item) (data_placed there l item)
  item_laid here there (structure_item tag alias attrs members span) alike h laid =
      let told = struct_told here tag alias attrs members span h in
      let ms = members_behind here [] members in
      let s = structure_in there members in
      laid_alias ms s (laid_struct here ms s (parts_same here there alike [] [] members told.1) laid)
    where
      laid_alias : (ms : Members) (s : Structure) → IsLaidOut (with_struct ms here) (with_structure s l)
          → IsLaidOut (with_named alias (a_type_name (single (type.Structure (length here.structs)) false)) (with_struct ms here)) (with_structure s l)
      laid_alias ms s x = by alias
        where
          by : (name : Option Identifier) → IsLaidOut (with_named name (a_type_name (single (type.Structure (length here.structs)) false)) (with_struct ms here)) (with_structure s l)
          by None = x
          by (Some name) = record {
            long = x.long;
            count = x.count;
            members = x.members;
            names = λ locals. name_fits (with_structure s l) locals (with_struct ms here) name.text (a_type_name (single (type.Structure (length here.structs)) false)) refl (x.names locals);
          }
  item_laid here there (alias_item name ctype span) alike h laid = laid_name here name.text (a_type_name (thing_type here ctype)) (λ locals. kind_written l locals here (laid.names locals) ctype) laid
  item_laid here there (enumeration_item tag alias values span) alike h laid =
      laid_named (behind_enumerators here (pos 0) values) alias (a_type_name (single type.Int false)) (λ locals. refl) (laid_enumerators here (pos 0) values laid)
  item_laid here there (global_item d) alike h laid = laid_global here there d alike (global_told here d h).1 laid
  item_laid here there (function_item head) alike h laid = laid_head here head false laid
  item_laid here there (body_item head body close) alike h laid = laid_head here head true laid
