-- Units with their places: the texts of all, where guards lead, what is const or addressable, values at the start, and where the limit is
-- passed.
use Rattle.std.specs.Prelude.{◌≡◌, ℕ, suc, pos, negsuc, Bool, true, false, List, [], ◌∷◌, ◌++◌, Option, Some, None, Result, Ok, Err, map}
use Rattle.std.specs.Prelude.{length, codes}
use Rattle.std.specs.Fmt.{decimal}
use Rattle.tsa_base.specs.Tokens.{tokens_of}
use Rattle.tsa_base.specs.declared.token.Span.{Span}
use Rattle.tsa_base.specs.declared.value.Value.{Value}
use Rattle.tsa_base.specs.declared.value.Value.TheVariants.{Int, Unsigned, Pointer}
use Rattle.tsa_tree.specs.declared.kind.Kind.TheVariants as type
use Rattle.tsa_tree.specs.types.Texts.{unit_in}
use Rattle.tsa_place_model.specs.Calls.{Layout, text_of, guards_of, is_addressable}
use Rattle.tsa_place_model.specs.declared.place.Guard.{Guard}
use Rattle.tsa_place_model.specs.declared.place.Guard.TheVariants.{Lock, Nothing}
use Rattle.tsa_place_model.specs.declared.place.Placed.{Placed}
use Rattle.tsa_place_model.specs.Stores.{is_value_of}
use Rattle.tsa_place_model.specs.GlobalPlaces.{no_places}
use Rattle.tsa_place_model.specs.Units.{placed_in}

-- the places of a text that is a unit, or the byte at which there are too many
abbrev pub placed : List ℕ → Result Layout Span
placed text = placed_in (unit_in (tokens_of text))

abbrev layout_or_none : Result Layout Span → Layout
layout_or_none (Ok l) = l
layout_or_none (Err span) = no_places

abbrev pub layout : List ℕ → Layout
layout text = layout_or_none (placed text)

-- what is said of the places from one of a number on
abbrev numbers : ℕ → List Placed → List ℕ
numbers n [] = []
numbers n (p ∷ rest) = n ∷ numbers (suc n) rest

-- the texts of all places, each with a blank behind it
abbrev texts_in : Layout → List ℕ → List ℕ
texts_in l [] = []
texts_in l (n ∷ rest) = text_of l n ++ (codes " " ++ texts_in l rest)

abbrev pub texts : List ℕ → List ℕ
texts text = texts_in (layout text) (numbers 0 (layout text).places)

abbrev pub text : List ℕ → ℕ → List ℕ
text unit place = text_of (layout unit) place

abbrev pub guards : List ℕ → ℕ → List Guard
guards text place = guards_of (layout text) place

abbrev pub consts : List ℕ → List Bool
consts text = map (λ p. p.is_const) (layout text).places

abbrev pub addressables : List ℕ → List Bool
addressables text = map is_addressable (layout text).places

abbrev pub initials : List ℕ → List Value
initials text = map (λ p. p.initial) (layout text).places

abbrev byte_of : Result Layout Span → Option ℕ
byte_of (Ok l) = None
byte_of (Err span) = Some span.from

abbrev pub too_many : List ℕ → Option ℕ
too_many text = byte_of (placed text)

abbrev lock : List ℕ
lock = codes "struct CAPABILITY(\"m\") l { int s; };"

-- two accounts, each with a lock of its own
abbrev accounts : List ℕ
accounts = lock ++ codes "struct a { struct l mu; int n GUARDED_BY(mu); }; struct a b[2];"

-- a lock behind a pointer that never changes, set and not set
abbrev behind_pointers : List ℕ
behind_pointers = lock ++ codes "struct l m; struct a { struct l *const p; int n GUARDED_BY(p); int k GUARDED_BY(*p); }; struct a v = { &m }; struct a w;"

-- the same behind one that may change
abbrev behind_variables : List ℕ
behind_variables = lock ++ codes "struct l m; struct a { struct l *p; int n GUARDED_BY(p); }; struct a v = { &m };"

-- along members and elements, and out of an array
abbrev along : List ℕ
along = lock ++ codes "struct i { struct l c; }; struct o { struct i b[3]; int n GUARDED_BY(b[2].c); int k GUARDED_BY(b[3].c); }; struct o a;"

-- guards of globals, of members in them, and the order of both
abbrev nested : List ℕ
nested = lock ++ codes "struct l m, k; struct t { int x GUARDED_BY(k); struct l in; int y GUARDED_BY(in) GUARDED_BY(m); }; struct t g GUARDED_BY(m);"

-- objects to which pointers may point, or may not
abbrev objects : List ℕ
objects = lock ++ codes "struct s { int x; }; struct t { int y; }; struct l m; struct s v; const struct s w; struct s a[2]; struct t u; struct s g GUARDED_BY(m);"

-- whether a pointer to `struct s`, to const or not, may hold the address of a place of theirs
abbrev may_hold : Bool → ℕ → Bool
may_hold to_const place = is_value_of (layout objects) (type.Pointer 1 to_const) (Pointer (Some place))

pub record PlacesAreListed : Type 0 where
  pub accounts_count : length (layout accounts).places ≡ 8
  pub element_text : text accounts 4 ≡ codes "b[" ++ (decimal 1 ++ codes "]")
  pub member_text : text accounts 7 ≡ codes "b[" ++ ((decimal 1 ++ codes "]") ++ codes ".n")
  pub own_lock : guards accounts 7 ≡ Lock 5 ∷ []
  pub first_lock : guards accounts 3 ≡ Lock 1 ∷ []
  pub unguarded : guards accounts 6 ≡ []
  pub guarded_aside : addressables accounts ≡ true ∷ true ∷ false ∷ false ∷ true ∷ true ∷ false ∷ false ∷ []
  pub pointer_texts : texts behind_pointers ≡ codes "m m.s v v.p v.n v.k w w.p w.n w.k "
  pub pointer_set : guards behind_pointers 4 ≡ Lock 0 ∷ []
  pub pointer_followed : guards behind_pointers 5 ≡ Lock 0 ∷ []
  pub pointer_not_set : guards behind_pointers 8 ≡ Nothing ∷ []
  pub pointer_consts : consts behind_pointers ≡ false ∷ false ∷ false ∷ true ∷ false ∷ false ∷ false ∷ true ∷ false ∷ false ∷ []
  pub no_path : guards behind_variables 4 ≡ Nothing ∷ []
  pub along_count : length (layout along).places ≡ 12
  pub along_text : text along 9 ≡ codes "a.b[" ++ (((decimal 2 ++ codes "]") ++ codes ".c") ++ codes ".s")
  pub along_members : guards along 10 ≡ Lock 8 ∷ []
  pub out_of_range : guards along 11 ≡ Nothing ∷ []
  pub global_and_member : guards nested 5 ≡ Lock 0 ∷ Lock 2 ∷ []
  pub members_in_order : guards nested 8 ≡ Lock 0 ∷ Lock 6 ∷ Lock 0 ∷ []
  pub inside_guarded : addressables nested ≡ true ∷ false ∷ true ∷ false ∷ false ∷ false ∷ false ∷ false ∷ false ∷ []
  pub element_guard : guards (lock ++ codes "struct l m[2]; int g GUARDED_BY(m[1]); int h GUARDED_BY(&m[0]);") 4 ≡ Lock 2 ∷ []
  pub address_guard : guards (lock ++ codes "struct l m[2]; int g GUARDED_BY(m[1]); int h GUARDED_BY(&m[0]);") 5 ≡ Lock 0 ∷ []
  pub const_by_an_alias : consts (codes "struct s { int x; }; typedef struct s *P; const P p; const struct s *q; const struct s v; const int a[2];")
      ≡ true ∷ false ∷ true ∷ true ∷ true ∷ true ∷ []
  pub values : initials (codes "enum { E = 3 }; int a = -1; unsigned u = -1; int b = E; struct s { int x; unsigned y; }; struct s v[2] = { { 1 }, { 2, 3 } }; struct s *p = &v[1], *q = NULL, *r = 0;")
      ≡ Int (negsuc 0) ∷ Unsigned 4294967295 ∷ Int (pos 3) ∷ Pointer None ∷ Int (pos 1) ∷ Unsigned 0 ∷ Pointer None ∷ Int (pos 2) ∷ Unsigned 3 ∷ Pointer (Some 6) ∷ Pointer None ∷ Pointer None ∷ []
  pub within_the_limit : too_many (codes "struct s { int x; }; struct s a[32768];") ≡ None
  pub past_the_limit : too_many (codes "struct s { int x; }; struct s a[10], b[32760];") ≡ Some 37
  pub nested_past_the_limit : too_many (codes "struct s { int x[256]; }; struct t { struct s y[256]; }; int g; struct t v;") ≡ Some 73
  pub to_an_object : may_hold false 2 ≡ true
  pub to_an_element : may_hold false 8 ≡ true
  pub to_a_const : may_hold false 4 ≡ false
  pub const_to_a_const : may_hold true 4 ≡ true
  pub to_another_struct : may_hold false 10 ≡ false
  pub to_a_cell : may_hold false 3 ≡ false
  pub to_what_is_guarded : may_hold false 12 ≡ false
  pub past_the_end : may_hold false 14 ≡ false
  pub to_none : is_value_of (layout objects) (type.Pointer 1 false) (Pointer None) ≡ true
  pub a_number : is_value_of (layout objects) type.Int (Int (pos 2147483647)) ≡ true
  pub too_great : is_value_of (layout objects) type.Int (Int (pos 2147483648)) ≡ false
  pub an_unsigned : is_value_of (layout objects) type.Unsigned (Unsigned 4294967295) ≡ true
  pub of_another_type : is_value_of (layout objects) type.Unsigned (Int (pos 1)) ≡ false
