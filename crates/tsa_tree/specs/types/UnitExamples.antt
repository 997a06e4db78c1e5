-- Units as they are written, with the code by which each is refused and the byte at which that is told, or that it is typed.
use Rattle.std.specs.Prelude.{◌≡◌, ℕ, List, codes}
use Rattle.tsa_tree.specs.declared.premise.TypeCode.TheVariants.{TY1, TY2, TY3, TY4, TY5, TY6, TY7, TY8, TY9}
use Rattle.tsa_tree.specs.types.FirstFailing.{first_failing}
use Rattle.tsa_tree.specs.types.PlaceExamples.{PlacesAreTold}
pub use Rattle.tsa_tree.specs.types.Texts.{unit_in}
use Rattle.tsa_tree.specs.types.Texts.{Told, typed, refused, told_in}
use Rattle.tsa_tree.specs.types.Units.{refusal_of_types}

-- TY1: names, tags and members that aren't known where they stand
pub record UnknownNames (told : List ℕ → Told) : Type 0 where
  pub unknown_name : told (codes "int g = h;") ≡ refused TY1 8
  pub unknown_callee : told (codes "void f(void) { g(); }") ≡ refused TY1 15
  pub unknown_tag : told (codes "struct a { struct b *p; };") ≡ refused TY1 18
  pub unknown_enum : told (codes "enum e g;") ≡ refused TY1 5
  pub unknown_member : told (codes "struct s { int x; }; void f(struct s *p) { p->y; }") ≡ refused TY1 46
  pub in_its_own_value : told (codes "enum { E = E };") ≡ refused TY1 11
  pub in_its_own_initialiser : told (codes "void f(void) { int n = n; }") ≡ refused TY1 23
  pub behind_its_block : told (codes "void f(void) { { int n; } n; }") ≡ refused TY1 26
  pub behind_its_for : told (codes "void f(void) { for (int n = 0; ; ) ; n; }") ≡ refused TY1 37
  pub later_member : told (codes "struct CAPABILITY(\"m\") l { int s; }; struct a { int n GUARDED_BY(m); struct l m; };") ≡ refused TY1 65
  pub other_functions_parameter : told (codes "void f(int n); int g(void) { return n; }") ≡ refused TY1 36

-- TY2: what is declared twice
pub record DeclaredTwice (told : List ℕ → Told) : Type 0 where
  pub declared_again : told (codes "int g; int g;") ≡ refused TY2 11
  pub hidden : told (codes "int g; void f(void) { { int g; } }") ≡ refused TY2 28
  pub hidden_by_a_parameter : told (codes "int g; void f(int g);") ≡ refused TY2 18
  pub member_again : told (codes "struct s { int x; int x; };") ≡ refused TY2 22
  pub its_own_enumerator : told (codes "typedef enum { E } E;") ≡ refused TY2 0
  pub enumerator_again : told (codes "int g; enum { g };") ≡ refused TY2 14
  pub tag_again : told (codes "struct s { int x; }; enum s { E };") ≡ refused TY2 21
  pub struct_again : told (codes "struct s { int x; }; struct s { int y; };") ≡ refused TY2 21
  pub no_type_any_more : told (codes "int g; typedef int g;") ≡ refused TY2 19
  pub two_bodies : told (codes "void f(void) { } void f(void) { }") ≡ refused TY2 22
  pub other_types : told (codes "void f(int n); void f(unsigned n);") ≡ refused TY2 20
  pub later_attributes : told (codes "struct CAPABILITY(\"m\") l { int s; }; struct l m; void f(void); void f(void) REQUIRES(m);") ≡ refused TY2 68
  pub function_of_a_globals_name : told (codes "int f; void f(void);") ≡ refused TY2 12
  pub case_again : told (codes "void f(int n) { switch (n) { case 1: ; case 0 + 1: ; } }") ≡ refused TY2 39
  pub case_again_as_unsigned : told (codes "void f(int n) { switch (n) { case -1: ; case 4294967295u: ; } }") ≡ refused TY2 40
  pub default_again : told (codes "void f(int n) { switch (n) { default: ; default: ; } }") ≡ refused TY2 40
  pub label_again : told (codes "void f(void) { a: ; a: ; }") ≡ refused TY2 20

-- TY3: operands and declarations of wrong types
pub record WrongTypes (told : List ℕ → Told) : Type 0 where
  pub no_such_pointer : told (codes "int g; int *p;") ≡ refused TY3 11
  pub no_such_alias : told (codes "typedef int *T;") ≡ refused TY3 12
  pub in_itself : told (codes "struct s { struct s x; };") ≡ refused TY3 20
  pub before_its_definition : told (codes "struct s v; struct s { int x; };") ≡ refused TY3 9
  pub void_thing : told (codes "void g;") ≡ refused TY3 5
  pub void_local : told (codes "void f(void) { void n; }") ≡ refused TY3 20
  pub tag_of_the_other_kind : told (codes "enum e { E }; struct e *p;") ≡ refused TY3 23
  pub struct_as_test : told (codes "struct s { int x; }; void f(struct s *p) { while (*p) ; }") ≡ refused TY3 43
  pub pointer_as_switch_value : told (codes "struct s { int x; }; void f(struct s *p) { switch (p) ; }") ≡ refused TY3 43
  pub pointer_in_a_sum : told (codes "struct s { int x; }; int f(struct s *p) { return p + 1; }") ≡ refused TY3 49
  pub bits_of_int : told (codes "int f(int n) { return n & 1; }") ≡ refused TY3 22
  pub other_struct : told (codes "struct s { int x; }; struct t { int x; }; int f(struct s *p, struct t *q) { return p == q; }") ≡ refused TY3 83
  pub address_of_an_integer : told (codes "void f(int n) { &n; }") ≡ refused TY3 16
  pub null_followed : told (codes "void f(void) { *NULL; }") ≡ refused TY3 15
  pub index_of_a_number : told (codes "int f(int n) { return n[0]; }") ≡ refused TY3 22
  pub arrow_at_a_struct : told (codes "struct s { int x; }; struct s v; void f(void) { v->x; }") ≡ refused TY3 48
  pub array_as_value : told (codes "int a[2]; void f(int n) { n = a; }") ≡ refused TY3 26
  pub dropped_const : told (codes "struct s { int x; }; void f(const struct s *p) { struct s *q = p; }") ≡ refused TY3 58
  pub void_call_as_value : told (codes "void f(void); void g(int n) { n = f(); }") ≡ refused TY3 30
  pub called_variable : told (codes "void f(int n) { n(); }") ≡ refused TY3 16
  pub other_argument : told (codes "struct s { int x; }; void f(int n); void g(struct s *p) { f(p); }") ≡ refused TY3 58

-- TY4: calls of another number of arguments
pub record WrongCounts (told : List ℕ → Told) : Type 0 where
  pub too_few_arguments : told (codes "void f(int n) { f(); }") ≡ refused TY4 16
  pub too_many_arguments : told (codes "void f(int n) { f(n, n); }") ≡ refused TY4 16
  pub one_argument : told (codes "void f(void) { f(1); }") ≡ refused TY4 15

-- TY5: left sides that can't be assigned to
pub record NotAssignable (told : List ℕ → Told) : Type 0 where
  pub constant_written : told (codes "const int g = 1; void f(void) { g = 2; }") ≡ refused TY5 32
  pub value_written : told (codes "void f(int n) { ++(n + 1); }") ≡ refused TY5 19
  pub constant_target_written : told (codes "struct s { int x; }; void f(const struct s *p) { p->x += 1; }") ≡ refused TY5 49
  pub enumerator_written : told (codes "enum { E }; void f(void) { E = 1; }") ≡ refused TY5 27

-- TY6: attributes and lock expressions out of place
pub record OutOfPlace (told : List ℕ → Told) : Type 0 where
  pub no_lock : told (codes "int m; int g GUARDED_BY(m);") ≡ refused TY6 24
  pub on_a_function : told (codes "struct CAPABILITY(\"m\") l { int s; }; struct l m; void f(void) GUARDED_BY(m);") ≡ refused TY6 62
  pub on_a_global : told (codes "struct CAPABILITY(\"m\") l { int s; }; struct l m; int g REQUIRES(m);") ≡ refused TY6 55
  pub on_an_array : told (codes "struct CAPABILITY(\"m\") l { int s; }; struct l m; struct l a[2] ACQUIRED_AFTER(m);") ≡ refused TY6 63
  pub array_of_locks : told (codes "struct CAPABILITY(\"m\") l { int s; }; struct l m; struct l a[2]; int g GUARDED_BY(a);") ≡ refused TY6 81
  pub not_beside_others : told (codes "struct CAPABILITY(\"m\") l { int s; }; struct l m; void f(struct l *p) REQUIRES(!p, m);") ≡ refused TY6 78

-- TY7: jumps and labels without a target
pub record WithoutTarget (told : List ℕ → Told) : Type 0 where
  pub break_alone : told (codes "void f(void) { break; }") ≡ refused TY7 15
  pub continue_in_switch : told (codes "void f(int n) { switch (n) continue; }") ≡ refused TY7 27
  pub no_label : told (codes "void f(void) { goto a; }") ≡ refused TY7 15
  pub case_alone : told (codes "void f(void) { case 1: ; }") ≡ refused TY7 15
  pub default_in_a_loop : told (codes "void f(void) { while (1) default: ; }") ≡ refused TY7 25

-- TY8: wrong returns
pub record WrongReturns (told : List ℕ → Told) : Type 0 where
  pub value_of_nothing : told (codes "void f(void) { return 1; }") ≡ refused TY8 15
  pub no_value : told (codes "int f(void) { return; }") ≡ refused TY8 14
  pub other_value : told (codes "struct s { int x; }; int f(struct s *p) { return p; }") ≡ refused TY8 42

-- TY9: lengths, enumerators, values of cases and initialisers that aren't constant or don't fit
pub record NotConstant (told : List ℕ → Told) : Type 0 where
  pub variable_length : told (codes "int n; int a[n];") ≡ refused TY9 13
  pub no_length : told (codes "int a[0];") ≡ refused TY9 6
  pub long_length : told (codes "int a[65537];") ≡ refused TY9 6
  pub variable_initialiser : told (codes "int n; int g = n;") ≡ refused TY9 15
  pub null_for_an_integer : told (codes "int g = NULL;") ≡ refused TY9 8
  pub too_many : told (codes "int a[1] = { 1, 2 };") ≡ refused TY9 11
  pub own_address : told (codes "struct s { struct s *p; }; struct s g = { &g };") ≡ refused TY9 42
  pub index_out_of_range : told (codes "struct s { int x; }; struct s a[2]; struct s *p = &a[2];") ≡ refused TY9 50
  pub trap_in_an_enumerator : told (codes "enum { E = 1 / 0 };") ≡ refused TY9 11
  pub count_leaves_int : told (codes "enum { D = 2147483647, E };") ≡ refused TY9 23
  pub variable_case : told (codes "void f(int n) { switch (n) { case n: ; } }") ≡ refused TY9 34

-- texts in which each rule is kept
pub record TypedTexts (told : List ℕ → Told) : Type 0 where
  pub a_guarded_member : told (codes "struct CAPABILITY(\"m\") l { int s; }; struct a { struct l m; int n GUARDED_BY(m); };") ≡ typed
  pub a_guard_by_a_pointer : told (codes "struct CAPABILITY(\"m\") l { int s; }; struct a { struct l *p; int n GUARDED_BY(*p); };") ≡ typed
  pub a_function_of_locks : told (codes "struct CAPABILITY(\"m\") l { int s; }; void f(struct l *p) REQUIRES(p);") ≡ typed
  pub an_order_of_locks : told (codes "struct CAPABILITY(\"m\") l { int s; }; struct l m; struct l k ACQUIRED_AFTER(m);") ≡ typed
  pub lists : told (codes "struct a { int m; int n; }; struct a b[2] = { { 1 }, { 2, 3 }, };") ≡ typed
  pub addresses : told (codes "struct s { int x; }; struct s a[2]; struct s *p[3] = { &a[1], 0, NULL };") ≡ typed
  pub enumerators : told (codes "enum { A, B = A + 1, C = 4294967295u - 4294967294u }; int g[B];") ≡ typed
  pub converted : told (codes "const unsigned u = -1;") ≡ typed
  pub names_in_turn : told (codes "void f(int m) { { int k; } { int k = m; } for (int k = 0; ; ) ; }") ≡ typed
  pub parameters_in_turn : told (codes "void f(int n); void g(int n) { } void f(int m) { }") ≡ typed
  pub tags_in_the_whole_unit : told (codes "struct a { struct b *p; enum e n; }; struct b { int x; }; enum e { E };") ≡ typed
  pub pointers : told (codes "struct s { int x; }; void f(struct s *p, const struct s *q) { q = p; p = 0; if (!p) p == q; }") ≡ typed
  pub null : told (codes "int f(void) { return NULL == NULL && !NULL; }") ≡ typed
  pub integers : told (codes "unsigned f(unsigned u, int n) { u = ~u & n; n = u; return -n + u / 2; }") ≡ typed
  pub jumps : told (codes "void f(int n) { while (n) switch (n) { case 1: continue; default: break; } }") ≡ typed
  pub labels : told (codes "void f(int n) { out: if (n) goto out; } void g(void) { out: ; }") ≡ typed
  pub returns : told (codes "int f(int n) { if (n) return 1u; } void g(void) { return; }") ≡ typed

-- all of them, by what is told of a text
pub record TextsAreTold (told : List ℕ → Told) : Type 0 where
  pub unknown : UnknownNames told
  pub again : DeclaredTwice told
  pub types : WrongTypes told
  pub counts : WrongCounts told
  pub left_sides : NotAssignable told
  pub attributes : OutOfPlace told
  pub jumps : WithoutTarget told
  pub returns : WrongReturns told
  pub constants : NotConstant told
  pub typed_texts : TypedTexts told

-- Both of the first failing node and of the premises in order, the same is told of these texts.
pub record UnitsAreTyped : Type 0 where
  pub by_nodes : TextsAreTold (told_in first_failing)
  pub by_premises : TextsAreTold (told_in refusal_of_types)
  pub places_by_nodes : PlacesAreTold (told_in first_failing)
  pub places_by_premises : PlacesAreTold (told_in refusal_of_types)
