-- Which of several failing nodes is told, and where: a node before its parts, in order of the text, and then the smallest code.
use Rattle.std.specs.Prelude.{◌≡◌, ℕ, List, codes}
use Rattle.tsa_tree.specs.declared.premise.TypeCode.TheVariants.{TY1, TY2, TY3, TY5, TY6, TY8, TY9}
use Rattle.tsa_tree.specs.types.Texts.{Told, typed, refused}

-- what is told of texts in which there is a choice
pub record PlacesAreTold (told : List ℕ → Told) : Type 0 where
  pub declaration_before_its_tag : told (codes "int g; struct b *g;") ≡ refused TY2 16
  pub type_before_its_length : told (codes "int *p[0];") ≡ refused TY3 4
  pub tag_before_the_length : told (codes "struct b *p[0];") ≡ refused TY1 7
  pub node_before_its_parts : told (codes "struct s { int x; }; int f(struct s *p) { return p + h; }") ≡ refused TY3 49
  pub operand_by_operand : told (codes "struct s { int x; }; void f(struct s *p) { h == *p; }") ≡ refused TY3 43
  pub smaller_code_first : told (codes "struct s { int x; }; void f(int n); void g(struct s *p) { f(p, 1); }") ≡ refused TY3 58
  pub in_order_of_the_text : told (codes "struct s { int x; }; void f(int n) { n = n + (1 + &n) + h; }") ≡ refused TY3 50
  pub argument_inside : told (codes "void f(int n) { f(h); }") ≡ refused TY1 18
  pub length_before_attributes : told (codes "int m; int a[0] GUARDED_BY(m);") ≡ refused TY9 13
  pub attributes_before_the_initialiser : told (codes "int m; int g GUARDED_BY(m) = h;") ≡ refused TY6 24
  pub result_before_parameters : told (codes "int *f(void v);") ≡ refused TY3 5
  pub parameters_before_attributes : told (codes "void f(void v) REQUIRES(h);") ≡ refused TY3 12
  pub test_of_do : told (codes "struct s { int x; }; void f(struct s *p) { do h; while (*p); }") ≡ refused TY3 43
  pub test_of_for : told (codes "struct s { int x; }; void f(struct s *p) { for (h; *p; ) ; }") ≡ refused TY3 43
  pub not_of_a_struct : told (codes "struct CAPABILITY(\"m\") l { int s; }; struct l m; void f(void) REQUIRES(!m, m);") ≡ refused TY3 71
  pub parts_of_for : told (codes "void f(void) { for (; h; k) ; }") ≡ refused TY1 22
  pub attributes_before_members : told (codes "struct CAPABILITY(\"m\") l { int s; }; struct l m; struct GUARDED_BY(m) t { struct b x; };") ≡ refused TY6 56
  pub members_before_attributes : told (codes "struct CAPABILITY(\"m\") l { int s; }; struct l m; struct t { struct b x; } GUARDED_BY(m);") ≡ refused TY1 67
  pub aliased_struct : told (codes "int g; typedef struct { int x; } g;") ≡ refused TY2 7
  pub alias : told (codes "int g; typedef struct s *g; struct s { int x; };") ≡ refused TY2 24
  pub parameter : told (codes "struct s { int x; }; struct s *p; void f(struct s *p);") ≡ refused TY2 50
  pub local : told (codes "struct s { int x; }; struct s *p; void f(void) { struct s *n, *p; }") ≡ refused TY2 62
  pub member : told (codes "struct s { int x; struct s *x; };") ≡ refused TY2 27
  pub function_of_a_pointer : told (codes "struct s { int x; }; struct s *f(void); const struct s *f(void);") ≡ refused TY2 56
  pub local_initialiser : told (codes "struct s { int x; }; void f(void) { struct s *p = 1; }") ≡ refused TY3 45
  pub assignment : told (codes "struct s { int x; }; void f(struct s *p) { p = 1; }") ≡ refused TY3 43
  pub step : told (codes "struct s { int x; }; void f(struct s *p) { ++p; }") ≡ refused TY3 43
  pub left_side_in_parentheses : told (codes "const int g = 1; void f(void) { (g) = 2; }") ≡ refused TY5 33
  pub left_side_of_a_step : told (codes "const int g = 1; void f(void) { ++g; }") ≡ refused TY5 34
  pub left_side_before_what_goes_there : told (codes "enum { E }; void f(void) { E = NULL; }") ≡ refused TY5 27
  pub operator_before_the_left_side : told (codes "struct s { int x; }; const int g = 1; void f(struct s *p) { g += p; }") ≡ refused TY3 60
  pub global_initialiser : told (codes "struct s { int x; }; struct s v; struct s w = v;") ≡ refused TY9 46
  pub list_for_a_number : told (codes "int g = { 1 };") ≡ refused TY9 8
  pub number_for_a_list : told (codes "int a[2] = 1;") ≡ refused TY9 11
  pub operand_in_an_initialiser : told (codes "int h; int g = &h;") ≡ refused TY3 15
  pub known_in_its_length : told (codes "int a[a];") ≡ refused TY9 6
  pub known_in_its_attribute : told (codes "int g GUARDED_BY(g);") ≡ refused TY6 17
  pub known_in_its_initialiser : told (codes "int g = g;") ≡ refused TY9 8
  pub alias_in_its_braces : told (codes "typedef enum { E = T } T;") ≡ refused TY1 19
  pub struct_alias_in_its_braces : told (codes "typedef struct { int a[T]; } T;") ≡ refused TY1 23
  pub member_of_null : told (codes "void f(void) { NULL->x; }") ≡ refused TY3 15
  pub void_by_an_alias : told (codes "typedef void V; V v;") ≡ refused TY3 18
  pub void_parameter_by_an_alias : told (codes "typedef void V; void f(V v);") ≡ refused TY3 25
  pub struct_result_is_no_value : told (codes "struct s { int x; }; struct s f(void); struct s g(void) { return f(); }") ≡ refused TY8 58
  -- typed
  pub const_is_no_part : told (codes "void f(const int n); void f(int n) { }") ≡ typed
  pub void_alias : told (codes "typedef void V; V f(void);") ≡ typed
  pub any_type_as_a_statement : told (codes "struct s { int x; }; void f(struct s *p) { *p; f; f(p); NULL; }") ≡ typed
  pub struct_parameter : told (codes "struct s { int x; }; struct s f(struct s v) { }") ≡ typed
