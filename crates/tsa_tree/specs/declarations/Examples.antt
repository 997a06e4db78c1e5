-- Items, heads and locals as they are written, with what reading gives, one row a production; and lists that are refused, one
-- row a kind.
use Rattle.std.specs.Prelude.{ℕ, ◌≡◌, List, [], ◌∷◌, ◌++◌, Bool, true, false, Some, None, Ok, Err, codes}
use Rattle.std.specs.List.{repeat}
use Rattle.std.specs.declared.option.Option.{Option}
use Rattle.std.specs.declared.result.Result.{Result}
use Rattle.tsa_base.specs.Tokens.{Lexeme, BadByte, tokens_of}
use Rattle.tsa_tree.specs.declared.attr.AttrKind.TheVariants as attr
use Rattle.tsa_tree.specs.declared.expr.BinaryOp.TheVariants as op
use Rattle.tsa_tree.specs.declared.expr.UnaryOp.TheVariants as prefix_op
use Rattle.tsa_tree.specs.attributes.Examples.{names, one}
use Rattle.tsa_tree.specs.attributes.Refusals.{left_out, lacking}
use Rattle.tsa_tree.specs.attributes.Syntax.{Attribute}
use Rattle.tsa_tree.specs.declarations.Answers.{Part, an_item, a_head_alone, some_locals, sort_of, call_of}
use Rattle.tsa_tree.specs.declarations.Syntax.{Base, int, unsigned, void, structure, enumerated, alias, DeclaredType, Initialiser, value}
use Rattle.tsa_tree.specs.declarations.Syntax.{list, Initialisers, no_more, one_more, Declaration, Parameter, EnumConstant, Head}
use Rattle.tsa_tree.specs.units.Syntax.{UnitItem, structure_item, alias_item, enumeration_item, global_item, function_item}
use Rattle.tsa_tree.specs.expressions.Examples as trees
use Rattle.tsa_tree.specs.expressions.Examples.{word, name, bytes}
use Rattle.tsa_tree.specs.expressions.Syntax.{Identifier, Expression, number, unary, none, nowhere}
use Rattle.tsa_tree.specs.units.Plain.{plain_part}
use Rattle.tsa_tree.specs.Reads.{read}
use Rattle.tsa_tree.specs.Rows.{Node}
use Rattle.tsa_tree.specs.tokens.Signs.{Aliases}
use Rattle.tsa_grammar.specs.Reading.{syntax, deep, barred, refuse, Outcome}

abbrev spanless : (p : Part) → Outcome (Node (sort_of p)) → Outcome (Node (sort_of p))
spanless p (Ok found) = Ok (plain_part p found.0, found.1)
spanless p (Err refusal) = Err refusal

abbrev part_in : (p : Part) → Aliases → Outcome (Node (sort_of p)) → Result (List Lexeme) BadByte → Outcome (Node (sort_of p))
part_in p known other (Ok tokens) = read tokens (sort_of p) (call_of p known) 0
part_in p known other (Err bad) = other

-- what reading from the first token of a text on gives, where these types are known
abbrev pub reads_whole : (p : Part) → Aliases → List ℕ → Outcome (Node (sort_of p))
reads_whole p known text = part_in p known (Err (refuse syntax 0)) (tokens_of text)

-- the same but for spans
abbrev pub reads : (p : Part) → Aliases → List ℕ → Outcome (Node (sort_of p))
reads p known text = spanless p (reads_whole p known text)

-- the one name of a type that is known in some rows
abbrev pub num : Aliases
num = codes "num" ∷ []

-- types

-- `const` beside the base, a star, `const` beside the star, and a length
abbrev pub typed : Base → (base_const pointer pointer_const : Bool) → Option Expression → DeclaredType
typed base base_const pointer pointer_const length =
    record { base = base; base_const = base_const; pointer = pointer; pointer_const = pointer_const; length = length }

abbrev pub alone : Base → DeclaredType
alone base = typed base false false false None

abbrev pub fixed : Base → DeclaredType
fixed base = typed base true false false None

abbrev pub pointer_to : Base → DeclaredType
pointer_to base = typed base false true false None

abbrev pub const_pointer_to : Base → DeclaredType
const_pointer_to base = typed base false true true None

abbrev pub array_of : Base → ℕ → DeclaredType
array_of base length = typed base false false false (Some (trees.int length))

-- initialisers

abbrev pub digit : ℕ → Initialiser
digit n = value (trees.int n)

abbrev pub one_in : Initialiser → Initialisers
one_in x = one_more x no_more

abbrev pub listed : Initialisers → Initialiser
listed xs = list xs nowhere

-- declarations

abbrev pub declares : List ℕ → DeclaredType → List Attribute → Option Initialiser → Declaration
declares text ctype attrs init = record { name = word text; ctype = ctype; attrs = attrs; init = init; span = nowhere }

-- without attributes and initialiser
abbrev pub unset : List ℕ → DeclaredType → Declaration
unset text ctype = declares text ctype [] None

abbrev pub set : List ℕ → DeclaredType → Initialiser → Declaration
set text ctype init = declares text ctype [] (Some init)

-- a global x of a type
abbrev pub x_of : DeclaredType → List UnitItem
x_of ctype = global_item (unset (codes "x") ctype) ∷ []

-- a global x, an `int`, with an initialiser
abbrev pub x_set : Initialiser → List UnitItem
x_set init = global_item (set (codes "x") (alone int) init) ∷ []

abbrev pub named : List ℕ → DeclaredType → Parameter
named text ctype = record { name = Some (word text); ctype = ctype; span = nowhere }

abbrev pub unnamed : DeclaredType → Parameter
unnamed ctype = record { name = None; ctype = ctype; span = nowhere }

-- a function f
abbrev pub function_f : DeclaredType → List Parameter → List Attribute → Head
function_f result params attrs = record { name = word (codes "f"); result = result; params = params; attrs = attrs }

abbrev pub constant : List ℕ → Option Expression → EnumConstant
constant text worth = record { name = word text; value = worth }

-- `struct s`
abbrev pub tagged_s : Base
tagged_s = structure (word (codes "s"))

-- `enum e`
abbrev pub tagged_e : Base
tagged_e = enumerated (word (codes "e"))

-- the base that the known name is
abbrev pub the_alias : Base
the_alias = alias (word (codes "num"))

abbrev pub capability_c : Attribute
capability_c = record { kind = attr.Capability; text = Some (codes "c"); success = None; args = none; span = nowhere }

abbrev pub guarded_by_m : Attribute
guarded_by_m = names attr.GuardedBy None (one (codes "m"))

-- a struct s without an alias
abbrev pub structure_s : List Attribute → List Declaration → List UnitItem
structure_s attrs members = structure_item (Some (word (codes "s"))) None attrs members nowhere ∷ []

-- an enum of this tag and alias
abbrev pub enum_of : (tag alias : Option Identifier) → List EnumConstant → List UnitItem
enum_of tag other values = enumeration_item tag other values nowhere ∷ []

-- `n`, the name of a type
abbrev pub name_n : Option Identifier
name_n = Some (word (codes "n"))

-- `n` is the name of this type
abbrev pub n_is : DeclaredType → List UnitItem
n_is ctype = alias_item (word (codes "n")) ctype nowhere ∷ []

abbrev pub f_of : DeclaredType → List Parameter → List Attribute → List UnitItem
f_of result params attrs = function_item (function_f result params attrs) ∷ []

-- what `void f(const struct s *p, int, unsigned x)` declares
abbrev pub three_parameters : Head
three_parameters =
    function_f (alone void)
    (named (codes "p") (typed tagged_s true true false None) ∷ unnamed (alone int) ∷ named (codes "x") (alone unsigned) ∷ []) []

-- what `static const int x = 1, *const p = &y, a[3] GUARDED_BY(m) = {1,{2,},};` declares
abbrev pub three_globals : List UnitItem
three_globals =
    global_item (set (codes "x") (fixed int) (digit 1)) ∷
    global_item (set (codes "p") (typed int true true true None) (value (unary prefix_op.Address (name (codes "y")) nowhere))) ∷
    global_item (declares (codes "a") (typed int true false false (Some (trees.int 3))) (guarded_by_m ∷ [])
    (Some (listed (one_more (digit 1) (one_in (listed (one_in (digit 2)))))))) ∷ []

-- spans

abbrev pub at_bytes : List ℕ → (from to : ℕ) → Identifier
at_bytes text from to = record { text = text; span = bytes from to }

-- those of `int*x=1,y;`: a declaration from its declarator's first token to its end
abbrev pub spanned_globals : List UnitItem
spanned_globals =
    global_item (record {
      name = at_bytes (codes "x") 4 5;
      ctype = pointer_to int;
      attrs = [];
      init = Some (value (number 1 false (bytes 6 7)));
      span = bytes 3 7;
    }) ∷
    global_item (record { name = at_bytes (codes "y") 8 9; ctype = alone int; attrs = []; init = None; span = bytes 8 9 }) ∷ []

-- those of `int f(int*x,int,int*);`: a parameter from its star or name to its end, and from its type where it has neither
abbrev pub spanned_function : List UnitItem
spanned_function =
    function_item (record {
      name = at_bytes (codes "f") 4 5;
      result = alone int;
      params =
          record { name = Some (at_bytes (codes "x") 10 11); ctype = pointer_to int; span = bytes 9 11 } ∷
          record { name = None; ctype = alone int; span = bytes 12 15 } ∷
          record { name = None; ctype = pointer_to int; span = bytes 19 20 } ∷ [];
      attrs = [];
    }) ∷ []

-- `int x=` and so many opening braces
abbrev pub int_x_and_braces : ℕ → List ℕ
int_x_and_braces count = codes "int x=" ++ repeat count (codes "{")

pub record DeclarationsAreRead : Type 0 where
  -- types
  pub an_int : reads an_item [] (codes "int x;") ≡ Ok (x_of (alone int), 3)
  pub an_unsigned : reads an_item [] (codes "unsigned x;") ≡ Ok (x_of (alone unsigned), 3)
  pub an_unsigned_int : reads an_item [] (codes "unsigned int x;") ≡ Ok (x_of (alone unsigned), 4)
  pub a_signed : reads an_item [] (codes "signed x;") ≡ Ok (x_of (alone int), 3)
  pub a_signed_int : reads an_item [] (codes "signed int x;") ≡ Ok (x_of (alone int), 4)
  pub a_void : reads an_item [] (codes "void*x;") ≡ Ok (x_of (pointer_to void), 4)
  pub a_struct : reads an_item [] (codes "struct s x;") ≡ Ok (x_of (alone tagged_s), 4)
  pub an_enum : reads an_item [] (codes "enum e x;") ≡ Ok (x_of (alone tagged_e), 4)
  pub a_known_type : reads an_item num (codes "num x;") ≡ Ok (x_of (alone the_alias), 3)
  pub a_known_tag : reads an_item num (codes "struct num x;") ≡ Ok (x_of (alone (structure (word (codes "num")))), 4)
  pub const_before : reads an_item [] (codes "const int x;") ≡ Ok (x_of (fixed int), 4)
  pub const_behind : reads an_item [] (codes "struct s const x;") ≡ Ok (x_of (fixed tagged_s), 5)
  pub many_const : reads an_item [] (codes "const const int const x;") ≡ Ok (x_of (fixed int), 6)
  pub storage_words : reads an_item [] (codes "static extern inline int x;") ≡ Ok (x_of (alone int), 6)
  -- declarators
  pub a_star : reads an_item [] (codes "int*x;") ≡ Ok (x_of (pointer_to int), 4)
  pub a_const_star : reads an_item [] (codes "int*const x;") ≡ Ok (x_of (const_pointer_to int), 5)
  pub a_length : reads an_item [] (codes "int x[2];") ≡ Ok (x_of (array_of int 2), 6)
  pub two_declarators : reads an_item [] (codes "int x,*y;") ≡
      Ok (global_item (unset (codes "x") (alone int)) ∷ global_item (unset (codes "y") (pointer_to int)) ∷ [], 6)
  -- initialisers
  pub a_value : reads an_item [] (codes "int x=1;") ≡ Ok (x_set (digit 1), 5)
  pub no_values : reads an_item [] (codes "int x={};") ≡ Ok (x_set (listed no_more), 6)
  pub last_value : reads an_item [] (codes "int x={1};") ≡ Ok (x_set (listed (one_in (digit 1))), 7)
  pub value_and_comma : reads an_item [] (codes "int x={1,};") ≡ Ok (x_set (listed (one_in (digit 1))), 8)
  pub further_value : reads an_item [] (codes "int x={{1},y};") ≡
      Ok (x_set (listed (one_more (listed (one_in (digit 1))) (one_in (value (name (codes "y")))))), 11)
  pub globals : reads an_item [] (codes "static const int x = 1, *const p = &y, a[3] GUARDED_BY(m) = {1,{2,},};") ≡ Ok (three_globals, 33)
  -- structs
  pub no_member : reads an_item [] (codes "struct s{};") ≡ Ok (structure_s [] [], 5)
  pub members : reads an_item [] (codes "struct s{int x;unsigned*y,z[2];};") ≡
      Ok (
        structure_s [] (unset (codes "x") (alone int) ∷ unset (codes "y") (pointer_to unsigned) ∷
            unset (codes "z") (array_of unsigned 2) ∷ []),
        17,
      )
  pub structure_attributes : reads an_item [] (codes "struct CAPABILITY(\"c\")s{int x GUARDED_BY(m);}EXCLUDES(n);") ≡
      Ok (
        structure_s (capability_c ∷ names attr.Excludes None (one (codes "n")) ∷ [])
            (declares (codes "x") (alone int) (guarded_by_m ∷ []) None ∷ []),
        20,
      )
  pub tag_alone : reads an_item [] (codes "struct s;") ≡ Ok ([], 3)
  pub structure_alias : reads an_item [] (codes "typedef struct{int x;}n;") ≡
      Ok (structure_item None name_n [] (unset (codes "x") (alone int) ∷ []) nowhere ∷ [], 9)
  pub tagged_structure_alias : reads an_item [] (codes "typedef struct CAPABILITY(\"c\")s{}n;") ≡
      Ok (structure_item (Some (word (codes "s"))) name_n (capability_c ∷ []) [] nowhere ∷ [], 11)
  -- enums
  pub enumeration : reads an_item [] (codes "enum { a, b = 1 + 2, };") ≡
      Ok (enum_of None None (constant (codes "a") None ∷ constant (codes "b") (Some (trees.join op.Plus (trees.int 1) (trees.int 2))) ∷ []), 12)
  pub tagged_enumeration : reads an_item [] (codes "enum e{a};") ≡
      Ok (enum_of (Some (word (codes "e"))) None (constant (codes "a") None ∷ []), 6)
  pub enumeration_alias : reads an_item [] (codes "typedef enum e {a} n;") ≡
      Ok (enum_of (Some (word (codes "e"))) name_n (constant (codes "a") None ∷ []), 8)
  pub untagged_enumeration_alias : reads an_item [] (codes "typedef enum{a,b}n;") ≡
      Ok (enum_of None name_n (constant (codes "a") None ∷ constant (codes "b") None ∷ []), 9)
  -- names of types
  pub pointer_alias : reads an_item [] (codes "typedef unsigned int *n;") ≡ Ok (n_is (pointer_to unsigned), 6)
  pub alias_of_structure : reads an_item [] (codes "typedef struct s*const n;") ≡ Ok (n_is (const_pointer_to tagged_s), 7)
  pub alias_of_enumeration : reads an_item [] (codes "typedef enum e const n;") ≡ Ok (n_is (fixed tagged_e), 6)
  pub alias_of_alias : reads an_item num (codes "typedef num n;") ≡ Ok (n_is (alone the_alias), 4)
  -- functions
  pub function : reads an_item num (codes "extern inline num f(void) REQUIRES(m);") ≡
      Ok (f_of (alone the_alias) [] (names attr.Requires None (one (codes "m")) ∷ []), 12)
  pub no_parameter : reads an_item [] (codes "struct s*f();") ≡ Ok (f_of (pointer_to tagged_s) [] [], 7)
  pub parameters : reads an_item [] (codes "void f(const struct s *p, int, unsigned x);") ≡ Ok (function_item three_parameters ∷ [], 15)
  pub unnamed_pointers : reads an_item [] (codes "int f(int*,int*const);") ≡
      Ok (f_of (alone int) (unnamed (pointer_to int) ∷ unnamed (const_pointer_to int) ∷ []) [], 11)
  pub pointer_to_void : reads an_item [] (codes "int f(void*p);") ≡ Ok (f_of (alone int) (named (codes "p") (pointer_to void) ∷ []) [], 8)
  -- where `void` isn't alone it is the type of a parameter (C11 6.7.6.3p10)
  pub void_not_alone : reads an_item [] (codes "int f(void, int);") ≡
      Ok (f_of (alone int) (unnamed (alone void) ∷ unnamed (alone int) ∷ []) [], 8)
  -- heads
  pub head_before_semicolon : reads a_head_alone [] (codes "void f(const struct s *p, int, unsigned x);") ≡ Ok (three_parameters, 14)
  pub head_before_block : reads a_head_alone [] (codes "void f(const struct s *p, int, unsigned x) {") ≡ Ok (three_parameters, 14)
  pub head_with_attributes : reads a_head_alone num (codes "static num f()ACQUIRE(m){") ≡
      Ok (function_f (alone the_alias) [] (names attr.Acquire None (one (codes "m")) ∷ []), 9)
  -- locals
  pub a_local : reads (some_locals false 0) [] (codes "int x;") ≡ Ok (unset (codes "x") (alone int) ∷ [], 2)
  pub locals : reads (some_locals false 0) [] (codes "int*x,y[2],z=1+2;") ≡
      Ok (
        unset (codes "x") (pointer_to int) ∷ unset (codes "y") (array_of int 2) ∷
            set (codes "z") (alone int) (value (trees.join op.Plus (trees.int 1) (trees.int 2))) ∷ [],
        14,
      )
  pub a_set_array : reads (some_locals false 0) [] (codes "int x[2]=y;") ≡
      Ok (set (codes "x") (array_of int 2) (value (name (codes "y"))) ∷ [], 7)
  pub a_single_local : reads (some_locals true 0) [] (codes "int x=1,y;") ≡ Ok (set (codes "x") (alone int) (digit 1) ∷ [], 4)
  pub a_single_unset_local : reads (some_locals true 0) num (codes "const num x,y;") ≡ Ok (unset (codes "x") (fixed the_alias) ∷ [], 3)
  pub before_attributes : reads (some_locals false 0) [] (codes "int x GUARDED_BY(m);") ≡ Ok (unset (codes "x") (alone int) ∷ [], 2)
  -- spans
  pub spans_of_globals : reads_whole an_item [] (codes "int*x=1,y;") ≡ Ok (spanned_globals, 8)
  pub spans_of_parameters : reads_whole an_item [] (codes "int f(int*x,int,int*);") ≡ Ok (spanned_function, 13)
  pub span_of_structure : reads_whole an_item [] (codes "typedef struct{}n;") ≡
      Ok (structure_item None (Some (at_bytes (codes "n") 16 17)) [] [] (bytes 0 18) ∷ [], 6)
  -- what no list goes on with
  pub no_type : reads an_item [] (codes ";") ≡ Err (refuse syntax 0)
  pub int_before_unsigned : reads an_item [] (codes "int unsigned x;") ≡ Err (refuse syntax 1)
  pub second_star : reads an_item [] (codes "int *const *p;") ≡ Err (refuse syntax 3)
  pub attribute_first : reads an_item [] (codes "int GUARDED_BY(m) x;") ≡ Err (refuse syntax 1)
  pub at_the_end : reads an_item [] (codes "int x") ≡ Err (refuse syntax 2)
  pub no_length : reads an_item [] (codes "int a[];") ≡ Err (refuse syntax 3)
  pub open_bracket : reads an_item [] (codes "int a[3;") ≡ Err (refuse syntax 4)
  pub no_declarator : reads an_item [] (codes "int x,;") ≡ Err (refuse syntax 3)
  pub comma_alone : reads an_item [] (codes "int x={,};") ≡ Err (refuse syntax 4)
  pub member_with_value : reads an_item [] (codes "struct s{int x=1;};") ≡ Err (refuse syntax 5)
  pub open_member : reads an_item [] (codes "struct s {int x}") ≡ Err (refuse syntax 5)
  pub no_tag : reads an_item [] (codes "struct{int x;};") ≡ Err (refuse syntax 1)
  pub attributes_alone : reads an_item [] (codes "struct __attribute__((x)) s;") ≡ Err (refuse syntax 8)
  pub structure_with_name : reads an_item [] (codes "struct s{}n;") ≡ Err (refuse syntax 4)
  pub typedef_without_name : reads an_item [] (codes "typedef struct{};") ≡ Err (refuse syntax 4)
  pub type_alone : reads an_item [] (codes "typedef int;") ≡ Err (refuse syntax 2)
  pub array_alias : reads an_item [] (codes "typedef int n[2];") ≡ Err (refuse syntax 3)
  pub known_again : reads an_item num (codes "typedef int num;") ≡ Err (refuse syntax 2)
  pub no_enumerator : reads an_item [] (codes "enum{};") ≡ Err (refuse syntax 2)
  pub enumeration_with_name : reads an_item [] (codes "enum{a}n;") ≡ Err (refuse syntax 4)
  pub parameter_missing : reads an_item [] (codes "int f(int,);") ≡ Err (refuse syntax 5)
  pub no_head : reads a_head_alone [] (codes "int f;") ≡ Err (refuse syntax 2)
  pub no_variable : reads (some_locals false 0) [] (codes "int;") ≡ Err (refuse syntax 1)
  pub static_local : reads (some_locals false 0) [] (codes "static int x;") ≡ Err (refuse syntax 0)
  pub list_in_local : reads (some_locals true 0) [] (codes "int x={1};") ≡ Err (refuse syntax 3)
  -- attributes that are left out, and those without their argument
  pub global_left_out : reads an_item [] (codes "int g PT_GUARDED_BY(") ≡ Err (refuse (barred left_out) 2)
  pub structure_left_out : reads an_item [] (codes "struct SCOPED_CAPABILITY s{};") ≡ Err (refuse (barred left_out) 1)
  pub head_left_out : reads a_head_alone [] (codes "int f()RETURN_CAPABILITY(m);") ≡ Err (refuse (barred left_out) 4)
  pub global_lacks : reads an_item [] (codes "int g GUARDED_BY;") ≡ Err (refuse (barred lacking) 2)
  pub head_lacks : reads a_head_alone [] (codes "int f()REQUIRES();") ≡ Err (refuse (barred lacking) 4)
  -- a hundred constructs may be open, and no more
  pub hundred_braces : reads an_item [] (int_x_and_braces 100) ≡ Err (refuse syntax 103)
  pub deep_braces : reads an_item [] (int_x_and_braces 101) ≡ Err (refuse deep 103)
  pub deep_length : reads (some_locals false 100) [] (codes "int x[2];") ≡ Err (refuse deep 2)
  pub deep_value : reads (some_locals true 99) [] (codes "int x=((1));") ≡ Err (refuse deep 4)
