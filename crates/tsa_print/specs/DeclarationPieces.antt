-- The tokens of attributes, declarations and items without bodies in canonical form.
use Rattle.std.specs.Prelude.{ℕ, List, [], ◌∷◌, ◌++◌, Bool, false, Some, None, codes, if◌then◌else◌}
use Rattle.std.specs.declared.option.Option.{Option}
use Rattle.tsa_tree.specs.declared.attr.AttrKind.{AttrKind}
use Rattle.tsa_tree.specs.declared.attr.AttrKind.TheVariants as attr
use Rattle.tsa_tree.specs.attributes.Syntax.{Attribute}
use Rattle.tsa_tree.specs.declarations.Syntax.{Base, int, unsigned, void, structure, enumerated, alias, DeclaredType, Initialiser, value}
use Rattle.tsa_tree.specs.declarations.Syntax.{list, Initialisers, no_more, one_more, Declaration, Parameter, EnumConstant, Head}
use Rattle.tsa_tree.specs.expressions.Syntax.{Expression, Identifier, Arguments}
use Rattle.tsa_print.specs.declared.mark.Mark.TheVariants as marks
use Rattle.tsa_print.specs.Canonical.{Piece, word, numeral, quoted, assigned, mark, pieces, arguments, further}

abbrev pub name_pieces : Option Identifier → List Piece
name_pieces None = []
name_pieces (Some name) = word name.text ∷ []

-- attributes are macro words
abbrev pub macro_word : AttrKind → List ℕ
macro_word attr.Capability = codes "CAPABILITY"
macro_word attr.GuardedBy = codes "GUARDED_BY"
macro_word attr.Requires = codes "REQUIRES"
macro_word attr.RequiresShared = codes "REQUIRES_SHARED"
macro_word attr.Acquire = codes "ACQUIRE"
macro_word attr.AcquireShared = codes "ACQUIRE_SHARED"
macro_word attr.Release = codes "RELEASE"
macro_word attr.ReleaseShared = codes "RELEASE_SHARED"
macro_word attr.ReleaseGeneric = codes "RELEASE_GENERIC"
macro_word attr.TryAcquire = codes "TRY_ACQUIRE"
macro_word attr.TryAcquireShared = codes "TRY_ACQUIRE_SHARED"
macro_word attr.Excludes = codes "EXCLUDES"
macro_word attr.AcquiredBefore = codes "ACQUIRED_BEFORE"
macro_word attr.AcquiredAfter = codes "ACQUIRED_AFTER"

-- a text, the result of a try as 0 or 1 before its expressions, or expressions
abbrev pub taken : Option (List ℕ) → Option Bool → Arguments → List Piece
taken (Some text) success args = quoted text ∷ []
taken None (Some result) args = numeral (if result then 1 else 0) false ∷ further args
taken None None args = arguments args

abbrev pub attribute_pieces : Attribute → List Piece
attribute_pieces a = word (macro_word a.kind) ∷ (mark marks.OpenCall ∷ (taken a.text a.success a.args ++ mark marks.CloseParenthesis ∷ []))

abbrev pub attributes_pieces : List Attribute → List Piece
attributes_pieces [] = []
attributes_pieces (a ∷ others) = attribute_pieces a ++ attributes_pieces others

abbrev pub base_pieces : Base → List Piece
base_pieces int = word (codes "int") ∷ []
base_pieces unsigned = word (codes "unsigned") ∷ []
base_pieces void = word (codes "void") ∷ []
base_pieces (structure tag) = word (codes "struct") ∷ (word tag.text ∷ [])
base_pieces (enumerated tag) = word (codes "enum") ∷ (word tag.text ∷ [])
base_pieces (alias name) = word name.text ∷ []

abbrev pub const_pieces : Bool → List Piece
const_pieces is_const = if is_const then word (codes "const") ∷ [] else []

-- `const` of the base stands first
abbrev pub specifier_pieces : DeclaredType → List Piece
specifier_pieces t = const_pieces t.base_const ++ base_pieces t.base

abbrev pub star_pieces : (pointer pointer_const : Bool) → List Piece
star_pieces pointer pointer_const = if pointer then mark marks.Star ∷ const_pieces pointer_const else []

abbrev pub type_pieces : DeclaredType → List Piece
type_pieces t = specifier_pieces t ++ star_pieces t.pointer t.pointer_const

abbrev pub length_pieces : Option Expression → List Piece
length_pieces None = []
length_pieces (Some x) = mark marks.OpenBracket ∷ (pieces x 0 ++ mark marks.CloseBracket ∷ [])

abbrev mutual
  pub initialiser_pieces : Initialiser → List Piece
  initialiser_pieces (value x) = pieces x 0
  initialiser_pieces (list items span) = mark marks.OpenBrace ∷ (initialisers_pieces items ++ mark marks.CloseBrace ∷ [])

  pub initialisers_pieces : Initialisers → List Piece
  initialisers_pieces no_more = []
  initialisers_pieces (one_more first rest) = initialiser_pieces first ++ further_pieces rest

  pub further_pieces : Initialisers → List Piece
  further_pieces no_more = []
  further_pieces (one_more first rest) = mark marks.Comma ∷ (initialiser_pieces first ++ further_pieces rest)

abbrev pub init_pieces : Option Initialiser → List Piece
init_pieces None = []
init_pieces (Some x) = assigned None ∷ initialiser_pieces x

-- attributes stand after the declarator; each declarator has a declaration of its own
abbrev pub declaration_pieces : Declaration → List Piece
declaration_pieces d =
    type_pieces d.ctype ++ (word d.name.text ∷ (length_pieces d.ctype.length ++ (attributes_pieces d.attrs ++ init_pieces d.init)))

abbrev pub members_pieces : List Declaration → List Piece
members_pieces [] = []
members_pieces (d ∷ others) = declaration_pieces d ++ (mark marks.Semicolon ∷ members_pieces others)

abbrev pub parameter_pieces : Parameter → List Piece
parameter_pieces p = type_pieces p.ctype ++ name_pieces p.name

abbrev pub further_parameters : List Parameter → List Piece
further_parameters [] = []
further_parameters (p ∷ others) = mark marks.Comma ∷ (parameter_pieces p ++ further_parameters others)

-- an empty parameter list is `void`
abbrev pub parameters_pieces : List Parameter → List Piece
parameters_pieces [] = word (codes "void") ∷ []
parameters_pieces (p ∷ others) = parameter_pieces p ++ further_parameters others

abbrev pub head_pieces : Head → List Piece
head_pieces h =
    type_pieces h.result
    ++ (word h.name.text ∷ (mark marks.OpenCall ∷ (parameters_pieces h.params ++ (mark marks.CloseParenthesis ∷ attributes_pieces h.attrs))))

abbrev pub value_pieces : Option Expression → List Piece
value_pieces None = []
value_pieces (Some x) = assigned None ∷ pieces x 0

abbrev pub constant_pieces : EnumConstant → List Piece
constant_pieces c = word c.name.text ∷ value_pieces c.value

abbrev pub further_constants : List EnumConstant → List Piece
further_constants [] = []
further_constants (c ∷ others) = mark marks.Comma ∷ (constant_pieces c ++ further_constants others)

abbrev pub constants_pieces : List EnumConstant → List Piece
constants_pieces [] = []
constants_pieces (c ∷ others) = constant_pieces c ++ further_constants others

-- a struct or an enum with an alias is written as its typedef
abbrev pub typedef_pieces : Option Identifier → List Piece
typedef_pieces None = []
typedef_pieces (Some name) = word (codes "typedef") ∷ []
