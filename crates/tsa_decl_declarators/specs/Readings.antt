-- What the readers of pieces and of locals give is without the arena.
use Rattle.std.specs.Prelude.{ℕ, ◌+◌, List, Bool, option_map}
use Rattle.std.specs.declared.option.Option.{Option}
use Rattle.tsa_tree.specs.declared.expr.Name.{Name}
use Rattle.tsa_tree.specs.attributes.Syntax.{Attribute, attr_shapes}
use Rattle.tsa_tree.specs.declarations.Syntax.{Base, Specified, Declarator, Declared, Declaration, Initialiser}
use Rattle.tsa_tree.specs.declarations.Spelling.{Role, a_member, a_global}
use Rattle.tsa_tree.specs.expressions.Syntax.{Identifier, Expression}
use Rattle.tsa_tree.specs.declarations.Shapes.{base_shape, init_shape, decl_shape}
use Rattle.tsa_tree.specs.expressions.Shapes.{name_shape, shape}
use Rattle.tsa_decl_declarators.specs.declared.declarators.Star.{Star}
use Rattle.tsa_decl_declarators.specs.declared.declarator.Declarator as read_declarator
use Rattle.tsa_decl_declarators.specs.declared.declarators.Length.{Length}
use Rattle.tsa_decl_declarators.specs.declared.declarations.Role as read_role
use Rattle.tsa_decl_declarators.specs.declared.declarations.Role.TheVariants.{Member, Global}
use Rattle.tsa_decl_declarators.specs.declared.declarations.Initialisation.{Initialisation}
use Rattle.tsa_decl_declarators.specs.declared.declarations.Suffix.{Suffix}
use Rattle.tsa_decl_declarators.specs.declared.declarations.Declared as read_declared
use Rattle.tsa_decl_declarators.specs.declared.initialisers.InitialiserReading.{InitialiserReading}
use Rattle.tsa_decl_declarators.specs.declared.locals.Local.{Local}
use Rattle.tsa_decl_declarators.specs.declared.types.Specified as read_specified
use Rattle.tsa_decl_declarators.specs.declared.types.BaseReading.{BaseReading}

-- the name that stands at a place
abbrev pub seen_name : ℕ → Name → Identifier × ℕ
seen_name at name = (name_shape name, at + 1)

-- a base, and the place after it
abbrev pub seen_base : BaseReading → Base × ℕ
seen_base r = (base_shape r.base, r.next)

-- a type without the place after it
abbrev pub row_type : read_specified.Specified → Specified
row_type r = record { base = base_shape r.base; is_const = r.is_const }

-- a type, and the place after it
abbrev pub seen_specified : read_specified.Specified → Specified × ℕ
seen_specified r = (row_type r, r.next)

-- whether there is a star, whether `const` stands after it, and the place after both
abbrev pub seen_star : Star → Bool × Bool × ℕ
seen_star r = (r.pointer, r.constant, r.next)

-- a declarator without the place after it
abbrev pub row_declarator : read_declarator.Declarator → Declarator
row_declarator r = record { pointer = r.pointer; pointer_const = r.pointer_const; name = name_shape r.name; start = r.start }

-- a declarator, and the place after it
abbrev pub seen_declarator : read_declarator.Declarator → Declarator × ℕ
seen_declarator r = (row_declarator r, r.next)

-- the length of an array where there is one, and the place after it
abbrev pub seen_length : Length → Option Expression × ℕ
seen_length r = (option_map (λ x. shape x.now) r.length, r.next)

-- an initialiser, and the place after it
abbrev pub seen_value : InitialiserReading → Initialiser × ℕ
seen_value r = (init_shape r.init, r.next)

-- an initialiser where there is one, and the place after it
abbrev pub seen_init : Initialisation → Option Initialiser × ℕ
seen_init r = (option_map init_shape r.init, r.next)

-- what follows a declarator's name, and the place after it
abbrev pub seen_suffix : Suffix → (Option Expression × List Attribute × Option Initialiser) × ℕ
seen_suffix r = ((option_map (λ x. shape x.now) r.length, attr_shapes r.attrs.now, option_map init_shape r.init), r.next)

-- members stand in their struct's braces, and globals where no construct is open
abbrev pub row_role : read_role.Role → Role
row_role Member = a_member
row_role Global = a_global

-- how many constructs are open where a declarator stands
abbrev pub role_depth : read_role.Role → ℕ
role_depth Member = 1
role_depth Global = 0

-- a declaration, whether another one follows, and the place after its comma or `;`
abbrev pub seen_declared : read_declared.Declared → Declared × ℕ
seen_declared r = (record { declaration = decl_shape r.decl; goes_on = r.goes_on }, r.next)

-- a local, and the place after it
abbrev pub seen_local : Local → Declaration × ℕ
seen_local r = (decl_shape r.decl, r.next)
