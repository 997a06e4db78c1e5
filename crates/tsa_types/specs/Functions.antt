-- What is known from the first declaration of a function on.
use Rattle.std.specs.Prelude.{Bool, ◌∷◌, [], ◌++◌, length}
use Rattle.tsa_tree.specs.declarations.Syntax.{Head}
use Rattle.tsa_tree.specs.declared.kind.ThingType.{ThingType}
use Rattle.tsa_tree.specs.declared.meaning.Entry.{Entry}
use Rattle.tsa_tree.specs.declared.meaning.Meaning.TheVariants as known
use Rattle.tsa_tree.specs.types.Heads.{params_of}
use Rattle.tsa_tree.specs.types.Scopes.{Scope, FunctionEntry, with_name, with_functions}

abbrev pub first_entry : Scope → ThingType → Entry
first_entry here gives = record { meaning = known.Function (length here.functions); thing = gives }

abbrev pub first_types : Scope → Head → Bool → ThingType → FunctionEntry
first_types here head with_body gives = record { result = gives; params = params_of here head.params; has_body = with_body }

-- a first declaration, whose result has a type
abbrev pub first_known : Scope → Head → Bool → ThingType → Scope
first_known here head with_body gives =
    with_functions (here.functions ++ first_types here head with_body gives ∷ []) (with_name head.name.text (first_entry here gives) here)
