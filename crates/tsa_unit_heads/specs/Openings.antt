-- Keywords by how their statements go on.
use Rattle.std.specs.Prelude.{◌≢◌, Bool, true, false}
use Rattle.tsa_tree.specs.declared.sign.Keyword.{Keyword}
use Rattle.tsa_tree.specs.declared.sign.Keyword.TheVariants as key

-- a keyword that begins a statement whose body ends it
abbrev pub ends_with_body : Keyword → Bool
ends_with_body key.While = true
ends_with_body key.Switch = true
ends_with_body key.For = true
ends_with_body key.Case = true
ends_with_body key.Default = true
ends_with_body word = false

-- a keyword that begins no statement with a body
abbrev pub HoldsNoBody : Keyword → Type 0
HoldsNoBody word =
    (word ≢ key.If) × (word ≢ key.Do) × (word ≢ key.While) × (word ≢ key.Switch) × (word ≢ key.For) × (word ≢ key.Case) × (word ≢ key.Default)
