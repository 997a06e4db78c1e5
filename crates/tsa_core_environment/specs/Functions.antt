-- What is left where a function ends, and what is known inside it (C11 6.2.1p4).
use Rattle.std.specs.Prelude.{◌≡◌, Bool, length}
use Rattle.tsa_tree.specs.declarations.Syntax.{Head}
use Rattle.tsa_tree.specs.types.Heads.{behind_head, inside}
use Rattle.tsa_tree.specs.types.Scopes.{Scope, with_locals}
use Rattle.tsa_core_environment.specs.declared.heads.Outside.{Outside}

-- the names that are known behind the head, and the locals before it
abbrev pub outside_of : Scope → Head → Bool → Outside
outside_of here head with_body = record { names = length (behind_head here head with_body).names; locals = here.locals }

-- what is known in a function outside of its blocks, whatever locals were counted
abbrev pub IsInside : Scope → Head → Bool → Scope → Type 0
IsInside here head with_body there = with_locals 0 there ≡ with_locals 0 (inside here head with_body)
