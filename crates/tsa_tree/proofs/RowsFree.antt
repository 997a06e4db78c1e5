-- What is spelled within limits is spelled without them, and so is what begins it. What is refused begins the part.
use Rattle.std.proofs.Common.{ℕ, refl, List, Bool, Option, None}
use Rattle.tsa_base.specs.Tokens.{Lexeme}
use Rattle.tsa_tree.specs.Rows.{Sort, Node, Call, sees, Row, rule}
use Rattle.tsa_grammar.specs.Spelling as forms
use Rattle.tsa_grammar.specs.Spelling.{by_rule, goes_done, goes_token, goes_part, goes_bar, goes_limit, goes_only, goes_left, goes_right}
use Rattle.tsa_grammar.specs.Spelling.{begins_rule, starts_here, starts_barred, starts_bar, starts_token, starts_in, starts_over}
use Rattle.tsa_grammar.specs.Spelling.{starts_limit, starts_only, starts_left, starts_right}
use Rattle.tsa_grammar.specs.Reading.{all}
use Rattle.tsa_grammar.proofs.Exactly.{forget}

module _ (tokens : List Lexeme) (fits : ℕ → Bool) where
  mutual
    pub free_spelled : {s : Sort} {c : Call s} {x : Node s} {a b : ℕ} → forms.Spells (rule tokens) (sees tokens) fits s c x a b
        → forms.Spells (rule tokens) (sees tokens) all s c x a b
    free_spelled (by_rule g) = by_rule (free_goes g)

    free_goes : {s : Sort} {f : Row s} {x : Node s} {a b : ℕ} → forms.Goes (rule tokens) (sees tokens) fits s f x a b
        → forms.Goes (rule tokens) (sees tokens) all s f x a b
    free_goes goes_done = goes_done
    free_goes (goes_token e g) = goes_token e (free_goes g)
    free_goes (goes_part sp g) = goes_part (free_spelled sp) (free_goes g)
    free_goes (goes_bar g) = goes_bar (free_goes g)
    free_goes (goes_limit e g) = goes_limit refl (free_goes g)
    free_goes (goes_only e g) = goes_only e (free_goes g)
    free_goes (goes_left g) = goes_left (free_goes g)
    free_goes (goes_right g) = goes_right (free_goes g)

  mutual
    pub free_begun : {s : Sort} {c : Call s} {a b : ℕ} {w : Option ℕ} → forms.Begins (rule tokens) (sees tokens) fits s c a b w
        → forms.Begins (rule tokens) (sees tokens) all s c a b w
    free_begun (begins_rule g) = begins_rule (free_starts g)

    free_starts : {s : Sort} {f : Row s} {a b : ℕ} {w : Option ℕ} → forms.Starts (rule tokens) (sees tokens) fits s f a b w
        → forms.Starts (rule tokens) (sees tokens) all s f a b w
    free_starts starts_here = starts_here
    free_starts (starts_barred p) = starts_barred p
    free_starts (starts_bar g) = starts_bar (free_starts g)
    free_starts (starts_token e g) = starts_token e (free_starts g)
    free_starts (starts_in g) = starts_in (free_begun g)
    free_starts (starts_over sp g) = starts_over (free_spelled sp) (free_starts g)
    free_starts (starts_limit e g) = starts_limit refl (free_starts g)
    free_starts (starts_only e g) = starts_only e (free_starts g)
    free_starts (starts_left g) = starts_left (free_starts g)
    free_starts (starts_right g) = starts_right (free_starts g)

  pub begun_to_bar : {s : Sort} {c : Call s} {a b : ℕ} {w : Option ℕ} → forms.Begins (rule tokens) (sees tokens) fits s c a b w
      → forms.Begins (rule tokens) (sees tokens) fits s c a b None
  begun_to_bar g = forget (rule tokens) (sees tokens) fits g
