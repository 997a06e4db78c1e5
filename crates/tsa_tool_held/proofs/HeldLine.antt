-- The line of a path's statuses, put together of its parts behind a text.
use Rattle.std.proofs.Common.{◌≡◌, ◌∙◌, ◌+◌, ℕ, Bool, true, false, eqb-true, List, [], ◌∷◌, ◌++◌, nat_eq, refl, sym, ap}
use Rattle.tsa_rules.specs.declared.statuses.Statuses.{Statuses}
use Rattle.tsa_warn_text.specs.Orders.{texts_of}
use Rattle.tsa_warn_text.specs.Ranks.{told_by}
use Rattle.tsa_warn_text.specs.HeldLines.{held_text}
use Rattle.tsa_tool_held.specs.Held.{Account, paths_in, set_line, tries_in, unless_nothing}
use Rattle.tsa_warn.specs.Lines.{held_line, place_of}
use Rattle.tsa_warn.proofs.OneLine.{line_behind}

not_zero : (n : ℕ) → (n ≡ 0 → ⊥) → nat_eq n 0 ≡ false
not_zero n h = by (nat_eq n 0) refl
  where
    by : (b : Bool) → nat_eq n 0 ≡ b → nat_eq n 0 ≡ false
    by true is = absurd (h (eqb-true n 0 is))
    by false is = is

module _ (bytes : List ℕ) (a : Account) (point cap : ℕ) (set : Statuses) where
  abbrev held : List ℕ
  held = held_line bytes (tries_in a) (texts_of a.names (paths_in a)) a.body point cap set

  pub no_line : set.bits ≡ 0 → set_line bytes a point cap set ≡ []
  no_line none = ap (λ n. unless_nothing (nat_eq n 0) held) none

  pub held_is : (set.bits ≡ 0 → ⊥) → (old placed said new : List ℕ) → placed ≡ old ++ place_of bytes a.body.points point
      → said ≡ placed ++ held_text (tries_in a) a.body.name (told_by (texts_of a.names (paths_in a)) cap).text set → new ≡ said ++ 10 ∷ []
      → new ≡ old ++ set_line bytes a point cap set
  unfolding held_line
  held_is some old placed said new is_placed is_said is_new =
      line_behind (place_of bytes a.body.points point) (held_text (tries_in a) a.body.name (told_by (texts_of a.names (paths_in a)) cap).text set) old placed said new is_placed is_said is_new
      ∙ sym (ap (λ b. old ++ unless_nothing b held) (not_zero set.bits some))
