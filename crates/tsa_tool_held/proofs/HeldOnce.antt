-- There is one text of each body's held sets, and so one of a unit's.
use Rattle.std.proofs.Common.{◌≡◌, ◌∙◌, ℕ, List, sym, ap, subst}
use Rattle.std.proofs.lemmas.List.Sorted.{Contains-permutation, IsPermutation-sym}
use Rattle.tsa_tree.specs.units.Syntax.{UnitItem}
use Rattle.tsa_rules.specs.Walks.{ReachAt, course_of}
use Rattle.tsa_rules.specs.declared.statuses.Statuses.{Statuses}
use Rattle.tsa_rules.proofs.SetBits.{sets_are_their_statuses}
use Rattle.tsa_warn_text.specs.Orders.{IsToldBefore, texts_of}
use Rattle.tsa_warn_text.specs.Ranks.{numbers_of}
use Rattle.tsa_warn_text.proofs.Telling.{not_both_are_told_first}
use Rattle.tsa_warn.specs.Bodies.{BodyText}
use Rattle.tsa_tool_held.specs.Held.{Account, IsAccountHeld, IsBodyHeld, IsOrder, IsPathLine, IsPointText, IsSetAt, account, paths_in}
use Rattle.tsa_tool_held.specs.Held.{set_line}
use Rattle.tsa_tool_held.specs.Pieces.{Pieces}
use Rattle.tsa_tool_held.proofs.Pieces.{one_text}
use Rattle.tsa_warn.proofs.SortedOnce.{sorted_once}
use Rattle.tsa_base.proofs.Options.{some_same as same}

-- the set of a path at a point
set_once : (a : Account) (point cap : ℕ) (s t : Statuses) → IsSetAt a point cap s → IsSetAt a point cap t → s ≡ t
set_once a point cap s t h g =
    let path : h.path ≡ g.path = same (sym h.is_there ∙ g.is_there) in
    sets_are_their_statuses s t h.small g.small (λ x. (
      λ has. (g.has x).1 (subst (λ c. ReachAt (course_of a.program a.function c) point x) path ((h.has x).0 has)),
      λ has. (h.has x).1 (subst (λ c. ReachAt (course_of a.program a.function c) point x) (sym path) ((g.has x).0 has)),
    ))

path_line_once : (bytes : List ℕ) (a : Account) (point cap : ℕ) (x y : List ℕ) → IsPathLine bytes a point cap x → IsPathLine bytes a point cap y → x ≡ y
path_line_once bytes a point cap x y (s, is_s, line) (t, is_t, other) = line ∙ ap (set_line bytes a point cap) (set_once a point cap s t is_s is_t) ∙ sym other

pub point_text_once : (bytes : List ℕ) (a : Account) (order : List ℕ) (point : ℕ) (x y : List ℕ) → IsPointText bytes a order point x → IsPointText bytes a order point y → x ≡ y
point_text_once bytes a order point x y h g = one_text (IsPathLine bytes a point) (path_line_once bytes a point) order x y h g

pub order_once : (a : Account) (x y : List ℕ) → IsOrder a x → IsOrder a y → x ≡ y
order_once a x y h g =
    let numbers = numbers_of (texts_of a.names (paths_in a)) in
    sorted_once (IsToldBefore a.names (paths_in a)) (λ v w one other. not_both_are_told_first a.names (paths_in a) v w one other) x y h.ordered g.ordered
    (λ n in_x. Contains-permutation numbers y n g.each (Contains-permutation x numbers n (IsPermutation-sym numbers x h.each) in_x))
    (λ n in_y. Contains-permutation numbers x n h.each (Contains-permutation y numbers n (IsPermutation-sym numbers y g.each) in_y))

pub account_held_once : (bytes : List ℕ) (a : Account) (x y : List ℕ) → IsAccountHeld bytes a x → IsAccountHeld bytes a y → x ≡ y
account_held_once bytes a x y h g =
    let order : h.order ≡ g.order = order_once a h.order g.order h.is_order g.is_order in
    one_text (IsPointText bytes a g.order) (point_text_once bytes a g.order) _ x y (subst (λ o. Pieces (IsPointText bytes a o) _ x) order h.points) g.points

pub body_held_once : (bytes : List ℕ) (items : List UnitItem) (b : BodyText) (x y : List ℕ) → IsBodyHeld bytes items b x → IsBodyHeld bytes items b y → x ≡ y
body_held_once bytes items b x y h g =
    let f : h.function ≡ g.function = same (sym h.is_there ∙ g.is_there) in
    account_held_once bytes (account items g.function b) x y (subst (λ f. IsAccountHeld bytes (account items f b) x) f h.held) g.held

pub held_once : (bytes : List ℕ) (items : List UnitItem) (bodies : List BodyText) (x y : List ℕ) → Pieces (IsBodyHeld bytes items) bodies x → Pieces (IsBodyHeld bytes items) bodies y → x ≡ y
held_once bytes items bodies x y h g = one_text (IsBodyHeld bytes items) (body_held_once bytes items) bodies x y h g
