-- Lines, put together of their parts behind a text.
use Rattle.std.proofs.Common.{◌≡◌, ◌∙◌, ◌+◌, ◌≤◌, ◌<◌, arith, ℕ, suc, List, [], ◌∷◌, ◌++◌, length, drop, Option, Some, None, option_map}
use Rattle.std.proofs.Common.{slice_index_or, sym, ap, append_assoc, append-nil}
use Rattle.std.proofs.Math.Seq.{drop-cons}
use Rattle.std.proofs.lemmas.List.{drop_all, length-append}
use Rattle.std.specs.List.{flat_map}
use Rattle.std.specs.Option.{option_map_or, unwrap_or}
use Rattle.tsa_place_model.specs.Ways.{Way}
use Rattle.tsa_core.specs.Programs.{Function, Program}
use Rattle.tsa_warn_text.specs.Ranks.{PathText, told_by}
use Rattle.tsa_warn_text.specs.Lines.{warning_text}
use Rattle.tsa_warn_function.specs.declared.failure.RuleFailure.{RuleFailure}
use Rattle.tsa_warn_bodies.specs.Bodies.{BodyText}
use Rattle.tsa_warn.specs.Lines.{kind_text, place_of, warning_line}

together : (text place says end : List ℕ) → ((text ++ place) ++ says) ++ end ≡ text ++ (place ++ (says ++ end))
together text place says end = append_assoc (text ++ place) says end ∙ append_assoc text place (says ++ end)

-- a line behind a text
pub line_behind : (place says old placed said new : List ℕ) → placed ≡ old ++ place → said ≡ placed ++ says → new ≡ said ++ 10 ∷ [] → new ≡ old ++ (place ++ (says ++ 10 ∷ []))
line_behind place says old placed said new is_placed is_said is_new =
    is_new ∙ ap (λ t. t ++ 10 ∷ []) (is_said ∙ ap (λ t. t ++ says) is_placed) ∙ together old place says (10 ∷ [])

-- .. is longer than nothing
pub longer : (place says old placed said new : List ℕ) → placed ≡ old ++ place → said ≡ placed ++ says → new ≡ said ++ 10 ∷ [] → length old < length new
longer place says old placed said new is_placed is_said is_new =
    let whole = ap length (line_behind place says old placed said new is_placed is_said is_new) ∙ length-append old (place ++ (says ++ 10 ∷ [])) in
    let parts = length-append place (says ++ 10 ∷ []) in
    let end = length-append says (10 ∷ []) in
    omega (arith, whole, parts, end)

-- the text of a kind that may not be there
pub kind_is : {R : Type 0} (now : R → List ℕ) (k : Option R) (o : Option Way) (text : Way → List ℕ) (e : R) → now e ≡ [] → option_map now k ≡ option_map text o
    → now (unwrap_or k e) ≡ option_map_or text o []
kind_is now None None text e empty is = empty
kind_is now None (Some w) text e empty is = absurd cc
kind_is now (Some r) None text e empty is = absurd cc
kind_is now (Some r) (Some w) text e empty is = cc

module _ (bytes : List ℕ) (u : Program) (f : Function) (paths : List Way) (texts : List PathText) (b : BodyText) (w : RuleFailure) where
  pub warned_is : (kind old placed said new : List ℕ) → kind ≡ kind_text u f paths w.cap → placed ≡ old ++ place_of bytes b.points w.point
      → said ≡ placed ++ warning_text w.rule b.name kind (told_by texts w.cap).text → new ≡ said ++ 10 ∷ [] → new ≡ old ++ warning_line bytes u f paths texts b w
  unfolding warning_line
  warned_is kind old placed said new is_kind is_placed is_said is_new =
      line_behind (place_of bytes b.points w.point) (warning_text w.rule b.name (kind_text u f paths w.cap) (told_by texts w.cap).text) old placed said new is_placed
      (is_said ∙ ap (λ k. placed ++ warning_text w.rule b.name k (told_by texts w.cap).text) is_kind) is_new

-- texts of things one after another
module _ {X : Type 0} (text : X → List ℕ) (xs : List X) (i : ℕ) where
  pub one_on : (d : X) (old new whole : List ℕ) → i < length xs → new ≡ old ++ text (slice_index_or xs i d) → old ++ flat_map text (drop i xs) ≡ whole
      → new ++ flat_map text (drop (i + 1) xs) ≡ whole
  one_on d old new whole less is h =
      let plus : suc i ≡ i + 1 = omega arith in
      let rest = drop-cons xs i d less ∙ ap (λ k. slice_index_or xs i d ∷ drop k xs) plus in
      ap (λ t. t ++ flat_map text (drop (i + 1) xs)) is
      ∙ append_assoc old (text (slice_index_or xs i d)) (flat_map text (drop (i + 1) xs))
      ∙ sym (ap (λ ys. old ++ flat_map text ys) rest)
      ∙ h

  pub all_on : (old whole : List ℕ) → length xs ≤ i → old ++ flat_map text (drop i xs) ≡ whole → old ≡ whole
  all_on old whole end h = sym (append-nil old) ∙ sym (ap (λ ys. old ++ flat_map text ys) (drop_all i xs end)) ∙ h
