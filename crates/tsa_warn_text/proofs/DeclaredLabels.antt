-- The names that the points of a body declare, with the kinds of its locals, are the labels of these.
use Rattle.std.proofs.Common.{◌≡◌, ◌∙◌, ℕ, List, [], ◌∷◌, ◌++◌, Some, map, refl, sym, ap, ap₂}
use Rattle.std.specs.List.{flat_map}
use Rattle.tsa_tree.specs.declarations.Shapes.{head_shape}
use Rattle.tsa_tree.specs.declarations.Syntax.{Parameter}
use Rattle.tsa_tree.specs.declared.item.FnTree.{FnTree}
use Rattle.tsa_tree.specs.declared.kind.Kind.{Kind}
use Rattle.tsa_tree.specs.declared.kind.Kind.TheVariants.{Int}
use Rattle.tsa_tree.specs.points.Syntax.{Deed, declares, evaluates, assigns, tests, switches, jumps, idles, returns, ends, PlacedDeed}
use Rattle.tsa_tree.specs.points.Syntax.{points_of_body}
use Rattle.tsa_tree.specs.statements.Shapes.{point_shape}
use Rattle.tsa_tree.specs.statements.Syntax.{Statements}
use Rattle.tsa_tree.specs.types.DeclaredTypes.{thing_type}
use Rattle.tsa_tree.specs.types.Scopes.{Scope}
use Rattle.tsa_core.specs.Bodies.{Known, kinds_by, kinds_declared, known_in_body}
use Rattle.tsa_core.specs.Programs.{Bodied, Declared}
use Rattle.tsa_core.proofs.TextPoints.{points_are_those}
use Rattle.tsa_path.specs.PathTexts.{Label}
use Rattle.tsa_rules.specs.Legends.{declared_label, declared_labels, label, local_labels, param_labels}
use Rattle.tsa_warn_text.specs.DeclaredNames.{AreOfBody, IsBodyOf, NamesAndKindsAreTheLabels, declared_texts, labels_with, text_by}

-- the names by what is done, wherever that stands
texts_placed : (ps : List PlacedDeed) → declared_texts ps ≡ flat_map text_by (map (λ p. p.deed) ps)
texts_placed [] = refl
texts_placed (p ∷ ps) = ap (λ ts. text_by p.deed ++ ts) (texts_placed ps)

-- a declaration has a name and a kind, and all else has neither
one_more : (here : Scope) (d : Deed) (texts : List (List ℕ)) (kinds : List Kind) (labels : List Label) → labels_with texts kinds ≡ labels
    → labels_with (text_by d ++ texts) (kinds_by here d ++ kinds) ≡ declared_label here d ++ labels
one_more here (declares d) texts kinds labels same = ap (λ ls. label d.name.text (thing_type here d.ctype).kind ∷ ls) same
one_more here (evaluates e) texts kinds labels same = same
one_more here (assigns left op right) texts kinds labels same = same
one_more here (tests e) texts kinds labels same = same
one_more here (switches e) texts kinds labels same = same
one_more here jumps texts kinds labels same = same
one_more here idles texts kinds labels same = same
one_more here (returns e) texts kinds labels same = same
one_more here ends texts kinds labels same = same

labels_known : (ks : List Known) → labels_with (flat_map text_by (map (λ k. k.deed) ks)) (kinds_declared ks) ≡ declared_labels ks
labels_known [] = refl
labels_known (k ∷ ks) = one_more k.here k.deed (flat_map text_by (map (λ k. k.deed) ks)) (kinds_declared ks) (declared_labels ks) (labels_known ks)

pub names_and_kinds : NamesAndKindsAreTheLabels
names_and_kinds here body close =
    ap (λ ts. labels_with ts (kinds_declared (known_in_body here body)))
    (texts_placed (points_of_body body close) ∙ sym (ap (flat_map text_by) (points_are_those here Int body close).0))
    ∙ labels_known (known_in_body here body)

-- the same of points and kinds that are those of the body
pub by_points : (points : List PlacedDeed) (kinds : List Kind) (here : Scope) (body : Statements) → AreOfBody points kinds here body
    → labels_with (declared_texts points) kinds ≡ declared_labels (known_in_body here body)
by_points points kinds here body are = ap₂ (λ ps ks. labels_with (declared_texts ps) ks) are.points are.locals ∙ names_and_kinds here body are.close

-- the parameters' labels and these are those of all locals
pub all_labels : (s : Scope) (tree : FnTree) (first : List Parameter) (kinds : List Kind) (d : Declared) (b : Bodied)
    → IsBodyOf s tree first kinds d b
    → param_labels s (head_shape tree).params first ++ labels_with (declared_texts (map point_shape tree.points.now)) kinds
    ≡ local_labels d (Some b)
all_labels s tree first kinds d b is =
    ap₂ (λ ps ls. ps ++ ls)
    (ap₂ (λ s ps. param_labels s ps first) (sym is.here) (sym is.params) ∙ ap (param_labels b.here b.head.params) (sym is.first_params))
    (by_points (map point_shape tree.points.now) kinds b.here b.body is.own)
