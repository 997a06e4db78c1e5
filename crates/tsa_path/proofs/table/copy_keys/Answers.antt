use Rattle.std.proofs.Common.{◌≡◌, ◌∙◌, List, length, take, Some, slice_get, refl, ap, sym}
use Rattle.std.proofs.lemmas.Option.{slice_get_read}
use Rattle.indexmap.specs.IndexSet.{insert_key}
use Rattle.tsa_path.specs.declared.key.Key.{Key}
use Rattle.tsa_path.specs.contracts.key.KeyPartialEq.TheImpl as test
use Rattle.tsa_path.proofs.KeyCopies.{next_inserted}
use Rattle.tsa_path.proofs.table.copy_keys.Goals as goal

pub each-preserved : goal.each-preserved
each-preserved c =
    let keys = c.args.keys.now.keys in
    let items = c.as_slice-key-items.result.now in
    let at = c.each.key-index in
    let key = c.key-item.result in
    let there : slice_get keys at ≡ Some key =
    ap (λ (xs : List Key). slice_get xs at) (sym c.as_slice-key-items.ensures.keys) ∙ slice_get_read items (length items) at key refl c.each-test.true c.key-item.is
    in
    c.in_ok-insert.ensures.keys
    ∙ ap (λ (front : List Key). insert_key test.ghosts.eq front c.in_ok-same.same) c.each.invariant
    ∙ ap (insert_key test.ghosts.eq (take at keys)) c.in_ok-same.ensures
    ∙ next_inserted keys key at c.as_slice-key-items.ensures.unique there
