use Rattle.std.proofs.Common.{◌∙◌, Some, map, option_map, string_bytes, sym, ap}
use Rattle.std.proofs.lemmas.Option.{slice_get-get_or, slice_get-map}
use Rattle.tsa_tool_starts.proofs.WordLists.{goes_on, refused, same_word}
use Rattle.tsa_tool_starts.specs.Units.{items_in}
use Rattle.tsa_tool_starts.proofs.starter.Starter.starts.Goals as goal

pub returns-then-not-branch-clause-refused : goal.returns-then-not-branch-clause-refused
returns-then-not-branch-clause-refused c = λ number is.
    refused (items_in c.args.self.now) c.args.self.now.places.now (map string_bytes c.args.words.now) c.each.starts.items c.each.number number c.as_bytes.result.now (same_word c.each.number number is)
    (slice_get-map string_bytes c.args.words.now c.each.number
    ∙ ap (option_map string_bytes) (slice_get-get_or c.args.words.now c.each.number c.index-words-number.result c.each-test.true)
    ∙ ap (λ w. Some (string_bytes w)) (sym c.index-words-number.is) ∙ ap Some (sym c.as_bytes.ensures.value))
    c.each.invariant (c.in_ok-put_start.ensures.bad c.if-not-branch.true)

pub each-preserved : goal.each-preserved
each-preserved c =
    let good = c.in_ok-put_start.ensures.good c.if-not-branch.false in
    goes_on (items_in c.args.self.now) c.args.self.now.places.now (map string_bytes c.args.words.now) c.each.starts.items c.put_start.new.starts.items c.each.number c.as_bytes.result.now good.0
    (slice_get-map string_bytes c.args.words.now c.each.number
    ∙ ap (option_map string_bytes) (slice_get-get_or c.args.words.now c.each.number c.index-words-number.result c.each-test.true)
    ∙ ap (λ w. Some (string_bytes w)) (sym c.index-words-number.is) ∙ ap Some (sym c.as_bytes.ensures.value))
    c.each.invariant good.1.0 good.1.1
