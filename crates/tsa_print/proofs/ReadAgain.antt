-- Canonical text is read again, and what was read from a text can be written so.
use Rattle.std.proofs.Common.{length}
use Rattle.std.proofs.lemmas.Bool.{and_parts, and_from}
use Rattle.tsa_tree.specs.expressions.Answers.{an_expression}
use Rattle.tsa_tree.specs.expressions.Sound.{words_beside, is_sound}
use Rattle.tsa_tree.proofs.expressions.OneTree.{one_tree}
use Rattle.tsa_tree.proofs.expressions.ReadSound.{read_is_sound}
use Rattle.tsa_print.specs.Canonical.{pieces, canonical}
use Rattle.tsa_print.specs.Writable.{has_plain_bases}
use Rattle.tsa_print.specs.PrintLaws.{WritableIsReadAgain, ReadIsWritable}
use Rattle.tsa_print.proofs.CanonicalApart.{canonical_apart}
use Rattle.tsa_print.proofs.CanonicalTokens.{written_tokens}
use Rattle.tsa_print.proofs.CanonicalTrees.{pieces_spell}

pub writable_is_read_again : WritableIsReadAgain
unfolding canonical
writable_is_read_again aliases tree writable =
    let lexed = written_tokens (pieces tree 0) (canonical_apart aliases tree writable) in
    let tokens = lexed.0 in
    let sound = (and_parts (is_sound (words_beside aliases) tree) (has_plain_bases tree) writable).0 in
    let spelled = pieces_spell aliases tree tokens sound lexed.2 in
    record {
      tokens = tokens;
      of_text = lexed.1;
      read = spelled.0;
      spelled = spelled.1;
      same = spelled.2;
      no_other = λ other h. one_tree tokens aliases an_expression 0 other spelled.0 0 (length tokens) h spelled.1;
    }

pub read_is_writable : ReadIsWritable
read_is_writable text tokens aliases p depth tree a b lexed spelled plain_bases =
    and_from (is_sound (words_beside aliases) tree) (has_plain_bases tree) (read_is_sound text tokens aliases p depth tree a b lexed spelled) plain_bases
