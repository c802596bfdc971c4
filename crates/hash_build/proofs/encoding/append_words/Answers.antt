use Rattle.hash_build.proofs.EncodingLaws.{appended_as, encoded_words, words_any}
use Rattle.hash_build.proofs.encoding.append_words.Goals as goal

pub append_items-requires : goal.append_items-requires
append_items-requires c = words_any c.args.form.0 c.args.words

pub returns-clause-ok : goal.returns-clause-ok
returns-clause-ok c =
    appended_as c.append_items.result c.args.out.now c.append_items.new.out _ _
    (encoded_words c.args.form.0 c.args.form.1 c.args.words) c.append_items.ensures.ok
