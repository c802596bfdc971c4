use Rattle.hash_build.proofs.EncodingLaws.{appended_as, encoded_bloom}
use Rattle.hash_build.proofs.encoding.append_bloom.Goals as goal

pub returns-clause-ok : goal.returns-clause-ok
returns-clause-ok c =
    appended_as c.append_items.result c.args.out.now c.append_items.new.out _ _
    (encoded_bloom c.args.form.0 c.args.form.1 c.args.bloom) c.append_items.ensures.ok
