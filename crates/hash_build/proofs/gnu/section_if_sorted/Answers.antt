use Rattle.hash_build.proofs.GnuLaws.{unsorted_follows, sorted_follows, want_alone}
use Rattle.hash_build.proofs.gnu.section_if_sorted.Goals as goal

pub returns-in-Some-clause-follows : goal.returns-in-Some-clause-follows
returns-in-Some-clause-follows c =
    unsorted_follows c.args.form.0 c.args.form.1 c.args.shape c.args.hashes.now c.in-Some.at
    c.in-Some.ensures

pub returns-in-None-clause-follows : goal.returns-in-None-clause-follows
returns-in-None-clause-follows c =
    sorted_follows c.args.form.0 c.args.form.1 c.args.shape c.args.hashes.now
    c.section_of.result c.in-None.ensures c.section_of.ensures.ok c.section_of.ensures.err

pub returns-in-None-clause-err : goal.returns-in-None-clause-err
returns-in-None-clause-err c = want_alone c.section_of.result c.section_of.ensures.err
