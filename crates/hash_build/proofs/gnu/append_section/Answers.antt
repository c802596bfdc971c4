use Rattle.std.proofs.Common.{arith}
use Rattle.hash_build.proofs.GnuLaws.{section_laid}
use Rattle.hash_build.proofs.gnu.append_section.Goals as goal

pub returns-clause-ok : goal.returns-clause-ok
returns-clause-ok c =
    section_laid c.args.form.0 c.args.form.1 c.args.shape c.args.hashes.now
    c.append_parts.result c.args.out.now c.append_parts.new.out c.in_ok-head.head
    c.in_ok-words.words c.in_ok-bloom.bloom _ c.first_hashed-from.result
    c.in_ok-head.ensures.ok c.in_ok-bloom.ensures.ok c.in_ok-words.ensures.ok
    c.first_hashed-from.ensures.value
    (omega (arith, c.first_hashed-from.ensures.within, c.requires.few))
    c.append_parts.ensures.ok
