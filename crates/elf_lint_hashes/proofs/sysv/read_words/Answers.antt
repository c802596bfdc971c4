use Rattle.std.proofs.Common.{take, arith}
use Rattle.tool_objects.proofs.LearnLemmas.{learns_now, learns_then, learns_as}
use Rattle.elf_lint_findings.specs.Looking.{section_words}
use Rattle.elf_lint_hashes.proofs.SysvWords.{word_more, words_all}
use Rattle.elf_lint_hashes.proofs.sysv.read_words.Goals as goal

pub loop-i-init : goal.loop-i-init
loop-i-init g c = learns_now g.S.Source _ _ _ (λ told. c.new-list.ensures)

pub loop-i-preserved : goal.loop-i-preserved
loop-i-preserved g c =
    learns_then g.S.Source _ _ _ _ _ _ _ _
    (λ told known. word_more (section_words c.args.elf.now.o c.args.s.0) c.loop-i.list c.loop-i.i known)
    c.loop-i.invariant c.in_ok-list.ensures

pub returns : goal.returns
returns g c =
    learns_as g.S.Source (λ o. section_words o c.args.s.0) (λ o. take c.loop-i.i (section_words o c.args.s.0)) _
    c.args.elf.now _
    (λ told. words_all (section_words c.args.elf.now.o c.args.s.0) c.loop-i.i
    (omega (arith, c.requires, c.loop-i-test.false)))
    c.loop-i.invariant
