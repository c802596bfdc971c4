use Rattle.std.proofs.Common.{false}
use Rattle.elf_types.specs.declared.records.Kind.TheVariants as kinds
use Rattle.hash_model.specs.elf_object.Answers.{words_of}
use Rattle.hash_model.specs.HashSections.{is_whole_sysv}
use Rattle.hash_model.specs.Listed.{listed_names}
use Rattle.tool_objects.proofs.LearnLemmas.{learns_now}
use Rattle.elf_lint_findings.specs.Looking.{section_words}
use Rattle.elf_lint_findings.proofs.LentLemmas.{no_count}
use Rattle.elf_lint_hashes.proofs.LentLemmas.{words_counted}
use Rattle.elf_lint_hashes.proofs.SysvWhole.{whole_of_none}
use Rattle.elf_lint_hashes.proofs.sysv.is_whole.Goals as goal

pub is_whole_with-requires-clause-total : goal.is_whole_with-requires-clause-total
is_whole_with-requires-clause-total g c = words_counted c.args.elf.now.o c.args.s.0 c.in-Ok.total c.in-Ok.ensures.answer

pub returns-in-Err : goal.returns-in-Err
unfolding section_words
returns-in-Err g c =
    let o = c.args.elf.now.o in
    let s = c.args.s.0 in
    learns_now g.S.Source (λ m. is_whole_sysv (section_words m s) (listed_names m c.args.l.section.0)) false c.args.elf.now
    (λ told. whole_of_none (section_words o s) (listed_names o c.args.l.section.0) (no_count o s kinds.Word words_of c.in-Err.field-0 c.in-Err.ensures.answer))
