use Rattle.std.proofs.Common.{Ok, sym, ap, ◌∙◌}
use Rattle.lines_tool.proofs.TableLemmas.{out_answered, compressed_there, compressed_out}
use Rattle.lines_tool.proofs.tables.refuse_compressed.Goals as goal

pub unreachable-requires : goal.unreachable-requires
unreachable-requires g c = out_answered c.args.name.now c.args.elf.now.o c.args.s.0 c.requires.there _ (sym c.is_out_of_file.ensures.value ∙ c.in-Err.is)

pub returns-in-Ok-true-clause-reports : goal.returns-in-Ok-true-clause-reports
returns-in-Ok-true-clause-reports g c =
    rw (compressed_out c.args.name.now c.args.elf.now.o c.args.s.0 c.requires.there
    (sym c.is_out_of_file.ensures.value ∙ c.in-Ok-true.is ∙ ap Ok c.in-Ok-true.field-0-test)) c.refuse.ensures.reports

pub returns-in-Ok-false-clause-reports : goal.returns-in-Ok-false-clause-reports
returns-in-Ok-false-clause-reports g c =
    rw (compressed_there c.args.name.now c.args.elf.now.o c.args.s.0 c.requires.there c.requires.compressed
    (sym c.is_out_of_file.ensures.value ∙ c.in-Ok-false.is ∙ ap Ok c.in-Ok-false.field-0-test)) c.refuse_section.ensures.reports
