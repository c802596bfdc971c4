use Rattle.std.proofs.Common.{sym}
use Rattle.elf_ident.proofs.CountLemmas.{first_not_needed, first_needed}
use Rattle.elf_ident.proofs.counts.read_first_section.Goals as goal

pub returns-then-not-needs_first-clause-first : goal.returns-then-not-needs_first-clause-first
returns-then-not-needs_first-clause-first g c =
    first_not_needed (g.S.Source.holds c.args.src.now) c.args.h.now (sym c.if-not-needs_first.ensures)

pub returns-clause-first : goal.returns-clause-first
returns-clause-first g c =
    first_needed (g.S.Source.holds c.args.src.now) c.args.h.now _ (sym c.if-not-needs_first.ensures) c.read_shdr_by.ensures.header
