use Rattle.std.proofs.Common.{sym, ap, subst}
use Rattle.std.specs.Prelude.{IsTrue}
use Rattle.elf_types.specs.declared.records.Ehdr.{Ehdr}
use Rattle.elf_xlate.specs.Headers.{ehdr_fits, ehdr_bytes}
use Rattle.rebuild_model.specs.elf_object.Open.{shdrs_bytes}
use Rattle.elf_update_to.proofs.FrontLaws.{written_fits}
use Rattle.rebuild_image.specs.Fronts.{HoldsAppended}
use Rattle.rebuild_image.proofs.HoldLaws.{holds_front}
use Rattle.rebuild_image.proofs.holding.hold_front.Goals as goal

pub hold_header-requires-clause-fits : goal.hold_header-requires-clause-fits
hold_header-requires-clause-fits c =
    subst (λ (h : Ehdr). IsTrue (ehdr_fits h)) (sym c.written_header-written.ensures.value)
    (written_fits c.args.x.now.header c.requires.header)

pub returns-in-Ok-hold_sections-clause-ok : goal.returns-in-Ok-hold_sections-clause-ok
returns-in-Ok-hold_sections-clause-ok c =
    holds_front c.args.x.now c.args.pad c.args.phdrs.now
    (shdrs_bytes c.args.x.now.header.class c.args.x.now.header.order c.as_slice.result.now)
    c.args.held.now c.hold_header.new.held c.hold_segments.new.held c.hold_sections.new.held
    c.in-Ok.range c.in-Ok-hold_segments.range c.in-Ok-hold_sections.table
    (subst (λ (h : Ehdr). HoldsAppended (ehdr_bytes h c.args.pad) c.args.held.now
    c.hold_header.new.held c.in-Ok.range) c.written_header-written.ensures.value c.in-Ok.ensures.ok)
    c.in-Ok-hold_segments.ensures.ok c.in-Ok-hold_sections.ensures.ok
    (ap (shdrs_bytes c.args.x.now.header.class c.args.x.now.header.order) c.as_slice.ensures)
