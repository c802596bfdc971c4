use Rattle.std.proofs.Common.{ap}
use Rattle.elf_types.specs.declared.records.Shdr.{Shdr}
use Rattle.hash_order.specs.Plans.{signed}
use Rattle.hash_order.proofs.StoreLaws.{shdr_there, shdr_stores, never_stored}
use Rattle.hash_order.proofs.storing.put_signature.Goals as goal

pub section_header-header-requires : goal.section_header-header-requires
section_header-header-requires g c = shdr_there c.args.elf.now.o c.args.n _ c.requires

pub returns : goal.returns
returns g c =
    shdr_stores g.S.Source c.args.elf.now _ c.args.n
    (signed c.args.elf.now.o c.args.n c.args.info)
    (record c.section_header-header.result { info = c.args.info }) c.requires
    (ap (λ (h : Shdr). record h { info = c.args.info }) c.section_header-header.ensures)
    c.in-Ok.ensures.state

pub unreachable-requires : goal.unreachable-requires
unreachable-requires g c =
    never_stored c.args.elf.now.o c.args.n (signed c.args.elf.now.o c.args.n c.args.info)
    (record c.section_header-header.result { info = c.args.info }) c.in-Err.field-0 c.requires
    (ap (λ (h : Shdr). record h { info = c.args.info }) c.section_header-header.ensures)
    c.in-Err.ensures.answer
