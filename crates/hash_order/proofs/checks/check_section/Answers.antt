use Rattle.std.proofs.Common.{sym}
use Rattle.hash_order.proofs.FollowLaws.{by_index, check_other, check_none, check_both}
use Rattle.hash_order.proofs.checks.check_section.Goals as goal

pub check_items-requires-clause-kind : goal.check_items-requires-clause-kind
check_items-requires-clause-kind g c =
    by_index c.section_header-header.result.stype c.in-Some.kind (sym c.in-Some.ensures)

pub returns-in-Some : goal.returns-in-Some
returns-in-Some g c =
    check_both c.args.elf.now.o c.args.s.0 c.args.n c.section_header-header.result
    c.section_header-header.ensures c.in-Some.kind c.args.count c.check_items.result
    c.if-header-s.false c.in-Some.ensures c.requires.count c.check_items.ensures

pub returns-then-header-s : goal.returns-then-header-s
returns-then-header-s g c =
    check_other c.args.elf.now.o c.args.s.0 c.args.n c.section_header-header.result
    c.section_header-header.ensures c.if-header-s.true

pub returns-in-None : goal.returns-in-None
returns-in-None g c =
    check_none c.args.elf.now.o c.args.s.0 c.args.n c.section_header-header.result
    c.section_header-header.ensures c.if-header-s.false c.in-None.ensures
