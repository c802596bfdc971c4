use Rattle.std.proofs.Common.{◌∙◌}
use Rattle.gelf_view.proofs.CountLemmas.{own_counted, clean_counted, clean_of_kind, section_there}
use Rattle.gelf_view.proofs.counts.count_there.Goals as goal

pub home_count-requires-clause-section : goal.home_count-requires-clause-section
home_count-requires-clause-section g c = section_there c.args.elf.now.o c.args.d.section c.args.d.piece c.requires.piece

pub home_count-requires-clause-kind : goal.home_count-requires-clause-kind
home_count-requires-clause-kind g c =
    let held = rw c.in-Ok-Raw.field-0-is at c.in-Ok-Raw.ensures.held in
    clean_of_kind c.args.elf.now.o c.args.d.section c.args.d.piece held.clean ∙ c.requires.kind

pub home_count-requires-in-Ok-Unread-clause-section : goal.home_count-requires-in-Ok-Unread-clause-section
home_count-requires-in-Ok-Unread-clause-section g c = section_there c.args.elf.now.o c.args.d.section c.args.d.piece c.requires.piece

pub home_count-requires-in-Ok-Unread-clause-kind : goal.home_count-requires-in-Ok-Unread-clause-kind
home_count-requires-in-Ok-Unread-clause-kind g c =
    let held = rw c.in-Ok-Unread.field-0-is at c.in-Ok-Unread.ensures.held in
    clean_of_kind c.args.elf.now.o c.args.d.section c.args.d.piece held.clean ∙ c.requires.kind

pub returns-in-Ok-Edited-clause-answer : goal.returns-in-Ok-Edited-clause-answer
returns-in-Ok-Edited-clause-answer g c =
    rw (c.count.ensures) (own_counted c.args.elf.now.o c.args.d.section c.args.d.piece c.in-Ok-Edited.items.now (rw c.in-Ok-Edited.field-0-is at c.in-Ok-Edited.ensures.held))

pub returns-in-Ok-Raw-clause-answer : goal.returns-in-Ok-Raw-clause-answer
returns-in-Ok-Raw-clause-answer g c =
    let held = rw c.in-Ok-Raw.field-0-is at c.in-Ok-Raw.ensures.held in
    c.home_count.ensures.answer ∙ clean_counted c.args.elf.now.o c.args.d.section c.args.d.piece held.clean

pub returns-in-Ok-Unread-clause-answer : goal.returns-in-Ok-Unread-clause-answer
returns-in-Ok-Unread-clause-answer g c =
    let held = rw c.in-Ok-Unread.field-0-is at c.in-Ok-Unread.ensures.held in
    c.home_count-in-Ok-Unread.ensures.answer ∙ clean_counted c.args.elf.now.o c.args.d.section c.args.d.piece held.clean
