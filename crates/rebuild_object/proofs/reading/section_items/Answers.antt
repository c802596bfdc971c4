use Rattle.std.proofs.Common.{sym, ◌∙◌, ap, length, ℕ, Ok}
use Rattle.elf_types.specs.declared.records.Class.{Class}
use Rattle.elf_xlate.specs.Translation.{is_whole}
use Rattle.rebuild_plan.proofs.rebuild_keep.HomeLaws.{class_told, order_told}
use Rattle.rebuild_object.proofs.ItemLaws.{nothing_over, nothing_fits, items_told, fits_as, asks_items}
use Rattle.rebuild_object.proofs.ReadLaws.{nothing_read, items_read}
use Rattle.rebuild_object.proofs.reading.section_items.Goals as goal

pub returns-then-not-occupies_file-clause-told : goal.returns-then-not-occupies_file-clause-told
returns-then-not-occupies_file-clause-told g c = λ t.
    sym (nothing_over c.args.elf.now.o.header.class c.args.elf.now.o.header.order c.args.held.now
    c.args.elf.now.o.base c.args.h.now c.args.range c.args.kind
    (sym c.if-not-occupies_file.ensures))

pub returns-then-not-occupies_file-clause-fits : goal.returns-then-not-occupies_file-clause-fits
returns-then-not-occupies_file-clause-fits g c = nothing_fits c.args.elf.now.o.header.class

pub returns-then-not-occupies_file-clause-read : goal.returns-then-not-occupies_file-clause-read
returns-then-not-occupies_file-clause-read g c =
    nothing_read c.args.elf.now.o c.args.held.now c.args.h.now c.args.range c.args.kind
    (sym c.if-not-occupies_file.ensures)

pub items_of-requires : goal.items_of-requires
items_of-requires g c =
    ap (λ (k : Class). is_whole c.args.kind k (length c.in-Ok.bytes))
    (class_told c.args.elf.now.o c.ehdr-header.result c.ehdr-header.ensures)
    ∙ ap (λ (n : ℕ). is_whole c.args.kind c.args.elf.now.o.header.class n) c.in-Ok.ensures.long
    ∙ c.requires.whole

pub returns-in-Ok-clause-told : goal.returns-in-Ok-clause-told
returns-in-Ok-clause-told g c = λ t.
    items_told c.args.elf.now.o.header.class c.args.elf.now.o.header.order c.args.held.now
    c.args.elf.now.o.base c.args.h.now c.args.range c.args.kind c.items_of.result
    c.ehdr-header.result.class c.ehdr-header.result.order c.in-Ok.bytes
    (sym c.if-not-occupies_file.ensures)
    (class_told c.args.elf.now.o c.ehdr-header.result c.ehdr-header.ensures)
    (order_told c.args.elf.now.o c.ehdr-header.result c.ehdr-header.ensures)
    (c.in-Ok.ensures.told t) c.items_of.ensures.ok

pub returns-in-Ok-clause-fits : goal.returns-in-Ok-clause-fits
returns-in-Ok-clause-fits g c =
    fits_as c.items_of.result c.ehdr-header.result.class c.args.elf.now.o.header.class
    (class_told c.args.elf.now.o c.ehdr-header.result c.ehdr-header.ensures) c.items_of.ensures.fits

pub returns-in-Ok-clause-read : goal.returns-in-Ok-clause-read
returns-in-Ok-clause-read g c =
    let read = c.in-Ok.ensures.read in
    items_read c.args.elf.now.o c.args.held.now c.args.h.now c.args.range c.args.kind c.in-Ok.bytes
    read c.items_of.result
    (items_told c.args.elf.now.o.header.class c.args.elf.now.o.header.order c.args.held.now
    read.over c.args.h.now c.args.range c.args.kind c.items_of.result
    c.ehdr-header.result.class c.ehdr-header.result.order c.in-Ok.bytes
    (sym c.if-not-occupies_file.ensures)
    (class_told c.args.elf.now.o c.ehdr-header.result c.ehdr-header.ensures)
    (order_told c.args.elf.now.o c.ehdr-header.result c.ehdr-header.ensures)
    read.is c.items_of.ensures.ok)

pub returns-in-Ok-clause-asks : goal.returns-in-Ok-clause-asks
returns-in-Ok-clause-asks g c =
    asks_items g.S.Source (Ok c.in-Ok.bytes) c.items_of.result c.args.elf.now
    c.range_octets.new.elf c.args.h.now c.args.range (sym c.if-not-occupies_file.ensures)
    c.items_of.ensures.err c.in-Ok.ensures.asks
