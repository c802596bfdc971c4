use Rattle.std.proofs.Common.{sym, ap, ◌∙◌, Ok, Err, Result}
use Rattle.elf_types.specs.declared.errors.ElfError.{ElfError}
use Rattle.elf_outside.specs.declared.no_source.NoSource.{NoSource}
use Rattle.elf_object.specs.Object.{Object}
use Rattle.rebuild_plan.specs.elf_descriptor.State.{State}
use Rattle.rebuild_plan.proofs.rebuild_keep.RebuildLaws.{fresh}
use Rattle.rebuild_plan.proofs.rebuild_keep.AskLaws.{asks_as, asks_stop}
use Rattle.rebuild_object.proofs.FillLaws.{stays_object, asks_created, made_whole, read_whole, asks_front, asks_whole}
use Rattle.rebuild_object.proofs.making.make_object.Goals as goal

pub fill_planned-requires-clause-empty : goal.fill_planned-requires-clause-empty
fill_planned-requires-clause-empty g c =
    (fresh c.args.elf.now.told c.args.elf.now.o c.args.x.now.tail c.in-Ok.made
    c.in-Ok.ensures.made).0

pub fill_planned-requires-clause-count : goal.fill_planned-requires-clause-count
fill_planned-requires-clause-count g c =
    (fresh c.args.elf.now.told c.args.elf.now.o c.args.x.now.tail c.in-Ok.made
    c.in-Ok.ensures.made).1

pub fill_planned-requires-clause-class : goal.fill_planned-requires-clause-class
fill_planned-requires-clause-class g c =
    (fresh c.args.elf.now.told c.args.elf.now.o c.args.x.now.tail c.in-Ok.made
    c.in-Ok.ensures.made).2
    ∙ ap (λ (o : Object). o.header.class)
    (sym (stays_object c.args.elf.now c.create_over_base.new.elf c.in-Ok.ensures.stays))

pub returns-in-Err-clause-asks : goal.returns-in-Err-clause-asks
returns-in-Err-clause-asks g c =
    asks_front g.S.Source (Err c.in-Err.e) c.args.elf.now c.create_over_base.new.elf c.args.x.now
    (asks_created c.args.elf.now c.create_over_base.new.elf c.in-Err.ensures.stays g.S.Source
    (Err c.in-Err.e) _ c.in-Err.ensures.asks)

pub returns-in-Ok-fill_planned-clause-object : goal.returns-in-Ok-fill_planned-clause-object
returns-in-Ok-fill_planned-clause-object g c = λ t.
    made_whole c.args.elf.now c.create_over_base.new.elf c.in-Ok.ensures.stays c.args.x.now
    c.in-Ok.made c.fill_planned.new.made c.in-Ok.ensures.made.exact
    c.in-Ok-fill_planned.ensures.made t

pub returns-in-Ok-fill_planned-clause-read : goal.returns-in-Ok-fill_planned-clause-read
returns-in-Ok-fill_planned-clause-read g c =
    read_whole c.args.elf.now c.create_over_base.new.elf c.in-Ok.ensures.stays
    c.args.elf.now.told c.args.x.now c.in-Ok.made c.fill_planned.new.made c.requires.front.below
    c.in-Ok.ensures.made c.dirty-sound.ensures.sound.object.base c.in-Ok-fill_planned.ensures.made

pub returns-in-Ok-fill_planned-clause-asks : goal.returns-in-Ok-fill_planned-clause-asks
returns-in-Ok-fill_planned-clause-asks g c =
    asks_whole g.S.Source (Ok c.in-Ok.made)
    (Ok c.fill_planned.new.made) c.args.elf.now
    c.create_over_base.new.elf c.fill_planned.new.elf c.args.x.now
    (asks_created c.args.elf.now c.create_over_base.new.elf c.in-Ok.ensures.stays g.S.Source
    (Ok c.in-Ok.made) _ c.in-Ok.ensures.asks)
    (asks_as g.S.Source (Ok c.in-Ok-fill_planned.field-0) (Ok c.fill_planned.new.made)
    c.create_over_base.new.elf c.fill_planned.new.elf _ tt c.in-Ok-fill_planned.ensures.asks)

pub returns-in-Err-fill_planned-clause-asks : goal.returns-in-Err-fill_planned-clause-asks
returns-in-Err-fill_planned-clause-asks g c =
    let failed : Result (State NoSource) ElfError = Err c.in-Err-fill_planned.e in
    asks_whole g.S.Source (Ok c.in-Ok.made) failed c.args.elf.now
    c.create_over_base.new.elf c.fill_planned.new.elf c.args.x.now
    (asks_created c.args.elf.now c.create_over_base.new.elf c.in-Ok.ensures.stays g.S.Source
    (Ok c.in-Ok.made) _ c.in-Ok.ensures.asks)
    (asks_stop g.S.Source c.in-Err-fill_planned.e c.create_over_base.new.elf
    c.fill_planned.new.elf _ c.in-Err-fill_planned.ensures.asks)
