use Rattle.rebuild_plan.proofs.rebuild_keep.FillLaws.{segments_empty, segments_count, segments_class}
use Rattle.rebuild_object.proofs.FillLaws.{filled_passes, made_by}
use Rattle.rebuild_object.proofs.filling.fill_planned.Goals as goal

pub fill_sections-requires-clause-empty : goal.fill_sections-requires-clause-empty
fill_sections-requires-clause-empty g c =
    segments_empty c.args.elf.now.o c.args.made.now c.copy_segments.new.to
    c.in_default.ensures.made c.requires.empty

pub fill_sections-requires-clause-count : goal.fill_sections-requires-clause-count
fill_sections-requires-clause-count g c =
    segments_count c.args.elf.now.o c.args.made.now c.copy_segments.new.to
    c.in_default.ensures.made c.requires.count

pub fill_sections-requires-clause-class : goal.fill_sections-requires-clause-class
fill_sections-requires-clause-class g c =
    segments_class c.args.elf.now.o c.args.made.now c.copy_segments.new.to
    c.in_default.ensures.made c.requires.class

pub store_header-requires : goal.store_header-requires
store_header-requires g c =
    filled_passes c.args.elf.now.told c.args.elf.now.o c.args.x.now
    c.args.made.now c.copy_segments.new.to c.fill_sections.new.made c.in_default.ensures.made
    c.in_default-fill_sections.ensures.sections c.requires.class c.requires.ready

pub returns-clause-made : goal.returns-clause-made
returns-clause-made g c =
    made_by c.args.elf.now.told c.args.elf.now.o c.args.x.now c.args.made.now
    c.copy_segments.new.to c.fill_sections.new.made c.store_header.new.made
    c.in_default.ensures.made c.in_default-fill_sections.ensures.sections c.store_header.ensures
