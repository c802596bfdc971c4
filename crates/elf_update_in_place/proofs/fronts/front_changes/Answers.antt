use Rattle.elf_update_in_place.proofs.FrontLaws.{header_by, segments_by, table_by}
use Rattle.elf_update_in_place.proofs.fronts.front_changes.Goals as goal

pub returns : goal.returns
returns g c =
    let o = c.args.elf.now.o in
    let dirty = c.requires.ready.dirty in
    record {
      header = header_by o dirty c.is_marked-header.result c.front_part_changes.result
          c.is_marked-header.ensures c.front_part_changes.ensures;
      segments = segments_by o dirty c.is_marked-segments.result c.front_part_changes-2.result
          c.is_marked-segments.ensures c.front_part_changes-2.ensures;
      table = table_by o dirty c.some_section_is_marked-sections.result
          c.front_part_changes-3.result c.some_section_is_marked-sections.ensures
          c.front_part_changes-3.ensures;
    }
