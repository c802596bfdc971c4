use Rattle.gelf_view.specs.SectionNames as names
use Rattle.gelf_view.specs.elf_descriptor.Reads.{wanted}
use Rattle.tool_objects.proofs.OnceReads.{once_name}
use Rattle.tool_objects.proofs.QueryLemmas.{reads_on, reads_stop, plain_is, plain_stops}
use Rattle.tool_objects.proofs.names.has_section_name.Goals as goal

pub returns-in-Ok : goal.returns-in-Ok
returns-in-Ok g c =
    let call = names.is_section_named c.args.s.0 c.args.name.now in record {
      value = λ told. plain_is c.args.elf.now.told (wanted call c.args.elf.now) _ _ c.in-Ok.ensures.answer told;
      reads = reads_on g.S.Source call _ c.args.elf.now _ _ _ c.in-Ok.ensures.queries (once_name _ _) tt;
    }

pub stop_for-requires : goal.stop_for-requires
stop_for-requires g c =
    plain_stops c.args.elf.now.told (wanted (names.is_section_named c.args.s.0 c.args.name.now) c.args.elf.now) _ _ c.in-Err.ensures.answer

pub returns-in-Err : goal.returns-in-Err
returns-in-Err g c =
    let call = names.is_section_named c.args.s.0 c.args.name.now in record {
      value = λ told. tt;
      reads = reads_stop g.S.Source call _ c.args.elf.now _ c.in-Err.e _ c.stop_for.ensures c.in-Err.ensures.queries;
    }
