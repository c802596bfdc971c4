use Rattle.std.proofs.Common.{refl}
use Rattle.gelf_view.specs.SectionNames as names
use Rattle.gelf_view.specs.elf_descriptor.Reads.{wanted}
use Rattle.tool_objects.proofs.OnceReads.{once_name}
use Rattle.tool_objects.proofs.QueryLemmas.{reads_on, reads_stop, settled_ok, plain_is, plain_stops}
use Rattle.tool_objects.proofs.names.section_name_or_stop.Goals as goal

pub returns-in-Ok : goal.returns-in-Ok
returns-in-Ok g c =
    let call = names.read_section_name c.args.s.0 in (
      (
        refl,
        (λ w. tt),
        reads_on g.S.Source call _ c.args.elf.now _ c.section_name.result _
            c.section_name.follows.holds-at-none (once_name _ _) (settled_ok c.in-Ok.is),
      ),
      record {
        value = λ told. plain_is c.args.elf.now.told (wanted call c.args.elf.now) _ _ c.in-Ok.ensures.answer told;
        rests = tt;
      },
    )

pub stop_for-requires : goal.stop_for-requires
stop_for-requires g c =
    plain_stops c.args.elf.now.told (wanted (names.read_section_name c.args.s.0) c.args.elf.now) _ _ c.in-Err.ensures.answer

pub returns-in-Err : goal.returns-in-Err
returns-in-Err g c =
    let call = names.read_section_name c.args.s.0 in (
      (
        refl,
        (λ w. tt),
        reads_stop g.S.Source call _ c.args.elf.now _ c.in-Err.e _ c.stop_for.ensures
            (rw c.in-Err.is at c.section_name.follows.holds-at-none),
      ),
      record { value = λ told. tt; rests = tt },
    )
