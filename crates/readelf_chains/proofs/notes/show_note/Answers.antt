use Rattle.std.proofs.Common.{Bool, arith}
use Rattle.tool_objects.specs.elf_descriptor.Reads.{wanted}
use Rattle.tool_objects.specs.gelf_view.Calls as calls
use Rattle.tool_output.specs.Reports.{shown_report}
use Rattle.tool_objects.proofs.ElfSteps.{elf_says, elf_unread}
use Rattle.tool_objects.proofs.QueryLemmas.{settled_by, settled_ok, reads_stop}
use Rattle.readelf_chains.specs.Chains.{section_bytes}
use Rattle.readelf_chains.specs.Notes.{note_text}
use Rattle.readelf_chains.proofs.ChainLemmas.{bytes_stop, bytes_are, bytes_long}
use Rattle.readelf_chains.proofs.NoteLemmas.{note_text_is}
use Rattle.tool_objects.proofs.OnceReads.{once_read}
use Rattle.readelf_chains.proofs.notes.show_note.Goals as goal

pub part_in-requires : goal.part_in-requires
part_in-requires g c =
    let long = bytes_long c.args.elf.now.o c.args.s.0 c.in-Ok.bytes.now c.requires.passed c.in-Ok.ensures.like in
    let inside = c.requires.within.name in
    omega (arith, long, inside)

pub part_in-desc-requires : goal.part_in-desc-requires
part_in-desc-requires g c =
    let long = bytes_long c.args.elf.now.o c.args.s.0 c.in-Ok.bytes.now c.requires.passed c.in-Ok.ensures.like in
    let inside = c.requires.within.desc in
    omega (arith, long, inside)

pub returns-in-Ok : goal.returns-in-Ok
returns-in-Ok g c =
    let s = c.args.s.0 in
    let o = c.args.elf.now.o in
    elf_says g.S.Source g.O.Sink g.E.Sink (λ o. shown_report (note_text (section_bytes o s) c.args.note)) _ c.args.elf.now _ c.args.outputs.now _
    (settled_by g.S.Source _ _ c.bytes.result c.args.elf.now _ c.bytes.follows.holds-at-none (once_read _ _ _ _) (settled_ok c.in-Ok.is))
    (λ told. rw (note_text_is (section_bytes o s) c.in-Ok.bytes.now c.args.note _ _ _ (bytes_are o s c.args.elf.now.told (wanted (calls.bytes s 0) c.args.elf.now) c.in-Ok.bytes.now c.requires.passed c.in-Ok.ensures.answer told)
    c.part_in.ensures c.owner_in-owner.ensures c.part_in-desc.ensures) c.show.ensures.reports)
    c.show.ensures.leaves

pub stop_for-requires : goal.stop_for-requires
stop_for-requires g c = bytes_stop c.args.elf.now.o c.args.s.0 c.args.elf.now.told _ c.in-Err.e c.requires.passed c.in-Err.ensures.answer

pub returns-in-Err : goal.returns-in-Err
returns-in-Err g c =
    let s = c.args.s.0 in
    elf_unread g.S.Source g.O.Sink g.E.Sink Bool c.stop_for.result (λ o. shown_report (note_text (section_bytes o s) c.args.note)) c.args.elf.now _ c.args.outputs.now
    (reads_stop g.S.Source (calls.bytes s 0) _ c.args.elf.now _ c.in-Err.e c.stop_for.result c.stop_for.ensures (rw c.in-Err.is at c.bytes.follows.holds-at-none))
