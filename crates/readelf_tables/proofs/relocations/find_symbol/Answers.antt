use Rattle.tool_objects.specs.elf_descriptor.Reads.{wanted}
use Rattle.elf_object.specs.Calls as calls
use Rattle.elf_object.specs.Calls.{sym_answer}
use Rattle.tool_objects.proofs.OnceReads.{once_read}
use Rattle.tool_objects.proofs.QueryLemmas.{learns_unless, unless_stated}
use Rattle.readelf_tables.specs.Blocks.RelocationLines.{section_symbol}
use Rattle.readelf_tables.proofs.relocations.find_symbol.Goals as goal

pub returns : goal.returns
unfolding section_symbol
returns g c =
    let o = c.args.elf.now.o in
    let s = c.args.table.0 in
    let call = calls.sym s 0 c.from.result in
    rw (c.unless_refused.ensures, ← c.from.ensures) (learns_unless g.S.Source call _ c.args.elf.now _ (once_read _ _ _ _)
    (λ m. section_symbol m s c.from.result) c.sym.result
    (unless_stated c.args.elf.now.told (wanted call c.args.elf.now) c.sym.result (sym_answer o s 0 c.from.result) c.sym.ensures.answer)
    c.sym.ensures.looks)
