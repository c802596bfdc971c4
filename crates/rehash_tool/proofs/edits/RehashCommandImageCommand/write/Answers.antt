use Rattle.tool_files.proofs.elf_images.WriteLemmas.{source_handed_back}
use Rattle.rehash_tool.proofs.edits.RehashCommandImageCommand.write.Goals as goal

pub returns : goal.returns
returns g c =
    rw c.end.ensures (source_handed_back g.S.Source g.F.Files g.O.Sink g.E.Sink _
    c.write_rehashed-written.result c.args.elf c.write_rehashed-written.new.elf c.args.files.now _
    c.args.outputs.now _ c.write_rehashed-written.ensures)
