use Rattle.std.proofs.Common.{◌+◌, drop, take, ap, ◌∙◌}
use Rattle.elf_types.specs.declared.records.Shdr.{Shdr}
use Rattle.rebuild_copy.specs.Rows.{gathered_header, held_in}
use Rattle.rebuild_copy.proofs.IndexLaws.{section_put}
use Rattle.rebuild_copy.proofs.indexing.index_section.Goals as goal

pub returns-in-Ok-clause-put : goal.returns-in-Ok-clause-put
returns-in-Ok-clause-put c =
    section_put c.args.longest c.args.index.now c.put_string.new.index c.as_slice.result.now
    (drop (gathered_header c.args.x.now c.args.s).name (held_in c.args.x.now c.args.table)) c.args.s
    c.put_string.result c.requires
    (c.as_slice.ensures ∙ c.in-Ok.ensures.ok
    ∙ ap (λ (h : Shdr). take (c.args.longest + 1)
    (drop h.name (held_in c.args.x.now c.args.table))) c.header_of.ensures)
    c.put_string.ensures.put
