use Rattle.std.proofs.lemmas.Bool.{ne_eqb}
use Rattle.tool_objects.proofs.SectionLemmas.{ok_value_is}
use Rattle.tool_objects.proofs.at_hand.Ends.{some_weaker}
use Rattle.readelf_headers.proofs.SectionBlockLemmas.{names_are}
use Rattle.readelf_headers.proofs.section_blocks.names_at_hand.Goals as goal

pub returns : goal.returns
returns g c =
    let names = ok_value_is _ _ c.shstrndx-names.ensures in
    some_weaker _ _ c.string_bytes.result
    (λ b holds. names_are c.args.elf.now c.shstrndx-names.result b.now names
    (ne_eqb c.shstrndx-names.result 0 c.if-names-eq0.false) holds)
    c.string_bytes.ensures.strings
