use Rattle.std.proofs.Common.{option_copied}
use Rattle.rebuild_model.specs.elf_object.Strings.{section_name}
use Rattle.gelf_view.specs.elf_descriptor.Reads.{wanted}
use Rattle.rebuild_select.specs.Calls.{found_by_name}
use Rattle.rebuild_select.proofs.FrontLaws.{front_told}
use Rattle.rebuild_select.proofs.names.is_found.Goals as goal

pub returns-in-Ok-clause-answer : goal.returns-in-Ok-clause-answer
returns-in-Ok-clause-answer g c =
    let st = c.args.elf.now in
    let names = c.args.names.now in
    front_told st.told (wanted (found_by_name names c.args.debug c.args.s.0) st) names c.args.debug
    c.longest_of-longest.result (section_name st.o c.args.s.0) (option_copied c.in-Ok.front)
    c.is_found_by.result c.longest_of-longest.ensures.names c.longest_of-longest.ensures.debug
    c.is_found_by.ensures c.in-Ok.ensures.answer
