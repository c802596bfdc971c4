use Rattle.rebuild_debug.proofs.HalfLaws.{header_loaded, header_same}
use Rattle.rebuild_debug.proofs.loaded.header_of_half.Goals as goal

pub returns-then-is_loaded_from_file : goal.returns-then-is_loaded_from_file
returns-then-is_loaded_from_file g c =
    header_loaded c.args.elf.now.o c.args.s.0 c.section_header-h.result
    c.is_loaded_from_file.result c.section_header-h.ensures c.is_loaded_from_file.ensures
    c.if-is_loaded_from_file.true

pub returns : goal.returns
returns g c =
    header_same c.args.elf.now.o c.args.s.0 c.section_header-h.result
    c.is_loaded_from_file.result c.section_header-h.ensures c.is_loaded_from_file.ensures
    c.if-is_loaded_from_file.false
