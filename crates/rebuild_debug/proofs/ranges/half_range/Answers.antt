use Rattle.rebuild_debug.proofs.RangeLaws.{loaded_found, kept_found}
use Rattle.rebuild_debug.proofs.ranges.half_range.Goals as goal

pub returns-then-is_loaded_from_file : goal.returns-then-is_loaded_from_file
returns-then-is_loaded_from_file g c =
    loaded_found c.args.elf.now c.args.s.0 c.section_header.result c.is_loaded_from_file.result
    c.section_header.ensures c.is_loaded_from_file.ensures c.if-is_loaded_from_file.true

pub returns : goal.returns
returns g c =
    kept_found c.args.elf.now c.args.s.0 c.section_header.result c.is_loaded_from_file.result
    c.section_header.ensures c.is_loaded_from_file.ensures c.requires.there c.requires.object
    c.requires.clean c.requires.tied c.if-is_loaded_from_file.false c.home_range.result
    c.home_range.ensures
