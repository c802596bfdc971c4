use Rattle.std.proofs.Common.{sym, ap, ◌∙◌, arith}
use Rattle.elf_object.specs.Sections.{is_allocated}
use Rattle.rebuild_join.proofs.joined.LoadedLaws.{number_there}
use Rattle.rebuild_join.proofs.joined.NextLaws.{taken_there, taken_few}
use Rattle.rebuild_join.proofs.AddLaws.{loaded_added, loaded_refused, own_added, own_refused}
use Rattle.rebuild_join.proofs.adding.add_next.Goals as goal

pub listed_number-requires : goal.listed_number-requires
listed_number-requires g c =
    taken_there c.args.stripped.now.o c.args.debug.now.o c.args.s.0 c.args.taken
    c.args.loaded.now c.requires.matches c.requires.first c.requires.there
    (sym (ap is_allocated c.section_header-header.ensures) ∙ sym c.is_header_allocated.ensures
    ∙ c.if-is_header_allocated.true) c.requires.taken c.requires.loaded

pub add_loaded-requires-clause-there : goal.add_loaded-requires-clause-there
add_loaded-requires-clause-there g c =
    number_there c.args.stripped.now.o c.args.loaded.now c.args.taken c.listed_number.result
    c.requires.loaded c.listed_number.ensures

pub overflow_add-result : goal.overflow_add-result
overflow_add-result g c =
    let few = taken_few c.args.debug.now.o c.args.s.0 c.args.taken c.requires.first
    c.requires.there c.requires.debug.object c.requires.taken in
    omega (arith, few)

pub returns-in-Ok : goal.returns-in-Ok
returns-in-Ok g c =
    loaded_added c.args.stripped.now c.args.debug.now c.args.s.0 c.args.taken c.requires.first
    c.requires.there c.requires.taken c.section_header-header.result
    c.section_header-header.ensures c.is_header_allocated.result c.is_header_allocated.ensures
    c.args.contents.now c.add_loaded.new.contents c.if-is_header_allocated.true c.args.loaded.now
    c.requires.loaded c.listed_number.result c.listed_number.ensures
    (c.in-Ok.ensures c.args.debug.now.o.base)

pub returns-in-Err : goal.returns-in-Err
returns-in-Err g c =
    loaded_refused c.args.stripped.now c.args.debug.now c.args.s.0 c.args.taken c.requires.first
    c.requires.there c.requires.taken c.section_header-header.result
    c.section_header-header.ensures c.is_header_allocated.result c.is_header_allocated.ensures
    c.args.contents.now c.add_loaded.new.contents c.if-is_header_allocated.true c.args.loaded.now
    c.requires.loaded c.listed_number.result c.listed_number.ensures c.in-Err.e
    (c.in-Err.ensures c.args.debug.now.o.base)

pub returns-in-Ok-add_own : goal.returns-in-Ok-add_own
returns-in-Ok-add_own g c =
    own_added c.args.stripped.now c.args.debug.now c.args.s.0 c.args.taken c.requires.first
    c.requires.there c.requires.taken c.section_header-header.result
    c.section_header-header.ensures c.is_header_allocated.result c.is_header_allocated.ensures
    c.args.contents.now c.add_own.new.contents c.if-is_header_allocated.false c.in-Ok-add_own.ensures

pub returns-in-Err-add_own : goal.returns-in-Err-add_own
returns-in-Err-add_own g c =
    own_refused c.args.stripped.now c.args.debug.now c.args.s.0 c.args.taken c.requires.first
    c.requires.there c.requires.taken c.section_header-header.result
    c.section_header-header.ensures c.is_header_allocated.result c.is_header_allocated.ensures
    c.args.contents.now c.add_own.new.contents c.if-is_header_allocated.false c.in-Err-add_own.e
    c.in-Err-add_own.ensures
