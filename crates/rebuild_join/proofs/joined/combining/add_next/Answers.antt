use Rattle.std.proofs.Common.{refl, sym, ap, ◌∙◌, arith}
use Rattle.rebuild_keep.specs.elf_object.Sections.{is_allocated}
use Rattle.rebuild_join.proofs.joined.LoadedLaws.{number_there}
use Rattle.rebuild_join.proofs.joined.MatchLaws.{match_class, told_fits}
use Rattle.rebuild_join.proofs.joined.NextLaws.{taken_there, taken_few, section_room_left, some_made, next_loaded, stop_loaded, next_own, stop_own}
use Rattle.rebuild_join.proofs.joined.combining.add_next.Goals as goal

pub listed_number-requires : goal.listed_number-requires
listed_number-requires g c =
    taken_there c.args.stripped.now.o c.args.debug.now.o c.args.s.0 c.args.taken
    c.args.loaded.now c.requires.matches c.requires.first c.requires.there
    (sym (ap is_allocated c.section_header-header.ensures) ∙ sym c.is_header_allocated.ensures
    ∙ c.if-is_header_allocated.true) c.requires.taken c.requires.loaded

pub add_loaded-requires-clause-there : goal.add_loaded-requires-clause-there
add_loaded-requires-clause-there g c =
    number_there c.args.stripped.now.o c.args.loaded.now c.args.taken c.listed_number.result
    c.requires.loaded c.listed_number.ensures

pub add_loaded-requires-clause-some : goal.add_loaded-requires-clause-some
add_loaded-requires-clause-some g c =
    some_made c.args.made.now.o c.args.s.0 c.requires.first c.requires.made

pub add_loaded-requires-clause-room : goal.add_loaded-requires-clause-room
add_loaded-requires-clause-room g c =
    section_room_left c.args.debug.now.o c.args.made.now.o c.args.s.0
    c.is_out_of_file-sound.ensures.sound.object c.requires.there c.requires.made

pub add_loaded-requires-clause-fits : goal.add_loaded-requires-clause-fits
add_loaded-requires-clause-fits g c =
    told_fits c.args.debug.now.o c.args.s.0 c.args.stripped.now.o.header.class
    c.section_header-header.result c.is_out_of_file-sound.ensures.sound.object
    (match_class c.args.stripped.now.o c.args.debug.now.o c.requires.matches)
    c.section_header-header.ensures

pub add_home-requires-clause-some : goal.add_home-requires-clause-some
add_home-requires-clause-some g c =
    some_made c.args.made.now.o c.args.s.0 c.requires.first c.requires.made

pub add_home-requires-clause-room : goal.add_home-requires-clause-room
add_home-requires-clause-room g c =
    section_room_left c.args.debug.now.o c.args.made.now.o c.args.s.0
    c.is_out_of_file-sound.ensures.sound.object c.requires.there c.requires.made

pub add_home-requires-clause-class : goal.add_home-requires-clause-class
add_home-requires-clause-class g c =
    c.requires.class
    ∙ sym (match_class c.args.stripped.now.o c.args.debug.now.o c.requires.matches)

pub add_home-requires-clause-fits : goal.add_home-requires-clause-fits
add_home-requires-clause-fits g c =
    told_fits c.args.debug.now.o c.args.s.0 c.args.debug.now.o.header.class
    c.section_header-header.result c.is_out_of_file-sound.ensures.sound.object refl
    c.section_header-header.ensures

pub overflow_add-result : goal.overflow_add-result
overflow_add-result g c =
    let few = taken_few c.args.debug.now.o c.args.s.0 c.args.taken c.requires.first
    c.requires.there c.is_out_of_file-sound.ensures.sound.object c.requires.taken in
    omega (arith, few)

pub returns-in-Ok : goal.returns-in-Ok
returns-in-Ok g c =
    next_loaded g.S.Source g.T.Source c.args.stripped.now c.args.debug.now c.args.s.0 c.args.taken
    c.requires.first c.requires.there c.requires.taken c.section_header-header.result
    c.section_header-header.ensures c.is_header_allocated.result c.is_header_allocated.ensures c.args.made.now
    c.add_loaded.new.made c.if-is_header_allocated.true c.args.loaded.now c.requires.loaded
    c.listed_number.result c.listed_number.ensures c.add_loaded.new.stripped c.in-Ok.ensures.adds
    c.in-Ok.ensures.passed c.in-Ok.ensures.asks

pub returns-in-Err : goal.returns-in-Err
returns-in-Err g c =
    stop_loaded g.S.Source g.T.Source c.args.stripped.now c.args.debug.now c.args.s.0 c.args.taken
    c.requires.first c.requires.there c.requires.taken c.section_header-header.result
    c.section_header-header.ensures c.is_header_allocated.result c.is_header_allocated.ensures c.args.made.now
    c.add_loaded.new.made c.if-is_header_allocated.true c.args.loaded.now c.requires.loaded
    c.listed_number.result c.listed_number.ensures c.add_loaded.new.stripped c.in-Err.e
    c.in-Err.ensures.err c.in-Err.ensures.asks

pub returns-in-Ok-add_home : goal.returns-in-Ok-add_home
returns-in-Ok-add_home g c =
    next_own g.S.Source g.T.Source c.args.stripped.now c.args.debug.now c.args.s.0 c.args.taken
    c.requires.first c.requires.there c.requires.taken c.section_header-header.result
    c.section_header-header.ensures c.is_header_allocated.result c.is_header_allocated.ensures c.args.made.now
    c.add_home.new.made c.if-is_header_allocated.false c.add_home.new.elf
    c.in-Ok-add_home.ensures.adds c.in-Ok-add_home.ensures.passed c.in-Ok-add_home.ensures.asks

pub returns-in-Err-add_home : goal.returns-in-Err-add_home
returns-in-Err-add_home g c =
    stop_own g.S.Source g.T.Source c.args.stripped.now c.args.debug.now c.args.s.0 c.args.taken
    c.requires.first c.requires.there c.requires.taken c.section_header-header.result
    c.section_header-header.ensures c.is_header_allocated.result c.is_header_allocated.ensures c.args.made.now
    c.add_home.new.made c.if-is_header_allocated.false c.add_home.new.elf c.in-Err-add_home.e
    c.in-Err-add_home.ensures.err c.in-Err-add_home.ensures.asks
