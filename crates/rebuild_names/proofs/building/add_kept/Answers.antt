use Rattle.std.proofs.Common.{ℕ, List, subst}
use Rattle.rebuild_numbers.specs.elf_object.Strings.{section_name, or_empty_name}
use Rattle.strtab_shared.specs.strtab_build.Names.{IsHeld}
use Rattle.rebuild_names.specs.Names.{old_name}
use Rattle.rebuild_numbers.proofs.rebuild_select.NameLaws.{names_nothing, names_push}
use Rattle.rebuild_names.proofs.KnownLaws.{held_placed, known_held, known_after, still_ok, old_name_is}
use Rattle.rebuild_names.proofs.building.add_kept.Goals as goal

pub returns-in-Some-clause-told : goal.returns-in-Some-clause-told
returns-in-Some-clause-told g c = λ told.
    let o = c.args.elf.now.o in
    let names = c.args.making.now.strings in
    held_placed names (or_empty_name (section_name o c.args.s.0)) c.args.making.now.places
    c.push_place.new.places c.in-Some.place c.push_place.result
    (subst (λ (l : List ℕ). IsHeld l names c.in-Some.place)
    (old_name_is o c.args.s.0 c.name_field-at.result c.name_field-at.ensures)
    (known_held (old_name o) c.args.making.now.known names c.name_field-at.result
    c.in-Some.place (c.requires.known told) c.in-Some.ensures))
    c.push_place.ensures.pushed

pub returns-in-Some-clause-known : goal.returns-in-Some-clause-known
returns-in-Some-clause-known g c = λ told.
    still_ok c.push_place.result (c.requires.known told)

pub returns-in-Some-clause-reads : goal.returns-in-Some-clause-reads
returns-in-Some-clause-reads g c =
    names_push g.S.Source (tt {0}) c.push_place.result c.args.elf.now c.args.elf.now
    c.push_place.ensures.err (names_nothing g.S.Source (tt {0}) c.args.elf.now)

pub returns-in-None-clause-told : goal.returns-in-None-clause-told
returns-in-None-clause-told g c = c.add_read.ensures.told

pub returns-in-None-clause-known : goal.returns-in-None-clause-known
returns-in-None-clause-known g c = λ told.
    let o = c.args.elf.now.o in
    known_after (old_name o) c.args.making.now.known c.add_read.new.making.known
    c.args.making.now.strings c.add_read.new.making.strings c.args.making.now.places
    c.add_read.new.making.places (or_empty_name (section_name o c.args.s.0))
    c.name_field-at.result c.add_read.result
    (old_name_is o c.args.s.0 c.name_field-at.result c.name_field-at.ensures)
    (c.requires.known told) (c.add_read.ensures.told told) (c.add_read.ensures.noted told)
