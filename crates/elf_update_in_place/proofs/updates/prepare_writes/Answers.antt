use Rattle.std.proofs.Common.{◌≡◌, ◌∙◌, List, Bool, true, Ok, ap, subst, length}
use Rattle.elf_update_to.specs.law_object.Writing.Marks.{marked_all}
use Rattle.elf_update_in_place.specs.Rooms.{tells}
use Rattle.elf_update_in_place.specs.Loads.{LoadsHomes}
use Rattle.elf_update_in_place.specs.Marks.{told_parts}
use Rattle.elf_update_in_place.proofs.PhaseLaws.{stored_count, stored_room, loaded_count, unread, to_write}
use Rattle.elf_update_in_place.proofs.updates.prepare_writes.Goals as goal

pub load_homes-requires-clause-count : goal.load_homes-requires-clause-count
load_homes-requires-clause-count g c =
    ap length c.as_slice.ensures
    ∙ stored_count c.args.elf.now c.store_places.new.self c.args.changes.now.sections
    c.requires.planned.ready.dirty c.store_places.ensures c.requires.changes.sections

pub load_homes-requires-clause-room : goal.load_homes-requires-clause-room
load_homes-requires-clause-room g c = λ i there told.
    stored_room c.args.elf.now c.store_places.new.self c.args.changes.now.sections
    c.requires.planned.ready.dirty c.store_places.ensures c.requires.taken.room i there
    (subst (λ (l : List Bool). tells l i ≡ true) c.as_slice.ensures told)

pub returns-in-Err-clause-unread : goal.returns-in-Err-clause-unread
returns-in-Err-clause-unread g c =
    unread g.D.Source g.D.Device g.met.D.Device.rest_begins c.in-Err.e c.args.elf.now
    c.store_places.new.self c.load_homes.new.elf c.as_slice.result.now
    c.requires.planned.ready c.store_places.ensures (c.as_slice.ensures ∙ c.requires.changes.sections)
    c.in-Err.ensures

pub mark_moved-requires : goal.mark_moved-requires
mark_moved-requires g c =
    ap length c.as_slice-2.ensures
    ∙ loaded_count c.store_places.new.self c.load_homes.new.elf (tells c.as_slice.result.now)
    c.args.changes.now.sections c.in_default.ensures.some
    (stored_count c.args.elf.now c.store_places.new.self c.args.changes.now.sections
    c.requires.planned.ready.dirty c.store_places.ensures c.requires.changes.sections)

pub returns-clause-prepared : goal.returns-clause-prepared
returns-clause-prepared g c =
    let loads = subst (λ (l : List Bool).
    LoadsHomes {A = Unit {0}} g.D.Source l (length c.store_places.new.self.o.sections) (Ok tt)
    c.store_places.new.self c.load_homes.new.elf) c.as_slice.ensures c.in_default.ensures in
    let marks = subst (λ (l : List Bool).
    c.mark_moved.new.elf ≡ record c.load_homes.new.elf {
      o = marked_all c.load_homes.new.elf.o (told_parts c.load_homes.new.elf.o l);
    }) c.as_slice-2.ensures c.mark_moved.ensures in
    to_write g.D.Source g.D.Device c.args.elf.now c.store_places.new.self
    c.load_homes.new.elf c.mark_moved.new.elf c.args.changes.now.sections
    c.requires.planned.ready c.store_places.ensures c.requires.changes.sections loads marks
