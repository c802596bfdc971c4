use Rattle.std.proofs.Common.{◌<◌, Bool, length, subst, arith}
use Rattle.elf_object.specs.Strings.{or_empty_name}
use Rattle.rebuild_edits.specs.rebuild_names.Names.{IsAddedAt}
use Rattle.rebuild_edits.proofs.rebuild_names.KnownLaws.{none_known}
use Rattle.rebuild_edits.specs.Edits.Names.{name_now}
use Rattle.rebuild_copy.specs.Rows.{held_in, held_name}
use Rattle.rebuild_copy.proofs.NameLaws.{count_is}
use Rattle.rebuild_copy.proofs.NamingLaws.{placed_none, placed_more, placed_large, placed_all}
use Rattle.rebuild_copy.proofs.naming.place_sections.Goals as goal

pub place_section-requires-clause-known : goal.place_section-requires-clause-known
place_section-requires-clause-known c = c.loop-s.invariant.known

pub loop-s-init : goal.loop-s-init
loop-s-init c = record {
  placed = λ o p is.
      placed_none p c.args.marks.now c.args.changes.now c.args.making.now.strings
      c.args.making.now.places c.requires.strings c.requires.places;
  known = none_known (held_name (held_in c.args.x.now c.old_table-table.result.range))
      c.args.making.now.known c.args.making.now.strings c.requires.known;
}

pub returns-then-not-fits-clause-added : goal.returns-then-not-fits-clause-added
returns-then-not-fits-clause-added c = λ o p is.
    let first = c.loop-s.auto.s in
    let count = count_is o p c.args.x.now is in
    let below : c.loop-s.s < length p.sections = omega (arith, count, c.loop-s-test.true) in
    placed_large p c.args.marks.now c.args.changes.now c.loop-s.making.strings
    c.loop-s.making.places c.loop-s.s (c.loop-s.invariant.placed o p is)
    c.place_section.new.making.strings c.place_section.new.making.places (omega (arith, first))
    below
    (subst (λ (b : Bool). IsAddedAt c.loop-s.making.strings c.place_section.new.making.strings
    c.loop-s.making.places c.place_section.new.making.places
    (or_empty_name (name_now p c.args.marks.now c.args.changes.now.rename c.loop-s.s)) b)
    c.if-not-fits.true (c.in-Ok.ensures.placed o p is c.old_table-table.ensures below))

pub loop-s-preserved : goal.loop-s-preserved
loop-s-preserved c = record {
  placed = λ o p is.
      let first = c.loop-s.auto.s in
      let count = count_is o p c.args.x.now is in
      let below : c.loop-s.s < length p.sections = omega (arith, count, c.loop-s-test.true) in
      placed_more p c.args.marks.now c.args.changes.now c.loop-s.making.strings
      c.loop-s.making.places c.loop-s.s (c.loop-s.invariant.placed o p is)
      c.place_section.new.making.strings c.place_section.new.making.places
      (omega (arith, first)) below
      (subst (λ (b : Bool). IsAddedAt c.loop-s.making.strings
      c.place_section.new.making.strings c.loop-s.making.places
      c.place_section.new.making.places
      (or_empty_name (name_now p c.args.marks.now c.args.changes.now.rename c.loop-s.s)) b)
      c.if-not-fits.false (c.in-Ok.ensures.placed o p is c.old_table-table.ensures below));
  known = c.in-Ok.ensures.known c.if-not-fits.false;
}

pub returns-clause-added : goal.returns-clause-added
returns-clause-added c = λ o p is.
    let count = count_is o p c.args.x.now is in
    placed_all p c.args.marks.now c.args.changes.now c.loop-s.making.strings
    c.loop-s.making.places c.loop-s.s (c.loop-s.invariant.placed o p is)
    (omega (arith, count, c.loop-s-test.false))
