use Rattle.std.proofs.Common.{refl, arith}
use Rattle.std.proofs.lemmas.Bool.{le-leb, lt-leb}
use Rattle.rebuild_changes.specs.Stated.{bytes_pair}
use Rattle.rebuild_copy.proofs.AddLaws.{last_alters, last_full}
use Rattle.rebuild_copy.proofs.FindLaws.{memory_alters}
use Rattle.rebuild_copy.proofs.adding.add_last.Goals as goal

pub returns-then-from-ge-MAX_SECTIONS : goal.returns-then-from-ge-MAX_SECTIONS
returns-then-from-ge-MAX_SECTIONS c =
    let same = c.from.ensures in
    last_full (bytes_pair c.args.change.now) c.args.x.now c.args.x.now
    (le-leb _ _ (omega (arith, same, c.if-from-ge-MAX_SECTIONS.true)))

pub returns-in-Ok : goal.returns-in-Ok
returns-in-Ok c =
    let same = c.from.ensures in
    last_alters (bytes_pair c.args.change.now) c.args.x.now c.push_section.new.x _
    (lt-leb _ _ (omega (arith, same, c.if-from-ge-MAX_SECTIONS.false))) refl
    (rw (c.added_header.ensures, c.as_slice.ensures) at c.in-Ok.ensures.ok)

pub returns-in-Err : goal.returns-in-Err
returns-in-Err c =
    memory_alters _ _ c.in-Err.e c.args.x.now c.push_section.new.x c.in-Err.ensures.err
