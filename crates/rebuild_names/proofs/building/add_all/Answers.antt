use Rattle.std.proofs.Common.{◌≡◌, ◌<◌, ℕ, Bool, true, false, length, Ok, Err, sym, subst, arith}
use Rattle.std.specs.Prelude.{IsTrue}
use Rattle.rebuild_numbers.specs.elf_object.Object.{Object}
use Rattle.rebuild_numbers.specs.rebuild_select.Calls.{ReadsNames}
use Rattle.rebuild_names.specs.Names.{AddsSection, AreNamesAdded, KnowsNames, old_name}
use Rattle.rebuild_numbers.proofs.rebuild_select.NameLaws.{ok_injective, names_nothing, names_value, names_both}
use Rattle.rebuild_names.proofs.KnownLaws.{none_known}
use Rattle.rebuild_names.proofs.BelowLaws.{added_none, added_more, too_large}
use Rattle.rebuild_names.proofs.building.add_all.Goals as goal

pub add_section-requires-clause-there : goal.add_section-requires-clause-there
add_section-requires-clause-there g c =
    let count = ok_injective _ _ c.shnum-s-end.ensures in
    subst (λ (o : Object). c.loop-s.s < length o.sections)
    (sym c.loop-s.invariant.reads.object) (omega (arith, count, c.loop-s-test.true))

pub add_section-requires-clause-known : goal.add_section-requires-clause-known
add_section-requires-clause-known g c = λ told.
    let inv = c.loop-s.invariant in
    subst (λ (o : Object). KnowsNames o c.loop-s.making) (sym inv.reads.object)
    (inv.known (subst (λ (b : Bool). IsTrue b) inv.reads.reads.told told))

pub loop-s-init : goal.loop-s-init
loop-s-init g c = record {
  reads = names_nothing g.S.Source (tt {0}) c.args.elf.now;
  told = λ told. added_none c.args.elf.now.o c.args.removed.now c.args.making.now
      c.requires.strings c.requires.places;
  known = λ told. none_known (old_name c.args.elf.now.o) c.args.making.now.known
      c.args.making.now.strings c.requires.known;
}

pub returns-then-not-fits-clause-told : goal.returns-then-not-fits-clause-told
returns-then-not-fits-clause-told g c = λ told.
    let inv = c.loop-s.invariant in
    let count = ok_injective _ _ c.shnum-s-end.ensures in
    let adds = subst (λ (b : Bool). AddsSection c.loop-s.elf.o c.args.removed.now c.loop-s.s
    c.loop-s.making c.add_section.new.making b) c.if-not-fits.true
    (c.in-Ok.ensures.told (subst (λ (b : Bool). IsTrue b) (sym inv.reads.reads.told) told)) in
    too_large c.args.elf.now.o c.args.removed.now c.loop-s.making c.add_section.new.making
    c.loop-s.s (omega (arith, count, c.loop-s-test.true)) (inv.told told)
    (subst (λ (o : Object). AddsSection o c.args.removed.now c.loop-s.s c.loop-s.making
    c.add_section.new.making false) inv.reads.object adds)

pub returns-then-not-fits-clause-reads : goal.returns-then-not-fits-clause-reads
returns-then-not-fits-clause-reads g c =
    names_both g.S.Source (tt {0}) (Ok false) c.args.elf.now c.loop-s.elf
    c.add_section.new.elf c.loop-s.invariant.reads
    (subst (λ (b : Bool). ReadsNames g.S.Source (Ok b) c.loop-s.elf c.add_section.new.elf)
    c.if-not-fits.true c.in-Ok.ensures.reads)

pub loop-s-preserved : goal.loop-s-preserved
loop-s-preserved g c =
    let inv = c.loop-s.invariant in
    let count = ok_injective _ _ c.shnum-s-end.ensures in
    record {
      reads = names_both g.S.Source (tt {0}) (Ok (tt {0})) c.args.elf.now c.loop-s.elf
          c.add_section.new.elf inv.reads
          (names_value g.S.Source c.in-Ok.fits (tt {0}) c.loop-s.elf c.add_section.new.elf
          c.in-Ok.ensures.reads);
      told = λ told.
          let adds = subst (λ (b : Bool). AddsSection c.loop-s.elf.o c.args.removed.now
          c.loop-s.s c.loop-s.making c.add_section.new.making b) c.if-not-fits.false
          (c.in-Ok.ensures.told (subst (λ (b : Bool). IsTrue b) (sym inv.reads.reads.told) told))
          in
          added_more c.args.elf.now.o c.args.removed.now c.loop-s.making
          c.add_section.new.making c.loop-s.s (omega (arith, count, c.loop-s-test.true))
          (inv.told told)
          (subst (λ (o : Object). AddsSection o c.args.removed.now c.loop-s.s c.loop-s.making
          c.add_section.new.making true) inv.reads.object adds);
      known = λ told.
          subst (λ (o : Object). KnowsNames o c.add_section.new.making) inv.reads.object
          (c.in-Ok.ensures.known (subst (λ (b : Bool). IsTrue b) (sym inv.reads.reads.told) told)
          c.if-not-fits.false);
    }

pub returns-in-Err-clause-reads : goal.returns-in-Err-clause-reads
returns-in-Err-clause-reads g c =
    names_both g.S.Source (tt {0}) (Err c.in-Err.e) c.args.elf.now c.loop-s.elf
    c.add_section.new.elf c.loop-s.invariant.reads c.in-Err.ensures.reads

pub returns-clause-told : goal.returns-clause-told
returns-clause-told g c = λ told.
    let count = ok_injective _ _ c.shnum-s-end.ensures in
    let all : c.loop-s.s ≡ length c.args.elf.now.o.sections =
    omega (arith, count, c.loop-s-test.false, c.loop-s.auto.s-end) in
    subst (λ (n : ℕ). AreNamesAdded c.args.elf.now.o c.args.removed.now c.loop-s.making n) all
    (c.loop-s.invariant.told told)

pub returns-clause-reads : goal.returns-clause-reads
returns-clause-reads g c =
    names_value g.S.Source (tt {0}) true c.args.elf.now c.loop-s.elf c.loop-s.invariant.reads
