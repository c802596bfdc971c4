use Rattle.std.proofs.Common.{◌≡◌, ◌<◌, ℕ, Bool, [], length, map, Ok, Err, sym, ap, ◌∙◌, subst, arith}
use Rattle.std.specs.Prelude.{IsTrue}
use Rattle.std.specs.List.{range_with_len}
use Rattle.rebuild_model.specs.elf_object.Object.{Object}
use Rattle.rebuild_select.specs.Steps.{goes, goes_by_name, AreMarksRemovable}
use Rattle.rebuild_select.proofs.FoundLaws.{mark_told, mark_apart, marks_none}
use Rattle.rebuild_select.proofs.NameLaws.{ok_injective, names_nothing, names_both}
use Rattle.rebuild_select.proofs.names.fill_marks.Goals as goal

pub mark_by_name-requires : goal.mark_by_name-requires
mark_by_name-requires g c =
    let count = ok_injective _ _ c.shnum-s-end.ensures in
    subst (λ (o : Object). c.loop-s.s < length o.sections)
    (sym c.loop-s.invariant.reads.object) (omega (arith, count, c.loop-s-test.true))

pub loop-s-init : goal.loop-s-init
loop-s-init g c = record {
  reads = names_nothing g.S.Source (tt {0}) c.args.elf.now;
  told = λ told. c.requires;
  apart = marks_none c.args.elf.now.o _ c.requires;
}

pub loop-s-preserved : goal.loop-s-preserved
loop-s-preserved g c =
    let inv = c.loop-s.invariant in
    let same = inv.reads.object in
    record {
      reads = names_both g.S.Source (tt {0}) (Ok (tt {0})) c.args.elf.now c.loop-s.elf
          c.mark_by_name.new.elf inv.reads c.in-Ok.ensures.reads;
      told = λ told. mark_told c.args.elf.now.o c.loop-s.elf.o same c.loop-s.marks
          c.mark_by_name.new.marks c.loop-s.s c.args.debug_too c.args.names.now
          (c.in-Ok.ensures.told (subst (λ (b : Bool). IsTrue b) (sym inv.reads.reads.told) told))
          (inv.told told);
      apart = mark_apart c.args.elf.now.o c.loop-s.elf.o same c.loop-s.marks
          c.mark_by_name.new.marks c.loop-s.s c.in-Ok.ensures.apart inv.apart;
    }

pub returns-in-Err-clause-reads : goal.returns-in-Err-clause-reads
returns-in-Err-clause-reads g c =
    names_both g.S.Source (tt {0}) (Err c.in-Err.e) c.args.elf.now c.loop-s.elf
    c.mark_by_name.new.elf c.loop-s.invariant.reads c.in-Err.ensures.reads

pub returns-clause-told : goal.returns-clause-told
returns-clause-told g c = λ told.
    let count = ok_injective _ _ c.shnum-s-end.ensures in
    let all : c.loop-s.s ≡ length c.args.elf.now.o.sections =
    omega (arith, count, c.loop-s-test.false, c.loop-s.auto.s-end) in
    c.loop-s.invariant.told told
    ∙ ap (λ (n : ℕ). map (goes c.args.elf.now.o
    (goes_by_name c.args.debug_too c.args.names.now c.args.elf.now.o) [])
    (range_with_len 0 n)) all

pub returns-clause-apart : goal.returns-clause-apart
returns-clause-apart g c =
    let count = ok_injective _ _ c.shnum-s-end.ensures in
    let all : c.loop-s.s ≡ length c.args.elf.now.o.sections =
    omega (arith, count, c.loop-s-test.false, c.loop-s.auto.s-end) in
    subst (λ (n : ℕ). AreMarksRemovable c.args.elf.now.o c.loop-s.marks n) all c.loop-s.invariant.apart
