use Rattle.std.proofs.Common.{◌+◌, length, sym, subst, arith}
use Rattle.elf_update_to.specs.elf_descriptor.State.{State}
use Rattle.elf_update_to.proofs.elf_update_plan.RowLaws.{ok_is}
use Rattle.elf_update_in_place.proofs.LoadLaws.{AreLoaded, loaded_next, loaded_skip, loaded_stop}
use Rattle.elf_update_in_place.proofs.loads.load_homes.Goals.{then-moves-s+in_default, else-moves-s}
use Rattle.elf_update_in_place.proofs.loads.load_homes.Goals as goal

pub returns-in-Err : goal.returns-in-Err
returns-in-Err g c =
    loaded_stop g.S.Source c.args.moves.now (length c.args.elf.now.o.sections) c.in-Err.e
    c.args.elf.now c.loop-s.elf c.load_one.new.elf c.loop-s.s
    (omega (arith, c.loop-s-test.true, ok_is _ _ c.shnum-s-end.ensures)) c.loop-s.invariant
    c.if-moves-s.true c.in-Err.ensures.some c.in-Err.ensures.asks c.in-Err.ensures.err

pub loop-s-preserved : goal.loop-s-preserved
loop-s-preserved g c =
    let n = length c.args.elf.now.o.sections in
    elim c.if-moves-s.branch [
      | then-moves-s+in_default w ↦
          subst (λ (e : State g.row.S.Denot). AreLoaded g.S.Source c.args.moves.now
          (length c.args.elf.now.o.sections) c.args.elf.now e (c.loop-s.s + 1)) (sym w.elf-is)
          (loaded_next g.S.Source c.args.moves.now (length c.args.elf.now.o.sections)
          c.args.elf.now c.loop-s.elf w.load_one.new.elf c.loop-s.s
          (omega (arith, c.loop-s-test.true, ok_is _ _ c.shnum-s-end.ensures)) c.loop-s.invariant
          w.if-moves-s.true w.in_default.ensures.some w.in_default.ensures.loaded
          w.in_default.ensures.asks)
      | else-moves-s w ↦
          subst (λ (e : State g.row.S.Denot). AreLoaded g.S.Source c.args.moves.now
          (length c.args.elf.now.o.sections) c.args.elf.now e (c.loop-s.s + 1)) (sym w.elf-is)
          (loaded_skip g.S.Source c.args.moves.now (length c.args.elf.now.o.sections)
          c.args.elf.now c.loop-s.elf c.loop-s.s
          (omega (arith, c.loop-s-test.true, ok_is _ _ c.shnum-s-end.ensures)) c.loop-s.invariant
          w.if-moves-s.false)
    ]
