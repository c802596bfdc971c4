use Rattle.std.proofs.Common.{Err, Result}
use Rattle.elf_outside.specs.declared.no_source.NoSource.{NoSource}
use Rattle.elf_types.specs.declared.errors.ElfError.{ElfError}
use Rattle.rebuild_model.specs.Split.{debug_refusal}
use Rattle.rebuild_object.specs.elf_descriptor.State.{State}
use Rattle.rebuild_object.proofs.rebuild_keep.AskLaws.{asks_nothing, asks_memory}
use Rattle.rebuild_object.proofs.rebuild_keep.MakeLaws.{refused_quiet, refused_unread, quiet_rose}
use Rattle.rebuild_debug.specs.Half.{half_due}
use Rattle.rebuild_debug.proofs.HalfLaws.{answer_refused}
use Rattle.rebuild_debug.proofs.PlanLaws.{half_answers, half_early, half_passed, half_asks, memory_answer, memory_early}
use Rattle.rebuild_debug.proofs.halving.debug_of.Goals as goal

pub returns-in-Err-clause-answer : goal.returns-in-Err-clause-answer
returns-in-Err-clause-answer g c = λ t.
    answer_refused c.args.elf.now.o c.in-Err.e
    (refused_unread (debug_refusal c.args.elf.now.o) c.in-Err.e c.in-Err.ensures.err)

pub returns-in-Err-clause-early : goal.returns-in-Err-clause-early
returns-in-Err-clause-early g c =
    refused_unread (debug_refusal c.args.elf.now.o) c.in-Err.e c.in-Err.ensures.err

pub returns-in-Err-clause-asks : goal.returns-in-Err-clause-asks
returns-in-Err-clause-asks g c =
    let failed : Result (State NoSource) ElfError = Err c.in-Err.e in
    asks_nothing g.S.Source failed c.args.elf.now (half_due c.args.elf.now.o)
    (quiet_rose (State NoSource) c.in-Err.e (g.S.Source.faults c.args.elf.now.source)
    (g.S.Source.faults c.args.elf.now.source)
    (refused_quiet (debug_refusal c.args.elf.now.o) c.in-Err.e c.in-Err.ensures.err))

pub returns-in-Ok-arrange_half-clause-answer : goal.returns-in-Ok-arrange_half-clause-answer
returns-in-Ok-arrange_half-clause-answer g c =
    half_answers g.S.Source c.args.elf.now c.object_of.new.elf c.dirty-sound.ensures.sound.object
    c.in-Ok.ensures.passed c.in-Ok-arrange_half.x c.in-Ok-arrange_half.ensures
    c.object_of.result c.object_of.ensures.object c.object_of.ensures.err

pub returns-in-Ok-arrange_half-clause-passed : goal.returns-in-Ok-arrange_half-clause-passed
returns-in-Ok-arrange_half-clause-passed g c =
    half_passed g.S.Source c.args.elf.now c.object_of.new.elf c.dirty-sound.ensures.sound.object
    c.in-Ok.ensures.passed c.in-Ok-arrange_half.x c.in-Ok-arrange_half.ensures
    c.object_of.result

pub returns-in-Ok-arrange_half-clause-early : goal.returns-in-Ok-arrange_half-clause-early
returns-in-Ok-arrange_half-clause-early g c =
    half_early g.S.Source c.args.elf.now c.object_of.new.elf c.dirty-sound.ensures.sound.object
    c.in-Ok.ensures.passed c.in-Ok-arrange_half.x c.in-Ok-arrange_half.ensures
    c.object_of.result c.object_of.ensures.err

pub returns-in-Ok-arrange_half-clause-asks : goal.returns-in-Ok-arrange_half-clause-asks
returns-in-Ok-arrange_half-clause-asks g c =
    half_asks g.S.Source c.args.elf.now c.object_of.new.elf c.dirty-sound.ensures.sound.object
    c.in-Ok.ensures.passed c.in-Ok-arrange_half.x c.in-Ok-arrange_half.ensures
    c.object_of.result c.object_of.ensures.asks

pub returns-in-Err-arrange_half-clause-answer : goal.returns-in-Err-arrange_half-clause-answer
returns-in-Err-arrange_half-clause-answer g c = λ t.
    memory_answer c.args.elf.now.o c.in-Err-arrange_half.e c.in-Err-arrange_half.ensures.err

pub returns-in-Err-arrange_half-clause-early : goal.returns-in-Err-arrange_half-clause-early
returns-in-Err-arrange_half-clause-early g c =
    memory_early c.args.elf.now.o c.in-Err-arrange_half.e c.in-Err-arrange_half.ensures.err

pub returns-in-Err-arrange_half-clause-asks : goal.returns-in-Err-arrange_half-clause-asks
returns-in-Err-arrange_half-clause-asks g c =
    asks_memory g.S.Source {U = State NoSource} c.args.elf.now (half_due c.args.elf.now.o)
    c.in-Err-arrange_half.e c.in-Err-arrange_half.ensures.err
