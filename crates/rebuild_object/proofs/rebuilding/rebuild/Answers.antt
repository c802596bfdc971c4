use Rattle.std.proofs.Common.{Ok, Err, Result}
use Rattle.elf_types.specs.declared.errors.ElfError.{ElfError}
use Rattle.rebuild_model.specs.Rebuilt.{rebuilt}
use Rattle.rebuild_plan.specs.rebuild_keep.declared.rebuilding.Rebuilt.{Rebuilt}
use Rattle.rebuild_plan.specs.rebuild_keep.Answers.{early_refusal}
use Rattle.rebuild_plan.proofs.TiedLaws.{sound_fits}
use Rattle.rebuild_plan.proofs.rebuild_keep.AskLaws.{asks_as, asks_stop}
use Rattle.rebuild_plan.proofs.rebuild_keep.NumberLaws.{zero_stays}
use Rattle.rebuild_object.specs.Objects.{object_due}
use Rattle.rebuild_object.proofs.AnswerLaws.{arranged_error, unstated_answer, unstated_early, object_answers, asks_made, asks_arranged}
use Rattle.rebuild_object.proofs.rebuilding.rebuild.Goals as goal

pub returns-in-Err-clause-answer : goal.returns-in-Err-clause-answer
returns-in-Err-clause-answer g c = λ t.
    arranged_error c.args.elf.now.o c.in-Err.e
    (rebuilt c.args.elf.now.o c.args.removed.now) (c.in-Err.ensures.answer t)

pub returns-in-Err-clause-asks : goal.returns-in-Err-clause-asks
returns-in-Err-clause-asks g c =
    asks_arranged {T = Rebuilt} g.S.Source c.args.removed.now c.args.elf.now
    c.arrange_rebuilt.new.elf c.arrange_rebuilt.new.elf c.in-Err.e c.in-Err.ensures.asks

pub returns-in-Ok-object_of-clause-answer : goal.returns-in-Ok-object_of-clause-answer
returns-in-Ok-object_of-clause-answer g c =
    object_answers c.args.elf.now c.arrange_rebuilt.new.elf c.in-Ok.ensures.asks.object
    c.in-Ok.ensures.asks.told c.args.removed.now c.dirty-sound.ensures.sound.object
    c.requires.clean
    (sound_fits c.args.elf.now.o (g.S.Source.holds c.args.elf.now.source) c.args.elf.now.told
    c.dirty-sound.ensures.told c.dirty-sound.ensures.sound c.requires.clean)
    (zero_stays c.args.elf.now.o c.args.removed.now c.requires.removable) c.in-Ok.x
    c.in-Ok-object_of.made.o c.in-Ok.ensures.answer c.in-Ok.ensures.makes
    c.in-Ok-object_of.ensures.object

pub returns-in-Ok-object_of-clause-asks : goal.returns-in-Ok-object_of-clause-asks
returns-in-Ok-object_of-clause-asks g c =
    let answer : Result Rebuilt ElfError =
    Ok (record { elf = c.in-Ok-object_of.made; tail = c.in-Ok.x.tail }) in
    asks_made g.S.Source c.args.removed.now c.args.elf.now c.arrange_rebuilt.new.elf
    c.object_of.new.elf c.in-Ok.x answer c.in-Ok.ensures.makes c.in-Ok.ensures.asks
    (asks_as g.S.Source (Ok c.in-Ok-object_of.made) answer c.arrange_rebuilt.new.elf
    c.object_of.new.elf (object_due c.in-Ok.x) tt c.in-Ok-object_of.ensures.asks)

pub returns-clause-answer : goal.returns-clause-answer
returns-clause-answer g c = λ t.
    unstated_answer c.in-Err-object_of.e (rebuilt c.args.elf.now.o c.args.removed.now)
    c.in-Err-object_of.ensures.err

pub returns-clause-early : goal.returns-clause-early
returns-clause-early g c =
    unstated_early c.in-Err-object_of.e
    (early_refusal c.args.elf.now.o c.args.removed.now) c.in-Err-object_of.ensures.err

pub returns-clause-asks : goal.returns-clause-asks
returns-clause-asks g c =
    asks_made {T = Rebuilt} g.S.Source c.args.removed.now c.args.elf.now
    c.arrange_rebuilt.new.elf c.object_of.new.elf c.in-Ok.x (Err c.in-Err-object_of.e)
    c.in-Ok.ensures.makes c.in-Ok.ensures.asks
    (asks_stop g.S.Source {U = Rebuilt} c.in-Err-object_of.e c.arrange_rebuilt.new.elf
    c.object_of.new.elf (object_due c.in-Ok.x) c.in-Err-object_of.ensures.asks)
