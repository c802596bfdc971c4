use Rattle.std.proofs.Common.{◌≡◌, true, IfOk, subst}
use Rattle.elf_types.specs.declared.records.ScnId.{ScnId}
use Rattle.elf_lint_symbols.specs.Symbols.{AreSoundSymbols}
use Rattle.elf_lint_symbols.proofs.SoundLemmas.{none_are_sound}
use Rattle.elf_lint_symbols.proofs.sound.is_sound_section.Goals as goal

pub returns-in-Some-clause-sound : goal.returns-in-Some-clause-sound
returns-in-Some-clause-sound g c = λ told.
    subst
    (λ (s : ScnId). IfOk c.is_sound_table.result
    (λ sound. sound ≡ true → AreSoundSymbols c.args.elf.now.o s.0))
    c.in-Some.ensures.section (c.is_sound_table.ensures.sound told)

pub returns-in-None-clause-sound : goal.returns-in-None-clause-sound
returns-in-None-clause-sound g c = λ told sound.
    none_are_sound c.args.elf.now.o c.args.s.0 c.in-None.ensures.none
