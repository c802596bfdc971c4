use Rattle.std.proofs.Common.{◌≡◌, true, IfOk, sym, subst}
use Rattle.tool_objects.specs.elf_object.Object.{Object}
use Rattle.tool_objects.proofs.ElfSteps.{still_told}
use Rattle.tool_objects.proofs.LearnLemmas.{reads_after}
use Rattle.tool_objects.proofs.at_hand.Ends.{end_stays}
use Rattle.elf_lint_symbols.specs.Symbols.{AreSoundSymbols, IsCheckedSymbolTable}
use Rattle.elf_lint_symbols.proofs.sound.is_sound_table.Goals as goal

pub is_sound_to-requires-clause-table : goal.is_sound_to-requires-clause-table
is_sound_to-requires-clause-table g c =
    subst (λ (o : Object). IsCheckedSymbolTable o c.args.t)
    (sym c.in-Ok.ensures.reads.elf.object) c.requires

pub is_sound_to-requires-clause-end : goal.is_sound_to-requires-clause-end
is_sound_to-requires-clause-end g c =
    end_stays g.S.Source c.args.elf.now c.end_of_names.new.elf c.args.t.strings.0 c.in-Ok.end
    c.in-Ok.ensures.reads.elf c.in-Ok.ensures.end

pub returns-in-Ok : goal.returns-in-Ok
returns-in-Ok g c = record {
  sound = λ told.
      subst
      (λ (o : Object). IfOk c.is_sound_to.result
      (λ sound. sound ≡ true → AreSoundSymbols o c.args.t.section.0))
      c.in-Ok.ensures.reads.elf.object
      (c.is_sound_to.ensures.sound
      (still_told g.S.Source c.args.elf.now _ c.in-Ok.ensures.reads.elf told));
  reads = reads_after g.S.Source _ c.args.elf.now c.end_of_names.new.elf _
      c.in-Ok.ensures.reads.elf c.is_sound_to.ensures.reads;
}
