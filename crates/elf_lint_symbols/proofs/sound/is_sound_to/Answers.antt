use Rattle.std.proofs.Common.{◌≡◌, true, length, ap, sym, ◌∙◌, subst}
use Rattle.tool_objects.specs.elf_object.Object.{Object}
use Rattle.tool_objects.proofs.ElfSteps.{still_told}
use Rattle.tool_objects.proofs.at_hand.Ends.{end_stays}
use Rattle.elf_lint_findings.proofs.LentLemmas.{symbols_are}
use Rattle.elf_lint_symbols.specs.Symbols.{AreSoundSymbols, IsCheckedSymbolTable}
use Rattle.elf_lint_symbols.proofs.sound.is_sound_to.Goals as goal

pub load_items-requires-clause-count : goal.load_items-requires-clause-count
load_items-requires-clause-count g c =
    c.requires.table.count
    ∙ ap length (symbols_are c.args.elf.now.o c.args.t.section.0 c.requires.table.passed)

pub is_sound_loaded-requires-clause-table : goal.is_sound_loaded-requires-clause-table
is_sound_loaded-requires-clause-table g c =
    subst (λ (o : Object). IsCheckedSymbolTable o c.args.t) (sym c.in-Ok.ensures.elf.object)
    c.requires.table

pub is_sound_loaded-requires-clause-end : goal.is_sound_loaded-requires-clause-end
is_sound_loaded-requires-clause-end g c =
    end_stays g.S.Source c.args.elf.now c.load_items.new.elf c.args.t.strings.0 c.args.end
    c.in-Ok.ensures.elf c.requires.end

pub returns-in-Ok : goal.returns-in-Ok
returns-in-Ok g c = record {
  sound = λ told.
      subst
      (λ (o : Object). c.is_sound_loaded.result ≡ true → AreSoundSymbols o c.args.t.section.0)
      c.in-Ok.ensures.elf.object
      (c.is_sound_loaded.ensures
      (still_told g.S.Source c.args.elf.now _ c.in-Ok.ensures.elf told));
  reads = record { elf = c.in-Ok.ensures.elf; read = tt; write = tt };
}
