use Rattle.std.proofs.Common.{length, refl, ap, sym, ◌∙◌, subst}
use Rattle.tool_objects.specs.elf_object.Object.{Object}
use Rattle.tool_objects.proofs.ElfSteps.{elf_after, elf_unread}
use Rattle.tool_objects.proofs.at_hand.Ends.{end_stays}
use Rattle.elf_lint_findings.proofs.LentLemmas.{symbols_are}
use Rattle.elf_lint_symbols.specs.Symbols.{IsCheckedSymbolTable}
use Rattle.elf_lint_symbols.proofs.by_symbol.each_of_table.Goals as goal

pub load_items-requires-clause-count : goal.load_items-requires-clause-count
load_items-requires-clause-count g c =
    c.requires.table.count
    ∙ ap length (symbols_are c.args.elf.now.o c.args.t.section.0 c.requires.table.passed)

pub each_loaded-requires-clause-table : goal.each_loaded-requires-clause-table
each_loaded-requires-clause-table g c =
    subst (λ (o : Object). IsCheckedSymbolTable o c.args.t) (sym c.in-Ok.ensures.elf.object) c.requires.table

pub each_loaded-requires-clause-end : goal.each_loaded-requires-clause-end
each_loaded-requires-clause-end g c =
    end_stays g.S.Source c.args.elf.now c.load_items.new.elf c.args.t.strings.0 c.args.end
    c.in-Ok.ensures.elf c.requires.end

pub returns-in-Ok : goal.returns-in-Ok
returns-in-Ok g c =
    elf_after g.S.Source g.O.Sink g.E.Sink _ _ _ c.args.elf.now c.load_items.new.elf _
    c.args.outputs.now _ c.in-Ok.ensures.elf c.each_loaded.ensures (λ told. refl)

pub returns-in-Err : goal.returns-in-Err
returns-in-Err g c =
    elf_unread g.S.Source g.O.Sink g.E.Sink (Unit {0}) c.in-Err.stop _ c.args.elf.now _
    c.args.outputs.now c.in-Err.ensures
