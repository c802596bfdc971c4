use Rattle.std.proofs.Common.{ℕ, Option, refl, sym, subst}
use Rattle.tool_objects.specs.elf_object.Object.{Object}
use Rattle.tool_objects.proofs.ElfSteps.{elf_after, elf_unread}
use Rattle.elf_lint_symbols.specs.Symbols.{IsCheckedSymbolTable}
use Rattle.tool_objects.proofs.at_hand.Ends.{end_stays}
use Rattle.elf_lint_symbols.proofs.by_symbol.show_table.Goals as goal

pub each_of_table-requires-clause-table : goal.each_of_table-requires-clause-table
each_of_table-requires-clause-table g c =
    subst (λ (o : Object). IsCheckedSymbolTable o c.args.t) (sym c.in-Ok.ensures.reads.elf.object) c.requires

pub each_of_table-requires-clause-end : goal.each_of_table-requires-clause-end
each_of_table-requires-clause-end g c =
    end_stays g.S.Source c.args.elf.now c.end_of_names.new.elf c.args.t.strings.0 c.in-Ok.end
    c.in-Ok.ensures.reads.elf c.in-Ok.ensures.end

pub returns-in-Ok : goal.returns-in-Ok
returns-in-Ok g c =
    elf_after g.S.Source g.O.Sink g.E.Sink _ _ _ c.args.elf.now c.end_of_names.new.elf _
    c.args.outputs.now _ c.in-Ok.ensures.reads.elf c.each_of_table.ensures (λ told. refl)

pub returns-in-Err : goal.returns-in-Err
returns-in-Err g c =
    elf_unread g.S.Source g.O.Sink g.E.Sink (Option ℕ) c.in-Err.stop _ c.args.elf.now _
    c.args.outputs.now c.in-Err.ensures.reads
