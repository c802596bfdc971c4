use Rattle.std.proofs.Common.{Bool}
use Rattle.tool_objects.specs.elf_object.Object.{Object}
use Rattle.tool_objects.proofs.ElfSteps.{elf_left, elf_says, elf_learns, elf_learns_none}
use Rattle.elf_lint_findings.specs.declared.places.Place.TheVariants.{Item}
use Rattle.elf_lint_findings.specs.Findings.{finding, findings_shown, found_if}
use Rattle.elf_lint_symbols.proofs.by_symbol.show_symbol.Goals as goal

pub returns-in-Ok : goal.returns-in-Ok
returns-in-Ok g c =
    let by = c.args.by.now in
    let s = c.args.t.section.0 in
    let finds = λ (o : Object). g.R.SymbolRule.finds o s c.args.i c.args.x in
    let report = λ (b : Bool) (o : Object). findings_shown by.name.now (found_if b (finding by.number (Item s c.args.i) by.text.now)) in
    elf_learns g.S.Source g.O.Sink g.E.Sink finds c.args.elf.now _ c.in-Ok.holds report _ _ c.args.outputs.now _ c.in-Ok.ensures
    (elf_says g.S.Source g.O.Sink g.E.Sink (report c.in-Ok.holds) _ c.finds.new.elf _ c.args.outputs.now _ (elf_left g.S.Source c.finds.new.elf)
    (λ told. c.find_if.ensures.reports) c.find_if.ensures.leaves)

pub returns-in-Err : goal.returns-in-Err
returns-in-Err g c =
    elf_learns_none g.S.Source g.O.Sink g.E.Sink _ c.args.elf.now _ _ _ c.args.outputs.now c.in-Err.ensures
