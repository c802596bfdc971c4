use Rattle.std.proofs.Common.{sym}
use Rattle.std.specs.Prelude.{codes}
use Rattle.tool_objects.specs.elf_object.Due.{all_sections}
use Rattle.tool_objects.proofs.ElfSteps.{elf_as}
use Rattle.elf_lint_findings.proofs.FindingLemmas.{findings_of}
use Rattle.elf_lint_symbols.specs.Relocations.{relocations_at, relocations_by_no_symbol}
use Rattle.elf_lint_symbols.proofs.relocations.relocations_by_no_symbol.Goals as goal

pub returns : goal.returns
unfolding relocations_by_no_symbol
returns g c =
    let o = c.args.elf.now.o in
    elf_as g.S.Source g.O.Sink g.E.Sink _ _ _ c.args.elf.now _ c.args.outputs.now _
    (λ told. sym (findings_of c.args.name.now (relocations_at 27 (codes "relocation by no symbol") o) (all_sections o))) c.each_section.ensures
