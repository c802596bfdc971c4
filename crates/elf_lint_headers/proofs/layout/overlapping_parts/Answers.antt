use Rattle.std.proofs.Common.{Bool, Option, sym, ap, ◌∙◌}
use Rattle.elf_types.specs.declared.records.Part.{Part}
use Rattle.tool_output.specs.declared.stops.Stop.TheVariants.{Memory}
use Rattle.elf_lint_findings.specs.Findings.{findings_shown}
use Rattle.elf_lint_findings.proofs.FindingLemmas.{no_findings}
use Rattle.tool_objects.proofs.ElfSteps.{elf_left, left_as, elf_says_none, elf_unread}
use Rattle.elf_lint_headers.specs.Layout.{overlapping_parts, overlap_found}
use Rattle.elf_lint_headers.proofs.layout.overlapping_parts.Goals as goal

pub returns-in-Ok-None : goal.returns-in-Ok-None
unfolding overlapping_parts
returns-in-Ok-None g c =
    let name = c.args.name.now in
    elf_says_none g.S.Source g.O.Sink g.E.Sink (λ o. findings_shown name (overlapping_parts o)) c.args.elf.now c.args.elf.now c.args.outputs.now (elf_left g.S.Source c.args.elf.now)
    (λ told. ap (λ (pair : Option (Part × Part)). findings_shown name (overlap_found pair)) (sym c.in-Ok-None.ensures.ok ∙ c.in-Ok-None.field-0-is) ∙ no_findings name)

pub returns-in-Err : goal.returns-in-Err
returns-in-Err g c =
    rw c.want_of.ensures
    (elf_unread g.S.Source g.O.Sink g.E.Sink Bool Memory _ c.args.elf.now c.args.elf.now c.args.outputs.now (record {
      elf = left_as g.S.Source (Unit {0}) ⊥ c.args.elf.now c.args.elf.now (λ went. tt) (elf_left g.S.Source c.args.elf.now);
      read = tt;
      write = tt;
    }))
