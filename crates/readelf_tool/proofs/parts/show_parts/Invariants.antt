use Rattle.std.proofs.Common.{◌≡◌, false, take, drop}
use Rattle.std.specs.List.{count_by}
use Rattle.tool_output.specs.Reports.{reports_of}
use Rattle.tool_objects.specs.Steps.{ElfOver}
use Rattle.readelf_tool.specs.Parts.{letters, letter_part, readelf_report, shows_sections, goes_over}
use Rattle.readelf_tool.proofs.parts.show_parts.Given as goal

abbrev pub invariant-loop-letter : goal.invariant-loop-letter
invariant-loop-letter g l = record {
  report : ElfOver g.S.Source g.O.Sink g.E.Sink
      (count_by (goes_over l.parts) (take l.letter-index letters))
      l.refused l.initial.elf l.elf l.initial.outputs l.outputs
      (readelf_report l.parts l.name) (λ o. reports_of (λ letter. letter_part l.parts l.name letter o) (drop l.letter-index letters));
  unread : shows_sections l.parts ≡ false → l.elf ≡ l.initial.elf;
}
