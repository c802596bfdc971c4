use Rattle.std.proofs.Common.{sym, ◌∙◌, arith}
use Rattle.tool_objects.proofs.ElfSteps.{elf_left, elf_as, elf_over, elf_says_none}
use Rattle.readelf_tool.specs.Parts.{letter_report, letter_part}
use Rattle.readelf_tool.proofs.PartLemmas.{part_asked, part_not_asked, asked_once, unread_asked}
use Rattle.readelf_tool.proofs.parts.show_part.Goals as goal

pub returns-then-is_asked-clause-reports : goal.returns-then-is_asked-clause-reports
returns-then-is_asked-clause-reports g c =
    let name = c.args.name.now in
    let asked = sym c.is_asked.ensures ∙ c.if-is_asked.true in
    elf_over g.S.Source g.O.Sink g.E.Sink _ _ _ _ c.args.elf.now _ c.args.outputs.now _
    (asked_once c.args.parts.now c.args.letter asked)
    (elf_as g.S.Source g.O.Sink g.E.Sink (letter_report c.args.letter name)
    (letter_part c.args.parts.now name c.args.letter) _ c.args.elf.now _ c.args.outputs.now _
    (λ told. part_asked c.args.parts.now c.args.letter name c.args.elf.now.o asked)
    c.show_letter.ensures.reports)

pub returns-then-is_asked-clause-unread : goal.returns-then-is_asked-clause-unread
returns-then-is_asked-clause-unread g c = λ off.
    c.show_letter.ensures.unread (unread_asked c.args.parts.now c.args.letter
    (sym c.is_asked.ensures ∙ c.if-is_asked.true) off)

pub returns-else-is_asked-clause-reports : goal.returns-else-is_asked-clause-reports
returns-else-is_asked-clause-reports g c =
    let name = c.args.name.now in
    elf_over g.S.Source g.O.Sink g.E.Sink 0 _ _ _ c.args.elf.now _ c.args.outputs.now _ (omega arith)
    (elf_says_none g.S.Source g.O.Sink g.E.Sink (letter_part c.args.parts.now name c.args.letter)
    c.args.elf.now _ c.args.outputs.now (elf_left g.S.Source c.args.elf.now)
    (λ told. part_not_asked c.args.parts.now c.args.letter name c.args.elf.now.o
    (sym c.is_asked.ensures ∙ c.if-is_asked.false)))
