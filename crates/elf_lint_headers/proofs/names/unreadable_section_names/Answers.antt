use Rattle.std.proofs.Common.{Bool, ℕ, Option, IsTrue, refl, sym, subst}
use Rattle.tool_objects.specs.elf_object.Object.{Object}
use Rattle.tool_objects.proofs.ElfSteps.{elf_after, elf_failed, elf_unread}
use Rattle.tool_objects.specs.AtHand.Strings.{EndsAt}
use Rattle.elf_lint_headers.specs.Names.{HasSectionNames}
use Rattle.elf_lint_headers.proofs.names.unreadable_section_names.Goals as goal

pub names_past-requires-clause-has : goal.names_past-requires-clause-has
names_past-requires-clause-has g c =
    subst HasSectionNames (sym c.in-Ok-Some.ensures.reads.elf.object)
    (rw c.in-Ok-Some.field-0-is at c.in-Ok-Some.ensures.has)

pub names_past-requires-clause-end : goal.names_past-requires-clause-end
names_past-requires-clause-end g c = λ told.
    let before : IsTrue c.args.elf.now.told =
    subst (λ (is : Bool). IsTrue is) c.in-Ok-Some.ensures.reads.elf.told told in
    subst (λ (o : Object). EndsAt o o.header.shstrndx c.in-Ok-Some.end)
    (sym c.in-Ok-Some.ensures.reads.elf.object)
    (rw c.in-Ok-Some.field-0-is at (c.in-Ok-Some.ensures.end before))

pub returns-in-Ok-Some : goal.returns-in-Ok-Some
returns-in-Ok-Some g c =
    elf_after g.S.Source g.O.Sink g.E.Sink _ _ _ c.args.elf.now c.end_of_names.new.elf _
    c.args.outputs.now _ c.in-Ok-Some.ensures.reads.elf c.names_past.ensures (λ told. refl)

pub returns-in-Ok-None : goal.returns-in-Ok-None
returns-in-Ok-None g c =
    elf_after g.S.Source g.O.Sink g.E.Sink _ _ _ c.args.elf.now c.end_of_names.new.elf _
    c.args.outputs.now _ c.in-Ok-None.ensures.reads.elf c.names_one_by_one.ensures (λ told. refl)

pub returns-in-Err : goal.returns-in-Err
returns-in-Err g c =
    elf_failed g.S.Source g.O.Sink g.E.Sink _ c.in-Err.stop c.args.elf.now _
    c.args.outputs.now _
    (elf_unread g.S.Source g.O.Sink g.E.Sink (Option ℕ) c.in-Err.stop _ c.args.elf.now _
    c.args.outputs.now c.in-Err.ensures.reads)
