use Rattle.std.proofs.Common.{◌≡◌, length, None, refl, sym, subst}
use Rattle.tool_objects.specs.elf_object.Object.{Object}
use Rattle.tool_objects.specs.elf_object.Answers.{items_at, lend_refusal}
use Rattle.tool_objects.proofs.ElfSteps.{elf_after, elf_unread}
use Rattle.elf_lint_symbols.proofs.by_relocation.each_of_section.Goals as goal

pub each_loaded-requires-clause-passed : goal.each_loaded-requires-clause-passed
each_loaded-requires-clause-passed g c =
    subst (λ (o : Object). lend_refusal o g.T.Listed.kind c.args.r.section.0 0 ≡ None)
    (sym c.in-Ok.ensures.elf.object) c.requires.passed

pub each_loaded-requires-clause-count : goal.each_loaded-requires-clause-count
each_loaded-requires-clause-count g c =
    subst
    (λ (o : Object). c.args.count ≡ length (g.T.Listed.list_of (items_at o c.args.r.section.0 0)))
    (sym c.in-Ok.ensures.elf.object) c.requires.count

pub returns-in-Ok : goal.returns-in-Ok
returns-in-Ok g c =
    elf_after g.S.Source g.O.Sink g.E.Sink _ _ _ c.args.elf.now c.load_items.new.elf _
    c.args.outputs.now _ c.in-Ok.ensures.elf c.each_loaded.ensures (λ told. refl)

pub returns-in-Err : goal.returns-in-Err
returns-in-Err g c =
    elf_unread g.S.Source g.O.Sink g.E.Sink (Unit {0}) c.in-Err.stop _ c.args.elf.now _
    c.args.outputs.now c.in-Err.ensures
