use Rattle.std.proofs.Common.{Bool, true, refl, sym, ◌∙◌, subst}
use Rattle.std.specs.Prelude.{IfOk}
use Rattle.rebuild_names.specs.Names.{AddsBy}
use Rattle.rebuild_numbers.proofs.rebuild_select.NameLaws.{names_nothing, names_memory}
use Rattle.rebuild_names.proofs.building.add_section.Goals as goal

pub returns-then-is_kept-clause-told : goal.returns-then-is_kept-clause-told
returns-then-is_kept-clause-told g c = λ told.
    subst (λ (b : Bool). IfOk c.add_kept.result (AddsBy b c.args.elf.now.o c.args.s.0
    c.args.making.now c.add_kept.new.making))
    (sym (sym c.is_kept.ensures ∙ c.if-is_kept.true)) (c.add_kept.ensures.told told)

pub returns-in-Ok-clause-told : goal.returns-in-Ok-clause-told
returns-in-Ok-clause-told g c = λ told.
    subst (λ (b : Bool). AddsBy b c.args.elf.now.o c.args.s.0 c.args.making.now
    (record c.args.making.now { places = c.push.new.self }) true)
    (sym (sym c.is_kept.ensures ∙ c.if-is_kept.false)) (refl, refl, c.in-Ok.ensures.ok)

pub returns-in-Ok-clause-known : goal.returns-in-Ok-clause-known
returns-in-Ok-clause-known g c = λ told fits. c.requires.known told

pub returns-in-Ok-clause-reads : goal.returns-in-Ok-clause-reads
returns-in-Ok-clause-reads g c = names_nothing g.S.Source true c.args.elf.now

pub returns-in-Err-clause-reads : goal.returns-in-Err-clause-reads
returns-in-Err-clause-reads g c =
    names_memory g.S.Source (tt {0}) c.in-Err.e c.args.elf.now c.args.elf.now
    c.in-Err.ensures.err (names_nothing g.S.Source (tt {0}) c.args.elf.now)
