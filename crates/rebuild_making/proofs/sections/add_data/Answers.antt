use Rattle.std.proofs.Common.{true, false, Option, sym, ◌∙◌, subst}
use Rattle.std.specs.Prelude.{IfErr}
use Rattle.std.proofs.lemmas.Result.{on_ok_weaker}
use Rattle.elf_types.specs.declared.errors.ElfError.{ElfError}
use Rattle.rebuild_making.specs.Refused.{RefusedBy}
use Rattle.rebuild_making.proofs.AddLaws.{data_pushed, data_refused}
use Rattle.rebuild_making.proofs.sections.add_data.Goals as goal

pub returns-then-occupies_file-clause-made : goal.returns-then-occupies_file-clause-made
returns-then-occupies_file-clause-made g c =
    on_ok_weaker c.push_data.result
    (λ is. is ∙ sym (data_pushed c.args.elf.now c.args.s.0 c.args.h.now c.args.items true
    (sym c.occupies_file.ensures ∙ c.if-occupies_file.true))) c.push_data.ensures.made

pub returns-then-occupies_file-clause-passed : goal.returns-then-occupies_file-clause-passed
returns-then-occupies_file-clause-passed g c =
    on_ok_weaker c.push_data.result
    (λ is. data_refused c.args.elf.now.o c.args.s.0 c.args.h.now c.args.items true
    (sym c.occupies_file.ensures ∙ c.if-occupies_file.true) ∙ is) c.push_data.ensures.passed

pub returns-then-occupies_file-clause-err : goal.returns-then-occupies_file-clause-err
returns-then-occupies_file-clause-err g c =
    subst (λ (r : Option ElfError). IfErr c.push_data.result (RefusedBy r))
    (sym (data_refused c.args.elf.now.o c.args.s.0 c.args.h.now c.args.items true
    (sym c.occupies_file.ensures ∙ c.if-occupies_file.true))) c.push_data.ensures.err

pub returns-clause-made : goal.returns-clause-made
returns-clause-made g c =
    sym (data_pushed c.args.elf.now c.args.s.0 c.args.h.now c.args.items false
    (sym c.occupies_file.ensures ∙ c.if-occupies_file.false))

pub returns-clause-passed : goal.returns-clause-passed
returns-clause-passed g c =
    data_refused c.args.elf.now.o c.args.s.0 c.args.h.now c.args.items false
    (sym c.occupies_file.ensures ∙ c.if-occupies_file.false)
