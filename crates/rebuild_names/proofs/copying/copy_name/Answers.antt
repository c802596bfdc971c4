use Rattle.std.specs.Option.{option_copied}
use Rattle.rebuild_numbers.specs.elf_object.Strings.{section_name}
use Rattle.rebuild_numbers.proofs.rebuild_select.NameLaws.{ok_injective, name_value, name_ends, name_end, names_push}
use Rattle.rebuild_names.proofs.CopyLaws.{told_copied, plain_copied}
use Rattle.rebuild_names.proofs.copying.copy_name.Goals as goal

pub returns-in-Ok-clause-told : goal.returns-in-Ok-clause-told
returns-in-Ok-clause-told g c = λ told.
    told_copied c.copy_found.result c.copy_found.new.copy c.args.elf.now.o c.args.s.0
    (option_copied c.in-Ok.name) (ok_injective _ _ (c.in-Ok.ensures.answer.1 told))
    c.copy_found.ensures.ok

pub returns-in-Ok-clause-plain : goal.returns-in-Ok-clause-plain
returns-in-Ok-clause-plain g c =
    plain_copied c.copy_found.result c.copy_found.new.copy (option_copied c.in-Ok.name)
    c.copy_found.ensures.ok

pub returns-in-Ok-clause-reads : goal.returns-in-Ok-clause-reads
returns-in-Ok-clause-reads g c =
    names_push g.S.Source (tt {0}) c.copy_found.result c.args.elf.now _ c.copy_found.ensures.err
    (name_value g.S.Source c.in-Ok.name (tt {0}) c.args.elf.now _ c.args.s.0
    (rw c.in-Ok.is at c.section_name.follows.holds-at-none))

pub returns-in-Err-clause-reads : goal.returns-in-Err-clause-reads
returns-in-Err-clause-reads g c =
    name_end g.S.Source c.in-Err.e c.args.elf.now _ c.args.s.0
    (name_ends g.S.Source c.args.elf.now c.args.s.0 c.args.elf.now.told c.in-Err.e
    (section_name c.args.elf.now.o c.args.s.0) c.in-Err.ensures.answer)
    (rw c.in-Err.is at c.section_name.follows.holds-at-none)
