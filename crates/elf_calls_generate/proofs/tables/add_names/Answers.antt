use Rattle.std.proofs.Common.{[], ◌∷◌, ◌++◌, Ok, Err, refl, ap, ◌∙◌, arith}
use Rattle.std.specs.Prelude.{codes}
use Rattle.strtab_build.specs.Table.{table}
use Rattle.strtab_build.proofs.TableLemmas.{table-distinct}
use Rattle.rebuild_model.specs.Generated.{generated_section_names}
use Rattle.elf_calls_generate.specs.Stages.{strtab_sections, strtab_names}
use Rattle.elf_calls_generate.proofs.NameUses.{whole, place_in, wants_in}
use Rattle.elf_calls_generate.proofs.NameFronts.{shstrtab_split, shstrtab_whole, names_small}
use Rattle.elf_calls_generate.proofs.StageLaws.{some_strtab, strtab_count}
use Rattle.elf_calls_generate.proofs.tables.add_names.Goals as goal

pub use_text-requires : goal.use_text-requires
use_text-requires c = whole (codes ".shstrtab") refl

pub finish_names-requires : goal.finish_names-requires
finish_names-requires c = some_strtab c.args.n c.args.elf.now c.requires.stage.made

pub returns-in-Ok-clause-made : goal.returns-in-Ok-clause-made
returns-in-Ok-clause-made c =
    let n = c.args.n in
    let next = c.in-Ok.ensures.next (strtab_names n) c.requires.stage.named in
    let place =
    place_in (codes ".shstrtab") (Ok c.in-Ok.name) c.args.names c.use_text.new.names
    (strtab_names n) [] (generated_section_names n) (shstrtab_split n) c.requires.stage.named
    c.in-Ok.ensures in
    c.finish_names.ensures.made n (codes ".shstrtab") (strtab_sections n) place
    (ap table next ∙ table-distinct (strtab_names n ++ codes ".shstrtab" ∷ [])
    ∙ ap table (shstrtab_whole n)) c.requires.stage.made

pub returns-in-Ok-clause-err : goal.returns-in-Ok-clause-err
returns-in-Ok-clause-err c =
    c.finish_names.ensures.err (strtab_sections c.args.n) c.requires.stage.made
    (omega (arith, strtab_count c.args.n, c.requires.few))

pub returns-in-Err-clause-err : goal.returns-in-Err-clause-err
returns-in-Err-clause-err c =
    let n = c.args.n in
    wants_in (codes ".shstrtab") (Err c.in-Err.e) c.args.names c.use_text.new.names
    (strtab_names n) [] (generated_section_names n) (shstrtab_split n) c.requires.stage.named
    c.in-Err.ensures (names_small n c.requires.few)
