use Rattle.std.proofs.Common.{[], ◌∷◌, Ok, Err, refl, arith}
use Rattle.std.specs.Prelude.{codes}
use Rattle.rebuild_model.specs.Generated.{generated_section_names}
use Rattle.elf_calls_generate.specs.Stages.{data_sections, data_names, symtab_sections, symtab_names}
use Rattle.elf_calls_generate.proofs.NameUses.{whole, place_in, wants_in}
use Rattle.elf_calls_generate.proofs.NameFronts.{symtab_split, names_small}
use Rattle.elf_calls_generate.proofs.MadeSections.{made_symtab}
use Rattle.elf_calls_generate.proofs.StageLaws.{added_as, stage_is, some_data, data_count}
use Rattle.elf_calls_generate.proofs.tables.add_symtab.Goals as goal

pub use_text-requires : goal.use_text-requires
use_text-requires c = whole (codes ".symtab") refl

pub add-requires : goal.add-requires
add-requires c = some_data c.args.n c.args.n c.args.elf.now c.requires.stage.made

pub returns-in-Ok-clause-made : goal.returns-in-Ok-clause-made
returns-in-Ok-clause-made c =
    let n = c.args.n in
    let place =
    place_in (codes ".symtab") (Ok c.in-Ok.name) c.args.names.now c.use_text.new.names
    (data_names n) (codes ".strtab" ∷ codes ".shstrtab" ∷ []) (generated_section_names n)
    (symtab_split n) c.requires.stage.named c.in-Ok.ensures in
    stage_is c.add.result c.add.new.elf c.use_text.new.names
    (symtab_sections n) (symtab_sections n) (symtab_names n) (symtab_names n) refl refl
    (c.in-Ok.ensures.next (data_names n) c.requires.stage.named)
    (added_as c.add.result c.add.new.elf (data_sections n n) _ _
    (made_symtab n c.in-Ok.name c.args.symbols place c.requires.symbols)
    (c.add.ensures.made (data_sections n n) c.requires.stage.made))

pub returns-in-Ok-clause-err : goal.returns-in-Ok-clause-err
returns-in-Ok-clause-err c =
    c.add.ensures.err (data_sections c.args.n c.args.n) c.requires.stage.made
    (omega (arith, data_count c.args.n c.args.n, c.requires.few))

pub returns-in-Err-clause-err : goal.returns-in-Err-clause-err
returns-in-Err-clause-err c =
    let n = c.args.n in
    wants_in (codes ".symtab") (Err c.in-Err.e) c.args.names.now c.use_text.new.names
    (data_names n) (codes ".strtab" ∷ codes ".shstrtab" ∷ []) (generated_section_names n)
    (symtab_split n) c.requires.stage.named c.in-Err.ensures (names_small n c.requires.few)
