use Rattle.std.proofs.Common.{[], ◌∷◌, Ok, Err, refl, arith}
use Rattle.std.specs.Prelude.{codes}
use Rattle.rebuild_model.specs.Generated.{generated_symbol_names, generated_section_names}
use Rattle.elf_calls_generate.specs.Stages.{symtab_sections, symtab_names, strtab_sections, strtab_names}
use Rattle.elf_calls_generate.proofs.NameUses.{whole, place_in, wants_in}
use Rattle.elf_calls_generate.proofs.NameFronts.{strtab_split, names_small}
use Rattle.elf_calls_generate.proofs.StageLaws.{stage_is, some_symtab, symtab_count}
use Rattle.elf_calls_generate.proofs.tables.add_strtab.Goals as goal

pub use_text-requires : goal.use_text-requires
use_text-requires c = whole (codes ".strtab") refl

pub add_table-requires : goal.add_table-requires
add_table-requires c = some_symtab c.args.n c.args.elf.now c.requires.stage.made

pub returns-in-Ok-clause-made : goal.returns-in-Ok-clause-made
returns-in-Ok-clause-made c =
    let n = c.args.n in
    let place =
    place_in (codes ".strtab") (Ok c.in-Ok.name) c.args.names.now c.use_text.new.names
    (symtab_names n) (codes ".shstrtab" ∷ []) (generated_section_names n)
    (strtab_split n) c.requires.stage.named c.in-Ok.ensures in
    stage_is c.add_table.result c.add_table.new.elf c.use_text.new.names
    (strtab_sections n) (strtab_sections n) (strtab_names n) (strtab_names n) refl refl
    (c.in-Ok.ensures.next (symtab_names n) c.requires.stage.named)
    (c.add_table.ensures.made n (codes ".strtab") (generated_symbol_names n) (symtab_sections n)
    place c.requires.strings c.requires.stage.made)

pub returns-in-Ok-clause-err : goal.returns-in-Ok-clause-err
returns-in-Ok-clause-err c =
    c.add_table.ensures.err (symtab_sections c.args.n) c.requires.stage.made
    (omega (arith, symtab_count c.args.n, c.requires.few))

pub returns-in-Err-clause-err : goal.returns-in-Err-clause-err
returns-in-Err-clause-err c =
    let n = c.args.n in
    wants_in (codes ".strtab") (Err c.in-Err.e) c.args.names.now c.use_text.new.names
    (symtab_names n) (codes ".shstrtab" ∷ []) (generated_section_names n)
    (strtab_split n) c.requires.stage.named c.in-Err.ensures (names_small n c.requires.few)
