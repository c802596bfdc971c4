use Rattle.std.proofs.Common.{◌+◌, [], ◌∷◌, ◌++◌, drop, Ok, Err, refl, sym, arith}
use Rattle.std.specs.Prelude.{codes}
use Rattle.rebuild_model.specs.Generated.{numbered_name, generated_data, generated_section_names}
use Rattle.elf_calls_generate.specs.Stages.{data_sections, data_names}
use Rattle.elf_calls_generate.proofs.NameUses.{whole, place_in, wants_in}
use Rattle.elf_calls_generate.proofs.NameFronts.{data_split, names_small, numbered_next}
use Rattle.elf_calls_generate.proofs.StageLaws.{stage_is, data_next, data_count}
use Rattle.elf_calls_generate.proofs.sections.add_next.Goals as goal

pub use_numbered-requires-clause-whole : goal.use_numbered-requires-clause-whole
use_numbered-requires-clause-whole c = whole (codes ".s") refl

pub returns-in-Ok-clause-made : goal.returns-in-Ok-clause-made
returns-in-Ok-clause-made c = λ n below at.
    let k = c.args.k in
    let name = numbered_name (codes ".s") (k + 1) in
    let place =
    place_in name (Ok c.in-Ok.name) c.args.names.now c.use_numbered.new.names (data_names k)
    (drop (k + 1) (generated_section_names n)) (generated_section_names n)
    (data_split n k below) at.named c.in-Ok.ensures in
    stage_is c.add_data.result c.add_data.new.elf c.use_numbered.new.names
    (data_sections n k ++ generated_data n (k + 1) ∷ []) (data_sections n (k + 1))
    (data_names k ++ name ∷ []) (data_names (k + 1)) (data_next n k)
    (sym (numbered_next (numbered_name (codes ".s")) k))
    (c.in-Ok.ensures.next (data_names k) at.named)
    (c.add_data.ensures.made n (data_sections n k) place at.made)

pub returns-in-Ok-clause-err : goal.returns-in-Ok-clause-err
returns-in-Ok-clause-err c = λ n below small at.
    c.add_data.ensures.err (data_sections n c.args.k) at.made
    (omega (arith, data_count n c.args.k, below, small))

pub returns-in-Err-clause-err : goal.returns-in-Err-clause-err
returns-in-Err-clause-err c = λ n below small at.
    let k = c.args.k in
    wants_in (numbered_name (codes ".s") (k + 1)) (Err c.in-Err.e) c.args.names.now
    c.use_numbered.new.names (data_names k) (drop (k + 1) (generated_section_names n))
    (generated_section_names n) (data_split n k below) at.named c.in-Err.ensures
    (names_small n small)
