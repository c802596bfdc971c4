use Rattle.std.proofs.Common.{◌+◌, drop, Ok, Err, refl}
use Rattle.std.specs.Prelude.{codes}
use Rattle.rebuild_model.specs.Generated.{numbered_name, generated_symbol_names}
use Rattle.elf_calls_generate.specs.Stages.{symbol_names_to}
use Rattle.elf_calls_generate.proofs.NameUses.{whole, place_in, wants_in}
use Rattle.elf_calls_generate.proofs.NameFronts.{symbol_split, strings_small}
use Rattle.elf_calls_generate.proofs.StageLaws.{symbol_added}
use Rattle.elf_calls_generate.proofs.symbols.add_symbol.Goals as goal

pub use_numbered-requires-clause-whole : goal.use_numbered-requires-clause-whole
use_numbered-requires-clause-whole c = whole (codes "y") refl

pub returns-in-Ok-clause-made : goal.returns-in-Ok-clause-made
returns-in-Ok-clause-made c = λ n below at.
    let k = c.args.k in
    let place =
    place_in (numbered_name (codes "y") (k + 1)) (Ok c.in-Ok.name) c.args.strings.now
    c.use_numbered.new.names (symbol_names_to k) (drop (k + 1) (generated_symbol_names n))
    (generated_symbol_names n) (symbol_split n k below) at.named c.in-Ok.ensures in
    symbol_added c.push.result n k c.args.symbols.now c.push.new.self c.symbol.result
    c.use_numbered.new.names (c.symbol.ensures n place) at.symbols_are
    (c.in-Ok.ensures.next (symbol_names_to k) at.named) c.push.ensures.ok

pub returns-in-Ok-clause-err : goal.returns-in-Ok-clause-err
returns-in-Ok-clause-err c = λ n below small at. c.push.ensures.err

pub returns-in-Err-clause-err : goal.returns-in-Err-clause-err
returns-in-Err-clause-err c = λ n below small at.
    let k = c.args.k in
    wants_in (numbered_name (codes "y") (k + 1)) (Err c.in-Err.e) c.args.strings.now
    c.use_numbered.new.names (symbol_names_to k) (drop (k + 1) (generated_symbol_names n))
    (generated_symbol_names n) (symbol_split n k below) at.named c.in-Err.ensures
    (strings_small n small)
