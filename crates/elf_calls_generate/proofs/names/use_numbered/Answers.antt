use Rattle.std.proofs.Common.{◌≢◌, arith}
use Rattle.std.specs.Prelude.{decimal}
use Rattle.std.proofs.lemmas.List.Elements.{All-append}
use Rattle.rebuild_model.specs.Generated.{numbered_name}
use Rattle.law_files.proofs.commands.NameLemmas.{decimal_without_nul}
use Rattle.elf_calls_generate.proofs.NameUses.{unused}
use Rattle.elf_calls_generate.proofs.names.use_numbered.Goals as goal

pub use_name-requires : goal.use_name-requires
use_name-requires c =
    rw (c.as_slice.ensures, c.in-Ok.ensures.ok)
    (All-append (λ b. b ≢ 0) c.args.letters.now (decimal c.args.i) c.requires.whole
    (decimal_without_nul c.args.i (omega (arith, c.requires.small))))

pub returns-in-Ok : goal.returns-in-Ok
returns-in-Ok c = rw (c.as_slice.ensures, c.in-Ok.ensures.ok) at c.use_name.ensures

pub returns-in-Err : goal.returns-in-Err
returns-in-Err c =
    unused (numbered_name c.args.letters.now c.args.i) c.in-Err.e c.args.names.now
    c.in-Err.ensures.err
