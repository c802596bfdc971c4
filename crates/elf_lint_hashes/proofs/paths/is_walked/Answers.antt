use Rattle.std.proofs.Common.{Some, None}
use Rattle.elf_lint_hashes.proofs.PathLaws.{walked_on}
use Rattle.elf_lint_hashes.proofs.paths.is_walked.Goals as goal

pub returns-in-Some : goal.returns-in-Some
returns-in-Some c =
    walked_on c.args.words.now c.args.t c.args.first c.args.i (Some c.in-Some.met) c.in-Some.ensures

pub returns-in-None : goal.returns-in-None
returns-in-None c =
    walked_on c.args.words.now c.args.t c.args.first c.args.i None c.in-None.ensures
