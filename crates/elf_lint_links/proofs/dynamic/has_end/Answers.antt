use Rattle.std.specs.List.{list_any}
use Rattle.elf_lint_findings.proofs.tool_objects.LearnLemmas.{learns_now}
use Rattle.elf_lint_findings.specs.Looking.{dyns}
use Rattle.elf_lint_links.proofs.DynamicLemmas.{ends, dyns_count, no_dyns}
use Rattle.elf_lint_links.proofs.dynamic.has_end.Goals as goal

pub some_ends-requires : goal.some_ends-requires
some_ends-requires g c = dyns_count c.args.elf.now.o c.args.s.0 c.in-Ok.count c.in-Ok.ensures.answer

pub returns-in-Err : goal.returns-in-Err
returns-in-Err g c =
    learns_now g.S.Source (λ o. list_any ends (dyns o c.args.s.0)) _ c.args.elf.now (λ told. no_dyns c.args.elf.now.o c.args.s.0 _ c.in-Err.ensures.answer)
