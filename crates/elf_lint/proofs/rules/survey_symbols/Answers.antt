use Rattle.std.proofs.Common.{sym, subst}
use Rattle.elf_lint.specs.declared.survey.Survey.{Survey}
use Rattle.elf_lint.specs.Survey.{ClearsRules}
use Rattle.elf_lint.proofs.SurveyLemmas.{symbols_told}
use Rattle.elf_lint.proofs.rules.survey_symbols.Goals as goal

pub returns-in-Ok : goal.returns-in-Ok
returns-in-Ok g c =
    let elf = c.args.elf.now in record {
      clears = subst (λ (v : Survey). ClearsRules elf.told elf.o v) (sym c.with_symbols.ensures)
          (symbols_told elf.o elf.told c.args.survey c.in-Ok.sound c.in-Ok.ensures.sound
          c.requires);
      reads = record { elf = c.in-Ok.ensures.reads.elf; read = tt; write = tt };
    }
