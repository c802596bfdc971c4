use Rattle.std.proofs.Common.{ℕ, IfOk, IfSome, subst}
use Rattle.tool_objects.proofs.SectionLemmas.{ok_value_is}
use Rattle.tool_objects.specs.AtHand.Strings.{EndsAt}
use Rattle.elf_lint_headers.specs.Names.{HasSectionNames}
use Rattle.elf_lint_headers.proofs.NameLemmas.{in_any_case}
use Rattle.elf_lint_headers.proofs.names.end_of_names.Goals as goal

pub returns-clause-has : goal.returns-clause-has
returns-clause-has g c =
    in_any_case (HasSectionNames c.args.elf.now.o) c.strings_end.result
    (c.has_names.ensures c.if-not-has_names.false)

pub returns-clause-end : goal.returns-clause-end
returns-clause-end g c = λ told.
    subst (λ (n : ℕ). IfOk c.strings_end.result (λ end. IfSome end (EndsAt c.args.elf.now.o n)))
    (ok_value_is _ _ c.shstrndx.ensures) (c.strings_end.ensures.end told)
