use Rattle.std.proofs.Common.{sym, ◌∙◌}
use Rattle.elf_object.proofs.HomeLaws.{extent_of_no_kind}
use Rattle.section_data.proofs.home.Home.of.Goals as goal

pub returns-clause-empty : goal.returns-clause-empty
returns-clause-empty c = λ none. c.home_len.ensures ∙ extent_of_no_kind c.args.h.now (sym c.kind_of.ensures ∙ none)
