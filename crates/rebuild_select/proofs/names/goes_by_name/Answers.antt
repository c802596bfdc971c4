use Rattle.std.proofs.Common.{false, sym, ◌∙◌}
use Rattle.rebuild_select.specs.Steps.{goes_by_name}
use Rattle.rebuild_select.proofs.FoundLaws.{goes_not, goes_found, may_when}
use Rattle.rebuild_select.proofs.NameLaws.{names_nothing}
use Rattle.rebuild_select.proofs.names.goes_by_name.Goals as goal

pub returns-then-may_go-clause-told : goal.returns-then-may_go-clause-told
returns-then-may_go-clause-told g c = λ told.
    goes_found c.args.elf.now.o
    (goes_by_name c.args.debug_too c.args.names.now c.args.elf.now.o) c.args.s.0
    c.is_found_too.result (sym c.may_go.ensures ∙ c.if-may_go.true)
    (c.is_found_too.ensures.told told)

pub returns-then-may_go-clause-apart : goal.returns-then-may_go-clause-apart
returns-then-may_go-clause-apart g c =
    may_when c.args.elf.now.o
    (goes_by_name c.args.debug_too c.args.names.now c.args.elf.now.o) c.args.s.0
    c.is_found_too.result (sym c.may_go.ensures ∙ c.if-may_go.true)

pub returns-clause-told : goal.returns-clause-told
returns-clause-told g c = λ told.
    goes_not c.args.elf.now.o
    (goes_by_name c.args.debug_too c.args.names.now c.args.elf.now.o) c.args.s.0
    (sym c.may_go.ensures ∙ c.if-may_go.false)

pub returns-clause-reads : goal.returns-clause-reads
returns-clause-reads g c = names_nothing g.S.Source false c.args.elf.now
