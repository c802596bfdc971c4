use Rattle.rebuild_edits.proofs.edits.FaultLaws.{number_unread}
use Rattle.rebuild_copy.proofs.IndexLaws.{named_found}
use Rattle.rebuild_copy.proofs.finding.find_named.Goals as goal

pub returns-clause-found : goal.returns-clause-found
returns-clause-found c = λ names is.
    named_found c.args.index.now names c.args.name.now is c.requires c.find.result
    c.or_no_section.result (rw c.as_slice.ensures at c.find.ensures) c.or_no_section.ensures

pub returns-clause-unread : goal.returns-clause-unread
returns-clause-unread c =
    number_unread c.find.result c.args.name.now c.or_no_section.result c.or_no_section.ensures
