use Rattle.unstrip_tool.proofs.refusing.refuse_with.Goals as goal

pub returns : goal.returns
returns g c = record {
  reports = rw (c.of.ensures, c.as_bytes-file.ensures.value) at c.refuse.ensures.reports;
  leaves = c.refuse.ensures.leaves;
}
