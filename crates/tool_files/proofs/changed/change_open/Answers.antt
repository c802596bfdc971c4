use Rattle.tool_files.proofs.changed.change_open.Goals as goal

pub returns : goal.returns
returns g c = record {
  left = c.change-file.result.0;
  changes = rw c.as_bytes.ensures.value at c.change-file.ensures;
  closed = c.close.ensures.names;
  read_faults = c.close.ensures.read_faults;
  write_faults = c.close.ensures.write_faults;
  taken = c.close.ensures.taken;
  given = c.close.ensures.given;
  live = c.close.ensures.live;
}
