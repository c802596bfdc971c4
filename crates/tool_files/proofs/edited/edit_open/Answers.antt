use Rattle.tool_output.proofs.FileLemmas.{given_same}
use Rattle.tool_files.proofs.edited.edit_open.Goals as goal

pub returns : goal.returns
returns g c =
    let rest = g.met.F.File.Device.rest_begins in
    let edits = rw c.as_bytes.ensures.value at c.edit-file.ensures in
    record {
      left = c.edit-file.result.0;
      middle = c.edit-file.new.files;
      edits = edits;
      same_given =
          given_same _ _ _ _ _ _ _ _ (rest c.args.file) (rest c.edit-file.result.0)
          edits.source.same_rest;
      closed = c.close.ensures.names;
      read_faults = c.close.ensures.read_faults;
      write_faults = c.close.ensures.write_faults;
      taken = c.close.ensures.taken;
      given = c.close.ensures.given;
      live = c.close.ensures.live;
    }
