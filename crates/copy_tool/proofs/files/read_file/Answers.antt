use Rattle.std.proofs.Common.{rules, ◌∙◌}
use Rattle.tool_output.specs.declared.stops.Stop.TheVariants as stops
use Rattle.tool_output.proofs.FileLemmas.{closed_same, given_same, given_kept}
use Rattle.rebuild_files.specs.elfkit_outcomes.Files.{bytes_named}
use Rattle.copy_tool.proofs.FileLemmas.{absent_says, stopped_says, file_says, read_file_asks, unasked, file_leaves}
use Rattle.copy_tool.proofs.files.read_file.Goals as goal

pub returns-in-Err-NotThere : goal.returns-in-Err-NotThere
returns-in-Err-NotThere g c = record {
  says = λ told.
      absent_says g.O.Sink g.E.Sink (g.F.Files.named c.args.files.now) c.args.file.now _
      c.args.outputs.now _ ((c.in-Err-NotThere.ensures.not_there told).0 (search rules))
      (rw (c.of-name.ensures, c.as_bytes.ensures.value) at c.refuse_absent.ensures.performs);
  asks = λ told. unasked _ _ _ c.in-Err-NotThere.ensures.hands.taken;
  reads = search rules;
  leaves = search rules;
}

pub returns-in-Err-Failed : goal.returns-in-Err-Failed
returns-in-Err-Failed g c = record {
  says = λ told.
      stopped_says g.O.Sink g.E.Sink stops.Read
      (bytes_named (g.F.Files.named c.args.files.now) c.args.file.now) c.args.outputs.now;
  asks = λ told. unasked _ _ _ c.in-Err-Failed.ensures.hands.taken;
  reads = search rules;
  leaves = search rules;
}

pub returns-in-Err-Memory : goal.returns-in-Err-Memory
returns-in-Err-Memory g c = record {
  says = λ told.
      stopped_says g.O.Sink g.E.Sink stops.Memory
      (bytes_named (g.F.Files.named c.args.files.now) c.args.file.now) c.args.outputs.now;
  asks = λ told. unasked _ _ _ c.in-Err-Memory.ensures.hands.taken;
  reads = search rules;
  leaves = search rules;
}

pub returns : goal.returns
returns g c =
    rw c.unless_refused.ensures (record {
      says = λ told.
          file_says g.O.Sink g.E.Sink (g.F.Files.named c.args.files.now) c.args.file.now _
          c.read_whole-read.result c.args.outputs.now (c.in-Ok.ensures.bytes told)
          (λ none. let h = (c.in-Ok.ensures.not_there told).1 none in cc)
          c.read_whole-read.ensures.value c.read_whole-read.ensures.err;
      asks = λ told.
          read_file_asks (g.F.Files.named c.args.files.now) c.args.file.now _ _ _ _ _ _ _
          (c.in-Ok.ensures.bytes told)
          (λ none. let h = (c.in-Ok.ensures.not_there told).1 none in cc)
          (g.met.F.File.Source.sized c.in-Ok.source)
          c.read_whole-read.ensures.asks.taken.no_more c.in-Ok.ensures.hands.fresh.taken
          c.open.ensures.hands.taken c.close.ensures.taken.no_more;
      reads = record {
        names = λ told.
            closed_same _ _ _ _ _ _ c.args.file.now _ told c.in-Ok.ensures.names
            c.close.ensures.names
            (c.read_whole-read.ensures.asks.leaves.same_bytes ∙ c.in-Ok.ensures.bytes told);
        given =
            let rest = g.met.F.File.Device.rest_begins in
            given_kept _ _ _ _ (given_same _ _ _ _ _ _ _ _ (rest c.in-Ok.source)
            (rest c.read_whole-read.new.src) c.read_whole-read.ensures.asks.leaves.same_rest
            ∙ c.in-Ok.ensures.hands.fresh.given)
            c.open.ensures.hands.given c.close.ensures.given;
      };
      leaves =
          file_leaves g.F.Files g.O.Sink g.E.Sink _ _ c.args.files.now _ _ _ _ c.args.file.now
          c.args.outputs.now c.read_whole-read.result c.in-Ok.ensures.names
          c.in-Ok.ensures.hands c.close.ensures.names c.close.ensures.read_faults
          c.close.ensures.write_faults c.close.ensures.taken c.close.ensures.given
          c.close.ensures.live c.read_whole-read.ensures.err
          c.read_whole-read.ensures.asks.read;
    })
