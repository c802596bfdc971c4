use Rattle.std.proofs.Common.{rules, codes, ◌∙◌}
use Rattle.tool_output.specs.Reports.{no_report}
use Rattle.tool_output.specs.declared.stops.Stop.TheVariants as stops
use Rattle.tool_output.proofs.FileLemmas.{closed_same, given_same, given_kept, opened_asks, within_unchanged}
use Rattle.elfkit_edit.specs.Calls.{script_asks}
use Rattle.elfkit_edit.proofs.CallsLemmas.{script_absent, script_there, script_length, performs_nothing}
use Rattle.elfkit_edit.proofs.commands.calls.calls_of_script.Goals as goal

pub returns-in-Err-NotThere : goal.returns-in-Err-NotThere
returns-in-Err-NotThere g c = record {
  says = λ told.
      script_absent g.O.Sink g.E.Sink c.args.script.now (g.F.Files.named c.args.files.now) c.args.outputs.now _ _ ((c.in-Err-NotThere.ensures.not_there told).0 (search rules))
      (rw (c.of-name.ensures, c.as_bytes.ensures.value) at c.refuse_script.ensures.performs);
  asks = λ told. within_unchanged _ _ _ c.in-Err-NotThere.ensures.hands.taken;
  reads = search rules;
  leaves = search rules;
}

pub returns-in-Err-Failed : goal.returns-in-Err-Failed
returns-in-Err-Failed g c = record {
  says = λ told. performs_nothing g.O.Sink g.E.Sink stops.Read c.args.outputs.now _ _;
  asks = λ told. within_unchanged _ _ _ c.in-Err-Failed.ensures.hands.taken;
  reads = search rules;
  leaves = search rules;
}

pub returns-in-Err-Memory : goal.returns-in-Err-Memory
returns-in-Err-Memory g c = record {
  says = λ told. performs_nothing g.O.Sink g.E.Sink stops.Memory c.args.outputs.now _ _;
  asks = λ told. within_unchanged _ _ _ c.in-Err-Memory.ensures.hands.taken;
  reads = search rules;
  leaves = search rules;
}

pub returns : goal.returns
returns g c = record {
  says = λ told.
      script_there g.O.Sink g.E.Sink c.args.script.now (g.F.Files.named c.args.files.now) c.args.outputs.now _ _ _ (c.in-Ok.ensures.bytes told)
      (λ none. let h = (c.in-Ok.ensures.not_there told).1 none in cc) (rw (c.of-name.ensures, c.as_bytes.ensures.value) at c.tell_script-read.ensures.says);
  asks = λ told.
      opened_asks (codes "calls") (λ name bytes. no_report) script_asks (g.F.Files.named c.args.files.now) c.args.script.now _ _ _ _ _ (c.in-Ok.ensures.bytes told)
      (λ none. let h = (c.in-Ok.ensures.not_there told).1 none in cc)
      (script_length _ _ _ (g.met.F.File.Source.sized c.in-Ok.source) (rw c.in-Ok.ensures.hands.fresh.taken at c.tell_script-read.ensures.taken))
      c.open.ensures.hands.taken c.close.ensures.taken.no_more;
  reads = record {
    names = λ told. closed_same _ _ _ _ _ _ c.args.script.now _ told c.in-Ok.ensures.names c.close.ensures.names
        (c.tell_script-read.ensures.source.same_bytes ∙ c.in-Ok.ensures.bytes told);
    given =
        let rest = g.met.F.File.Device.rest_begins in
        given_kept _ _ _ _ (given_same _ _ _ _ _ _ _ _ (rest c.in-Ok.source) (rest c.tell_script-read.new.src) c.tell_script-read.ensures.source.same_rest ∙ c.in-Ok.ensures.hands.fresh.given)
        c.open.ensures.hands.given c.close.ensures.given;
  };
  leaves = search rules;
}
