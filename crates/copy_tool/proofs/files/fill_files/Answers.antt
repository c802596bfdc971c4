use Rattle.std.proofs.Common.{◌+◌, ◌++◌, List, Ok, Result, Option, sym, ap, ◌∙◌, subst, append-nil}
use Rattle.std.proofs.lemmas.List.{take_all}
use Rattle.std.proofs.lemmas.Result.{err_from_is_err_and}
use Rattle.rebuild_changes.specs.declared.options.NamedFile.{NamedFile}
use Rattle.tool_output.specs.declared.stops.Stop.{Stop}
use Rattle.copy_tool.specs.Files.{ReadsFiles, pairs, byte_names, file_names, list_if_all_found}
use Rattle.copy_tool.proofs.ByteLemmas.{NamedPairs, read_upto, due_upto, upto_none}
use Rattle.copy_tool.proofs.NameLemmas.{filled_true, filled_false, names_more}
use Rattle.copy_tool.proofs.ReadLemmas.{reads_begin}
use Rattle.copy_tool.proofs.FillLemmas.{file_step, all_read, left_none, left_stopped}
use Rattle.copy_tool.proofs.files.fill_files.Goals as goal

pub loop-each-init : goal.loop-each-init
loop-each-init g c = record {
  reads =
      reads_begin g.F.Files g.O.Sink g.E.Sink (read_upto (pairs c.args.read.now) c.args.named.now 0)
      (due_upto c.args.named.now 0) (pairs c.args.read.now) c.args.files.now c.args.outputs.now
      (λ m. upto_none (pairs c.args.read.now) c.args.named.now m);
  names = sym (append-nil (byte_names c.args.read.now));
}

pub loop-each-preserved : goal.loop-each-preserved
loop-each-preserved g c =
    let i = c.loop-each.invariant in
    let step = c.in_ok-there.ensures in record {
      reads =
          subst (λ (r : Result (Option NamedPairs) Stop). ReadsFiles g.F.Files g.O.Sink g.E.Sink
          (read_upto (pairs c.args.read.now) c.args.named.now (c.loop-each.each-index + 1))
          (due_upto c.args.named.now (c.loop-each.each-index + 1)) r
          c.args.files.now c.add_file.new.files c.args.outputs.now c.add_file.new.outputs)
          (filled_true c.in_ok-there.there (pairs c.add_file.new.read) c.if-not-there.false)
          (file_step g.F.Files g.O.Sink g.E.Sink (pairs c.args.read.now) c.args.named.now
          c.loop-each.each-index c.each-item.result c.loop-each-test.true c.each-item.is
          (pairs c.loop-each.read) (list_if_all_found (Ok c.in_ok-there.there) (pairs c.add_file.new.read))
          c.args.files.now c.loop-each.files c.add_file.new.files c.args.outputs.now
          c.loop-each.outputs c.add_file.new.outputs i.reads step.reads);
      names =
          names_more (byte_names c.args.read.now) (byte_names c.loop-each.read)
          (byte_names c.add_file.new.read) c.args.named.now c.loop-each.each-index
          c.each-item.result c.loop-each-test.true c.each-item.is
          (step.names c.if-not-there.false) i.names;
    }

pub returns-in_err-there-clause-reads : goal.returns-in_err-there-clause-reads
returns-in_err-there-clause-reads g c =
    let i = c.loop-each.invariant in
    let p = err_from_is_err_and c.from_residual.result c.from_residual.ensures.1 in
    rw (p.1, p.2) (left_stopped g.F.Files g.O.Sink g.E.Sink (pairs c.args.read.now)
    c.args.named.now c.loop-each.each-index c.each-item.result c.loop-each-test.true
    c.each-item.is (pairs c.loop-each.read) _ c.args.files.now c.loop-each.files _
    c.args.outputs.now c.loop-each.outputs _ i.reads c.in_err-there.ensures.reads)

pub returns-then-not-there-clause-reads : goal.returns-then-not-there-clause-reads
returns-then-not-there-clause-reads g c =
    let i = c.loop-each.invariant in
    let step = c.in_ok-there.ensures in
    left_none g.F.Files g.O.Sink g.E.Sink (pairs c.args.read.now) c.args.named.now
    c.loop-each.each-index c.each-item.result c.loop-each-test.true c.each-item.is
    (pairs c.loop-each.read) (list_if_all_found (Ok c.in_ok-there.there) (pairs c.add_file.new.read))
    c.args.files.now c.loop-each.files c.add_file.new.files c.args.outputs.now
    c.loop-each.outputs c.add_file.new.outputs
    (filled_false c.in_ok-there.there (pairs c.add_file.new.read) c.if-not-there.true) i.reads
    step.reads

pub returns-then-not-there-clause-names : goal.returns-then-not-there-clause-names
returns-then-not-there-clause-names g c = λ no. cc

pub returns-clause-reads : goal.returns-clause-reads
returns-clause-reads g c =
    all_read g.F.Files g.O.Sink g.E.Sink (pairs c.args.read.now) c.args.named.now
    c.loop-each.each-index c.loop-each-test.false (pairs c.loop-each.read) c.args.files.now
    c.loop-each.files c.args.outputs.now c.loop-each.outputs c.loop-each.invariant.reads

pub returns-clause-names : goal.returns-clause-names
returns-clause-names g c = λ yes.
    c.loop-each.invariant.names
    ∙ ap (λ (l : List NamedFile). byte_names c.args.read.now ++ file_names l)
    (take_all c.loop-each.each-index c.args.named.now c.loop-each-test.false)
