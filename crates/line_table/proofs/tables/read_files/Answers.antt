use Rattle.std.proofs.lemmas.Result.{err_from_is_err_and}
use Rattle.line_table.specs.Header.{named_file_at}
use Rattle.line_table.proofs.Lists.{left_all}
use Rattle.line_table.proofs.Names.{files_end, files_refused}
use Rattle.line_table.proofs.tables.read_files.Goals as goal

pub loop-names-init : goal.loop-names-init
loop-names-init c = rw c.new-names.ensures (left_all named_file_at c.args.reader.now)

pub returns-in_err-name : goal.returns-in_err-name
returns-in_err-name c =
    let p = err_from_is_err_and c.from_residual.result c.from_residual.ensures.1 in
    rw (p.1, p.2) (files_refused c.in_err-name.field-0.0 c.loop-names.reader c.args.reader.now c.loop-names.names c.loop-names.invariant c.in_err-name.ensures.value)

pub returns-in-None : goal.returns-in-None
returns-in-None c = files_end c.loop-names.reader c.args.reader.now c.read_named_file.new.self c.loop-names.names c.loop-names.invariant (rw c.in-None.is at c.in_ok-name.ensures.value)
