use Rattle.std.proofs.Common.{[], sym, ◌∙◌}
use Rattle.std.proofs.lemmas.Result.{err_from_is_err_and}
use Rattle.line_table.specs.Reading.{list_at}
use Rattle.line_table.specs.Header.{directory_at}
use Rattle.line_table.proofs.Lists.{left_all}
use Rattle.line_table.proofs.Names.{passed_more, passed_end, passed_refused}
use Rattle.line_table.proofs.tables.pass_directories.Goals as goal

pub loop-directory-init : goal.loop-directory-init
loop-directory-init c = ([], left_all directory_at c.args.reader.now)

pub returns-in_err-directory : goal.returns-in_err-directory
returns-in_err-directory c =
    let p = err_from_is_err_and c.from_residual.result c.from_residual.ensures.1 in
    rw (p.1, p.2) (passed_refused c.in_err-directory.field-0.0 c.loop-directory.reader (list_at directory_at c.args.reader.now) c.loop-directory.invariant c.in_err-directory.ensures.value)

pub returns-then-is_empty : goal.returns-then-is_empty
returns-then-is_empty c =
    passed_end c.loop-directory.reader c.in_ok-directory.directory.now c.read_string.new.self (list_at directory_at c.args.reader.now) c.loop-directory.invariant c.in_ok-directory.ensures.value (sym c.is_empty.ensures ∙ c.if-is_empty.true)

pub loop-directory-preserved : goal.loop-directory-preserved
loop-directory-preserved c =
    passed_more c.loop-directory.reader c.in_ok-directory.directory.now c.read_string.new.self (list_at directory_at c.args.reader.now) c.loop-directory.invariant c.in_ok-directory.ensures.value c.in_ok-directory.ensures.shorter (sym c.is_empty.ensures ∙ c.if-is_empty.false)
