use Rattle.std.proofs.lemmas.Result.{err_from_is_err_and}
use Rattle.tool_files.proofs.WriteLemmas.{first_fails, second_follows}
use Rattle.tool_files.proofs.writing.make_files.Goals as goal

pub returns-in_err-make_file-clause-makes : goal.returns-in_err-make_file-clause-makes
returns-in_err-make_file-clause-makes g c =
    let p = err_from_is_err_and c.from_residual.result c.from_residual.ensures.1 in
    rw (p.1, p.2) (first_fails g.F.Files c.args.first_name.now c.args.second_name.now _ _ _ _ _ _
    c.args.files.now _ _ c.in_err-make_file.ensures.makes)

pub returns-clause-makes : goal.returns-clause-makes
returns-clause-makes g c =
    second_follows g.F.Files c.args.first_name.now c.args.second_name.now _ _ _ _ _ _
    c.args.files.now _ _ _ _ c.in_ok-make_file.ensures.makes c.make_file-2.ensures.makes
