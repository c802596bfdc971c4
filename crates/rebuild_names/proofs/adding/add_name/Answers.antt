use Rattle.std.proofs.Common.{◌++◌, [], ◌∷◌, length}
use Rattle.strtab_shared.specs.strtab_build.Table.{table}
use Rattle.rebuild_names.proofs.AddLaws.{fits_ok, err_added, err_memory}
use Rattle.rebuild_names.proofs.adding.add_name.Goals as goal

pub returns-in-Ok-clause-added : goal.returns-in-Ok-clause-added
returns-in-Ok-clause-added c = (
  c.in-Ok.ensures.names,
  c.in-Ok.ensures.place,
  fits_ok c.in-Ok.place (length (table (c.args.strings.now ++ c.args.name.now ∷ [])))
      c.in-Ok.ensures.too_large,
)

pub returns-in-Err-clause-added : goal.returns-in-Err-clause-added
returns-in-Err-clause-added c =
    err_added c.in-Err.e c.none_if_too_large.result c.args.strings.now _ c.args.name.now
    c.in-Err.ensures.too_large c.none_if_too_large.ensures.none

pub returns-in-Err-clause-err : goal.returns-in-Err-clause-err
returns-in-Err-clause-err c =
    err_memory c.in-Err.e c.none_if_too_large.result c.in-Err.ensures.refusals
    c.none_if_too_large.ensures.err
