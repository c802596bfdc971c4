use Rattle.std.proofs.Common.{inr, refl}
use Rattle.rebuild_image.proofs.ArrangeLaws.{limit_listed, above_refused, all_arranged, table_refused}
use Rattle.rebuild_image.proofs.arranging.arrange_listed.Goals as goal

pub returns-in-Err-clause-err : goal.returns-in-Err-clause-err
returns-in-Err-clause-err c =
    above_refused c.args.x c.args.tail c.greatest_place-limit.result c.in-Err.e
    c.greatest_place-limit.ensures c.in-Err.ensures.err

pub returns-in-Some-clause-ok : goal.returns-in-Some-clause-ok
returns-in-Some-clause-ok c = λ o is.
    all_arranged o c.args.x c.args.tail c.greatest_place-limit.result c.in-Ok.behind.end
    c.table_alignment.result c.in-Ok.behind.headers c.greatest_place-limit.ensures c.requires.some
    c.table_alignment.ensures is
    (c.in-Ok.ensures.ok o is
    (limit_listed o c.args.x c.greatest_place-limit.result is c.greatest_place-limit.ensures))
    _ c.in-Some.place c.in-Some.ensures refl refl refl

pub returns-in-None-clause-err : goal.returns-in-None-clause-err
returns-in-None-clause-err c = inr (record {
  error = refl;
  refused = λ o is.
      table_refused o c.args.x c.args.tail c.greatest_place-limit.result c.in-Ok.behind.end
      c.table_alignment.result c.in-Ok.behind.headers c.greatest_place-limit.ensures
      c.requires.some c.table_alignment.ensures is
      (c.in-Ok.ensures.ok o is
      (limit_listed o c.args.x c.greatest_place-limit.result is c.greatest_place-limit.ensures))
      c.in-None.ensures;
})
