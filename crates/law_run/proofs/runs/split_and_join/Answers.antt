use Rattle.std.proofs.Common.{refl, sym, subst}
use Rattle.std.specs.Prelude.{IsTrue}
use Rattle.law_run.proofs.runs.split_and_join.Goals as goal

pub returns : goal.returns
returns g c = λ told is done.
    let between = subst IsTrue (sym c.run-first.ensures.leaves.totals.tells) told in
    let ends = c.runs_rejoin.ensures _ _ _ _ (record {
      out_old = _;
      out_new = _;
      err_old = _;
      err_new = _;
      named_old = _;
      named_new = _;
    }) (record {
      out_old = _;
      out_new = _;
      err_old = _;
      err_new = _;
      named_old = _;
      named_new = _;
    }) (c.run-first.ensures.delivers (λ opens. told))
    (c.run-second.ensures.delivers (λ opens. between)) is
    (record { stripped_stays = refl; debug_stays = refl }) in
    ends.joined done
