use Rattle.law_run.proofs.runs.run_as_promised.Goals as goal

pub returns-clause-loaded : goal.returns-clause-loaded
returns-clause-loaded g c = λ told.
    c.run_keeps_loaded.ensures _ _ (record {
      out_old = _;
      out_new = _;
      err_old = _;
      err_new = _;
      named_old = _;
      named_new = _;
    }) (c.run.ensures.delivers (λ opens. told))

pub returns-clause-copied : goal.returns-clause-copied
returns-clause-copied g c = λ told.
    c.run_keeps_copied.ensures _ _ (record {
      out_old = _;
      out_new = _;
      err_old = _;
      err_new = _;
      named_old = _;
      named_new = _;
    }) (c.run.ensures.delivers (λ opens. told))

pub returns-clause-rehashed : goal.returns-clause-rehashed
returns-clause-rehashed g c = λ told.
    c.run_keeps_rehashed.ensures _ _ (record {
      out_old = _;
      out_new = _;
      err_old = _;
      err_new = _;
      named_old = _;
      named_new = _;
    }) (c.run.ensures.delivers (λ opens. told))

pub returns-clause-images : goal.returns-clause-images
returns-clause-images g c = λ told.
    c.run_changes_to_images.ensures _ _ (record {
      out_old = _;
      out_new = _;
      err_old = _;
      err_new = _;
      named_old = _;
      named_new = _;
    }) (c.run.ensures.delivers (λ opens. told))
