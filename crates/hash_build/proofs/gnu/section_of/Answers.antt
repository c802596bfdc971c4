use Rattle.std.proofs.Common.{ℕ, List, ◌++◌, ap, ◌∙◌}
use Rattle.symbol_lookup.specs.hash_model.HashSections.{gnu_bytes}
use Rattle.hash_build.specs.Gnu.{gnu_of}
use Rattle.hash_build.proofs.gnu.section_of.Goals as goal

pub returns-in-Ok-clause-ok : goal.returns-in-Ok-clause-ok
returns-in-Ok-clause-ok c =
    c.in-Ok.ensures.ok
    ∙ ap (λ (l : List ℕ). l ++ gnu_bytes c.args.form.0 c.args.form.1
    (gnu_of c.args.form.0 c.args.shape c.args.hashes.now)) c.new-out.ensures
