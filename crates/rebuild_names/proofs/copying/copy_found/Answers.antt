use Rattle.std.proofs.Common.{◌≡◌, ℕ, List, Option, sym, ap, ◌∙◌, subst}
use Rattle.std.specs.Prelude.{OnOk}
use Rattle.std.specs.Option.{option_copied}
use Rattle.std.specs.Borrow.{Bor}
use Rattle.rebuild_names.specs.Names.{found_name}
use Rattle.rebuild_names.proofs.copying.copy_found.Goals as goal

pub returns-in-Some-clause-ok : goal.returns-in-Some-clause-ok
returns-in-Some-clause-ok c =
    subst (λ (o : Option (Bor (List ℕ))). OnOk c.copy_bytes.result
    (c.copy_bytes.new.copy ≡ found_name (option_copied o))) (sym c.in-Some.is)
    c.copy_bytes.ensures.ok

pub returns-in-None-clause-ok : goal.returns-in-None-clause-ok
returns-in-None-clause-ok c =
    c.requires
    ∙ ap (λ (o : Option (Bor (List ℕ))). found_name (option_copied o)) (sym c.in-None.is)
