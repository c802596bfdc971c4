use Rattle.std.proofs.Common.{◌≢◌, ℕ, List, All, sym, ◌∙◌, subst}
use Rattle.std.specs.Prelude.{IfOk}
use Rattle.rebuild_names.specs.Names.{IsAdded}
use Rattle.rebuild_names.proofs.building.add_copied.Goals as goal

pub add_name-requires : goal.add_name-requires
add_name-requires g c =
    subst (λ (l : List ℕ). All (λ b. b ≢ 0) l) (sym (c.as_slice.ensures ∙ c.in-Ok.ensures.copy))
    c.requires

pub returns-in-Ok-clause-added : goal.returns-in-Ok-clause-added
returns-in-Ok-clause-added g c =
    subst (λ (l : List (List ℕ)). IfOk c.add_name.result
    (IsAdded l c.add_name.new.strings c.args.making.now.copy)) c.in-Ok.ensures.strings
    (subst (λ (l : List ℕ). IfOk c.add_name.result
    (IsAdded c.begin_text.new.making.strings c.add_name.new.strings l))
    (c.as_slice.ensures ∙ c.in-Ok.ensures.copy) c.add_name.ensures.added)
