use Rattle.std.proofs.Common.{◌≡◌, true, List, ℕ, sym, subst}
use Rattle.std.specs.Prelude.{All}
use Rattle.elf_object.specs.Object.{Object}
use Rattle.rebuild_model.specs.Copied.{names_in}
use Rattle.rebuild_select.specs.Sought.Names.{is_sought, AreUpTo}
use Rattle.rebuild_copy.specs.Indexes.{IsIndexOf}
use Rattle.rebuild_copy.proofs.FindLaws.{memory_alters}
use Rattle.rebuild_copy.proofs.TurnLaws.{alters_known}
use Rattle.rebuild_copy.proofs.updating.index_and_update.Goals as goal

pub update_all-requires-clause-sought : goal.update_all-requires-clause-sought
update_all-requires-clause-sought c =
    subst (λ (l : List (List ℕ)). All (λ n. is_sought l n.name ≡ true) c.args.changes.now)
    (sym c.in-Ok.ensures.sought) c.requires

pub update_all-requires-clause-up_to : goal.update_all-requires-clause-up_to
update_all-requires-clause-up_to c =
    subst (λ (l : List (List ℕ)). AreUpTo c.longest-longest.result l)
    (sym c.in-Ok.ensures.sought) c.longest-longest.ensures

pub returns-in-Ok : goal.returns-in-Ok
returns-in-Ok c =
    alters_known (λ (p : Object). IsIndexOf c.in-Ok.index (names_in p)) _ c.update_all.result
    c.args.x.now c.update_all.new.x c.in-Ok.ensures.index c.update_all.ensures

pub returns-in-Err : goal.returns-in-Err
returns-in-Err c =
    memory_alters _ _ c.in-Err.e c.args.x.now c.args.x.now c.in-Err.ensures.err
