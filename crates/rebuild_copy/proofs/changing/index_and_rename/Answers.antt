use Rattle.std.proofs.Common.{◌≡◌, true, List, ℕ, sym, subst}
use Rattle.std.specs.Prelude.{All}
use Rattle.rebuild_select.specs.Sought.Names.{is_sought}
use Rattle.rebuild_copy.proofs.FindLaws.{memory_alters}
use Rattle.rebuild_copy.proofs.changing.index_and_rename.Goals as goal

pub rename_by-requires-clause-renamed : goal.rename_by-requires-clause-renamed
rename_by-requires-clause-renamed c =
    subst (λ (l : List (List ℕ)).
    All (λ n. is_sought l n.name ≡ true) c.args.changes.now.rename)
    (sym c.in-Ok.ensures.sought) c.requires.renamed

pub rename_by-requires-clause-flagged : goal.rename_by-requires-clause-flagged
rename_by-requires-clause-flagged c =
    subst (λ (l : List (List ℕ)).
    All (λ n. is_sought l n.name ≡ true) c.args.changes.now.flags)
    (sym c.in-Ok.ensures.sought) c.requires.flagged

pub returns-in-Err : goal.returns-in-Err
returns-in-Err c =
    memory_alters _ _ c.in-Err.e c.args.x.now c.args.x.now c.in-Err.ensures.err
