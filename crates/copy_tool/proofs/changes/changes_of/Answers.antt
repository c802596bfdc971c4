use Rattle.copy_tool.proofs.NameLemmas.{changes_are, renamed_are_plain, added_are_plain}
use Rattle.copy_tool.proofs.changes.changes_of.Goals as goal

pub returns-clause-ok : goal.returns-clause-ok
returns-clause-ok c =
    changes_are c.args.words.now c.in_ok-remove.remove c.args.update c.in_ok-rename.rename
    c.in_ok-flags.flags c.args.add
    (rw c.as_slice.ensures at c.in_ok-remove.ensures.ok)
    (rw c.as_slice-2.ensures at c.in_ok-rename.ensures.ok)
    (rw c.as_slice-3.ensures at c.in_ok-flags.ensures.ok)

pub returns-clause-plain : goal.returns-clause-plain
returns-clause-plain c = record {
  rename =
      renamed_are_plain c.args.words.now c.in_ok-rename.rename c.requires.names
      (rw c.as_slice-2.ensures at c.in_ok-rename.ensures.ok);
  add = added_are_plain c.args.words.now c.args.add c.requires.names c.requires.added;
}
