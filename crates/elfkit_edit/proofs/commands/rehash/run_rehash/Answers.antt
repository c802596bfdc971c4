use Rattle.elfkit_outcomes.specs.tool_objects.Images.{file_object}
use Rattle.elfkit_edit.proofs.RehashLemmas.{rehash_unwritten, rehash_is}
use Rattle.elfkit_edit.proofs.commands.rehash.run_rehash.Goals as goal

pub edit_named-requires : goal.edit_named-requires
edit_named-requires g c = λ bytes.
    rw (c.as_str.ensures, c.as_str-2.ensures)
    (rehash_unwritten c.args.out.now c.args.file.now c.requires (file_object bytes))

pub returns-clause-does : goal.returns-clause-does
returns-clause-does g c = λ told.
    rw (rehash_is (g.F.Files.named c.args.files.now) c.args.out.now c.args.file.now)
    ((rw (c.as_str.ensures, c.as_str-2.ensures) at c.edit_named.ensures.does) told)
