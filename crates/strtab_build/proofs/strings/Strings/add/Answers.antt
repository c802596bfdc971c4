use Rattle.std.proofs.Common.{sym}
use Rattle.strtab_build.proofs.TableLemmas.{string_at-added}
use Rattle.strtab_build.proofs.strings.Strings.add.Goals as goal

-- The name that is there, or was put last, reads back.
pub returns-in-Ok-clause-reads : goal.returns-in-Ok-clause-reads
returns-in-Ok-clause-reads c =
    let held = c.in-Ok.ensures.held in
    string_at-added c.args.bytes.now c.args.self.now c.args.self.now c.in-Ok.offset (sym held.kept)
    held.place c.requires

pub returns-clause-reads : goal.returns-clause-reads
returns-clause-reads c =
    let added = c.in_ok-offset.ensures in
    string_at-added c.args.bytes.now c.args.self.now c.append.new.self c.in_ok-offset.offset
    added.names added.place c.requires
