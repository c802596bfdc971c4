use Rattle.std.proofs.Common.{length, ap, ◌∙◌}
use Rattle.gelf_view.proofs.PieceBytes.{bytes_count, piece_there, own_of_bytes, own_exact, raw_exact}
use Rattle.gelf_view.proofs.fetching.bytes_there.Goals as goal

pub own_bytes-requires : goal.own_bytes-requires
own_bytes-requires g c = own_of_bytes c.args.elf.now.o c.args.d.section c.args.d.piece c.requires.passed c.in-Ok-Edited.items.now (rw c.in-Ok-Edited.field-0-is at c.in-Ok-Edited.ensures.held)

pub unreachable-requires-in-Err : goal.unreachable-requires-in-Err
unreachable-requires-in-Err g c = let there = piece_there c.args.elf.now.o c.args.d.section c.args.d.piece c.requires.passed in let refused = c.in-Err.ensures.refusal in cc

pub returns-in-Ok-Edited-clause-exact : goal.returns-in-Ok-Edited-clause-exact
returns-in-Ok-Edited-clause-exact g c = λ told. c.own_bytes.ensures ∙ own_exact c.args.elf.now.o c.args.d.section c.args.d.piece c.requires.passed c.in-Ok-Edited.items.now (rw c.in-Ok-Edited.field-0-is at c.in-Ok-Edited.ensures.held)

pub returns-in-Ok-Edited-clause-count : goal.returns-in-Ok-Edited-clause-count
returns-in-Ok-Edited-clause-count g c =
    ap length (c.own_bytes.ensures ∙ own_exact c.args.elf.now.o c.args.d.section c.args.d.piece c.requires.passed c.in-Ok-Edited.items.now (rw c.in-Ok-Edited.field-0-is at c.in-Ok-Edited.ensures.held))
    ∙ bytes_count c.args.elf.now.o c.args.d.section c.args.d.piece c.requires.passed

pub returns-in-Ok-Raw-clause-exact : goal.returns-in-Ok-Raw-clause-exact
returns-in-Ok-Raw-clause-exact g c =
    let held = rw c.in-Ok-Raw.field-0-is at c.in-Ok-Raw.ensures.held in
    λ told. held.exact told ∙ raw_exact c.args.elf.now.o c.args.d.section c.args.d.piece c.requires.passed held.clean

pub returns-in-Ok-Raw-clause-count : goal.returns-in-Ok-Raw-clause-count
returns-in-Ok-Raw-clause-count g c =
    let held = rw c.in-Ok-Raw.field-0-is at c.in-Ok-Raw.ensures.held in
    held.alike ∙ ap length (raw_exact c.args.elf.now.o c.args.d.section c.args.d.piece c.requires.passed held.clean)
    ∙ bytes_count c.args.elf.now.o c.args.d.section c.args.d.piece c.requires.passed
