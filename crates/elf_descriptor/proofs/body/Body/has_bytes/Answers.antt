use Rattle.std.proofs.Common.{refl}
use Rattle.elf_descriptor.proofs.FrontCalls.{header_of_none, segments_of_none, table_of_none}
use Rattle.elf_descriptor.proofs.body.Body.has_bytes.Goals as goal

pub returns-in-Segments : goal.returns-in-Segments
returns-in-Segments c =
    λ image size places written is.
    segments_of_none image size c.args.self.now is places written c.args.part c.in-Segments.is
    _ refl

pub returns-in-Table : goal.returns-in-Table
returns-in-Table c =
    λ image size places written is.
    table_of_none image size c.args.self.now is places written c.args.part c.in-Table.is _ refl

pub returns-in-Header : goal.returns-in-Header
returns-in-Header c =
    λ image size places written is.
    header_of_none image size c.args.self.now is places written c.args.part c.in-Header.is
