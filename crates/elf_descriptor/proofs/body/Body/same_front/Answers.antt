use Rattle.elf_descriptor.proofs.FrontCalls.{header_told, segments_told, table_told}
use Rattle.elf_descriptor.proofs.body.Body.same_front.Goals as goal

pub returns-in-Segments : goal.returns-in-Segments
returns-in-Segments c =
    λ image size is written passed fit.
    segments_told image size c.args.self.now is c.sizes_are_lengths.ensures
    c.args.places.now c.args.front.now written passed fit
    c.args.part c.in-Segments.is c.stored_header-h.result c.stored_header-h.ensures
    c.same_segments.result c.same_segments.ensures

pub returns-in-Table : goal.returns-in-Table
returns-in-Table c =
    λ image size is written passed fit.
    table_told image size c.args.self.now is c.sizes_are_lengths.ensures
    c.args.places.now c.args.front.now written passed fit
    c.args.part c.in-Table.is c.stored_header-h.result c.stored_header-h.ensures
    c.same_table.result c.same_table.ensures

pub returns-in-Header : goal.returns-in-Header
returns-in-Header c =
    λ image size is written passed fit.
    header_told image size c.args.self.now is c.sizes_are_lengths.ensures
    c.args.places.now c.args.front.now written passed fit
    c.args.part c.in-Header.is c.stored_header-h.result c.written_header.result
    c.stored_header-h.ensures c.written_header.ensures.value
    c.same_header.result c.same_header.ensures
