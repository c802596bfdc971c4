use Rattle.rebuild_making.specs.elf_object.Calls as calls
use Rattle.elf_update_plan.specs.elf_descriptor.Reads.{wanted}
use Rattle.rebuild_keep.specs.Makes.{FitsAs}
use Rattle.rebuild_keep.specs.Homes.{items_at_home}
use Rattle.rebuild_keep.proofs.HomeLaws.{class_told, order_told, home_found, home_refused}
use Rattle.rebuild_keep.proofs.homes.home_items.Goals as goal

pub returns-in-Ok : goal.returns-in-Ok
returns-in-Ok g c =
    home_found g.S.Source c.args.elf.now _ c.args.s.0 c.requires c.ehdr-header.result.class
    c.ehdr-header.result.order
    (class_told c.args.elf.now.o c.ehdr-header.result c.ehdr-header.ensures)
    (order_told c.args.elf.now.o c.ehdr-header.result c.ehdr-header.ensures)
    (wanted (calls.raw c.args.s.0) c.args.elf.now) c.in-Ok.bytes.now c.in-Ok.ensures.answer
    c.in-Ok.ensures.like c.in-Ok.bytes c.piece_kind-kind.result c.decode_if.result
    c.piece_kind-kind.ensures c.decode_if.ensures
    (rw c.in-Ok.is at c.raw.follows.holds-at-none.queries)

pub returns-in-Err : goal.returns-in-Err
returns-in-Err g c =
    home_refused g.S.Source (λ o. items_at_home o c.args.s.0) FitsAs
    (wanted (calls.raw c.args.s.0) c.args.elf.now) c.args.s.0 c.in-Err.e c.args.elf.now _
    c.in-Err.ensures.answer (rw c.in-Err.is at c.raw.follows.holds-at-none.queries)
