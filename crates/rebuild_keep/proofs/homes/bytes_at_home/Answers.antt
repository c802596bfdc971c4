use Rattle.rebuild_making.specs.elf_object.Calls as calls
use Rattle.elf_update_plan.specs.elf_descriptor.Reads.{wanted}
use Rattle.rebuild_keep.specs.Makes.{FitsAs}
use Rattle.rebuild_keep.specs.Homes.{bytes_at_home}
use Rattle.rebuild_keep.proofs.HomeLaws.{bytes_found, home_unread}
use Rattle.rebuild_keep.proofs.homes.bytes_at_home.Goals as goal

pub returns-in-Ok : goal.returns-in-Ok
returns-in-Ok g c =
    bytes_found g.S.Source (wanted (calls.raw c.args.s.0) c.args.elf.now) c.in-Ok.bytes
    c.in-Ok.bytes.now c.args.s.0 c.args.elf.now _ c.copy_items.result c.in-Ok.ensures.answer
    (rw c.in-Ok.is at c.raw.follows.holds-at-none.queries) c.copy_items.ensures.ok
    c.copy_items.ensures.err

pub returns-in-Err : goal.returns-in-Err
returns-in-Err g c =
    home_unread g.S.Source (λ o. bytes_at_home o c.args.s.0) FitsAs
    (wanted (calls.raw c.args.s.0) c.args.elf.now) c.args.s.0 c.in-Err.e c.args.elf.now _
    c.in-Err.ensures.answer (rw c.in-Err.is at c.raw.follows.holds-at-none.queries)
