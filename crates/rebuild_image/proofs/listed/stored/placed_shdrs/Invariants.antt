use Rattle.std.proofs.Common.{◌≡◌}
use Rattle.elf_update_plan.specs.elf_object.Object.{Object}
use Rattle.elf_update_plan.specs.elf_object.Layout.{placed_header}
use Rattle.rebuild_image.specs.Listed.Listing.{IsHeaderListing}
use Rattle.rebuild_image.proofs.listed.StoreLaws.{StoredBelow}
use Rattle.rebuild_image.proofs.listed.stored.placed_shdrs.Given as goal

abbrev pub invariant-loop-s : goal.invariant-loop-s
invariant-loop-s l =
    (o : Object) → IsHeaderListing o l.x → l.header ≡ placed_header l.places o
    → StoredBelow l.places o l.headers l.s
