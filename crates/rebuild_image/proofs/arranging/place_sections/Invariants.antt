use Rattle.std.proofs.Common.{◌≡◌, ◌≤◌, length}
use Rattle.elf_layout.specs.Layout.{limit_of}
use Rattle.rebuild_model.specs.elf_object.Object.{Object}
use Rattle.rebuild_image.specs.Listed.Listing.{IsHeaderListing}
use Rattle.rebuild_image.specs.Arranging.{ArePlacedBehind}
use Rattle.rebuild_image.proofs.arranging.place_sections.Given as goal

abbrev pub invariant-loop-s : goal.invariant-loop-s
invariant-loop-s l = record {
  placed : (o : Object) → IsHeaderListing o l.x → l.limit ≡ limit_of o.header.class
      → ArePlacedBehind o l.tail l.limit l.s l.headers l.end;
  within : l.s ≤ length l.x.headers;
  count : length l.headers ≡ l.s;
}
