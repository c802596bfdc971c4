use Rattle.std.proofs.Common.{◌≡◌, ◌≤◌, ◌++◌, ◌+◌, ◌-◌, map}
use Rattle.std.specs.List.{range_with_len}
use Rattle.elf_update_plan.specs.elf_object.Object.{Object}
use Rattle.elf_update_plan.specs.Sections.{capped_section}
use Rattle.rebuild_image.specs.Listed.Listing.{IsHeaderListing}
use Rattle.rebuild_image.proofs.listed.parts.push_sections.Given as goal

abbrev pub invariant-loop-s : goal.invariant-loop-s
invariant-loop-s l = record {
  parts : (o : Object) → IsHeaderListing o l.x → l.parts
      ≡ l.initial.parts ++ map (capped_section o) (range_with_len 1 (l.s - 1));
  within : l.s ≤ l.count + 1;
}
