use Rattle.std.proofs.Common.{◌≡◌, false, take}
use Rattle.std.specs.List.{list_any}
use Rattle.elf_descriptor.specs.Bodies.{is_scn_dirty}
use Rattle.elf_descriptor.proofs.body.Body.some_section_marked.Given as goal

abbrev pub invariant-loop-s : goal.invariant-loop-s
invariant-loop-s l = list_any is_scn_dirty (take l.s l.self.sections) ≡ false
