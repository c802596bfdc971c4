use Rattle.std.proofs.Common.{◌≡◌, ◌+◌, ◌≤◌, length, map, IfSome}
use Rattle.elf_object.specs.Open.{opened_section}
use Rattle.tool_objects.proofs.SourceSteps.{OnWay}
use Rattle.strings_tool.specs.Texts.{shortest_run}
use Rattle.strings_tool.specs.Homes.{section_homes_report}
use Rattle.strings_tool.proofs.SectionLemmas.{left_sections, left_asks}
use Rattle.strings_tool.proofs.homes.show_section_homes.Given as goal

abbrev pub invariant-loop-i : goal.invariant-loop-i
invariant-loop-i g l = record {
  way : OnWay g.S.Source g.O.Sink g.E.Sink l.refused l.initial.src l.src l.initial.outputs l.outputs
      (λ image. section_homes_report l.options l.name (map (opened_section image) l.headers)) (λ image. left_sections l.options l.name l.headers image l.i);
  asked : IfSome (g.S.Source.holds l.initial.src) (λ image.
      g.S.Source.taken l.src + left_asks l.headers image l.i
      ≤ g.S.Source.taken l.initial.src + left_asks l.headers image 0);
  room : length l.buffer ≡ 65536 + shortest_run l.options;
}
