use Rattle.std.proofs.Common.{false}
use Rattle.tool_output.specs.Reports.{shown_report}
use Rattle.tool_objects.specs.Steps.{ElfUnderWay}
use Rattle.readelf_rows.specs.Links.{linked_string}
use Rattle.readelf_chains.specs.Chains.{chain_report}
use Rattle.readelf_chains.proofs.entries.show_names.Given as goal

abbrev pub invariant-names : goal.invariant-names
invariant-names g l =
    let aux = g.A.Aux in
    ElfUnderWay g.S.Source g.O.Sink g.E.Sink false l.initial.elf l.elf l.initial.outputs l.outputs
    (λ o. chain_report l.name l.s.0 (λ x. shown_report (aux.line x (linked_string o l.s.0 (aux.string x)))) (g.A.VersionName.names o l.s.0 0 l.fn.first))
    (λ o. chain_report l.name l.s.0 (λ x. shown_report (aux.line x (linked_string o l.s.0 (aux.string x)))) (g.A.VersionName.names o l.s.0 0 l.place))

abbrev pub decreases-names : goal.decreases-names
decreases-names g l = l.place.left
