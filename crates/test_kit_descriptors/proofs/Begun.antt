-- A descriptor where it begins.
use Rattle.std.proofs.Common.{◌≡◌, List, false, length, sym, ap, ◌∙◌}
use Rattle.std.proofs.lemmas.List.{length-map}
use Rattle.elf_types.specs.declared.records.Shdr.{Shdr}
use Rattle.elf_outside.specs.declared.sources.Source.{Ghosts}
use Rattle.elf_object.specs.Open.{begun, opened_section}
use Rattle.elf_descriptor.specs.State.{State}
use Rattle.elf_descriptor.specs.Begun.{IsBegun, begun_state}
use Rattle.elf_descriptor.specs.Views.{source_bytes}

-- it tells of each section whether memory is kept aside
pub begun_rooms : {S : Type 0} (g : Ghosts S) (src : S) (e : State S) → IsBegun g src e
    → length e.room ≡ length e.o.sections
unfolding begun_state begun
begun_rooms {S} g src e b =
    ap (λ (s : State S). length s.room) b.state
    ∙ length-map b.front.shdrs (λ (h : Shdr). false)
    ∙ sym (ap (λ (s : State S). length s.o.sections) b.state
    ∙ length-map b.front.shdrs (opened_section (source_bytes (g.holds e.source) (g.size e.source))))
