use Rattle.std.proofs.Common.{List, length, ap, ◌∙◌, arith}
use Rattle.elf_types.specs.declared.records.Shdr.{Shdr}
use Rattle.section_table.proofs.Present.{no_headers}
use Rattle.section_table.proofs.headers.Headers.new.Goals as goal

pub invariant_of-result : goal.invariant_of-result
invariant_of-result c =
    let none = ap (λ (l : List Shdr). length l) (c.of.ensures ∙ c.new.ensures) in
    omega (arith, none)

pub returns : goal.returns
returns c = no_headers c.of.result c.new-2.result.items (c.of.ensures ∙ c.new.ensures)
    c.new-2.ensures.items
