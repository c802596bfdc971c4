use Rattle.std.proofs.Common.{List, length, ap, ◌∙◌, arith}
use Rattle.elf_types.specs.declared.records.Shdr.{Shdr}
use Rattle.section_table.proofs.Present.{stored}
use Rattle.section_table.proofs.headers.Headers.set.Goals as goal

pub index_mut-requires : goal.index_mut-requires
index_mut-requires c =
    let same = c.copy_once.ensures.items ∙ c.self.view_is in
    let long = ap (λ (l : List Shdr). length l) same in
    let count = c.copy_once.new.own.ok.0 in
    omega (arith, long, count, c.requires)

pub invariant_of-self : goal.invariant_of-self
invariant_of-self c = omega (arith, c.self.invariant, c.copy_once.ensures.room)

pub returns : goal.returns
returns c =
    stored c.self.inside.opened c.self.inside.own.items c.args.self.now c.copy_once.new.own.items
    c.copy_once.new.own.items c.copy_once.ensures.items c.self.view_is c.args.s c.args.header
    c.requires
