use Rattle.std.proofs.Common.{◌≡◌, ◌∙◌, ℕ, ◌+◌, refl, ap, subst, arith}
use Rattle.std.specs.Prelude.{slice_index}
use Rattle.elf_types.specs.declared.records.Shdr.{Shdr}
use Rattle.section_table.specs.elf_xlate.Headers.{IsShdr}
use Rattle.elf_descriptor.specs.Views.{scn_at}
use Rattle.elf_descriptor.proofs.FrontTables.{shdr_read, decides_at}
use Rattle.elf_descriptor.proofs.body.Body.same_at.Goals as goal

pub returns-clause-same : goal.returns-clause-same
returns-clause-same c =
    let places = c.args.places.now in
    let number : c.from.result ≡ c.args.s = omega (arith, c.from.ensures) in
    let place = c.place_of-at.ensures ∙ ap (λ (n : ℕ). slice_index places.at (n + 1)) number in
    let is =
    shdr_read places c.args.h.now c.args.self.now c.args.s c.place_of-at.result
    (scn_at c.args.self.now c.args.s)
    c.stored_shdr.result c.stored_shdr.ensures place refl in
    decides_at c.same_shdr.result c.stored_shdr.result c.shdr_at.result _ _
    c.same_shdr.ensures.same is c.shdr_at.ensures

pub returns-clause-ranged : goal.returns-clause-ranged
returns-clause-ranged c =
    let places = c.args.places.now in
    let number : c.from.result ≡ c.args.s = omega (arith, c.from.ensures) in
    let place = c.place_of-at.ensures ∙ ap (λ (n : ℕ). slice_index places.at (n + 1)) number in
    let is =
    shdr_read places c.args.h.now c.args.self.now c.args.s c.place_of-at.result
    (scn_at c.args.self.now c.args.s)
    c.stored_shdr.result c.stored_shdr.ensures place refl in
    subst (λ (h : Shdr). IsShdr h) is c.same_shdr.ensures.ranged
