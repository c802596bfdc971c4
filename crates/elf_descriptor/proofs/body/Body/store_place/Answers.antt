use Rattle.std.proofs.Common.{◌≡◌, ℕ, ◌+◌, refl, ap, ◌∙◌, arith}
use Rattle.std.specs.Prelude.{slice_index}
use Rattle.elf_descriptor.specs.Views.{scn_at}
use Rattle.elf_descriptor.proofs.Placing.{place_stored}
use Rattle.elf_descriptor.proofs.body.Body.store_place.Goals as goal

pub returns-clause-sections : goal.returns-clause-sections
unfolding scn_at
returns-clause-sections c =
    let number : c.from.result ≡ c.args.s = omega (arith, c.from.ensures) in
    place_stored c.args.places.now c.args.h.now c.args.self.now _ c.args.s c.place_of-at.result
    (scn_at c.args.self.now c.args.s) c.stored_shdr-header.result refl
    (c.place_of-at.ensures ∙ ap (λ (n : ℕ). slice_index c.args.places.now.at (n + 1)) number)
    c.stored_shdr-header.ensures c.set_header.ensures
