use Rattle.std.proofs.Common.{ℕ, ap, ◌∙◌}
use Rattle.elf_types.specs.declared.records.Shdr.{Shdr}
use Rattle.elf_descriptor.specs.Views.{scn_at}
use Rattle.elf_descriptor.specs.Places.{shdr_to_store, stored_shdr}
use Rattle.elf_descriptor.proofs.body.Body.stored_shdr.Goals as goal

pub returns : goal.returns
unfolding stored_shdr
returns c =
    c.shdr_to_store.ensures
    ∙ ap (λ (h : Shdr). shdr_to_store c.args.h.now c.args.s c.args.at c.stored_size-size.result h)
    c.header_at.ensures
    ∙ ap (λ (n : ℕ).
    shdr_to_store c.args.h.now c.args.s c.args.at n (scn_at c.args.self.now c.args.s).header)
    c.stored_size-size.ensures
