use Rattle.std.proofs.Common.{◌≡◌, List, true, false, sym, ap, ◌∙◌, subst}
use Rattle.std.specs.Prelude.{slice_set}
use Rattle.elf_types.specs.declared.records.Shdr.{Shdr}
use Rattle.elf_xlate.specs.Headers.{shdr_fits}
use Rattle.rebuild_model.specs.Copied.{with_bits}
use Rattle.rebuild_copy.proofs.UpdateLaws.{flags_alter, flags_unfit}
use Rattle.rebuild_copy.proofs.flags.put_flags.Goals as goal

pub returns-then-not-shdr_fits : goal.returns-then-not-shdr_fits
returns-then-not-shdr_fits c =
    flags_unfit c.args.s c.args.bits c.args.x.now c.args.x.now
    (subst (λ (h : Shdr). shdr_fits c.args.x.now.listed.header.class (with_bits c.args.bits h)
    ≡ false) c.header_of.ensures (sym c.shdr_fits.ensures ∙ c.if-not-shdr_fits.true))

pub returns : goal.returns
returns c =
    let x = c.args.x.now in
    flags_alter c.args.s c.args.bits x _ c.ranges.bits.fits
    (subst (λ (h : Shdr). shdr_fits x.listed.header.class (with_bits c.args.bits h) ≡ true)
    c.header_of.ensures (sym c.shdr_fits.ensures ∙ c.if-not-shdr_fits.false))
    (ap (λ (l : List Shdr). record x { listed = record x.listed { headers = l } })
    (c.set_header.ensures
    ∙ ap (λ (h : Shdr). slice_set x.listed.headers c.args.s (with_bits c.args.bits h))
    c.header_of.ensures))
