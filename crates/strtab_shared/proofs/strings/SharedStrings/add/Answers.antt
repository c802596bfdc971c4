use Rattle.std.proofs.Common.{◌≡◌, ◌+◌, ◌-◌, ◌<◌, ◌^◌, ◌++◌, ◌∷◌, [], length, sym, subst, ◌∙◌, arith}
use Rattle.std.specs.Prelude.{◌↔◌, IfOk, IsErrOf}
use Rattle.std.specs.Option.{ok_or}
use Rattle.std.proofs.lemmas.Bool.{true≢false}
use Rattle.elf_types.specs.declared.errors.ElfError.TheVariants.{TooLarge}
use Rattle.strtab_build.specs.Names.{IsTable, unclosed}
use Rattle.strtab_build.specs.Table.{string_at, table}
use Rattle.strtab_shared.specs.Kept.{names_of}
use Rattle.strtab_shared.proofs.PlaceLaws.{reads_added, reads_found, small_added, not_large, large_found}
use Rattle.strtab_shared.proofs.strings.SharedStrings.add.Goals as goal

pub returns-then-fits-clause-reads : goal.returns-then-fits-clause-reads
returns-then-fits-clause-reads c =
    reads_added c.args.bytes.now (names_of c.self.inside.parts) (names_of c.place.new.parts)
    c.place.result c.place.ensures.places.names c.place.ensures.places.place c.requires

pub returns-then-fits-clause-too_large : goal.returns-then-fits-clause-too_large
returns-then-fits-clause-too_large c =
    let t = subst IsTable c.self.view_is c.self.invariant.names_are in
    let small = small_added c.args.self.now c.args.bytes.now t
    (c.fits.ensures.0 c.if-fits.true) in (
      λ large. absurd (not_large c.place.result c.place.ensures.err large),
      λ more. absurd (omega (arith, small, more)),
    )

pub returns-clause-reads : goal.returns-clause-reads
returns-clause-reads c =
    subst (λ r. IfOk r (λ offset. string_at (table c.args.self.now) offset ≡ c.args.bytes.now))
    (sym c.ok_or.ensures.value)
    (subst (λ names. IfOk (ok_or c.find.result TooLarge)
    (λ offset. string_at (table names) offset ≡ c.args.bytes.now)) c.self.view_is
    (reads_found c.args.bytes.now (names_of c.self.inside.parts) c.find.result c.find.ensures
    c.requires))

pub returns-clause-too_large : goal.returns-clause-too_large
returns-clause-too_large c =
    let full = λ (less : length (unclosed c.args.self.now) + length c.args.bytes.now + 2
    < 2 ^ 32). true≢false (sym (c.fits.ensures.1 less) ∙ c.if-fits.false) in
    subst (λ r. IsErrOf r TooLarge
    ↔ (2 ^ 32 - 1 < length (table (c.args.self.now ++ c.args.bytes.now ∷ []))))
    (sym c.ok_or.ensures.value)
    (subst (λ names. (length (unclosed names) + length c.args.bytes.now + 2 < 2 ^ 32 → ⊥)
    → IsErrOf (ok_or c.find.result TooLarge) TooLarge
    ↔ (2 ^ 32 - 1 < length (table (names ++ c.args.bytes.now ∷ [])))) c.self.view_is
    (large_found c.args.bytes.now (names_of c.self.inside.parts) c.find.result c.find.ensures
    c.self.invariant.names_are) full)
