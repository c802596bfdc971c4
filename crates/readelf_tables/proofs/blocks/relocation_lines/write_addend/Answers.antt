use Rattle.std.proofs.Common.{◌++◌, ℤ, ap, to_z-of_z, rules, w64}
use Rattle.std.specs.Prelude.{codes}
use Rattle.std.specs.Fmt.{signed_decimal}
use Rattle.readelf_rows.proofs.FrontLemmas.{precedes_then, precedes_as}
use Rattle.readelf_tables.specs.Blocks.RelocationLines.{addend_text}
use Rattle.readelf_tables.proofs.blocks.relocation_lines.write_addend.Goals as goal

pub returns-in-None-clause-wrote : goal.returns-in-None-clause-wrote
unfolding addend_text
returns-in-None-clause-wrote c = rw c.in-None.is c.write_text.ensures

pub returns-in-Some-clause-wrote : goal.returns-in-Some-clause-wrote
unfolding addend_text
returns-in-Some-clause-wrote c =
    rw c.in-Some.is
    (precedes_as (ap (λ (z : ℤ). codes " addend " ++ signed_decimal z)
    (to_z-of_z {w = w64} {z = c.in-Some.addend} (search rules)))
    (precedes_then c.write_signed-digits.ensures.wrote c.write_text-in-Some.ensures))
