use Rattle.std.proofs.Common.{ℕ, List, Option, sym, subst, ap₂}
use Rattle.readelf_rows.specs.Fields.{name_or_hex}
use Rattle.readelf_rows.proofs.FrontLemmas.{precedes_as}
use Rattle.readelf_rows.proofs.ShortNames.{IsShort}
use Rattle.readelf_headers.proofs.SectionLemmas.{section_type_short}
use Rattle.readelf_headers.proofs.sections.write_type.Goals as goal

pub write_name_or_hex-requires-clause-short : goal.write_name_or_hex-requires-clause-short
write_name_or_hex-requires-clause-short c =
    subst (λ (o : Option (List ℕ)). IsShort o) (sym c.section_type_name.ensures)
    (section_type_short c.args.stype)

pub returns-clause-wrote : goal.returns-clause-wrote
returns-clause-wrote c =
    precedes_as (ap₂ name_or_hex c.section_type_name.ensures c.from.ensures)
    c.write_name_or_hex.ensures.wrote
