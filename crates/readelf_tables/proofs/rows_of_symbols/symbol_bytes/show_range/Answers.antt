use Rattle.std.proofs.Common.{◌-◌, length, drop, length-drop, ◌∙◌, arith}
use Rattle.std.proofs.lemmas.List.{take_all}
use Rattle.readelf_tables.proofs.rows_of_symbols.symbol_bytes.show_range.Goals as goal

pub returns-in-Some-clause-reports : goal.returns-in-Some-clause-reports
returns-in-Some-clause-reports g c =
    let b = c.write_rows.new.buffer in
    let at = c.in-Some.at in
    let whole = take_all (length b - at) (drop at b) (omega (arith, length-drop at b)) in
    rw (← (whole ∙ c.in-Some.ensures.wrote)) c.show.ensures.reports
