use Rattle.std.proofs.Common.{ℕ, List, Option, sym, subst}
use Rattle.std.specs.Prelude.{◌/◌, ◌%◌, codes}
use Rattle.elf_types.specs.Names.{symbol_type_name_of, binding_name_of, visibility_name_of}
use Rattle.readelf_rows.specs.Fields.{name_column}
use Rattle.readelf_tables.specs.RowsOfSymbols.SymbolLines.{symbol_names}
use Rattle.readelf_rows.proofs.FrontLemmas.{precedes_then, precedes_as, three_texts}
use Rattle.readelf_rows.proofs.ShortNames.{IsShort}
use Rattle.readelf_tables.proofs.rows_of_symbols.NameLemmas.{type_short, binding_short, visibility_short, column_is}
use Rattle.readelf_tables.proofs.rows_of_symbols.symbol_lines.write_each_name.Goals as goal

pub write_name_column-vis_at-requires-clause-named : goal.write_name_column-vis_at-requires-clause-named
write_name_column-vis_at-requires-clause-named c =
    subst (λ (o : Option (List ℕ)). IsShort o) (sym c.visibility_name-seen.ensures)
    (visibility_short c.vis-visibility.result)

pub write_name_column-bind_at-requires-clause-named : goal.write_name_column-bind_at-requires-clause-named
write_name_column-bind_at-requires-clause-named c =
    subst (λ (o : Option (List ℕ)). IsShort o) (sym c.binding_name-bound.ensures)
    (binding_short c.bind-binding.result)

pub write_name_column-requires-clause-named : goal.write_name_column-requires-clause-named
write_name_column-requires-clause-named c =
    subst (λ (o : Option (List ℕ)). IsShort o) (sym c.symbol_type_name-typed.ensures)
    (type_short c.stt-kind.result)

pub returns-clause-wrote : goal.returns-clause-wrote
unfolding symbol_names
returns-clause-wrote c =
    let v = precedes_as (column_is (codes "vis") visibility_name_of _ _ _ _
    c.visibility_name-seen.ensures c.vis-visibility.ensures c.from.ensures)
    c.write_name_column-vis_at.ensures.wrote in
    let b = precedes_as (column_is (codes "bind") binding_name_of _ _ _ _
    c.binding_name-bound.ensures c.bind-binding.ensures c.from-2.ensures)
    c.write_name_column-bind_at.ensures.wrote in
    let t = precedes_as (column_is (codes "type") symbol_type_name_of _ _ _ _
    c.symbol_type_name-typed.ensures c.stt-kind.ensures c.from-3.ensures)
    c.write_name_column.ensures.wrote in
    let x = c.args.x.now in
    precedes_as (three_texts
    (name_column (codes "type") (symbol_type_name_of (x.info % 16)) (x.info % 16))
    (name_column (codes "bind") (binding_name_of (x.info / 16)) (x.info / 16))
    (name_column (codes "vis") (visibility_name_of (x.other % 4)) (x.other % 4)))
    (precedes_then (precedes_then v b) t)
