use Rattle.std.proofs.Common.{sym, ◌∙◌}
use Rattle.elf_object.specs.Answers.{count_at, items_at, lend_refusal}
use Rattle.elf_object.proofs.AnswerLaws.{answered_value, answered_refusal, lend_kind}
use Rattle.tool_objects.proofs.ElfSteps.{elf_left, elf_as, elf_says}
use Rattle.readelf_rows.specs.Data.{if_told}
use Rattle.readelf_tables.specs.Tables.{item_table_report}
use Rattle.readelf_rows.proofs.DataLemmas.{told_lines, told_refused}
use Rattle.readelf_tables.proofs.TableLemmas.{count_is}
use Rattle.readelf_tables.proofs.tables.show_table.Goals as goal

pub show_table_lines-requires : goal.show_table_lines-requires
show_table_lines-requires g c =
    let o = c.args.elf.now.o in
    let s = c.args.s.0 in
    let value = answered_value (lend_refusal o g.T.Listed.kind s 0) (count_at o s 0) c.in-Ok.count (sym c.in-Ok.ensures.answer) in
    record {
      section = c.requires.section;
      passed = value.0;
      count = value.1 ∙ count_is o s 0 ∙ sym (c.requires.counted (items_at o s 0) (lend_kind o g.T.Listed.kind s 0 value.0));
      fit = c.links-links.ensures;
    }

pub returns-in-Ok : goal.returns-in-Ok
returns-in-Ok g c =
    let s = c.args.s.0 in
    let o = c.args.elf.now.o in
    let value = answered_value (lend_refusal o g.T.Listed.kind s 0) (count_at o s 0) c.in-Ok.count (sym c.in-Ok.ensures.answer) in
    elf_as g.S.Source g.O.Sink g.E.Sink (λ o. item_table_report g.T.TableRow.title g.T.TableRow.line o s (g.T.Listed.list_of (items_at o s 0)))
    (λ o. if_told c.args.name.now (lend_refusal o g.T.Listed.kind s 0) (item_table_report g.T.TableRow.title g.T.TableRow.line o s (g.T.Listed.list_of (items_at o s 0)))) _ c.args.elf.now _ c.args.outputs.now _
    (λ told. told_lines c.args.name.now _ (lend_refusal o g.T.Listed.kind s 0) value.0) c.show_table_lines.ensures

pub returns-in-Err : goal.returns-in-Err
returns-in-Err g c =
    let s = c.args.s.0 in
    let o = c.args.elf.now.o in
    let refused = answered_refusal (lend_refusal o g.T.Listed.kind s 0) (count_at o s 0) c.in-Err.e (sym c.in-Err.ensures.answer) in
    elf_says g.S.Source g.O.Sink g.E.Sink
    (λ o. if_told c.args.name.now (lend_refusal o g.T.Listed.kind s 0) (item_table_report g.T.TableRow.title g.T.TableRow.line o s (g.T.Listed.list_of (items_at o s 0)))) _ c.args.elf.now _ c.args.outputs.now _
    (elf_left g.S.Source c.args.elf.now)
    (λ told. rw (told_refused c.args.name.now (item_table_report g.T.TableRow.title g.T.TableRow.line o s (g.T.Listed.list_of (items_at o s 0))) (lend_refusal o g.T.Listed.kind s 0) c.in-Err.e refused) c.refuse.ensures.reports)
    c.refuse.ensures.leaves
