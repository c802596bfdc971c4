use Rattle.std.proofs.Common.{refl, sym, subst}
use Rattle.tool_output.specs.Reports.{Report, Reports}
use Rattle.tool_objects.proofs.ElfSteps.{elf_left, elf_says}
use Rattle.nm_tool.specs.Tool.{rows_report}
use Rattle.nm_tool.proofs.KeptLemmas.{kept_rows, names_held}
use Rattle.nm_tool.proofs.PlaceLemmas.{plain_told}
use Rattle.nm_tool.proofs.tool.show_loaded.Goals as goal

pub show_at_hand-requires : goal.show_at_hand-requires
show_at_hand-requires g c = c.in-Some.ensures.table.items.whole

pub returns-in-Some : goal.returns-in-Some
returns-in-Some g c =
    let f = c.args.form in
    let s = c.args.t.symbols.0 in
    elf_says g.S.Source g.O.Sink g.E.Sink (λ m. rows_report f.options.now f.file.now m s) _
    c.args.elf.now _ c.args.outputs.now _ (elf_left g.S.Source c.args.elf.now)
    (λ told. subst (λ (r : Report). Reports g.O.Sink g.E.Sink c.show_at_hand.result
    c.args.outputs.now c.show_at_hand.new.outputs r)
    (sym (kept_rows f.options.now f.file.now c.args.elf.now.o s c.args.count c.args.list
    c.requires.count (c.requires.list told)))
    (c.show_at_hand.ensures.reports c.args.elf.now.o s (record {
      headers = record { class = refl; headers = refl };
      symbols = plain_told c.args.elf.now c.args.t c.in-Some.bytes.symbols c.requires.tables
          c.in-Some.ensures.table told;
      names = names_held c.args.elf.now s c.args.t.names.0 c.in-Some.bytes.strings.now
          c.requires.tables.names c.in-Some.ensures.names told;
    }))) c.show_at_hand.ensures.leaves
