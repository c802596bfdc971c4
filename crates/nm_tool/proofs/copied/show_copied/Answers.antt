use Rattle.std.proofs.Common.{◌-◌, sym, subst}
use Rattle.elf_object.specs.Object.{Object}
use Rattle.tool_objects.proofs.ElfSteps.{elf_as, elf_learns, elf_learns_none}
use Rattle.nm_tool.specs.Pools.{pool_of}
use Rattle.nm_tool.specs.Tables.{AreTables}
use Rattle.nm_tool.specs.Tool.{rows_report}
use Rattle.nm_tool.specs.PoolReports.{pool_report}
use Rattle.nm_tool.proofs.ToolLemmas.{pool_reported}
use Rattle.nm_tool.proofs.copied.show_copied.Goals as goal

pub show_pool-requires : goal.show_pool-requires
show_pool-requires g c =
    subst (λ (o : Object). AreTables o c.args.t) (sym c.in-Ok.ensures.reads.elf.object)
    c.requires.tables

pub returns-in-Ok : goal.returns-in-Ok
returns-in-Ok g c =
    let f = c.args.form in
    let u = c.args.t.symbols.0 in
    let n = c.args.count - 1 in
    elf_as g.S.Source g.O.Sink g.E.Sink
    (λ o. pool_report f.options.now f.file.now o u (pool_of f.options.now o u n))
    (λ o. rows_report f.options.now f.file.now o u) _ c.args.elf.now _ c.args.outputs.now _
    (λ told. pool_reported f.options.now f.file.now c.args.elf.now.o u c.args.count
    c.requires.count)
    (elf_learns g.S.Source g.O.Sink g.E.Sink (λ o. pool_of f.options.now o u n) c.args.elf.now _
    c.in-Ok.pool (λ p o. pool_report f.options.now f.file.now o u p) _ _ c.args.outputs.now _
    c.in-Ok.ensures c.show_pool.ensures)

pub returns-in-Err : goal.returns-in-Err
returns-in-Err g c =
    let f = c.args.form in
    let u = c.args.t.symbols.0 in
    elf_learns_none g.S.Source g.O.Sink g.E.Sink
    (λ o. pool_of f.options.now o u (c.args.count - 1)) c.args.elf.now _ c.in-Err.stop
    (λ o. rows_report f.options.now f.file.now o u) c.args.outputs.now c.in-Err.ensures
