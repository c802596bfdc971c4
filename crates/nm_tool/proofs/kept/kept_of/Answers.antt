use Rattle.std.proofs.Common.{◌-◌, ◌∙◌, sym, subst}
use Rattle.elf_object.specs.Object.{Object}
use Rattle.tool_objects.proofs.LearnLemmas.{learns_now, learns_after, learns_stop}
use Rattle.nm_tool.specs.Kept.{kept_of}
use Rattle.nm_tool.specs.Tables.{AreTables}
use Rattle.nm_tool.proofs.PlainLemmas.{kept_none}
use Rattle.nm_tool.proofs.kept.kept_of.Goals as goal

pub returns-then-count-lt2 : goal.returns-then-count-lt2
returns-then-count-lt2 g c =
    let s = c.args.t.symbols.0 in
    learns_now g.S.Source (λ o. kept_of c.args.options.now o s (c.args.count - 1)) c.new.result
    c.args.elf.now
    (λ told. c.new.ensures
    ∙ kept_none c.args.options.now c.args.elf.now.o s c.args.count c.if-count-lt2.true)

pub kept_loaded-requires-clause-tables : goal.kept_loaded-requires-clause-tables
kept_loaded-requires-clause-tables g c =
    subst (λ (o : Object). AreTables o c.args.t) (sym c.in-Ok.ensures.elf.object)
    c.requires.tables

pub returns-in-Ok : goal.returns-in-Ok
returns-in-Ok g c =
    learns_after g.S.Source
    (λ o. kept_of c.args.options.now o c.args.t.symbols.0 (c.args.count - 1))
    c.kept_loaded.result c.args.elf.now c.load.new.elf _ c.in-Ok.ensures.elf c.kept_loaded.ensures

pub returns-in-Err : goal.returns-in-Err
returns-in-Err g c =
    learns_stop g.S.Source (λ (o : Object). tt)
    (λ o. kept_of c.args.options.now o c.args.t.symbols.0 (c.args.count - 1)) c.in-Err.stop
    c.args.elf.now _ (record { value = λ told. tt; reads = c.in-Err.ensures })
