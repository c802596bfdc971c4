use Rattle.std.proofs.Common.{◌≡◌, ℕ, List, Option, length, take, drop, IfSome, refl, sym, ap, subst, ◌∙◌, arith}
use Rattle.elf_types.specs.declared.records.Kind.TheVariants as kinds
use Rattle.elf_xlate.specs.Translation.{is_whole}
use Rattle.tool_objects.proofs.SourceSteps.{after_read}
use Rattle.nm_front.specs.Tables.{IsPlain}
use Rattle.nm_tool.proofs.FrontSteps.{range_stops, range_unread}
use Rattle.nm_tool.proofs.front.show_plain.Goals as goal

pub read_range-requires : goal.read_range-requires
read_range-requires g c = λ some. c.requires.plain.symbols.inside

pub stop_for-requires : goal.stop_for-requires
stop_for-requires g c = range_stops c.in-Err.e c.in-Err.ensures.err

pub show_read-requires-clause-plain : goal.show_read-requires-clause-plain
show_read-requires-clause-plain g c =
    subst (λ (n : ℕ). IsPlain c.args.front.now n c.args.table)
    (sym c.in-Ok.ensures.asks.leaves.same_len) c.requires.plain

pub show_read-requires-clause-whole : goal.show_read-requires-clause-whole
show_read-requires-clause-whole g c =
    ap (is_whole kinds.Sym c.args.front.now.ehdr.class)
    (ap (λ (l : List ℕ). length l) c.as_slice.ensures ∙ c.in-Ok.ensures.len)
    ∙ c.requires.plain.symbols.whole

pub show_read-requires-clause-form : goal.show_read-requires-clause-form
show_read-requires-clause-form g c = record { class = refl; order = refl }

pub show_read-requires-clause-held : goal.show_read-requires-clause-held
show_read-requires-clause-held g c =
    let t = c.args.table in
    rw c.as_slice.ensures (subst
    (λ (h : Option (List ℕ)). IfSome h (λ image.
    c.in-Ok.bytes ≡ take t.symbols.size (drop t.symbols.offset image)))
    (sym c.in-Ok.ensures.asks.leaves.same_bytes) c.in-Ok.ensures.bytes)

pub returns-in-Ok-clause-reports : goal.returns-in-Ok-clause-reports
returns-in-Ok-clause-reports g c =
    after_read g.S.Source g.O.Sink g.E.Sink _ c.args.table.symbols.size _ c.show_read.result
    c.args.src.now c.read_range.new.src _ c.args.outputs.now _ c.in-Ok.ensures.asks
    c.show_read.ensures.reports

pub returns-in-Ok-clause-asked : goal.returns-in-Ok-clause-asked
returns-in-Ok-clause-asked g c =
    omega (arith, c.in-Ok.ensures.asks.taken.no_more, c.show_read.ensures.asked)

pub returns-in-Err-clause-reports : goal.returns-in-Err-clause-reports
returns-in-Err-clause-reports g c =
    range_unread g.S.Source g.O.Sink g.E.Sink _ c.in-Err.e c.stop_for.result
    c.args.table.symbols.size c.args.src.now c.read_range.new.src c.args.outputs.now
    c.stop_for.ensures c.in-Err.ensures.asks
