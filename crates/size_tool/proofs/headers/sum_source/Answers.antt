use Rattle.std.proofs.Common.{◌+◌, ◌*◌, ◌≤◌, subst, sym, ℕ}
use Rattle.elf_xlate.specs.Headers.{shdr_size}
use Rattle.elf_ident.proofs.FrontLemmas.{bound_head}
use Rattle.size_tool.proofs.FrontSums.{sums_read, sums_refused, sums_asked, sums_within, refusal_asked, read_refuses}
use Rattle.size_tool.proofs.headers.sum_source.Goals as goal

pub sum_table-requires-clause-few : goal.sum_table-requires-clause-few
sum_table-requires-clause-few g c = c.in-Ok.ensures.sound.counts.few_shdrs

pub sum_table-requires-clause-inside : goal.sum_table-requires-clause-inside
sum_table-requires-clause-inside g c =
    let head = c.in-Ok.head in
    subst (λ (n : ℕ). head.header.shoff + head.counts.shnum * shdr_size head.header.class ≤ n)
    (sym c.in-Ok.ensures.asks.leaves.same_len) c.in-Ok.ensures.sound.counts.tables.shdrs

pub returns-in-Ok-clause-sums : goal.returns-in-Ok-clause-sums
returns-in-Ok-clause-sums g c =
    sums_read (g.S.Source.holds c.args.src.now) _ c.in-Ok.head c.sum_table.result
    c.in-Ok.ensures.asks.leaves.same_bytes c.in-Ok.ensures.head c.sum_table.ensures.value
    c.sum_table.ensures.err

pub returns-in-Ok-clause-asks : goal.returns-in-Ok-clause-asks
returns-in-Ok-clause-asks g c =
    sums_asked g.S.Source c.in-Ok.head _ c.sum_table.result c.args.src.now _ _
    c.in-Ok.ensures.sound c.in-Ok.ensures.asks c.sum_table.ensures.asks

pub returns-in-Ok-clause-bound : goal.returns-in-Ok-clause-bound
returns-in-Ok-clause-bound g c =
    sums_within (g.S.Source.holds c.args.src.now) c.in-Ok.head _ _ _ c.in-Ok.ensures.head
    c.in-Ok.ensures.bound c.sum_table.ensures.asks.taken.no_more

pub returns-in-Ok-clause-err : goal.returns-in-Ok-clause-err
returns-in-Ok-clause-err g c =
    read_refuses c.sum_table.result (g.S.Source.size c.args.src.now) c.sum_table.ensures.err

pub returns-in-Err-clause-sums : goal.returns-in-Err-clause-sums
returns-in-Err-clause-sums g c =
    sums_refused (g.S.Source.holds c.args.src.now) c.in-Err.e c.in-Err.ensures.head

pub returns-in-Err-clause-asks : goal.returns-in-Err-clause-asks
returns-in-Err-clause-asks g c =
    refusal_asked g.S.Source c.in-Err.e c.args.src.now _ c.in-Err.ensures.asks

pub returns-in-Err-clause-bound : goal.returns-in-Err-clause-bound
returns-in-Err-clause-bound g c =
    bound_head (g.S.Source.holds c.args.src.now) _ _ c.in-Err.ensures.bound
