use Rattle.elf_update_to.proofs.PageLaws.{hole_stops, hole_ends}
use Rattle.elf_update_to.proofs.puts.put_hole.Goals as goal

pub returns-in-Err-clause-flows : goal.returns-in-Err-clause-flows
returns-in-Err-clause-flows g c =
    hole_stops g.K.Sink c.args.count c.in-Err.e c.args.sink.now c.flush.new.sink c.args.page.now
    c.flush.new.self c.in-Err.ensures.flows

pub returns-clause-flows : goal.returns-clause-flows
returns-clause-flows g c =
    hole_ends g.K.Sink c.args.count c.put_zeros.result c.args.sink.now c.flush.new.sink
    c.put_zeros.new.out c.args.page.now c.flush.new.self
    c.in_default.ensures.empty c.in_default.ensures.flows c.put_zeros.ensures.puts
