use Rattle.std.specs.Prelude.{not}
use Rattle.elf_calls_apply.specs.Applies.{refusals, shows_bytes, changed_piece, holding}
use Rattle.elf_calls_apply.specs.Stated.{stated_call}
use Rattle.calls_tool.proofs.RunLemmas.{call_run}
use Rattle.calls_tool.proofs.runs.show_call.Goals as goal

pub returns : goal.returns
returns g c =
    let q = c.args.call.now in
    call_run g.S.Source g.O.Sink g.E.Sink (stated_call q) (refusals q c.args.elf.now.o) (not (shows_bytes q)) (changed_piece q c.args.elf.now.o) (holding q c.args.elf.now.o)
    c.args.elf.now _ c.args.outputs.now _ _ _ c.apply-answer.ensures.meets c.show_answer.ensures
