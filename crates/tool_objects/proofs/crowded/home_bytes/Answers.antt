use Rattle.std.proofs.Common.{◌∙◌, sym}
use Rattle.tool_objects.proofs.LetGo.{due_out, due_in}
use Rattle.tool_objects.proofs.crowded.home_bytes.Goals as goal

pub returns-then-is_out : goal.returns-then-is_out
returns-then-is_out g c = due_out c.args.elf.now.o c.args.s.0 (sym c.is_out.ensures ∙ c.if-is_out.true)

pub returns : goal.returns
returns g c =
    c.home_len.ensures
    ∙ due_in c.args.elf.now.o c.args.s.0 (sym c.is_out.ensures ∙ c.if-is_out.false)
