use Rattle.calls_tool.specs.Lines.{ehdr_numbers_text}
use Rattle.calls_tool.proofs.lines.headers.put_ehdr_numbers.Goals as goal

pub returns-clause-ok : goal.returns-clause-ok
unfolding ehdr_numbers_text
returns-clause-ok c =
    rw (← c.from.ensures, ← c.from-2.ensures, ← c.from-3.ensures, ← c.from-4.ensures, ← c.from-5.ensures, ← c.from-6.ensures, ← c.from-7.ensures, ← c.from-8.ensures, ← c.from-9.ensures, ← c.from-10.ensures, ← c.from-11.ensures, ← c.from-12.ensures)
    c.put_columns.ensures.ok
