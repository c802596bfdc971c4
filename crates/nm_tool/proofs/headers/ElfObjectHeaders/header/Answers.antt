use Rattle.std.proofs.Common.{sym}
use Rattle.nm_tool.proofs.HeaderLemmas.{header_told, header_untold}
use Rattle.nm_tool.proofs.headers.ElfObjectHeaders.header.Goals as goal

pub returns-in-Ok : goal.returns-in-Ok
returns-in-Ok g c =
    header_told c.args.self.now.o c.args.n c.in-Ok.header (sym c.in-Ok.ensures)

pub returns-in-Err : goal.returns-in-Err
returns-in-Err g c = header_untold c.args.self.now.o c.args.n _ (sym c.in-Err.ensures)
