use Rattle.symbol_lookup.proofs.CallLaws.{bytes_found, bytes_lost}
use Rattle.symbol_lookup.proofs.gnu.gnu_start.Goals as goal

pub returns-in-Ok-clause-searches : goal.returns-in-Ok-clause-searches
returns-in-Ok-clause-searches g c = λ n has. bytes_found g.S.Source n c.args.elf.now _ c.args.h.0 has c.bytes.result c.in-Ok.bytes c.start_in.result c.in-Ok.is c.start_in.ensures.bad c.bytes.follows.holds-at-none

pub returns-in-Err-clause-searches : goal.returns-in-Err-clause-searches
returns-in-Err-clause-searches g c = λ n has.
    bytes_lost g.S.Source n c.args.elf.now _ c.args.h.0 has c.args.elf.now.told c.in-Err.e c.bytes.result c.in-Err.is c.requires.passed c.in-Err.ensures.answer c.bytes.follows.holds-at-none
