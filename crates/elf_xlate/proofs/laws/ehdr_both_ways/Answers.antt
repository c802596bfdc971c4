-- By the table of the header.
use Rattle.std.proofs.Common.{sym}
use Rattle.elf_xlate.proofs.Digits.{are_bytes}
use Rattle.elf_xlate.proofs.EachHeader.{ehdr_holds, ehdr_held}
use Rattle.elf_xlate.proofs.laws.ehdr_both_ways.Goals as goal

pub returns-clause-written : goal.returns-clause-written
returns-clause-written c = ehdr_holds

pub returns-clause-read : goal.returns-clause-read
returns-clause-read c = λ h pad bytes bs len holds. sym (ehdr_held h pad bytes (are_bytes bytes bs) len holds)
