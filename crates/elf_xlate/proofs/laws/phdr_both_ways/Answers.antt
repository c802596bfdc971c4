-- By the table of the header.
use Rattle.elf_xlate.proofs.Digits.{are_bytes}
use Rattle.elf_xlate.proofs.EachHeader.{phdr_read, phdr_written}
use Rattle.elf_xlate.proofs.laws.phdr_both_ways.Goals as goal

pub returns-clause-written : goal.returns-clause-written
returns-clause-written c = phdr_read

pub returns-clause-read : goal.returns-clause-read
returns-clause-read c = λ class order bytes bs len. phdr_written class order bytes (are_bytes bytes bs) len
