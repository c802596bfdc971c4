use Rattle.elf_descriptor.specs.Reads.{wanted}
use Rattle.gelf_view.specs.declared.versions.TheConstants.{VERNEED_SIZE}
use Rattle.gelf_view.specs.Versions.{verneed_of, verneed_at}
use Rattle.gelf_view.specs.Calls.{in_bytes, record_found, verneed_answer}
use Rattle.gelf_view.specs.Chains.{behind_verneed, verneeds}
use Rattle.gelf_view.proofs.ChainLemmas.{led}
use Rattle.gelf_view.proofs.ChainCalls.{verneeds_led}
use Rattle.gelf_view.proofs.version_calls.verneed.Goals as goal

pub returns-clause-chain : goal.returns-clause-chain
unfolding verneed_answer verneed_at
returns-clause-chain g c = λ told.
    led c.args.elf.now.told (wanted (in_bytes c.args.d.section c.args.d.piece (record_found VERNEED_SIZE verneed_of c.args.at)) c.args.elf.now) c.read_record.result
    (verneed_answer c.args.elf.now.o c.args.d.section c.args.d.piece c.args.at) (behind_verneed c.args.elf.now.o c.args.d.section c.args.d.piece c.args.at)
    (verneeds c.args.elf.now.o c.args.d.section c.args.d.piece c.args.at) told c.read_record.ensures.answer (verneeds_led c.args.elf.now.o c.args.d.section c.args.d.piece c.args.at)
