use Rattle.elf_descriptor.specs.Reads.{wanted}
use Rattle.gelf_view.specs.declared.versions.TheConstants.{VERDEF_SIZE}
use Rattle.gelf_view.specs.Versions.{verdef_of, verdef_at}
use Rattle.gelf_view.specs.Calls.{in_bytes, record_found, verdef_answer}
use Rattle.gelf_view.specs.Chains.{behind_verdef, verdefs}
use Rattle.gelf_view.proofs.ChainLemmas.{led}
use Rattle.gelf_view.proofs.ChainCalls.{verdefs_led}
use Rattle.gelf_view.proofs.version_calls.verdef.Goals as goal

pub returns-clause-chain : goal.returns-clause-chain
unfolding verdef_answer verdef_at
returns-clause-chain g c = λ told.
    led c.args.elf.now.told (wanted (in_bytes c.args.d.section c.args.d.piece (record_found VERDEF_SIZE verdef_of c.args.at)) c.args.elf.now) c.read_record.result
    (verdef_answer c.args.elf.now.o c.args.d.section c.args.d.piece c.args.at) (behind_verdef c.args.elf.now.o c.args.d.section c.args.d.piece c.args.at)
    (verdefs c.args.elf.now.o c.args.d.section c.args.d.piece c.args.at) told c.read_record.ensures.answer (verdefs_led c.args.elf.now.o c.args.d.section c.args.d.piece c.args.at)
