use Rattle.elf_descriptor.specs.Reads.{wanted}
use Rattle.gelf_view.specs.declared.versions.TheConstants.{VERDAUX_SIZE}
use Rattle.gelf_view.specs.Versions.{verdaux_of, verdaux_at}
use Rattle.gelf_view.specs.Calls.{in_bytes, record_found, verdaux_answer}
use Rattle.gelf_view.specs.Chains.{verdauxs}
use Rattle.gelf_view.proofs.ChainLemmas.{aux_led}
use Rattle.gelf_view.proofs.aux_calls.next_verdaux.Goals as goal

pub returns-clause-chain : goal.returns-clause-chain
unfolding verdaux_answer verdaux_at verdauxs
returns-clause-chain g c = λ told.
    aux_led (verdaux_answer c.args.elf.now.o c.args.d.section c.args.d.piece) (λ x. x.next) c.args.elf.now.told
    (wanted (in_bytes c.args.d.section c.args.d.piece (record_found VERDAUX_SIZE verdaux_of c.args.place.now.at)) c.args.elf.now) c.read_next_aux.result c.args.place.now c.read_next_aux.new.place
    told c.read_next_aux.ensures.answer c.read_next_aux.ensures.behind
