use Rattle.elf_descriptor.specs.Reads.{wanted}
use Rattle.gelf_view.specs.declared.versions.TheConstants.{VERNAUX_SIZE}
use Rattle.gelf_view.specs.Versions.{vernaux_of, vernaux_at}
use Rattle.gelf_view.specs.Calls.{in_bytes, record_found, vernaux_answer}
use Rattle.gelf_view.specs.Chains.{vernauxs}
use Rattle.gelf_view.proofs.ChainLemmas.{aux_led}
use Rattle.gelf_view.proofs.aux_calls.next_vernaux.Goals as goal

pub returns-clause-chain : goal.returns-clause-chain
unfolding vernaux_answer vernaux_at vernauxs
returns-clause-chain g c = λ told.
    aux_led (vernaux_answer c.args.elf.now.o c.args.d.section c.args.d.piece) (λ x. x.next) c.args.elf.now.told
    (wanted (in_bytes c.args.d.section c.args.d.piece (record_found VERNAUX_SIZE vernaux_of c.args.place.now.at)) c.args.elf.now) c.read_next_aux.result c.args.place.now c.read_next_aux.new.place
    told c.read_next_aux.ensures.answer c.read_next_aux.ensures.behind
