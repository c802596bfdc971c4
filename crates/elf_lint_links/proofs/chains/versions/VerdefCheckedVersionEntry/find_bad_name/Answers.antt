use Rattle.elf_lint_links.proofs.chains.ReachLaws.{verdauxs_stand}
use Rattle.elf_lint_links.proofs.chains.versions.VerdefCheckedVersionEntry.find_bad_name.Goals as goal

pub bad_names-requires : goal.bad_names-requires
bad_names-requires g c = λ told le.
    verdauxs_stand c.args.elf.now.o c.args.s.0 c.args.reach.now (c.requires.reach told)
    c.first_aux.result c.args.at c.args.self.now.aux c.args.self.now.cnt c.first_aux.ensures le
