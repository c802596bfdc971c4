-- The front is computed, and then each fact of it.
use Rattle.std.proofs.Common.{refl, get_or, lit<, lit≤}
use Rattle.hash_model.specs.elf_object.Object.{no_phdr}
use Rattle.rebuild_model.specs.Executable.{executable_phdrs}
use Rattle.law_rebuild.proofs.strip.Computing.{all_words}
use Rattle.law_rebuild.proofs.strip.tests.executables_are_usual.Goals as goal

pub returns-clause-entry : goal.returns-clause-entry
unfolding all_words
returns-clause-entry c = record {
  usual = record { pad = refl; ehsize = refl; shentsize = refl; numbers = refl };
  loaded = record {
    segment = 2;
    phdr = get_or executable_phdrs 2 no_phdr;
    there = refl;
    load = refl;
    from = lit≤ tt;
    below = lit< tt;
  };
  fixed = refl;
}

pub returns-clause-data : goal.returns-clause-data
unfolding all_words
returns-clause-data c = record {
  usual = record { pad = refl; ehsize = refl; shentsize = refl; numbers = refl };
  loaded = record {
    segment = 5;
    phdr = get_or executable_phdrs 5 no_phdr;
    there = refl;
    load = refl;
    from = lit≤ tt;
    below = lit< tt;
  };
  fixed = refl;
}
