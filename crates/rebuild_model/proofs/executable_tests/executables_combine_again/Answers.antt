use Rattle.std.proofs.Common.{true, refl}
use Rattle.rebuild_model.specs.Executable.{executable, combined_executable}
use Rattle.rebuild_model.proofs.Computing.{all_words}
use Rattle.rebuild_model.proofs.SameLaws.{same_sections}
use Rattle.rebuild_model.proofs.executable_tests.executables_combine_again.Goals as goal

pub returns-clause-same : goal.returns-clause-same
unfolding all_words
returns-clause-same c = record {
  header = record {
    class = refl;
    order = refl;
    osabi = refl;
    abiversion = refl;
    etype = refl;
    machine = refl;
    entry = refl;
    flags = refl;
    shstrndx = refl;
  };
  phoff = λ some. refl;
  phdrs = refl;
  count = refl;
  first = refl;
  sections = λ s from below. same_sections true executable.sections combined_executable.sections refl s;
}

pub returns-clause-items : goal.returns-clause-items
unfolding all_words
returns-clause-items c = refl
