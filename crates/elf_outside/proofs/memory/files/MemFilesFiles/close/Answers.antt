use Rattle.std.proofs.Common.{arith, rules}
use Rattle.std.proofs.lemmas.Map.Text.{text_keys}
use Rattle.elf_outside.proofs.memory.files.MemFilesFiles.close.Goals as goal

pub returns-in-Some : goal.returns-in-Some
returns-in-Some c = record {
  call = record {
    set = record { set = grind (arith, text_keys); others = λ other differs. grind (arith, text_keys) };
    settings = search rules;
    number = search rules;
    read_faults = search rules;
    write_faults = search rules;
    taken = search rules;
    given = search rules;
    live = search rules;
  };
}
