-- The changes that the words of copy ask for.
use Rattle.std.specs.Prelude.{ℕ, ◌+◌, List, Result, Ok}
use Rattle.elf_types.specs.Answers.{◌>>=◌}
use Rattle.elf_outside.specs.Names.{Map}
use Rattle.rebuild_changes.specs.declared.options.CopyChanges.{CopyChanges}
use Rattle.tool_output.specs.Made.{Complaint}
use Rattle.rebuild_changes.specs.declared.changes.NameBits.{NameBits}
use Rattle.rebuild_model.specs.Copied.{Changes}
use Rattle.rebuild_files.specs.elfkit_outcomes.Files.{bytes_of_each}
use Rattle.rebuild_files.specs.elfkit_outcomes.Copy.{changes_with}
use Rattle.copy_tool.specs.Files.{lengths_named}

abbrev pub named_flags : List ℕ → ℕ → NameBits
named_flags name bits = record { name = name; bits = bits }

-- with the bytes of the files of -u, those of the files of -a
abbrev pub added_changes : CopyChanges → List (List ℕ × List ℕ) → Map → Result Changes Complaint
added_changes words update named =
    bytes_of_each named words.add >>= λ add. Ok (changes_with words update add)

-- the files of -u first
abbrev pub word_changes : CopyChanges → Map → Result Changes Complaint
word_changes words named =
    bytes_of_each named words.update >>= λ update. added_changes words update named

-- how many bytes they hold
abbrev pub words_due : CopyChanges → Map → ℕ
words_due words named = lengths_named named words.update + lengths_named named words.add
