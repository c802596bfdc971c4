-- An object with another entry (gABI chapter 4, "ELF Header", e_entry), whose parts stay where they
-- stand (elf(3E), ELF_F_LAYOUT).
use Rattle.std.specs.Prelude.{ℕ, true}
use Rattle.elf_update.specs.elf_object.Object.{Object}

abbrev pub with_entry : ℕ → Object → Object
with_entry entry o = record o {
  header = record o.header { entry = entry };
  header_marked = true;
  layout = true;
}
