-- Writes that are kept in place of being done, and what they make of bytes.
use Rattle.std.specs.Prelude.{ℕ, ◌+◌, ◌≤◌, List, length, All, sum_by}
use Rattle.std.specs.List.{fold}
use Rattle.elf_types.specs.Lists.{AreBytes}
use Rattle.elf_outside.specs.Writes.{written_over, resized}
use Rattle.c_handles.specs.declared.lent.writes.KeptWrite.{KeptWrite}

-- the bytes after a write: cut to its length, or lengthened to it by zeros, and then its own bytes
-- over them
unfoldable pub with_write : List ℕ → KeptWrite → List ℕ
with_write bytes w = written_over (resized w.size bytes) w.at w.bytes

-- the bytes after all of them, in their order
unfoldable pub with_writes : List KeptWrite → List ℕ → List ℕ
with_writes writes bytes = fold with_write bytes writes

-- how many bytes they put
unfoldable pub bytes_put : List KeptWrite → ℕ
bytes_put writes = sum_by (λ w. length w.bytes) writes

-- a write's bytes lie in what is there then, and are bytes
pub record IsSoundWrite (w : KeptWrite) : Type 0 where
  pub lies : w.at + length w.bytes ≤ w.size
  pub fits : AreBytes w.bytes

abbrev pub AreSound : List KeptWrite → Type 0
AreSound writes = All IsSoundWrite writes
