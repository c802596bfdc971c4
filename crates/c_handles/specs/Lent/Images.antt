-- What an image of lent bytes tells.
use Rattle.std.specs.Prelude.{ℕ, ◌+◌, List}
use Rattle.c_handles.specs.declared.lent.image.LentImage.{LentImage}
use Rattle.c_handles.specs.Lent.Writes.{with_writes, bytes_put}

-- the lent bytes with the writes that are to be done on them
abbrev pub bytes_now : LentImage → List ℕ
bytes_now image = with_writes image.writes image.loan.bytes

-- how many bytes were handed to it: those of its writes, and of writes that failed
abbrev pub write_bytes_given : LentImage → ℕ
write_bytes_given image = image.lost + bytes_put image.writes
