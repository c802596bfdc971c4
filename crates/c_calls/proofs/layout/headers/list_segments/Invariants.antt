use Rattle.std.proofs.Common.{◌≡◌, take}
use Rattle.std.specs.Prelude.{map}
use Rattle.c_calls.specs.Editing.From.{phdr_from_record}
use Rattle.c_calls.proofs.layout.headers.list_segments.Given as goal

abbrev pub invariant-loop-p : goal.invariant-loop-p
invariant-loop-p l = l.list ≡ map phdr_from_record (take l.p-index l.phdrs)
