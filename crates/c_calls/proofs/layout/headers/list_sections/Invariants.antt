use Rattle.std.proofs.Common.{◌≡◌, take}
use Rattle.std.specs.Prelude.{map}
use Rattle.c_calls.specs.Editing.From.{shdr_from_record}
use Rattle.c_calls.proofs.layout.headers.list_sections.Given as goal

abbrev pub invariant-loop-h : goal.invariant-loop-h
invariant-loop-h l = l.list ≡ map shdr_from_record (take l.h-index l.shdrs)
