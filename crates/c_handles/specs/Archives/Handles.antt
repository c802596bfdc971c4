-- What a handle owns: what a box of the archive owns, or nothing.
use Rattle.std.specs.Prelude.{Bool, true, false}
use Rattle.std.specs.Box.Ownership.{box_owns}
use Rattle.std.specs.Global.{Global}
use Rattle.std.specs.contracts.impls.GlobalAllocator.TheImpl.{ghosts}
use base.Fml.{Fml, ftrue}
use base.Stored.{Coded}
use denote.RawPtr.{Ptr}
use Rattle.c_handles.specs.contracts.archives.opened.OpenArchive.{the_row}

abbrev pub archive_owns : Global → Ptr → Bool → the_row.Denot → Fml
archive_owns alloc place false archive = ftrue
archive_owns alloc place true archive =
    box_owns (ghosts.dealloc_token alloc) the_row place archive

-- by it a proof tells two archives apart
abbrev pub archive_coded : Coded the_row.Denot
archive_coded = the_row.coded
