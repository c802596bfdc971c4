-- What a handle owns: what a box of the writes owns, or nothing.
use Rattle.std.specs.Prelude.{Bool, true, false}
use Rattle.std.specs.Box.Ownership.{box_owns}
use Rattle.std.specs.Global.{Global}
use Rattle.std.specs.contracts.impls.GlobalAllocator.TheImpl.{ghosts}
use base.Fml.{Fml, ftrue}
use base.Stored.{Coded}
use denote.RawPtr.{Ptr}
use Rattle.c_handles.specs.contracts.writes.planned.PlannedWrites.{the_row}

abbrev pub writes_own : Global → Ptr → Bool → the_row.Denot → Fml
writes_own alloc place false writes = ftrue
writes_own alloc place true writes =
    box_owns (ghosts.dealloc_token alloc) the_row place writes

-- by it a proof tells the writes of two handles apart
abbrev pub writes_coded : Coded the_row.Denot
writes_coded = the_row.coded
