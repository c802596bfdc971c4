-- What a handle owns: what a box of the layout owns, or nothing.
use Rattle.std.specs.Prelude.{Bool, true, false}
use Rattle.std.specs.Box.Ownership.{box_owns}
use Rattle.std.specs.Global.{Global}
use Rattle.std.specs.contracts.impls.GlobalAllocator.TheImpl.{ghosts}
use base.Fml.{Fml, ftrue}
use base.Stored.{Coded}
use denote.RawPtr.{Ptr}
use Rattle.c_handles.specs.contracts.layout.planned.PlannedLayout.{the_row}

abbrev pub layout_own : Global → Ptr → Bool → the_row.Denot → Fml
layout_own alloc place false layout = ftrue
layout_own alloc place true layout =
    box_owns (ghosts.dealloc_token alloc) the_row place layout

-- by it a proof tells the layouts of two handles apart
abbrev pub layout_coded : Coded the_row.Denot
layout_coded = the_row.coded
