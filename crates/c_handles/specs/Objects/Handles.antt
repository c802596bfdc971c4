-- What a handle owns: what a box of the object owns, or nothing.
use Rattle.std.specs.Prelude.{Bool, true, false}
use Rattle.std.specs.Box.Ownership.{box_owns}
use Rattle.std.specs.Global.{Global}
use Rattle.std.specs.contracts.impls.GlobalAllocator.TheImpl.{ghosts}
use base.Fml.{Fml, ftrue}
use base.Stored.{Coded}
use denote.RawPtr.{Ptr}
use Rattle.c_handles.specs.contracts.objects.opened.OpenObject.{the_row}

abbrev pub handle_owns : Global → Ptr → Bool → the_row.Denot → Fml
handle_owns alloc place false object = ftrue
handle_owns alloc place true object = box_owns (ghosts.dealloc_token alloc) the_row place object

-- by it a proof tells two objects apart
abbrev pub object_coded : Coded the_row.Denot
object_coded = the_row.coded
