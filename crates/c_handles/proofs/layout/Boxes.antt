-- A loose box of a layout and a handle own what a box at the same types owns.
use mathlib.Core.List.{[]}
use mir.Syntax.{impl, tnil, dnil}
use denote.Signature.{Slot, plain}
use Rattle.std.proofs.BoxSteps.Form.{Bx}
use Rattle.std.specs.contracts.alloc.Global as heap
use Rattle.std.specs.contracts.impls.GlobalAllocator.TheImpl.{ghosts, dict}
use Rattle.std.proofs.alloc.Global.TheLaws as heap_laws
use Rattle.c_handles.specs.contracts.objects.loose.Loose as loose
use Rattle.c_handles.specs.contracts.layout.planned.PlannedLayout as layout
use Rattle.c_handles.proofs.layout.planned.PlannedLayout.TheLaws as layout_laws
use Rattle.c_handles.specs.contracts.layout.handle.LayoutHandle as handle

abbrev pub E : Bx
E = record {
  row = layout.the_row;
  laws = layout_laws.the_row_laws;
  al = record {
    row = heap.the_row;
    laws = heap_laws.the_row_laws;
    g = ghosts;
    d = dict;
    drops = impl [] tnil dnil;
  };
}

abbrev pub FromLoose : Slot 0
FromLoose = plain (λ _. loose.the_row layout.the_row heap.the_row ghosts)

abbrev pub FromHandle : Slot 0
FromHandle = plain (λ _. handle.the_row)

abbrev pub FromHeap : Slot 0
FromHeap = plain (λ _. heap.the_row)
