-- What the handle of a layout holds once the layout that was taken from it is put back.
use Rattle.std.proofs.Common.{◌≡◌, true, ◌∙◌}
use Rattle.c_handles.specs.declared.layout.handle.LayoutHandle.{LayoutHandle}
use Rattle.c_handles.specs.declared.layout.planned.PlannedLayout.{PlannedLayout}
use Rattle.elfkit_c.specs.Layout.{KeepsLayout}

pub keeps_layout : (old new : LayoutHandle) (layout : PlannedLayout) → layout ≡ old.held
    → (new.full ≡ true) × (new.held ≡ layout) → KeepsLayout old new
keeps_layout old new layout taken put = (put.0, put.1 ∙ taken)
