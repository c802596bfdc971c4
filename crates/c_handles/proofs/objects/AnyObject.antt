-- An object that is open over no bytes: what the handle of nothing is said to hold, and which no
-- clause speaks of.
use Rattle.std.specs.Global.{Global}
use Rattle.std.proofs.Common.{ℕ, List, true, false, [], length, refl, sym, ap, lit<}
use Rattle.std.proofs.lemmas.List.Elements.{All-nil}
use denote.RawPtr.{null_ptr}
use Rattle.elf_types.specs.declared.records.Class.TheVariants.{C64}
use Rattle.elf_types.specs.declared.records.Order.TheVariants.{Least}
use Rattle.elf_object.specs.Open.{created}
use Rattle.c_handles.specs.declared.lent.image.LentImage.{LentImage}
use Rattle.c_handles.specs.Lent.Writes.{IsSoundWrite}
use Rattle.c_handles.proofs.lent.WriteLaws.{with_no_writes}
use Rattle.elf_descriptor.specs.State.{State}
use Rattle.c_handles.specs.declared.objects.opened.OpenObject.{OpenObject}

abbrev pub no_image : Global → LentImage
no_image alloc = record {
  loan = record { at = null_ptr; len = 0; part = 0; bytes = []; small = (refl, lit< tt) };
  alloc = alloc;
  writes = [];
  size = 0;
  taken = 0;
  lost = 0;
  write_faults = 0;
  sound = All-nil IsSoundWrite;
  sized = ap (λ (bytes : List ℕ). length bytes) (sym (with_no_writes []));
}

abbrev no_state : Global → State LentImage
no_state alloc = record {
  o = created C64 Least;
  told = true;
  loaded = [];
  held = [];
  room = [];
  ready = false;
  source = no_image alloc;
}

abbrev pub any_object : Global → OpenObject
any_object alloc = record { elf = no_state alloc; told = refl }
