-- An archive that is open over no bytes: what the handle of nothing is said to hold, and which no
-- clause speaks of.
use Rattle.std.specs.Global.{Global}
use Rattle.std.proofs.Common.{[]}
use Rattle.ar_members.specs.Archives.{first_walk}
use Rattle.c_handles.proofs.objects.AnyObject.{no_image}
use Rattle.c_handles.specs.declared.archives.opened.OpenArchive.{OpenArchive}

abbrev pub any_archive : Global → OpenArchive
any_archive alloc = record {
  ar = record { source = no_image alloc; walk = first_walk };
  name = [];
  symbols = [];
}
