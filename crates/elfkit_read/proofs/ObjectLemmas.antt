-- What a command that speaks of the objects of files asks for.
use Rattle.std.proofs.Common.{◌≡◌, ℕ, Bool, List, Some, Result, OnOk, map, subst}
use Rattle.elf_outside.specs.Names.{Map}
use Rattle.tool_output.specs.declared.stops.Stop.{Stop}
use Rattle.tool_output.specs.Files.{asks_on, all_bounds, IsWithin}
use Rattle.tool_objects.specs.Looks.{SectionLooks}
use Rattle.tool_objects.specs.Images.{image_asks}
use Rattle.tool_objects.specs.Archives.{archive_asks}
use Rattle.tool_objects.specs.Files.{file_asks}
use Rattle.elfkit_read.specs.Objects.{object_file_asks}

-- of members as of files: the tool of members looks at sections as that of files does
pub asked_alike : (r : Result Bool Stop) (looks of_members : SectionLooks) (named : Map)
    (names : List (List ℕ)) (a b : ℕ) → of_members ≡ looks
    → OnOk r (IsWithin (all_bounds (map (asks_on (λ bytes.
    Some (file_asks (image_asks looks) (archive_asks of_members) bytes)) named) names)) a b)
    → OnOk r (IsWithin (all_bounds (map (asks_on (λ bytes.
    Some (object_file_asks looks bytes)) named) names)) a b)
unfolding object_file_asks
asked_alike r looks of_members named names a b same asked =
    subst (λ (m : SectionLooks). OnOk r (IsWithin (all_bounds (map (asks_on (λ bytes.
    Some (file_asks (image_asks looks) (archive_asks m) bytes)) named) names)) a b)) same asked
