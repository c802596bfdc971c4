-- The laws of what is written, opened again, where it is proved that it opens.
use Rattle.elf_object.specs.Object.{Object}
use Rattle.law_object.specs.Laws.{ReopenLaw}
use Rattle.rebuild_model.specs.KeepingLaws.{SplitLaw}
use Rattle.rebuild_model.specs.Laws.{IsRehashed, RehashLaw}
use Rattle.rebuild_model.specs.Removed.{removed_sections}
use Rattle.law_rebuild.proofs.strip.KeptLaws.{first_stays}
use Rattle.law_split.specs.Halves.{IsDebugHalf, DebugHalfKeeps, IsStrippedHalf, StrippedHalfKeeps, HalvesMatch, HalvesCombine}
use Rattle.law_split.proofs.DebugHalf.{debug_half_written}
use Rattle.law_split.proofs.StrippedHalf.{stripped_written}
use Rattle.law_reopen.specs.Kept.{RehashedImageKeeps, DebugImageKeeps, StrippedImageKeeps, SplitImagesOpen, SplitImagesMatch, SplitImagesCombine}
use Rattle.law_reopen.specs.Written.{reopened, RehashOpens, DebugOpens}
use Rattle.law_reopen.proofs.WrittenLaws.{written_opens}

pub rehashed_image_keeps : RehashOpens → RehashLaw → RehashedImageKeeps
rehashed_image_keeps reopens law image before edited out s bytes opens is_edited is_out table
    first =
    let again = reopens image before edited out bytes opens is_edited is_out in
    let is : IsRehashed before (reopened edited) s = record {
      image = image;
      bytes = bytes;
      is_before = opens;
      edited = edited;
      is_edited = is_edited;
      out = out;
      is_out = is_out;
      is_after = again;
      table = table;
    } in
    (again, law before (reopened edited) s is first)

-- ---- The two files of strip -f

pub debug_image_keeps : DebugOpens → DebugHalfKeeps → DebugImageKeeps
debug_image_keeps reopens law image whole half out bytes opens is_half is_out =
    let again = reopens image whole half out bytes opens is_half is_out in
    let is : IsDebugHalf whole (reopened half) = record {
      image = image;
      bytes = bytes;
      is_whole = opens;
      half = half;
      is_half = is_half;
      out = out;
      is_out = is_out;
      is_debug = again;
    } in
    (again, law whole (reopened half) is)

pub stripped_image_keeps : ((o : Object) → ReopenLaw o) → StrippedHalfKeeps → StrippedImageKeeps
stripped_image_keeps reopens law removed image whole made out bytes opens stays is_made is_out =
    let again = written_opens reopens made.object out
    (stripped_written removed whole image made out bytes opens stays is_made is_out) in
    let is : IsStrippedHalf removed whole (reopened made.object) = record {
      image = image;
      bytes = bytes;
      is_whole = opens;
      first_stays = stays;
      made = made;
      is_made = is_made;
      out = out;
      is_out = is_out;
      is_stripped = again;
    } in
    (again, law removed whole (reopened made.object) is)

pub split_images_open : ((o : Object) → ReopenLaw o) → SplitImagesOpen
split_images_open reopens removed image whole made half is stays = record {
  image = image;
  bytes = is.bytes;
  is_whole = is.is_whole;
  first = is.first;
  allocated_stay = is.allocated_stay;
  made = made;
  is_made = is.is_made;
  half = half;
  is_half = is.is_half;
  out = is.out;
  is_out = is.is_out;
  debug_out = is.debug_out;
  is_debug_out = is.is_debug_out;
  is_stripped = written_opens reopens made.object is.out
      (stripped_written removed whole image made is.out is.bytes is.is_whole stays is.is_made
      is.is_out);
  is_debug = written_opens reopens half is.debug_out
      (debug_half_written whole image half is.debug_out is.bytes is.is_whole is.is_half
      is.is_debug_out);
}

pub split_images_match : SplitImagesOpen → HalvesMatch → HalvesCombine → SplitImagesMatch
split_images_match opens law combine removed image whole made half is stays =
    let split = opens removed image whole made half is stays in
    record {
      matched = law removed whole (reopened made.object) (reopened half) split stays;
      combined = combine removed whole (reopened made.object) (reopened half) split stays;
    }

pub split_images_combine : SplitImagesOpen → SplitLaw → SplitImagesCombine
split_images_combine opens law debug_only names image whole made half is =
    law debug_only names whole (reopened made.object) (reopened half)
    (opens (removed_sections debug_only names whole) image whole made half is
    (first_stays.strip debug_only names whole))
