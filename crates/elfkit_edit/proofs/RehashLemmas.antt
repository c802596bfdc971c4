-- The command rehash, by the image of the file that it names.
use Rattle.std.proofs.Common.{◌≡◌, ◌≢◌, ℕ, List, codes, None, Result, Ok, Err, refl}
use Rattle.elf_types.specs.declared.errors.ElfError.{ElfError}
use Rattle.elf_types.specs.Answers.{◌>>=◌}
use Rattle.elf_outside.specs.Names.{Map}
use Rattle.elf_object.specs.Object.{Object}
use Rattle.rebuild_model.specs.Rehashed.{rehashed}
use Rattle.rebuild_model.specs.Files.{file_of}
use Rattle.tool_output.specs.Outcomes.{write_of}
use Rattle.tool_output.specs.Made.{Complaint, complaint, of_file, written_outcome}
use Rattle.elfkit_outcomes.specs.Strip.{or_complaint}
use Rattle.elfkit_outcomes.specs.Copy.{rehash_text, rehash_done, rehash_outcome}
use Rattle.tool_files.specs.ElfImages.Writes.{written_done, image_done, named_done}
use Rattle.tool_files.proofs.elf_images.NamedLemmas.{unwritten, unwritten_image}
use Rattle.rehash_tool.specs.Writes.{rehashed_done}

module _ (out file : List ℕ) (differ : out ≢ file) where
  by_object : (q : Result Object Complaint)
      → write_of (written_outcome (codes "rehash") (q >>= λ o. written_done file out o)).writes
      file ≡ None
  unfolding written_outcome write_of
  by_object (Ok o) = unwritten (codes "rehash") out file differ (of_file file (file_of o))
  by_object (Err c) = refl

  -- the file that is made has another name
  pub rehash_unwritten : (r : Result Object ElfError)
      → write_of (written_outcome (codes "rehash") (image_done
      (λ name o. rehashed_done name out (rehashed o)) file r)).writes file ≡ None
  rehash_unwritten r =
      unwritten_image (codes "rehash") out file differ
      (λ name o. rehashed_done name out (rehashed o))
      (λ o. by_object (or_complaint (λ fault. complaint file (rehash_text fault)) (rehashed o))) r

pub rehash_is : (named : Map) (out file : List ℕ)
    → rehash_outcome named out file
    ≡ written_outcome (codes "rehash")
    (named_done (λ name o. rehashed_done name out (rehashed o)) named file)
unfolding rehash_outcome rehash_done
rehash_is named out file = refl
