-- The command strip with -f, by the image of the file that it names.
use Rattle.std.proofs.Common.{◌≡◌, ◌≢◌, ◌∷◌, ℕ, Bool, true, false, List, [], codes, Option, Some, None, Result, Ok, Err, if◌then◌else◌, refl, sym, ap}
use Rattle.std.specs.Str.{bytes_eq}
use Rattle.std.proofs.lemmas.Slice.Eq.{bytes_eq-Decides}
use Rattle.elf_types.specs.declared.errors.ElfError.{ElfError}
use Rattle.elf_types.specs.Answers.{answered, ◌>>=◌}
use Rattle.elf_outside.specs.Names.{Map}
use Rattle.elf_object.specs.Object.{Object}
use Rattle.rebuild_model.specs.Removed.{removed_sections}
use Rattle.rebuild_model.specs.Rebuilt.{rebuilt}
use Rattle.rebuild_model.specs.Split.{debug_of}
use Rattle.rebuild_model.specs.Files.{file_of}
use Rattle.selftest_tool.specs.elfkit_outcomes.declared.options.StripOptions.{StripOptions}
use Rattle.tool_output.specs.Outcomes.{write_of}
use Rattle.tool_output.specs.Made.{Done, Complaint, made_file, of_file, written_outcome}
use Rattle.selftest_tool.specs.elfkit_outcomes.Files.{object_named}
use Rattle.selftest_tool.specs.elfkit_outcomes.Strip.{allocated_complaint, strip_alone, strip_split, strip_done, strip_outcome}
use Rattle.selftest_tool.proofs.tool_files.ChangeSteps.{other_write}
use Rattle.strip_tool.specs.tool_files.ElfImages.Writes.{image_done, named_done}
use Rattle.strip_tool.proofs.tool_files.elf_images.NamedLemmas.{unwritten_image}

module _ (out debug file : List ℕ) (first : out ≢ file) (second : debug ≢ file) where
  abbrev IsUnwritten : Result Done Complaint → Type 0
  IsUnwritten q = write_of (written_outcome (codes "strip") q).writes file ≡ None

  none_written : (c : Complaint) → IsUnwritten (Err c)
  unfolding written_outcome write_of
  none_written c = refl

  -- both files
  abbrev both : List ℕ → List ℕ → Done
  both bytes others = record {
    shown = [];
    writes = made_file out bytes ∷ made_file debug others ∷ [];
  }

  -- neither has the name
  both_written : (bytes others : List ℕ) → IsUnwritten (Ok (both bytes others))
  unfolding written_outcome write_of
  both_written bytes others = by (bytes_eq out file) refl
    where
      by : (b : Bool) → bytes_eq out file ≡ b
          → (if b then Some (made_file out bytes)
          else write_of (made_file debug others ∷ []) file) ≡ None
      by true is = absurd (first ((bytes_eq-Decides out file).0 is))
      by false is = other_write (made_file debug others) file (λ same. second (sym same))

  bound : {A : Type 0} (q : Result A Complaint) (next : A → Result Done Complaint)
      → ((x : A) → IsUnwritten (next x)) → IsUnwritten (q >>= next)
  bound (Ok x) next each = each x
  bound (Err c) next each = none_written c

  -- what follows, once both halves are made, and before
  abbrev half_done : Object → List ℕ → Result Done Complaint
  half_done half bytes = of_file file (file_of half) >>= λ others. Ok (both bytes others)

  abbrev halves_done : Object → Object → Result Done Complaint
  halves_done stripped half = of_file file (file_of stripped) >>= λ bytes. half_done half bytes

  abbrev image_split : List ℕ → Object → Result Done Complaint
  image_split removed o =
      of_file file (rebuilt o removed) >>= λ r.
      of_file file (debug_of o) >>= λ half. halves_done r.object half

  halves_written : (stripped half : Object) → IsUnwritten (halves_done stripped half)
  halves_written stripped half =
      bound (of_file file (file_of stripped)) (λ bytes. half_done half bytes) (λ bytes.
      bound (of_file file (file_of half)) (λ others. Ok (both bytes others)) (λ others.
      both_written bytes others))

  split_written : (removed : List ℕ) (o : Object) → IsUnwritten (image_split removed o)
  split_written removed o =
      bound (of_file file (rebuilt o removed))
      (λ r. of_file file (debug_of o) >>= λ half. halves_done r.object half) (λ r.
      bound (of_file file (debug_of o)) (λ half. halves_done r.object half) (λ half.
      halves_written r.object half))

  split_unwritten : (o : Object) (removed : List ℕ)
      → IsUnwritten (strip_split o removed out debug file)
  unfolding strip_split
  split_unwritten o removed =
      bound (answered (allocated_complaint o removed file) o) (λ p. image_split removed p)
      (λ p. split_written removed p)

  -- the files that are made have other names
  pub halves_unwritten : (debug_only : Bool) (names : List (List ℕ)) (r : Result Object ElfError)
      → write_of (written_outcome (codes "strip") (image_done
      (λ name o. strip_split o (removed_sections debug_only names o) out debug name) file
      r)).writes file ≡ None
  halves_unwritten debug_only names r =
      unwritten_image (codes "strip") out file first
      (λ name o. strip_split o (removed_sections debug_only names o) out debug name)
      (λ o. split_unwritten o (removed_sections debug_only names o)) r

pub split_is : (options : StripOptions) (named : Map) (file debug : List ℕ)
    → options.debug ≡ Some debug
    → strip_outcome options named file
    ≡ written_outcome (codes "strip") (named_done (λ name o. strip_split o
    (removed_sections options.debug_only options.names o) options.out debug name) named file)
unfolding strip_outcome strip_done
split_is options named file debug is =
    ap (λ (x : Option (List ℕ)). written_outcome (codes "strip") (object_named named file
    >>= λ o. elim x [
      | None ↦ strip_alone o (removed_sections options.debug_only options.names o) options.out file
      | Some d ↦ strip_split o (removed_sections options.debug_only options.names o) options.out d
          file
    ])) is
