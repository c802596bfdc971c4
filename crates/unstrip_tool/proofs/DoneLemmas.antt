-- What unstrip is to do, and which file that writes.
use Rattle.std.proofs.Common.{◌≡◌, ◌≢◌, ℕ, List, codes, Option, None, Result, Ok, Err, IfSome, refl, ap}
use Rattle.elf_types.specs.declared.errors.ElfError.{ElfError}
use Rattle.elf_types.specs.declared.errors.ElfError.TheVariants as error
use Rattle.elf_types.specs.Answers.{stated_refusal, ◌>>=◌}
use Rattle.elf_types.specs.Text.{error_text}
use Rattle.elf_outside.specs.Names.{Map}
use Rattle.elf_object.specs.Object.{Object}
use Rattle.rebuild_model.specs.Arranged.{Rebuilt}
use Rattle.rebuild_model.specs.Files.{file_of}
use Rattle.rebuild_model.specs.Split.{unstripped, or_elf, UnstripFault}
use Rattle.rebuild_model.specs.Split.{UnstripFault as stated}
use Rattle.rebuild_files.specs.elfkit_outcomes.Files.{bytes_named, object_named}
use Rattle.rebuild_files.specs.elfkit_outcomes.Strip.{unstrip_complaint, or_complaint, unstrip_done, unstrip_outcome}
use Rattle.tool_output.specs.Outcomes.{write_of}
use Rattle.tool_output.specs.Made.{Done, Complaint, made_file_alone, complaint, of_file, written_outcome}
use Rattle.rebuild_files.proofs.tool_files.elf_images.NamedLemmas.{unwritten}
use Rattle.rebuild_join.specs.Joining.{file_joined}
use Rattle.rebuild_join.specs.Joined.Answers.{UnstripAnswers}
use Rattle.unstrip_tool.specs.declared.names.HalfNames.{HalfNames}
use Rattle.unstrip_tool.specs.Joins.{joined_done, objects_done, held_object, debug_done, halves_joined}

-- ---- By the bytes of the file

-- the file of what two halves are joined to, or why there is none
abbrev pub bytes_done : List ℕ → HalfNames → Result (List ℕ) UnstripFault → Result Done Complaint
bytes_done out names r =
    or_complaint (unstrip_complaint names.stripped.now names.debug.now) r
    >>= λ bytes. Ok (made_file_alone out bytes)

module _ (out : List ℕ) (names : HalfNames) where
  -- what the update refuses is refused of the stripped half
  update_is : (q : Result (List ℕ) ElfError)
      → (of_file names.stripped.now q >>= λ bytes. Ok (made_file_alone out bytes))
      ≡ bytes_done out names (or_elf q)
  unfolding unstrip_complaint
  update_is (Ok bytes) = refl
  update_is (Err e) = refl

  pub joined_is : (r : Result Rebuilt UnstripFault)
      → joined_done out names r ≡ bytes_done out names (file_joined r)
  joined_is (Ok m) = update_is (file_of m.object)
  joined_is (Err fault) = refl

-- ---- A fault

module _ (out : List ℕ) (names : HalfNames) (came : Result (List ℕ) UnstripFault) where
  -- on the stripped half, or on what is made
  pub elf_stated : (e : ElfError) → UnstripAnswers {A = List ℕ} (Err (stated.Elf e)) came
      → IfSome (stated_refusal e)
      (λ d. bytes_done out names came ≡ Err (complaint names.stripped.now (error_text d)))
  unfolding unstrip_complaint
  elf_stated error.Memory h = tt
  elf_stated error.Read h = tt
  elf_stated error.Write h = absurd h
  elf_stated e h = ap (bytes_done out names) h

  -- on the debug half
  pub debug_stated : (e : ElfError) → UnstripAnswers {A = List ℕ} (Err (stated.Debug e)) came
      → IfSome (stated_refusal e)
      (λ d. bytes_done out names came ≡ Err (complaint names.debug.now (error_text d)))
  unfolding unstrip_complaint
  debug_stated error.Memory h = tt
  debug_stated error.Read h = tt
  debug_stated error.Write h = absurd h
  debug_stated e h = ap (bytes_done out names) h

  pub mismatch_stated : UnstripAnswers {A = List ℕ} (Err stated.Mismatch) came
      → bytes_done out names came
      ≡ Err (complaint names.stripped.now (codes "files do not match"))
  unfolding unstrip_complaint
  mismatch_stated h = ap (bytes_done out names) h

-- ---- The file that is written

module _ (file : List ℕ) where
  abbrev pub IsUnwritten : Result Done Complaint → Type 0
  IsUnwritten q = write_of (written_outcome (codes "unstrip") q).writes file ≡ None

  -- where there is none
  none_written : (c : Complaint) → IsUnwritten (Err c)
  unfolding written_outcome write_of
  none_written c = refl

  -- whatever comes before
  pub bound_unwritten : (q : Result Object Complaint) (next : Object → Result Done Complaint)
      → ((o : Object) → IsUnwritten (next o)) → IsUnwritten (q >>= next)
  bound_unwritten (Ok o) next each = each o
  bound_unwritten (Err c) next each = none_written c

module _ (out : List ℕ) (names : HalfNames) (file : List ℕ) (differ : out ≢ file) where
  joined_unwritten : (r : Result Rebuilt UnstripFault)
      → IsUnwritten file (joined_done out names r)
  joined_unwritten (Ok x) =
      unwritten (codes "unstrip") out file differ
      (of_file names.stripped.now (file_of x.object))
  joined_unwritten (Err fault) =
      none_written file (unstrip_complaint names.stripped.now names.debug.now fault)

  pub objects_unwritten : (stripped debug : Object)
      → IsUnwritten file (objects_done out names stripped debug)
  objects_unwritten stripped debug = joined_unwritten (unstripped stripped debug)

  pub debug_unwritten : (held : Option (List ℕ)) (stripped : Object)
      → IsUnwritten file (debug_done out names held stripped)
  debug_unwritten held stripped =
      bound_unwritten file (held_object names.debug.now held)
      (λ debug. objects_done out names stripped debug)
      (λ debug. objects_unwritten stripped debug)

-- ---- The outcome

pub unstrip_is : (named : Map) (out : List ℕ) (names : HalfNames)
    → unstrip_outcome named out names.stripped.now names.debug.now
    ≡ written_outcome (codes "unstrip")
    (halves_joined out names (named names.stripped.now) (named names.debug.now))
unfolding unstrip_outcome unstrip_done object_named bytes_named
unstrip_is named out names = refl
