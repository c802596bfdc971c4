-- What copy writes.
use Rattle.std.proofs.Common.{◌≡◌, ◌≢◌, ℕ, Bool, List, codes, None, Result, Ok, Err, refl, ap, ◌∙◌}
use Rattle.elf_types.specs.declared.errors.ElfError.{ElfError}
use Rattle.elf_types.specs.Answers.{◌>>=◌}
use Rattle.elf_outside.specs.declared.sources.Source.{Ghosts as SourceGhosts}
use Rattle.elf_outside.specs.declared.sinks.Sink.{Ghosts as SinkGhosts}
use Rattle.elf_outside.specs.declared.file_sets.Files.{Ghosts as FilesGhosts}
use Rattle.elf_object.specs.Object.{Object}
use Rattle.rebuild_files.specs.elf_descriptor.State.{State}
use Rattle.rebuild_model.specs.Arranged.{Rebuilt}
use Rattle.rebuild_model.specs.Copied.{Changes, CopyFault, copied}
use Rattle.rebuild_model.specs.Files.{file_of}
use Rattle.rebuild_files.specs.elfkit_outcomes.Copy.{copy_text}
use Rattle.rebuild_files.specs.elfkit_outcomes.Strip.{or_complaint}
use Rattle.tool_output.specs.declared.stops.Stop.{Stop}
use Rattle.tool_output.specs.declared.outputs.Outputs.{Outputs}
use Rattle.tool_output.specs.Outcomes.{write_of}
use Rattle.tool_output.specs.Made.{Complaint, made_file_alone, complaint, of_file, written_outcome}
use Rattle.rebuild_files.specs.tool_files.ElfImages.Writes.{written_done, image_done, WritesFile}
use Rattle.rebuild_files.proofs.tool_files.elf_images.NamedLemmas.{unwritten, unwritten_image}
use Rattle.rebuild_copy.specs.rebuild_plan.declared.plans.RangedPlan.{RangedPlan}
use Rattle.rebuild_files.specs.Writing.{WritesImage, IsOverSource, plan_text}
use Rattle.rebuild_files.proofs.PlanLemmas.{plan_written}
use Rattle.rebuild_copy.specs.Plans.{file_copied, StreamsCopied}
use Rattle.copy_tool.specs.Writes.{copied_done, file_done}
use Rattle.copy_tool.proofs.FaultLemmas.{done_as_file}

module _ {S F D O E : Type 0} (g : SourceGhosts S) (f : FilesGhosts F D) (o : SinkGhosts O)
    (e : SinkGhosts E) (c : Changes) (file out : List ℕ) where
  abbrev Writes : Object → Result Bool Stop → State S → State S → F → F → Outputs O E
      → Outputs O E → Type 0
  Writes p r old new a b s t =
      WritesFile g f o e (written_outcome (codes "copy") (copied_done c file out p)) r old new a b
      s t

  done_is : (p : Object) (bytes : List ℕ) → file_copied (copied c p) ≡ Ok bytes
      → copied_done c file out p ≡ Ok (made_file_alone out bytes)
  done_is p bytes is =
      done_as_file file out (copied c p)
      ∙ ap (λ (r : Result (List ℕ) CopyFault). file_done file out r) is

  pub copied_written : (old mid : State S) (next : S) (x : RangedPlan) (r : Result Bool Stop)
      (a b : F) (s t : Outputs O E) → IsOverSource g old → StreamsCopied g c (Ok x) old mid
      → WritesImage g f o e out (plan_text g mid.source x) r mid.source next a b s t
      → Writes old.o r old (record old { source = next }) a b s t
  copied_written old mid next x r a b s t over plans writes =
      plan_written g f o e (codes "copy") out old mid next x (copied_done c file out old.o) r a b
      s t over plans.asks.object plans.asks.told plans.asks.source.leaves
      (λ told.
      let known = plans.answer told in (known.0, done_is old.o known.0 known.1, known.2))
      writes plans.asks.source.later

-- ---- The file that is made has another name

module _ (c : Changes) (out file : List ℕ) (differ : out ≢ file) where
  by_made : (q : Result Rebuilt Complaint)
      → write_of (written_outcome (codes "copy")
      (q >>= λ r. written_done file out r.object)).writes file ≡ None
  unfolding written_outcome write_of
  by_made (Ok r) = unwritten (codes "copy") out file differ (of_file file (file_of r.object))
  by_made (Err d) = refl

  pub copy_unwritten : (r : Result Object ElfError)
      → write_of (written_outcome (codes "copy") (image_done
      (λ name p. copied_done c name out p) file r)).writes file ≡ None
  copy_unwritten r =
      unwritten_image (codes "copy") out file differ (λ name p. copied_done c name out p)
      (λ p. by_made (or_complaint (λ fault. complaint file (copy_text fault)) (copied c p))) r
