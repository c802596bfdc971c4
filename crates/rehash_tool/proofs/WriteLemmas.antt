-- What rehash writes, by what its steps leave.
use Rattle.std.proofs.Common.{◌≡◌, ℕ, Bool, true, false, List, codes, Option, Some, None, Result, Ok, Err, IfSome, refl, ap, arith}
use Rattle.elf_types.specs.declared.errors.ElfError.{ElfError}
use Rattle.elf_types.specs.Answers.{stated_refusal}
use Rattle.elf_types.specs.Text.{error_text}
use Rattle.elf_outside.specs.declared.sources.Source.{Ghosts as SourceGhosts}
use Rattle.elf_outside.specs.declared.sinks.Sink.{Ghosts as SinkGhosts}
use Rattle.elf_outside.specs.declared.file_sets.Files.{Ghosts as FilesGhosts}
use Rattle.elf_object.specs.Object.{Object}
use Rattle.tool_files.specs.elf_descriptor.State.{State}
use Rattle.rebuild_model.specs.Rehashed.{RehashFault, rehashed}
use Rattle.rebuild_model.specs.Rehashed.RehashFault.{Refused}
use Rattle.tool_output.specs.declared.stops.Stop.{Stop}
use Rattle.tool_output.specs.declared.outputs.Outputs.{Outputs}
use Rattle.tool_output.specs.Steps.{LeavesOutputs}
use Rattle.tool_output.specs.Names.{file_name}
use Rattle.tool_output.specs.Reports.{Reports, refusal_report}
use Rattle.tool_output.specs.Made.{Done, Complaint, complaint, written_outcome}
use Rattle.elfkit_outcomes.specs.tool_objects.Refusals.{ReportsRefusal}
use Rattle.elfkit_outcomes.specs.tool_objects.Steps.{SourceRose}
use Rattle.elfkit_outcomes.specs.Copy.{rehash_text}
use Rattle.tool_files.specs.ElfImages.Writes.{WritesFile}
use Rattle.tool_files.proofs.elf_images.WriteLemmas.{outputs_leave, said_done, refused_writes, written_then}
use Rattle.rehash_tool.specs.Steps.{Rehashes, AreHashSectionsRebuilt}
use Rattle.rehash_tool.specs.Writes.{done_by, rehashed_done}

module _ {S F D O E : Type 0} (g : SourceGhosts S) (f : FilesGhosts F D) (o : SinkGhosts O)
    (e : SinkGhosts E) (file out : List ℕ) where
  abbrev Writes : Result Done Complaint → Result Bool Stop → State S → State S → F → F
      → Outputs O E → Outputs O E → Type 0
  Writes q r old new a b s t =
      WritesFile g f o e (written_outcome (codes "rehash") q) r old new a b s t

  pub absent_said : (state : State S) (r : Result Bool Stop) (a : F) (s t : Outputs O E)
      → Reports o e r s t
      (refusal_report (codes "rehash") (file_name file) (codes "no dynamic hash"))
      → LeavesOutputs o e ⊥ r s t
      → Writes (done_by false file out state.o) r state state a a s t
  unfolding rehash_text
  absent_said state r a s t h left = record {
    does = λ tells told.
        said_done f o e (codes "rehash") file (codes "no dynamic hash") r a s t tells h;
    source = record { same_len = refl; same_bytes = refl; same_rest = refl };
    later = omega arith;
    live = λ small. refl;
    leaves = outputs_leave f o e (codes "rehash") (SourceRose g state state) r a s t left;
  }

  done_is : (done : Bool) (r : Result Object RehashFault) (p : Object) → AreHashSectionsRebuilt (Ok done) r p
      → rehashed_done file out r ≡ done_by done file out p
  done_is true r p is = ap (rehashed_done file out) is
  done_is false r p is = ap (rehashed_done file out) is

  pub rehashed_written : (old mid new : State S) (done : Bool) (r : Result Bool Stop) (a b : F)
      (s t : Outputs O E) → Rehashes g (Ok done) old mid
      → Writes (done_by done file out mid.o) r mid new a b s t
      → Writes (rehashed_done file out (rehashed old.o)) r old new a b s t
  rehashed_written old mid new done r a b s t first second =
      written_then g f o e (codes "rehash") (rehashed_done file out (rehashed old.o))
      (done_by done file out mid.o) old mid new r a b s t first.keeps.told first.keeps.leaves
      first.keeps.later
      (λ told. done_is done (rehashed old.o) mid.o (first.rehashed told)) second

  fault_is : (r : Result Object RehashFault) (c : Option ElfError)
      → IfSome c (λ d. r ≡ Err (Refused d))
      → IfSome c (λ d. rehashed_done file out r ≡ Err (complaint file (error_text d)))
  unfolding rehash_text
  fault_is r None is = tt
  fault_is r (Some d) is = ap (rehashed_done file out) is

  pub rehashed_refused : (old mid : State S) (d : ElfError) (r : Result Bool Stop) (a : F)
      (s t : Outputs O E) → Rehashes g (Err d) old mid
      → ReportsRefusal o e (codes "rehash") (file_name file) d r s t
      → Writes (rehashed_done file out (rehashed old.o)) r old mid a a s t
  rehashed_refused old mid d r a s t first h =
      refused_writes g f o e (codes "rehash") file (rehashed_done file out (rehashed old.o))
      old mid Bool d r a s t
      (λ tells told. fault_is (rehashed old.o) (stated_refusal d) (first.rehashed told))
      first.keeps.leaves first.keeps.later first.keeps.read h
