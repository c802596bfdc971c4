-- An image that is begun over an open file, and a step with its object.
use Rattle.std.proofs.Common.{◌≡◌, ◌<◌, ℕ, Bool, List, codes, Option, Some, None, Result, Ok, Err, IfSome, IsSome, IsTrue, refl, ap}
use Rattle.std.specs.Prelude.{is_some}
use Rattle.elf_types.specs.declared.errors.ElfError.{ElfError}
use Rattle.elf_types.specs.Answers.{Follows, stated_refusal, ◌>>=◌}
use Rattle.elf_types.specs.Text.{error_text}
use Rattle.elf_outside.specs.Asks.{Asks, Leaves}
use Rattle.elf_outside.specs.declared.sources.Source.{Ghosts as SourceGhosts}
use Rattle.elf_outside.specs.declared.sinks.Sink.{Ghosts as SinkGhosts}
use Rattle.elf_outside.specs.declared.file_sets.Files.{Ghosts as FilesGhosts}
use Rattle.elf_object.specs.Object.{Object}
use Rattle.rebuild_join.specs.elf_descriptor.State.{State}
use Rattle.tool_output.specs.declared.stops.Stop.{Stop}
use Rattle.tool_output.specs.declared.outputs.Outputs.{Outputs}
use Rattle.tool_output.specs.Names.{file_name}
use Rattle.tool_output.specs.Made.{Done, Complaint, complaint, of_file}
use Rattle.rebuild_files.specs.tool_objects.Images.{file_object}
use Rattle.rebuild_files.specs.tool_objects.Refusals.{ReportsRefusal}
use Rattle.rebuild_files.proofs.tool_files.elf_images.WriteLemmas.{DoesHere, refused_does, refused_leaves}
use Rattle.unstrip_tool.specs.Joins.{held_object, WritesBeside}
use Rattle.unstrip_tool.proofs.CauseLemmas.{rose_some}

-- a source that nothing was done with
pub same_source : {S : Type 0} (g : SourceGhosts S) (a : S) → Leaves g a a
same_source g a = record { same_len = refl; same_bytes = refl; same_rest = refl }

module _ {S F D O E : Type 0} (g : SourceGhosts S) (f : FilesGhosts F D) (o : SinkGhosts O)
    (e : SinkGhosts E) (file : List ℕ) (done : Object → Result Done Complaint) (opens : ℕ)
    (causes known : Type 0) (src : S) (there : known → IsSome (g.holds src)) where
  abbrev stated : Option (List ℕ) → Result Done Complaint
  stated held = held_object file held >>= done

  -- it is an object
  pub begun_writes : (before : Type 0) (begun : State S) (r : Result Bool Stop) (a b : F)
      (s t : Outputs O E)
      → IfSome (g.holds src) (λ bytes. Follows (Ok begun.o) (file_object bytes))
      → begun.told ≡ is_some (g.holds src) → (known → IsTrue begun.told → before)
      → WritesBeside f o e opens causes before (done begun.o) r a b s t
      → WritesBeside f o e opens causes known (stated (g.holds src)) r a b s t
  begun_writes before begun r a b s t answer told knows inner = record {
    does = λ tells k.
        by (g.holds src) answer told (there k) (λ is. inner.does tells (knows k is));
    live = inner.live;
    leaves = inner.leaves;
  }
    where
      by : (held : Option (List ℕ))
          → IfSome held (λ bytes. Follows (Ok begun.o) (file_object bytes))
          → begun.told ≡ is_some held → IsSome held
          → (IsTrue begun.told → DoesHere f o e (codes "unstrip") (done begun.o) r a b s t)
          → DoesHere f o e (codes "unstrip") (stated held) r a b s t
      by None is told_is some next = cc
      by (Some bytes) is told_is some next = rw is (next told_is)

  -- it is none, or an archive
  pub begun_refused : (after : S) (n : ℕ) (d : ElfError) (r : Result Bool Stop) (a : F)
      (s t : Outputs O E) → Asks {T = Object} g (Err d) src after n
      → IfSome (g.holds src) (λ bytes. Follows {T = Object} (Err d) (file_object bytes))
      → (0 < g.faults after → causes)
      → ReportsRefusal o e (codes "unstrip") (file_name file) d r s t
      → WritesBeside f o e opens causes known (stated (g.holds src)) r a a s t
  begun_refused after n d r a s t asks answer cause h = record {
    does = λ tells k.
        refused_does f o e (codes "unstrip") file d (stated (g.holds src)) r a s t tells
        (failed (g.holds src) answer (there k)) h;
    live = λ small. refl;
    leaves = refused_leaves f o e (codes "unstrip") causes Object d file (g.faults src)
        (g.faults after) r a s t asks.read
        (λ rose. cause (rose_some (g.faults src) (g.faults after) rose)) h;
  }
    where
      refused : (q : Result Object ElfError) (c : Option ElfError) → IfSome c (λ x. q ≡ Err x)
          → IfSome c (λ x. (of_file file q >>= done) ≡ Err (complaint file (error_text x)))
      refused q None is = tt
      refused q (Some x) is = ap (λ (y : Result Object ElfError). of_file file y >>= done) is

      failed : (held : Option (List ℕ))
          → IfSome held (λ bytes. Follows {T = Object} (Err d) (file_object bytes))
          → IsSome held
          → IfSome (stated_refusal d) (λ x. stated held ≡ Err (complaint file (error_text x)))
      failed None is some = cc
      failed (Some bytes) is some = refused (file_object bytes) (stated_refusal d) is
