-- Both files are closed again, and what is stated of their names was done.
use Rattle.std.proofs.Common.{◌≤◌, ℕ, Bool, List, codes, Option, Result, IsTrue, sym, subst, arith}
use Rattle.elf_outside.specs.Counts.{Rose}
use Rattle.elf_outside.specs.Names.{SameNames}
use Rattle.elf_outside.specs.declared.sinks.Sink.{Ghosts as SinkGhosts}
use Rattle.elf_outside.specs.declared.file_sets.Files.{Ghosts as FilesGhosts}
use Rattle.rebuild_files.specs.elfkit_outcomes.Strip.{unstrip_outcome}
use Rattle.tool_output.specs.declared.stops.Stop.{Stop}
use Rattle.tool_output.specs.declared.outputs.Outputs.{Outputs}
use Rattle.tool_output.specs.Statuses.{refused_status}
use Rattle.tool_output.specs.Outcomes.{Outcome, Does}
use Rattle.rebuild_files.proofs.tool_files.elf_images.WriteLemmas.{DoesHere}
use Rattle.unstrip_tool.specs.declared.names.HalfNames.{HalfNames}
use Rattle.unstrip_tool.specs.Joins.{halves_joined, WritesBeside}
use Rattle.unstrip_tool.proofs.DoneLemmas.{unstrip_is}

-- a count that rose between two others
pub rose_around : (a b c d : ℕ) → a ≤ b → c ≤ d → Rose b c → Rose a d
rose_around a b c d before after rose = omega (arith, before, after, rose)

module _ {F D O E : Type 0} (f : FilesGhosts F D) (o : SinkGhosts O) (e : SinkGhosts E)
    (out : List ℕ) (names : HalfNames) (r : Result Bool Stop) where
  abbrev Stated : F → F → Outputs O E → Outputs O E → Type 0
  Stated a b s t =
      Does f o e refused_status
      (unstrip_outcome (f.named a) out names.stripped.now names.debug.now) r a b s t

  stated : (a b : F) (s t : Outputs O E)
      → DoesHere f o e (codes "unstrip") (halves_joined out names
      (f.named a names.stripped.now) (f.named a names.debug.now)) r a b s t
      → Stated a b s t
  stated a b s t h =
      subst (λ (x : Outcome). Does f o e refused_status x r a b s t)
      (sym (unstrip_is (f.named a) out names)) h

  pub joined_does : (a b : F) (s t : Outputs O E) (opens : ℕ) (reads : Type 0)
      → WritesBeside f o e opens reads (Unit {0}) (halves_joined out names
      (f.named a names.stripped.now) (f.named a names.debug.now)) r a b s t
      → IsTrue (f.tells a) → Stated a b s t
  joined_does a b s t opens reads h told = stated a b s t (h.does told tt)

  -- what the second name holds was looked at once the first file was open
  pub joined_after : (a between b : F) (s t : Outputs O E) (opens : ℕ) (reads : Type 0)
      → SameNames (f.tells a) (f.named a) (f.tells between) (f.named between)
      → WritesBeside f o e opens reads (Unit {0}) (halves_joined out names
      (f.named a names.stripped.now) (f.named between names.debug.now)) r a b s t
      → IsTrue (f.tells a) → Stated a b s t
  joined_after a between b s t opens reads same h told =
      stated a b s t
      (subst (λ (held : Option (List ℕ)). DoesHere f o e (codes "unstrip")
      (halves_joined out names (f.named a names.stripped.now) held) r a b s t)
      (same.same names.debug.now) (h.does told tt))
