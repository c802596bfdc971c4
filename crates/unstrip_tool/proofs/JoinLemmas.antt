-- Two objects that are joined, and the file of what is made, or the message that says why there is
-- none.
use Rattle.std.proofs.Common.{◌≡◌, ◌⊎◌, ◌<◌, ◌∷◌, ◌++◌, ℕ, Bool, List, [], codes, Result, Ok, Err, IfSome, IsTrue, refl, sym, ap, ◌∙◌, subst, arith}
use Rattle.elf_types.specs.declared.errors.ElfError.{ElfError}
use Rattle.elf_types.specs.Answers.{stated_refusal}
use Rattle.elf_types.specs.Text.{error_text}
use Rattle.elf_outside.specs.Asks.{ReadRose}
use Rattle.elf_outside.specs.Counts.{Rose}
use Rattle.elf_outside.specs.declared.sources.Source.{Ghosts as SourceGhosts}
use Rattle.elf_outside.specs.declared.sinks.Sink.{Ghosts as SinkGhosts}
use Rattle.elf_outside.specs.declared.file_sets.Files.{Ghosts as FilesGhosts}
use Rattle.rebuild_join.specs.elf_descriptor.State.{State}
use Rattle.rebuild_model.specs.Arranged.{Rebuilt}
use Rattle.rebuild_model.specs.Split.{unstripped, UnstripFault as Stated}
use Rattle.tool_output.specs.declared.stops.Stop.{Stop}
use Rattle.tool_output.specs.declared.outputs.Outputs.{Outputs}
use Rattle.tool_output.specs.Names.{file_name}
use Rattle.tool_output.specs.Outcomes.{Does}
use Rattle.tool_output.specs.Made.{Done, Complaint, complaint, made_file_alone, made_file, outcome_with, written_outcome}
use Rattle.tool_output.specs.Reports.{Report, no_report}
use Rattle.tool_output.specs.Statuses.{refused_status}
use Rattle.tool_output.proofs.UnderWayLemmas.{shown_none}
use Rattle.rebuild_files.specs.tool_objects.Refusals.{ReportsRefusal}
use Rattle.rebuild_files.proofs.tool_files.elf_images.WriteLemmas.{DoesHere, outputs_leave, said_done, refused_does, refused_leaves}
use Rattle.rebuild_debug.specs.rebuild_image.Ranges.Ranges.{bytes_of_source}
use Rattle.rebuild_debug.specs.rebuild_plan.declared.plans.RangedPlan.{RangedPlan}
use Rattle.rebuild_debug.specs.rebuild_plan.Plans.{CopiesAs}
use Rattle.rebuild_files.specs.Writing.{IsOverSource}
use Rattle.rebuild_join.specs.declared.joined.faults.UnstripFault.{UnstripFault}
use Rattle.rebuild_join.specs.declared.joined.faults.UnstripFault.TheVariants as faults
use Rattle.rebuild_join.specs.Joining.{file_joined, PlansJoined}
use Rattle.unstrip_tool.specs.declared.names.HalfNames.{HalfNames}
use Rattle.unstrip_tool.specs.Copies.{WritesPair}
use Rattle.unstrip_tool.specs.Refusing.{RefusesFault}
use Rattle.unstrip_tool.specs.Joins.{joined_done, objects_done, WritesBeside}
use Rattle.unstrip_tool.proofs.DoneLemmas.{bytes_done, joined_is, elf_stated, debug_stated, mismatch_stated}

module _ {S T F D O E : Type 0} (g : SourceGhosts S) (h : SourceGhosts T) (f : FilesGhosts F D)
    (o : SinkGhosts O) (e : SinkGhosts E) (out : List ℕ) (names : HalfNames)
    (stripped : State S) (debug : State T) (first : S) (second : T) where
  abbrev joined : Result Rebuilt Stated
  joined = unstripped stripped.o debug.o

  -- a read of one of them failed
  abbrev Causes : Type 0
  Causes = (0 < g.faults first) ⊎ (0 < h.faults second)

  abbrev Known : Type 0
  Known = IsTrue stripped.told × IsTrue debug.told

  abbrev Joins : Result Bool Stop → F → F → Outputs O E → Outputs O E → Type 0
  Joins r a b s t =
      WritesBeside f o e 1 Causes Known (objects_done out names stripped.o debug.o) r a b s t

  abbrev Here : Result Done Complaint → Result Bool Stop → F → F → Outputs O E → Outputs O E
      → Type 0
  Here q r a b s t = DoesHere f o e (codes "unstrip") q r a b s t

  -- a file alone
  file_here : (bytes : List ℕ) (r : Result Bool Stop) (a b : F) (s t : Outputs O E)
      → Does f o e refused_status (outcome_with no_report (made_file out bytes ∷ [])) r a b s t
      → Here (Ok (made_file_alone out bytes)) r a b s t
  unfolding written_outcome
  file_here bytes r a b s t h =
      subst (λ (x : Report).
      Does f o e refused_status (outcome_with x (made_file out bytes ∷ [])) r a b s t)
      (sym shown_none) h

  -- they are, and the file is copied out of both
  pub joined_written : (x : RangedPlan) (r : Result Bool Stop) (a b : F) (s t : Outputs O E)
      → IsOverSource g stripped → IsOverSource h debug → PlansJoined stripped debug (Ok x)
      → WritesPair g h f o e out x r stripped.source first debug.source second a b s t
      → Joins r a b s t
  joined_written x r a b s t over over_too plans writes = record {
    does = λ tells known.
        let planned = plans.answer known.0 known.1 in
        let bases : stripped.o.base ++ debug.o.base
        ≡ bytes_of_source g stripped.source ++ bytes_of_source h debug.source =
        ap (λ (l : List ℕ). l ++ debug.o.base) over.base
        ∙ ap (λ (l : List ℕ). bytes_of_source g stripped.source ++ l) over_too.base in
        subst (λ (q : Result Done Complaint). Here q r a b s t)
        (sym (joined_is out names joined ∙ ap (bytes_done out names) planned.1))
        (file_here planned.0 r a b s t
        (writes.does tells (subst (λ (y : Bool). IsTrue y) over.told known.0)
        (subst (λ (y : Bool). IsTrue y) over_too.told known.1) planned.0
        (subst (λ (l : List ℕ). CopiesAs l x planned.0) bases planned.2)));
    live = λ small. writes.live (omega (arith, small));
    leaves = writes.leaves;
  }

  -- they are not
  module _ (r : Result Bool Stop) (a : F) (s t : Outputs O E) where
    unread : Rose 0 0 → Causes
    unread rose = absurd (omega (arith, rose))

    -- for an error of one file
    refused : (c : ElfError) (file : List ℕ)
        → (Known → IfSome (stated_refusal c) (λ d.
        bytes_done out names (file_joined joined) ≡ Err (complaint file (error_text d))))
        → ReadRose {T = Unit {0}} (Err c) 0 0
        → ReportsRefusal o e (codes "unstrip") (file_name file) c r s t → Joins r a a s t
    refused c file is read told = record {
      does = λ tells known.
          refused_does f o e (codes "unstrip") file c (joined_done out names joined) r a s t tells
          (subst (λ (q : Result Done Complaint). IfSome (stated_refusal c) (λ d.
          q ≡ Err (complaint file (error_text d)))) (sym (joined_is out names joined))
          (is known)) told;
      live = λ small. refl;
      leaves = refused_leaves f o e (codes "unstrip") Causes (Unit {0}) c file 0 0 r a s t read
          unread told;
    }

    pub not_joined : (fault : UnstripFault) → PlansJoined stripped debug (Err fault)
        → RefusesFault o e names fault r s t → Joins r a a s t
    not_joined (faults.Elf c) plans told =
        refused c names.stripped.now
        (λ known. elf_stated out names (file_joined joined) c (plans.answer known.0 known.1))
        (plans.unread_stripped 0 0) told
    not_joined (faults.Debug c) plans told =
        refused c names.debug.now
        (λ known. debug_stated out names (file_joined joined) c (plans.answer known.0 known.1))
        (plans.unread_debug 0 0) told
    not_joined faults.Mismatch plans told = record {
      does = λ tells known.
          subst (λ (q : Result Done Complaint). Here q r a a s t)
          (sym (joined_is out names joined
          ∙ mismatch_stated out names (file_joined joined) (plans.answer known.0 known.1)))
          (said_done f o e (codes "unstrip") names.stripped.now (codes "files do not match") r
          a s t tells told.reports);
      live = λ small. refl;
      leaves = outputs_leave f o e (codes "unstrip") Causes r a s t told.leaves;
    }
