-- The members of an archive, as a tool reports on them one after another.
use Rattle.std.proofs.Common.{◌≡◌, ◌≤◌, ℕ, Bool, List, [], ◌∷◌, take, drop, Option, Some, None, Result, Ok, Err, IfSome, ap, ◌∙◌}
use Rattle.elf_types.specs.declared.errors.ElfError.{ElfError}
use Rattle.elf_types.specs.declared.errors.ElfError.TheVariants.{BadMember}
use Rattle.elf_types.specs.Answers.{answered, stated_refusal}
use Rattle.elf_types.specs.Text.{error_text}
use Rattle.tool_output.specs.elf_outside.Counts.{Rose}
use Rattle.tool_output.specs.elf_outside.Windows.{range_of, window_rest}
use Rattle.tool_output.specs.elf_outside.declared.sources.Source.{Ghosts as SourceGhosts}
use Rattle.tool_output.specs.elf_outside.declared.sinks.Sink.{Ghosts as SinkGhosts}
use Rattle.ar_members.specs.declared.headers.ArHdr.{ArHdr}
use Rattle.ar_members.specs.Magic.{archive_refusal}
use Rattle.ar_members.specs.Members.{Members, members, next_among, next_of}
use Rattle.ar_members.specs.Archives.{Walk, Archive, first_walk, begun_walk, archive_rest, members_left}
use Rattle.ar_members.proofs.RestLemmas.{archive_window_same}
use Rattle.ar_members.proofs.Told.{told_then}
use Rattle.gelf_view.specs.elf_object.Object.{Object}
use Rattle.tool_output.specs.declared.stops.Stop.{Stop}
use Rattle.tool_output.specs.declared.outputs.Outputs.{Outputs}
use Rattle.tool_output.specs.Stops.{stop_of}
use Rattle.tool_output.specs.Names.{Name, file_name, member_name}
use Rattle.tool_output.specs.Steps.{LeavesOutputs}
use Rattle.tool_output.specs.Reports.{Report, Reports, no_report, refusal_report, joined_reports, all_reports_joined, reports_of}
use Rattle.tool_output.specs.Sources.{ReportsOn}
use Rattle.tool_output.proofs.ReportLemmas.{joined_assoc, no_report_joined}
use Rattle.tool_output.proofs.SourceLemmas.{stated_error}
use Rattle.tool_objects.specs.Images.{image_report}
use Rattle.tool_objects.specs.Archives.{member_report, end_report, members_report, walk_report, archive_report}

-- ---- A member

-- what is said of a range of bytes is said of the bytes
pub of_range : (P : List ℕ → Type 0) (at len : ℕ) (holds : Option (List ℕ))
    → IfSome (range_of at len holds) P → IfSome holds (λ bytes. P (take len (drop at bytes)))
of_range P at len None h = tt
of_range P at len (Some bytes) h = h

module _ {S O E : Type 0} (s : SourceGhosts S) (o : SinkGhosts O) (e : SinkGhosts E) (at at' : ℕ) (a b : Archive S)
    (rest : window_rest at' (s.size b.source) (s.holds b.source) (archive_rest b.walk (s.rest b.source)) ≡ window_rest at (s.size a.source) (s.holds a.source) (archive_rest a.walk (s.rest a.source))) where
  -- a report on a window over an archive is one on the archive's source
  pub window_reports : (report : List ℕ → Report) (len : ℕ) (r : Result Bool Stop) (t u : Outputs O E)
      → IfSome (range_of at len (s.holds a.source)) (λ bytes. Reports o e r t u (report bytes)) → s.faults a.source ≤ s.faults b.source
      → LeavesOutputs o e (Rose (s.faults a.source) (s.faults b.source)) r t u
      → ReportsOn s o e (λ bytes. report (take len (drop at bytes))) r a.source b.source t u
  window_reports report len r t u reports later leaves =
      let same = archive_window_same at' at _ _ _ _ b.walk a.walk _ _ rest in record {
        reports = of_range (λ bytes. Reports o e r t u (report bytes)) at len (s.holds a.source) reports;
        source = record { same_len = same.1; same_bytes = same.2; same_rest = same.4 };
        later = later;
        leaves = leaves;
      }

  -- and the walk stands where it stood
  pub window_walk : b.walk ≡ a.walk
  window_walk = (archive_window_same at' at _ _ _ _ b.walk a.walk _ _ rest).3

module _ {S O E : Type 0} (s : SourceGhosts S) (o : SinkGhosts O) (e : SinkGhosts E)
    (report : Name → List ℕ → Report) (file : List ℕ) (header : ArHdr) where
  -- a report on the range that its header tells is one on a member
  pub member_reports : (at len : ℕ) (r : Result Bool Stop) (a b : S) (t u : Outputs O E)
      → at ≡ header.body → len ≡ header.size
      → ReportsOn s o e
      (λ bytes. report (member_name file header.name) (take len (drop at bytes))) r a b t u
      → ReportsOn s o e (λ bytes. member_report report file bytes header) r a b t u
  unfolding member_report
  member_reports at len r a b t u from long h = rw (from, long) at h

-- ---- What is left of the members

module _ (command : List ℕ) (report : Name → List ℕ → Report) (file : List ℕ) where
  -- what was answered of the next member, and what is left then
  abbrev answered_report : List ℕ → Result (Option ArHdr × Members) ElfError → Report
  answered_report bytes (Ok (Some header, rest)) = joined_reports (member_report report file bytes header) (members_report command report file bytes rest)
  answered_report bytes (Ok (None, rest)) = no_report
  answered_report bytes (Err e) = refusal_report command (file_name file) (error_text e)

  by_next : (bytes : List ℕ) (list : List ArHdr) (bad : Option ℕ)
      → joined_reports (reports_of (member_report report file bytes) list) (end_report command file bad) ≡ answered_report bytes (next_among list bad)
  unfolding members_report end_report reports_of all_reports_joined
  by_next bytes [] None = no_report_joined no_report
  by_next bytes [] (Some at) = no_report_joined (refusal_report command (file_name file) (error_text (BadMember at)))
  by_next bytes (header ∷ list) bad = joined_assoc (member_report report file bytes header) (reports_of (member_report report file bytes) list) (end_report command file bad)

  -- the report on what is left, by the next answer
  left_is : (bytes : List ℕ) (left : Members) (answer : Result (Option ArHdr × Members) ElfError) → next_of left ≡ answer
      → members_report command report file bytes left ≡ answered_report bytes answer
  unfolding members_report
  left_is bytes left answer is = by_next bytes left.list left.bad ∙ ap (answered_report bytes) is

  abbrev pub left_report : Walk → List ℕ → Report
  left_report walk bytes = members_report command report file bytes (members_left bytes walk)

  module _ (holds : Option (List ℕ)) (old new : Walk) where
    -- a member is next
    pub member_left : (header : ArHdr) → IfSome holds (λ bytes. next_of (members_left bytes old) ≡ Ok (Some header, members_left bytes new))
        → IfSome holds (λ bytes. left_report old bytes ≡ joined_reports (member_report report file bytes header) (left_report new bytes))
    member_left header given =
        told_then (λ bytes. next_of (members_left bytes old) ≡ Ok (Some header, members_left bytes new)) holds given
        (λ bytes is. left_is bytes (members_left bytes old) (Ok (Some header, members_left bytes new)) is)

    -- none is left
    pub no_member_left : IfSome holds (λ bytes. next_of (members_left bytes old) ≡ Ok (None, members_left bytes new))
        → IfSome holds (λ bytes. left_report old bytes ≡ no_report)
    no_member_left given =
        told_then (λ bytes. next_of (members_left bytes old) ≡ Ok (None, members_left bytes new)) holds given
        (λ bytes is. left_is bytes (members_left bytes old) (Ok (None, members_left bytes new)) is)

    -- a bad header ends them
    pub bad_left : (d : ElfError) → IfSome holds (λ bytes. IfSome (stated_refusal d) (λ d. next_of (members_left bytes old) ≡ Err d))
        → IfSome holds (λ bytes. stop_of d ≡ None → left_report old bytes ≡ refusal_report command (file_name file) (error_text d))
    bad_left d given =
        told_then (λ bytes. IfSome (stated_refusal d) (λ d. next_of (members_left bytes old) ≡ Err d)) holds given
        (λ bytes is none. left_is bytes (members_left bytes old) (Err d) (stated_error d (next_of (members_left bytes old)) is none))

-- ---- An archive

module _ (command : List ℕ) (report : Name → Object → Report) (file : List ℕ) where
  begun_as : (bytes : List ℕ) (refused : Option ElfError) (walk : Walk) → answered refused first_walk ≡ Ok walk
      → walk_report command (image_report command report) file bytes (answered refused (members bytes))
      ≡ members_report command (image_report command report) file bytes (members_left bytes walk)
  begun_as bytes None walk is = ap (λ (r : Result Walk ElfError). by_walk r) is
    where
      by_walk : Result Walk ElfError → Report
      by_walk (Ok walk) = members_report command (image_report command report) file bytes (members_left bytes walk)
      by_walk (Err e) = no_report
  begun_as bytes (Some e) walk is = absurd cc

  refused_as : (bytes : List ℕ) (refused : Option ElfError) (d : ElfError) → answered refused first_walk ≡ Err d
      → walk_report command (image_report command report) file bytes (answered refused (members bytes)) ≡ refusal_report command (file_name file) (error_text d)
  refused_as bytes None d is = absurd cc
  refused_as bytes (Some e) d is = ap (λ (r : Result Walk ElfError). by_walk r) is
    where
      by_walk : Result Walk ElfError → Report
      by_walk (Ok walk) = no_report
      by_walk (Err e) = refusal_report command (file_name file) (error_text e)

  -- an archive whose walk has begun
  pub archive_begun : (holds : Option (List ℕ)) (walk : Walk) → IfSome holds (λ bytes. begun_walk bytes ≡ Ok walk)
      → IfSome holds (λ bytes. archive_report command report (file_name file) bytes
      ≡ members_report command (image_report command report) file bytes (members_left bytes walk))
  unfolding archive_report
  archive_begun holds walk given =
      told_then (λ bytes. begun_walk bytes ≡ Ok walk) holds given (λ bytes is. begun_as bytes (archive_refusal bytes) walk is)

  -- or is refused
  pub archive_refused : (holds : Option (List ℕ)) (d : ElfError) → IfSome holds (λ bytes. IfSome (stated_refusal d) (λ d. begun_walk bytes ≡ Err d))
      → IfSome holds (λ bytes. stop_of d ≡ None → archive_report command report (file_name file) bytes ≡ refusal_report command (file_name file) (error_text d))
  unfolding archive_report
  archive_refused holds d given =
      told_then (λ bytes. IfSome (stated_refusal d) (λ d. begun_walk bytes ≡ Err d)) holds given
      (λ bytes is none. refused_as bytes (archive_refusal bytes) d (stated_error d (begun_walk bytes) is none))
