use Rattle.std.proofs.Common.{◌≡◌, Option, None, false, Ok, refl, sym, ap, ◌∙◌, subst, arith}
use Rattle.std.proofs.lemmas.Result.{err_from_is_err_and}
use Rattle.elf_types.specs.declared.records.Kind.TheVariants as kinds
use Rattle.elf_types.specs.Text.{error_text}
use Rattle.elf_object.specs.Object.{Object}
use Rattle.elf_object.specs.Answers.{lend_refusal, count_at}
use Rattle.tool_objects.specs.gelf_view.declared.notes.NoteAt.{NoteAt}
use Rattle.tool_objects.specs.gelf_view.Notes.{IsNoteWithin}
use Rattle.tool_output.specs.Messages.{section_message}
use Rattle.tool_output.specs.Reports.{no_report, shown_report, joined_reports}
use Rattle.tool_objects.proofs.ElfSteps.{elf_begins, elf_stops_at, elf_says_none, elf_refuses, elf_after}
use Rattle.tool_objects.proofs.QueryLemmas.{queried}
use Rattle.tool_objects.proofs.AnswerLemmas.{led_broken}
use Rattle.readelf_rows.specs.Data.{readelf_refusal}
use Rattle.readelf_chains.specs.Chains.{section_bytes}
use Rattle.readelf_chains.specs.Notes.{note_text, notes_from}
use Rattle.readelf_chains.proofs.ChainLemmas.{at_start, elf_line_shown, elf_ends_with}
use Rattle.readelf_chains.proofs.NoteLemmas.{note_left, no_note_left, note_broken}
use Rattle.tool_objects.proofs.OnceReads.{once_read}
use Rattle.readelf_chains.proofs.notes.show_each_note.Goals as goal

pub notes-init : goal.notes-init
notes-init g c = elf_begins g.S.Source g.O.Sink g.E.Sink c.args.elf.now c.args.outputs.now _

pub show_note-requires-clause-passed : goal.show_note-requires-clause-passed
show_note-requires-clause-passed g c =
    subst (λ (o : Object). lend_refusal o kinds.Bytes c.args.s.0 0 ≡ None) (sym (c.in-Ok-Some.ensures.queries.object ∙ c.notes.invariant.elf.object)) c.requires

pub show_note-requires-clause-within : goal.show_note-requires-clause-within
show_note-requires-clause-within g c =
    subst (λ (o : Object). IsNoteWithin (count_at o c.args.s.0 0) c.notes.at c.in-Ok-Some.found) (sym c.in-Ok-Some.ensures.queries.object) (rw c.in-Ok-Some.field-0-is at c.in-Ok-Some.ensures.within)

pub notes-preserved : goal.notes-preserved
notes-preserved g c =
    let s = c.args.s.0 in
    let name = c.args.name.now in
    let note = c.in-Ok-Some.found in
    let chain = rw c.in-Ok-Some.field-0-is at c.in-Ok-Some.ensures.chain in
    elf_line_shown c.notes.invariant (λ o. note_text (section_bytes o s) note) (λ o. notes_from name o s note.next)
    (λ told. note_left name c.notes.elf.o s c.notes.at note (chain told))
    (elf_after g.S.Source g.O.Sink g.E.Sink (λ o. shown_report (note_text (section_bytes o s) note)) (λ o. shown_report (note_text (section_bytes o s) note)) _ c.notes.elf _ _ c.notes.outputs _
    (queried g.S.Source _ _ _ c.notes.elf _ c.in-Ok-Some.ensures.queries (once_read _ _ _ _)) c.in_ok-show_note-in-Ok-Some.ensures (λ told. refl))

pub notes-smaller : goal.notes-smaller
notes-smaller g c =
    let within = rw c.in-Ok-Some.field-0-is at c.in-Ok-Some.ensures.within in
    let same = ap (λ (o : Object). count_at o c.args.s.0 0) c.notes.invariant.elf.object in
    let after = within.after in
    let inside = within.next in
    omega (arith, after, inside, same)

pub returns-in_err-show_note-in-Ok-Some : goal.returns-in_err-show_note-in-Ok-Some
returns-in_err-show_note-in-Ok-Some g c =
    let s = c.args.s.0 in
    let name = c.args.name.now in
    let note = c.in-Ok-Some.found in
    let chain = rw c.in-Ok-Some.field-0-is at c.in-Ok-Some.ensures.chain in
    let p = err_from_is_err_and c.from_residual.result c.from_residual.ensures.1 in
    rw (p.1, p.2) (elf_stops_at c.notes.invariant (λ o. shown_report (note_text (section_bytes o s) note)) (λ o. notes_from name o s note.next)
    (at_start c.notes.invariant (λ (o : Object). notes_from name o s c.notes.at ≡ joined_reports (shown_report (note_text (section_bytes o s) note)) (notes_from name o s note.next))
    (λ told. note_left name c.notes.elf.o s c.notes.at note (chain told)))
    (elf_after g.S.Source g.O.Sink g.E.Sink (λ o. shown_report (note_text (section_bytes o s) note)) (λ o. shown_report (note_text (section_bytes o s) note)) _ c.notes.elf _ _ c.notes.outputs _
    (queried g.S.Source _ _ _ c.notes.elf _ c.in-Ok-Some.ensures.queries (once_read _ _ _ _)) c.in_err-show_note-in-Ok-Some.ensures (λ told. refl)))

pub returns-in-Ok-None : goal.returns-in-Ok-None
returns-in-Ok-None g c =
    let s = c.args.s.0 in
    let name = c.args.name.now in
    let chain = rw c.in-Ok-None.field-0-is at c.in-Ok-None.ensures.chain in
    elf_ends_with c.notes.invariant (Ok false) (λ o. no_report) (λ told. no_note_left name c.notes.elf.o s c.notes.at (chain told))
    (elf_says_none g.S.Source g.O.Sink g.E.Sink (λ o. no_report) c.notes.elf _ c.notes.outputs (queried g.S.Source _ _ _ c.notes.elf _ c.in-Ok-None.ensures.queries (once_read _ _ _ _)) (λ told. refl))

pub returns-in-Err : goal.returns-in-Err
returns-in-Err g c =
    let s = c.args.s.0 in
    let name = c.args.name.now in
    elf_ends_with c.notes.invariant _ (λ o. notes_from name o s c.notes.at) (λ told. refl)
    (elf_refuses g.S.Source g.O.Sink g.E.Sink (λ o. notes_from name o s c.notes.at) (Option NoteAt) c.in-Err.e (readelf_refusal name (section_message s (error_text c.in-Err.e))) _ c.notes.elf _ c.notes.outputs _
    (queried g.S.Source _ _ _ c.notes.elf _ c.in-Err.ensures.queries (once_read _ _ _ _)) c.in-Err.ensures.queries.reads.source.read
    (λ told none. note_broken name c.notes.elf.o s c.notes.at c.in-Err.e (led_broken c.in-Err.e _ _ (c.in-Err.ensures.chain told) none))
    c.refuse_records.ensures.reports c.refuse_records.ensures.stops c.refuse_records.ensures.leaves)
