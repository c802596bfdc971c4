use Rattle.std.proofs.Common.{ℕ, ap, ◌∙◌}
use Rattle.symbol_lookup.specs.elf_object.Sections.{header_at, is_relocations}
use Rattle.elf_lint_findings.specs.Looking.{is_string_table, is_symbol_table}
use Rattle.elf_lint.specs.Survey.{is_odd, is_notes, is_of_linking}
use Rattle.elf_lint.proofs.SurveyLemmas.{next_fails}
use Rattle.elf_lint.proofs.survey.survey_next.Goals as goal

pub returns : goal.returns
returns g c =
    let o = c.args.elf.now.o in
    let n = c.args.s.0 in
    let v = c.args.so_far in
    let is = c.section_header-h.ensures in
    record {
      odd = next_fails v.odd _ (is_odd o) n c.requires.before.odd c.is_odd.ensures;
      strings = next_fails v.strings _ (λ (s : ℕ). is_string_table (header_at o s)) n
          c.requires.before.strings (c.is_string_table.ensures ∙ ap is_string_table is);
      symbols = next_fails v.symbols _ (λ (s : ℕ). is_symbol_table (header_at o s)) n
          c.requires.before.symbols (c.is_symbol_table_header.ensures ∙ ap is_symbol_table is);
      relocations = next_fails v.relocations _ (λ (s : ℕ). is_relocations (header_at o s)) n
          c.requires.before.relocations (c.is_relocation_section.ensures ∙ ap is_relocations is);
      notes = next_fails v.notes _ (λ (s : ℕ). is_notes (header_at o s)) n
          c.requires.before.notes (ap is_notes is);
      linking = next_fails v.linking _ (λ (s : ℕ). is_of_linking (header_at o s)) n
          c.requires.before.linking (c.is_of_linking.ensures ∙ ap is_of_linking is);
    }
