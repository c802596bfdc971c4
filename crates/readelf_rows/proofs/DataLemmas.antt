-- What stands in place of a section's lines.
use Rattle.std.proofs.Common.{◌≡◌, ℕ, Bool, true, false, Option, Some, None, ap, ◌∙◌}
use Rattle.std.specs.Prelude.{codes, if◌then◌else◌}
use Rattle.elf_types.specs.declared.errors.ElfError.{ElfError}
use Rattle.elf_types.specs.declared.errors.ElfError.TheVariants.{OutOfFile}
use Rattle.elf_types.specs.Text.{error_text}
use Rattle.elf_types.specs.Kinds.{is_compressed}
use Rattle.tool_objects.specs.elf_object.Object.{Object, section_at}
use Rattle.tool_objects.specs.tool_output.Names.{Name}
use Rattle.tool_objects.specs.tool_output.Messages.{section_message}
use Rattle.tool_objects.specs.tool_output.Reports.{Report, no_report}
use Rattle.tool_objects.specs.Sections.{report_if}
use Rattle.readelf_rows.specs.Data.{readelf_refusal, if_plain, if_told, plain_report}

module _ (name : Name) (o : Object) (s : ℕ) (lines : Report) where
  abbrev by : Bool → Bool → Report
  by out compressed =
      if out then readelf_refusal name (error_text (OutOfFile s))
      else (if compressed then readelf_refusal name (section_message s (codes "compressed")) else lines)

  pub plain_out : (section_at o s).home.out ≡ true → if_plain name o s lines ≡ readelf_refusal name (error_text (OutOfFile s))
  unfolding if_plain
  plain_out out = ap (λ (t : Bool). by t (is_compressed (section_at o s).header.flags)) out

  pub plain_compressed : (section_at o s).home.out ≡ false → is_compressed (section_at o s).header.flags ≡ true
      → if_plain name o s lines ≡ readelf_refusal name (section_message s (codes "compressed"))
  unfolding if_plain
  plain_compressed out compressed = ap (λ (t : Bool). by t (is_compressed (section_at o s).header.flags)) out ∙ ap (by false) compressed

  pub plain_lines : (section_at o s).home.out ≡ false → is_compressed (section_at o s).header.flags ≡ false → if_plain name o s lines ≡ lines
  unfolding if_plain
  plain_lines out compressed = ap (λ (t : Bool). by t (is_compressed (section_at o s).header.flags)) out ∙ ap (by false) compressed

module _ (has : ℕ → Bool) (name : Name) (o : Object) (report : ℕ → Report) (s : ℕ) where
  pub plain_has : has (section_at o s).header.stype ≡ true → plain_report has name o report s ≡ if_plain name o s (report s)
  unfolding plain_report
  plain_has is = ap (λ (t : Bool). report_if t (if_plain name o s (report s))) is

  pub plain_has_not : has (section_at o s).header.stype ≡ false → plain_report has name o report s ≡ no_report
  unfolding plain_report
  plain_has_not is = ap (λ (t : Bool). report_if t (if_plain name o s (report s))) is

-- ---- Where the data can not be told

module _ (name : Name) (lines : Report) where
  pub told_lines : (refusal : Option ElfError) → refusal ≡ None → if_told name refusal lines ≡ lines
  unfolding if_told
  told_lines refusal is = ap (λ (r : Option ElfError). if_told name r lines) is

  pub told_refused : (refusal : Option ElfError) (e : ElfError) → refusal ≡ Some e → if_told name refusal lines ≡ readelf_refusal name (error_text e)
  unfolding if_told
  told_refused refusal e is = ap (λ (r : Option ElfError). if_told name r lines) is
