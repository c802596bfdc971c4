-- What is said of a section.
use Rattle.std.proofs.Common.{◌≡◌, ◌<◌, ℕ, true, false, List, length, Ok, Err, codes, refl, arith}
use Rattle.elf_types.specs.declared.records.Class.{Class}
use Rattle.elf_types.specs.declared.records.Order.{Order}
use Rattle.elf_types.specs.declared.errors.ElfError.{ElfError}
use Rattle.elf_types.specs.declared.errors.ElfError.TheVariants as error
use Rattle.elf_types.specs.Text.{error_text}
use Rattle.elf_types.specs.Kinds.{is_compressed}
use Rattle.elf_object.specs.Object.{Object, section_at}
use Rattle.elf_object.specs.Answers.{raw_refusal}
use Rattle.elf_object.specs.Calls.{raw_answer}
use Rattle.tool_objects.specs.elf_descriptor.Homes.{out_answer}
use Rattle.tool_output.specs.Names.{Name}
use Rattle.tool_output.specs.Reports.{refusal_report}
use Rattle.lines_tool.specs.Tables.{section_message_report, line_table_report, report_by_compression, line_section_report}

module _ (name : Name) (o : Object) (s : ℕ) where
  -- its bytes are there
  section_there : (bytes : List ℕ) → raw_answer o s ≡ Ok bytes
      → line_section_report name o s ≡ report_by_compression (is_compressed (section_at o s).header.flags) name s o.header.class o.header.order bytes
  unfolding line_section_report
  section_there bytes is = rw is refl

  -- they are out of the file
  pub section_out : (e : ElfError) → raw_answer o s ≡ Err e → line_section_report name o s ≡ refusal_report (codes "lines") name (error_text e)
  unfolding line_section_report
  section_out e is = rw is refl

  pub section_table : (bytes : List ℕ) (class : Class) (order : Order) → is_compressed (section_at o s).header.flags ≡ false
      → class ≡ o.header.class → order ≡ o.header.order → raw_answer o s ≡ Ok bytes → line_section_report name o s ≡ line_table_report name s class order bytes
  unfolding report_by_compression
  section_table bytes class order not a b is = rw (section_there bytes is, not, a, b) refl

  module _ (there : s < length o.sections) where
    -- whether it is out of the file is answered
    pub out_answered : (e : ElfError) → out_answer o s ≡ Err e → ⊥
    unfolding out_answer
    out_answered e is = search arith

    home_in : out_answer o s ≡ Ok false → raw_answer o s ≡ Ok (section_at o s).raw
    unfolding out_answer raw_answer raw_refusal
    home_in is = search arith

    home_out : out_answer o s ≡ Ok true → raw_answer o s ≡ Err (error.OutOfFile s)
    unfolding out_answer raw_answer raw_refusal
    home_out is = search arith

    pub compressed_there : is_compressed (section_at o s).header.flags ≡ true → out_answer o s ≡ Ok false
        → line_section_report name o s ≡ section_message_report name s (codes "compressed")
    unfolding report_by_compression
    compressed_there is file = rw (section_there (section_at o s).raw (home_in file), is) refl

    pub compressed_out : out_answer o s ≡ Ok true → line_section_report name o s ≡ refusal_report (codes "lines") name (error_text (error.OutOfFile s))
    compressed_out file = section_out (error.OutOfFile s) (home_out file)
