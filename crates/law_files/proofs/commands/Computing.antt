-- The words of what the self test shows, for proofs by computation.
use Rattle.std.specs.Prelude.{Bool, true}
use Rattle.std.specs.Fmt.{digits}
use Rattle.elf_layout.specs.Layout.{rounded_up}
use Rattle.tool_output.specs.Marks.{said}
use Rattle.tool_output.specs.Reports.{shown_report}
use Rattle.law_files.specs.Commands.SelftestSizes.{triangle, generated_data_size, above, digits_up_to, selftest_bytes, selftest_sum, selftest_lines}

-- its value says nothing: what counts is that a proof that unfolds it unfolds the others
unfoldable pub all_words : Bool
unfolding digits rounded_up said shown_report triangle generated_data_size above digits_up_to selftest_bytes
    selftest_sum selftest_lines
all_words = true
