-- All words of this crate, of the objects of commands and of texts at once, for proofs by
-- computation.
use Rattle.std.specs.Prelude.{Bool, true}
use Rattle.elf_types.specs.Text.{numbered, numbered_twice, kind_text, part_text, unfit_text, overlap_text, held_text, plain_text, telling_text, error_text}
use Rattle.rebuild_model.specs.elf_ident.FileKinds.{file_kind}
use Rattle.tool_objects.specs.tool_output.Messages.{message}
use Rattle.tool_objects.specs.tool_output.Names.{shown_name}
use Rattle.rebuild_model.proofs.Computing.{all_words as objects_words}
use Rattle.tool_objects.specs.tool_output.Marks.{said}
use Rattle.tool_objects.specs.tool_output.Reports.{shown_report, refusal_report}
use Rattle.tool_objects.specs.tool_output.Outcomes.{write_of}
use Rattle.tool_objects.specs.tool_output.Made.{written_outcome}
use Rattle.tool_objects.specs.Images.{object_by, file_object}
use Rattle.elfkit_outcomes.specs.Files.{bytes_named, object_named, bytes_of_each}
use Rattle.elfkit_outcomes.specs.Strip.{strip_alone, strip_split, strip_done, strip_outcome, unstrip_complaint, unstrip_done, unstrip_outcome}
use Rattle.elfkit_outcomes.specs.Copy.{copy_text, copy_done, copy_outcome, rehash_text, rehash_done, rehash_outcome}
use Rattle.elfkit_outcomes.specs.Selftest.{selftest_done, selftest_outcome}

-- its value says nothing: what counts is that a proof that unfolds it unfolds the others
unfoldable pub all_words : Bool
unfolding objects_words numbered numbered_twice kind_text part_text unfit_text overlap_text
    held_text plain_text telling_text error_text file_kind message shown_name said shown_report
    refusal_report write_of written_outcome object_by file_object bytes_named object_named bytes_of_each
    strip_alone strip_split strip_done strip_outcome unstrip_complaint unstrip_done
    unstrip_outcome copy_text copy_done copy_outcome rehash_text rehash_done rehash_outcome
    selftest_done selftest_outcome
all_words = true
