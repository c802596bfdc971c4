-- The words for writers at once, for proofs by computation, with those of the plain object.
use Rattle.std.specs.Prelude.{Bool, true}
use Rattle.elf_object.proofs.Computing.{all_words}
use Rattle.law_object.specs.Writing.Lines.{patched}
use Rattle.law_object.specs.Writing.Plan.{in_order, plan, fill_blocks, written_blocks, block_of_rank, meets_some, section_due, rank_due, written_below, rank_changed, rank_written_below}

-- its value says nothing: what counts is that a proof that unfolds it unfolds the others
unfoldable pub words : Bool
unfolding all_words patched in_order plan fill_blocks written_blocks block_of_rank meets_some section_due rank_due written_below rank_changed rank_written_below
words = true
