-- Lemmas that the proofs of several goals need together.
use Rattle.section_data.proofs.Items.{count_past, item_begins, item_ends}

-- where an item stands in bytes
pub ruleset item_bytes = (count_past, item_begins, item_ends)
