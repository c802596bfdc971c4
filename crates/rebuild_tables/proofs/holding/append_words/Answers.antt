use Rattle.rebuild_tables.proofs.HoldLaws.{made_words_fit}
use Rattle.rebuild_tables.proofs.holding.append_words.Goals as goal

pub append_items-requires : goal.append_items-requires
append_items-requires c = made_words_fit c.args.x.class c.in-Ok.made
