use Rattle.rebuild_tables.proofs.HoldLaws.{made_syms_fit}
use Rattle.rebuild_tables.proofs.holding.append_syms.Goals as goal

pub append_items-requires : goal.append_items-requires
append_items-requires c =
    made_syms_fit c.args.x.class c.args.numbering.now c.args.words.now c.args.syms.now c.in-Ok.made
    c.requires c.in-Ok.ensures.ok
