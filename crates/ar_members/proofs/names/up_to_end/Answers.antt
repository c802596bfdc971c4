use Rattle.std.proofs.Common.{◌∙◌, ap, sym}
use Rattle.std.proofs.lemmas.List.{take_rest}
use Rattle.ar_members.specs.Names.{ends_name}
use Rattle.ar_members.proofs.NameLemmas.{ends_from_more}
use Rattle.ar_members.proofs.names.up_to_end.Goals as goal

pub loop-i-preserved : goal.loop-i-preserved
unfolding ends_name
loop-i-preserved c =
    ends_from_more c.args.text.now c.loop-i.i c.loop-i-test.true (ap ends_name (sym (take_rest c.args.text.now c.loop-i.i)) ∙ sym c.starts_with.ensures.value ∙ c.if-starts_with.false) c.loop-i.invariant
