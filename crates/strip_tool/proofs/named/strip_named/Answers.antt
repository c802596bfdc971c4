use Rattle.strip_tool.proofs.named.strip_named.Goals as goal

pub edit_named-requires : goal.edit_named-requires
edit_named-requires g c = c.requires

pub returns-clause-does : goal.returns-clause-does
returns-clause-does g c = c.edit_named.ensures.does
