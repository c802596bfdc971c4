use Rattle.std.proofs.Common.{◌∙◌, ap, sym}
use Rattle.ar_members.specs.Names.{short_name_of, short_of_text}
use Rattle.ar_members.proofs.NameLemmas.{short_without_slash}
use Rattle.ar_members.proofs.names.short_name.Goals as goal

pub returns-in-None : goal.returns-in-None
unfolding short_name_of
returns-in-None c =
    short_without_slash c.trimmed-name.result.now (sym c.starts_with.ensures.value ∙ c.if-starts_with.false) c.in-None.ensures
    ∙ ap short_of_text c.trimmed-name.ensures.value
