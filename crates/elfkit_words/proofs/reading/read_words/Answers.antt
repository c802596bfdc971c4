use Rattle.elfkit_words.proofs.FormsHold.{read_form}
use Rattle.elfkit_words.proofs.reading.read_words.Goals as goal

pub returns-in-Ok-clause-form : goal.returns-in-Ok-clause-form
returns-in-Ok-clause-form c = read_form _ _ _ c.in-Ok.ensures
