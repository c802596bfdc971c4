use Rattle.section_data.proofs.Keeping.{forgets_kept}
use Rattle.section_data.proofs.kept.Kept.forget.Goals as goal

pub invariant_of-self : goal.invariant_of-self
invariant_of-self c = forgets_kept c.self.inside.len c.self.inside.has_first c.self.inside.first _ _ c.self.invariant c.forget.ensures
