use Rattle.std.proofs.Common.{Some, sym, ap, ◌∙◌}
use Rattle.section_data.specs.Kept.{unboxed}
use Rattle.section_data.proofs.Keeping.{forgets_used}
use Rattle.section_data.proofs.used.forget.Goals as goal

pub returns-then-keeps_more : goal.returns-then-keeps_more
returns-then-keeps_more c =
    forgets_used (unboxed c.args.slot.now) c.deref_mut.result.now c.forget.new.self
    (ap unboxed c.in-Some.is ∙ ap Some (sym c.deref_mut.ensures.value)) c.forget.ensures
