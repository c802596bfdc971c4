use Rattle.std.proofs.Common.{Bool, [], sym, ap, ◌∙◌}
use Rattle.std.specs.Prelude.{if◌then◌else◌}
use Rattle.rebuild_names.proofs.CopyLaws.{copied_without_nul}
use Rattle.rebuild_names.proofs.copying.copy_bytes.Goals as goal

pub returns-then-has_nul-clause-ok : goal.returns-then-has_nul-clause-ok
returns-then-has_nul-clause-ok c =
    c.requires
    ∙ sym (ap (λ (b : Bool). if b then [] else c.args.name.now)
    (sym c.has_nul.ensures ∙ c.if-has_nul.true))

pub returns-clause-ok : goal.returns-clause-ok
returns-clause-ok c =
    copied_without_nul c.extend.result c.args.copy.now c.extend.new.self c.args.name.now c.requires
    (sym c.has_nul.ensures ∙ c.if-has_nul.false) c.extend.ensures.ok
