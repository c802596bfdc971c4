use Rattle.std.proofs.Common.{List, sym, ◌∙◌, subst}
use Rattle.std.specs.declared.ops.Bound.TheVariants.{Included, Unbounded}
use Rattle.std.specs.BTreeSet.{IsKeyRangeOf}
use Rattle.rebuild_select.specs.declared.sought.sections.NamedSection.{NamedSection}
use Rattle.rebuild_select.proofs.sought.RowLaws.{named_section_cmp, from, none_in_key_range, first_is, none_is}
use Rattle.rebuild_select.proofs.sought.sections.NameIndex.find.Goals as goal

pub returns-then-eq : goal.returns-then-eq
returns-then-eq c =
    let rows = c.args.self.now.rows in
    first_is rows c.args.name c.in-Some.row.now _
    (subst (λ (l : List NamedSection). IsKeyRangeOf named_section_cmp (Included (from c.args.name)) Unbounded rows l)
    c.in-Some.ensures.steps (c.range.ensures.in_range tt))
    (sym c.eq.ensures ∙ c.if-eq.true)

pub returns-else-eq : goal.returns-else-eq
returns-else-eq c =
    let rows = c.args.self.now.rows in
    none_is rows c.args.name c.in-Some.row.now _
    (subst (λ (l : List NamedSection). IsKeyRangeOf named_section_cmp (Included (from c.args.name)) Unbounded rows l)
    c.in-Some.ensures.steps (c.range.ensures.in_range tt))
    (sym c.eq.ensures ∙ c.if-eq.false)

pub returns-in-None : goal.returns-in-None
returns-in-None c =
    none_in_key_range c.args.self.now.rows c.args.name c.range.result (c.range.ensures.in_range tt)
    c.in-None.ensures.steps.0
