use Rattle.std.proofs.Common.{◌≡◌, ◌++◌, ℕ, List, sym, subst, ◌∙◌}
use Rattle.std.specs.Prelude.{OnOk}
use Rattle.rebuild_numbers.proofs.GroupLaws.{member_follows, member_stays}
use Rattle.rebuild_numbers.proofs.groups.add_member.Goals as goal

pub add_renumbered-requires : goal.add_renumbered-requires
add_renumbered-requires c = sym c.is_section_number.ensures ∙ c.if-is_section_number.true

pub returns-then-is_section_number-clause-ok : goal.returns-then-is_section_number-clause-ok
returns-then-is_section_number-clause-ok c =
    subst (λ (l : List ℕ). OnOk c.add_renumbered.result
    (c.add_renumbered.new.members ≡ c.args.members.now ++ l))
    (member_follows c.args.numbering.now c.args.n
    (sym c.is_section_number.ensures ∙ c.if-is_section_number.true))
    c.add_renumbered.ensures.ok

pub returns-clause-ok : goal.returns-clause-ok
returns-clause-ok c =
    subst (λ (l : List ℕ). OnOk c.push.result (c.push.new.self ≡ c.args.members.now ++ l))
    (member_stays c.args.numbering.now c.args.n
    (sym c.is_section_number.ensures ∙ c.if-is_section_number.false))
    c.push.ensures.ok
