use Rattle.std.proofs.Common.{ℕ, Some, None, sym, ◌∙◌, subst}
use Rattle.std.specs.Prelude.{IfOk}
use Rattle.symbol_lookup.specs.elf_object.Answers.{count_at}
use Rattle.hash_order.specs.declared.nexts.Next.{Next}
use Rattle.hash_order.specs.declared.nexts.Next.TheVariants as nexts
use Rattle.hash_order.specs.Kinds.{CanFollow}
use Rattle.hash_order.specs.Plans.{IsStatedNext, planned_signature}
use Rattle.hash_order.specs.Calls.{all_homes}
use Rattle.hash_order.proofs.FollowLaws.{by_index, section_passed, follower_passed, follower_moves, follower_home, plan_other, plan_group, plan_kind, linked_is, kind_is}
use Rattle.hash_order.proofs.PlanLaws.{order_below, signature_next, signature_ready, not_first}
use Rattle.hash_order.proofs.ReadLaws.{homes_nothing}
use Rattle.hash_order.proofs.planning.plan_section.Goals as goal

pub returns-then-header-s-clause-next : goal.returns-then-header-s-clause-next
returns-then-header-s-clause-next g c =
    subst (λ (x : Next). IsStatedNext c.args.elf.now.told nexts.Stay x)
    (sym (plan_other c.args.elf.now.o c.args.s.0 c.args.n c.args.order.now
    c.section_header-header.result c.section_header-header.ensures
    c.if-header-s.true)) tt

pub returns-then-header-s-clause-reads : goal.returns-then-header-s-clause-reads
returns-then-header-s-clause-reads g c =
    homes_nothing g.S.Source (all_homes c.args.elf.now.o c.args.s.0) nexts.Stay c.args.elf.now

pub plan_signature-requires-clause-below : goal.plan_signature-requires-clause-below
plan_signature-requires-clause-below g c = order_below c.args.order.now _ c.requires.order

pub returns-then-is_group-clause-next : goal.returns-then-is_group-clause-next
returns-then-is_group-clause-next g c =
    rw c.plan_signature.ensures
    (subst (λ (x : Next). IsStatedNext c.args.elf.now.told
    (planned_signature c.args.order.now c.section_header-header.result.info) x)
    (sym (plan_group c.args.elf.now.o c.args.s.0 c.args.n c.args.order.now
    c.section_header-header.result c.section_header-header.ensures
    c.if-header-s.false (sym c.is_group.ensures ∙ c.if-is_group.true)))
    (signature_next c.args.order.now c.section_header-header.result.info c.args.elf.now.told))

pub returns-then-is_group-clause-ready : goal.returns-then-is_group-clause-ready
returns-then-is_group-clause-ready g c =
    rw c.plan_signature.ensures
    (signature_ready c.args.order.now c.section_header-header.result.info c.args.elf.now c.args.n
    c.dirty-dirty.ensures.sound.object c.requires.there
    (not_first _ c.args.n (sym c.is_group.ensures ∙ c.if-is_group.true)))

pub returns-then-is_group-clause-reads : goal.returns-then-is_group-clause-reads
returns-then-is_group-clause-reads g c =
    homes_nothing g.S.Source (all_homes c.args.elf.now.o c.args.s.0) c.plan_signature.result
    c.args.elf.now

pub plan_items-requires-clause-below : goal.plan_items-requires-clause-below
plan_items-requires-clause-below g c = order_below c.args.order.now _ c.requires.order

pub plan_items-requires-clause-kind : goal.plan_items-requires-clause-kind
plan_items-requires-clause-kind g c =
    by_index c.section_header-header.result.stype c.in-Some.kind (sym c.in-Some.ensures)

pub plan_items-requires-clause-passed : goal.plan_items-requires-clause-passed
plan_items-requires-clause-passed g c =
    let o = c.args.elf.now.o in
    follower_passed o c.args.s.0 c.args.n c.in-Some.kind
    (linked_is o c.args.s.0 c.args.n _ c.section_header-header.ensures
    c.if-header-s.false)
    (kind_is o c.args.n _ c.section_header-header.ensures c.in-Some.kind c.in-Some.ensures)
    (section_passed o c.args.s.0 c.args.n c.requires.passed c.requires.there)

pub plan_items-requires-clause-moves : goal.plan_items-requires-clause-moves
plan_items-requires-clause-moves g c =
    let o = c.args.elf.now.o in
    subst (λ (m : ℕ). CanFollow m c.in-Some.kind (count_at o c.args.n 0))
    (sym c.requires.order.long)
    (follower_moves o c.args.s.0 c.args.n c.in-Some.kind
    (linked_is o c.args.s.0 c.args.n _ c.section_header-header.ensures
    c.if-header-s.false)
    (kind_is o c.args.n _ c.section_header-header.ensures c.in-Some.kind c.in-Some.ensures)
    (section_passed o c.args.s.0 c.args.n c.requires.passed c.requires.there))

pub returns-in-Some-clause-next : goal.returns-in-Some-clause-next
returns-in-Some-clause-next g c =
    subst (λ (y : Next). IfOk c.plan_items.result (λ x. IsStatedNext c.args.elf.now.told x y))
    (sym (plan_kind c.args.elf.now.o c.args.s.0 c.args.n c.args.order.now
    c.section_header-header.result c.section_header-header.ensures (Some c.in-Some.kind)
    c.if-header-s.false (sym c.is_group.ensures ∙ c.if-is_group.false)
    c.in-Some.ensures)) c.plan_items.ensures.next

pub returns-in-Some-clause-reads : goal.returns-in-Some-clause-reads
returns-in-Some-clause-reads g c =
    let o = c.args.elf.now.o in
    c.plan_items.ensures.reads (all_homes o c.args.s.0)
    (λ clean. follower_home o c.args.s.0 c.args.n c.requires.there clean c.in-Some.kind
    (linked_is o c.args.s.0 c.args.n _ c.section_header-header.ensures
    c.if-header-s.false)
    (kind_is o c.args.n _ c.section_header-header.ensures c.in-Some.kind c.in-Some.ensures))

pub returns-in-None-clause-next : goal.returns-in-None-clause-next
returns-in-None-clause-next g c =
    subst (λ (x : Next). IsStatedNext c.args.elf.now.told nexts.Stay x)
    (sym (plan_kind c.args.elf.now.o c.args.s.0 c.args.n c.args.order.now
    c.section_header-header.result c.section_header-header.ensures None
    c.if-header-s.false (sym c.is_group.ensures ∙ c.if-is_group.false)
    c.in-None.ensures)) tt

pub returns-in-None-clause-reads : goal.returns-in-None-clause-reads
returns-in-None-clause-reads g c =
    homes_nothing g.S.Source (all_homes c.args.elf.now.o c.args.s.0) nexts.Stay c.args.elf.now
