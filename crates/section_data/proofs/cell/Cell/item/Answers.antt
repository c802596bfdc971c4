use Rattle.std.proofs.Common.{◌≡◌, sym, ap, ◌∙◌}
use Rattle.std.specs.Prelude.{is_some}
use Rattle.elf_object.specs.Object.{Piece}
use Rattle.elf_object.specs.Answers.{entry_at}
use Rattle.elf_object.specs.elf_xlate.declared.content.Items.{Items}
use Rattle.section_data.proofs.Holdings.{kind_own, kind_clean, items_own, items_raw, hand_loaded, hand_whole}
use Rattle.section_data.proofs.cell.Cell.item.Goals as goal

pub list-requires : goal.list-requires
list-requires g c =
    let own = ap (λ (q : Piece). q.own) (sym c.piece-piece.ensures.value) ∙ c.items.ensures in
    sym (kind_own c.args.self.now c.args.p c.items.result.now own) ∙ c.requires.kind

pub returns-then-is_own-clause-value : goal.returns-then-is_own-clause-value
returns-then-is_own-clause-value g c =
    let own = ap (λ (q : Piece). q.own) (sym c.piece-piece.ensures.value) ∙ c.items.ensures in
    let same = items_own c.args.class c.args.order c.args.self.now c.args.p c.items.result.now own in
    c.entry.ensures ∙ ap (λ l. entry_at l c.args.i) (c.list.ensures.value ∙ ap g.T.Listed.list_of (sym same))

pub bytes-requires : goal.bytes-requires
bytes-requires g c =
    let clean : is_some (c.piece-piece.result.now).own ≡ _ = sym c.is_own.ensures.value ∙ c.if-is_own.false in
    let there = ap (λ (q : Piece). is_some q.own) (sym c.piece-piece.ensures.value) ∙ clean in
    hand_loaded c.args.class c.args.self.now c.args.p c.requires.there there

pub item_in-requires : goal.item_in-requires
item_in-requires g c =
    let clean = sym c.is_own.ensures.value ∙ c.if-is_own.false in
    let there = ap (λ (q : Piece). is_some q.own) (sym c.piece-piece.ensures.value) ∙ clean in
    let kind = sym (kind_clean c.args.self.now c.args.p there) ∙ c.requires.kind in
    rw (c.bytes.ensures.len, ← kind) (hand_whole c.args.class c.args.self.now c.args.p c.requires.there there)

pub returns-clause-value : goal.returns-clause-value
returns-clause-value g c =
    let clean = sym c.is_own.ensures.value ∙ c.if-is_own.false in
    let there = ap (λ (q : Piece). is_some q.own) (sym c.piece-piece.ensures.value) ∙ clean in
    let kind = sym (kind_clean c.args.self.now c.args.p there) ∙ c.requires.kind in
    let same = items_raw c.args.class c.args.order c.args.self.now c.args.p _ c.bytes.result.now there kind c.bytes.ensures.value in
    c.item_in.ensures ∙ ap (λ (i : Items). entry_at (g.T.Listed.list_of i) c.args.i) (sym same)
