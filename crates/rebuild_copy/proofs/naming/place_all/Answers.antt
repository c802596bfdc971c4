use Rattle.std.proofs.Common.{◌+◌, ◌-◌, ℕ, Bool, List, length, map, sym, ap, ◌∙◌, subst}
use Rattle.std.specs.Prelude.{IfOk}
use Rattle.rebuild_changes.specs.declared.changes.NameBytes.{NameBytes}
use Rattle.rebuild_edits.specs.Texts.{all_texts, AddsTo}
use Rattle.rebuild_edits.proofs.TextLaws.{texts_long, texts_behind}
use Rattle.rebuild_copy.proofs.naming.place_all.Goals as goal

pub place_added-requires : goal.place_added-requires
place_added-requires c = rw c.as_slice.ensures c.requires.plain.add

pub returns-then-not-fits-clause-added : goal.returns-then-not-fits-clause-added
returns-then-not-fits-clause-added c = λ o p is.
    subst (λ (b : Bool). AddsTo (all_texts p c.args.marks.now c.args.changes.now)
    c.place_sections.new.making.strings c.place_sections.new.making.places
    (length p.sections - 1) b) c.if-not-fits.true (c.in-Ok.ensures.added o p is)

pub returns-else-not-fits-clause-added : goal.returns-else-not-fits-clause-added
returns-else-not-fits-clause-added c = λ o p is.
    let marks = c.args.marks.now in
    let changes = c.args.changes.now in
    let texts = all_texts p marks changes in
    let n = length p.sections - 1 in
    subst (λ (m : ℕ). IfOk c.place_added.result (AddsTo texts c.place_added.new.making.strings
    c.place_added.new.making.places m))
    (ap (λ (l : List NameBytes). n + length l) c.as_slice.ensures
    ∙ sym (texts_long p marks changes))
    (c.place_added.ensures.added texts n
    (texts_behind p marks changes
    ∙ ap (λ (l : List NameBytes). map (λ (a : NameBytes). a.name) l) (sym c.as_slice.ensures))
    (subst (λ (b : Bool). AddsTo texts c.place_sections.new.making.strings
    c.place_sections.new.making.places n b) c.if-not-fits.false (c.in-Ok.ensures.added o p is)))
