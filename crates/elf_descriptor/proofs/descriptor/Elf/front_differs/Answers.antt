use Rattle.std.proofs.Common.{◌≡◌, None, sym, subst}
use Rattle.section_table.specs.elf_object.Changed.{front_differs}
use Rattle.section_table.specs.elf_object.Refusal.{content_refusal}
use Rattle.elf_descriptor.specs.Places.{PartsFitAt}
use Rattle.elf_descriptor.specs.State.{State}
use Rattle.elf_descriptor.proofs.FittingPlaces.{fitting_count}
use Rattle.elf_descriptor.proofs.descriptor.Elf.front_differs.Goals as goal

pub front_differs-requires-clause-counts : goal.front_differs-requires-clause-counts
front_differs-requires-clause-counts g c = c.self.invariant.counts

pub front_differs-requires-clause-places : goal.front_differs-requires-clause-places
front_differs-requires-clause-places g c =
    let Fit : State g.row.S.Denot → Type 0 = λ st. PartsFitAt st.o c.args.places.now in
    fitting_count _ _ c.self.inside.body c.args.places.now
    (subst Fit (sym c.self.view_is) c.requires.places)

pub returns : goal.returns
returns g c =
    let image = g.S.Source.holds c.self.inside.src in
    let size = g.S.Source.size c.self.inside.src in
    let Passed : State g.row.S.Denot → Type 0 = λ st. content_refusal st.o ≡ None in
    let Fit : State g.row.S.Denot → Type 0 = λ st. PartsFitAt st.o c.args.places.now in
    let Told : State g.row.S.Denot → Type 0 =
    λ st. c.front_differs.result ≡ front_differs c.args.places.now st.o c.args.part in
    subst Told c.self.view_is
    (c.front_differs.ensures image size c.self.invariant
    (subst Passed (sym c.self.view_is) c.requires.contents)
    (subst Fit (sym c.self.view_is) c.requires.places))
