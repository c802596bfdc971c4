use Rattle.std.proofs.Common.{◌≡◌, ℕ, List, Ok, ap}
use Rattle.ar_members.specs.Members.{members_from, next_of}
use Rattle.ar_members.specs.Walks.{found_left}
use Rattle.ar_members.proofs.Told.{told_then, told_as}
use Rattle.ar_members.proofs.BodyLemmas.{found_has_body}
use Rattle.ar_members.proofs.archive.Ar.next.Goals as goal

pub returns-in-Ok-clause-bodies : goal.returns-in-Ok-clause-bodies
returns-in-Ok-clause-bodies g c =
    let place = c.self.inside.place in
    let names = c.as_slice.result.now in
    let found = c.in-Ok.found in
    let Left = λ (image : List ℕ). next_of (members_from image names place) ≡ Ok (found_left image names found) in
    told_then Left _ (told_as Left _ _ (ap (λ a. g.S.Source.holds a.source) c.self.view_is) c.in-Ok.ensures.members)
    (λ image is. found_has_body image names place found.member _ is)

pub returns-in-Ok-clause-left : goal.returns-in-Ok-clause-left
returns-in-Ok-clause-left g c =
    rw (← c.self.view_is) (rw (c.if-self.false, c.unwrap_or.ensures, c.replace-before.ensures.value)
    (rw c.as_slice.ensures at c.in-Ok.ensures.left))
