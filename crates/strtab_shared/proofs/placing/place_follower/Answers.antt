use Rattle.std.proofs.Common.{◌≡◌, eqb, cond, Some, length, refl, ap, ◌∙◌}
use Rattle.std.specs.Ordering.{nat_cmp}
use Rattle.std.specs.BTreeMap.{get}
use Rattle.strtab_shared.specs.Hashes.{digest_of}
use Rattle.strtab_shared.proofs.PlaceLaws.{with_follower, places_held, places_last, noted_some, updated}
use Rattle.strtab_shared.proofs.placing.place_follower.Goals as goal

pub returns-in-Ok-clause-places : goal.returns-in-Ok-clause-places
returns-in-Ok-clause-places c =
    places_held c.args.parts.now c.args.name.now c.in-Ok.offset c.requires.kept
    c.in-Ok.ensures.held

pub returns-clause-places : goal.returns-clause-places
returns-clause-places c =
    let p = c.args.parts.now in
    let linked : c.in_ok-older.older ≡ get nat_cmp p.newest (digest_of c.args.name.now) =
    c.in_ok-older.ensures.old ∙ ap (get nat_cmp p.newest) c.in-Err.ensures.digest in
    places_last p c.args.name.now c.in_ok-older.older (get nat_cmp p.first)
    (get nat_cmp c.insert.new.self) c.requires.kept c.in-Err.ensures.new c.requires.fits
    (λ entries start is. with_follower p c.args.name.now
    (record { start = start; len = length c.args.name.now; older = c.in_ok-older.older }) entries
    c.requires.kept is (get nat_cmp c.insert.new.self) (noted_some _ _ c.requires.first) linked
    (λ q. updated p.newest c.insert.new.self c.in-Err.digest c.next_index-index.result
    c.in_ok-older.ensures.updates q
    ∙ (λ j. cond (eqb (c.in-Err.ensures.digest j) q) (Some (c.next_index-index.ensures j))
    (get nat_cmp p.newest q))))
    (record p { newest = c.insert.new.self }) c.put_last.new.parts c.put_last.result refl refl refl
    refl c.put_last.ensures.ok c.put_last.ensures.none
