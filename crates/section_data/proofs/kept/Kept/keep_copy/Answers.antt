use Rattle.std.proofs.Common.{Some, length, sym, ap, ◌∙◌, ◌≤◌, arith}
use Rattle.section_data.specs.Leaves.{bytes_or_none}
use Rattle.section_data.specs.Views.{home_view}
use Rattle.section_data.specs.Kept.{unboxed}
use Rattle.section_data.proofs.Keeping.{copy_kept, copy_seen, opens_same}
use Rattle.section_data.proofs.kept.Kept.keep_copy.Goals as goal

pub invariant_of-self : goal.invariant_of-self
invariant_of-self c =
    let long = ap length c.bytes.ensures in
    let fits : length (bytes_or_none c.args.self.now.raw) ≤ c.in_ok-room.room = omega (arith, long, c.in_ok-room.ensures.ok) in
    copy_kept c.self.inside.section (home_view c.self.inside.at c.self.inside.len c.self.inside.kind c.self.inside.out)
    c.self.inside.empty_read c.self.inside.has_first c.self.inside.first c.self.inside.len (unboxed c.self.inside.used) (unboxed c.self.inside.used)
    c.deref_mut.result.now c.set_held.new.self c.args.self.now c.self.invariant (opens_same (unboxed c.self.inside.used) c.deref_mut.result.now (ap unboxed c.in-Some.is ∙ ap Some (sym c.deref_mut.ensures.value)))
    (ap unboxed c.in-Some.is ∙ ap Some (sym c.deref_mut.ensures.value)) c.self.view_is c.in_ok-room.room c.requires fits c.set_held.ensures

pub returns-clause-ok : goal.returns-clause-ok
returns-clause-ok c =
    copy_seen c.self.inside.section (home_view c.self.inside.at c.self.inside.len c.self.inside.kind c.self.inside.out)
    c.self.inside.empty_read c.self.inside.has_first c.self.inside.first c.self.inside.len (unboxed c.self.inside.used) (unboxed c.self.inside.used)
    c.deref_mut.result.now c.set_held.new.self c.args.self.now c.self.invariant (opens_same (unboxed c.self.inside.used) c.deref_mut.result.now (ap unboxed c.in-Some.is ∙ ap Some (sym c.deref_mut.ensures.value)))
    (ap unboxed c.in-Some.is ∙ ap Some (sym c.deref_mut.ensures.value)) c.self.view_is c.in_ok-room.room c.requires c.set_held.ensures
