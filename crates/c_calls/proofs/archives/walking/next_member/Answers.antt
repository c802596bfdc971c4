use Rattle.std.proofs.Common.{ℕ, inl, inr, refl, subst}
use Rattle.ar_members.specs.Archives.{members_left}
use Rattle.c_handles.proofs.objects.ImageLaws.{same_image}
use Rattle.c_calls.specs.Archives.Steps.{bytes_of, step_of, step_seen, walk_seen, BodyLiesIn}
use Rattle.c_calls.proofs.archives.Given.{answer_given}
use Rattle.c_calls.proofs.archives.Stepped.{step_refused, three_same, lies_in}
use Rattle.c_calls.proofs.archives.walking.next_member.Goals as goal

pub returns-in-Ok-clause-steps : goal.returns-in-Ok-clause-steps
returns-in-Ok-clause-steps c =
    let old = c.args.archive.now in
    let left = members_left (bytes_of old) c.next.new.self.walk in
    answer_given step_seen (step_of old) (walk_seen (bytes_of old) c.args.out.now old)
    (c.in-Ok.member, left) (c.of.result, c.into_name.result, left) c.in-Ok.ensures.members
    (three_same _ _ _ _ left c.of.ensures c.into_name.ensures)

pub returns-in-Ok-clause-lies : goal.returns-in-Ok-clause-lies
returns-in-Ok-clause-lies c =
    let old = c.args.archive.now in
    inr (subst (λ (size : ℕ). BodyLiesIn size c.of.result) old.ar.source.sized
    (lies_in old.ar.walk.place old.ar.source.size c.next.new.self.walk.place c.in-Ok.member
    c.of.result c.of.ensures c.in-Ok.ensures.lies))

pub returns-in-Ok-clause-image : goal.returns-in-Ok-clause-image
returns-in-Ok-clause-image c =
    same_image c.args.archive.now.ar.source c.next.new.self.source c.in-Ok.ensures.asks.leaves

pub returns-in-Err-clause-steps : goal.returns-in-Err-clause-steps
returns-in-Err-clause-steps c =
    let old = c.args.archive.now in
    step_refused (bytes_of old) old.ar.walk c.next.new.self.walk c.args.out.now old.name
    c.in-Err.e c.code_of.result c.code_of.ensures c.in-Err.ensures.walk
    c.in-Err.ensures.asks.read c.in-Err.ensures.members

pub returns-in-Err-clause-lies : goal.returns-in-Err-clause-lies
returns-in-Err-clause-lies c = inl refl

pub returns-in-Err-clause-image : goal.returns-in-Err-clause-image
returns-in-Err-clause-image c =
    same_image c.args.archive.now.ar.source c.next.new.self.source c.in-Err.ensures.asks.leaves
