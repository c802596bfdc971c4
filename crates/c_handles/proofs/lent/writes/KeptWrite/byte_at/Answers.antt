use Rattle.std.proofs.Common.{◌-◌, sym, ◌∙◌, arith}
use Rattle.std.proofs.lemmas.Option.{slice_get_within, get_or_from_slice_get}
use Rattle.c_handles.proofs.lent.WriteLaws.{past_write, before_write, inside_write, behind_write, slice_get_missed}
use Rattle.c_handles.proofs.lent.writes.KeptWrite.byte_at.Goals as goal

pub returns-then-self-place : goal.returns-then-self-place
returns-then-self-place c bytes is =
    past_write bytes c.args.self.now c.requires c.args.place c.if-self-place.true

pub returns-then-place-self : goal.returns-then-place-self
returns-then-place-self c bytes is =
    before_write bytes c.args.self.now c.requires c.args.place c.args.byte c.if-self-place.false
    c.if-place-self.true is

pub returns-in-Some : goal.returns-in-Some
returns-in-Some c bytes is =
    let found = sym c.get.ensures ∙ c.in-Some.is in
    let within = slice_get_within c.args.self.now.bytes (c.args.place - c.args.self.now.at)
    c.in-Some.own found in
    inside_write bytes c.args.self.now c.requires c.args.place c.in-Some.own c.if-place-self.false
    (omega (arith, within, c.if-place-self.false))
    (sym (get_or_from_slice_get c.args.self.now.bytes (c.args.place - c.args.self.now.at)
    c.in-Some.own 0 found))

pub returns-in-None : goal.returns-in-None
returns-in-None c bytes is =
    let past = slice_get_missed c.args.self.now.bytes (c.args.place - c.args.self.now.at)
    (sym c.get.ensures ∙ c.in-None.is) in
    behind_write bytes c.args.self.now c.requires c.args.place c.args.byte c.if-self-place.false
    (omega (arith, past, c.if-place-self.false)) is
