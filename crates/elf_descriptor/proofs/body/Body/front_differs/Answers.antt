use Rattle.elf_descriptor.proofs.body.Body.front_differs.Goals as goal

pub returns-in-Some : goal.returns-in-Some
returns-in-Some c =
    λ image size is passed fit.
    c.same_front.ensures image size is c.in-Some.is passed fit

pub returns-in-None : goal.returns-in-None
returns-in-None c =
    λ image size is passed fit.
    c.has_bytes.ensures image size c.args.places.now c.in-None.is is
