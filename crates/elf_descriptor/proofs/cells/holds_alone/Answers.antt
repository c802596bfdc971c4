use Rattle.elf_descriptor.proofs.cells.holds_alone.Goals as goal

pub returns : goal.returns
returns c = λ is. record {
  inside = c.is_held.ensures.inside c.if-not-is_held.false;
  alone = c.has_one_clean.ensures.alone c.if-not-has_one_clean.false;
  clean = c.has_one_clean.ensures.clean c.if-not-has_one_clean.false;
  of_bytes = c.is_of_bytes.ensures.kind c.if-not-is_of_bytes.false;
  loaded = c.is_held.ensures.loaded c.if-not-is_held.false;
  within = c.is_of_bytes.ensures.within c.if-not-is_of_bytes.false;
}
