-- The proofs of the laws, each under the name of the function that states it.
use Rattle.std.proofs.Common.{ap, ◌∙◌}
use Rattle.elf_object.specs.Object.{Object, section_at}
use Rattle.elf_object.specs.Layout.{places_of}
use Rattle.law_object.specs.Laws.{PartsStand, BeginningsAre, CleanStays, EveryStepKeeps, PartsDoNotMeet, RefusedStays, SizesAreLengths}
use Rattle.law_object.proofs.ImageLaws.{step-refused, image-clean, placed-clean, settle-clean, placed-dirty, length-image, length-joined, size-placed, parts_apart}
use Rattle.law_object.proofs.OpenLaws.{created_is, opened_is, opened_phdrs}
use Rattle.law_object.proofs.StandLaws.{part_in_image}
use Rattle.law_object.proofs.KeepLaws as keep
use Rattle.law_object.proofs.KeepItemLaws as keep_items
use Rattle.elf_object.specs.Calls as calls
use Rattle.law_object.proofs.PlacedLaws as placed_laws

pub clean_stays : CleanStays
clean_stays = record { same_image = image-clean; same_object = placed-clean; same_settled = settle-clean }

pub refused_stays : (A : Type 0) → RefusedStays A
refused_stays A c o h = step-refused c o h

pub every_step_keeps : EveryStepKeeps
every_step_keeps = record {
  update_ehdr = keep.update_ehdr_keeps;
  update_phdr = keep.update_phdr_keeps;
  newphdr = keep.newphdr_keeps;
  phdrs_mut = keep.phdrs_mut_keeps;
  update_shdr = keep.update_shdr_keeps;
  newscn = keep.newscn_keeps;
  newnull = keep.newnull_keeps;
  newdata = keep.newdata_keeps;
  set_fill = keep.set_fill_keeps;
  replace = keep.replace_keeps;
  flag = keep.flag_keeps;
  update_null = placed_laws.update_null_keeps;
  lend = keep.lend_keeps;
  update_half = keep_items.update_half_keeps;
  update_word = keep_items.update_word_keeps;
  update_addr = keep_items.update_addr_keeps;
  update_sym = keep_items.update_sym_keeps;
  update_rel = keep_items.update_rel_keeps;
  update_rela = keep_items.update_rela_keeps;
  update_dynent = keep_items.update_dynent_keeps;
  addall = keep_items.addall_keeps;
  set_ehdr = keep_items.set_ehdr_keeps;
  set_phdr = keep_items.set_phdr_keeps;
  set_shdr = keep_items.set_shdr_keeps;
  set_half = λ s p i change. keep_items.set_item_keeps (calls.half s p i) (calls.update_half s p i) change (λ x. keep_items.update_half_keeps s p i x);
  set_word = λ s p i change. keep_items.set_item_keeps (calls.word s p i) (calls.update_word s p i) change (λ x. keep_items.update_word_keeps s p i x);
  set_addr = λ s p i change. keep_items.set_item_keeps (calls.addr s p i) (calls.update_addr s p i) change (λ x. keep_items.update_addr_keeps s p i x);
  set_sym = λ s p i change. keep_items.set_item_keeps (calls.sym s p i) (calls.update_sym s p i) change (λ x. keep_items.update_sym_keeps s p i x);
  set_rel = λ s p i change. keep_items.set_item_keeps (calls.rel s p i) (calls.update_rel s p i) change (λ x. keep_items.update_rel_keeps s p i x);
  set_rela = λ s p i change. keep_items.set_item_keeps (calls.rela s p i) (calls.update_rela s p i) change (λ x. keep_items.update_rela_keeps s p i x);
  set_dynent = λ s p i change. keep_items.set_item_keeps (calls.dynent s p i) (calls.update_dynent s p i) change (λ x. keep_items.update_dynent_keeps s p i x);
}

pub sizes_are_lengths : SizesAreLengths
sizes_are_lengths = record {
  of_pieces = length-joined;
  as_stored = λ o s dirty inside filled.
      ap (λ (q : Object). (section_at q s).header.size) (placed-dirty o dirty) ∙ size-placed (places_of o) o s inside filled;
  of_image = length-image;
}

pub parts_do_not_meet : PartsDoNotMeet
parts_do_not_meet = parts_apart

pub beginnings_are : BeginningsAre
beginnings_are = record { from_image = opened_is; phdrs = opened_phdrs; from_nothing = created_is }

pub parts_stand : (o : Object) → PartsStand o
parts_stand o i b ok dirty passed at = part_in_image o i b ok dirty passed at
