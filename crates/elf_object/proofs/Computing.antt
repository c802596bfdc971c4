-- All words at once, for proofs by computation.
use Rattle.std.specs.Prelude.{Bool, true}
use lib.Count.{ones}
use Rattle.elf_types.specs.Kinds.{is_compressed, kind_of_type, section_kind}
use Rattle.elf_ident.specs.elf_xlate.Numbers.{by_weight, weighed, number_of, number_at, lowest_bytes, octets, signed_of, unsigned_of}
use Rattle.elf_ident.specs.elf_xlate.Fields.{number_in, written, written_in, record_bytes}
use Rattle.elf_ident.specs.elf_xlate.Items.{half_fields, half_of, half_bytes, word_fields, word_of, word_bytes, addr_fields, addr_of, addr_bytes, sym_fields, sym_of, sym_bytes, sym_fits, rel_fields, rel_of, rel_bytes, rel_fits, rela_fields, rela_of, rela_bytes, rela_fits, dyn_fields, dyn_of, dyn_bytes, dyn_fits}
use Rattle.elf_ident.specs.elf_xlate.Headers.{ehdr_fields, ehdr_of, ident, ehdr_bytes, ehdr_fits, phdr_fields, phdr_of, phdr_bytes, phdr_fits, shdr_fields, shdr_of, shdr_bytes, shdr_fits}
use Rattle.elf_ident.specs.elf_xlate.Translation.{items_of, listed, decoded, encoded, first_unfit}
use Rattle.elf_layout.specs.Layout.{rounded_up, place_of, end_after, in_order_from, standing, length_with, length_from, length_of, positions, places_of, limit_of, some_above, is_too_large, overlap_refusal, refusal_within, refusal_of}
use Rattle.elf_layout.specs.Meeting.{has_bytes, end_of, meets, parts_by_position, first_met, overlap_of}
use Rattle.elf_ident.specs.Front.{no_ident, ident_in, header_at, header_in, zero_shdr, first_section, true_shnum, true_shstrndx, true_phnum, header_refusal, count_refusal, counts_by, counts_in, phdrs_at, shdrs_at, front_at, head_in, front}
use Rattle.strtab_build.specs.Table.{string_at}
use Rattle.elf_object.specs.Blocks.{block_end, block_covers, is_covered, byte_over, spread, stacked, last_end, same_extent, extents_meet, same_block}
use Rattle.elf_object.specs.Object.{section_at, piece_at, header_of, has_file_bytes, home_is_clean, is_allocated, some_piece_marked, some_section_marked, is_dirty}
use Rattle.elf_object.specs.Open.{home_len, home_of, home_bytes, opened_section, phdrs_bytes, shdrs_bytes, front_in_image, standing_header, begun, opened, created_over}
use Rattle.elf_object.specs.Answers.{content, items_at, kind_at, count_at, piece_count, no_content, piece_refusal, data_refusal, raw_refusal, lend_refusal, item_refusal, flags_of, part_refusal}
use Rattle.elf_object.specs.Joined.{piece_bytes, aligned_pieces, piece_blocks, pieces_end, file_bytes}
use Rattle.elf_object.specs.Derived.{derived_header, written_header, numbered_shdr}
use Rattle.elf_object.specs.Layout.{section_part, parts_of, placed_parts, places_of as layout_places_of, placed_header, placed_shdr, placed_section, placed_by, placed}
use Rattle.elf_object.specs.Image.{front_blocks, section_block, part_blocks, kept_base, uncovered_byte, image_length, image, is_fill_place}
use Rattle.elf_object.specs.Refusal.{too_many, unfit_segment, unfit_in_piece, unfit_in_section, unfit_item, missing_in_section, missing_home, content_refusal, placing_refusal, refusal}
use Rattle.elf_object.specs.Settled.{settled_section, settled_over, settle, untold, settled}
use Rattle.elf_object.specs.Changed.{front_differs, header_changed, segments_changed, table_changed, is_at_home, section_changed, changed_parts, changed, changed_blocks, fill_places, changed_bytes, is_disturbed, is_moved, torn_section, torn_over, torn}
use Rattle.elf_object.specs.Due.{is_loaded, holds_items, home_due, homes_due, when_clean, when_piece_clean, with_others, update_to_due, update_in_place_due}
use Rattle.elf_object.specs.Steps.{with_section, with_piece_at, stored_ehdr, with_ehdr, with_phdrs, with_phdr, with_new_phdrs, with_shdr, with_new_section, with_null_section, with_new_piece, with_own, with_mark, with_flags, with_fill}
use Rattle.elf_object.specs.Calls.{step, phdr_answer, shdr_answer, pieces_answer, home_answer, piece_kind_answer, piece_align_answer, flags_answer, data_answer, raw_answer, half_answer, word_answer, addr_answer, sym_answer, rel_answer, rela_answer, dyn_answer, update_ehdr_refusal, update_phdr_refusal, update_shdr_refusal, is_piece_align, newdata_refusal, replace_refusal, flag_refusal, update_item_refusal}
use Rattle.elf_object.specs.Runs.{answers_to, left_by, added}
use Rattle.elf_object.specs.SymbolSections.{shndx_table, extended_index, place_of_symbol}
use Rattle.elf_object.specs.Strings.{holds_strings, piece_over, string_refusal_unread, string_refusal, string_answer, section_name, symbol_name}
use Rattle.elf_object.specs.Samples.{small64, small32, five64, tailed64, header64, with_number, crowded64, object_in}

-- its value says nothing: what counts is that a proof that unfolds it unfolds the others
unfoldable pub all_words : Bool
unfolding ones is_compressed kind_of_type section_kind by_weight weighed number_of number_at lowest_bytes octets signed_of unsigned_of number_in written written_in record_bytes half_fields half_of half_bytes word_fields word_of word_bytes addr_fields addr_of addr_bytes sym_fields sym_of sym_bytes sym_fits rel_fields rel_of rel_bytes rel_fits rela_fields rela_of rela_bytes rela_fits dyn_fields dyn_of dyn_bytes dyn_fits ehdr_fields ehdr_of ident ehdr_bytes ehdr_fits phdr_fields phdr_of phdr_bytes phdr_fits shdr_fields shdr_of shdr_bytes shdr_fits items_of listed decoded encoded first_unfit rounded_up place_of end_after in_order_from standing length_with length_from length_of positions places_of limit_of some_above is_too_large overlap_refusal refusal_within refusal_of has_bytes end_of meets parts_by_position first_met overlap_of no_ident ident_in header_at header_in zero_shdr first_section true_shnum true_shstrndx true_phnum header_refusal count_refusal counts_by counts_in phdrs_at shdrs_at front_at head_in front block_end block_covers is_covered byte_over spread stacked last_end same_extent extents_meet same_block section_at piece_at header_of has_file_bytes home_is_clean is_allocated some_piece_marked some_section_marked is_dirty home_len home_of home_bytes opened_section phdrs_bytes shdrs_bytes front_in_image standing_header begun opened created_over content items_at kind_at count_at piece_count no_content piece_refusal data_refusal raw_refusal lend_refusal item_refusal flags_of part_refusal piece_bytes aligned_pieces piece_blocks pieces_end file_bytes derived_header written_header numbered_shdr section_part parts_of placed_parts layout_places_of placed_header placed_shdr placed_section placed_by placed front_blocks section_block part_blocks kept_base uncovered_byte image_length image is_fill_place too_many unfit_segment unfit_in_piece unfit_in_section unfit_item missing_in_section missing_home content_refusal placing_refusal refusal settled_section settled_over settle untold settled front_differs header_changed segments_changed table_changed is_at_home section_changed changed_parts changed changed_blocks fill_places changed_bytes is_disturbed is_moved torn_section torn_over torn is_loaded holds_items home_due homes_due when_clean when_piece_clean with_others update_to_due update_in_place_due with_section with_piece_at stored_ehdr with_ehdr with_phdrs with_phdr with_new_phdrs with_shdr with_new_section with_null_section with_new_piece with_own with_mark with_flags with_fill step phdr_answer shdr_answer pieces_answer home_answer piece_kind_answer piece_align_answer flags_answer data_answer raw_answer half_answer word_answer addr_answer sym_answer rel_answer rela_answer dyn_answer update_ehdr_refusal update_phdr_refusal update_shdr_refusal is_piece_align newdata_refusal replace_refusal flag_refusal update_item_refusal answers_to left_by added shndx_table extended_index place_of_symbol string_at holds_strings piece_over string_refusal_unread string_refusal string_answer section_name symbol_name small64 small32 five64 tailed64 header64 with_number crowded64 object_in
all_words = true
