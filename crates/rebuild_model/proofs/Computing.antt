-- All words of this crate and of the object at once, for proofs by computation.
use Rattle.std.specs.Prelude.{Bool, true}
use Rattle.std.specs.Fmt.{digits}
use Rattle.hash_model.specs.strtab_build.Table.{distinct, strings, table as string_table, place_of as string_place}
use Rattle.hash_model.proofs.elf_object.Computing.{all_words as object_words}
use Rattle.rebuild_model.specs.Arranged.{loaded_end, base_end, tail_of, over_base, movable, parts_from, place_from, section_from, placed_from, tail_refusal, arranged}
use Rattle.hash_model.specs.BuiltHashes.{buckets_of, in_bucket, next_in, sysv_built, gnu_order_of, first_unsorted, hashes_of, bloom_word, chain_word, first_listed, gnu_built, hash_refusal, build_sysv_answer, gnu_order_answer, unsorted, build_gnu_answer}
use Rattle.rebuild_model.specs.Copied.{names_in, section_named, update_fault, with_bytes, with_name, with_section_flags, with_added, with_names, named, with_changes, copied}
use Rattle.rebuild_model.specs.Executable.{executable64, stripped_executable64, debug_executable64, combined_executable64}
use Rattle.rebuild_model.specs.Files.{file_of}
use Rattle.rebuild_model.specs.Followed.{kept_sections, kept_from_1, is_section_number, renumbered, followed, followed_header, followed_group, followed_sym, followed_extended, followed_word, followed_syms, followed_words, symbols_follow, members_follow, extended_table, indexes_follow, words_for}
use Rattle.rebuild_model.specs.Generated.{generated_section_names, generated_symbol_names, generated_data, generated_sym, generated_symtab, generated_strtab, generated_sections, generated, generated_and_shifted, symbols_in, five_lines, told_lines}
use Rattle.hash_model.specs.HashSections.{sysv_words, sysv_in, sysv_chain, sysv_chain_of, is_whole_sysv, gnu_bytes, gnu_head, gnu_chains_at, gnu_in, passes, gnu_chain, gnu_chain_from, is_found_gnu, is_whole_gnu}
use Rattle.hash_model.specs.Hashes.{elf_hash_step, elf_hash, gnu_hash}
use Rattle.hash_model.specs.Listed.{listed_name, listed_names, find_linear_answer}
use Rattle.rebuild_model.specs.Programs.{program_file, small_file, grouped_file, dynamic_file}
use Rattle.rebuild_model.specs.Rebuilt.{has_names_alone, renews_names, kept_names, made_section, kept_items, rebuilt_items, rebuilt_name, rebuilt_header, rebuilt_section, assembled, rebuilt_sections, rebuilt_index, rebuilt_tail, rebuilt_object, kept_refusal, table_refusal, index_refusal, rebuild_refusal, rebuilt, stripped}
use Rattle.rebuild_model.specs.Rehashed.{dynamic_symbols, gnu_section, sysv_section, shape_of, nbucket_of, with_gnu, with_sysv, rehashed_at, rehashed}
use Rattle.rebuild_model.specs.Removed.{removable, with_found, is_debug_name, is_named, is_debug_data, relocates_removed, needs_symbols, is_unneeded_symtab, indexes_removed, linking_to, has_removed_users, with_followers, removed_sections, removed_by_name}
use Rattle.hash_model.specs.Reordered.{in_order, new_index, reordered_section, reordered, reorder_refusal_of, reorder_refusal}
use Rattle.rebuild_model.specs.Samples.{one_section64}
use Rattle.rebuild_model.specs.Split.{is_loaded_from_file, debug_section, debug_half, debug_refusal, debug_of, removed_allocated, same_header, same_phdr, same_loaded, allocated, matches, counterpart, combined_section, combined_object, combined_raw_refusal, combine_fault, unstripped}
use Rattle.hash_model.specs.elf_object.Sections.{is_allocated, is_relocations, info_is_section, is_of, is_loose, is_among, greatest, in_turn}

-- its value says nothing: what counts is that a proof that unfolds it unfolds the others
unfoldable pub all_words : Bool
unfolding object_words digits distinct strings string_table string_place loaded_end
    base_end tail_of over_base movable parts_from place_from section_from placed_from tail_refusal
    arranged buckets_of in_bucket next_in sysv_built gnu_order_of first_unsorted hashes_of
    bloom_word chain_word first_listed gnu_built hash_refusal build_sysv_answer gnu_order_answer
    unsorted build_gnu_answer names_in section_named update_fault with_bytes with_name
    with_section_flags with_added with_names named with_changes copied file_of kept_sections
    kept_from_1 is_section_number renumbered followed followed_header followed_group followed_sym
    followed_extended followed_word followed_syms followed_words symbols_follow members_follow
    extended_table indexes_follow words_for generated_section_names generated_symbol_names
    generated_data generated_sym generated_symtab generated_strtab generated_sections generated
    generated_and_shifted symbols_in five_lines told_lines sysv_words sysv_in sysv_chain sysv_chain_of
    is_whole_sysv gnu_bytes gnu_head gnu_chains_at gnu_in passes gnu_chain gnu_chain_from
    is_found_gnu is_whole_gnu elf_hash_step elf_hash gnu_hash listed_name listed_names
    find_linear_answer program_file small_file grouped_file dynamic_file one_section64
    executable64 stripped_executable64 debug_executable64 combined_executable64
    has_names_alone
    renews_names kept_names made_section kept_items rebuilt_items rebuilt_name rebuilt_header
    rebuilt_section assembled rebuilt_sections rebuilt_index rebuilt_tail rebuilt_object
    kept_refusal table_refusal index_refusal rebuild_refusal rebuilt stripped dynamic_symbols
    gnu_section sysv_section shape_of nbucket_of with_gnu with_sysv rehashed_at rehashed removable
    with_found is_debug_name is_named is_debug_data relocates_removed needs_symbols
    is_unneeded_symtab indexes_removed linking_to has_removed_users with_followers
    removed_sections removed_by_name in_order new_index reordered_section reordered
    reorder_refusal_of reorder_refusal is_loaded_from_file debug_section debug_half debug_refusal
    debug_of removed_allocated same_header same_phdr same_loaded allocated matches counterpart
    combined_section combined_object combined_raw_refusal combine_fault unstripped is_allocated is_relocations
    info_is_section is_of is_loose is_among greatest in_turn
all_words = true
