-- Words that a proof opens together. The value of the one that stands for them says nothing: what
-- counts is that a proof that unfolds it unfolds the others.
use Rattle.std.specs.Prelude.{Bool, true}
use Rattle.elf_types.specs.Names.{object_type_names, object_type_name_of, machine_names, machine_name_of, section_type_names, section_type_name_of, segment_type_names, segment_type_name_of, symbol_type_names, symbol_type_name_of, binding_names, binding_name_of, visibility_names, visibility_name_of, tag_names, tag_name_of}

-- the tables of names, and what each gives
unfoldable pub names : Bool
unfolding object_type_names object_type_name_of machine_names machine_name_of section_type_names section_type_name_of segment_type_names segment_type_name_of symbol_type_names symbol_type_name_of binding_names binding_name_of visibility_names visibility_name_of tag_names tag_name_of
names = true
