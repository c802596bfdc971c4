-- The names of sections among the words of copy.
use Rattle.std.specs.Prelude.{◌≡◌, ◌==◌, List, ℕ, Bool, true, not}
use Rattle.std.specs.List.{list_any, list_all}
use Rattle.rebuild_changes.specs.declared.options.CopyChanges.{CopyChanges}

-- a name of a section holds no NUL byte
unfoldable pub is_section_name : List ℕ → Bool
is_section_name word = not (list_any (λ c. c == 0) word)

-- no name of a section holds a NUL byte
pub record HasNames (changes : CopyChanges) : Type 0 where
  pub remove : list_all is_section_name changes.remove ≡ true
  pub update : list_all (λ n. is_section_name n.name) changes.update ≡ true
  pub rename_old : list_all (λ n. is_section_name n.old) changes.rename ≡ true
  pub rename_new : list_all (λ n. is_section_name n.new) changes.rename ≡ true
  pub flags : list_all (λ n. is_section_name n.name) changes.flags ≡ true
  pub add : list_all (λ n. is_section_name n.name) changes.add ≡ true
