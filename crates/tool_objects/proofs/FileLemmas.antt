-- A file that is an image or an archive, by its kind.
use Rattle.std.proofs.Common.{◌≡◌, ◌≢◌, ◌+◌, ◌≤◌, ℕ, Bool, List, Option, None, Result, Ok, Err, IfSome, OnOk, refl, arith}
use Rattle.elf_types.specs.declared.errors.ElfError.{ElfError}
use Rattle.elf_types.specs.Answers.{Follows}
use Rattle.gelf_view.specs.elf_ident.declared.file_kinds.FileKind.{FileKind}
use Rattle.gelf_view.specs.elf_ident.declared.file_kinds.FileKind.TheVariants.{Archive, Elf, Other}
use Rattle.gelf_view.specs.elf_ident.FileKinds.{file_kind}
use Rattle.ar_members.proofs.Told.{told_by, told_then, told_both, told_as}
use Rattle.tool_output.specs.declared.stops.Stop.{Stop}
use Rattle.tool_output.specs.Stops.{stop_of}
use Rattle.tool_output.specs.Names.{Name}
use Rattle.tool_output.specs.Reports.{Report}
use Rattle.tool_output.proofs.SourceLemmas.{stated_error}
use Rattle.tool_objects.specs.Files.{report_by, file_report, asks_by, file_asks}
use Rattle.tool_objects.proofs.ImageLemmas.{file_kind_is}

-- ---- What is said of it

module _ (of_image of_archive : Name → List ℕ → Report) (name : Name) (holds : Option (List ℕ)) where
  pub file_is_archive : IfSome holds (λ bytes. Follows (Ok Archive) (Ok (file_kind bytes)))
      → IfSome holds (λ bytes. file_report of_image of_archive name bytes ≡ of_archive name bytes)
  unfolding file_report
  file_is_archive kind =
      told_then (λ bytes. Follows (Ok Archive) (Ok (file_kind bytes))) holds kind (λ bytes is. rw (file_kind_is (file_kind bytes) Archive is) refl)

  by_other : (k : FileKind) (bytes : List ℕ) → k ≢ Archive → report_by of_image of_archive k name bytes ≡ of_image name bytes
  by_other Archive bytes other = absurd (other refl)
  by_other Elf bytes other = refl
  by_other Other bytes other = refl

  pub file_is_image : (k : FileKind) → IfSome holds (λ bytes. Follows (Ok k) (Ok (file_kind bytes))) → k ≢ Archive
      → IfSome holds (λ bytes. file_report of_image of_archive name bytes ≡ of_image name bytes)
  unfolding file_report
  file_is_image k kind other =
      told_then (λ bytes. Follows (Ok k) (Ok (file_kind bytes))) holds kind (λ bytes is. rw (file_kind_is (file_kind bytes) k is) (by_other k bytes other))

-- the kind is refused only where a read failed
pub kind_is_told : (holds : Option (List ℕ)) (whole : List ℕ → Report) (refused : Report) (d : ElfError) → IfSome holds (λ bytes. Follows (Err d) (Ok (file_kind bytes)))
    → IfSome holds (λ bytes. stop_of d ≡ None → whole bytes ≡ refused)
kind_is_told holds whole refused d kind =
    told_then (λ bytes. Follows (Err d) (Ok (file_kind bytes))) holds kind (λ bytes is none. absurd (never (stated_error d (Ok (file_kind bytes)) is none)))
  where
    never : {k : FileKind} → ◌≡◌ {A = Result FileKind ElfError} (Ok k) (Err d) → ⊥
    never h = cc

-- ---- What is asked for

module _ (of_image of_archive : List ℕ → ℕ) (holds : Option (List ℕ)) where
  -- the kind takes eight bytes, and then what is asked for by it
  pub file_within : (r : Result Bool Stop) (now : Option (List ℕ)) (k : FileKind) (a b c : ℕ)
      → now ≡ holds
      → IfSome holds (λ bytes. Follows (Ok k) (Ok (file_kind bytes))) → b ≤ a + 8
      → OnOk r (IfSome now (λ bytes. c ≤ b + asks_by of_image of_archive k bytes))
      → OnOk r (IfSome holds (λ bytes. c ≤ a + file_asks of_image of_archive bytes))
  unfolding file_asks
  file_within (Err stop) now k a b c same kind h l = tt
  file_within (Ok x) now k a b c same kind h l =
      told_both (λ bytes. Follows (Ok k) (Ok (file_kind bytes)))
      (λ bytes. c ≤ b + asks_by of_image of_archive k bytes) holds kind
      (told_as (λ bytes. c ≤ b + asks_by of_image of_archive k bytes) holds now same l)
      (λ bytes is within. rw (file_kind_is (file_kind bytes) k is)
      (behind (asks_by of_image of_archive k bytes) within))
    where
      behind : (n : ℕ) → c ≤ b + n → c ≤ a + (8 + n)
      behind n within = omega (arith, h, within)

  -- or that is all
  pub unread_within : (r : Result Bool Stop) (a b : ℕ) → b ≤ a + 8
      → OnOk r (IfSome holds (λ bytes. b ≤ a + file_asks of_image of_archive bytes))
  unfolding file_asks
  unread_within (Err stop) a b h = tt
  unread_within (Ok x) a b h = told_by holds
      (λ bytes there. alone (asks_by of_image of_archive (file_kind bytes) bytes))
    where
      alone : (n : ℕ) → b ≤ a + (8 + n)
      alone n = omega (arith, h)
