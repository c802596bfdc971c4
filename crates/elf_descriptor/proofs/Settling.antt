-- Headers are copied over others, and each section becomes that of the image that was written.
use Rattle.std.proofs.Common.{◌≡◌, ◌∙◌, ℕ, ◌+◌, ◌<◌, List, [], ◌∷◌, ◌++◌, length, take, get_or, set, map, refl, sym, ap, subst, arith}
use Rattle.std.specs.Prelude.{All}
use Rattle.std.specs.List.{enumerate_from}
use Rattle.std.proofs.Math.ListN.{get_or-map}
use Rattle.std.proofs.lemmas.List.{length-map, length-set, take_more, take_more_set}
use Rattle.std.proofs.lemmas.List.Elements.{All-append, All-cons, All-nil}
use Rattle.elf_types.specs.declared.records.Shdr.{Shdr}
use Rattle.section_table.specs.Sections.{SectionView as Scn, reopened_scn}

-- ---- Items are copied over as many others

-- the first n of them are copied
pub record IsCopying {X : Type 0} (n : ℕ) (from to : List X) : Type 0 where
  pub long : length to ≡ length from
  pub copied : take n to ≡ take n from

pub item_copied : {X : Type 0} (n : ℕ) (from old new : List X) (x d : X) → n < length from
    → IsCopying n from old → x ≡ get_or from n d → new ≡ set old n x → IsCopying (n + 1) from new
item_copied {X} n from old new x d there is read put =
    let long = is.long in
    record {
      long = ap length put ∙ length-set old n x ∙ long;
      copied =
          ap (λ (l : List X). take (n + 1) l) put
          ∙ take_more_set old n x (omega (arith, there, long))
          ∙ ap (λ (l : List X). l ++ x ∷ []) is.copied
          ∙ ap (λ (y : X). take n from ++ y ∷ []) read
          ∙ sym (take_more from n d there);
    }

-- what holds of each that is copied
pub item_known : {X : Type 0} (P : X → Type 0) (n : ℕ) (from : List X) (x d : X) → n < length from
    → All P (take n from) → x ≡ get_or from n d → P x → All P (take (n + 1) from)
item_known {X} P n from x d there known read is =
    let here : P (get_or from n d) = subst P read is in
    subst (λ (l : List X). All P l) (sym (take_more from n d there))
    (All-append P (take n from) (get_or from n d ∷ []) known
    (All-cons P (get_or from n d) [] here (All-nil P)))

-- ---- The headers of sections

abbrev pub headers_in : List Scn → List Shdr
headers_in l = map (λ s. s.header) l

pub header_copied : (scns : List Scn) (n : ℕ) (x d : Scn) → x ≡ get_or scns n d
    → x.header ≡ get_or (headers_in scns) n d.header
header_copied scns n x d read =
    ap (λ (y : Scn). y.header) read ∙ sym (get_or-map (λ (y : Scn). y.header) scns n d)

pub headers_count : (scns : List Scn) → length (headers_in scns) ≡ length scns
headers_count scns = length-map scns (λ (y : Scn). y.header)

-- ---- The sections over the image that was written

rows_plain : {X Y : Type 0} (g : X → Y) (k : ℕ) (l : List X)
    → map (λ row. g row.1) (enumerate_from k l) ≡ map g l
rows_plain g k [] = refl
rows_plain {X} {Y} g k (x ∷ l) = ap (λ (m : List Y). g x ∷ m) (rows_plain g (k + 1) l)

module _ (size : ℕ) where
  abbrev pub reopened_rows : ℕ → Scn → Scn
  reopened_rows s x = reopened_scn size x

  pub reopened_plain : (scns : List Scn)
      → map (λ row. reopened_rows row.0 row.1) (enumerate_from 0 scns)
      ≡ map (reopened_scn size) scns
  reopened_plain scns = rows_plain (reopened_scn size) 0 scns
