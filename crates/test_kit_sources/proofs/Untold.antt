-- What a write did to a device that does not tell its bytes: of what it did to one that may tell
-- them, the lengths.
use Rattle.std.proofs.Common.{◌≡◌, ◌⊎◌, inl, inr, ℕ, List, [], Option, None, Result, Ok, Err, refl}
use Rattle.std.specs.Prelude.{OnOk, OnErr}
use Rattle.elf_outside.specs.Writes.{WritesOver, TearsOver, Resizes, ResizesOrNot, Lengthens, LengthensByFront}

module _ {T E : Type 0} where
  pub none_read : (r : Result T E) → OnOk r (Unit {0})
  none_read (Ok x) = tt
  none_read (Err e) = tt

  pub writes_untold : (r : Result T E) (at : ℕ) (piece : List ℕ)
      → OnOk r (WritesOver None None at piece)
  writes_untold (Ok x) at piece = refl
  writes_untold (Err e) at piece = tt

  pub tears_untold : (r : Result T E) (at : ℕ) (piece : List ℕ)
      → OnErr r (TearsOver None None at piece)
  tears_untold (Ok x) at piece = tt
  tears_untold (Err e) at piece = ([], refl, tt)

  pub resizes_untold : (r : Result T E) (a b : ℕ) (old new : Option (List ℕ)) (n : ℕ)
      → OnOk r (Resizes a b old new n) → OnOk r (Resizes a b None None n)
  resizes_untold (Ok x) a b old new n is = record { len = is.len; bytes = refl }
  resizes_untold (Err e) a b old new n is = tt

  pub stays_untold : (r : Result T E) (a b : ℕ) (old new : Option (List ℕ)) (n : ℕ)
      → OnErr r (ResizesOrNot a b old new n) → OnErr r (ResizesOrNot a b None None n)
  stays_untold (Ok x) a b old new n is = tt
  stays_untold (Err e) a b old new n (inl same) = inl (same.0, refl)
  stays_untold (Err e) a b old new n (inr is) = inr (record { len = is.len; bytes = refl })

  pub lengthens_untold : (r : Result T E) (a b : ℕ) (old new : Option (List ℕ)) (piece : List ℕ)
      → OnOk r (Lengthens a b old new piece) → OnOk r (Lengthens a b None None piece)
  lengthens_untold (Ok x) a b old new piece is = record { len = is.len; bytes = refl }
  lengthens_untold (Err e) a b old new piece is = tt

  pub front_untold : (r : Result T E) (a b : ℕ) (old new : Option (List ℕ)) (piece : List ℕ)
      → OnErr r (LengthensByFront a b old new piece)
      → OnErr r (LengthensByFront a b None None piece)
  front_untold (Ok x) a b old new piece is = tt
  front_untold (Err e) a b old new piece is =
      (is.0, record { len = is.1.len; bytes = refl })
