-- What a call changes in the map from names to bytes, of a set of files that tells it. The map is a
-- function: None at a name that is not there.
use Rattle.std.specs.Prelude.{◌≡◌, ◌≢◌, ℕ, Bool, List, Option, IsTrue, IsSome, IsNone}

-- the map from names to bytes
abbrev pub Map : Type 0
Map = List ℕ → Option (List ℕ)

-- every name is as before
pub record SameNames (tells_old : Bool) (old : Map) (tells_new : Bool) (new : Map) : Type 0 where
  pub same_tells : tells_new ≡ tells_old
  pub same : (name : List ℕ) → new name ≡ old name

-- every name but one is as before
pub record SameOthers (tells_old : Bool) (old : Map) (tells_new : Bool) (new : Map)
    (name : List ℕ) : Type 0 where
  pub same_tells : tells_new ≡ tells_old
  pub same : (other : List ℕ) → other ≢ name → new other ≡ old other

-- a name that is there holds the bytes from now on, one that is not stays away, and every other
-- name is as before
pub record Closes (tells_old : Bool) (old : Map) (tells_new : Bool) (new : Map)
    (name : List ℕ) (bytes : Option (List ℕ)) : Type 0 where
  pub others : SameOthers tells_old old tells_new new name
  pub set : IsTrue tells_old → IsSome (old name) → new name ≡ bytes
  pub absent : IsNone (old name) → IsNone (new name)
